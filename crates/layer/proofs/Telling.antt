-- `num_features`, `num_tags` and `name_of` at each return of the functions that answer them.
use Prim.Native.Nat.{ℕ, ◌+◌, ◌≤◌, ◌<◌}
use mathlib.Core.Path.{◌≡◌, refl, ap}
use mathlib.Core.Bool.{Bool, true, false, not}
use mathlib.Core.List.{List}
use native.Mathlib.Omega.{arith}
use lib.ListN.{length, take, get_or}
use lib.Seq.{take-take, get_or-take}
use borrow.Author.Tests.{not-true}
use Rattle.refusal.specs.declared.Refusal.TheVariants.{State, Turn}
use Rattle.std.specs.Prelude.{Option, Some, None, Ok, Err}
use Rattle.promise.specs.Widened.{Wide}
use Rattle.records.specs.Records.{records_in}
use Rattle.layer.specs.declared.Figures.{Figures}
use Rattle.layer.specs.declared.Layer.{Layer}
use Rattle.layer.specs.Held.{mem, seen}
use Rattle.layer.specs.Answers.{said_counted, said_named}
use Rattle.layer.specs.State.{valid, records_ok}
use Rattle.layer.specs.Calls.{index_of, complete, num_features, num_tags, name_of}
use Rattle.layer.proofs.Fitting.{within}
use Rattle.layer.proofs.Standing.{answered, parts, valid_fit, open_at, open_parts}

complete_in : (f : Option Figures) (used : Figures) (ws : List ℕ) → records_ok f used ws ≡ true → complete f used ≤ used.features
complete_in None used ws h = omega arith
complete_in (Some o) used ws h = (within o used (open_parts (Some o) o used ws refl h).room).features

module _ (s : Layer) (ks vs ts fs : List ℕ) (t : Bool) (g : t ≡ valid (seen s (mem ks vs ts fs))) where
  pub count_state : not t ≡ true → said_counted (Err (record { refusal = State; kept = s })) ≡ num_features (seen s (mem ks vs ts fs))
  count_state h = rw (← g, not-true t h)

  pub tags_state : not t ≡ true → said_counted (Err (record { refusal = State; kept = s })) ≡ num_tags (seen s (mem ks vs ts fs))
  tags_state h = rw (← g, not-true t h)

  pub name_state : not t ≡ true → said_named (Err (record { refusal = State; kept = s })) ≡ name_of (seen s (mem ks vs ts fs))
  name_state h = rw (← g, not-true t h)

  module _ (h : not t ≡ false) where
    ok : valid (seen s (mem ks vs ts fs)) ≡ true
    ok = answered t (valid (seen s (mem ks vs ts fs))) g h

    pub name_is : said_named (Ok (record { start = 0; len = s.name })) ≡ name_of (seen s (mem ks vs ts fs))
    name_is = rw ok

    pub count_in : (n : ℕ) → n ≡ complete s.feature s.used → n ≤ length fs
    count_in n e = omega (arith, complete_in s.feature s.used (take s.used.features fs) (parts (seen s (mem ks vs ts fs)) ok).records, (valid_fit s ks vs ts fs ok).in_features)

    pub count_is : (n : ℕ) → n ≡ complete s.feature s.used → (f : Option ℕ) → f ≡ records_in 0 0 (take n fs) → (r : ℕ) → r ≡ index_of f 0 → said_counted (Ok r) ≡ num_features (seen s (mem ks vs ts fs))
    count_is n e f p r q =
        let k = take-take n s.used.features fs (omega (arith, complete_in s.feature s.used (take s.used.features fs) (parts (seen s (mem ks vs ts fs)) ok).records)) in
        rw (ok, ← e, k, ← p, ← q)

    pub tags_shut : s.feature ≡ None → said_counted (Err (record { refusal = Turn; kept = s })) ≡ num_tags (seen s (mem ks vs ts fs))
    tags_shut e = rw (ok, e)

    module _ (o : Figures) (e : s.feature ≡ Some o) where
      pub tags_in_lem : o.features + 4 < length fs
      tags_in_lem = omega (arith, (open_at s o ks vs ts fs ok e).six, (valid_fit s ks vs ts fs ok).in_features)

      pub tags_small : o.features + 4 < 4294967296
      tags_small = omega (arith, (open_at s o ks vs ts fs ok e).six, (valid_fit s ks vs ts fs ok).few_features)

      pub tags_is : (r : ℕ) → Wide (get_or fs (o.features + 4) 0) r → said_counted (Ok r) ≡ num_tags (seen s (mem ks vs ts fs))
      tags_is r w =
          rw (ok, e, get_or-take s.used.features fs (o.features + 4) 0 (omega (arith, (open_at s o ks vs ts fs ok e).six)))
          (ap (λ (n : ℕ). said_counted (Ok n)) w.same)
