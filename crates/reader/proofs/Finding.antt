-- The first field with a key: as many turns as there are bytes are enough, and one that is found stands inside the bytes.
--     first_step first_end     from a place: by the field that stands there, or nothing where the bytes end
--     found_at                 what is known of a field that was found
use Prim.Native.Nat.{ℕ, zero, suc, ◌+◌, ◌-◌, ◌≤◌, ◌<◌}
use mathlib.Core.Path.{◌≡◌, refl, sym, ap, subst, ◌∙◌}
use mathlib.Core.Bool.{Bool, true, false, cond}
use mathlib.Core.List.{List}
use native.Mathlib.Omega.{arith}
use borrow.Author.Tests.{lt-ltb, le-ltb, eq-eqb, ne_eqb, eqb-true}
use lib.Dec.{ltb, eqb}
use lib.ListN.{length}
use Rattle.std.specs.Prelude.{Some, None, Ok, Err}
use Rattle.messages.specs.declared.key.Kind.{Kind}
use Rattle.messages.specs.declared.field.FieldAt.{FieldAt}
use Rattle.messages.specs.Fields.{NextField, field_at}
use Rattle.messages.proofs.Fields.{FieldEnds, field_ends}
use Rattle.reader.specs.declared.cause.Cause.TheVariants.{Broken}
use Rattle.reader.specs.Finding.{Found, or_later, first_by, first_of}

pub record AtKey (key at : ℕ) (src : List ℕ) (f : FieldAt) : Type 0 where
  pub same : f.key ≡ key
  pub behind : at < f.start
  pub ordered : f.start ≤ f.end
  pub inside : f.end ≤ length src

module _ (key : ℕ) {go on : FieldAt → Found} where
  later_same : (r : NextField) → ((f : FieldAt) → r ≡ Some f → go f ≡ on f) → or_later key r go ≡ or_later key r on
  later_same (Some f) h = ap (cond (eqb f.key key) (Ok (Some f))) (h f refl)
  later_same None h = refl

module _ (kind : Kind) (key : ℕ) (src : List ℕ) where
  -- ---- turns
  first_over : (turns at : ℕ) → length src ≤ at → first_by turns kind key at src ≡ Ok None
  unfolding first_by
  first_over zero at h = refl
  first_over (suc turns) at h = rw (le-ltb at (length src) h)

  first_turns : (t u at : ℕ) → length src ≤ at + t → length src ≤ at + u → first_by t kind key at src ≡ first_by u kind key at src
  unfolding first_by
  first_turns zero u at h k = sym (first_over u at (omega arith))
  first_turns (suc t) zero at h k = first_over (suc t) at (omega arith)
  first_turns (suc t) (suc u) at h k =
      ap (λ (x : Found). cond (ltb at (length src)) x (Ok None))
      (later_same key (field_at kind at src) (λ f e. let l = (field_ends kind e).later in first_turns t u f.end (omega arith) (omega arith)))

  pub first_step : (at : ℕ) → at < length src → first_of kind key at src ≡ or_later key (field_at kind at src) (λ f. first_of kind key f.end src)
  unfolding first_by first_of
  first_step at h = first_turns (length src) (suc (length src)) at (omega arith) (omega arith) ∙ rw (lt-ltb at (length src) h)

  pub first_end : (at : ℕ) → length src ≤ at → first_of kind key at src ≡ Ok None
  unfolding first_of
  first_end at h = first_over (length src) at h

  -- ---- the loop: what is found from the first place on is what is found from this one on
  module _ (start at : ℕ) (rest : first_of kind key start src ≡ first_of kind key at src) where
    pub none_left : length src ≤ at → Ok None ≡ first_of kind key start src
    none_left h = sym (rest ∙ first_end at h)

    module _ (h : at < length src) (r : NextField) (e : r ≡ field_at kind at src) where
      pub cannot_read : r ≡ None → Err Broken ≡ first_of kind key start src
      cannot_read g = sym (rest ∙ first_step at h ∙ ap (λ (x : NextField). or_later key x (λ f. first_of kind key f.end src)) (sym e ∙ g))

      module _ (f : FieldAt) (g : r ≡ Some f) where
        this_field : or_later key (Some f) (λ f. first_of kind key f.end src) ≡ first_of kind key start src
        this_field = sym (rest ∙ first_step at h ∙ ap (λ (x : NextField). or_later key x (λ f. first_of kind key f.end src)) (sym e ∙ g))

        pub found_here : f.key ≡ key → Ok (Some f) ≡ first_of kind key start src
        found_here k = ap (λ (b : Bool). cond b (Ok (Some f)) (first_of kind key f.end src)) (sym (eq-eqb f.key key k)) ∙ this_field

        pub goes_on : (f.key ≡ key → ⊥) → first_of kind key start src ≡ first_of kind key f.end src
        goes_on k = sym (ap (λ (b : Bool). cond b (Ok (Some f)) (first_of kind key f.end src)) (sym (ne_eqb f.key key k)) ∙ this_field)

        pub fewer_left : length src - f.end < length src - at
        fewer_left = omega (arith, (field_ends kind (sym e ∙ g)).later)

  -- ---- a field that was found
  module _ (at : ℕ) (f : FieldAt) where
    by_key : (g : FieldAt) → FieldEnds at src g → (go : FieldAt → Found) → (go g ≡ Ok (Some f) → AtKey key g.end src f) → (b : Bool) → eqb g.key key ≡ b → cond b (Ok (Some g)) (go g) ≡ Ok (Some f) → AtKey key at src f
    by_key g w go on true t e =
        let m : g ≡ f = cc in
        subst (AtKey key at src) m (record { same = eqb-true g.key key t; behind = w.behind; ordered = w.ordered; inside = w.inside })
    by_key g w go on false t e = let k = on e in record { same = k.same; behind = omega (arith, k.behind, w.later); ordered = k.ordered; inside = k.inside }

    by_field : (r : NextField) → field_at kind at src ≡ r → (go : FieldAt → Found) → ((g : FieldAt) → go g ≡ Ok (Some f) → AtKey key g.end src f) → or_later key r go ≡ Ok (Some f) → AtKey key at src f
    by_field (Some g) r go on e = by_key g (field_ends kind r) go (on g) (eqb g.key key) refl e
    by_field None r go on e = absurd (let z : ◌≡◌ {A = ℕ} 0 1 = cc in omega arith)

    by_place : (b : Bool) (x : Found) → (x ≡ Ok (Some f) → AtKey key at src f) → cond b x (Ok None) ≡ Ok (Some f) → AtKey key at src f
    by_place true x on e = on e
    by_place false x on e = absurd (let z : ◌≡◌ {A = ℕ} 0 1 = cc in omega arith)

  found_by : (turns at : ℕ) (f : FieldAt) → first_by turns kind key at src ≡ Ok (Some f) → AtKey key at src f
  unfolding first_by
  found_by zero at f e = absurd (let z : ◌≡◌ {A = ℕ} 0 1 = cc in omega arith)
  found_by (suc turns) at f e =
      by_place at f (ltb at (length src)) (or_later key (field_at kind at src) (λ g. first_by turns kind key g.end src))
      (by_field at f (field_at kind at src) refl (λ g. first_by turns kind key g.end src) (λ g. found_by turns g.end f))
      e

  pub found_at : {at : ℕ} {f : FieldAt} → first_of kind key at src ≡ Ok (Some f) → AtKey key at src f
  unfolding first_of
  found_at {at} {f} e = found_by (length src) at f e
