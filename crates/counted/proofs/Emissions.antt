-- One emission, exactly: what it adds to the counts, and the points that the next one is held against.
--     exact_cases              an emission by its cases, each with its tests
--     Ring                     the points of the part, as the definition and the state have them
--     emission_gains           one emission
use Rattle.std.specs.Prelude.{Option, Some, None}
use mathlib.Core.Path.{◌≡◌, refl, sym, ◌∙◌, ap, subst}
use mathlib.Core.Bool.{Bool, true, false, cond, not, ◌&&◌, ◌||◌}
use mathlib.Core.List.{List, []}
use Prim.Native.Nat.{ℕ, ◌+◌, ◌≤◌}
use native.Mathlib.Omega.{arith}
use borrow.Author.Tests.{eq-eqb, ne_eqb, le-leb, eqb-true}
use lib.Dec.{leb, eqb}
use Rattle.promise.proofs.Joined.{both}
use Rattle.clip.specs.declared.Pt.{Pt}
use Rattle.clip.specs.declared.BBox.{BBox}
use Rattle.encoder.specs.declared.GeomEncoder.{GeomEncoder}
use Rattle.encoder.specs.Points.{clamped, is_last, same_pt, last_between}
use Rattle.encoder.specs.Pushed.{command}
use Rattle.encoder.specs.Emitting.{Emission, taken_out, popped, pushed, skipped, emitted_at, emission}
use Rattle.encoder.specs.Adding.{counted, ended}
use Rattle.encoder.proofs.Boundaries.{same_yes}
use Rattle.encoder.proofs.Pushing.{out_count}
use Rattle.counted.specs.Losses.{one, is_out, before_next}

pub exact_cases : (P : Emission → Type 0) (s : GeomEncoder) (q : Pt) →
    (is_last s.pt1 q ≡ true → P (skipped s)) →
    (is_last s.pt1 q ≡ false → taken_out s q ≡ true → P (pushed (command s.kind s.count) (popped s) q)) →
    (is_last s.pt1 q ≡ false → taken_out s q ≡ false → P (pushed (command s.kind s.count) s q)) → P (emitted_at s q)
exact_cases P s q skip out push = at_last (is_last s.pt1 q) refl
  where
    at_out : is_last s.pt1 q ≡ false → (t : Bool) → taken_out s q ≡ t → P (pushed (command s.kind s.count) (cond t (popped s) s) q)
    at_out l true e = out l e
    at_out l false e = push l e

    at_last : (t : Bool) → is_last s.pt1 q ≡ t → P (cond t (skipped s) (pushed (command s.kind s.count) (cond (taken_out s q) (popped s) s) q))
    at_last true e = skip e
    at_last false e = at_out e (taken_out s q) refl

last_is : (m : Option Pt) (q : Pt) → is_last m q ≡ true → Some q ≡ m
last_is None q e = absurd (let z : ◌≡◌ {A = ℕ} 0 1 = cc in omega arith)
last_is (Some p) q e = ap Some (same_yes p q e)

-- ---- the points of a ring's part: none at its start, the last one alone, the last two
pub data Ring (s : GeomEncoder) (before last : Option Pt) : Type 0 where
  nothing : s.count ≡ 0 → before ≡ None → last ≡ None → Ring s before last
  single : s.count ≡ 1 → before ≡ None → last ≡ s.pt1 → Ring s before last
  several : 2 ≤ s.count → before ≡ s.pt0 → last ≡ s.pt1 → Ring s before last

pub ring_counted : (n m : ℕ) {s : GeomEncoder} {before last : Option Pt} → Ring s before last → Ring (counted n m s) before last
ring_counted n m (nothing c a i) = nothing c a i
ring_counted n m (single c a i) = single c a i
ring_counted n m (several c a i) = several c a i

pub ring_ended : (p : Pt) {s : GeomEncoder} {before last : Option Pt} → Ring s before last → Ring (ended s p) before last
ring_ended p (nothing c a i) = nothing c a i
ring_ended p (single c a i) = single c a i
ring_ended p (several c a i) = several c a i

-- what an emission of q does to them
record RingAfter (s : GeomEncoder) (q : Pt) (before last : Option Pt) (t : GeomEncoder) : Type 0 where
  pub out : t.tally.taken_out ≡ s.tally.taken_out + one (is_out before last q)
  pub ring : Ring t (before_next before last q) (Some q)

module _ (s : GeomEncoder) (q : Pt) where
  skip_ring : is_last s.pt1 q ≡ true → (before last : Option Pt) → Ring s before last → RingAfter s q before last (skipped s).next
  skip_ring e before last (nothing c a i) = record { out = rw (a, i) (omega arith); ring = single (rw c) (rw (a, i)) (last_is s.pt1 q e) }
  skip_ring e before last (single c a i) = record { out = rw (a, i, e) (omega arith); ring = single (rw c) (rw (a, i, e)) (last_is s.pt1 q e) }
  skip_ring e before last (several c a i) = record { out = rw (i, e) (omega arith); ring = several (rw (ne_eqb s.count 0 (λ z. omega arith)) c) (rw (a, i, e)) (last_is s.pt1 q e) }

  module _ (k : s.kind ≡ 3) (e : is_last s.pt1 q ≡ false) (cmd : List ℕ) where
    out_ring : taken_out s q ≡ true → (before last : Option Pt) → Ring s before last → RingAfter s q before last (pushed cmd (popped s) q).next
    out_ring o before last (nothing c a i) = absurd (let h = out_count s q o in omega arith)
    out_ring o before last (single c a i) = absurd (let h = out_count s q o in omega arith)
    out_ring o before last (several c a i) =
        let b : last_between s.pt0 s.pt1 q ≡ true = (both (eqb s.kind 3 && leb 2 s.count) (last_between s.pt0 s.pt1 q) o).1 in
        record { out = rw (a, i, e, b); ring = several (omega arith) (rw (a, i, e, b)) refl }

    push_ring : taken_out s q ≡ false → (before last : Option Pt) → Ring s before last → RingAfter s q before last (pushed cmd s q).next
    push_ring o before last (nothing c a i) = record { out = rw (a, i) (omega arith); ring = single (omega arith) (rw (a, i)) refl }
    push_ring o before last (single c a i) = record { out = rw (a, i, e) (omega arith); ring = several (omega arith) (rw (a, i, e)) refl }
    push_ring o before last (several c a i) =
        let b : last_between s.pt0 s.pt1 q ≡ false = rw (eq-eqb s.kind 3 k, le-leb 2 s.count c) at o in
        record { out = rw (a, i, e, b) (omega arith); ring = several (omega arith) (rw (a, i, e, b)) refl }

-- ---- one emission: the last point of all, and the points of a ring's part
pub record Held (s : GeomEncoder) (last before inner : Option Pt) : Type 0 where
  pub point : s.pt1 ≡ last
  pub ring : s.kind ≡ 3 → Ring s before inner

pub record Gained (s : GeomEncoder) (q : Pt) (last before inner : Option Pt) (t : GeomEncoder) : Type 0 where
  pub skips : t.tally.skipped ≡ s.tally.skipped + one (is_last last q)
  pub outs : s.kind ≡ 3 → t.tally.taken_out ≡ s.tally.taken_out + one (is_out before inner q)
  pub none : (s.kind ≡ 3 → ⊥) → t.tally.taken_out ≡ s.tally.taken_out
  pub held : Held t (Some q) (before_next before inner q) (Some q)
  pub kind : t.kind ≡ s.kind
  pub box : t.bbox ≡ s.bbox

only_rings : (s : GeomEncoder) (q : Pt) → taken_out s q ≡ true → s.kind ≡ 3
only_rings s q o = eqb-true s.kind 3 (both (eqb s.kind 3) (leb 2 s.count) (both (eqb s.kind 3 && leb 2 s.count) (last_between s.pt0 s.pt1 q) o).0).0

module _ (s : GeomEncoder) (q : Pt) (last before inner : Option Pt) (H : Held s last before inner) where
  told : (b : Bool) → is_last s.pt1 q ≡ b → is_last last q ≡ b
  told b e = rw (← H.point) e

  abbrev cmd : List ℕ
  cmd = command s.kind s.count

  at_gains : Gained s q last before inner (emitted_at s q).next
  at_gains = exact_cases (λ (e : Emission). Gained s q last before inner e.next) s q
      (λ e. record {
        skips = rw (told true e);
        outs = λ k. (skip_ring s q e before inner (H.ring k)).out;
        none = λ k. refl;
        held = record { point = sym (last_is s.pt1 q e); ring = λ k. (skip_ring s q e before inner (H.ring k)).ring };
        kind = refl;
        box = refl;
      })
      (λ e o. record {
        skips = rw (told false e) (omega arith);
        outs = λ k. (out_ring s q k e cmd o before inner (H.ring k)).out;
        none = λ k. absurd (k (only_rings s q o));
        held = record { point = refl; ring = λ k. (out_ring s q k e cmd o before inner (H.ring k)).ring };
        kind = refl;
        box = refl;
      })
      (λ e o. record {
        skips = rw (told false e) (omega arith);
        outs = λ k. (push_ring s q k e cmd o before inner (H.ring k)).out;
        none = λ k. refl;
        held = record { point = refl; ring = λ k. (push_ring s q k e cmd o before inner (H.ring k)).ring };
        kind = refl;
        box = refl;
      })

pub emission_gains : (s : GeomEncoder) (p : Pt) (last before inner : Option Pt) → Held s last before inner → Gained s (clamped s.bbox p) last before inner (emission s p).next
unfolding emission
emission_gains s p last before inner H = at_gains s (clamped s.bbox p) last before inner H
