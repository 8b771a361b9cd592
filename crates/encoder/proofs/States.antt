-- STATE as facts, and what they give the calls; tests that a call answered.
use Rattle.std.specs.Prelude.{None}
use mathlib.Core.Path.{◌≡◌, refl}
use mathlib.Core.Bool.{Bool, true, false, not, ◌&&◌, ◌||◌}
use Prim.Native.Nat.{ℕ, ◌+◌, ◌/◌}
use native.Mathlib.Omega.{arith}
use borrow.Author.Tests.{leb-true, ltb-true, eqb-true, not-true, not-false}
use lib.Dec.{leb, ltb, eqb}
use Rattle.promise.proofs.Cases.{told_yes, told_no}
use Rattle.promise.proofs.Joined.{both}
use Rattle.clip.specs.Domain.{is_good}
use Rattle.words.specs.Geometries.{is_kind, max_words, room}
use Rattle.words.proofs.Rooms.{room_cap}
use Rattle.encoder.specs.declared.GeomEncoder.{GeomEncoder}
use Rattle.encoder.specs.Points.{in_limit, in_limits}
use Rattle.encoder.specs.Figures.{figures_fit}
use Rattle.encoder.specs.States.{fresh, valid, Valid}
use Rattle.encoder.specs.Tallies.{untouched, balanced}
use Rattle.encoder.specs.declared.tally.Tally.{Tally}
use Rattle.clip.specs.declared.BBox.{BBox}
use Rattle.encoder.specs.Adding.{counted}
use Rattle.encoder.specs.Planning.{Ready}

-- what `if !f(..)` tells of a test b that f answers
pub yes_of : (t b : Bool) → t ≡ b → not t ≡ false → b ≡ true
yes_of t b e h = told_yes t b e (not-false t h)

pub no_of : (t b : Bool) → t ≡ b → not t ≡ true → b ≡ false
no_of t b e h = told_no t b e (not-true t h)

-- ---- the rules of STATE
either : (a b : Bool) → (a || b) ≡ true → (a ≡ true → ⊥) → b ≡ true
either true b e n = absurd (n refl)
either false b e n = e

pub valid_facts : (s : GeomEncoder) (n : ℕ) → valid s n ≡ true → Valid s n
unfolding valid
valid_facts s n e =
    let fits = leb s.used (room n) in
    let counts = leb s.count (s.used / 2 + 1) in
    let places = eqb s.count 0 || ltb s.cmd_offset s.used in
    let (x, even) = both (fits && counts && places && is_kind s.kind && is_good s.bbox && in_limits s.xy_end s.pt0 s.pt1) (balanced s.tally) e in
    let (a, points) = both (fits && counts && places && is_kind s.kind && is_good s.bbox) (in_limit s.xy_end && in_limit s.pt0 && in_limit s.pt1) x in
    let (b, good) = both (fits && counts && places && is_kind s.kind) (is_good s.bbox) a in
    let (c, kind) = both (fits && counts && places) (is_kind s.kind) b in
    let (d, place) = both (fits && counts) places c in
    let (f, count) = both fits counts d in
    let (g, at1) = both (in_limit s.xy_end && in_limit s.pt0) (in_limit s.pt1) points in
    let (end, at0) = both (in_limit s.xy_end) (in_limit s.pt0) g in
    record {
      fits = leb-true s.used (room n) f;
      counted = leb-true s.count (s.used / 2 + 1) count;
      placed = λ z. ltb-true s.cmd_offset s.used (either (eqb s.count 0) (ltb s.cmd_offset s.used) place (λ t. z (eqb-true s.count 0 t)));
      kind = kind;
      good = good;
      end = end;
      at0 = at0;
      at1 = at1;
      balanced = leb-true (s.tally.skipped + s.tally.taken_out) (s.tally.taken + s.tally.boundary) even;
    }

-- the rules joined as the code asks them
pub rules_joined : (s : GeomEncoder) (n : ℕ) (f k b l e : Bool) → f ≡ figures_fit s.used s.count s.cmd_offset n → k ≡ is_kind s.kind → b ≡ is_good s.bbox →
    l ≡ in_limits s.xy_end s.pt0 s.pt1 → e ≡ balanced s.tally → (f && k && b && l && e) ≡ valid s n
unfolding valid
rules_joined s n f k b l e i j g h m = rw (i, j, g, h, m)

-- what planning asks
pub valid_ready : {s : GeomEncoder} {n : ℕ} → Valid s n → Ready max_words s
valid_ready {s} {n} v = record { few = omega (arith, v.fits, room_cap n); counted = v.counted; good = v.good; at0 = v.at0; at1 = v.at1 }

-- a point that is counted changes nothing of it
pub counted_ready : (n m : ℕ) {k : ℕ} {s : GeomEncoder} → Ready k s → Ready k (counted n m s)
counted_ready n m R = record { few = R.few; counted = R.counted; good = R.good; at0 = R.at0; at1 = R.at1 }
