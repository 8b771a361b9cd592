-- A plain coordinate, within the limit and nearer than a half to what it steps to: that is its grid number, and a cast of it is defined.
use Rattle.std.proofs.Common.{◌≡◌, ℕ, suc, ◌≤◌, Bool, true, false, not, ◌&&◌, T, ℤ, pos, negsuc, nat_abs, sym, ap, ◌∙◌, subst, true≢false, arith, le→leb, lt→ltb, w32, to_z, of_z}
use lib.Ieee.{Float, nan, inf, fin, binary64, of_int, to_signed, in_signed, in_float}
use lib.Ieee.Back.{round_whole, positive_back, negative_back}
use lib.Ieee.Bits.{is_true}
use lib.Ieee.Casts.{to_signed_in}
use lib.Ieee.Fits.{and_l, and_r}
use Rattle.whole.proofs.Machine.{back}
use Rattle.clip.specs.Domain.{within}
use Rattle.affine.specs.declared.Affine.{Affine}
use Rattle.affine.specs.Grid.{whole_of, grid_of}
use Rattle.affine.specs.Mapping.{along, surveyed}
use Rattle.affine.specs.Facts.{stepped, is_near}
use Rattle.affine.proofs.Answers.{on_grid}
use Rattle.affine.proofs.Near.{near_is}
use Rattle.affine.proofs.Stepping.{Stepped, stepped_is}

-- a small whole number as a double may be cast back
cast : (z : ℤ) → nat_abs z ≤ 1073741824 → T (in_signed binary64 31 (of_int binary64 z)) × (to_signed 31 (of_int binary64 z) ≡ z)
unfolding in_float
cast (pos n) h = positive_back binary64 31 n (le→leb n 9007199254740992 (omega arith)) (omega arith)
cast (negsuc n) h = negative_back binary64 31 n (lt→ltb n 9007199254740992 (omega arith)) (omega arith)

-- and is the nearest to what lies nearer than a half
near : (s : Bool) (m : ℕ) (e : ℤ) (z : ℤ) → nat_abs z ≤ 1073741824 → T (is_near (fin s m e) (of_int binary64 z)) → whole_of (fin s m e) ≡ z
unfolding of_int
near s m e (pos n) h t = near_is s false m e (of_int binary64 (pos n)) n (round_whole binary64 false n (omega arith)) t
near s m e (negsuc n) h t = near_is s true m e (of_int binary64 (negsuc n)) (suc n) (round_whole binary64 true (suc n) (omega arith)) t

whole_is : (x : Float) (y : Float) (g : Stepped y) → T (within (whole_of x)) → T (is_near x y) → whole_of x ≡ g.number
unfolding whole_of
whole_is nan y g w t = absurd w
whole_is (inf s) y g w t = absurd w
whole_is (fin s m e) y g w t = near s m e g.number g.small (subst (λ (z : Float). T (is_near (fin s m e) z)) g.is t)

-- ---- what `map_plain` does with each coordinate
pub plain_is : (x : Float) → T (within (whole_of x)) → T (is_near x (stepped x)) → T (in_signed binary64 31 (stepped x)) × (to_signed 31 (stepped x) ≡ grid_of x)
plain_is x w t =
    let g = stepped_is x w in
    let c = cast g.number g.small in (
      subst (λ (z : Float). T (in_signed binary64 31 z)) (sym g.is) c.0,
      ap (to_signed 31) g.is ∙ c.1 ∙ sym (whole_is x (stepped x) g w t) ∙ on_grid x (is_true (within (whole_of x)) w),
    )

-- what the calls of a turn have told of a point (x, y): its two sums u and v, what they step to, s and w, and the four tests
pub record Tested (t : Affine) (x y u v s w : Float) (p q m n : Bool) : Type 0 where
  pub across : u ≡ along t.a t.b t.c x y
  pub upward : v ≡ along t.d t.e t.f x y
  pub step_across : s ≡ stepped u
  pub step_upward : w ≡ stepped v
  pub on_across : p ≡ within (whole_of u)
  pub on_upward : q ≡ within (whole_of v)
  pub near_across : m ≡ is_near u s
  pub near_upward : n ≡ is_near v w
  pub passed : not (p && q && (m && n)) ≡ false

module _ {t : Affine} {x y u v s w : Float} {p q m n : Bool} (h : Tested t x y u v s w p q m n) where
  four : T (p && q && (m && n))
  four = not_not (p && q && (m && n)) h.passed
    where
      not_not : (b : Bool) → not b ≡ false → T b
      not_not true e = tt
      not_not false e = absurd (true≢false e)

  one : (z r : Float) (a b : Bool) → r ≡ stepped z → a ≡ within (whole_of z) → b ≡ is_near z r → T a → T b → T (in_signed binary64 31 r) × (to_signed 31 r ≡ grid_of z)
  one z r a b e f g i j =
      subst (λ (k : Float). T (in_signed binary64 31 k) × (to_signed 31 k ≡ grid_of z)) (sym e)
      (plain_is z (subst T f i) (subst T (g ∙ ap (is_near z) e) j))

  first : T (in_signed binary64 31 s) × (to_signed 31 s ≡ grid_of u)
  first = one u s p m h.step_across h.on_across h.near_across (and_l p q (and_l (p && q) (m && n) four)) (and_l m n (and_r (p && q) (m && n) four))

  second : T (in_signed binary64 31 w) × (to_signed 31 w ≡ grid_of v)
  second = one v w q n h.step_upward h.on_upward h.near_upward (and_r p q (and_l (p && q) (m && n) four)) (and_r m n (and_r (p && q) (m && n) four))

  -- the casts of both are defined, and give the grid point's numbers, as the machine has them
  pub cast_across : T (in_signed binary64 31 s)
  cast_across = first.0

  pub cast_upward : T (in_signed binary64 31 w)
  cast_upward = second.0

  pub is_x : to_z w32 (of_z w32 (to_signed 31 s)) ≡ (surveyed t x y).x
  is_x = back {w = w32} (record { sfits = to_signed_in 31 s }) ∙ first.1 ∙ ap grid_of h.across

  pub is_y : to_z w32 (of_z w32 (to_signed 31 w)) ≡ (surveyed t x y).y
  is_y = back {w = w32} (record { sfits = to_signed_in 31 w }) ∙ second.1 ∙ ap grid_of h.upward
