-- The answers for one number and for one point, from what the calls have told.
use Rattle.std.proofs.Common.{◌≡◌, Bool, true, false, cond, List, [], ◌∷◌, ℤ, sym, ap, ◌∙◌}
use lib.Ieee.{Float}
use Rattle.refusal.specs.declared.Refusal.TheVariants.{Coord}
use Rattle.refusal.specs.Said.{Said, accepted, refused}
use Rattle.refusal.proofs.Laws.{one_refusal, never_both}
use Rattle.clip.specs.declared.Pt.{Pt}
use Rattle.clip.specs.Domain.{within, is_coord}
use Rattle.affine.specs.declared.Affine.{Affine}
use Rattle.std.specs.Prelude.{Result, Ok, Err}
use Rattle.refusal.specs.declared.Refusal.{Refusal}
use Rattle.affine.specs.Grid.{beyond, whole_of, grid_of}
use Rattle.affine.specs.Mapping.{along, surveyed, said_mapped, mapped}

-- ---- an answer is known by what it says
one_point : (p q : Pt) → p ∷ [] ≡ q ∷ [] → p ≡ q
one_point p q e = cc

pub one_mapped : (r r' : Result Pt Refusal) → said_mapped r ≡ said_mapped r' → r ≡ r'
one_mapped (Ok p) (Ok q) e = ap Ok (one_point p q (ap (λ (s : Said (List Pt)). s.values) e))
one_mapped (Ok p) (Err r) e = absurd (never_both r e)
one_mapped (Err r) (Ok q) e = absurd (never_both r (sym e))
one_mapped (Err r) (Err r') e = ap Err (one_refusal r r' e)

-- ---- one number: its nearest whole number where that lies within the limit
pub on_grid : (x : Float) → within (whole_of x) ≡ true → whole_of x ≡ grid_of x
unfolding grid_of
on_grid x h = sym (ap (λ (b : Bool). cond b (whole_of x) beyond) h)

pub off_grid : (x : Float) → within (whole_of x) ≡ false → beyond ≡ grid_of x
unfolding grid_of
off_grid x h = sym (ap (λ (b : Bool). cond b (whole_of x) beyond) h)

-- ---- one point: its two numbers
pub point_is : (t : Affine) (x y u v : Float) (m n : ℤ) → u ≡ along t.a t.b t.c x y → v ≡ along t.d t.e t.f x y → m ≡ grid_of u → n ≡ grid_of v
    → record { x = m; y = n } ≡ surveyed t x y
point_is t x y u v m n i j p q =
    let k : m ≡ (surveyed t x y).x = p ∙ ap grid_of i in
    let l : n ≡ (surveyed t x y).y = q ∙ ap grid_of j in
    ap (λ (z : ℤ). record { x = z; y = n }) k ∙ ap (λ (z : ℤ). record { x = (surveyed t x y).x; y = z }) l

module _ (t : Affine) (x y : Float) (p : Pt) (q : Bool) (g : p ≡ surveyed t x y) (e : q ≡ is_coord p) where
  mapped_is : mapped t x y ≡ cond q (accepted (p ∷ [])) (refused Coord [])
  unfolding mapped
  mapped_is = ap (λ (z : Pt). cond (is_coord z) (accepted (z ∷ [])) (refused Coord [])) (sym g) ∙ ap (λ (b : Bool). cond b (accepted (p ∷ [])) (refused Coord [])) (sym e)

  pub is_at : q ≡ true → accepted (p ∷ []) ≡ mapped t x y
  is_at h = sym (mapped_is ∙ ap (λ (b : Bool). cond b (accepted (p ∷ [])) (refused Coord [])) h)

  pub is_refused : q ≡ false → refused Coord [] ≡ mapped t x y
  is_refused h = sym (mapped_is ∙ ap (λ (b : Bool). cond b (accepted (p ∷ [])) (refused Coord [])) h)
