-- What a crossing is, and why there is none: `verdict` says which case of the definition answered, with the facts of that case.
use mathlib.Core.Path.{◌≡◌}
use mathlib.Core.List.{List, [], ◌∷◌}
use native.Mathlib.Omega.{arith}
use lib.IntN.{ℤ, pos, neg_ℤ, ◌+ℤ◌, ◌-ℤ◌, ◌*ℤ◌}
use lib.Signed.{◌≤ℤ◌, ◌<ℤ◌, le_z}
use Rattle.whole.proofs.Parts.{zarith, -parts}
use Rattle.whole.proofs.Laws.{diff<, diff}
use Rattle.whole.proofs.Machine.{le_yes, le_no}
use Rattle.whole.proofs.Auto.{reads, ring!, ≤:, <:, ≡:, ≤!, ≡! }
use Rattle.clip.specs.declared.Pt.{Pt}
use Rattle.clip.specs.Rounding.{Rounded}
use Rattle.clip.specs.Cutting.{Crossing, Missing, At, most, least, in_range, cross_in_order, cross_at_x}
use Rattle.clip.specs.Demand3.{Share}
use Rattle.whole.proofs.Cases.{by_lt}
use Rattle.promise.proofs.Joined.{by_both, by_four}
use Rattle.clip.proofs.Tests.{most_lt, lt_least}
use Rattle.clip.proofs.Roundings.{round_is}

-- r is at most half a unit from the height of the line at c, which is n / m of the way from p to q
pub record Nearest (c : ℤ) (p q : Pt) (r : ℤ) : Type 0 where
  pub n : ℤ
  pub m : ℤ
  pub share : Share n m
  pub across : m *ℤ (c -ℤ p.x) ≡ n *ℤ (q.x -ℤ p.x)
  pub above : (pos 2 *ℤ (m *ℤ (r -ℤ p.y) -ℤ n *ℤ (q.y -ℤ p.y))) ≤ℤ m
  pub below : neg_ℤ m ≤ℤ (pos 2 *ℤ (m *ℤ (r -ℤ p.y) -ℤ n *ℤ (q.y -ℤ p.y)))

pub data Verdict (c lo hi : ℤ) (p q : Pt) : Crossing → Type 0 where
  level : p.x ≡ q.x → Verdict c lo hi p q Missing
  left : c <ℤ p.x → c <ℤ q.x → Verdict c lo hi p q Missing
  right : p.x <ℤ c → q.x <ℤ c → Verdict c lo hi p q Missing
  under : p.y <ℤ lo → q.y <ℤ lo → Verdict c lo hi p q Missing
  over : hi <ℤ p.y → hi <ℤ q.y → Verdict c lo hi p q Missing
  lower : (r : ℤ) → Nearest c p q r → r <ℤ lo → Verdict c lo hi p q Missing
  upper : (r : ℤ) → Nearest c p q r → hi <ℤ r → Verdict c lo hi p q Missing
  good : (r : ℤ) → Nearest c p q r → lo ≤ℤ r → r ≤ℤ hi → Verdict c lo hi p q (At (record { x = c; y = r }))

nearest : (c : ℤ) (p q : Pt) (z : ℤ) → p.x <ℤ q.x → p.x ≤ℤ c → c ≤ℤ q.x → Rounded ((q.y -ℤ p.y) *ℤ (c -ℤ p.x)) (q.x -ℤ p.x) z → Nearest c p q (p.y +ℤ z)
nearest c p q z h f t g =
    let ρ : List ℤ = c ∷ p.x ∷ p.y ∷ q.x ∷ q.y ∷ z ∷ [] in
    record {
      n = c -ℤ p.x;
      m = q.x -ℤ p.x;
      share = record { from = diff f; to = omega (zarith, -parts c p.x, -parts q.x p.x); some = diff< h };
      across = ring! ρ (search reads depth 30) tt;
      above = ≤! ρ (search reads depth 30) (omega (arith, ≤: ρ g.upto (search reads depth 30)));
      below = ≤! ρ (search reads depth 30) (omega (arith, <: ρ g.above (search reads depth 30)));
    }

pub back : {c : ℤ} {p q : Pt} {r : ℤ} → Nearest c p q r → Nearest c q p r
back {c} {p} {q} {r} g =
    let ρ : List ℤ = c ∷ p.x ∷ p.y ∷ q.x ∷ q.y ∷ r ∷ g.n ∷ g.m ∷ [] in
    record {
      n = g.m -ℤ g.n;
      m = g.m;
      share = record { from = diff g.share.to; to = omega (zarith, g.share, -parts g.m g.n); some = g.share.some };
      across = ≡! ρ (search reads depth 30) (omega (arith, ≡: ρ g.across (search reads depth 30)));
      above = ≤! ρ (search reads depth 30) (omega (arith, ≤: ρ g.above (search reads depth 30)));
      below = ≤! ρ (search reads depth 30) (omega (arith, ≤: ρ g.below (search reads depth 30)));
    }

flip : {c lo hi : ℤ} {p q : Pt} {w : Crossing} → Verdict c lo hi p q w → Verdict c lo hi q p w
flip (level e) = level (omega zarith)
flip (left h k) = left k h
flip (right h k) = right k h
flip (under h k) = under k h
flip (over h k) = over k h
flip (lower r g h) = lower r (back g) h
flip (upper r g h) = upper r (back g) h
flip (good r g h k) = good r (back g) h k

verdict_ranged : (c lo hi : ℤ) (p q : Pt) (r : ℤ) → Nearest c p q r → Verdict c lo hi p q (in_range c lo hi r)
verdict_ranged c lo hi p q r g =
    by_both (Verdict c lo hi p q) (le_z lo r) (le_z r hi) _ _ (λ h k. good r g (le_yes h) (le_yes k)) (λ h. lower r g (le_no h)) (λ k. upper r g (le_no k))

verdict_ordered : (c lo hi : ℤ) (p q : Pt) → p.x <ℤ q.x → Verdict c lo hi p q (cross_in_order p q c lo hi)
verdict_ordered c lo hi p q h =
    by_four (Verdict c lo hi p q) (le_z p.x c) (le_z c q.x) (le_z lo (most p.y q.y)) (le_z (least p.y q.y) hi) _ _
    (λ f t u v. verdict_ranged c lo hi p q _ (nearest c p q _ h (le_yes f) (le_yes t) (round_is _ (diff< h))))
    (λ e. let l : c <ℤ p.x = le_no e in left l (omega zarith))
    (λ e. let l : q.x <ℤ c = le_no e in right (omega zarith) l)
    (λ e. let l = most_lt p.y q.y lo (le_no e) in under l.0 l.1)
    (λ e. let l = lt_least p.y q.y hi (le_no e) in over l.0 l.1)

pub verdict : (c lo hi : ℤ) (p q : Pt) → Verdict c lo hi p q (cross_at_x p q c lo hi)
unfolding cross_at_x
verdict c lo hi p q =
    by_lt (Verdict c lo hi p q) p.x q.x _ _ (λ h. verdict_ordered c lo hi p q h) (λ g.
    by_lt (Verdict c lo hi p q) q.x p.x _ _ (λ h. flip (verdict_ordered c lo hi q p h)) (λ h. level (omega zarith)))
