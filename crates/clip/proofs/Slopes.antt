-- All the inequalities that demand 3 rests on, over plain whole numbers. Each is a sum of products of facts, which `omega` finds.
--     ahead as_far both_below both_above     a point at a share of the way
--     Steep steep not_both not_moved         a line that misses the box at an edge of x by rounding cannot do so at an edge of y
--     twice                                  the error of a point rounded twice
use mathlib.Core.Path.{◌≡◌, ap, subst}
use mathlib.Core.List.{List, [], ◌∷◌}
use mathlib.Core.Logic.{⊎_elim}
use native.Mathlib.Omega.{arith}
use lib.IntN.{ℤ, pos, neg_ℤ, ◌-ℤ◌, ◌*ℤ◌}
use lib.Signed.{◌≤ℤ◌, ◌<ℤ◌}
use Rattle.whole.proofs.Parts.{zarith}
use Rattle.whole.proofs.Laws.{prod, next, *-pos, *-cancel-≤, ≤-or-<, <-≤}
use Rattle.whole.proofs.Auto.{reads, ≤:, <:, ≡:, ≤!, <! }
use Rattle.clip.specs.Demand3.{Share, along}

-- twice z is at most d in size
pub record Small (d z : ℤ) : Type 0 where
  pub above : (pos 2 *ℤ z) ≤ℤ d
  pub below : neg_ℤ d ≤ℤ (pos 2 *ℤ z)

-- z is less than d in size
pub record Under (d z : ℤ) : Type 0 where
  pub above : z <ℤ d
  pub below : neg_ℤ d <ℤ z

-- ---- a share of the way
-- at a share k / d of the way to v one has come as far as a: then v is ahead, and at least as far
pub ahead : (a v : ℤ) {k d : ℤ} → Share k d → pos 0 <ℤ a → (d *ℤ a) ≤ℤ (k *ℤ v) → pos 0 <ℤ v
ahead a v {k} {d} s ha h = ⊎_elim (λ (g : v ≤ℤ pos 0). absurd (
    let ρ : List ℤ = a ∷ v ∷ k ∷ d ∷ [] in
    omega (arith, ≤: ρ h (search reads depth 30), <: ρ (*-pos s.some ha) (search reads depth 30), ≤: ρ (prod s.from g) (search reads depth 30)))) (λ g. g) (≤-or-< v (pos 0))

pub as_far : (a v : ℤ) {k d : ℤ} → Share k d → pos 0 <ℤ a → (d *ℤ a) ≤ℤ (k *ℤ v) → a ≤ℤ v
as_far a v {k} {d} s ha h =
    let ρ : List ℤ = a ∷ v ∷ k ∷ d ∷ [] in
    *-cancel-≤ d a v s.some
    (≤! ρ (search reads depth 30) (omega (arith, ≤: ρ h (search reads depth 30), ≤: ρ (prod s.to (<-≤ (ahead a v s ha h))) (search reads depth 30))))

-- a line whose ends are both below c has no point at or above it, and the same above
pub both_below : (c u v : ℤ) {k d : ℤ} → Share k d → (d *ℤ c) ≤ℤ along d k u v → u <ℤ c → v <ℤ c → ⊥
both_below c u v {k} {d} s h hu hv =
    let ρ : List ℤ = c ∷ u ∷ v ∷ k ∷ d ∷ [] in
    omega (
      arith,
      ≤: ρ h (search reads depth 30),
      <: ρ s.some (search reads depth 30),
      ≤: ρ (prod s.to (next hu)) (search reads depth 30),
      ≤: ρ (prod s.from (next hv)) (search reads depth 30),
    )

pub both_above : (c u v : ℤ) {k d : ℤ} → Share k d → along d k u v ≤ℤ (d *ℤ c) → c <ℤ u → c <ℤ v → ⊥
both_above c u v {k} {d} s h hu hv =
    let ρ : List ℤ = c ∷ u ∷ v ∷ k ∷ d ∷ [] in
    omega (
      arith,
      ≤: ρ h (search reads depth 30),
      <: ρ s.some (search reads depth 30),
      ≤: ρ (prod s.to (next hu)) (search reads depth 30),
      ≤: ρ (prod s.from (next hv)) (search reads depth 30),
    )

-- ---- a cut that failed
-- E is a beyond the one edge. The line from E, of direction (vx, vy), is at the edge still half a unit beyond the other one, of which E is b short. It has a point in the box
pub record Steep (a b vx vy : ℤ) : Type 0 where
  pub out : pos 0 <ℤ a
  pub also : pos 0 <ℤ b
  pub before : pos 0 <ℤ vx
  pub slope : (pos 2 *ℤ a *ℤ vy) ≤ℤ ((pos 2 *ℤ b -ℤ pos 1) *ℤ vx)

module _ (a b vx vy : ℤ) {n m : ℤ} (s : Share n m) (ha : pos 0 <ℤ a) (e : m *ℤ a ≡ n *ℤ vx) (h : (pos 2 *ℤ (n *ℤ vy)) ≤ℤ ((pos 2 *ℤ b -ℤ pos 1) *ℤ m)) where
  n_pos : pos 0 <ℤ n
  n_pos = ⊎_elim (λ (g : n ≤ℤ pos 0). absurd (
      let z : n ≡ pos 0 = omega (zarith, s) in
      let ρ : List ℤ = a ∷ vx ∷ n ∷ m ∷ [] in
      omega (arith, ≡: ρ e (search reads depth 30), ≡: ρ (ap (λ (k : ℤ). k *ℤ vx) z) (search reads depth 30), <: ρ (*-pos s.some ha) (search reads depth 30)))) (λ g. g) (≤-or-< n (pos 0))

  slope_is : (pos 2 *ℤ a *ℤ vy) ≤ℤ ((pos 2 *ℤ b -ℤ pos 1) *ℤ vx)
  slope_is =
      let ρ : List ℤ = a ∷ b ∷ vx ∷ vy ∷ n ∷ m ∷ [] in
      *-cancel-≤ n _ _ n_pos (≤! ρ (search reads depth 30) (omega (
        arith,
        ≤: ρ (prod (<-≤ ha) h) (search reads depth 30),
        ≡: ρ (ap (λ (k : ℤ). (pos 2 *ℤ b -ℤ pos 1) *ℤ k) e) (search reads depth 30),
      )))

  pub steep : {k d : ℤ} → Share k d → (d *ℤ a) ≤ℤ (k *ℤ vx) → (d *ℤ b) ≤ℤ (k *ℤ vy) → Steep a b vx vy
  steep {k} {d} t mx my = record {
    out = ha;
    also = ⊎_elim (λ (g : b ≤ℤ pos 0). absurd (
        let ρ : List ℤ = a ∷ b ∷ vx ∷ vy ∷ k ∷ d ∷ [] in
        omega (
          arith,
          <: ρ (*-pos t.some ha) (search reads depth 30),
          ≤: ρ (prod t.from slope_is) (search reads depth 30),
          ≤: ρ (prod (<-≤ ha) my) (search reads depth 30),
          ≤: ρ mx (search reads depth 30),
          ≤: ρ (prod g mx) (search reads depth 30),
        ))) (λ g. g) (≤-or-< b (pos 0));
    before = ahead a vx t ha mx;
    slope = slope_is;
  }

-- the same line cannot fail at both edges
pub not_both : {a b vx vy : ℤ} → Steep a b vx vy → Steep b a vy vx → ⊥
not_both {a} {b} {vx} {vy} f g =
    let ρ : List ℤ = a ∷ b ∷ vx ∷ vy ∷ [] in
    omega (arith, <: ρ f.before (search reads depth 30), <: ρ g.before (search reads depth 30), ≤: ρ f.slope (search reads depth 30), ≤: ρ g.slope (search reads depth 30))

-- nor can it when its other end was moved into the box between the two, by at most half a unit each way
pub not_moved : {a b vx vy wx wy : ℤ} {k d : ℤ} → Share k d → Steep a b vx vy → Steep b a wy wx → a ≤ℤ wx → b ≤ℤ wy → Small d (d *ℤ wx -ℤ k *ℤ vx) → Small d (d *ℤ wy -ℤ k *ℤ vy) → ⊥
not_moved {a} {b} {vx} {vy} {wx} {wy} {k} {d} s f g hx hy nx ny =
    let ρ : List ℤ = a ∷ b ∷ vx ∷ vy ∷ wx ∷ wy ∷ k ∷ d ∷ [] in
    let d0 = <-≤ s.some in
    omega (
      arith,
      <: ρ s.some (search reads depth 30),
      ≤: ρ (prod s.from f.slope) (search reads depth 30),
      ≤: ρ (prod d0 g.slope) (search reads depth 30),
      ≤: ρ (prod (<-≤ f.out) ny.above) (search reads depth 30),
      ≤: ρ (prod (next f.also) nx.below) (search reads depth 30),
      ≤: ρ nx.below (search reads depth 30),
      ≤: ρ (prod d0 hx) (search reads depth 30),
      ≤: ρ (prod d0 hy) (search reads depth 30),
    )

-- ---- two moves
same_number : (m u v : ℤ) → pos 0 <ℤ m → (pos 2 *ℤ (m *ℤ (u -ℤ v))) ≤ℤ m → u ≤ℤ v
same_number m u v hm h = ⊎_elim (λ g. g) (λ (g : v <ℤ u). absurd (
    let ρ : List ℤ = m ∷ u ∷ v ∷ [] in
    omega (arith, <: ρ hm (search reads depth 30), ≤: ρ h (search reads depth 30), ≤: ρ (prod (<-≤ hm) (next g)) (search reads depth 30)))) (≤-or-< u v)

-- g is near the point k / d of the way from e to f, and r near the point n / m of the way from e to g: r is near the line from e to f
module _ (e f g : ℤ) {k d m : ℤ} (s : Share k d) (hm : pos 0 <ℤ m) (h : Small d (d *ℤ (g -ℤ e) -ℤ k *ℤ (f -ℤ e))) where
  at_end : Under (m *ℤ d) (m *ℤ d *ℤ (g -ℤ e) -ℤ m *ℤ k *ℤ (f -ℤ e))
  at_end =
      let ρ : List ℤ = e ∷ f ∷ g ∷ k ∷ d ∷ m ∷ [] in
      let z = <: ρ (*-pos hm s.some) (search reads depth 30) in
      record {
        above = <! ρ (search reads depth 30) (omega (arith, ≤: ρ (prod (<-≤ hm) h.above) (search reads depth 30)));
        below = <! ρ (search reads depth 30) (omega (arith, ≤: ρ (prod (<-≤ hm) h.below) (search reads depth 30)));
      }

  short : (n r : ℤ) → pos 0 ≤ℤ n → n <ℤ m → Small m (m *ℤ (r -ℤ e) -ℤ n *ℤ (g -ℤ e)) → Under (m *ℤ d) (m *ℤ d *ℤ (r -ℤ e) -ℤ n *ℤ k *ℤ (f -ℤ e))
  short n r n0 l j =
      let ρ : List ℤ = e ∷ f ∷ g ∷ k ∷ d ∷ m ∷ n ∷ r ∷ [] in
      let d0 = <-≤ s.some in
      let z = <: ρ s.some (search reads depth 30) in
      let w = ≤: ρ (prod d0 (next l)) (search reads depth 30) in
      record {
        above = <! ρ (search reads depth 30) (omega (arith, ≤: ρ (prod d0 j.above) (search reads depth 30), ≤: ρ (prod n0 h.above) (search reads depth 30)));
        below = <! ρ (search reads depth 30) (omega (arith, ≤: ρ (prod d0 j.below) (search reads depth 30), ≤: ρ (prod n0 h.below) (search reads depth 30)));
      }

  pub twice : (n r : ℤ) → Share n m → Small m (m *ℤ (r -ℤ e) -ℤ n *ℤ (g -ℤ e)) → Under (m *ℤ d) (m *ℤ d *ℤ (r -ℤ e) -ℤ n *ℤ k *ℤ (f -ℤ e))
  twice n r t j = ⊎_elim (λ (l : m ≤ℤ n).
      let ρ : List ℤ = e ∷ g ∷ m ∷ n ∷ r ∷ [] in
      let nm : m ≡ n = omega (zarith, t) in
      let q = ≡: ρ (ap (λ (z : ℤ). z *ℤ (g -ℤ e)) nm) (search reads depth 30) in
      let u : g ≤ℤ r = same_number m g r hm (≤! ρ (search reads depth 30) (omega (arith, ≤: ρ j.below (search reads depth 30)))) in
      let v : r ≤ℤ g = same_number m r g hm (≤! ρ (search reads depth 30) (omega (arith, ≤: ρ j.above (search reads depth 30)))) in
      let gr : g ≡ r = omega zarith in
      subst (λ (z : ℤ). Under (m *ℤ d) (m *ℤ d *ℤ (r -ℤ e) -ℤ z *ℤ k *ℤ (f -ℤ e))) nm (
      subst (λ (z : ℤ). Under (m *ℤ d) (m *ℤ d *ℤ (z -ℤ e) -ℤ m *ℤ k *ℤ (f -ℤ e))) gr at_end)) (λ (l : n <ℤ m). short n r t.from l j) (≤-or-< m n)
