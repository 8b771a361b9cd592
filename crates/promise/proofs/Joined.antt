-- Tests joined by `&&`, and tests that tell the same.
--     same                  two tests that tell the same
--     both both_is and_sym  two tests joined
--     never cond_both       two tests, the second asked where the first holds
--     all_four              four tests joined, each told by another
--     by_both by_four       a definition that goes by two or by four joined tests
use mathlib.Core.Path.{◌≡◌, refl, sym}
use mathlib.Core.Bool.{Bool, true, false, cond, ◌&&◌}
use native.Mathlib.Omega.{arith}

pub same : (s t : Bool) → (s ≡ true → t ≡ true) → (t ≡ true → s ≡ true) → s ≡ t
same true t f g = sym (f refl)
same false true f g = g refl
same false false f g = refl

pub both : (s t : Bool) → (s && t) ≡ true → (s ≡ true) × (t ≡ true)
both true t e = (refl, e)
both false t e = absurd (let z : ◌≡◌ {A = Prim.Native.Nat.ℕ} 0 1 = cc in omega arith)

pub both_is : {s t : Bool} → s ≡ true → t ≡ true → (s && t) ≡ true
both_is e f = rw (e, f) refl

pub and_sym : (s t : Bool) → (s && t) ≡ (t && s)
and_sym true true = refl
and_sym true false = refl
and_sym false true = refl
and_sym false false = refl

pub all_four : {s s' t t' u u' v v' : Bool} → s ≡ s' → t ≡ t' → u ≡ u' → v ≡ v' → (s && t && (u && v)) ≡ (s' && t' && (u' && v'))
all_four d e f g = λ i. d i && e i && (f i && g i)

module _ {A : Type 0} (P : A → Type 0) where
  pub by_both : (s t : Bool) (p q : A) → (s ≡ true → t ≡ true → P p) → (s ≡ false → P q) → (t ≡ false → P q) → P (cond (s && t) p q)
  by_both true true p q f g h = f refl refl
  by_both true false p q f g h = h refl
  by_both false t p q f g h = g refl

  pub by_four : (s t u v : Bool) (p q : A) → (s ≡ true → t ≡ true → u ≡ true → v ≡ true → P p) → (s ≡ false → P q) → (t ≡ false → P q) → (u ≡ false → P q) → (v ≡ false → P q)
      → P (cond (s && t && (u && v)) p q)
  by_four true true true true p q f g h k l = f refl refl refl refl
  by_four true true true false p q f g h k l = l refl
  by_four true true false v p q f g h k l = k refl
  by_four true false u v p q f g h k l = h refl
  by_four false t u v p q f g h k l = g refl

-- ---- two tests, the second asked where the first holds
pub never : {X : Type 0} → false ≡ true → X
never p = absurd (let z : ◌≡◌ {A = Prim.Native.Nat.ℕ} 0 1 = cc in omega arith)

pub cond_both : (a b : Bool) → cond a b false ≡ true → (a ≡ true) × (b ≡ true)
cond_both true b e = (refl, e)
cond_both false b e = never e
