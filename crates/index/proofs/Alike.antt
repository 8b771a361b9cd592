-- Entries that are the same have the same number.
--     text_is same-text-hash same_value_hash
use Prim.Native.Nat.{ℕ, ◌%◌}
use mathlib.Core.Path.{◌≡◌, refl, ap}
use mathlib.Core.Bool.{Bool, true, false, cond, ◌&&◌}
use mathlib.Core.List.{List, [], ◌∷◌}
use native.Mathlib.Omega.{arith}
use lib.ListN.{length, take, drop}
use lib.Dec.{eqb}
use borrow.Author.Tests.{eqb-true}
use Rattle.table.specs.declared.Value.{Value}
use Rattle.table.specs.Texts.{inside, begins, same_text, text_of}
use Rattle.table.specs.Values.{is_zero, same_content, same_value}
use Rattle.promise.proofs.Joined.{both}
use Rattle.promise.proofs.Joined.{never, cond_both}
use Rattle.index.specs.Hashes.{hash_text, mixed, hash_value, hash_stored}

-- ---- texts
begins_take : (l key : List ℕ) → begins l key ≡ true → take (length key) l ≡ key
begins_take l [] e = refl
begins_take [] (b ∷ key) e = never e
begins_take (x ∷ l) (b ∷ key) e =
    let p = cond_both (eqb x b) (begins l key) e in
    rw (eqb-true x b p.0, begins_take l key p.1)

pub text_is : (ts : List ℕ) (start len : ℕ) (key : List ℕ) → same_text ts start len key ≡ true → text_of ts start len ≡ key
text_is ts start len key e =
    let p = cond_both (inside (length ts) start len) (cond (eqb len (length key)) (begins (drop start ts) key) false) e in
    let q = cond_both (eqb len (length key)) (begins (drop start ts) key) p.1 in
    rw (eqb-true len (length key) q.0) (begins_take (drop start ts) key q.1)

-- ---- values
zero_by : (kind low high : ℕ) (t u : Bool) → cond t (eqb (low % 2147483648) 0 && eqb high 0) (cond u (eqb low 0 && eqb (high % 2147483648) 0) false) ≡ true → (low % 2147483648 ≡ 0) × (high % 2147483648 ≡ 0)
zero_by kind low high true u e =
    let p = both (eqb (low % 2147483648) 0) (eqb high 0) e in
    (eqb-true (low % 2147483648) 0 p.0, omega (arith, eqb-true high 0 p.1))
zero_by kind low high false true e =
    let p = both (eqb low 0) (eqb (high % 2147483648) 0) e in
    (omega (arith, eqb-true low 0 p.0), eqb-true (high % 2147483648) 0 p.1)
zero_by kind low high false false e = never e

zero_halves : (kind low high : ℕ) → is_zero kind low high ≡ true → (low % 2147483648 ≡ 0) × (high % 2147483648 ≡ 0)
zero_halves kind low high e = zero_by kind low high (eqb kind 2) (eqb kind 3) e

content_by : (kind low high low₂ high₂ : ℕ) (t : Bool) → (eqb low low₂ && eqb high high₂) ≡ t → cond t true (is_zero kind low high && is_zero kind low₂ high₂) ≡ true → mixed kind low high ≡ mixed kind low₂ high₂
unfolding mixed
content_by kind low high low₂ high₂ true q e =
    let p = both (eqb low low₂) (eqb high high₂) q in
    rw (eqb-true low low₂ p.0, eqb-true high high₂ p.1)
content_by kind low high low₂ high₂ false q e =
    let p = both (is_zero kind low high) (is_zero kind low₂ high₂) e in
    let a = zero_halves kind low high p.0 in
    let b = zero_halves kind low₂ high₂ p.1 in
    rw (a.0, a.1, b.0, b.1)

value_by_lem : (ts : List ℕ) (kind low high low₂ high₂ : ℕ) (text : List ℕ) (t : Bool) → cond t (same_text ts low high text) (same_content kind low high low₂ high₂) ≡ true → cond t (hash_text (text_of ts low high)) (mixed kind low high) ≡ cond t (hash_text text) (mixed kind low₂ high₂)
value_by_lem ts kind low high low₂ high₂ text true e = let q : text_of ts low high ≡ text = text_is ts low high text e in ap (λ (x : List ℕ). hash_text x) q
value_by_lem ts kind low high low₂ high₂ text false e = content_by kind low high low₂ high₂ (eqb low low₂ && eqb high high₂) refl e

pub same_value_hash : (ts : List ℕ) (kind low high : ℕ) (v : Value) (text : List ℕ) → same_value ts kind low high v text ≡ true → hash_stored ts kind low high ≡ hash_value v text
same_value_hash ts kind low high v text e =
    let p = cond_both (eqb kind v.kind) (cond (eqb kind 1) (same_text ts low high text) (same_content kind low high v.low v.high)) e in
    let k : kind ≡ v.kind = eqb-true kind v.kind p.0 in
    rw (← k) (value_by_lem ts kind low high v.low v.high text (eqb kind 1) p.1)
