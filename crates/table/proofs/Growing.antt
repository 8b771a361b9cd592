-- Entries that lie within so many bytes still do where there are more bytes, and so do more of them behind.
use Prim.Native.Nat.{ℕ, ◌+◌, ◌≤◌}
use mathlib.Core.Path.{◌≡◌, refl}
use mathlib.Core.Bool.{Bool, true, false}
use mathlib.Core.List.{List, [], ◌∷◌, ◌++◌}
use native.Mathlib.Omega.{arith}
use lib.Dec.{eqb}
use borrow.Author.Tests.{le-leb, leb-true}
use Rattle.promise.proofs.Joined.{never, cond_both}
use Rattle.table.specs.Texts.{inside}
use Rattle.table.specs.Keys.{keys_in}
use Rattle.table.specs.Values.{value_ok, values_in}

wider : (bytes more start len : ℕ) → bytes ≤ more → inside bytes start len ≡ true → inside more start len ≡ true
wider bytes more start len h e = le-leb (start + len) more (omega (arith, leb-true (start + len) bytes e))

module _ (bytes more : ℕ) (h : bytes ≤ more) where
  pub keys_more : (ks new : List ℕ) → keys_in bytes ks ≡ true → keys_in more new ≡ true → keys_in more (ks ++ new) ≡ true
  keys_more [] new e f = f
  keys_more (a ∷ []) new e f = never e
  keys_more (a ∷ b ∷ ks) new e f =
      let p = cond_both (inside bytes a b) (keys_in bytes ks) e in
      rw (wider bytes more a b h p.0) (keys_more ks new p.1 f)

  value_wider : (kind low high : ℕ) (t : Bool) → eqb kind 1 ≡ t → value_ok bytes kind low high ≡ true → value_ok more kind low high ≡ true
  value_wider kind low high true q e = rw q (wider bytes more low high h (rw q at e))
  value_wider kind low high false q e = rw q (rw q at e)

  pub values_more : (vs new : List ℕ) → values_in bytes vs ≡ true → values_in more new ≡ true → values_in more (vs ++ new) ≡ true
  values_more [] new e f = f
  values_more (a ∷ []) new e f = never e
  values_more (a ∷ b ∷ []) new e f = never e
  values_more (a ∷ b ∷ c ∷ vs) new e f =
      let p = cond_both (value_ok bytes a b c) (values_in bytes vs) e in
      rw (value_wider a b c (eqb a 1) refl p.0) (values_more vs new p.1 f)
