-- The ids of a reading have one digit: the numbers of its vertices are some that are printed.
use mathlib.Core.Path.{◌≡◌, refl}
use mathlib.Core.Bool.{Bool, true, false, cond, ◌||◌}
use mathlib.Core.List.{List, [], ◌∷◌}
use Prim.Native.Nat.{ℕ, ◌<◌}
use native.Mathlib.Omega.{arith}
use borrow.Author.Tests.{lt-ltb, eqb-true}
use lib.Dec.{ltb, eqb}
use Rattle.words.specs.Commands.{is_id}
use Rattle.decoder.specs.Vertices.{Cursor, Vertex, traced, numbers}
use Rattle.decoder.specs.ReadingWords.{trace}
use Rattle.decoder.proofs.Ids.{Ids, read_ids}
use Rattle.printed.specs.Vertices.{digit_ids}

one_digit : (n : ℕ) → is_id n ≡ true → ltb n 10 ≡ true
one_digit n h = by (eqb n 1) (eqb n 2) (eqb n 7) (eqb-true n 1) (eqb-true n 2) (eqb-true n 7) h
  where
    by : (a b c : Bool) → (a ≡ true → n ≡ 1) → (b ≡ true → n ≡ 2) → (c ≡ true → n ≡ 7) → (a || b || c) ≡ true → ltb n 10 ≡ true
    by true b c p q r e = let k : n ≡ 1 = p refl in lt-ltb n 10 (omega arith)
    by false true c p q r e = let k : n ≡ 2 = q refl in lt-ltb n 10 (omega arith)
    by false false true p q r e = let k : n ≡ 7 = r refl in lt-ltb n 10 (omega arith)
    by false false false p q r e = let z : ◌≡◌ {A = ℕ} 0 1 = cc in absurd (omega arith)

digits : (vs : List Vertex) → Ids vs → digit_ids (numbers vs) ≡ true
digits [] p = refl
digits (v ∷ vs) (e, p) = rw (one_digit v.id e) (digits vs p)

pub read_digits : (ws : List ℕ) (vs : List Vertex) (c : Cursor) → trace ws ≡ traced vs c → digit_ids (numbers vs) ≡ true
read_digits ws vs c e = digits vs (read_ids ws vs c e)
