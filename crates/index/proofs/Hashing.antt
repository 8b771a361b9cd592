-- `hash_text` at each turn of the loop of `hash_text`, and the other numbers at each return of the functions that compute them.
use Prim.Native.Nat.{ℕ, ◌+◌, ◌-◌, ◌*◌, ◌/◌, ◌%◌, ◌≤◌, ◌<◌, zero-le}
use mathlib.Core.Path.{◌≡◌, refl, sym, ap, ◌∙◌}
use mathlib.Core.Bool.{Bool, true, false, cond}
use mathlib.Core.List.{List}
use native.Mathlib.Omega.{arith}
use lib.ListN.{length, get_or, take, drop, drop_of_length-le, length-drop}
use lib.Seq.{take_all, take-nil}
use lib.Dec.{ltb}
use borrow.Author.Tests.{ltb-true, ltb-false, eq-eqb}
use Rattle.promise.specs.Widened.{Wide}
use Rattle.table.specs.Texts.{text_of}
use Rattle.promise.proofs.Steps.{next}
use Rattle.index.specs.Hashes.{hash_from, hash_text, mixed, hash_stored}
use Rattle.index.specs.Entries.{key_hash}
use Rattle.index.specs.Steps.{end_in}

-- ---- `hash_text`
pub record Inv (text : List ℕ) (acc i : ℕ) : Type 0 where
  pub at : i ≤ length text
  pub small : acc < 4294967296
  pub rest : hash_text text ≡ hash_from acc (drop i text)

pub start : (text : List ℕ) → Inv text 0 0
start text = record { at = zero-le; small = omega arith; rest = refl }

module _ (text : List ℕ) (acc i : ℕ) (I : Inv text acc i) where
  pub further : i < length text → Inv text ((acc * 16777619 + get_or text i 0) % 4294967296) (i + 1)
  further h =
      record {
        at = omega arith;
        small = omega arith;
        rest = rw (next text i (i + 1) (omega arith) h) at I.rest;
      }

  pub ends : length text ≤ i → acc ≡ hash_text text
  ends h = rw (I.rest, drop_of_length-le text {i = i} h)

-- ---- `hash_part`
pub beyond : (texts : List ℕ) (start len : ℕ) → length texts < start → 0 ≡ hash_text (text_of texts start len)
beyond texts start len h = rw (drop_of_length-le texts {i = start} (omega arith), take-nil)

end_by : (bytes start len : ℕ) (t : Bool) → ltb (bytes - start) len ≡ t → start ≤ bytes → (start ≤ cond t bytes (start + len)) × (cond t bytes (start + len) ≤ bytes)
end_by bytes start len true e h = (h, omega arith)
end_by bytes start len false e h = (omega arith, omega (arith, ltb-false))

pub ends_in : (bytes start len : ℕ) → start ≤ bytes → (start ≤ end_in bytes start len) × (end_in bytes start len ≤ bytes)
ends_in bytes start len h = end_by bytes start len (ltb (bytes - start) len) refl h

part_by : (texts : List ℕ) (start len : ℕ) (t : Bool) → ltb (length texts - start) len ≡ t → start ≤ length texts → take (cond t (length texts) (start + len) - start) (drop start texts) ≡ take len (drop start texts)
part_by texts start len true e h =
    let l = length-drop start texts in
    take_all (length texts - start) (drop start texts) (omega (arith, l)) ∙ sym (take_all len (drop start texts) (omega (arith, l, ltb-true (length texts - start) len e)))
part_by texts start len false e h = let n : start + len - start ≡ len = omega arith in rw n

pub part_is : (texts : List ℕ) (start len : ℕ) → start ≤ length texts → take (end_in (length texts) start len - start) (drop start texts) ≡ text_of texts start len
part_is texts start len h = part_by texts start len (ltb (length texts - start) len) refl h

module _ (texts : List ℕ) (start len : ℕ) (h : start ≤ length texts) (e : ℕ) (g : e ≡ end_in (length texts) start len) where
  pub part_from : start ≤ e
  part_from = rw g (ends_in (length texts) start len h).0

  pub part_to : e ≤ length texts
  part_to = rw g (ends_in (length texts) start len h).1

  pub part_hash : (r : ℕ) → r ≡ hash_text (take (e - start) (drop start texts)) → r ≡ hash_text (text_of texts start len)
  part_hash r f =
      let q : take (e - start) (drop start texts) ≡ text_of texts start len = rw g (part_is texts start len h) in
      f ∙ ap (λ (x : List ℕ). hash_text x) q

-- ---- `mix`
pub mixed_is : (kind low high k a b : ℕ) → Wide kind k → Wide (low % 2147483648) a → Wide (high % 2147483648) b → (k + a + b * 31) * 82952543 / 65536 ≡ mixed kind low high
unfolding mixed
mixed_is kind low high k a b x y z = rw (x.same, y.same, z.same)

-- ---- `hash_stored`
pub stored_text : (ts : List ℕ) (kind low high : ℕ) → kind ≡ 1 → (start len : ℕ) → Wide low start → Wide high len → (r : ℕ) → r ≡ hash_text (text_of ts start len) → r ≡ hash_stored ts kind low high
stored_text ts kind low high k start len a b r g = rw (eq-eqb _ _ k, ← a.same, ← b.same) g

-- ---- `build_keys`
pub key_hashed : (keys texts : List ℕ) (j start len : ℕ) → Wide (get_or keys (j * 2) 0) start → Wide (get_or keys (j * 2 + 1) 0) len → (h : ℕ) → h ≡ hash_text (text_of texts start len) → h ≡ key_hash keys texts j
key_hashed keys texts j start len a b h g = rw (← a.same, ← b.same) g
