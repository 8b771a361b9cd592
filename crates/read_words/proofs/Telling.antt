-- What each way through `answer` tells, over plain lists: the text of the parts' answers, at the front of the lent text.
use mathlib.Core.Path.{◌≡◌, ◌∙◌, ap}
use mathlib.Core.Bool.{true}
use mathlib.Core.List.{List}
use Prim.Native.Nat.{ℕ, ◌+◌, ◌*◌, ◌≤◌}
use native.Mathlib.Omega.{arith}
use lib.IntN.{ℤ}
use lib.ListN.{length, take}
use lib.Seq.{length-take-le}
use Rattle.promise.specs.Answers.{Written, Gives}
use Rattle.promise.specs.Laid.{lay}
use Rattle.promise.proofs.Laying.{take_lay, length_lay}
use Rattle.refusal.specs.declared.Refusal.{Refusal}
use Rattle.refusal.specs.declared.Fault.{Fault}
use Rattle.refusal.specs.Refusals.{number_of}
use Rattle.refusal.specs.Said.{Said, accepted, refused, refused_at}
use Rattle.refusal.proofs.Laws.{never_zero}
use Rattle.decoder.specs.Vertices.{numbers}
use Rattle.decoder.specs.ReadingWords.{reading}
use Rattle.decoder.proofs.Traces.{numbers_length}
use Rattle.decoder.proofs.Readings.{IsRead, is_read}
use Rattle.printed.specs.Printed.{Told, shown, refused_room}
use Rattle.printed.specs.Faults.{fault_text}
use Rattle.printed.specs.Vertices.{digit_ids, vertices_text, vertices_room, vertices_shown}
use Rattle.printed.proofs.Columns.{told}
use Rattle.printed.proofs.Placing.{fault_short}
use Rattle.printed.proofs.Triples.{vertices_told}
use Rattle.read_words.specs.Program.{read_text, file_text}
use Rattle.read_words.proofs.Ids.{read_digits}

-- ---- what was read: three numbers a vertex in the list, with ids of one digit
module _ (ws : List ℕ) (out m : List ℤ) (v : ℕ) (g : Gives (reading ws out) (accepted v) m) where
  is : IsRead ws out v m
  is = is_read ws out v m g

  fits : 0 + length (numbers is.vs) ≤ length out
  fits = omega (arith, numbers_length is.vs, is.count, is.room)

  pub read_room : 3 * v ≤ length out
  read_room = is.room

  read_long : length m ≡ length out
  read_long = ap length is.memory ∙ length_lay 0 (numbers is.vs) out fits

  read_inside : 3 * v ≤ length m
  read_inside = omega (arith, read_long, is.room)

  numbers_digits : digit_ids (take (3 * v) m) ≡ true
  numbers_digits =
      let e : 3 * v ≡ 0 + length (numbers is.vs) = omega (arith, numbers_length is.vs, is.count) in
      let t : take (3 * v) m ≡ numbers is.vs =
      ap (take (3 * v)) is.memory ∙ ap (λ (k : ℕ). take k (lay 0 (numbers is.vs) out)) e ∙ take_lay 0 (numbers is.vs) out fits in
      ap digit_ids t ∙ read_digits ws is.vs is.end is.is

-- ---- the text by what the parts answered
read_refused : (w : Written (Said ℕ) (List ℤ)) (f : Fault) (m : List ℤ) → Gives w (refused_at f 0) m → read_text w ≡ fault_text (number_of f.refusal) f.place
read_refused w f m j = rw (← j.answer, never_zero f.refusal)

read_whole : (w : Written (Said ℕ) (List ℤ)) (v : ℕ) (m : List ℤ) → Gives w (accepted v) m → read_text w ≡ vertices_text (take (3 * v) m)
read_whole w v m j = rw (← j.answer, ← j.memory)

told_as : {bytes said : List ℕ} {r : ℕ} {l : List ℕ} → said ≡ bytes → Told bytes r l → Told said r l
told_as e t = rw e t

module _ (n : Written (Said ℕ) (List ℕ)) (out : List ℤ) (text : List ℕ) (r : ℕ) (l nums : List ℕ) where
  -- the numbers were refused
  pub no_numbers : (x : Refusal) → refused_room ≤ length text → Gives n (refused x 0) nums → Gives (shown refused_room (fault_text (number_of x) 0) text) r l → Told (file_text n out) r l
  no_numbers x h g k =
      let e : file_text n out ≡ fault_text (number_of x) 0 = rw (← g.answer, never_zero x) in
      told_as e (told refused_room (fault_text (number_of x) 0) text r l h (fault_short (number_of x) 0) k)

  module _ (k : ℕ) (g : Gives n (accepted k) nums) (m : List ℤ) where
    on : file_text n out ≡ read_text (reading (take k nums) out)
    on = rw (← g.answer, ← g.memory)

    -- the words were refused
    pub no_reading : (f : Fault) → refused_room ≤ length text → Gives (reading (take k nums) out) (refused_at f 0) m
        → Gives (shown refused_room (fault_text (number_of f.refusal) f.place) text) r l → Told (file_text n out) r l
    no_reading f h j q =
        told_as (on ∙ read_refused (reading (take k nums) out) f m j)
        (told refused_room (fault_text (number_of f.refusal) f.place) text r l h (fault_short (number_of f.refusal) f.place) q)

    -- the words were read
    pub all_vertices : (v : ℕ) → vertices_room out ≤ length text → Gives (reading (take k nums) out) (accepted v) m
        → Gives (vertices_shown (take (3 * v) m) text) r l → r ≤ length text → Told (file_text n out) r l
    all_vertices v h j q s =
        let i = read_inside (take k nums) out m v j in
        let w : vertices_room (take (3 * v) m) ≤ length text = omega (arith, length-take-le (3 * v) m i, read_long (take k nums) out m v j) in
        told_as (on ∙ read_whole (reading (take k nums) out) v m j) (vertices_told (take (3 * v) m) text r l (numbers_digits (take k nums) out m v j) w q s)
