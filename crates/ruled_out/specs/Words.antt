-- Crate `words`: wrong command integers, parameter integers, kinds and rooms. Each law says that the definition is not what the wrong program answers.
use Rattle.std.specs.Prelude.{ℕ, suc, ◌+◌, ◌*◌, ◌/◌, ◌%◌, ◌≡◌, cond, ◌||◌, ◌&&◌, leb, eqb, ℤ, pos, negsuc, neg_ℤ, nat_abs, ◌-ℤ◌, ◌*ℤ◌}
use Rattle.std.proofs.Common.{ap, arith}
use Rattle.std.specs.Int.Signed.{non_neg}
use Rattle.refusal.specs.declared.Refusal.TheVariants.{Command as NoCommand, Room}
use Rattle.refusal.specs.Said.{Said, accepted, refused}
use Rattle.words.specs.declared.command.Command.TheVariants.{MoveTo, ClosePath}
use Rattle.words.specs.Commands.{id_of, command_word, max_count, encoded, is_id, IdCount, decoded}
use Rattle.words.specs.Params.{param, unparam}
use Rattle.words.specs.Geometries.{is_kind, max_words, room}
use Rattle.ruled_out.specs.Inputs.{bit, size}

-- ---- Command::number
-- MoveTo is 2
pub move_to_two : id_of MoveTo ≡ 2 → ⊥
move_to_two h = omega arith

-- ClosePath is 5
pub close_path_five : id_of ClosePath ≡ 5 → ⊥
close_path_five h = omega arith

-- ---- CommandInt::max_count
-- one count more
pub one_count_more : max_count ≡ 536870912 → ⊥
one_count_more h = omega arith

-- one count less
pub one_count_less : max_count ≡ 536870910 → ⊥
one_count_less h = omega arith

-- ---- CommandInt::encode
-- the count four times, not eight
pub four_times_count : ((id count : ℕ) → encoded id count ≡ cond (leb count max_count) (accepted (id + 4 * count)) (refused Room 0)) → ⊥
four_times_count h = let e : ◌≡◌ {A = ℕ} 9 5 = ap (λ (a : Said ℕ). a.values) (h 1 1) in omega arith

-- a count that is too large goes over the word's end
pub large_count_wraps : ((id count : ℕ) → encoded id count ≡ accepted (command_word id count % 4294967296)) → ⊥
large_count_wraps h = let e : ◌≡◌ {A = ℕ} 7 0 = ap (λ (a : Said ℕ). a.number) (h 1 536870912) in omega arith

-- a count that is too large is COMMAND
pub large_count_as_command : ((id count : ℕ) → encoded id count ≡ cond (leb count max_count) (accepted (command_word id count)) (refused NoCommand 0)) → ⊥
large_count_as_command h = let e : ◌≡◌ {A = ℕ} 7 8 = ap (λ (a : Said ℕ). a.number) (h 1 536870912) in omega arith

-- ---- CommandInt::decode
abbrev none : IdCount
none = record { id = 0; count = 0 }

-- the count shifted by two bits, not three
pub count_shifted_short : ((w : ℕ) → decoded w ≡ cond (is_id (w % 8)) (accepted (record { id = w % 8; count = w / 4 })) (refused NoCommand none)) → ⊥
count_shifted_short h = let e : ◌≡◌ {A = ℕ} 1 2 = ap (λ (a : Said IdCount). a.values.count) (h 9) in omega arith

-- an id of 3 is taken
pub id_three_taken : ((w : ℕ) → decoded w ≡ cond (is_id (w % 8) || eqb (w % 8) 3) (accepted (record { id = w % 8; count = w / 8 })) (refused NoCommand none)) → ⊥
id_three_taken h = let e : ◌≡◌ {A = ℕ} 8 0 = ap (λ (a : Said IdCount). a.number) (h 11) in omega arith

-- an unknown id is refused with its count
pub refused_with_its_count : ((w : ℕ) → (decoded w).values.count ≡ w / 8) → ⊥
refused_with_its_count h = let e : ◌≡◌ {A = ℕ} 0 1 = h 11 in omega arith

-- ---- ParamInt::encode
-- -2n below zero, so that n and -n have one word
pub sign_lost : ((n : ℤ) → param n ≡ nat_abs (cond (non_neg n) (pos 2 *ℤ n) (neg_ℤ (pos 2) *ℤ n -ℤ pos 0))) → ⊥
unfolding param
sign_lost h = let e : ◌≡◌ {A = ℕ} 1 2 = h (negsuc 0) in omega arith

-- odd above zero, even below
pub below_zero_even : ((n : ℤ) → param n ≡ cond (non_neg n) (suc (2 * nat_abs n)) (2 * nat_abs n)) → ⊥
unfolding param
below_zero_even h = let e : ◌≡◌ {A = ℕ} 0 1 = h (pos 0) in omega arith

-- ---- ParamInt::decode
-- an odd word is half of it
pub decoded_sign_lost : ((w : ℕ) → unparam w ≡ pos (w / 2)) → ⊥
unfolding unparam
decoded_sign_lost h = let e : ◌≡◌ {A = ℕ} 1 0 = ap size (h 1) in omega arith

-- an odd word is minus its half, and not one less
pub decoded_halves : ((w : ℕ) → unparam w ≡ cond (eqb (w % 2) 0) (pos (w / 2)) (neg_ℤ (pos (w / 2)))) → ⊥
unfolding unparam
decoded_halves h = let e : ◌≡◌ {A = ℕ} 2 1 = ap size (h 3) in omega arith

-- ---- Geometry::max_words
-- one word more
pub one_word_more : max_words ≡ 1048577 → ⊥
one_word_more h = omega arith

-- one word less
pub one_word_less : max_words ≡ 1048575 → ⊥
one_word_less h = omega arith

-- ---- Geometry::is_good
-- a kind of 4 is taken
pub kind_four : ((kind : ℕ) → is_kind kind ≡ (leb 1 kind && leb kind 4)) → ⊥
kind_four h = let e : ◌≡◌ {A = ℕ} 0 1 = ap bit (h 4) in omega arith

-- a kind of 0 is taken
pub kind_nought : ((kind : ℕ) → is_kind kind ≡ leb kind 3) → ⊥
kind_nought h = let e : ◌≡◌ {A = ℕ} 0 1 = ap bit (h 0) in omega arith

-- ---- Geometry::room
-- the room of the list, whatever the cap
pub room_of_the_list : ((n : ℕ) → room n ≡ n) → ⊥
room_of_the_list h = let e : ◌≡◌ {A = ℕ} 1048576 1048577 = h 1048577 in omega arith

-- the cap, whatever the list
pub room_of_the_cap : ((n : ℕ) → room n ≡ max_words) → ⊥
room_of_the_cap h = let e : ◌≡◌ {A = ℕ} 0 1048576 = h 0 in omega arith
