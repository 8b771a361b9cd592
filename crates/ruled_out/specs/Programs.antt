-- Crates `encoder` (its stretches), `printed`, `script` and `tile_run`, on which the programs stand: wrong stretches, texts and operations.
use Rattle.std.specs.Prelude.{ℕ, suc, ◌+◌, ◌/◌, ◌%◌, ◌≡◌, true, cond, ◌&&◌, List, [], ◌∷◌, ◌++◌, leb, ltb, eqb, ℤ, pos, length, take, get_or, Some, None}
use Rattle.std.proofs.Common.{ap, arith}
use Rattle.promise.specs.Answers.{Written, kept}
use Rattle.promise.specs.Laid.{lay}
use Rattle.whole.specs.Twos.{wide}
use Rattle.words.specs.Geometries.{room}
use Rattle.clip.specs.declared.Pt.{Pt}
use Rattle.clip.specs.Domain.{is_coord}
use Rattle.encoder.specs.declared.GeomEncoder.{GeomEncoder}
use Rattle.encoder.specs.Adding.{point_at, added}
use Rattle.encoder.specs.declared.stretch.Stretch.{Stretch}
use Rattle.encoder.specs.Stretches.{point_in, is_plain, halted, run}
use Rattle.printed.specs.Decimal.{decimal_in, decimal}
use Rattle.printed.specs.Printed.{words_head, column, refused_text, shown}
use Rattle.printed.specs.Tiles.{hex_digit, ends_line}
use Rattle.layer.specs.State.{valid}
use Rattle.layer.specs.Calls.{Tag, into_layer, tag_bits, bits_of}
use Rattle.script.specs.declared.Value.TheVariants.{Sint}
use Rattle.script.specs.declared.Op.TheVariants.{Abandon}
use Rattle.script.specs.Script.{pair_at}
use Rattle.tile_run.specs.Hands.{Hand, tag_of, on_hand}
use Rattle.tile.specs.Tiles.{fresh_tile, lists as tileLists}
use Rattle.tile_run.specs.declared.performing.Work.{Work}
use Rattle.tile_run.specs.Operations.{Lists, lists, on_layer, performed}
use Rattle.ruled_out.specs.Inputs.{bit, item, after_two, lent, layer_of, before, now}

-- ---- stretch::add_stretch
-- one point more is said than was taken
pub one_too_many : ((n i : ℕ) (l : List ℤ) (s : GeomEncoder) (out : List ℕ) → run (suc n) l i s out ≡ cond (is_plain s (point_in l i) (length out))
    (run n l (i + 1) (added s (point_in l i) out).answer.values.state (added s (point_in l i) out).memory)
    (kept (halted s (i + 1)) out)) → ⊥
one_too_many h = let e : ◌≡◌ {A = ℕ} 0 1 = ap (λ (w : Written Stretch (List ℕ)). w.answer.reached) (h 0 0 [] (after_two 2) []) in omega arith

-- room for five words is enough
pub room_for_five : ((s : GeomEncoder) (p : Pt) (n : ℕ) → is_plain s p n ≡ (leb (s.used + 5) (room n) && is_coord p)) → ⊥
unfolding is_coord
room_for_five h = let e : ◌≡◌ {A = ℕ} 0 1 = ap bit (h (after_two 2) (point_at (pos 5) (pos 7)) 11) in omega arith

-- ---- printed::show_words, show_refused, show_tile
-- the least significant digit first
pub digits_reversed : ((k n : ℕ) → decimal_in (suc k) n ≡ cond (ltb n 10) ((48 + n) ∷ []) (((48 + n % 10) ∷ []) ++ decimal_in k (n / 10))) → ⊥
digits_reversed h = let e : ◌≡◌ {A = ℕ} 49 50 = ap (item 0) (h 19 12) in omega arith

-- `word N` for `words N`
pub other_head : words_head ≡ 119 ∷ 111 ∷ 114 ∷ 100 ∷ 32 ∷ 32 ∷ [] → ⊥
other_head h = let e : ◌≡◌ {A = ℕ} 115 32 = ap (item 4) h in omega arith

-- the refusal's number and the points exchanged
pub numbers_swapped : ((number points : ℕ) → refused_text number points ≡ refused_text points number) → ⊥
unfolding decimal
numbers_swapped h = let e : ◌≡◌ {A = ℕ} 53 49 = ap (item 8) (h 5 1) in omega arith

-- capital letters in hex
pub capital_hex : ((n : ℕ) → hex_digit n ≡ cond (ltb n 10) (48 + n) (55 + n)) → ⊥
capital_hex h = let e : ◌≡◌ {A = ℕ} 97 65 = h 10 in omega arith

-- 31 bytes to a line
pub line_of_31 : ((i n : ℕ) → ends_line i n ≡ cond (eqb (i % 31) 30) true (eqb (i + 1) n)) → ⊥
line_of_31 h = let e : ◌≡◌ {A = ℕ} 0 1 = ap bit (h 30 64) in omega arith

-- a text is begun though it is too short
pub half_shown : ((room : ℕ) (bytes text : List ℕ) → (shown room bytes text).memory ≡ take (length text) (lay 0 bytes text)) → ⊥
half_shown h = let e : ◌≡◌ {A = ℕ} 0 7 = ap (item 0) (h 2 (7 ∷ 8 ∷ []) (0 ∷ [])) in omega arith

-- the words without their line ends
pub no_line_end : ((w : ℕ) (ws : List ℕ) → column (w ∷ ws) ≡ decimal w ++ column ws) → ⊥
unfolding decimal
no_line_end h = let e : ◌≡◌ {A = ℕ} 2 1 = ap length (h 9 []) in omega arith

-- ---- script::read_op, and of tile_run hand::tag and performing::perform
-- the high half first
pub halves_swapped : ((ns : List ℕ) (at : ℕ) → pair_at ns at ≡ wide (get_or ns (at + 1) 0) (get_or ns at 0)) → ⊥
halves_swapped h = let e : ◌≡◌ {A = ℕ} 1 4294967296 = h (1 ∷ 0 ∷ []) 0 in omega arith

-- a sint is tagged as an int
pub sint_as_int : ((bytes key : List ℕ) (x : ℤ) → tag_of bytes key (Sint x) ≡ tag_bits 4 key (bits_of x)) → ⊥
sint_as_int h = let e : ◌≡◌ {A = ℕ} 6 4 = ap (λ (t : Tag). t.value.kind) (h [] [] (pos 1)) in omega arith

-- the features' figure of the layer at hand
abbrev at_hand : Hand → ℕ
at_hand None = 0
at_hand (Some s) = s.used.features

-- abandoning completes
pub abandon_completes : ((bytes ns : List ℕ) (w : Work) (m : Lists) → performed bytes ns Abandon w m ≡ on_layer w m into_layer) → ⊥
unfolding performed on_hand valid
abandon_completes h =
    let e : ◌≡◌ {A = ℕ} 0 11 = ap (λ w. at_hand w.answer.values.hand)
    (h [] [] (record { tile = fresh_tile 4096; hand = Some (layer_of now (Some before)) }) (lists lent (tileLists [] [])))
    in omega arith
