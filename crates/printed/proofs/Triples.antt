-- Three numbers to a line: how long a line is, the loops over the vertices, and the lines behind their count.
use mathlib.Core.Path.{◌≡◌, refl, sym, ◌∙◌}
use mathlib.Core.Bool.{Bool, true, false, cond, not}
use mathlib.Core.List.{List, [], ◌∷◌, ◌++◌}
use Prim.Native.Nat.{ℕ, suc, ◌+◌, ◌*◌, ◌/◌, ◌<◌, ◌≤◌}
use native.Mathlib.Omega.{arith}
use borrow.Author.Tests.{ltb-true, le-leb, not-true, not-false}
use lib.IntN.{ℤ, pos, negsuc, nat_abs}
use lib.ListN.{length, drop, get_or, length-append, length-drop}
use lib.Seq.{drop-cons}
use lib.Signed.{◌≤ℤ◌, ◌<ℤ◌, lt_z}
use mir.Syntax.{w32}
use mir.Val.{SFits}
use Rattle.promise.specs.Answers.{Gives}
use Rattle.promise.proofs.Joined.{never, cond_both}
use Rattle.promise.specs.Puts.{Puts}
use Rattle.promise.proofs.Fronts.{puts_none, puts_long, puts_next}
use Rattle.promise.proofs.Laying.{lay_next}
use Rattle.whole.proofs.Parts.{zarith}
use Rattle.whole.proofs.Machine.{size_fits}
use Rattle.printed.specs.Lending.{appended}
use Rattle.printed.specs.Printed.{newline, space, shown, Told}
use Rattle.printed.specs.Losses.{vertices_head, headed}
use Rattle.printed.specs.Row.{signed_ended}
use Rattle.printed.specs.Vertices.{vertex_line, vertex_lines, vertices_text, is_digit, digit_ids, vertices_room, vertices_shown}
use Rattle.printed.proofs.Decimals.{ended_one, ended_ten}
use Rattle.printed.proofs.Columns.{front_shown, not_shown, told}
use Rattle.printed.proofs.Lines.{line_short}
use Rattle.printed.proofs.Pieces.{Pieces, pieces_turn, pieces_done}
use Rattle.printed.proofs.Signs.{signed_short}

-- ---- an id of one digit
pub below_digit : (z : ℤ) → z <ℤ pos 0 → false ≡ is_digit z
below_digit (pos n) h = absurd (omega zarith)
below_digit (negsuc n) h = refl

pub else_digit : (z : ℤ) → pos 0 ≤ℤ z → lt_z z (pos 10) ≡ is_digit z
else_digit (pos n) h = refl
else_digit (negsuc n) h = absurd (omega zarith)

digit_short : (z : ℤ) (end : ℕ) → is_digit z ≡ true → length (signed_ended z end) ≤ 2
unfolding signed_ended
digit_short (pos n) end e = omega (arith, ended_one n end (ltb-true n 10 e))
digit_short (negsuc n) end e = never e

-- ---- a coordinate
whole_short : (z : ℤ) (end : ℕ) → nat_abs z ≤ 2147483648 → length (signed_ended z end) ≤ 12
unfolding signed_ended
whole_short (pos n) end h = omega (arith, ended_ten n end (omega arith))
whole_short (negsuc n) end h = omega (arith, ended_ten (suc n) end (omega arith))

pub vertex_short : (id x y : ℤ) → is_digit id ≡ true → SFits w32 x → SFits w32 y → length (vertex_line id x y) ≤ 26
vertex_short id x y e f g =
    let a = digit_short id space e in
    let b = whole_short x space (omega (arith, (size_fits f).size)) in
    let c = whole_short y newline (omega (arith, (size_fits g).size)) in
    simp length-append (omega arith)

-- ---- a line is its three numbers, one behind the other
laid_next : (run more : List ℕ) (at r r' : ℕ) (text l l' : List ℕ) → at + length run ≤ length text
    → Gives (appended run at text) r l → Gives (appended more r l) r' l' → Gives (appended (run ++ more) at text) r' l'
laid_next run more at r r' text l l' h g k = record {
  answer = k.answer ∙ rw (g.answer, length-append run more) (omega arith);
  memory = k.memory ∙ rw (g.answer, g.memory) (lay_next at run more text h);
}

pub vertex_laid : (id x y a b c : ℤ) (at r1 r2 r3 : ℕ) (text l1 l2 l3 : List ℕ) → a ≡ id → b ≡ x → c ≡ y → at + 66 ≤ length text
    → Gives (appended (signed_ended a space) at text) r1 l1 → Gives (appended (signed_ended b space) r1 l1) r2 l2 → Gives (appended (signed_ended c newline) r2 l2) r3 l3
    → Gives (appended (vertex_line id x y) at text) r3 l3
vertex_laid id x y a b c at r1 r2 r3 text l1 l2 l3 d e f h g1 g2 g3 =
    let k1 : Gives (appended (signed_ended id space) at text) r1 l1 = rw d at g1 in
    let k2 : Gives (appended (signed_ended x space) r1 l1) r2 l2 = rw e at g2 in
    let k3 : Gives (appended (signed_ended y newline) r2 l2) r3 l3 = rw f at g3 in
    let s1 = signed_short id space in
    let s2 = signed_short x space in
    let two = laid_next (signed_ended id space) (signed_ended x space) at r1 r2 text l1 l2 (omega arith) k1 k2 in
    laid_next (signed_ended id space ++ signed_ended x space) (signed_ended y newline) at r2 r3 text l2 l3 (rw (length-append (signed_ended id space) (signed_ended x space)) (omega arith)) two k3

-- ---- the vertex at an index, and those behind it
three : (zs : List ℤ) (i : ℕ) → i < length zs / 3
    → drop (3 * i) zs ≡ get_or zs (3 * i) (pos 0) ∷ get_or zs (3 * i + 1) (pos 0) ∷ get_or zs (3 * i + 2) (pos 0) ∷ drop (3 * (i + 1)) zs
three zs i h =
    let a : 3 * i + 1 ≡ suc (3 * i) = omega arith in
    let b : 3 * i + 2 ≡ suc (suc (3 * i)) = omega arith in
    let c : 3 * (i + 1) ≡ suc (suc (suc (3 * i))) = omega arith in
    rw (a, b, c, drop-cons zs (3 * i) (pos 0) (omega arith), drop-cons zs (suc (3 * i)) (pos 0) (omega arith), drop-cons zs (suc (suc (3 * i))) (pos 0) (omega arith))

-- ---- the loop over the ids
pub record Digits (zs : List ℤ) (i : ℕ) : Type 0 where
  pub few : i ≤ length zs / 3
  pub rest : digit_ids zs ≡ digit_ids (drop (3 * i) zs)

pub digits_start : (zs : List ℤ) → Digits zs 0
digits_start zs = record { few = omega arith; rest = refl }

module _ {zs : List ℤ} {i : ℕ} (d : Digits zs i) (h : i < length zs / 3) (r : Bool) (e : r ≡ is_digit (get_or zs (3 * i) (pos 0))) where
  pub digits_turn : not r ≡ false → Digits zs (i + 1)
  digits_turn f = let g : is_digit (get_or zs (3 * i) (pos 0)) ≡ true = sym e ∙ not-false r f in record { few = omega arith; rest = d.rest ∙ rw (three zs i h, g) }

  pub digits_not : not r ≡ true → false ≡ digit_ids zs
  digits_not f = let g : is_digit (get_or zs (3 * i) (pos 0)) ≡ false = sym e ∙ not-true r f in sym (d.rest ∙ rw (three zs i h, g))

pub digits_done : {zs : List ℤ} {i : ℕ} → Digits zs i → length zs / 3 ≤ i → true ≡ digit_ids zs
digits_done {zs} {i} d h = sym (d.rest ∙ by (drop (3 * i) zs) (omega (arith, length-drop (3 * i) zs)))
  where
    by : (l : List ℤ) → length l ≤ 2 → digit_ids l ≡ true
    by [] k = refl
    by (a ∷ []) k = refl
    by (a ∷ b ∷ []) k = refl
    by (a ∷ b ∷ c ∷ l) k = absurd (omega arith)

-- ---- the loop over the lines: what is laid after i lines; what is to come are the lines of the rest, and their ids have one digit
pub record Lines (zs : List ℤ) (at : ℕ) (text₀ text : List ℕ) (next i : ℕ) : Type 0 where
  pub pieces : Pieces 26 (length zs / 3) at (vertex_lines zs) text₀ text next i (vertex_lines (drop (3 * i) zs))
  pub digits : digit_ids (drop (3 * i) zs) ≡ true

module _ {zs : List ℤ} {at : ℕ} {text₀ text : List ℕ} {next i : ℕ} (c : Lines zs at text₀ text next i) where
  pub lines_turn : (r : ℕ) (l : List ℕ) → i < length zs / 3 → SFits w32 (get_or zs (3 * i + 1) (pos 0)) → SFits w32 (get_or zs (3 * i + 2) (pos 0)) → length l ≡ length text
      → Gives (appended (vertex_line (get_or zs (3 * i) (pos 0)) (get_or zs (3 * i + 1) (pos 0)) (get_or zs (3 * i + 2) (pos 0))) next text) r l → Lines zs at text₀ l r (i + 1)
  lines_turn r l h f g m k =
      let d = cond_both (is_digit (get_or zs (3 * i) (pos 0))) (digit_ids (drop (3 * (i + 1)) zs)) (rw (three zs i h) at c.digits) in
      record {
        pieces = pieces_turn c.pieces _ (vertex_lines (drop (3 * (i + 1)) zs)) r l h (vertex_short _ _ _ d.0 f g) (rw (three zs i h)) m k;
        digits = d.1;
      }

  pub lines_end : length zs / 3 ≤ i → Gives (appended (vertex_lines zs) at text₀) next text
  lines_end h = pieces_done c.pieces (by (drop (3 * i) zs) (omega (arith, length-drop (3 * i) zs)))
    where
      by : (l : List ℤ) → length l ≤ 2 → vertex_lines l ≡ []
      by [] k = refl
      by (a ∷ []) k = refl
      by (a ∷ b ∷ []) k = refl
      by (a ∷ b ∷ c ∷ l) k = absurd (omega arith)

  pub lines_inside : next ≤ length text₀
  lines_inside = let p = c.pieces in omega (arith, p.place, p.short, p.few, p.room)

-- ---- the answer
pub vertices_not : (zs : List ℤ) (text : List ℕ) → length text < vertices_room zs → Gives (vertices_shown zs text) 0 text
unfolding vertices_shown
vertices_not zs text h = by (digit_ids zs) (not_shown (vertices_room zs) (vertices_text zs) text h)
  where
    by : (t : Bool) → Gives (shown (vertices_room zs) (vertices_text zs) text) 0 text → Gives (cond t (shown (vertices_room zs) (vertices_text zs) text) (record { answer = 0; memory = text })) 0 text
    by true g = g
    by false g = record { answer = refl; memory = refl }

pub vertices_no_digit : (zs : List ℤ) (text : List ℕ) → digit_ids zs ≡ false → Gives (vertices_shown zs text) 0 text
unfolding vertices_shown
vertices_no_digit zs text e = rw e (record { answer = refl; memory = refl })

module _ (text l1 : List ℕ) (r1 r2 : ℕ) (zs : List ℤ) (h : vertices_room zs ≤ length text) (g : Gives (appended (headed vertices_head (length zs / 3)) 0 text) r1 l1) (s : r2 ≤ length l1) where
  counted : Puts (headed vertices_head (length zs / 3)) text r1 l1
  counted = puts_next (puts_none text) (headed vertices_head (length zs / 3)) (omega (arith, line_short vertices_head (length zs / 3))) r1 l1 g

  pub vertices_inside : r2 ≤ length text
  vertices_inside = omega (arith, puts_long counted (omega (arith, line_short vertices_head (length zs / 3))))

  pub vertices_shown_lem : (l2 : List ℕ) → digit_ids zs ≡ true → Gives (appended (vertex_lines zs) r1 l1) r2 l2 → Gives (vertices_shown zs text) r2 l2
  unfolding vertices_shown
  vertices_shown_lem l2 e k =
      let i = vertices_inside in
      rw e (front_shown (vertices_room zs) h (puts_next counted (vertex_lines zs) (omega (arith, g.answer, k.answer)) r2 l2 k))

-- what is shown in a text that has the room is told
pub vertices_told : (zs : List ℤ) (text : List ℕ) (r : ℕ) (l : List ℕ) → digit_ids zs ≡ true → vertices_room zs ≤ length text
    → Gives (vertices_shown zs text) r l → r ≤ length text → Told (vertices_text zs) r l
unfolding vertices_shown
vertices_told zs text r l e h g s =
    let k : Gives (shown (vertices_room zs) (vertices_text zs) text) r l = rw e at g in
    let d = rw (le-leb (vertices_room zs) (length text) h) at k in
    let n = length (vertices_text zs) in
    let f : n ≤ length text = omega (arith, d.answer) in
    let p : Puts (vertices_text zs) text r l = record { count_is = d.answer; list_is = d.memory } in
    told n (vertices_text zs) text r l f (omega arith) (front_shown n f p)
