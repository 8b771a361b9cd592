-- What a command word with the words behind it asks for, by what the word says by itself and how many words there are.
use Prim.Native.Nat.{ℕ, ◌+◌, ◌-◌, ◌*◌, ◌/◌, ◌%◌, ◌<◌, ◌≤◌}
use mathlib.Core.Path.{◌≡◌, refl, sym, ◌∙◌, ap}
use mathlib.Core.Bool.{Bool, true, false, cond}
use mathlib.Core.List.{List}
use native.Mathlib.Omega.{arith}
use borrow.Author.Tests.{le-ltb, lt-ltb}
use lib.Dec.{eqb}
use lib.ListN.{length, get_or, drop, length-drop}
use Rattle.refusal.specs.declared.Refusal.{Refusal}
use Rattle.refusal.specs.declared.Refusal.TheVariants.{Command as NoCommand, Count, NoParams, CutParams}
use Rattle.refusal.specs.Said.{plain, placed}
use Rattle.words.specs.Commands.{is_id}
use Rattle.decoder.specs.declared.pen.Head.{Head}
use Rattle.decoder.specs.declared.pen.Head.TheVariants.{Draw as Drawing, Close as Closing, Miscounted, Unknown}
use Rattle.decoder.specs.declared.command.Asked.TheVariants.{Draw, Close}
use Rattle.decoder.specs.ReadingWords.{is_close, miscounted}
use Rattle.decoder.specs.Passing.{head_of, asked_of}
use Rattle.std.specs.Prelude.{Ok, Err}

unknown_by : (t m u : Bool) (i n : ℕ) → cond t (cond m Miscounted (cond u Closing (Drawing i n))) Unknown ≡ Unknown → t ≡ false
unknown_by false m u i n e = refl
unknown_by true true u i n e = let k : ◌≡◌ {A = ℕ} 0 1 = cc in absurd (omega arith)
unknown_by true false true i n e = let k : ◌≡◌ {A = ℕ} 0 1 = cc in absurd (omega arith)
unknown_by true false false i n e = let k : ◌≡◌ {A = ℕ} 0 1 = cc in absurd (omega arith)

miscounted_by : (t m u : Bool) (i n : ℕ) → cond t (cond m Miscounted (cond u Closing (Drawing i n))) Unknown ≡ Miscounted → (t ≡ true) × (m ≡ true)
miscounted_by false m u i n e = let k : ◌≡◌ {A = ℕ} 0 1 = cc in absurd (omega arith)
miscounted_by true true u i n e = (refl, refl)
miscounted_by true false true i n e = let k : ◌≡◌ {A = ℕ} 0 1 = cc in absurd (omega arith)
miscounted_by true false false i n e = let k : ◌≡◌ {A = ℕ} 0 1 = cc in absurd (omega arith)

closing_by : (t m u : Bool) (i n : ℕ) → cond t (cond m Miscounted (cond u Closing (Drawing i n))) Unknown ≡ Closing → (t ≡ true) × (m ≡ false) × (u ≡ true)
closing_by false m u i n e = let k : ◌≡◌ {A = ℕ} 0 1 = cc in absurd (omega arith)
closing_by true true u i n e = let k : ◌≡◌ {A = ℕ} 0 1 = cc in absurd (omega arith)
closing_by true false true i n e = (refl, refl, refl)
closing_by true false false i n e = let k : ◌≡◌ {A = ℕ} 0 1 = cc in absurd (omega arith)

drawing_by : (t m u : Bool) (i n id count : ℕ) → cond t (cond m Miscounted (cond u Closing (Drawing i n))) Unknown ≡ Drawing id count →
    (t ≡ true) × (m ≡ false) × (u ≡ false) × (i ≡ id) × (n ≡ count)
drawing_by false m u i n id count e = let k : ◌≡◌ {A = ℕ} 0 1 = cc in absurd (omega arith)
drawing_by true true u i n id count e = let k : ◌≡◌ {A = ℕ} 0 1 = cc in absurd (omega arith)
drawing_by true false true i n id count e = let k : ◌≡◌ {A = ℕ} 0 1 = cc in absurd (omega arith)
drawing_by true false false i n id count e = (refl, refl, refl, cc, cc)

cut_by : (at : ℕ) (b : Bool) → placed (cond b NoParams CutParams) at ≡ cond b (placed NoParams at) (placed CutParams at)
cut_by at true = refl
cut_by at false = refl

-- ---- each `return` of ask
module _ (at : ℕ) (ws : List ℕ) (h : at < length ws) (r : Head) (e : r ≡ head_of (get_or ws at 0)) where
  abbrev word : ℕ
  word = get_or ws at 0

  pub ask_unknown : r ≡ Unknown → Err (plain NoCommand) ≡ asked_of at (get_or ws at 0) (drop (at + 1) ws)
  ask_unknown f = rw (unknown_by (is_id (word % 8)) (miscounted word) (is_close word) (word % 8) (word / 8) (sym e ∙ f))

  pub ask_miscounted : r ≡ Miscounted → Err (plain Count) ≡ asked_of at (get_or ws at 0) (drop (at + 1) ws)
  ask_miscounted f = let (t, m) = miscounted_by (is_id (word % 8)) (miscounted word) (is_close word) (word % 8) (word / 8) (sym e ∙ f) in rw (t, m)

  pub ask_close : r ≡ Closing → Ok Close ≡ asked_of at (get_or ws at 0) (drop (at + 1) ws)
  ask_close f =
      let (t, m, u) = closing_by (is_id (word % 8)) (miscounted word) (is_close word) (word % 8) (word / 8) (sym e ∙ f) in
      rw (t, m, u, le-ltb (length (drop (at + 1) ws)) 0 (omega arith))

  module _ (id count pairs : ℕ) (f : r ≡ Drawing id count) (w : pairs ≡ count) where
    pub ask_cut : length ws - (at + 1) < 2 * pairs → (k : Refusal) → k ≡ cond (eqb (length ws - (at + 1)) 0) NoParams CutParams →
        Err (placed k at) ≡ asked_of at (get_or ws at 0) (drop (at + 1) ws)
    ask_cut s k j =
        let (t, m, u, i, n) = drawing_by (is_id (word % 8)) (miscounted word) (is_close word) (word % 8) (word / 8) id count (sym e ∙ f) in
        let short : length ws - (at + 1) < 2 * count = omega arith in
        rw (t, m, u, n, length-drop, lt-ltb (length ws - (at + 1)) (2 * count) short, j) (ap Err (cut_by at (eqb (length ws - (at + 1)) 0)))

    pub ask_draw : 2 * pairs ≤ length ws - (at + 1) → Ok (Draw id pairs) ≡ asked_of at (get_or ws at 0) (drop (at + 1) ws)
    ask_draw s =
        let (t, m, u, i, n) = drawing_by (is_id (word % 8)) (miscounted word) (is_close word) (word % 8) (word / 8) id count (sym e ∙ f) in
        let k : 2 * count ≤ length ws - (at + 1) = omega arith in
        rw (t, m, u, i, n, w, length-drop, le-ltb (length ws - (at + 1)) (2 * count) k)
