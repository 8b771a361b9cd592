-- Two numbers to a line: the loop over them, what is still to come of the lines, and the lines behind their count.
use mathlib.Core.Path.{◌≡◌, refl, ◌∙◌}
use mathlib.Core.List.{List, [], ◌∷◌, ◌++◌}
use Prim.Native.Nat.{ℕ, suc, ◌+◌, ◌*◌, ◌/◌, ◌<◌, ◌≤◌}
use native.Mathlib.Omega.{arith}
use lib.ListN.{length, drop, get_or, length-append, length-drop}
use lib.Seq.{drop-cons}
use Rattle.promise.specs.Answers.{Gives}
use Rattle.promise.specs.Laid.{lay}
use Rattle.promise.proofs.Fronts.{puts_start, puts_next}
use Rattle.promise.proofs.Laying.{lay_next}
use Rattle.printed.specs.Decimal.{ended}
use Rattle.printed.specs.Lending.{appended}
use Rattle.printed.specs.Printed.{newline, space, shown}
use Rattle.printed.specs.Pairs.{edges_head, pair_line, pair_lines, edges_text, edges_room}
use Rattle.printed.proofs.Decimals.{ended_short}
use Rattle.printed.proofs.Pieces.{Pieces}
use Rattle.printed.proofs.Columns.{front_shown}

pub pair_short : (e f : ℕ) → length (pair_line e f) ≤ 42
pair_short e f = simp length-append (omega (arith, simp length-append at (ended_short e space), simp length-append at (ended_short f newline)))

-- ---- a line is its two numbers, one behind the other
pub pair_laid : (e f e' f' at r2 r3 : ℕ) (text l2 l3 : List ℕ) → e' ≡ e → f' ≡ f → at + 42 ≤ length text
    → Gives (appended (ended e' space) at text) r2 l2 → Gives (appended (ended f' newline) r2 l2) r3 l3
    → Gives (appended (pair_line e f) at text) r3 l3
pair_laid e f e' f' at r2 r3 text l2 l3 d c h g k =
    let b : length (ended e space) ≤ 21 = ended_short e space in
    let g' : Gives (appended (ended e space) at text) r2 l2 = rw d at g in
    let k' : Gives (appended (ended f newline) r2 l2) r3 l3 = rw c at k in
    record {
      answer = k'.answer ∙ rw g'.answer (simp length-append (omega arith));
      memory = k'.memory ∙ rw (g'.answer, g'.memory) (lay_next at (ended e space) (ended f newline) text (omega arith));
    }

-- ---- the loop: what is laid after i lines; what is to come are the lines of the rest
abbrev pub Pairs : List ℕ → ℕ → List ℕ → List ℕ → ℕ → ℕ → Type 0
Pairs es at text₀ text next i = Pieces 42 (length es / 2) at (pair_lines es) text₀ text next i (pair_lines (drop (2 * i) es))

pub pairs_turn : (es : List ℕ) (i : ℕ) → i < length es / 2
    → pair_lines (drop (2 * i) es) ≡ pair_line (get_or es (2 * i) 0) (get_or es (2 * i + 1) 0) ++ pair_lines (drop (2 * (i + 1)) es)
pairs_turn es i h =
    let a : 2 * i + 1 ≡ suc (2 * i) = omega arith in
    let b : 2 * (i + 1) ≡ suc (suc (2 * i)) = omega arith in
    rw (a, b, drop-cons es (2 * i) 0 (omega arith), drop-cons es (suc (2 * i)) 0 (omega arith))

pub pairs_done : (es : List ℕ) (i : ℕ) → length es / 2 ≤ i → pair_lines (drop (2 * i) es) ≡ []
pairs_done es i h = by (drop (2 * i) es) (omega (arith, length-drop (2 * i) es))
  where
    by : (l : List ℕ) → length l ≤ 1 → pair_lines l ≡ []
    by [] k = refl
    by (e ∷ []) k = refl
    by (e ∷ f ∷ l) k = absurd (omega arith)

pairs_short : (es : List ℕ) → length (pair_lines es) ≤ 21 * length es
pairs_short [] = omega arith
pairs_short (e ∷ []) = omega arith
pairs_short (e ∷ f ∷ es) =
    simp length-append (omega (arith, pairs_short es, simp length-append at (ended_short e space), simp length-append at (ended_short f newline)))

-- ---- the answer
pub edges_short : (es : List ℕ) → length (edges_text es) ≤ edges_room es
edges_short es = simp length-append (omega (arith, simp length-append at (ended_short (length es / 2) newline), pairs_short es))

pub edges_shown : (text l1 l2 l3 : List ℕ) (r2 r3 : ℕ) (es : List ℕ) → edges_room es ≤ length text → l1 ≡ lay 0 edges_head text
    → Gives (appended (ended (length es / 2) newline) 6 l1) r2 l2
    → Gives (appended (pair_lines es) r2 l2) r3 l3 → Gives (shown (edges_room es) (edges_text es) text) r3 l3
edges_shown text l1 l2 l3 r2 r3 es h e g k =
    let a = ended_short (length es / 2) newline in
    let f1 = puts_start edges_head text l1 e in
    let f2 = puts_next f1 (ended (length es / 2) newline) (omega arith) r2 l2 g in
    front_shown (edges_room es) h (puts_next f2 (pair_lines es) (simp length-append (omega (arith, pairs_short es, simp length-append at a))) r3 l3 k)
