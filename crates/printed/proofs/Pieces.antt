-- A loop that lays a piece for each of n elements, of at most k bytes each, one behind the other: its invariant, and the laws of its start, its turn and
-- its end. Once for every such loop.
use mathlib.Core.Path.{◌≡◌, refl, sym, ◌∙◌}
use mathlib.Core.List.{List, [], ◌++◌, append_assoc, append-nil}
use Prim.Native.Nat.{ℕ, suc, ◌+◌, ◌*◌, ◌<◌, ◌≤◌}
use native.Mathlib.Numerals.{add-one}
use native.Mathlib.Nat.{mul-suc, mul-le-mul_left}
use native.Mathlib.Omega.{arith}
use lib.ListN.{length, length-append}
use Rattle.promise.specs.Answers.{Gives}
use Rattle.printed.specs.Lending.{appended}
use Rattle.promise.specs.Laid.{lay}
use Rattle.promise.proofs.Laying.{lay_nothing, lay_next}

-- the pieces of the first i elements are laid, from `at` on; what is still to come of the whole is `more`
pub record Pieces (k n at : ℕ) (whole text₀ text : List ℕ) (next i : ℕ) (more : List ℕ) : Type 0 where
  pub done : List ℕ
  pub few : i ≤ n
  pub room : at + k * n ≤ length text₀
  pub short : length done ≤ k * i
  pub place : next ≡ at + length done
  pub long : length text ≡ length text₀
  pub laid : text ≡ lay at done text₀
  pub rest : whole ≡ done ++ more

module _ {k n at : ℕ} {whole text₀ : List ℕ} where
  pub pieces_start : at + k * n ≤ length text₀ → Pieces k n at whole text₀ text₀ at 0 whole
  pieces_start h = record { done = []; few = omega arith; room = h; short = omega arith; place = omega arith; long = refl; laid = sym (lay_nothing at text₀); rest = refl }

  module _ {text : List ℕ} {next i : ℕ} {more : List ℕ} (c : Pieces k n at whole text₀ text next i more) where
    -- one piece more fits
    more_fits : i < n → k * i + k ≤ k * n
    more_fits h = let g : suc i ≤ n = omega arith in omega (arith, mul-suc k i, mul-le-mul_left k g)

    pub pieces_room : i < n → next + k ≤ length text
    pieces_room h = omega (arith, c.place, c.short, c.room, c.long, more_fits h)

    pub pieces_turn : (run later : List ℕ) (r : ℕ) (l : List ℕ) → i < n → length run ≤ k → more ≡ run ++ later → length l ≡ length text
        → Gives (appended run next text) r l → Pieces k n at whole text₀ l r (i + 1) later
    pieces_turn run later r l h s e m g =
        let fits : at + length c.done ≤ length text₀ = omega (arith, c.short, c.room, more_fits h) in
        record {
          done = c.done ++ run;
          few = omega arith;
          room = c.room;
          short = simp length-append (rw add-one (omega (arith, c.short, mul-suc k i)));
          place = g.answer ∙ rw c.place (simp length-append (omega arith));
          long = m ∙ c.long;
          laid = g.memory ∙ rw (c.place, c.laid) (lay_next at c.done run text₀ fits);
          rest = c.rest ∙ rw e (sym (append_assoc c.done run later));
        }

    pub pieces_done : more ≡ [] → Gives (appended whole at text₀) next text
    pieces_done z =
        let e : whole ≡ c.done = c.rest ∙ rw z (append-nil c.done) in
        record { answer = rw e c.place; memory = rw e c.laid }
