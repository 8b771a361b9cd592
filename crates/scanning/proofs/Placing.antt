-- The loop over the bytes: what is left of them, from the state that those before lead to, gives the check's verdict.
use Prim.Native.Nat.{ℕ, suc, ◌+◌, ◌≤◌, ◌<◌}
use mathlib.Core.Path.{◌≡◌, sym, ap, ◌∙◌, subst}
use mathlib.Core.Bool.{Bool, true, false, not, cond, false≢true}
use mathlib.Core.List.{List, ◌∷◌}
use native.Mathlib.Numerals.{add-one}
use native.Mathlib.Omega.{arith}
use lib.ListN.{length, drop, get_or, drop_of_length-le}
use Rattle.promise.proofs.Steps.{next}
use Rattle.messages.specs.Tiles.{good, fault, Answers}
use Rattle.scan.specs.declared.State.{State}
use Rattle.scan.specs.Automaton.{turn, start}
use Rattle.scan.specs.Alive.{alive, Sound}
use Rattle.scan.specs.Verdicts.{is_start, check}
use Rattle.scan.specs.Parts.{part, end}
use Rattle.scan.proofs.Sound.{turn_sound}
use Rattle.scan.proofs.Parts.{whole_check}
use Rattle.scan.proofs.Places.{check_judges}
use Rattle.scanning.specs.Places.{place_in}

pub record Scanning (src : List ℕ) (s : State) (i : ℕ) : Type 0 where
  pub at : i ≤ length src
  pub sound : Sound s
  pub rest : end (part s i (drop i src)) ≡ check src

pub scanning_start : (src : List ℕ) → Scanning src start 0
scanning_start src = record { at = omega arith; sound = tt; rest = whole_check src }

-- the check's verdict is the tile's
told : (src : List ℕ) (i : ℕ) → i ≡ place_in src (check src) → Answers src (place_in src) i
told src i e = record { verdict = check src; judged = check_judges src; is = e }

-- ---- a byte
module _ (src : List ℕ) (s : State) (i : ℕ) (I : Scanning src s i) (h : i < length src) (t : State) (e : t ≡ turn s (get_or src i 0)) where
  pub turned_sound : Sound t
  turned_sound = subst Sound (sym e) (turn_sound s (get_or src i 0) I.sound)

  -- what is left begins with the byte
  byte_rest : end (part s i (get_or src i 0 ∷ drop (i + 1) src)) ≡ check src
  byte_rest = rw (next src i (i + 1) (omega arith) h) at I.rest

  module _ (r : Bool) (f : r ≡ alive t) where
    is_alive : alive (turn s (get_or src i 0)) ≡ r
    is_alive = ap alive (sym e) ∙ sym f

    pub scanning_turn : not r ≡ false → Scanning src t (i + 1)
    scanning_turn n = record { at = omega (arith, h); sound = turned_sound; rest = rw (add-one i, e) (by r n is_alive byte_rest) }
      where
        by : (b : Bool) → not b ≡ false → alive (turn s (get_or src i 0)) ≡ b → end (part s i (get_or src i 0 ∷ drop (i + 1) src)) ≡ check src → end (part (turn s (get_or src i 0)) (suc i) (drop (suc i) src)) ≡ check src
        by true n a g = rw (a, add-one i) at g
        by false n a g = absurd (false≢true (sym n))

    pub scanning_stops : not r ≡ true → Answers src (place_in src) i
    scanning_stops n = by r n is_alive byte_rest
      where
        by : (b : Bool) → not b ≡ true → alive (turn s (get_or src i 0)) ≡ b → end (part s i (get_or src i 0 ∷ drop (i + 1) src)) ≡ check src → Answers src (place_in src) i
        by true n a g = absurd (false≢true n)
        by false n a g = told src i (ap (place_in src) (rw a at g))

-- ---- the end of the bytes
module _ (src : List ℕ) (s : State) (i : ℕ) (I : Scanning src s i) (h : length src ≤ i) where
  all_read : i ≡ length src
  all_read = omega (arith, I.at)

  pub scanning_done : Answers src (place_in src) i
  scanning_done = by (is_start s) (rw (drop_of_length-le src h) at I.rest)
    where
      by : (r : Bool) → cond r good (fault i) ≡ check src → Answers src (place_in src) i
      by true e = told src i (all_read ∙ ap (place_in src) e)
      by false e = told src i (ap (place_in src) e)
