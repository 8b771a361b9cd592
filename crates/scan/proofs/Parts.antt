-- However a tile is divided, its parts give what the whole gives.
use Prim.Native.Nat.{ℕ, suc, ◌+◌}
use mathlib.Core.Path.{◌≡◌, refl, sym, ap, ◌∙◌}
use mathlib.Core.Logic.{◌↔◌}
use mathlib.Core.Bool.{Bool, true, false, cond}
use mathlib.Core.List.{List, [], ◌∷◌, ◌++◌}
use native.Mathlib.Omega.{arith}
use Rattle.scan.specs.declared.State.{State}
use Rattle.messages.specs.Tiles.{Verdict, good, fault}
use Rattle.scan.specs.Automaton.{turn, start}
use Rattle.scan.specs.Alive.{alive, Sound}
use Rattle.scan.specs.Verdicts.{is_start, later, scan, check}
use Rattle.scan.specs.Parts.{Part, taken, refused, part, next, end, parts, whole}
use Rattle.scan.proofs.Needs.{finished_alive}
use Rattle.scan.proofs.Fills.{Finish, alive_finished}

pub part_on : (s : State) (seen : ℕ) (p q : List ℕ) → part s seen (p ++ q) ≡ next (part s seen p) q
part_on s seen [] q = refl
part_on s seen (b ∷ p) q = by (alive (turn s b)) (part_on (turn s b) (suc seen) p q)
  where
    by : (t : Bool) → part (turn s b) (suc seen) (p ++ q) ≡ next (part (turn s b) (suc seen) p) q → cond t (part (turn s b) (suc seen) (p ++ q)) (refused seen) ≡ next (cond t (part (turn s b) (suc seen) p) (refused seen)) q
    by true h = h
    by false h = refl

next_none : (p : Part) → next p [] ≡ p
next_none (taken s seen) = refl
next_none (refused place) = refl

next_on : (p : Part) (bs cs : List ℕ) → next p (bs ++ cs) ≡ next (next p bs) cs
next_on (taken s seen) bs cs = part_on s seen bs cs
next_on (refused place) bs cs = refl

-- every way of dividing the bytes, parts without bytes among them
pub parts_whole : (p : Part) (bss : List (List ℕ)) → parts p bss ≡ next p (whole bss)
parts_whole p [] = sym (next_none p)
parts_whole p (bs ∷ bss) = parts_whole (next p bs) bss ∙ sym (next_on p bs (whole bss))

-- ---- the end's verdict is the check's
abbrev shifted_by : ℕ → Verdict → Verdict
shifted_by n good = good
shifted_by n (fault place) = fault (n + place)

shift_later : (n : ℕ) (v : Verdict) → shifted_by (suc n) v ≡ shifted_by n (later v)
shift_later n good = refl
shift_later n (fault place) = let e : suc n + place ≡ n + suc place = omega arith in ap fault e

end_is : (s : State) (seen : ℕ) (bs : List ℕ) → end (part s seen bs) ≡ shifted_by seen (scan s bs)
end_is s seen [] = by (is_start s)
  where
    by : (t : Bool) → cond t good (fault seen) ≡ shifted_by seen (cond t good (fault 0))
    by true = refl
    by false = let e : seen ≡ seen + 0 = omega arith in ap fault e
end_is s seen (b ∷ bs) = by (alive (turn s b)) (end_is (turn s b) (suc seen) bs)
  where
    by : (t : Bool) → end (part (turn s b) (suc seen) bs) ≡ shifted_by (suc seen) (scan (turn s b) bs) → end (cond t (part (turn s b) (suc seen) bs) (refused seen)) ≡ shifted_by seen (cond t (later (scan (turn s b) bs)) (fault 0))
    by true h = h ∙ shift_later seen (scan (turn s b) bs)
    by false h = let e : seen ≡ seen + 0 = omega arith in ap fault e

shift_none : (v : Verdict) → shifted_by 0 v ≡ v
shift_none good = refl
shift_none (fault place) = let e : 0 + place ≡ place = omega arith in ap fault e

pub whole_check : (bs : List ℕ) → end (part start 0 bs) ≡ check bs
unfolding check
whole_check bs = end_is start 0 bs ∙ shift_none (scan start bs)

pub parts_check : (bss : List (List ℕ)) → end (parts (taken start 0) bss) ≡ check (whole bss)
parts_check bss = ap end (parts_whole (taken start 0) bss) ∙ whole_check (whole bss)

-- ---- of sound states, those that are not alive are exactly those that nothing finishes
pub alive_exactly : (s : State) → Sound s → (alive s ≡ true) ↔ Finish s
alive_exactly s h = (λ a. alive_finished s h a, λ f. finished_alive s f.more h f.is)
