-- Crates `promise` and `refusal`: wrong memory after a call, promises that leave something open, and wrong numbers of refusals.
use Rattle.std.specs.Prelude.{ℕ, ◌≡◌, List, [], ◌∷◌, ◌++◌, length, take, drop}
use Rattle.std.proofs.Common.{ap, arith}
use Rattle.promise.specs.Answers.{Written, Gives, kept}
use Rattle.promise.specs.Laid.{lay}
use Rattle.refusal.specs.declared.Refusal.{Refusal}
use Rattle.refusal.specs.declared.Refusal.TheVariants.{Job, Coord, Room, Name}
use Rattle.refusal.specs.Refusals.{number_of}
use Rattle.refusal.specs.Said.{Said, accepted, refused}

-- ---- promise
-- a run laid between what was there instead of over it
pub run_not_skipped : ((at : ℕ) (run l : List ℕ) → lay at run l ≡ take at l ++ run ++ drop at l) → ⊥
run_not_skipped h = let e : ◌≡◌ {A = ℕ} 1 2 = ap length (h 0 (7 ∷ []) (0 ∷ [])) in omega arith

-- a promise that leaves the memory open
pub memory_left_open : ((w : Written ℕ (List ℕ)) (m : List ℕ) → Gives w w.answer m) → ⊥
memory_left_open h = let e : ◌≡◌ {A = ℕ} 0 1 = ap length (h (kept 0 (7 ∷ [])) []).memory in omega arith

-- a promise that leaves the answer open
pub answer_left_open : ((w : Written ℕ (List ℕ)) (r : ℕ) → Gives w r w.memory) → ⊥
answer_left_open h = let e : ◌≡◌ {A = ℕ} 1 0 = (h (kept 0 []) 1).answer in omega arith

-- ---- refusal
-- two refusals with one number
pub one_number_twice : number_of Name ≡ 13 → ⊥
one_number_twice h = omega arith

-- ROOM is 8
pub room_as_command : number_of Room ≡ 8 → ⊥
room_as_command h = omega arith

-- COORD is 3
pub coord_as_box : number_of Coord ≡ 3 → ⊥
coord_as_box h = omega arith

-- a refusal says what an accepted answer says
pub refused_as_accepted : ((r : Refusal) (n : ℕ) → refused r n ≡ accepted n) → ⊥
refused_as_accepted h = let e : ◌≡◌ {A = ℕ} 1 0 = ap (λ (a : Said ℕ). a.number) (h Job 0) in omega arith
