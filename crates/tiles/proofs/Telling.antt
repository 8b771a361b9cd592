-- What each way through `answer` tells, over plain lists: the text of the parts' answers, at the front of the lent text.
use mathlib.Core.Path.{◌≡◌, refl, sym, ◌∙◌, subst}
use mathlib.Core.Bool.{Bool, true, false}
use mathlib.Core.List.{List, [], ◌∷◌}
use Prim.Native.Nat.{ℕ, ◌≤◌}
use native.Mathlib.Omega.{arith}
use borrow.Author.Tests.{leb-true}
use lib.Dec.{leb}
use lib.ListN.{length, take, length-append}
use Rattle.promise.specs.Answers.{Written, Gives}
use Rattle.refusal.specs.declared.Refusal.{Refusal}
use Rattle.refusal.specs.declared.Refusal.TheVariants.{Room}
use Rattle.refusal.specs.Refusals.{number_of}
use Rattle.refusal.specs.Said.{Said, accepted, refused}
use Rattle.refusal.proofs.Laws.{never_zero}
use Rattle.printed.specs.Printed.{Told, shown}
use Rattle.printed.specs.Tiles.{tile_text, tile_room}
use Rattle.printed.proofs.Columns.{told}
use Rattle.printed.proofs.Rows.{tile_short}
use Rattle.tile_run.specs.Operations.{Lists}
use Rattle.tile_run.specs.Running.{RunLists, Counts, counts, ran_script}
use Rattle.tiles.specs.Program.{no_text, tile_shown, file_text}

-- what is shown of outcomes and bytes that have their room
tile_told : (os bs text : List ℕ) (r : ℕ) (l : List ℕ) → tile_room os bs ≤ length text → Gives (shown (tile_room os bs) (tile_text os bs) text) r l → Told (tile_text os bs) r l
tile_told os bs text r l h g = told (tile_room os bs) (tile_text os bs) text r l h (tile_short os bs) g

no_told : (x : ℕ) (text : List ℕ) (r : ℕ) (l : List ℕ) → 56 ≤ length text → Gives (shown (tile_room (x ∷ []) []) (tile_text (x ∷ []) []) text) r l → Told (no_text x) r l
unfolding no_text
no_told x text r l h g = tile_told (x ∷ []) [] text r l h g

-- the text was too short, and stands as it was; or it has what is shown
never_empty : (os bs : List ℕ) → 1 ≤ length (tile_text os bs)
never_empty os bs = simp length-append (omega arith)

module _ (os bs text : List ℕ) (k : ℕ) (l : List ℕ) (g : Gives (shown (tile_room os bs) (tile_text os bs) text) k l) where
  short : (b : Bool) → leb (tile_room os bs) (length text) ≡ b → k ≡ 0 → (b ≡ false) × (l ≡ text)
  short true e z = absurd (let h = rw e at g in omega (arith, h.answer, never_empty os bs))
  short false e z = let h = rw e at g in (refl, h.memory)

  pub show_room : (r : ℕ) (l₂ : List ℕ) → 56 ≤ length text → k ≡ 0 → Gives (shown (tile_room (number_of Room ∷ []) []) (tile_text (number_of Room ∷ []) []) l) r l₂ → Told (tile_shown (length text) os bs) r l₂
  unfolding tile_shown
  show_room r l₂ h z q =
      let (e, f) = short (leb (tile_room os bs) (length text)) refl z in
      let t : Told (no_text (number_of Room)) r l₂ = no_told (number_of Room) l r l₂ (rw f h) q in
      rw e t

  fits : (b : Bool) → leb (tile_room os bs) (length text) ≡ b → (k ≡ 0 → ⊥) → b ≡ true
  fits true e z = refl
  fits false e z = absurd (let h = rw e at g in z h.answer)

  pub show_fits : (k ≡ 0 → ⊥) → Told (tile_shown (length text) os bs) k l
  unfolding tile_shown
  show_fits z =
      let e = fits (leb (tile_room os bs) (length text)) refl z in
      rw e (tile_told os bs text k l (leb-true (tile_room os bs) (length text) e) g)

-- an answer taken apart is the answer that was given
parted : {A M : Type 0} {w : Written A M} {a b : A} {m : M} → a ≡ b → Gives w a m → Gives w b m
parted e g = record { answer = sym e ∙ g.answer; memory = g.memory }

module _ (n : Written (Said ℕ) (List ℕ)) (file os : List ℕ) (m : Lists) (text : List ℕ) (size r : ℕ) (l nums : List ℕ) (room : 56 ≤ length text) where
  -- the numbers were refused
  pub no_numbers : (x : Refusal) {a : Said ℕ} → a ≡ refused x 0 → Gives n a nums
      → Gives (shown (tile_room (number_of x ∷ []) []) (tile_text (number_of x ∷ []) []) text) r l → Told (file_text size n file os m) r l
  no_numbers x e g k = rw (← (parted e g).answer, never_zero x) (no_told (number_of x) text r l room k)

  module _ (k : ℕ) {a : Said ℕ} (e : a ≡ accepted k) (g : Gives n a nums) (s : RunLists) {ns : List ℕ} (f : ns ≡ take k nums) {b : Said Counts} where
    -- the script that was run is the file's numbers
    ran : Gives (ran_script file ns os m) b s → Gives (ran_script file (take k nums) os m) b s
    ran j = subst (λ (x : List ℕ). Gives (ran_script file x os m) b s) f j

    -- the run was refused
    pub no_run : (x : Refusal) → b ≡ refused x (counts 0 0) → Gives (ran_script file ns os m) b s
        → Gives (shown (tile_room (number_of x ∷ []) []) (tile_text (number_of x ∷ []) []) text) r l → Told (file_text size n file os m) r l
    no_run x d j q =
        let h = parted e g in
        rw (← h.answer, ← h.memory, ← (parted d (ran j)).answer, never_zero x) (no_told (number_of x) text r l room q)

    -- the script was run
    pub all_run : (u v : ℕ) → b ≡ accepted (counts u v) → Gives (ran_script file ns os m) b s
        → Told (tile_shown size (take u s.outcomes) (take v s.tile.tile.bytes)) r l → Told (file_text size n file os m) r l
    all_run u v d j q =
        let h = parted e g in
        let i = parted d (ran j) in
        rw (← h.answer, ← h.memory, ← i.answer, ← i.memory) q

-- outcomes and bytes that are those of the definition are shown as the definition shows them
pub as_shown : (os os' bs bs' text : List ℕ) (r : ℕ) (l : List ℕ) → os ≡ os' → bs ≡ bs' → Gives (shown (tile_room os bs) (tile_text os bs) text) r l → Gives (shown (tile_room os' bs') (tile_text os' bs') text) r l
as_shown os os' bs bs' text r l e f g = subst (λ (x : List ℕ). Gives (shown (tile_room x bs') (tile_text x bs') text) r l) e (subst (λ (x : List ℕ). Gives (shown (tile_room os x) (tile_text os x) text) r l) f g)
