-- The run of a script: the step that the code takes, the loop's invariant with its start, its turn and its two ends; and one value for each answer.
use mathlib.Core.Path.{◌≡◌, refl, sym, ◌∙◌, ap, subst}
use mathlib.Core.List.{List, [], ◌∷◌, ◌++◌, append_assoc, append-nil}
use Prim.Native.Nat.{ℕ, zero, suc, ◌+◌, ◌<◌, ◌≤◌}
use native.Mathlib.Omega.{arith}
use borrow.Author.Tests.{lt-ltb, le-ltb, eq-eqb, ne_eqb}
use lib.ListN.{length, get_or, set, length-set, length-append}
use Rattle.promise.specs.Answers.{Written, Gives}
use Rattle.promise.specs.Laid.{lay}
use Rattle.promise.proofs.Laying.{lay_nothing, lay_next, lay_one}
use Rattle.refusal.specs.declared.Refusal.{Refusal}
use Rattle.refusal.specs.declared.Refusal.TheVariants.{Room}
use Rattle.refusal.specs.Refusals.{number_of}
use Rattle.std.specs.Prelude.{Option, Some, None, Ok, Err}
use Rattle.refusal.specs.Said.{Said, accepted, refused}
use Rattle.refusal.proofs.Laws.{one_refusal, never_both}
use Rattle.script.specs.declared.Op.{Op}
use Rattle.script.specs.Script.{operation}
use Rattle.script.proofs.Ends.{Reaches, operation_ends}
use Rattle.tile.specs.declared.Tile.{Tile}
use Rattle.tile.specs.Tiles.{fresh_tile}
use Rattle.tile_run.specs.declared.performing.Work.{Work}
use Rattle.tile_run.specs.Operations.{Performed, Lists, said_performed, performed}
use Rattle.tile_run.specs.Running.{Step, Ran, Course, ended, stopped, before, goes, ran_from, stepped_by, stepped, RunLists, run_lists, Counts, counts, said_ran, course_in, begins, course, ran_script}

-- ---- one step
module _ (bytes ns : List ℕ) (at : ℕ) (w : Work) (m : Lists) (r : Option (Op × ℕ)) (e : r ≡ operation ns at) where
  pub step_bad : r ≡ None → Gives (stepped bytes ns at w m) None m
  unfolding stepped
  step_bad f = let g : operation ns at ≡ None = sym e ∙ f in rw g (record { answer = refl; memory = refl })

  pub step_is : (op : Op) (next : ℕ) (p : Performed) (l : Lists) (n : ℕ) (v : Work) → r ≡ Some (op, next) → Gives (performed bytes ns op w m) (said_performed p) l
      → n ≡ (said_performed p).number → v ≡ (said_performed p).values → Gives (stepped bytes ns at w m) (Some (n, v, next)) l
  unfolding stepped
  step_is op next p l n v f g a b =
      let h : operation ns at ≡ Some (op, next) = sym e ∙ f in
      rw h (record {
        answer = λ i. Some ((a ∙ ap (λ (x : Said Work). x.number) g.answer) i, (b ∙ ap (λ (x : Said Work). x.values) g.answer) i, next);
        memory = g.memory;
      })

-- an answer taken apart is the answer that was given
parted : {w : Written Step Lists} {l : Lists} {r s : Step} → r ≡ s → Gives w r l → Gives w s l
parted e g = record { answer = sym e ∙ g.answer; memory = g.memory }

-- what a step tells, or else d
abbrev number_of_step : ℕ → Step → ℕ
number_of_step d None = d
number_of_step d (Some (n, v, next)) = n

abbrev work_of_step : Work → Step → Work
work_of_step d None = d
work_of_step d (Some (n, v, next)) = v

abbrev next_of_step : ℕ → Step → ℕ
next_of_step d None = d
next_of_step d (Some (n, v, next)) = next

-- what a step tells: nothing could be read, or an operation was performed
module _ (bytes ns : List ℕ) (at : ℕ) (w : Work) (m l : Lists) where
  told_bad : Gives (stepped bytes ns at w m) None l → (operation ns at ≡ None) × (l ≡ m)
  unfolding stepped
  told_bad g = by (operation ns at) refl g
    where
      by : (o : Option (Op × ℕ)) → operation ns at ≡ o → Gives (stepped_by o bytes ns w m) None l → (operation ns at ≡ None) × (l ≡ m)
      by None e g = (e, g.memory)
      by (Some (op, next)) e g = absurd (let z : ◌≡◌ {A = Step} None (Some ((performed bytes ns op w m).answer.number, (performed bytes ns op w m).answer.values, next)) = g.answer in let y : ◌≡◌ {A = ℕ} 0 1 = cc in omega arith)

  pub record Went (n : ℕ) (v : Work) (next : ℕ) : Type 0 where
    pub op : Op
    pub read : operation ns at ≡ Some (op, next)
    pub number : n ≡ (performed bytes ns op w m).answer.number
    pub work : v ≡ (performed bytes ns op w m).answer.values
    pub memory : l ≡ (performed bytes ns op w m).memory

  told_is : (n : ℕ) (v : Work) (next : ℕ) → Gives (stepped bytes ns at w m) (Some (n, v, next)) l → Went n v next
  unfolding stepped
  told_is n v next g = by (operation ns at) refl g
    where
      by : (o : Option (Op × ℕ)) → operation ns at ≡ o → Gives (stepped_by o bytes ns w m) (Some (n, v, next)) l → Went n v next
      by None e g = absurd (let z : ◌≡◌ {A = Step} (Some (n, v, next)) None = g.answer in let y : ◌≡◌ {A = ℕ} 0 1 = cc in omega arith)
      by (Some (op, k)) e g =
          let y : next ≡ k = ap (next_of_step next) g.answer in
          record { op = op; read = e ∙ ap (λ (j : ℕ). Some (op, j)) (sym y); number = ap (number_of_step n) g.answer; work = ap (work_of_step v) g.answer; memory = g.memory }

  pub step_ends : (n : ℕ) (v : Work) (next : ℕ) {r : Step} → r ≡ Some (n, v, next) → Gives (stepped bytes ns at w m) r l → Reaches ns (at + 1) next
  step_ends n v next e g = let t = told_is n v next (parted e g) in operation_ends ns at t.op next t.read

-- ---- outcomes before those of a course
abbrev onto : List ℕ → Course → Course
onto done c = record { outcomes = done ++ c.outcomes; work = c.work; lists = c.lists }

-- the loop's invariant: what is done, and that the rest of the run is the run from here
pub record Running (bytes ns os₀ os : List ℕ) (w₀ : Work) (m₀ : Lists) (w : Work) (m : Lists) (at n : ℕ) : Type 0 where
  pub done : List ℕ
  pub turns : ℕ
  pub enough : length ns ≤ at + turns
  pub few : n + 1 ≤ at
  pub inside : at ≤ length ns
  pub room : length ns < length os₀
  pub counted : n ≡ length done
  pub long : length os ≡ length os₀
  pub laid : os ≡ lay 0 done os₀
  pub rest : ran_from (length ns) bytes ns 1 w₀ m₀ ≡ onto done (ran_from turns bytes ns at w m)

module _ {bytes ns os₀ : List ℕ} {w₀ : Work} {m₀ : Lists} where
  pub run_start : 0 < length ns → length ns < length os₀ → Running bytes ns os₀ os₀ w₀ m₀ w₀ m₀ 1 0
  run_start h r = record { done = []; turns = length ns; enough = omega arith; few = omega arith; inside = omega arith; room = r; counted = refl; long = refl; laid = sym (lay_nothing 0 os₀); rest = refl }

  module _ {os : List ℕ} {w : Work} {m : Lists} {at n : ℕ} (c : Running bytes ns os₀ os w₀ m₀ w m at n) where
    -- one outcome more is stored
    stored : (x : ℕ) → set os n x ≡ lay 0 (c.done ++ (x ∷ [])) os₀
    stored x =
        let z : 0 + length c.done ≡ n = omega (arith, c.counted) in
        let h : n < length os = omega (arith, c.few, c.inside, c.room, c.long) in
        let f : 0 + length c.done ≤ length os₀ = omega (arith, c.long) in
        lay_one os n x h ∙ rw (c.laid, ← z) (lay_next 0 c.done (x ∷ []) os₀ f)

    turn : (turns : ℕ) (op : Op) (next : ℕ) → length ns ≤ at + turns → at < length ns → operation ns at ≡ Some (op, next)
        → (k : ℕ) × (turns ≡ suc k) × (ran_from turns bytes ns at w m ≡ goes (performed bytes ns op w m) (λ v l. ran_from k bytes ns next v l))
    turn zero op next h l e = absurd (omega arith)
    turn (suc k) op next h l e = (k, refl, rw (lt-ltb at (length ns) l, e))

    onto_next : (x : ℕ) (d : Course) → onto c.done (before x d) ≡ onto (c.done ++ (x ∷ [])) d
    onto_next x d = λ i. record { outcomes = sym (append_assoc c.done (x ∷ []) d.outcomes) i; work = d.work; lists = d.lists }

    pub run_turn : (l : Lists) (x : ℕ) (v : Work) (next : ℕ) → at < length ns → {r : Step} → r ≡ Some (x, v, next) → Gives (stepped bytes ns at w m) r l
        → Running bytes ns os₀ (set os n x) w₀ m₀ v l next (n + 1)
    run_turn l x v next h e g =
        let t = told_is bytes ns at w m l x v next (parted e g) in
        let (k, s, r) = turn c.turns t.op next c.enough h t.read in
        let q = operation_ends ns at t.op next t.read in
        let p = performed bytes ns t.op w m in
        let y : goes p (λ v l. ran_from k bytes ns next v l) ≡ before x (ran_from k bytes ns next v l) = λ i. before (sym t.number i) (ran_from k bytes ns next (sym t.work i) (sym t.memory i)) in
        record {
          done = c.done ++ (x ∷ []);
          turns = k;
          enough = omega (arith, c.enough, s, q.on);
          few = omega (arith, c.few, q.on);
          inside = q.inside;
          room = c.room;
          counted = simp length-append (omega (arith, c.counted));
          long = length-set os n x ∙ c.long;
          laid = stored x;
          rest = c.rest ∙ ap (onto c.done) (r ∙ y) ∙ onto_next x (ran_from k bytes ns next v l);
        }

    -- the two ends: what cannot be read, and the script's end
    halted : (turns : ℕ) → length ns ≤ at + turns → at < length ns → operation ns at ≡ None → ran_from turns bytes ns at w m ≡ stopped w m
    halted zero h l e = absurd (omega arith)
    halted (suc k) h l e = rw (lt-ltb at (length ns) l, e)

    over : (turns : ℕ) → length ns ≤ at → ran_from turns bytes ns at w m ≡ ended w m
    over zero h = refl
    over (suc k) h = rw (le-ltb at (length ns) h)

    comes : (d : Course) (a : Said Counts) (b : RunLists) → ran_from (length ns) bytes ns 1 w₀ m₀ ≡ d → Gives (course_in d os₀) a b → Gives (course_in (ran_from (length ns) bytes ns 1 w₀ m₀) os₀) a b
    comes d a b e g = subst (λ (x : Course). Gives (course_in x os₀) a b) (sym e) g

    pub run_bad : (l : Lists) (u : ℕ) → at < length ns → {r : Step} → r ≡ None → Gives (stepped bytes ns at w m) r l → u ≡ w.tile.used
        → Gives (course_in (ran_from (length ns) bytes ns 1 w₀ m₀) os₀) (accepted (counts (n + 1) u)) (run_lists (set os n 1) l)
    run_bad l u h b g f =
        let (e, q) = told_bad bytes ns at w m l (parted b g) in
        let z : n + 1 ≡ length (c.done ++ (1 ∷ [])) = simp length-append (omega (arith, c.counted)) in
        comes (onto c.done (stopped w m)) _ _ (c.rest ∙ ap (onto c.done) (halted c.turns c.enough h e))
        (record { answer = λ i. accepted (counts (z i) (f i)); memory = λ i. run_lists (stored 1 i) (q i) })

    pub run_done : (u : ℕ) → length ns ≤ at → u ≡ w.tile.used → Gives (course_in (ran_from (length ns) bytes ns 1 w₀ m₀) os₀) (accepted (counts n u)) (run_lists os m)
    run_done u h f =
        let y : c.done ++ [] ≡ c.done = append-nil c.done in
        let z : n ≡ length (c.done ++ []) = rw y c.counted in
        let o : os ≡ lay 0 (c.done ++ []) os₀ = rw y c.laid in
        comes (onto c.done (ended w m)) _ _ (c.rest ∙ ap (onto c.done) (over c.turns h))
        (record { answer = λ i. accepted (counts (z i) (f i)); memory = λ i. run_lists (o i) m })

-- ---- the whole script
module _ (bytes ns os : List ℕ) (m : Lists) where
  pub no_room : length os ≤ length ns → Gives (ran_script bytes ns os m) (refused Room (counts 0 0)) (run_lists os m)
  unfolding ran_script
  no_room h = rw (le-ltb (length ns) (length os) h) (record { answer = refl; memory = refl })

  module _ (h : length ns < length os) where
    pub no_extent : length ns ≡ 0 → Gives (ran_script bytes ns os m) (accepted (counts 1 0)) (run_lists (set os 0 1) m)
    unfolding ran_script
    no_extent e = rw (lt-ltb (length ns) (length os) h, eq-eqb (length ns) 0 e) (record { answer = refl; memory = ap (λ (l : List ℕ). run_lists l m) (lay_one os 0 1 (omega arith)) })

    pub whole_run : (t : Tile) (a : Said Counts) (b : RunLists) → (length ns ≡ 0 → ⊥) → t ≡ fresh_tile (get_or ns 0 0)
        → Gives (course_in (ran_from (length ns) bytes ns 1 (record { tile = t; hand = None }) m) os) a b → Gives (ran_script bytes ns os m) a b
    unfolding ran_script
    whole_run t a b e f g =
        let d : Gives (course_in (ran_from (length ns) bytes ns 1 (begins (get_or ns 0 0)) m) os) a b = subst (λ (x : Tile). Gives (course_in (ran_from (length ns) bytes ns 1 (record { tile = x; hand = None }) m) os) a b) f g in
        rw (lt-ltb (length ns) (length os) h, ne_eqb (length ns) 0 e) d

-- ---- one value for each answer
pub one_run : (r r' : Ran) → said_ran r ≡ said_ran r' → r ≡ r'
one_run (Ok (n, b)) (Ok (n', b')) e = ap (λ (a : Said Counts). Ok (a.values.outcomes, a.values.bytes)) e
one_run (Ok (n, b)) (Err r) e = absurd (never_both r e)
one_run (Err r) (Ok (n, b)) e = absurd (never_both r (sym e))
one_run (Err r) (Err r') e = ap Err (one_refusal r r' e)
