-- The place law: the check answers `good` where the tile is good, and else the first byte after which no continuation is a good tile, or the length; and
-- there is one such place at most.
use Prim.Native.Nat.{ℕ, zero, suc, ◌≤◌, ◌<◌}
use mathlib.Core.Path.{◌≡◌, refl, sym, ap, ◌∙◌, subst}
use mathlib.Core.Bool.{Bool, true, false, cond, false≢true}
use mathlib.Core.List.{List, [], ◌∷◌, ◌++◌, append_assoc}
use native.Mathlib.Omega.{arith}
use borrow.Author.Tests.{ltb-true, ltb-false}
use lib.Dec.{ltb}
use lib.ListN.{length, take}
use Rattle.messages.specs.declared.key.Kind.TheVariants.{Tile as tile}
use Rattle.messages.specs.Tiles.{Bytes, Viable, Fault, Verdict, good, fault, Judges, Answers}
use Rattle.scan.specs.Grammar.{Level}
use Rattle.scan.specs.declared.Phase.TheVariants.{Field as field, Key as key, Number as number, Lead as lead, Skip as skip, Packed as packed}
use Rattle.scan.specs.declared.Where.TheVariants.{Outside as none, One as one, Two as two}
use Rattle.scan.specs.declared.State.{State}
use Rattle.scan.specs.declared.State.TheVariants.{Lost as lost, At as at}
use Rattle.scan.specs.Automaton.{turn, run, start, Settled}
use Rattle.scan.specs.Rest.{Rest}
use Rattle.scan.specs.Alive.{alive, Sound}
use Rattle.scan.specs.Verdicts.{is_start, later, scan, check}
use Rattle.scan.proofs.Turns.{turns}
use Rattle.scan.proofs.Runs.{done, turn_settled, runs}
use Rattle.scan.proofs.Needs.{finished_alive}
use Rattle.scan.proofs.Fills.{alive_finished}
use Rattle.scan.proofs.Goodness.{good_is}
use Rattle.scan.proofs.Sound.{turn_sound, run_sound}

-- `Fault`, from any state on
record FaultFrom (s : State) (bs : List ℕ) (place : ℕ) : Type 0 where
  not_good : Rest s bs → ⊥
  there : place ≤ length bs
  before_more : List ℕ
  before_bytes : Bytes before_more
  before : Rest s (take place bs ++ before_more)
  after : place < length bs → (q : List ℕ) → Rest s (take (suc place) bs ++ q) → ⊥

abbrev Judged : State → List ℕ → Verdict → Type 0
Judged s bs good = Rest s bs
Judged s bs (fault place) = FaultFrom s bs place

start_yes : (s : State) → is_start s ≡ true → s ≡ start
start_yes lost h = absurd (false≢true h)
start_yes (at none field) h = refl
start_yes (at none (key i v)) h = absurd (false≢true h)
start_yes (at none (number i)) h = absurd (false≢true h)
start_yes (at none (lead body i v)) h = absurd (false≢true h)
start_yes (at none (skip n)) h = absurd (false≢true h)
start_yes (at none (packed n i)) h = absurd (false≢true h)
start_yes (at (one k n) phase) h = absurd (false≢true h)
start_yes (at (two k n l m) phase) h = absurd (false≢true h)

-- where a state is alive and the tile is not good here, the fault's place is here if nothing finishes behind the next byte
faulty_here : (s : State) (bs : List ℕ) → Sound s → alive s ≡ true → (Rest s bs → ⊥) → (0 < length bs → (q : List ℕ) → Rest s (take 1 bs ++ q) → ⊥) → FaultFrom s bs 0
faulty_here s bs h a n e =
    let f = alive_finished s h a in
    record { not_good = n; there = omega arith; before_more = f.more; before_bytes = f.more_bytes; before = f.is; after = e }

ended : (s : State) → Settled s → Sound s → alive s ≡ true → Judged s [] (scan s [])
ended s h g a = by (is_start s) refl
  where
    by : (b : Bool) → is_start s ≡ b → Judged s [] (cond b good (fault 0))
    by true e = subst (λ (t : State). Rest t []) (sym (start_yes s e)) (0, refl)
    by false e = faulty_here s [] g a (λ r. false≢true (sym e ∙ ap is_start (done s h r))) (λ l. absurd (omega (arith, l)))

-- one byte later
shifted : (s : State) (b : ℕ) (bs : List ℕ) (v : Verdict) → Settled s → Judged (turn s b) bs v → Judged s (b ∷ bs) (later v)
shifted s b bs good h j = (turns s b bs h).1 j
shifted s b bs (fault n) h j =
    record {
      not_good = λ r. j.not_good ((turns s b bs h).0 r);
      there = omega (arith, j.there);
      before_more = j.before_more;
      before_bytes = j.before_bytes;
      before = (turns s b (take n bs ++ j.before_more) h).1 j.before;
      after = λ l q r. j.after (omega (arith, l)) q ((turns s b (take (suc n) bs ++ q) h).0 r);
    }

judged : (s : State) (bs : List ℕ) → Settled s → Sound s → alive s ≡ true → Judged s bs (scan s bs)
judged s [] h g a = ended s h g a
judged s (b ∷ bs) h g a = by (alive (turn s b)) refl (λ e. judged (turn s b) bs (turn_settled s b) (turn_sound s b g) e)
  where
    dies : alive (turn s b) ≡ false → (q : List ℕ) → Rest s (b ∷ q) → ⊥
    dies e q r = false≢true (sym e ∙ finished_alive (turn s b) q (turn_sound s b g) ((turns s b q h).0 r))

    by : (t : Bool) → alive (turn s b) ≡ t → (alive (turn s b) ≡ true → Judged (turn s b) bs (scan (turn s b) bs)) → Judged s (b ∷ bs) (cond t (later (scan (turn s b) bs)) (fault 0))
    by true e f = shifted s b bs (scan (turn s b) bs) h (f e)
    by false e f = faulty_here s (b ∷ bs) g a (dies e bs) (λ l q r. dies e q r)

-- ---- a part of the bytes begins a longer one
record Longer (a b : List ℕ) : Type 0 where
  more : List ℕ
  is : b ≡ a ++ more

taken_longer : (i j : ℕ) (l : List ℕ) → i ≤ j → Longer (take i l) (take j l)
taken_longer zero j l h = record { more = take j l; is = refl }
taken_longer (suc i) zero l h = absurd (omega (arith, h))
taken_longer (suc i) (suc j) [] h = record { more = []; is = refl }
taken_longer (suc i) (suc j) (b ∷ l) h = let r = taken_longer i j l (omega (arith, h)) in record { more = r.more; is = ap (λ (m : List ℕ). b ∷ m) r.is }

-- ---- the promise of the check
judges : (bs : List ℕ) (v : Verdict) → Judged start bs v → Judges bs v
judges bs good j = (good_is bs).1 j
judges bs (fault place) j =
    record {
      not_good = λ g. j.not_good ((good_is bs).0 g);
      there = j.there;
      before = record { more = j.before_more; more_bytes = j.before_bytes; good = (good_is (take place bs ++ j.before_more)).1 j.before };
      after = λ l v. j.after l v.more ((good_is (take (suc place) bs ++ v.more)).0 v.good);
    }

pub check_judges : (bs : List ℕ) → Judges bs (check bs)
unfolding check
check_judges bs = judges bs (scan start bs) (judged start bs tt tt refl)

-- ---- one place at most
-- what some list finishes, bytes finish
viable : (p q : List ℕ) → Level 3 tile (p ++ q) → Viable p
viable p q g =
    let h = run_sound start p tt in
    let f = alive_finished (run start p) h (finished_alive (run start p) q h ((runs start p q tt).0 g)) in
    record { more = f.more; more_bytes = f.more_bytes; good = (good_is (p ++ f.more)).1 ((runs start p f.more tt).1 f.is) }

-- what begins something that can become good can itself
viable_front : {a b : List ℕ} → Longer a b → Viable b → Viable a
viable_front {a} {b} l v =
    viable a (l.more ++ v.more)
    (subst (Level 3 tile) (ap (λ (m : List ℕ). m ++ v.more) l.is ∙ append_assoc a l.more v.more) ((good_is (b ++ v.more)).0 v.good))

not_before : (bs : List ℕ) (p q : ℕ) → Fault bs p → Fault bs q → p < q → ⊥
not_before bs p q f g h = f.after (omega (arith, h, g.there)) (viable_front (taken_longer (suc p) q bs (omega (arith, h))) g.before)

pub one_place : (bs : List ℕ) (p q : ℕ) → Fault bs p → Fault bs q → p ≡ q
one_place bs p q f g = by (ltb p q) refl (ltb q p) refl
  where
    by : (a : Bool) → ltb p q ≡ a → (b : Bool) → ltb q p ≡ b → p ≡ q
    by true e b d = absurd (not_before bs p q f g (ltb-true p q e))
    by false e true d = absurd (not_before bs q p g f (ltb-true q p d))
    by false e false d = omega (arith, ltb-false p q e, ltb-false q p d)

pub one_verdict : (bs : List ℕ) (v w : Verdict) → Judges bs v → Judges bs w → v ≡ w
one_verdict bs good good j k = refl
one_verdict bs good (fault q) j k = absurd (k.not_good j)
one_verdict bs (fault p) good j k = absurd (j.not_good k)
one_verdict bs (fault p) (fault q) j k = ap fault (one_place bs p q j k)

-- so an answer that goes by the verdict is one
pub one_answer : {A : Type 0} (bs : List ℕ) (answer : Verdict → A) (r s : A) → Answers bs answer r → Answers bs answer s → r ≡ s
one_answer bs answer r s a b = a.is ∙ ap answer (one_verdict bs a.verdict b.verdict a.judged b.judged) ∙ sym b.is
