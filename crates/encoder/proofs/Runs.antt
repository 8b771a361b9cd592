-- A run of points: what is left of it, from the state and the list that there are, gives the rest of the answer; and a run is a piece of a part.
--     run_start run_stretch run_turn run_stop run_all    `add_run`: its start, after a stretch, after a point by itself, at one that is refused, its end
--     each_start each_turn each_stop each_all            `add_each`, from any state
--     go_shift                                           the same calls with more points accepted before
--     run_on run_off                                     a run of a part's first points, and then the rest of the part
--     whole_part_on whole_part_off                       a run of all points of a part
--     run_within run_sound                               how many points a refused run accepted at most, and the state behind an accepted one
--     points_take points_drop                            the points of a list's first numbers, and of those behind them
use Rattle.std.specs.Prelude.{Option, Some, None, Result, Ok, Err}
use mathlib.Core.Path.{◌≡◌, refl, sym, ◌∙◌, ap, subst}
use mathlib.Core.Bool.{Bool, true, false, cond, ◌&&◌}
use mathlib.Core.List.{List, [], ◌∷◌, ◌++◌, append-nil}
use Prim.Native.Nat.{ℕ, zero, suc, ◌+◌, ◌-◌, ◌*◌, ◌/◌, ◌^◌, ◌≤◌, ◌<◌}
use native.Mathlib.Omega.{arith}
use borrow.Author.Rules.{sfits_of}
use borrow.Author.Tests.{ltb-true}
use lib.Dec.{eqb}
use lib.IntN.{ℤ, pos}
use lib.Signed.{mag}
use lib.ListN.{length, take, drop, get_or, drop_of_length-le}
use lib.Seq.{take_all}
use mir.Syntax.{w32}
use mir.Val.{of_z, to_z}
use mir.Facts.{to_z-of_z}
use Rattle.promise.specs.Answers.{Written, Gives, kept}
use Rattle.promise.proofs.Joined.{both}
use Rattle.clip.specs.declared.Pt.{Pt}
use Rattle.encoder.specs.declared.GeomEncoder.{GeomEncoder}
use Rattle.encoder.specs.declared.Edges.{Edges}
use Rattle.encoder.specs.Answers.{said_drawn, done, turned}
use Rattle.encoder.specs.Adding.{point_at, added}
use Rattle.encoder.specs.Calls.{Call, add, complete, call, part_calls}
use Rattle.encoder.specs.declared.stretch.Stretch.{Stretch}
use Rattle.encoder.specs.Stretches.{point_in, stretched}
use Rattle.encoder.specs.States.{valid, is_there, Sound, is_placed}
use Rattle.encoder.specs.Jobs.{points_of, part, Outcome, on, off, taken, stopped, go, add_calls, added_run, outcome_of, end_of}
use Rattle.encoder.proofs.States.{valid_facts}
use Rattle.encoder.proofs.Reached.{valid_is, add_sound}
use Rattle.encoder.proofs.Callers.{stretch_keeps}
use Rattle.encoder.proofs.Courses.{go_on, go_off, off_list, then, go_then}
use Rattle.encoder.proofs.Within.{go_sound}
use Rattle.encoder.proofs.Turns.{points_at, part_more, part_over, Adding}
use Rattle.refusal.specs.declared.Refused.{Refused}

-- ---- `add_run`: the points up to i are added; those behind them give the rest
pub record Running (l : List ℤ) (from to : ℕ) (out₀ : List ℕ) (s : GeomEncoder) (out : List ℕ) (q : GeomEncoder) (i : ℕ) : Type 0 where
  pub upto : i ≤ to
  pub long : length out ≡ length out₀
  pub sound : Sound q (length out)
  pub rest : go (add_calls (part (points_of l) from to)) from s out₀ ≡ go (add_calls (part (points_of l) i to)) i q out

pub run_start : (l : List ℤ) (from to : ℕ) (out : List ℕ) (s : GeomEncoder) → from ≤ to → Sound s (length out) → Running l from to out s out s from
run_start l from to out s h S = record { upto = h; long = refl; sound = S; rest = refl }

module _ (l : List ℤ) (from to : ℕ) (out₀ : List ℕ) (s : GeomEncoder) (k : to ≤ length l / 2) where
  -- one more accepted point
  one_more : (i : ℕ) (q t : GeomEncoder) (out o : List ℕ) → i < to → Gives (call (add (point_in l i)) q out) (done t) o → length o ≡ length out →
      Running l from to out₀ s out q i → Running l from to out₀ s o t (i + 1)
  one_more i q t out o h g f I = record {
    upto = omega arith;
    long = f ∙ I.long;
    sound = (add_sound q (point_in l i) out t o I.sound (λ j. kept (sym g.answer j) (sym g.memory j))).0;
    rest = I.rest ∙ rw (part_more l i to h k) (go_on (add (point_in l i)) (add_calls (part (points_of l) (i + 1) to)) i q t out o g);
  }

  module _ (out : List ℕ) (q : GeomEncoder) (i : ℕ) (I : Running l from to out₀ s out q i) where
    pub run_all : to ≤ i → Gives (go (add_calls (part (points_of l) from to)) from s out₀) (outcome_of to (Ok q)) out
    run_all h =
        let e : i ≡ to = omega (arith, I.upto) in
        rw (I.rest, part_over (points_of l) i to e) (record { answer = ap (λ (n : ℕ). on n q) (sym e); memory = refl })

    -- a stretch of them
    pub run_stretch : (x : Stretch) (y : List ℕ) → Gives (stretched q l i to out) x y → Running l from to out₀ s y x.state x.reached × (i ≤ x.reached)
    run_stretch x y g = rw (g.answer, g.memory) (stretch_keeps l to Holds step q i out I.sound (I, omega arith))
      where
        Holds : ℕ → GeomEncoder → List ℕ → Type 0
        Holds j p m = Running l from to out₀ s m p j × (i ≤ j)

        step : (j : ℕ) (p t : GeomEncoder) (m o : List ℕ) → j < to → added p (point_in l j) m ≡ kept (done t) o → length o ≡ length m → Holds j p m → Holds (j + 1) t o
        step j p t m o h a f J = (one_more j p t m o h (rw a (record { answer = refl; memory = refl })) f J.0, let b = J.1 in omega arith)

    pub run_valid : valid q (length out) ≡ true
    run_valid = valid_is q (length out) I.sound.valid

    module _ (h : i < to) (r : Result (GeomEncoder × Edges) (Refused GeomEncoder)) (o : List ℕ)
        (m : mag (get_or l (2 * i) (pos 0)) < 2 ^ 31) (n : mag (get_or l (2 * i + 1) (pos 0)) < 2 ^ 31)
        (g : Gives (added q (point_at (to_z w32 (of_z w32 (get_or l (2 * i) (pos 0)))) (to_z w32 (of_z w32 (get_or l (2 * i + 1) (pos 0))))) out) (said_drawn r) o) where
      given : Gives (call (add (point_in l i)) q out) (said_drawn r) o
      given = rw (to_z-of_z (sfits_of m), to_z-of_z (sfits_of n)) at g

      opened : go (add_calls (part (points_of l) from to)) from s out₀ ≡ go (add (point_in l i) ∷ add_calls (part (points_of l) (i + 1) to)) i q out
      opened = I.rest ∙ rw (part_more l i to h k)

      pub run_turn : (t : GeomEncoder) (v : Edges) → r ≡ Ok (t, v) → length o ≡ length out → Running l from to out₀ s o t (i + 1)
      run_turn t v e f = one_more i q t out o h (rw e at given) f I

      pub run_stop : (x : Refused GeomEncoder) → r ≡ Err x → Gives (go (add_calls (part (points_of l) from to)) from s out₀) (outcome_of to (Err (record { refusal = x.refusal; kept = i }))) o
      run_stop x e =
          let g' : Gives (call (add (point_in l i)) q out) (turned x.refusal x.kept) o = rw e at given in
          rw (opened ∙ go_off (add (point_in l i)) (add_calls (part (points_of l) (i + 1) to)) i q x.kept out o x.refusal g')
          (record { answer = refl; memory = off_list (add (point_in l i)) (add_calls (part (points_of l) (i + 1) to)) i q x.kept out o x.refusal g' })

-- ---- `add_each`: i points of the list are added, from any state
pub record Each (l : List ℤ) (out₀ : List ℕ) (s : GeomEncoder) (out : List ℕ) (q : GeomEncoder) (i : ℕ) : Type 0 where
  pub upto : i ≤ length l / 2
  pub long : length out ≡ length out₀
  pub rest : added_run s l out₀ ≡ go (add_calls (drop i (points_of l))) i q out

pub each_start : (l : List ℤ) (out : List ℕ) (s : GeomEncoder) → Each l out s out s 0
unfolding added_run
each_start l out s = record { upto = omega arith; long = refl; rest = refl }

count_points : (l : List ℤ) → length (points_of l) ≡ length l / 2
count_points [] = refl
count_points (x ∷ []) = omega arith
count_points (x ∷ y ∷ l) = let h = count_points l in omega arith

module _ (l : List ℤ) (out₀ : List ℕ) (s : GeomEncoder) (out : List ℕ) (q : GeomEncoder) (i : ℕ) (I : Each l out₀ s out q i) where
  pub each_all : length l / 2 ≤ i → Gives (added_run s l out₀) (end_of l (Ok q)) out
  each_all h =
      let e : i ≡ length l / 2 = omega (arith, I.upto) in
      let n : length (points_of l) ≤ i = omega (arith, count_points l) in
      rw (I.rest, drop_of_length-le (points_of l) n) (record { answer = ap (λ (n : ℕ). on n q) (sym e); memory = refl })

  module _ (h : i < length l / 2) (r : Result (GeomEncoder × Edges) (Refused GeomEncoder)) (o : List ℕ)
      (m : mag (get_or l (2 * i) (pos 0)) < 2 ^ 31) (n : mag (get_or l (2 * i + 1) (pos 0)) < 2 ^ 31)
      (g : Gives (added q (point_at (to_z w32 (of_z w32 (get_or l (2 * i) (pos 0)))) (to_z w32 (of_z w32 (get_or l (2 * i + 1) (pos 0))))) out) (said_drawn r) o) where
    asked : Gives (call (add (point_in l i)) q out) (said_drawn r) o
    asked = rw (to_z-of_z (sfits_of m), to_z-of_z (sfits_of n)) at g

    next_call : added_run s l out₀ ≡ go (add (point_in l i) ∷ add_calls (drop (i + 1) (points_of l))) i q out
    next_call = I.rest ∙ rw (points_at l i h)

    pub each_turn : (t : GeomEncoder) (v : Edges) → r ≡ Ok (t, v) → length o ≡ length out → Each l out₀ s o t (i + 1)
    each_turn t v e f = record { upto = omega arith; long = f ∙ I.long; rest = next_call ∙ go_on (add (point_in l i)) (add_calls (drop (i + 1) (points_of l))) i q t out o (rw e at asked) }

    pub each_stop : (x : Refused GeomEncoder) → r ≡ Err x → Gives (added_run s l out₀) (end_of l (Err (record { refusal = x.refusal; kept = i }))) o
    each_stop x e =
        let g' : Gives (call (add (point_in l i)) q out) (turned x.refusal x.kept) o = rw e at asked in
        rw (next_call ∙ go_off (add (point_in l i)) (add_calls (drop (i + 1) (points_of l))) i q x.kept out o x.refusal g')
        (record { answer = refl; memory = off_list (add (point_in l i)) (add_calls (drop (i + 1) (points_of l))) i q x.kept out o x.refusal g' })

-- ---- `add_points`: the two tests make a state sound, and all points are a run
placed_is : (p : Option Pt) (place used : ℕ) → is_placed p place used ≡ true → is_there p ≡ true → place < used
placed_is None place used e h = absurd (let z : ◌≡◌ {A = ℕ} 0 1 = cc in omega arith)
placed_is (Some p) place used e h = ltb-true place used e

module _ (s : GeomEncoder) (n : ℕ) (v p : Bool) (e : v ≡ valid s n) (f : p ≡ is_placed s.pt1 s.cmd_offset s.used) where
  pub tests_sound : (v && p) ≡ true → Sound s n
  tests_sound h =
      let (a, b) = both v p h in
      record { valid = valid_facts s n (sym e ∙ a); points = placed_is s.pt1 s.cmd_offset s.used (sym f ∙ b) }

pub whole_run : (l : List ℤ) (s : GeomEncoder) (out : List ℕ) (r : Result GeomEncoder (Refused ℕ)) (o : List ℕ) →
    Gives (go (add_calls (part (points_of l) 0 (length l / 2))) 0 s out) (outcome_of (length l / 2) r) o → Gives (added_run s l out) (end_of l r) o
unfolding added_run
whole_run l s out r o g =
    let n : ℕ = length l / 2 - 0 in
    let e : part (points_of l) 0 (length l / 2) ≡ points_of l = take_all n (points_of l) (omega (arith, count_points l)) in
    subst (λ (ps : List Pt). Gives (go (add_calls ps) 0 s out) (outcome_of (length l / 2) r) o) e g

-- ---- the same calls, with k points more accepted before them
abbrev shifted : ℕ → Outcome → Outcome
shifted k (on n s) = on (k + n) s
shifted k (off a) = off (record { number = a.number; place = a.place; values = k + a.values })

abbrev later : ℕ → Written Outcome (List ℕ) → Written Outcome (List ℕ)
later k w = record { answer = shifted k w.answer; memory = w.memory }

taken_later : (c : Call) (k n : ℕ) → taken c (k + n) ≡ k + taken c n
taken_later (add p) k n = omega arith
taken_later complete k n = refl

go_shift : (cs : List Call) (k n : ℕ) (s : GeomEncoder) (out : List ℕ) → go cs (k + n) s out ≡ later k (go cs n s out)
go_shift [] k n s out = refl
go_shift (c ∷ cs) k n s out =
    by (eqb (call c s out).answer.number 0) (go cs (taken c (k + n)) (call c s out).answer.values.state (call c s out).memory)
    (go cs (taken c n) (call c s out).answer.values.state (call c s out).memory)
    (ap (λ (m : ℕ). go cs m (call c s out).answer.values.state (call c s out).memory) (taken_later c k n) ∙ go_shift cs k (taken c n) (call c s out).answer.values.state (call c s out).memory)
  where
    by : (b : Bool) (x y : Written Outcome (List ℕ)) → x ≡ later k y →
        cond b x (kept (off (stopped (k + n) (call c s out).answer)) out) ≡ later k (cond b y (kept (off (stopped n (call c s out).answer)) out))
    by true x y e = e
    by false x y e = refl

-- ---- a run of a part's first points, then the rest of the part
calls_split : (xs ys : List Pt) → part_calls (xs ++ ys) ≡ add_calls xs ++ part_calls ys
calls_split [] ys = refl
calls_split (x ∷ xs) ys = ap (λ (cs : List Call). add x ∷ cs) (calls_split xs ys)

module _ (l : List ℤ) (i : ℕ) (q : GeomEncoder) (out : List ℕ) (ys : List Pt) (r : Result GeomEncoder (Refused ℕ)) (o : List ℕ) (g : Gives (added_run q l out) (end_of l r) o) where
  run_then : go (part_calls (points_of l ++ ys)) i q out ≡ then (shifted i (end_of l r)) (part_calls ys) o
  unfolding added_run
  run_then =
      let z : i ≡ i + 0 = omega arith in
      ap (λ (cs : List Call). go cs i q out) (calls_split (points_of l) ys) ∙ go_then (part_calls ys) (add_calls (points_of l)) i q out
      ∙ ap (λ (w : Written Outcome (List ℕ)). then w.answer (part_calls ys) w.memory) (ap (λ (n : ℕ). go (add_calls (points_of l)) n q out) z ∙ go_shift (add_calls (points_of l)) i 0 q out)
      ∙ (λ k. then (shifted i (sym g.answer k)) (part_calls ys) (sym g.memory k))

  pub run_on : (t : GeomEncoder) → r ≡ Ok t → go (part_calls (points_of l ++ ys)) i q out ≡ go (part_calls ys) (i + length l / 2) t o
  run_on t e = run_then ∙ ap (λ (c : Result GeomEncoder (Refused ℕ)). then (shifted i (end_of l c)) (part_calls ys) o) e

  pub run_off : (to : ℕ) (x : Refused ℕ) → r ≡ Err x → Gives (go (part_calls (points_of l ++ ys)) i q out) (outcome_of to (Err (record { refusal = x.refusal; kept = i + x.kept }))) o
  run_off to x e = rw (run_then ∙ ap (λ (c : Result GeomEncoder (Refused ℕ)). then (shifted i (end_of l c)) (part_calls ys) o) e) (record { answer = refl; memory = refl })

-- ---- a refused run has accepted no more points than there are
said_values : Outcome → ℕ
said_values (on n s) = 0
said_values (off a) = a.values

taken_one : (c : Call) (n : ℕ) → taken c n ≤ n + 1
taken_one (add p) n = omega arith
taken_one complete n = omega arith

off_count : (cs : List Call) (n : ℕ) (s : GeomEncoder) (out : List ℕ) → said_values (go cs n s out).answer ≤ n + length cs
unfolding said_values
off_count [] n s out = omega arith
off_count (c ∷ cs) n s out =
    by (eqb (call c s out).answer.number 0) (go cs (taken c n) (call c s out).answer.values.state (call c s out).memory)
    (off_count cs (taken c n) (call c s out).answer.values.state (call c s out).memory)
  where
    by : (b : Bool) (w : Written Outcome (List ℕ)) → said_values w.answer ≤ taken c n + length cs → said_values (cond b w (kept (off (stopped n (call c s out).answer)) out)).answer ≤ n + length (c ∷ cs)
    by true w h = omega (arith, taken_one c n)
    by false w h = omega arith

calls_long : (ps : List Pt) → length (add_calls ps) ≡ length ps
calls_long [] = refl
calls_long (p ∷ ps) = ap suc (calls_long ps)

pub run_within : (l : List ℤ) (s : GeomEncoder) (out : List ℕ) (x : Refused ℕ) (o : List ℕ) → Gives (added_run s l out) (end_of l (Err x)) o → x.kept ≤ length l / 2
unfolding added_run said_values
run_within l s out x o g =
    let h = off_count (add_calls (points_of l)) 0 s out in
    let e : x.kept ≡ said_values (go (add_calls (points_of l)) 0 s out).answer = ap said_values g.answer in
    omega (arith, calls_long (points_of l), count_points l)

-- ---- an accepted one keeps the state sound
pub run_sound : (l : List ℤ) (s : GeomEncoder) (out : List ℕ) (t : GeomEncoder) (o : List ℕ) → Sound s (length out) → Gives (added_run s l out) (end_of l (Ok t)) o → Sound t (length o)
unfolding added_run
run_sound l s out t o S g = rw g.memory (go_sound (add_calls (points_of l)) 0 s out S (length l / 2) t (sym g.answer))

-- ---- the points of a list's first numbers, and of those behind them
twice_suc : (n : ℕ) → 2 * suc n ≡ suc (suc (2 * n))
twice_suc n = omega arith

pub points_take : (n : ℕ) (l : List ℤ) → points_of (take (2 * n) l) ≡ take n (points_of l)
points_take zero l = refl
points_take (suc n) [] = rw (twice_suc n)
points_take (suc n) (x ∷ []) = rw (twice_suc n)
points_take (suc n) (x ∷ y ∷ l) = rw (twice_suc n) (ap (λ (ps : List Pt). point_at x y ∷ ps) (points_take n l))

pub points_drop : (n : ℕ) (l : List ℤ) → points_of (drop (2 * n) l) ≡ drop n (points_of l)
points_drop zero l = refl
points_drop (suc n) [] = rw (twice_suc n)
points_drop (suc n) (x ∷ []) = rw (twice_suc n)
points_drop (suc n) (x ∷ y ∷ l) = rw (twice_suc n) (points_drop n l)

-- ---- a run of all points of a part, which is then to be completed
module _ (l : List ℤ) (from to : ℕ) (h : from ≤ to) (s : GeomEncoder) (out : List ℕ) (S : Sound s (length out)) (r : Result GeomEncoder (Refused ℕ)) (o : List ℕ)
    (g : Gives (go (add_calls (part (points_of l) from to)) from s out) (outcome_of to r) o) where
  part_then : go (part_calls (part (points_of l) from to)) from s out ≡ then (outcome_of to r) (complete ∷ []) o
  part_then =
      ap (λ (ps : List Pt). go (part_calls ps) from s out) (sym (append-nil (part (points_of l) from to))) ∙ ap (λ (cs : List Call). go cs from s out) (calls_split (part (points_of l) from to) [])
      ∙ go_then (complete ∷ []) (add_calls (part (points_of l) from to)) from s out ∙ (λ k. then (sym g.answer k) (complete ∷ []) (sym g.memory k))

  pub whole_part_on : (q : GeomEncoder) → r ≡ Ok q → length o ≡ length out → Adding l from to out s o q to
  whole_part_on q e f = record {
    upto = omega arith;
    long = f;
    sound = rw g.memory (go_sound (add_calls (part (points_of l) from to)) from s out S to q (sym g.answer ∙ ap (outcome_of to) e));
    rest = part_then ∙ rw (e, part_over (points_of l) to to refl);
  }

  pub whole_part_off : (x : Refused ℕ) → r ≡ Err x → Gives (go (part_calls (part (points_of l) from to)) from s out) (outcome_of to (Err x)) o
  whole_part_off x e = rw (part_then, e) (record { answer = refl; memory = refl })
