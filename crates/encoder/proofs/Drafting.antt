-- Laws of drafts: a state and its draft, one emission planned, and the words of one emission written.
--     whole                       a state's draft is the state
--     next-two next_skip          the returns of `emit_point`
--     written                     what `write_point` lays
use Rattle.std.specs.Prelude.{Option, Some, None, is_some}
use Rattle.std.specs.Bool.{then_some}
use mathlib.Core.Path.{◌≡◌, refl, sym, ◌∙◌, ap, subst}
use mathlib.Core.Bool.{Bool, true, false, cond, not, ◌&&◌}
use mathlib.Core.List.{List, [], ◌∷◌, ◌++◌}
use Prim.Native.Nat.{ℕ, ◌+◌, ◌-◌, ◌≤◌, ◌<◌}
use native.Mathlib.Omega.{arith}
use borrow.Author.Tests.{eq-eqb, ne_eqb, leb-true}
use lib.Dec.{leb, eqb}
use lib.ListN.{length, set, length-append}
use Rattle.promise.specs.Laid.{lay}
use Rattle.promise.proofs.Laying.{lay_one, lay_next, lay_nothing}
use Rattle.clip.specs.declared.Pt.{Pt}
use Rattle.clip.specs.Facts.{Coord}
use Rattle.clip.proofs.Callers.{coord_facts}
use Rattle.encoder.specs.declared.GeomEncoder.{GeomEncoder}
use Rattle.encoder.specs.declared.boundary.Ends.{Ends}
use Rattle.encoder.specs.declared.draft.Draft.{Draft}
use Rattle.encoder.specs.declared.plan.Plan.{Plan}
use Rattle.encoder.specs.declared.pen.Pen.{Pen}
use Rattle.encoder.specs.Points.{in_limit, missing, is_last, same_pt, between, last_between, last_of}
use Rattle.encoder.specs.Boundary.{maybe, list_of, ends_of}
use Rattle.encoder.specs.Pushed.{word_of, command}
use Rattle.encoder.specs.Emitting.{Emission, taken_out, popped, steps, pushed, begun, skipped, emitted_at}
use Rattle.encoder.specs.Adding.{counted, ended}
use Rattle.encoder.specs.Planning.{plan_limit, Ready, Few}
use Rattle.encoder.specs.Tallies.{max_tally}
use Rattle.encoder.specs.Pens.{with_raw, again, taken, before_push, onward}
use Rattle.encoder.specs.Drafts.{draft_of, state_in, with_pen, ringing, pushed_to, behind, pushed_by, one_if, taken_by, emitted_if, Writable, WritableIf, EndsFit, AllFit, laid_ends, laid_all}
use Rattle.promise.proofs.Joined.{both}
use Rattle.encoder.proofs.Coords.{last_coord}
use Rattle.encoder.proofs.Pushing.{out_count}
use Rattle.encoder.proofs.Steps.{command_cases}

-- ---- states
there : (m : Option Pt) → maybe (not (missing m)) (last_of m) ≡ m
there None = refl
there (Some p) = refl

pub whole : (s : GeomEncoder) → state_in (draft_of s) ≡ s
whole s = rw (there s.xy_end, there s.pt0, there s.pt1)

some_is : (m : Option Pt) → is_some m ≡ not (missing m)
some_is None = refl
some_is (Some p) = refl

-- ---- a point taken
pub one_most : (end : Option Pt) (n : ℕ) → n ≡ one_if end → n ≤ 1
one_most (Some p) n e = omega arith
one_most None n e = omega arith

pub taken_is : (d : Draft) (e : Ends) (a b : ℕ) → a ≡ one_if e.end0 → b ≡ one_if e.end1 →
    record { kind = d.kind; bbox = d.bbox; pen = d.pen; joins = d.joins; has0 = d.has0; has1 = d.has1; place = d.place; taken = d.taken + 1; boundary = d.boundary + (a + b) } ≡ taken_by d e
taken_is d e a b f g = rw (f, g)

-- the ends that moved are as many as the boundary points
ends_counted : (e : Ends) → length (ends_of e) ≡ one_if e.end0 + one_if e.end1
ends_counted e = by e.end0 e.end1
  where
    by : (a b : Option Pt) → length (list_of a ++ list_of b) ≡ one_if a + one_if b
    by (Some p) (Some q) = refl
    by (Some p) None = refl
    by None (Some q) = refl
    by None None = refl

pub taken_state : (d : Draft) (e : Ends) (l : List Pt) → ends_of e ≡ l → state_in (taken_by d e) ≡ counted 1 (length l) (state_in d)
taken_state d e l f = rw (← f, ends_counted e)

-- ---- the last point again
pub again_is : (h t : Bool) (p q : Pt) → t ≡ same_pt p q → (h && t) ≡ is_last (maybe h p) q
again_is true t p q e = e
again_is false t p q e = refl

module _ (d : Draft) where
  pub skip_is : (pen : Pen) → pen ≡ again d.pen → (n : ℕ) → n ≡ begun pen.count →
      state_in (with_pen d (record { raw = pen.raw; pt0 = pen.pt0; pt1 = pen.pt1; count = n; used = pen.used; skipped = pen.skipped; taken_out = pen.taken_out })) ≡ (skipped (state_in d)).next
  skip_is pen g n e = rw (e, g)

-- ---- taking out
module _ (d : Draft) (q : Pt) where
  out_is : (ringing d && between d.pen.pt0 d.pen.pt1 q) ≡ taken_out (state_in d) q
  out_is = by (eqb d.kind 3 && leb 2 d.pen.count) d.has0 d.has1
    where
      by : (x h k : Bool) → (x && h && k && between d.pen.pt0 d.pen.pt1 q) ≡ (x && last_between (maybe h d.pen.pt0) (maybe k d.pen.pt1) q)
      by true true true = refl
      by true true false = refl
      by true false k = refl
      by false h k = refl

  both_there : taken_out (state_in d) q ≡ true → (d.has0 ≡ true) × (d.has1 ≡ true)
  both_there e =
      let (r, w) = both (ringing d) (between d.pen.pt0 d.pen.pt1 q) (out_is ∙ e) in
      let (x, k) = both (eqb d.kind 3 && leb 2 d.pen.count && d.has0) d.has1 r in
      ((both (eqb d.kind 3 && leb 2 d.pen.count) d.has0 x).1, k)

  base_is : state_in (with_pen d (before_push (ringing d) d.pen q)) ≡ cond (taken_out (state_in d) q) (popped (state_in d)) (state_in d)
  base_is = rw out_is (by (taken_out (state_in d) q) refl)
    where
      by : (t : Bool) → taken_out (state_in d) q ≡ t → state_in (with_pen d (cond t (taken d.pen) d.pen)) ≡ cond t (popped (state_in d)) (state_in d)
      by true e = let (h, k) = both_there e in rw (h, k)
      by false e = refl

  module _ (R : Ready plan_limit (state_in d)) where
    may_pop : (t : Bool) → t ≡ ringing d → t ≡ true → (2 ≤ d.pen.count) × (2 ≤ d.pen.used)
    may_pop t e h =
        let (x, k) = both (eqb d.kind 3 && leb 2 d.pen.count && d.has0) d.has1 (sym e ∙ h) in
        let (y, j) = both (eqb d.kind 3 && leb 2 d.pen.count) d.has0 x in
        let (z, i) = both (eqb d.kind 3) (leb 2 d.pen.count) y in
        let c = leb-true 2 d.pen.count i in
        (c, omega (arith, R.counted))

    pub base_fits : (t : Bool) (base : Pen) → base ≡ before_push t d.pen q → (base.count ≤ plan_limit) × (base.used ≤ plan_limit)
    base_fits t base e = subst (λ (x : Pen). (x.count ≤ plan_limit) × (x.used ≤ plan_limit)) (sym e) (by (t && between d.pen.pt0 d.pen.pt1 q))
      where
        by : (u : Bool) → ((cond u (taken d.pen) d.pen).count ≤ plan_limit) × ((cond u (taken d.pen) d.pen).used ≤ plan_limit)
        by true = let h : d.pen.count - 1 ≤ plan_limit = omega (arith, R.few, R.counted) in let k : d.pen.used - 2 ≤ plan_limit = omega (arith, R.few) in (h, k)
        by false = (omega (arith, R.few, R.counted), R.few)

  -- ---- the returns of `emit_point`
  module _ (t : Bool) (a : t ≡ is_last (state_in d).pt1 q) (r : Draft) where
    pub next_skip : t ≡ true → state_in r ≡ (skipped (state_in d)).next → state_in r ≡ (emitted_at (state_in d) q).next
    next_skip h e = rw (sym a ∙ h) e

    pub next_push : t ≡ false → (u : Bool) → u ≡ ringing d → (base : Pen) → base ≡ before_push u d.pen q → (word : Option ℕ) → word_of word ≡ command d.kind d.pen.count →
        r ≡ pushed_by word d base q → state_in r ≡ (emitted_at (state_in d) q).next
    next_push h u v base e word w f =
        let b : base ≡ before_push (ringing d) d.pen q = rw v at e in
        rw (sym a ∙ h) (ap state_in f ∙ by word base ∙
        (λ i. (pushed (word_of word) (state_in (with_pen d (b i))) q).next) ∙
        (λ i. (pushed (w i) (base_is i) q).next))
      where
        by : (word : Option ℕ) (base : Pen) → state_in (pushed_by word d base q) ≡ (pushed (word_of word) (state_in (with_pen d base)) q).next
        by None base = refl
        by (Some x) base = let z : base.used + 1 + 2 ≡ base.used + 3 = omega arith in rw z

pub pushed_is : (d : Draft) (base : Pen) (q : Pt) (place : ℕ) (pen : Pen) → pen ≡ (onward base q).pen →
    record { kind = d.kind; bbox = d.bbox; pen = pen; joins = d.joins; has0 = d.has1; has1 = true; place = place; taken = d.taken; boundary = d.boundary } ≡ pushed_to d base q place
pushed_is d base q place pen e = rw e

-- ---- the returns of `write_command`
module _ (kind count at : ℕ) (word : Option ℕ) (e : word_of word ≡ command kind count) (l : List ℕ) where
  module _ (h : at + length (command kind count) ≤ length l) (w : ℕ) (f : word ≡ Some w) where
    is_word : w ∷ [] ≡ command kind count
    is_word = rw f at e

    pub word_room : at < length l
    word_room = let k : at + length (w ∷ []) ≤ length l = subst (λ (c : List ℕ). at + length c ≤ length l) (sym is_word) h in omega arith

-- ---- the words of one emission
module _ (d next : Draft) (q : Pt) (n : ℕ) (W : Writable d next q n) (t : Bool) (a : t ≡ is_last (state_in d).pt1 q) where
  module _ (h : t ≡ false) where
    from_state : GeomEncoder
    from_state = cond (taken_out (state_in d) q) (popped (state_in d)) (state_in d)

    abbrev cmd : List ℕ
    cmd = command d.kind d.pen.count

    is_pushed : emitted_at (state_in d) q ≡ pushed cmd from_state q
    unfolding from_state
    is_pushed = rw (sym a ∙ h)

    after_is : state_in next ≡ (pushed cmd from_state q).next
    after_is = W.after ∙ ap (λ (e : Emission). e.next) is_pushed

    used_is : next.pen.used ≡ from_state.used + length (cmd ++ steps (last_of from_state.pt1) q)
    used_is = ap (λ (s : GeomEncoder). s.used) after_is

    last_is : maybe next.has0 next.pen.pt0 ≡ from_state.pt1
    last_is = ap (λ (s : GeomEncoder). s.pt0) after_is

    -- a command is due only where no point is taken out
    record Told (c : List ℕ) : Type 0 where
      pub short : length c ≤ 1
      pub same : 0 < length c → from_state.used ≡ d.pen.used

    told : Told cmd
    unfolding from_state
    told = command_cases Told d.kind d.pen.count
        (λ e. record { short = omega arith; same = λ z. kept (λ c. omega arith) })
        (λ e k. record { short = omega arith; same = λ z. kept (λ c. omega arith) })
        (λ e k. record { short = omega arith; same = λ z. absurd (omega arith) })
      where
        kept : (2 ≤ d.pen.count → ⊥) → (cond (taken_out (state_in d) q) (popped (state_in d)) (state_in d)).used ≡ d.pen.used
        kept few = by (taken_out (state_in d) q) refl
          where
            by : (u : Bool) → taken_out (state_in d) q ≡ u → (cond u (popped (state_in d)) (state_in d)).used ≡ d.pen.used
            by true e = absurd (few (out_count (state_in d) q e))
            by false e = refl

    enough : d.pen.used ≤ from_state.used + 2
    unfolding from_state
    enough = by (taken_out (state_in d) q)
      where
        by : (u : Bool) → d.pen.used ≤ (cond u (popped (state_in d)) (state_in d)).used + 2
        by true = let k : d.pen.used ≤ d.pen.used - 2 + 2 = omega arith in k
        by false = omega arith

    grown : next.pen.used ≡ from_state.used + length cmd + 2
    grown = let l : length (cmd ++ steps (last_of from_state.pt1) q) ≡ length cmd + 2 = simp length-append in omega (arith, used_is)

    pub word_asked : d.pen.used + length cmd ≤ n
    word_asked = by cmd told grown
      where
        by : (c : List ℕ) → Told c → next.pen.used ≡ from_state.used + length c + 2 → d.pen.used + length c ≤ n
        by [] T g = omega (arith, W.fits, enough)
        by (w ∷ c) T g = let e = T.same (omega arith) in omega (arith, W.fits)

    limit : in_limit from_state.pt1 ≡ true
    unfolding from_state
    limit = by (taken_out (state_in d) q)
      where
        by : (u : Bool) → in_limit (cond u (popped (state_in d)) (state_in d)).pt1 ≡ true
        by true = W.ready.at0
        by false = W.ready.at1

    pub steps_asked : (m : Option Pt) → m ≡ then_some next.has0 next.pen.pt0 → (from : Pt) → from ≡ last_of m → (k : ℕ) → k ≡ n → (next.pen.used - 2 + 2 ≤ k) × (Coord from × Coord q)
    steps_asked m i from e k l =
        let c : Coord from = rw (e, i, last_is) (last_coord from_state.pt1 limit) in
        (omega (arith, grown, W.fits, l), (c, coord_facts W.coord))

    pub written : (out o₁ o₂ : List ℕ) → n ≡ length out → o₁ ≡ lay d.pen.used cmd out → (m : Option Pt) → m ≡ then_some next.has0 next.pen.pt0 → (from : Pt) → from ≡ last_of m →
        o₂ ≡ lay (next.pen.used - 2) (steps from q) o₁ → o₂ ≡ lay (emitted_at (state_in d) q).at (emitted_at (state_in d) q).run out
    written out o₁ o₂ z e m i from f g =
        let l : from ≡ last_of from_state.pt1 = f ∙ ap last_of (i ∙ last_is) in
        rw is_pushed (g ∙ rw (l, e) (by cmd told grown (steps (last_of from_state.pt1) q)))
      where
        by : (c : List ℕ) → Told c → next.pen.used ≡ from_state.used + length c + 2 → (st : List ℕ) → lay (next.pen.used - 2) st (lay d.pen.used c out) ≡ lay from_state.used (c ++ st) out
        by [] T g st = let k : next.pen.used - 2 ≡ from_state.used = omega arith in rw (k, lay_nothing d.pen.used out)
        by (w ∷ []) T g st =
            let k : next.pen.used - 2 ≡ d.pen.used + 1 = let s = T.same (omega arith) in omega arith in
            let s : from_state.used ≡ d.pen.used = T.same (omega arith) in
            rw (k, s) (lay_next d.pen.used (w ∷ []) st out (omega (arith, W.fits)))
        by (w ∷ v ∷ c) T g st = absurd (let h = T.short in omega arith)

-- ---- one emission written after the other
module _ (d : Draft) (plan : Plan) (e : Ends) (n m : ℕ) (l : m ≡ n) where
  pub second_fits : EndsFit d plan e n → WritableIf plan.first plan.second e.end1 m
  second_fits F q h = rw l (F.second q h)

module _ (d : Draft) (plan : Plan) (e : Ends) (out o₁ o₂ : List ℕ) where
  pub all_laid : (q : Pt) → o₁ ≡ laid_ends d plan e out → o₂ ≡ lay (emitted_at (state_in plan.second) q).at (emitted_at (state_in plan.second) q).run o₁ → o₂ ≡ laid_all d plan e q out
  all_laid q f g = g ∙ ap (lay (emitted_at (state_in plan.second) q).at (emitted_at (state_in plan.second) q).run) f
