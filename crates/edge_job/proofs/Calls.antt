-- One call with its entries, by the code's tests; and laws of calls in order: one more call, and calls after calls.
use mathlib.Core.Path.{◌≡◌, refl, sym, ◌∙◌, ap}
use mathlib.Core.Bool.{Bool, true, false, cond, not}
use mathlib.Core.List.{List, [], ◌∷◌, ◌++◌}
use Prim.Native.Nat.{ℕ, ◌+◌, ◌*◌, ◌/◌, ◌≤◌}
use native.Mathlib.Omega.{arith}
use borrow.Author.Tests.{eq-eqb, ne_eqb, le-leb, lt-leb}
use lib.Dec.{eqb}
use lib.ListN.{length, set}
use Rattle.promise.specs.Answers.{Written, Gives, kept}
use Rattle.promise.specs.Laid.{lay}
use Rattle.promise.proofs.Stores.{two_stores}
use Rattle.refusal.specs.declared.Refusal.{Refusal}
use Rattle.refusal.specs.declared.Refusal.TheVariants.{State, Coord, Room}
use Rattle.refusal.specs.Refusals.{number_of}
use Rattle.refusal.specs.Said.{Said, refused}
use Rattle.refusal.proofs.Laws.{numbered, not_zero, never_zero}
use Rattle.clip.specs.declared.Pt.{Pt}
use Rattle.clip.specs.Domain.{is_coord}
use Rattle.clip.specs.Numbers.{edge_number}
use Rattle.encoder.specs.declared.GeomEncoder.{GeomEncoder}
use Rattle.encoder.specs.declared.Edges.{Edges}
use Rattle.encoder.specs.States.{valid}
use Rattle.refusal.specs.declared.Refused.{Refused}
use Rattle.std.specs.Prelude.{Result, Ok, Err}
use Rattle.encoder.specs.Answers.{Counted, done, turned, said_drawn, edges_of, passed}
use Rattle.encoder.specs.Adding.{added, edges}
use Rattle.encoder.specs.Completing.{completed}
use Rattle.encoder.specs.Calls.{Call, add, complete}
use Rattle.encoder.specs.Jobs.{Outcome, on, off, taken, stopped}
use Rattle.encoder.proofs.States.{yes_of, no_of}
use Rattle.encoder.proofs.Accepted.{refused_keeps}
use Rattle.edge_job.specs.EdgeJobs.{Lists, lists, entries, unroomed, has_entries, with_entries, edged, ended, call, go}

-- ---- the entries
pub both_entries : (l : List ℕ) (i : ℕ) (e : Edges) (a b : ℕ) → 2 * i + 2 ≤ length l → a ≡ edge_number e.first → b ≡ edge_number e.second →
    set (set l (2 * i) a) (2 * i + 1) b ≡ lay (2 * i) (entries e) l
both_entries l i e a b h f g = two_stores l (2 * i) a b h ∙ rw (f, g)

-- ---- why a point without entries is refused
module _ (s : GeomEncoder) (p : Pt) (n : ℕ) (v : Bool) (e : v ≡ valid s n) where
  pub for_state : not v ≡ true → State ≡ unroomed s p n
  for_state h = rw (no_of v (valid s n) e h)

  module _ (h : not v ≡ false) (t : Bool) (f : t ≡ is_coord p) where
    pub for_coord : not t ≡ true → Coord ≡ unroomed s p n
    for_coord k = rw (yes_of v (valid s n) e h, no_of t (is_coord p) f k)

    pub for_room : not t ≡ false → Room ≡ unroomed s p n
    for_room k = rw (yes_of v (valid s n) e h, yes_of t (is_coord p) f k)

-- ---- the returns of `add_point`
module _ (s : GeomEncoder) (p : Pt) (i : ℕ) (out l : List ℕ) where
  pub no_entries : length l / 2 ≤ i → (r : Refusal) → r ≡ unroomed s p (length out) → Gives (edged s p i (lists out l)) (turned r s) (lists out l)
  unfolding edged
  no_entries h r e = rw (lt-leb (2 * i + 2) (length l) (omega arith)) (record { answer = ap (λ (x : Refusal). turned x s) e; memory = refl })

  module _ (h : 2 * i + 2 ≤ length l) (o : List ℕ) where
    point_on : (t : GeomEncoder) (e : Edges) → Gives (added s p out) (done t) o → e ≡ passed (added s p out).answer (edges s p) → (m : List ℕ) → m ≡ lay (2 * i) (entries e) l →
        Gives (edged s p i (lists out l)) (done t) (lists o m)
    unfolding edged
    point_on t e g f m k =
        let z : 0 ≡ (added s p out).answer.number = ap (λ (x : Said Counted). x.number) g.answer in
        let n : eqb (added s p out).answer.number 0 ≡ true = eq-eqb (added s p out).answer.number 0 (sym z) in
        let f' : e ≡ edges s p = rw n at f in
        let k' : m ≡ lay (2 * i) (entries (edges s p)) l = k ∙ ap (λ (x : Edges). lay (2 * i) (entries x) l) f' in
        rw (le-leb (2 * i + 2) (length l) h, n) (record { answer = g.answer; memory = λ j. lists (g.memory j) (k' j) })

    point_off : (r : Refusal) (t : GeomEncoder) → Gives (added s p out) (turned r t) o → Gives (edged s p i (lists out l)) (turned r t) (lists o l)
    unfolding edged
    point_off r t g =
        let z : number_of r ≡ (added s p out).answer.number = ap (λ (x : Said Counted). x.number) g.answer in
        let n : eqb (added s p out).answer.number 0 ≡ false = ne_eqb (added s p out).answer.number 0 (λ f. omega (arith, numbered r)) in
        rw (le-leb (2 * i + 2) (length l) h, n) (record { answer = g.answer; memory = λ j. lists (g.memory j) l })

    -- by the answer of the encoder's call
    module _ (r : Result (GeomEncoder × Edges) (Refused GeomEncoder)) (g : Gives (added s p out) (said_drawn r) o) (f : edges_of r ≡ passed (added s p out).answer (edges s p)) where
      pub drawn_on : (t : GeomEncoder) (e : Edges) → r ≡ Ok (t, e) → (m : List ℕ) → m ≡ lay (2 * i) (entries e) l → Gives (edged s p i (lists out l)) (done t) (lists o m)
      drawn_on t e k m j = point_on t e (rw k at g) (rw k at f) m j

      pub drawn_off : (x : Refused GeomEncoder) → r ≡ Err x → Gives (edged s p i (lists out l)) (turned x.refusal x.kept) (lists o l)
      drawn_off x k = point_off x.refusal x.kept (rw k at g)

-- completing leaves the edges
pub end_edges : (s : GeomEncoder) (out l o : List ℕ) (a : Said Counted) → Gives (completed s out) a o → Gives (ended s (lists out l)) a (lists o l)
end_edges s out l o a g = record { answer = g.answer; memory = λ j. lists (g.memory j) l }

-- ---- a refused call writes nowhere
module _ (s : GeomEncoder) (m : Lists) where
  edged_keeps : (p : Pt) (i : ℕ) → ((edged s p i m).answer.number ≡ 0 → ⊥) → (edged s p i m).memory ≡ m
  unfolding edged
  edged_keeps p i = by (has_entries i m.edges)
    where
      by : (b : Bool) → ((cond b (with_entries s p i m) (kept (turned (unroomed s p (length m.words)) s) m)).answer.number ≡ 0 → ⊥) →
          (cond b (with_entries s p i m) (kept (turned (unroomed s p (length m.words)) s) m)).memory ≡ m
      by true h = rw (ne_eqb (added s p m.words).answer.number 0 h, refused_keeps (add p) s m.words h) refl
      by false h = refl

  pub keeps : (c : Call) (i : ℕ) → ((call c i s m).answer.number ≡ 0 → ⊥) → (call c i s m).memory ≡ m
  keeps (add p) i h = edged_keeps p i h
  keeps complete i h = ap (λ (o : List ℕ). lists o m.edges) (refused_keeps complete s m.words h)

-- ---- one more call
module _ (c : Call) (cs : List Call) (n : ℕ) (s t : GeomEncoder) (m l : Lists) where
  pub go_on : Gives (call c n s m) (done t) l → go (c ∷ cs) n s m ≡ go cs (taken c n) t l
  go_on g = rw (sym g.answer, sym g.memory)

  module _ (k : Refusal) (g : Gives (call c n s m) (turned k t) l) where
    pub go_off : go (c ∷ cs) n s m ≡ kept (off (refused k n)) m
    go_off = rw (sym g.answer, never_zero k)

    pub off_lists : l ≡ m
    off_lists = g.memory ∙ keeps s m c n (λ e. not_zero k (ap (λ (a : Said Counted). a.number) g.answer ∙ e))

-- ---- calls after calls
abbrev pub then : Outcome → List Call → Lists → Written Outcome Lists
then (on n s) cs m = go cs n s m
then (off a) cs m = kept (off a) m

module _ (ds : List Call) where
  then_by : (b : Bool) (w x : Written Outcome Lists) (a : Said ℕ) (m : Lists) → x ≡ then w.answer ds w.memory →
      cond b x (kept (off a) m) ≡ then (cond b w (kept (off a) m)).answer ds (cond b w (kept (off a) m)).memory
  then_by true w x a m e = e
  then_by false w x a m e = refl

  pub go_then : (cs : List Call) (n : ℕ) (s : GeomEncoder) (m : Lists) → go (cs ++ ds) n s m ≡ then (go cs n s m).answer ds (go cs n s m).memory
  go_then [] n s m = refl
  go_then (c ∷ cs) n s m =
      let w = call c n s m in
      then_by (eqb w.answer.number 0) (go cs (taken c n) w.answer.values.state w.memory) (go (cs ++ ds) (taken c n) w.answer.values.state w.memory) (stopped n w.answer) m
      (go_then cs (taken c n) w.answer.values.state w.memory)
