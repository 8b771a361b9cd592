-- Laws of the calls: what each `return` of a call gives.
use mathlib.Core.Path.{◌≡◌, refl, ap}
use mathlib.Core.Bool.{Bool, true, false, cond, not, ◌&&◌}
use mathlib.Core.List.{List, [], ◌∷◌}
use Prim.Native.Nat.{ℕ, ◌+◌, ◌-◌, ◌≤◌, ◌<◌}
use native.Mathlib.Omega.{arith}
use borrow.Author.Tests.{eq-eqb, ne_eqb, le-leb, lt-leb, eqb-true, ltb-true}
use lib.Dec.{leb, ltb, eqb}
use lib.ListN.{length}
use Rattle.promise.specs.Answers.{Gives}
use Rattle.promise.proofs.Cases.{gives_kept}
use Rattle.refusal.specs.declared.Refusal.TheVariants.{State, Coord, Empty, Room}
use Rattle.refusal.specs.Said.{Said}
use Rattle.clip.specs.declared.Pt.{Pt}
use Rattle.clip.specs.Domain.{is_coord}
use Rattle.words.specs.Geometries.{max_words, room}
use Rattle.words.specs.Commands.{command_word}
use Rattle.encoder.specs.Pushed.{move_to, line_to, close_path}
use Rattle.encoder.specs.Ends.{Fitting, EndFits, lay_end}
use Rattle.encoder.specs.declared.GeomEncoder.{GeomEncoder}
use Rattle.encoder.specs.States.{valid, Valid}
use Rattle.encoder.specs.Answers.{Counted, done, turned, roomy, passed}
use Rattle.encoder.specs.declared.Edges.{Edges}
use Rattle.encoder.specs.Emitting.{place_of}
use Rattle.encoder.specs.Adding.{drawn, added}
use Rattle.encoder.specs.Completing.{counting, closing, cleared, finished, is_empty, completed}
use Rattle.words.proofs.Rooms.{room_length, room_cap}
use Rattle.encoder.proofs.States.{yes_of, no_of, valid_facts}

-- ---- the state after completing
module _ (s : GeomEncoder) where
  pub points_kept : s.kind ≡ 1 → s ≡ finished s
  unfolding finished
  points_kept e = rw (eq-eqb s.kind 1 e)

  module _ (e : s.kind ≡ 1 → ⊥) (r : GeomEncoder) where
    pub closed_by : (eqb s.kind 3 && ltb 1 s.count) ≡ true → r ≡ cleared s s.used (s.used + 1) → r ≡ finished s
    unfolding finished
    closed_by f h = let k : closing s ≡ command_word close_path 1 ∷ [] = rw f in rw (ne_eqb s.kind 1 e, k) h

    pub left_open : (eqb s.kind 3 && ltb 1 s.count) ≡ false → r ≡ cleared s s.cmd_offset s.used → r ≡ finished s
    unfolding finished
    left_open f h =
        let k : closing s ≡ [] = rw f in
        let z : s.used + 0 ≡ s.used = omega arith in
        rw (ne_eqb s.kind 1 e, k, z) h

-- ---- what completing writes: at most one word at each place, and none at the last command's place without a command
pub one_word : (s : GeomEncoder) → length (counting s) ≤ 1
one_word s = by (eqb s.kind 1) (ltb 1 s.count)
  where
    by : (t u : Bool) → length (cond t (command_word move_to s.count ∷ []) (cond u (command_word line_to (s.count - 1) ∷ []) [])) ≤ 1
    by true u = omega arith
    by false true = omega arith
    by false false = omega arith

pub counted_some : (s : GeomEncoder) → is_empty s ≡ false → 0 < length (counting s) → s.count ≡ 0 → ⊥
counted_some s e h z = by (eqb s.kind 1) (ltb 1 s.count) refl refl (rw z at e) h
  where
    by : (t u : Bool) → eqb s.kind 1 ≡ t → ltb 1 s.count ≡ u → (eqb s.kind 1 && true) ≡ false → 0 < length (cond t (command_word move_to s.count ∷ []) (cond u (command_word line_to (s.count - 1) ∷ []) [])) → ⊥
    by true u i j f g = let y : ◌≡◌ {A = ℕ} 0 1 = cc in omega arith
    by false true i j f g = let y = ltb-true 1 s.count j in omega arith
    by false false i j f g = omega arith

pub finished_used : (s : GeomEncoder) → (finished s).used ≡ s.used + length (closing s)
unfolding finished
finished_used s = by (eqb s.kind 1) refl
  where
    by : (t : Bool) → eqb s.kind 1 ≡ t → (cond t s (cleared s (place_of (closing s) s) (s.used + length (closing s)))).used ≡ s.used + length (closing s)
    by true e = let k : s.kind ≡ 1 = eqb-true s.kind 1 e in let n : eqb s.kind 3 ≡ false = ne_eqb s.kind 3 (λ z. omega arith) in rw n (omega arith)
    by false e = refl

-- ---- the returns of `add_point` and `add_valid`
module _ (s : GeomEncoder) (p : Pt) (out : List ℕ) where
  pub add_state : (v : Bool) → v ≡ valid s (length out) → not v ≡ true → Gives (added s p out) (turned State s) out
  unfolding added
  add_state v e h = rw (no_of v (valid s (length out)) e h) (gives_kept (turned State s) out)

  module _ (w : valid s (length out) ≡ true) (t : Bool) (f : t ≡ is_coord p) where
    pub add_coord : not t ≡ true → Gives (added s p out) (turned Coord s) out
    unfolding added
    add_coord k = rw (w, no_of t (is_coord p) f k) (gives_kept (turned Coord s) out)

    module _ (k : not t ≡ false) where
      pub add_asked : (valid s (length out) ≡ true) × (is_coord p ≡ true)
      add_asked = (w, yes_of t (is_coord p) f k)

      pub add_edges : (n m : Edges) → m ≡ passed (roomy s out (drawn s p out)).answer n → m ≡ passed (added s p out).answer n
      unfolding added
      add_edges n m e = rw (add_asked.0, add_asked.1) e

      pub add_within : {a : Said Counted} {o : List ℕ} → Gives (roomy s out (drawn s p out)) a o → Gives (added s p out) a o
      unfolding added
      add_within g = rw (add_asked.0, add_asked.1) g

-- ---- the returns of `complete_geom` and `complete_valid`
module _ (s : GeomEncoder) (out : List ℕ) where
  pub end_state : (v : Bool) → v ≡ valid s (length out) → not v ≡ true → Gives (completed s out) (turned State s) out
  unfolding completed
  end_state v e h = rw (no_of v (valid s (length out)) e h) (gives_kept (turned State s) out)

module _ (s : GeomEncoder) (out : List ℕ) (w : valid s (length out) ≡ true) where
  pub end_empty : is_empty s ≡ true → Gives (completed s out) (turned Empty s) out
  unfolding completed
  end_empty k = rw (w, k) (gives_kept (turned Empty s) out)

  module _ (k : is_empty s ≡ false) where
    facts : Valid s (length out)
    facts = valid_facts s (length out) (w)

    pub end_used : s.used ≤ max_words
    end_used = omega (arith, facts.fits, room_cap (length out))

    pub end_count : s.count ≤ max_words
    end_count = omega (arith, facts.counted, end_used)

    module _ (next : GeomEncoder) (d : next ≡ finished s) (m : ℕ) (q : m ≡ room (length out)) where
      pub end_room : m < next.used → Gives (completed s out) (turned Room s) out
      unfolding completed
      end_room l =
          let u : next.used ≡ (finished s).used = ap (λ (x : GeomEncoder). x.used) d in
          let b : leb (finished s).used (room (length out)) ≡ false = lt-leb (finished s).used (room (length out)) (omega arith) in
          rw (w, k, b) (gives_kept (turned Room s) out)

      module _ (l : next.used ≤ m) where
        count_fits : Fitting s.cmd_offset (counting s) (length out)
        count_fits =
            let g = room_length (length out) in
            record { fits = λ z. omega (arith, facts.placed (counted_some s k z), facts.fits, one_word s) }

        close_fits : Fitting s.used (closing s) (length out)
        close_fits =
            let g = room_length (length out) in
            let u : next.used ≡ (finished s).used = ap (λ (x : GeomEncoder). x.used) d in
            record { fits = λ z. omega (arith, finished_used s) }

        pub end_fits : EndFits s.kind s.count s.cmd_offset s.used (length out)
        end_fits = record { small = omega (arith, end_count); counted = count_fits; closed = close_fits }

        pub end_done : (o : List ℕ) → o ≡ lay_end s.kind s.count s.cmd_offset s.used out → Gives (completed s out) (done next) o
        unfolding completed
        end_done o x =
            let u : next.used ≡ (finished s).used = ap (λ (x : GeomEncoder). x.used) d in
            let z : leb (finished s).used (room (length out)) ≡ true = le-leb (finished s).used (room (length out)) (omega arith) in
            rw (w, k, z) (record { answer = ap done d; memory = x })
