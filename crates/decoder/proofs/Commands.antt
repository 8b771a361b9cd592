-- One command word, with the words behind it: what is asked for decides how the reading goes on; and command after command, with no count of turns.
use Prim.Native.Nat.{ℕ, zero, suc, ◌+◌, ◌*◌, ◌/◌, ◌%◌, ◌≤◌}
use mathlib.Core.Path.{◌≡◌, refl, ap}
use mathlib.Core.Bool.{Bool, true, false, cond, not}
use mathlib.Core.List.{List, [], ◌∷◌}
use native.Mathlib.Omega.{arith}
use borrow.Author.Tests.{ltb-false, eqb-false}
use lib.Dec.{ltb, eqb}
use lib.ListN.{length, take, drop, length-drop}
use Rattle.refusal.specs.declared.Fault.{Fault}
use Rattle.words.specs.Commands.{is_id}
use Rattle.decoder.specs.declared.command.Asked.TheVariants.{Draw, Close}
use Rattle.decoder.specs.Vertices.{Cursor, Trace, traced, faulty, and_then}
use Rattle.decoder.specs.ReadingWords.{is_close, params, miscounted, cut_at, unless_faulty, command, commands, trace_from}
use Rattle.decoder.specs.Passing.{asked_of}
use Rattle.decoder.proofs.Traces.{then_same}
use Rattle.std.specs.Prelude.{Ok, Err}

-- ---- a command without a fault, and the words it needs are there
pub record Asks (word : ℕ) (ws : List ℕ) : Type 0 where
  pub known : is_id (word % 8) ≡ true
  pub counted : miscounted word ≡ false
  pub there : ltb (length ws) (params word) ≡ false

pub goes_on : {X : Type 0} (at word : ℕ) (ws : List ℕ) (fault : Fault → X) (go : X) → Asks word ws → unless_faulty at word ws fault go ≡ go
goes_on at word ws fault go a = rw (a.known, a.counted, a.there)

module _ {X : Type 0} (fault : Fault → X) (go : X) where
  bad_by : (t m s u : Bool) (x y z f : Fault) (i n : ℕ) →
      cond (not t) (Err x) (cond m (Err y) (cond s (Err z) (cond u (Ok Close) (Ok (Draw i n))))) ≡ Err f →
      cond (not t) (fault x) (cond m (fault y) (cond s (fault z) go)) ≡ fault f
  bad_by false m s u x y z f i n e = let g : x ≡ f = cc in ap fault g
  bad_by true true s u x y z f i n e = let g : y ≡ f = cc in ap fault g
  bad_by true false true u x y z f i n e = let g : z ≡ f = cc in ap fault g
  bad_by true false false true x y z f i n e = let k : ◌≡◌ {A = ℕ} 0 1 = cc in absurd (omega arith)
  bad_by true false false false x y z f i n e = let k : ◌≡◌ {A = ℕ} 0 1 = cc in absurd (omega arith)

  pub asked_bad : (at word : ℕ) (ws : List ℕ) (f : Fault) → asked_of at word ws ≡ Err f → unless_faulty at word ws fault go ≡ fault f
  asked_bad at word ws f e = bad_by (is_id (word % 8)) (miscounted word) (ltb (length ws) (params word)) (is_close word) _ _ (cut_at at ws) f (word % 8) (word / 8) e

close_by : (t m s u : Bool) (x y z : Fault) (i n : ℕ) →
    cond (not t) (Err x) (cond m (Err y) (cond s (Err z) (cond u (Ok Close) (Ok (Draw i n))))) ≡ Ok Close →
    (t ≡ true) × (m ≡ false) × (s ≡ false) × (u ≡ true)
close_by false m s u x y z i n e = let k : ◌≡◌ {A = ℕ} 0 1 = cc in absurd (omega arith)
close_by true true s u x y z i n e = let k : ◌≡◌ {A = ℕ} 0 1 = cc in absurd (omega arith)
close_by true false true u x y z i n e = let k : ◌≡◌ {A = ℕ} 0 1 = cc in absurd (omega arith)
close_by true false false true x y z i n e = (refl, refl, refl, refl)
close_by true false false false x y z i n e = let k : ◌≡◌ {A = ℕ} 0 1 = cc in absurd (omega arith)

draw_by : (t m s u : Bool) (x y z : Fault) (i n id pairs : ℕ) →
    cond (not t) (Err x) (cond m (Err y) (cond s (Err z) (cond u (Ok Close) (Ok (Draw i n))))) ≡ Ok (Draw id pairs) →
    (t ≡ true) × (m ≡ false) × (s ≡ false) × (u ≡ false) × (i ≡ id) × (n ≡ pairs)
draw_by false m s u x y z i n id pairs e = let k : ◌≡◌ {A = ℕ} 0 1 = cc in absurd (omega arith)
draw_by true true s u x y z i n id pairs e = let k : ◌≡◌ {A = ℕ} 0 1 = cc in absurd (omega arith)
draw_by true false true u x y z i n id pairs e = let k : ◌≡◌ {A = ℕ} 0 1 = cc in absurd (omega arith)
draw_by true false false true x y z i n id pairs e = let k : ◌≡◌ {A = ℕ} 0 1 = cc in absurd (omega arith)
draw_by true false false false x y z i n id pairs e = (refl, refl, refl, refl, cc, cc)

-- a ClosePath
pub record Closes (word : ℕ) (ws : List ℕ) : Type 0 where
  pub asks : Asks word ws
  pub close : is_close word ≡ true

-- a MoveTo or a LineTo: at least one pair, and all of them are there
pub record Draws (word : ℕ) (ws : List ℕ) (id pairs : ℕ) : Type 0 where
  pub asks : Asks word ws
  pub open_id : is_close word ≡ false
  pub is_id_lem : word % 8 ≡ id
  pub is_count : word / 8 ≡ pairs
  pub some : pairs ≡ 0 → ⊥
  pub enough_words : 2 * pairs ≤ length ws

module _ (at word : ℕ) (ws : List ℕ) where
  pub asked_close : asked_of at word ws ≡ Ok Close → Closes word ws
  asked_close e =
      let (t, m, s, u) = close_by (is_id (word % 8)) (miscounted word) (ltb (length ws) (params word)) (is_close word) _ _ (cut_at at ws) (word % 8) (word / 8) e in
      record { asks = record { known = t; counted = m; there = s }; close = u }

  pub asked_draw : (id pairs : ℕ) → asked_of at word ws ≡ Ok (Draw id pairs) → Draws word ws id pairs
  asked_draw id pairs e =
      let (t, m, s, u, i, n) = draw_by (is_id (word % 8)) (miscounted word) (ltb (length ws) (params word)) (is_close word) _ _ (cut_at at ws) (word % 8) (word / 8) id pairs e in
      let m' : eqb (word / 8) 0 ≡ false = rw u at m in
      let s' : ltb (length ws) (2 * (word / 8)) ≡ false = rw u at s in
      record {
        asks = record { known = t; counted = m; there = s };
        open_id = u;
        is_id_lem = i;
        is_count = n;
        some = λ z. eqb-false (word / 8) 0 m' (omega (arith, n, z));
        enough_words = omega (arith, n, ltb-false (length ws) (2 * (word / 8)) s');
      }

-- ---- as many turns as there are words are enough, and more change nothing
same_turns : (m n at : ℕ) (c : Cursor) (ws : List ℕ) → length ws ≤ m → length ws ≤ n → commands m at c ws ≡ commands n at c ws
unfolding commands
same_turns zero zero at c [] h k = refl
same_turns zero (suc n) at c [] h k = refl
same_turns (suc m) zero at c [] h k = refl
same_turns (suc m) (suc n) at c [] h k = refl
same_turns zero n at c (word ∷ ws) h k = absurd (omega arith)
same_turns (suc m) zero at c (word ∷ ws) h k = absurd (omega arith)
same_turns (suc m) (suc n) at c (word ∷ ws) h k =
    ap (λ (t : Trace). unless_faulty at word ws faulty t)
    (then_same (command word c (take (params word) ws)) _ _
    (λ c'. same_turns m n (at + 1 + params word) c' (drop (params word) ws) (rw length-drop (omega arith)) (rw length-drop (omega arith))))

pub nothing_read : (at : ℕ) (c : Cursor) → trace_from at c [] ≡ traced [] c
unfolding trace_from commands
nothing_read at c = refl

-- the first command, and then the rest
pub one_command : (at : ℕ) (c : Cursor) (word : ℕ) (ws : List ℕ) → trace_from at c (word ∷ ws) ≡
    unless_faulty at word ws faulty
    (and_then (command word c (take (params word) ws)) (λ c'. trace_from (at + 1 + params word) c' (drop (params word) ws)))
unfolding trace_from commands
one_command at c word ws =
    ap (λ (t : Trace). unless_faulty at word ws faulty t)
    (then_same (command word c (take (params word) ws)) _ _
    (λ c'. same_turns (length ws) (length (drop (params word) ws)) (at + 1 + params word) c' (drop (params word) ws) (rw length-drop (omega arith)) (omega arith)))
