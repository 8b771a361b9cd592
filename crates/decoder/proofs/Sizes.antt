-- A reading has at most one vertex a word.
use Prim.Native.Nat.{ℕ, zero, suc, ◌+◌, ◌%◌, ◌≤◌}
use mathlib.Core.Path.{◌≡◌, sym, ◌∙◌, ap, subst}
use mathlib.Core.Bool.{Bool, true, false, cond, not}
use mathlib.Core.List.{List, [], ◌∷◌}
use native.Mathlib.Omega.{arith}
use lib.Dec.{ltb}
use lib.ListN.{length, take, drop, length-append, take-append-drop}
use Rattle.refusal.specs.declared.Fault.{Fault}
use Rattle.words.specs.Commands.{is_id}
use Rattle.decoder.specs.Vertices.{Cursor, Vertex, Trace, traced, faulty, vertex, onto, and_then}
use Rattle.decoder.specs.ReadingWords.{is_close, params, miscounted, cut_at, moved, within, drawn, command, commands, trace_from}

abbrev pub Few : ℕ → Trace → Type 0
Few n (traced vs c) = length vs ≤ n
Few n (faulty f) = Unit

few_more : (n m : ℕ) (t : Trace) → n ≤ m → Few n t → Few m t
few_more n m (traced vs c) h w = omega arith
few_more n m (faulty f) h w = tt

few_onto : (n m : ℕ) (vs : List Vertex) (t : Trace) → length vs + n ≤ m → Few n t → Few m (onto vs t)
few_onto n m vs (traced us c) h w = simp length-append (omega arith)
few_onto n m vs (faulty f) h w = tt

few_then : (n m k : ℕ) (t : Trace) (go : Cursor → Trace) → n + m ≤ k → Few n t → ((c : Cursor) → Few m (go c)) → Few k (and_then t go)
few_then n m k (traced vs c) go h w each = few_onto m k vs (go c) (omega arith) (each c)
few_then n m k (faulty f) go h w each = tt

few_fault : (n : ℕ) (b : Bool) (f : Fault) (t : Trace) → Few n t → Few n (cond b (faulty f) t)
few_fault n true f t w = tt
few_fault n false f t w = w

few_test : (n : ℕ) (b : Bool) (t : Trace) (f : Fault) → Few n t → Few n (cond b t (faulty f))
few_test n true t f w = w
few_test n false t f w = tt

pub few_drawn : (id : ℕ) (c : Cursor) (ps : List ℕ) → Few (length ps) (drawn id c ps)
unfolding drawn
few_drawn id c [] = omega arith
few_drawn id c (dx ∷ []) = omega arith
few_drawn id c (dx ∷ dy ∷ ps) =
    few_test (suc (suc (length ps))) (within (moved c dx dy)) _ _
    (few_onto (length ps) (suc (suc (length ps))) (vertex id (moved c dx dy) ∷ []) (drawn id (moved c dx dy) ps) (omega arith) (few_drawn id (moved c dx dy) ps))

few_command : (word : ℕ) (c : Cursor) (ps : List ℕ) → Few (suc (length ps)) (command word c ps)
few_command word c ps = by (is_close word)
  where
    by : (u : Bool) → Few (suc (length ps)) (cond u (traced (vertex 7 c ∷ []) c) (drawn (word % 8) c ps))
    by true = omega arith
    by false = few_more (length ps) (suc (length ps)) (drawn (word % 8) c ps) (omega arith) (few_drawn (word % 8) c ps)

few_commands : (turns at : ℕ) (c : Cursor) (ws : List ℕ) → Few (length ws) (commands turns at c ws)
unfolding commands
few_commands zero at c ws = omega arith
few_commands (suc turns) at c [] = omega arith
few_commands (suc turns) at c (word ∷ ws) =
    let whole : length (take (params word) ws) + length (drop (params word) ws) ≡ length ws = sym (length-append (take (params word) ws) (drop (params word) ws)) ∙ ap length (take-append-drop (params word) ws) in
    few_fault (suc (length ws)) (not (is_id (word % 8))) _ _
    (few_fault (suc (length ws)) (miscounted word) _ _
    (few_fault (suc (length ws)) (ltb (length ws) (params word)) (cut_at at ws) _
    (few_then (suc (length (take (params word) ws))) (length (drop (params word) ws)) (suc (length ws)) (command word c (take (params word) ws)) _ (omega (arith, whole))
    (few_command word c (take (params word) ws)) (λ c'. few_commands turns (at + 1 + params word) c' (drop (params word) ws)))))

pub few_vertices : (at : ℕ) (c : Cursor) (ws : List ℕ) (vs : List Vertex) (c' : Cursor) → trace_from at c ws ≡ traced vs c' → length vs ≤ length ws
unfolding trace_from
few_vertices at c ws vs c' e = subst (Few (length ws)) e (few_commands (length ws) at c ws)
