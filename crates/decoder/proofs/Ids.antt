-- The ids of a reading are those of commands.
use Prim.Native.Nat.{ℕ, zero, suc, ◌+◌, ◌%◌}
use mathlib.Core.Path.{◌≡◌, refl, subst}
use mathlib.Core.Bool.{Bool, true, false, cond, not}
use mathlib.Core.List.{List, [], ◌∷◌, ◌++◌}
use lib.Dec.{ltb}
use lib.ListN.{length, take, drop}
use Rattle.refusal.specs.declared.Fault.{Fault}
use Rattle.refusal.specs.declared.Refusal.TheVariants.{Command as NoCommand, Count, Step}
use Rattle.refusal.specs.Said.{plain}
use Rattle.words.specs.Commands.{is_id}
use Rattle.decoder.specs.Vertices.{Cursor, Vertex, Trace, traced, faulty, origin, vertex, onto, and_then}
use Rattle.decoder.specs.ReadingWords.{is_close, params, miscounted, cut_at, moved, within, drawn, command, commands, trace_from, trace}

-- each is 1, 2 or 7
abbrev pub Ids : List Vertex → Type 0
Ids [] = Unit
Ids (v ∷ vs) = (is_id v.id ≡ true) × Ids vs

abbrev IdsOf : Trace → Type 0
IdsOf (traced vs c) = Ids vs
IdsOf (faulty f) = Unit

more_ids : (vs us : List Vertex) → Ids vs → Ids us → Ids (vs ++ us)
more_ids [] us p q = q
more_ids (v ∷ vs) us (e, p) q = (e, more_ids vs us p q)

onto_ids : (vs : List Vertex) (t : Trace) → Ids vs → IdsOf t → IdsOf (onto vs t)
onto_ids vs (traced us c) p q = more_ids vs us p q
onto_ids vs (faulty f) p q = tt

then_ids : (t : Trace) (go : Cursor → Trace) → IdsOf t → ((c : Cursor) → IdsOf (go c)) → IdsOf (and_then t go)
then_ids (traced vs c) go p q = onto_ids vs (go c) p (q c)
then_ids (faulty f) go p q = tt

drawn_ids : (id : ℕ) → is_id id ≡ true → (c : Cursor) (ps : List ℕ) → IdsOf (drawn id c ps)
unfolding drawn
drawn_ids id h c [] = tt
drawn_ids id h c (dx ∷ []) = tt
drawn_ids id h c (dx ∷ dy ∷ ps) = by (within (moved c dx dy)) (drawn_ids id h (moved c dx dy) ps)
  where
    by : (t : Bool) → IdsOf (drawn id (moved c dx dy) ps) → IdsOf (cond t (onto (vertex id (moved c dx dy) ∷ []) (drawn id (moved c dx dy) ps)) (faulty (plain Step)))
    by true g = onto_ids (vertex id (moved c dx dy) ∷ []) (drawn id (moved c dx dy) ps) (h, tt) g
    by false g = tt

command_ids : (word : ℕ) (c : Cursor) (ps : List ℕ) → is_id (word % 8) ≡ true → IdsOf (command word c ps)
command_ids word c ps h = by (is_close word) (drawn_ids (word % 8) h c ps)
  where
    by : (t : Bool) → IdsOf (drawn (word % 8) c ps) → IdsOf (cond t (traced (vertex 7 c ∷ []) c) (drawn (word % 8) c ps))
    by true g = (refl, tt)
    by false g = g

unless_ids : (a b d : Bool) (f : Fault) (t : Trace) → (a ≡ true → IdsOf t) → IdsOf (cond (not a) (faulty (plain NoCommand)) (cond b (faulty (plain Count)) (cond d (faulty f) t)))
unless_ids false b d f t g = tt
unless_ids true true d f t g = tt
unless_ids true false true f t g = tt
unless_ids true false false f t g = g refl

commands_ids : (turns at : ℕ) (c : Cursor) (ws : List ℕ) → IdsOf (commands turns at c ws)
unfolding commands
commands_ids zero at c ws = tt
commands_ids (suc turns) at c [] = tt
commands_ids (suc turns) at c (word ∷ ws) =
    unless_ids (is_id (word % 8)) (miscounted word) (ltb (length ws) (params word)) (cut_at at ws) _
    (λ h. then_ids (command word c (take (params word) ws)) _ (command_ids word c (take (params word) ws) h) (λ c'. commands_ids turns (at + 1 + params word) c' (drop (params word) ws)))

pub read_ids : (ws : List ℕ) (vs : List Vertex) (c : Cursor) → trace ws ≡ traced vs c → Ids vs
unfolding trace_from
read_ids ws vs c e = subst IdsOf e (commands_ids (length ws) 0 origin ws)
