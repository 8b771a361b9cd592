-- Laws of traces: vertices after vertices, going on from the cursor, and three numbers a vertex.
use Prim.Native.Nat.{◌*◌}
use mathlib.Core.Path.{◌≡◌, refl, sym, ◌∙◌, ap}
use mathlib.Core.Bool.{Bool, true, false, cond}
use mathlib.Core.List.{List, [], ◌∷◌, ◌++◌, append_assoc}
use native.Mathlib.Omega.{arith}
use lib.ListN.{length}
use Rattle.refusal.specs.declared.Fault.{Fault}
use Rattle.decoder.specs.Vertices.{Cursor, Vertex, Trace, traced, faulty, onto, and_then, numbers}

pub onto_nil : (t : Trace) → onto [] t ≡ t
onto_nil (traced vs c) = refl
onto_nil (faulty f) = refl

pub onto_onto : (vs us : List Vertex) (t : Trace) → onto vs (onto us t) ≡ onto (vs ++ us) t
onto_onto vs us (traced ts c) = ap (λ (l : List Vertex). traced l c) (sym (append_assoc vs us ts))
onto_onto vs us (faulty f) = refl

pub then_onto : (vs : List Vertex) (t : Trace) (go : Cursor → Trace) → and_then (onto vs t) go ≡ onto vs (and_then t go)
then_onto vs (traced us c) go = sym (onto_onto vs us (go c))
then_onto vs (faulty f) go = refl

pub then_same : (t : Trace) (f g : Cursor → Trace) → ((c : Cursor) → f c ≡ g c) → and_then t f ≡ and_then t g
then_same (traced vs c) f g h = ap (onto vs) (h c)
then_same (faulty r) f g h = refl

-- the same through a test whose other answer is a fault
pub then_test : (b : Bool) (vs : List Vertex) (f : Fault) (t u : Trace) (go : Cursor → Trace) → u ≡ and_then t go →
    cond b (onto vs u) (faulty f) ≡ and_then (cond b (onto vs t) (faulty f)) go
then_test true vs f t u go e = ap (onto vs) e ∙ sym (then_onto vs t go)
then_test false vs f t u go e = refl

-- ---- three numbers a vertex
pub numbers_length : (vs : List Vertex) → length (numbers vs) ≡ 3 * length vs
numbers_length [] = refl
numbers_length (v ∷ vs) = omega (arith, numbers_length vs)

pub numbers_append : (vs us : List Vertex) → numbers (vs ++ us) ≡ numbers vs ++ numbers us
numbers_append [] us = refl
numbers_append (v ∷ vs) us = rw (numbers_append vs us)
