-- What reading words gives: the vertices in order and the cursor at the end, or the first fault.
use Rattle.std.specs.Prelude.{ℕ, List, [], ◌∷◌, ◌++◌, ℤ, pos}
use Rattle.refusal.specs.declared.Fault.{Fault}

-- MVT 4.3: the position that parameter integers are steps from
pub record Cursor : Type 0 where
  pub x : ℤ
  pub y : ℤ

-- a command's id, and the position where it leaves the cursor
pub record Vertex : Type 0 where
  pub id : ℕ
  pub x : ℤ
  pub y : ℤ

pub data Trace : Type 0 where
  traced : List Vertex → Cursor → Trace
  faulty : Fault → Trace

-- where a feature's cursor starts
abbrev pub origin : Cursor
origin = record { x = pos 0; y = pos 0 }

abbrev pub vertex : ℕ → Cursor → Vertex
vertex id c = record { id = id; x = c.x; y = c.y }

-- these vertices, and then those
abbrev pub onto : List Vertex → Trace → Trace
onto vs (traced us c) = traced (vs ++ us) c
onto vs (faulty f) = faulty f

-- go on where the cursor is, unless there is a fault
abbrev pub and_then : Trace → (Cursor → Trace) → Trace
and_then (traced vs c) go = onto vs (go c)
and_then (faulty f) go = faulty f

-- "Each vertex gives three i32 numbers: id, x, y."
abbrev pub numbers : List Vertex → List ℤ
numbers [] = []
numbers (v ∷ vs) = pos v.id ∷ v.x ∷ v.y ∷ numbers vs
