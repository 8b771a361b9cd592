-- `&mut out[at..]`: what it lends, what the whole is when it is back, and its room; and a run laid at the front.
use Prim.Native.Nat.{ℕ, ◌+◌, ◌-◌, ◌≤◌}
use mathlib.Core.Path.{◌≡◌}
use mathlib.Core.List.{List, ◌++◌, append-nil}
use native.Mathlib.Omega.{arith}
use lib.ListN.{length, take, drop, length-drop, drop_of_length-le}
use lib.Seq.{take_all}
use borrow.Rule.Slice.PartMut.{mid_of, put_mid}
use Rattle.promise.specs.Laid.{lay}

pub lent : (at : ℕ) (out : List ℕ) → mid_of at (length out - at) out ≡ drop at out
lent at out = take_all (length out - at) (drop at out) (rw length-drop (omega arith))

pub home : (at : ℕ) (out ys : List ℕ) → put_mid at (length out - at) out ys ≡ take at out ++ ys
home at out ys =
    let h : length (drop at out) ≤ length out - at = rw length-drop (omega arith) in
    rw (drop_of_length-le (drop at out) h, append-nil)

pub lent_long : (at m : ℕ) (out : List ℕ) → at + m ≤ length out → m ≤ length (mid_of at (length out - at) out)
lent_long at m out h = rw (lent at out, length-drop) (omega arith)

pub lay_front : (bs out : List ℕ) → lay 0 bs out ≡ bs ++ drop (length bs) out
lay_front bs out = let z : 0 + length bs ≡ length bs = omega arith in rw z
