-- Laws of a run laid at a place of a list, once for every element type and length.
--     lay_nothing length_lay             nothing laid; the length stays
--     take_lay drop_lay                  the list up to the run's end, and from there on
--     lay_before lay_inside lay_after    each element: before, in and after the run
--     lay_next lay_over                  a run laid behind a run; a run laid over one of its length
--     lay_behind                         a run laid behind some elements
--     lay_one lay_store                  one store; a run stored element by element
use mathlib.Core.Path.{◌≡◌, sym, ◌∙◌, ap}
use mathlib.Core.List.{List, [], ◌∷◌, ◌++◌, append_assoc, append-nil}
use Prim.Native.Nat.{ℕ, suc, ◌+◌, ◌-◌, ◌<◌, ◌≤◌}
use native.Mathlib.Numerals.{add-one}
use native.Mathlib.Omega.{arith}
use lib.ListN.{length, take, drop, get_or, set, length-append, length-drop, take-append-drop, get_or-append}
use lib.Seq.{length-take-le, take-suc, drop-cons, set_at, take_at, drop_at, take-append-add, drop-append-add, drop-drop, get_or-append-add, get_or-take, get_or-drop, set_split}
use Rattle.promise.specs.Laid.{lay}

module _ {E : Type 0} where
  pub lay_nothing : (at : ℕ) (l : List E) → lay at [] l ≡ l
  lay_nothing at l = let z : at + 0 ≡ at = omega arith in rw (z, append-nil) (take-append-drop at l)

  module _ (at : ℕ) (run l : List E) (fits : at + length run ≤ length l) where
    head_length : length (take at l ++ run) ≡ at + length run
    head_length = let h : at ≤ length l = omega arith in rw (length-append, length-take-le at l h)

    pub length_lay : length (lay at run l) ≡ length l
    length_lay = simp (length-append, length-drop) (let h : at ≤ length l = omega arith in rw (length-take-le at l h) (omega arith))

    pub take_lay : take (at + length run) (lay at run l) ≡ take at l ++ run
    take_lay = take_at (take at l ++ run) (drop (at + length run) l) (at + length run) head_length

    pub drop_lay : drop (at + length run) (lay at run l) ≡ drop (at + length run) l
    drop_lay = drop_at (take at l ++ run) (drop (at + length run) l) (at + length run) head_length

    -- each element: before the run, in it, and after it
    pub lay_before : (i : ℕ) (d : E) → i < at → get_or (lay at run l) i d ≡ get_or l i d
    lay_before i d h =
        let f : i < length (take at l ++ run) = rw head_length (omega arith) in
        let g : i < length (take at l) = let k : at ≤ length l = omega arith in rw (length-take-le at l k) h in
        get_or-append (take at l ++ run) (drop (at + length run) l) d i f ∙ get_or-append (take at l) run d i g ∙ get_or-take at l i d h

    pub lay_inside : (i : ℕ) (d : E) → i < length run → get_or (lay at run l) (at + i) d ≡ get_or run i d
    lay_inside i d h =
        let k : at ≤ length l = omega arith in
        let f : at + i < length (take at l ++ run) = rw head_length (omega arith) in
        let g : at + i ≡ length (take at l) + i = rw (length-take-le at l k) in
        get_or-append (take at l ++ run) (drop (at + length run) l) d (at + i) f ∙ ap (λ (n : ℕ). get_or (take at l ++ run) n d) g ∙ get_or-append-add (take at l) run i d

    pub lay_after : (i : ℕ) (d : E) → at + length run ≤ i → get_or (lay at run l) i d ≡ get_or l i d
    lay_after i d h =
        let n : ℕ = i - (at + length run) in
        let f : i ≡ length (take at l ++ run) + n = rw head_length (omega arith) in
        let g : (at + length run) + n ≡ i = omega arith in
        ap (λ (k : ℕ). get_or (lay at run l) k d) f ∙ get_or-append-add (take at l ++ run) (drop (at + length run) l) n d ∙ get_or-drop (at + length run) l n d ∙ ap (λ (k : ℕ). get_or l k d) g

  -- a run laid behind a run is the two laid as one
  pub lay_next : (at : ℕ) (run more l : List E) → at + length run ≤ length l → lay (at + length run) more (lay at run l) ≡ lay at (run ++ more) l
  lay_next at run more l h =
      let n : at + length run + length more ≡ at + length (run ++ more) = simp length-append (omega arith) in
      let e : drop (at + length run + length more) (lay at run l) ≡ drop (at + length (run ++ more)) l =
      sym (drop-drop (length more) (at + length run) (lay at run l)) ∙ ap (drop (length more)) (drop_lay at run l h) ∙
      drop-drop (length more) (at + length run) l ∙ ap (λ (k : ℕ). drop k l) n in
      rw (take_lay at run l h, e, append_assoc (take at l) run more)

  -- a run laid over one of its length is all that stands there
  pub lay_over : (at : ℕ) (run over l : List E) → at + length run ≤ length l → length over ≡ length run → lay at over (lay at run l) ≡ lay at over l
  lay_over at run over l h e =
      let k : at ≤ length l = omega arith in
      let f : take at (lay at run l) ≡ take at l = ap (take at) (append_assoc (take at l) run (drop (at + length run) l)) ∙ take_at (take at l) (run ++ drop (at + length run) l) at (length-take-le at l k) in
      let g : drop (at + length over) (lay at run l) ≡ drop (at + length over) l = rw e (drop_lay at run l h) in
      rw (f, g)

  -- what stands before the place is left as it is
  pub lay_behind : (before l run : List E) (i n : ℕ) → length before ≡ n → lay (n + i) run (before ++ l) ≡ before ++ lay i run l
  lay_behind before l run i n e =
      let k : length before + i + length run ≡ length before + (i + length run) = omega arith in
      rw (← e, k, take-append-add before l i, drop-append-add before l (i + length run)) (simp append_assoc)

  -- one store
  pub lay_one : (l : List E) (i : ℕ) (a : E) → i < length l → set l i a ≡ lay i (a ∷ []) l
  lay_one l i a h = set_split l i a h ∙ rw (append_assoc (take i l) (a ∷ []) (drop (i + 1) l), add-one)

  -- a run that is laid element by element: the next one is stored behind those that are laid
  pub lay_store : (at i j : ℕ) (run l : List E) (d : E) → i < length run → at + length run ≤ length l → j ≡ suc i → set (lay at (take i run) l) (at + i) (get_or run i d) ≡ lay at (take j run) l
  lay_store at i j run l d h fits e =
      let n : length (take i run) ≡ i = length-take-le i run (omega arith) in
      let n' : length (take (suc i) run) ≡ suc i = length-take-le (suc i) run (omega arith) in
      let k : length (take at l ++ take i run) ≡ at + i = rw (length-append, length-take-le at l (omega arith), n) in
      let s : at + suc i ≡ suc (at + i) = omega arith in
      rw (e, n, n', s, drop-cons l (at + i) d (omega arith), set_at (take at l ++ take i run) _ (drop (suc (at + i)) l) (get_or run i d) (at + i) k, take-suc run i d h)
      (simp append_assoc)
