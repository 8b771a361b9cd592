-- Laws of the one contract of all writers, over any bytes, and bytes after bytes through `&mut out[at..]`.
--     put_fits put_done put_short put_zero put_nothing    what `put` is where the bytes fit, where they do not, and of no bytes
--     puts_none puts_inside puts_long            what was put so far: nothing; its end is in the list; the list's length
--     puts_more puts_laid                        a writer's bytes behind what was put so far, through `&mut out[at..]`
--     puts_start puts_append puts_next           a run laid at the place behind what was put so far, in the list itself
--     both_long both_inside both_room both_sum both_done    a writer that puts two parts, one behind the other
--     long_as put_as                             what is promised of a list is promised of one that is equal
use Prim.Native.Nat.{ℕ, ◌+◌, ◌-◌, ◌≤◌, ◌<◌}
use mathlib.Core.Path.{◌≡◌, refl, sym, ap, ◌∙◌}
use mathlib.Core.Bool.{Bool, true, false}
use mathlib.Core.List.{List, [], ◌++◌, append_assoc}
use native.Mathlib.Omega.{arith}
use borrow.Author.Tests.{le-leb, lt-leb, leb-true, leb-false}
use lib.Dec.{leb}
use lib.ListN.{length, take, drop, length-append}
use lib.Seq.{drop-drop, take_at, drop_at}
use borrow.Rule.Slice.PartMut.{mid_of, put_mid}
use Rattle.promise.specs.Answers.{Gives}
use Rattle.promise.specs.Laid.{lay}
use Rattle.promise.proofs.Laying.{length_lay, lay_next}
use Rattle.promise.proofs.Parts.{lent, home, lent_long, lay_front}
use Rattle.promise.specs.Puts.{put, Puts}

-- ---- `put`
pub put_fits : (bs out : List ℕ) {r : ℕ} {l : List ℕ} → length bs ≤ length out → Gives (put bs out) r l → Puts bs out r l
unfolding put
put_fits bs out h g = let e = le-leb (length bs) (length out) h in record { count_is = rw e at g.answer; list_is = rw e at g.memory }

pub put_done : {bs out : List ℕ} {r : ℕ} {l : List ℕ} → length bs ≤ length out → Puts bs out r l → Gives (put bs out) r l
unfolding put
put_done {bs = bs} {out = out} h p = rw (le-leb (length bs) (length out) h) (record { answer = p.count_is; memory = p.list_is })

pub put_short : (bs out : List ℕ) → length out < length bs → Gives (put bs out) 0 out
unfolding put
put_short bs out h = rw (lt-leb (length bs) (length out) h) (record { answer = refl; memory = refl })

-- zero says that there was no room, and nothing else, where there is a byte to put
pub put_zero : (bs out : List ℕ) {l : List ℕ} → 0 < length bs → Gives (put bs out) 0 l → length out < length bs
put_zero bs out s g = by (leb (length bs) (length out)) refl
  where
    by : (b : Bool) → leb (length bs) (length out) ≡ b → length out < length bs
    by true e = let p = put_fits bs out (leb-true (length bs) (length out) e) g in absurd (omega (arith, p.count_is))
    by false e = leb-false (length bs) (length out) e

pub put_nothing : (out : List ℕ) → Gives (put [] out) 0 out
put_nothing out = put_done (omega arith) (record { count_is = refl; list_is = refl })

-- ---- what is promised of a list is promised of one that is equal
pub long_as : {m x : List ℕ} {r : ℕ} → m ≡ x → r ≡ length x → r ≡ length m
long_as e q = rw e q

pub put_as : {m x : List ℕ} (out : List ℕ) {r : ℕ} {l : List ℕ} → m ≡ x → Gives (put x out) r l → Gives (put m out) r l
put_as out e g = rw e g

-- ---- what was put so far
pub puts_none : (out : List ℕ) → Puts [] out 0 out
puts_none out = record { count_is = refl; list_is = refl }

pub puts_start : (bs out l : List ℕ) → l ≡ lay 0 bs out → Puts bs out (length bs) l
puts_start bs out l e = record { count_is = refl; list_is = e }

module _ {bs out : List ℕ} {at : ℕ} {l : List ℕ} (p : Puts bs out at l) where
  pub puts_long : length bs ≤ length out → length l ≡ length out
  puts_long h = ap length p.list_is ∙ length_lay 0 bs out (omega arith)

  pub puts_inside : length bs ≤ length out → at ≤ length l
  puts_inside h = omega (arith, puts_long h, p.count_is)

  -- bytes behind bytes
  pub puts_laid : (cs : List ℕ) {k : ℕ} {ys : List ℕ} → length bs + length cs ≤ length out → Puts cs (mid_of at (length l - at) l) k ys → Puts (bs ++ cs) out (at + k) (put_mid at (length l - at) l ys)
  puts_laid cs {k = k} {ys = ys} h q =
      let f : l ≡ bs ++ drop (length bs) out = p.list_is ∙ lay_front bs out in
      let t : take at l ≡ bs = rw (p.count_is, f) (take_at bs (drop (length bs) out) (length bs) refl) in
      let d : drop at l ≡ drop (length bs) out = rw (p.count_is, f) (drop_at bs (drop (length bs) out) (length bs) refl) in
      let y : ys ≡ cs ++ drop (length bs + length cs) out = q.list_is ∙ lay_front cs (mid_of at (length l - at) l) ∙ rw (lent at l, d, drop-drop) in
      record {
        count_is = omega (arith, length-append bs cs, p.count_is, q.count_is);
        list_is = home at l ys ∙ rw (t, y, lay_front, length-append, append_assoc);
      }

  pub puts_more : (cs : List ℕ) {k : ℕ} {ys : List ℕ} → length bs + length cs ≤ length out → Gives (put cs (mid_of at (length l - at) l)) k ys → Puts (bs ++ cs) out (at + k) (put_mid at (length l - at) l ys)
  puts_more cs h g =
      puts_laid cs h (put_fits cs (mid_of at (length l - at) l) (lent_long at (length cs) l (omega (arith, puts_long (omega arith), p.count_is))) g)

  -- a run laid in the list itself, behind what was put so far
  module _ (run : List ℕ) (h : length bs + length run ≤ length out) where
    pub puts_append : (m : List ℕ) → m ≡ lay at run l → Puts (bs ++ run) out (at + length run) m
    puts_append m e =
        let z : 0 + length bs ≡ length bs = omega arith in
        record {
          count_is = omega (arith, p.count_is, length-append bs run);
          list_is = e ∙ rw (p.count_is, p.list_is) (ap (λ (n : ℕ). lay n run (lay 0 bs out)) (sym z) ∙ lay_next 0 bs run out (omega arith));
        }

    pub puts_next : (r : ℕ) (m : List ℕ) → Gives (record { answer = at + length run; memory = lay at run l }) r m → Puts (bs ++ run) out r m
    puts_next r m g = rw g.answer (puts_append m g.memory)

-- ---- a writer of two parts, one behind the other
module _ (whole bs cs out : List ℕ) (parts : whole ≡ bs ++ cs) where
  pub both_long : length whole ≡ length bs + length cs
  both_long = ap length parts ∙ length-append bs cs

  module _ {at : ℕ} {l : List ℕ} (g : Gives (put bs out) at l) (room : length whole ≤ length out) where
    first : Puts bs out at l
    first = put_fits bs out (omega (arith, both_long)) g

    pub both_inside : at ≤ length l
    both_inside = puts_inside first (omega (arith, both_long))

    pub both_room : length cs ≤ length (mid_of at (length l - at) l)
    both_room = lent_long at (length cs) l (omega (arith, both_long, puts_long first (omega (arith, both_long)), first.count_is))

    module _ {k : ℕ} {ys : List ℕ} (q : Gives (put cs (mid_of at (length l - at) l)) k ys) where
      second : Puts cs (mid_of at (length l - at) l) k ys
      second = put_fits cs (mid_of at (length l - at) l) both_room q

      pub both_sum : at + k ≡ length whole
      both_sum = omega (arith, both_long, first.count_is, second.count_is)

      pub both_done : Gives (put whole out) (at + k) (put_mid at (length l - at) l ys)
      both_done = rw parts (put_done (omega (arith, length-append bs cs, both_long)) (puts_laid first cs (omega (arith, both_long)) second))
