-- One part after the other at the front of what is left of a lent list: the law of every chain of fields and of every loop over fields.
--     run_first run_start     a first part has been put, or none
--     run_inside run_long     the place reached is in the list, and the list's length stays
--     run_room run_sum run_turn    one part more, for which there is room
--     run_end                 nothing is left: all of them are put
--     run_last run_last_sum run_last_long    the last part is put
use Prim.Native.Nat.{ℕ, ◌+◌, ◌-◌, ◌≤◌}
use mathlib.Core.Path.{◌≡◌, refl, sym, ap, ◌∙◌}
use mathlib.Core.List.{List, [], ◌++◌, append-nil, append_assoc}
use native.Mathlib.Omega.{arith}
use lib.ListN.{length, length-append}
use borrow.Rule.Slice.PartMut.{mid_of, put_mid}
use Rattle.promise.specs.Answers.{Gives}
use Rattle.promise.proofs.Parts.{lent_long}
use Rattle.promise.specs.Puts.{put, Puts}
use Rattle.promise.proofs.Fronts.{put_fits, put_done, puts_none, puts_inside, puts_long, puts_more}

-- of the whole, which has room in out₀, all but the rest is put: out is the list now, and at the place reached
pub record Run (whole rest out₀ out : List ℕ) (at : ℕ) : Type 0 where
  pub room : length whole ≤ length out₀
  pub done : List ℕ
  pub parts : whole ≡ done ++ rest
  pub puts : Puts done out₀ at out

pub run_start : (whole out : List ℕ) → length whole ≤ length out → Run whole whole out out 0
run_start whole out h = record { room = h; done = []; parts = refl; puts = puts_none out }

-- the part that is put next, and what is left behind it
pub run_first : (whole part rest out₀ : List ℕ) {at : ℕ} {out : List ℕ} → whole ≡ part ++ rest → length whole ≤ length out₀ → Gives (put part out₀) at out → Run whole rest out₀ out at
run_first whole part rest out₀ e h g =
    record { room = h; done = part; parts = e; puts = put_fits part out₀ (omega (arith, ap length e, length-append part rest)) g }

module _ {whole rest out₀ out : List ℕ} {at : ℕ} (I : Run whole rest out₀ out at) where
  total : length whole ≡ length I.done + length rest
  total = ap length I.parts ∙ length-append I.done rest

  pub run_inside : at ≤ length out
  run_inside = puts_inside I.puts (omega (arith, total, I.room))

  pub run_long : length out ≡ length out₀
  run_long = puts_long I.puts (omega (arith, total, I.room))

  pub run_room : (part after : List ℕ) → rest ≡ part ++ after → length part ≤ length (mid_of at (length out - at) out)
  run_room part after e = lent_long at (length part) out (omega (arith, total, I.room, I.puts.count_is, run_long, ap length e, length-append part after))

  module _ (part after : List ℕ) {k : ℕ} {ys : List ℕ} (e : rest ≡ part ++ after) (g : Gives (put part (mid_of at (length out - at) out)) k ys) where
    fits : length I.done + length part ≤ length out₀
    fits = omega (arith, total, I.room, ap length e, length-append part after)

    more : Puts (I.done ++ part) out₀ (at + k) (put_mid at (length out - at) out ys)
    more = puts_more I.puts part fits g

    pub run_sum : at + k ≤ length out₀
    run_sum = omega (arith, more.count_is, length-append I.done part, fits)

    pub run_turn : Run whole after out₀ (put_mid at (length out - at) out ys) (at + k)
    run_turn =
        record {
          room = I.room;
          done = I.done ++ part;
          parts = I.parts ∙ ap (λ (l : List ℕ). I.done ++ l) e ∙ sym (append_assoc I.done part after);
          puts = more;
        }

  pub run_end : rest ≡ [] → Gives (put whole out₀) at out
  run_end e =
      let f : whole ≡ I.done = I.parts ∙ rw (e, append-nil) in
      rw f (put_done (omega (arith, ap length f, I.room)) I.puts)

-- the last part
module _ {whole rest out₀ out : List ℕ} {at : ℕ} (I : Run whole rest out₀ out at) {k : ℕ} {ys : List ℕ} (g : Gives (put rest (mid_of at (length out - at) out)) k ys) where
  pub run_last_sum : at + k ≤ length out₀
  run_last_sum = run_sum I rest [] (sym (append-nil rest)) g

  pub run_last_long : length (put_mid at (length out - at) out ys) ≡ length out₀
  run_last_long = run_long (run_turn I rest [] (sym (append-nil rest)) g)

  pub run_last : Gives (put whole out₀) (at + k) (put_mid at (length out - at) out ys)
  run_last = run_end (run_turn I rest [] (sym (append-nil rest)) g) refl
