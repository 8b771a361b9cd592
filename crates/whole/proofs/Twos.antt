-- A word read as a signed number, as the machine computes it, at any width: from half on it is one less than minus what is missing to the largest word.
use mathlib.Core.Path.{◌≡◌, refl, ◌∙◌}
use Prim.Native.Nat.{ℕ, suc, ◌+◌, ◌*◌, ◌-◌, ◌<◌, ◌≤◌, ◌^◌}
use native.Mathlib.Omega.{arith}
use borrow.Author.Tests.{lt-ltb, le-ltb}
use lib.IntN.{pos, negsuc, ◌-ℤ◌}
use mir.Syntax.{Width}
use mir.Val.{SFits, to_z, hbits}
use mir.Facts.{to_z_pos}
use Rattle.whole.specs.Twos.{twos}
use Rattle.whole.proofs.Parts.{zarith, -parts}

-- two's complement from half on
pub twos_high : (half top n : ℕ) → suc top ≡ 2 * half → half ≤ n → n ≤ top → twos half n ≡ negsuc (top - n)
twos_high half top n t h l = rw (le-ltb n half h) (omega (zarith, t, -parts (pos n) (pos (2 * half))))

module _ (w : Width) (half top n : ℕ) (e : 2 ^ hbits w ≡ half) (t : suc top ≡ 2 * half) (l : n ≤ top) where
  pub signed_low : n < half → to_z w n ≡ twos half n
  signed_low h = rw (lt-ltb n half h) (to_z_pos w (rw e h))

  -- -1 - (top - n)
  high : half ≤ n → negsuc 0 -ℤ to_z w (top - n) ≡ negsuc (top - n)
  high h =
      let f : top - n < half = omega (arith, t) in
      let g : to_z w (top - n) ≡ pos (top - n) = to_z_pos w (rw e f) in
      rw g (omega (zarith, -parts (negsuc 0) (pos (top - n))))

  pub high_fits : half ≤ n → SFits w (negsuc 0 -ℤ to_z w (top - n))
  high_fits h = let f : top - n < half = omega (arith, t) in rw (high h) (record { sfits = rw e f })

  pub signed_high : half ≤ n → negsuc 0 -ℤ to_z w (top - n) ≡ twos half n
  signed_high h = high h ∙ (rw (twos_high half top n t h l))
