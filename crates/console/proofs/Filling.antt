-- What stands behind the bytes that are filled, and is filled by one read more.
use mathlib.Core.Path.{◌≡◌, sym, ◌∙◌, ap}
use mathlib.Core.List.{List, ◌++◌}
use Prim.Native.Nat.{ℕ, ◌+◌, ◌-◌, ◌≤◌}
use borrow.Rule.Slice.PartMut.{put_mid, post_of}
use lib.ListN.{length, take, drop}
use lib.Seq.{take-add, take-append-le}
use Rattle.std.proofs.Common.{le_refl, drop_at, length-take-le}
use Rattle.std.proofs.lemmas.Slice.{take-put_mid_below}

module _ (done n : ℕ) (bytes read : List ℕ) (inside : done ≤ length bytes) (h : n ≤ length read) where
  abbrev after : List ℕ
  after = put_mid done (length bytes - done) bytes read

  front : take done after ≡ take done bytes
  front = take-put_mid_below _ _ _ _ _ (le_refl _) inside

  behind : take n (drop done after) ≡ take n read
  behind =
      let rest = post_of done (length bytes - done) bytes in
      ap (take n) (drop_at (take done bytes) (read ++ rest) done (length-take-le done bytes inside)) ∙ take-append-le n read rest h

  pub filled : take done bytes ++ take n read ≡ take (done + n) after
  filled = ap (λ (l : List ℕ). l ++ take n read) (sym front) ∙ ap (λ (l : List ℕ). take done after ++ l) (sym behind) ∙ sym (take-add done n after)
