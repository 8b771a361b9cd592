-- What a part names, at each return of `text` and `words`.
use mathlib.Core.Path.{◌≡◌}
use mathlib.Core.List.{List}
use Prim.Native.Nat.{ℕ, ◌+◌, ◌-◌, ◌*◌, ◌<◌, ◌≤◌}
use native.Mathlib.Omega.{arith}
use borrow.Author.Tests.{le-leb, lt-leb}
use lib.ListN.{length, take, drop}
use Rattle.script.specs.declared.Part.{Part}
use Rattle.script.specs.Script.{text_of, words_of}

-- ---- what a part names
module _ (bytes : List ℕ) (p : Part) where
  pub text_past : length bytes < 4 * p.start + p.len → take 0 bytes ≡ text_of bytes p
  unfolding text_of
  text_past h = rw (lt-leb (4 * p.start + p.len) (length bytes) h)

  pub text_inside : 4 * p.start + p.len ≤ length bytes → take (4 * p.start + p.len - 4 * p.start) (drop (4 * p.start) bytes) ≡ text_of bytes p
  unfolding text_of
  text_inside h = let e : 4 * p.start + p.len - 4 * p.start ≡ p.len = omega arith in rw (e, le-leb (4 * p.start + p.len) (length bytes) h)

  pub words_past : length bytes < p.start + p.len → take 0 bytes ≡ words_of bytes p
  unfolding words_of
  words_past h = rw (lt-leb (p.start + p.len) (length bytes) h)

  pub words_inside : p.start + p.len ≤ length bytes → take (p.start + p.len - p.start) (drop p.start bytes) ≡ words_of bytes p
  unfolding words_of
  words_inside h = let e : p.start + p.len - p.start ≡ p.len = omega arith in rw (e, le-leb (p.start + p.len) (length bytes) h)
