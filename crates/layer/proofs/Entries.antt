-- How much is put of an entry: nothing where it was found, else all of it; and its text among the others.
use Prim.Native.Nat.{ℕ, ◌*◌}
use mathlib.Core.Path.{◌≡◌, refl, ap, ◌∙◌}
use mathlib.Core.List.{List, ◌++◌}
use lib.ListN.{length, take}
use lib.Seq.{take_at, drop_at}
use Rattle.std.specs.Prelude.{Option, Some, None, unwrap_or}
use Rattle.table.specs.Texts.{text_of}
use Rattle.layer.specs.Calls.{more_of, put_of, index_of}

pub length_put : (f : Option ℕ) (run : List ℕ) → length (put_of f run) ≡ more_of f (length run)
length_put (Some j) run = refl
length_put None run = refl

pub twice : (f : Option ℕ) → more_of f 2 ≡ more_of f 1 * 2
twice (Some j) = refl
twice None = refl

pub thrice : (f : Option ℕ) → more_of f 3 ≡ more_of f 1 * 3
thrice (Some j) = refl
thrice None = refl

-- a text between others
pub text_next : (a b c : List ℕ) (n : ℕ) → length a ≡ n → text_of (a ++ (b ++ c)) n (length b) ≡ b
text_next a b c n e = ap (take (length b)) (drop_at a (b ++ c) n e) ∙ take_at b c (length b) refl

-- the index of what was found, or of what goes last, as the library reads it off
pub index_is : (f : Option ℕ) (n r : ℕ) → r ≡ unwrap_or f n → r ≡ index_of f n
index_is (Some j) n r e = e
index_is None n r e = e
