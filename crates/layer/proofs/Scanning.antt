-- UTF8 of a tag, at the returns of `is_tag_utf8`, and of every tag of a list.
use Prim.Native.Nat.{ℕ, ◌+◌, ◌-◌, ◌≤◌}
use mathlib.Core.Path.{◌≡◌, sym, ◌∙◌}
use mathlib.Core.Bool.{Bool, true, false, cond, not}
use mathlib.Core.List.{List}
use native.Mathlib.Omega.{arith}
use lib.ListN.{length, get_or, take, drop}
use borrow.Author.Tests.{not-true, not-false, eq-eqb, ne_eqb}
use Rattle.promise.specs.Widened.{Wide}
use Rattle.utf8.specs.Utf8.{is_utf8}
use Rattle.layer.specs.TagLists.{tag_at, tags_of, tag_utf8, tags_utf8}
use Rattle.layer.proofs.Listing.{five}

module _ (bytes ws : List ℕ) (i a l : ℕ) (x : Wide (get_or ws i 0) a) (y : Wide (get_or ws (i + 1) 0) l) (k : Bool) (g : k ≡ is_utf8 (take (a + l - a) (drop a bytes))) where
  key_told : is_utf8 (tag_at bytes ws i).key ≡ k
  key_told = let e : a + l - a ≡ l = omega arith in sym (g ∙ rw (e, x.same, y.same))

  pub key_ill : not k ≡ true → false ≡ tag_utf8 (tag_at bytes ws i)
  key_ill h = rw (key_told, not-true k h)

  module _ (h : not k ≡ false) where
    pub no_text : (get_or ws (i + 2) 0 ≡ 1 → ⊥) → true ≡ tag_utf8 (tag_at bytes ws i)
    no_text n = rw (key_told, not-false k h, ne_eqb (get_or ws (i + 2) 0) 1 n)

    pub text_told : get_or ws (i + 2) 0 ≡ 1 → (c m : ℕ) → Wide (get_or ws (i + 3) 0) c → Wide (get_or ws (i + 4) 0) m → (t : Bool) → t ≡ is_utf8 (take (c + m - c) (drop c bytes)) → t ≡ tag_utf8 (tag_at bytes ws i)
    text_told q c m u v t f =
        let e : c + m - c ≡ m = omega arith in
        let z : t ≡ is_utf8 (take (get_or ws (i + 4) 0) (drop (get_or ws (i + 3) 0) bytes)) = f ∙ rw (e, u.same, v.same) in
        rw (key_told, not-false k h, eq-eqb (get_or ws (i + 2) 0) 1 q) z

-- ---- every tag of a list
abbrev pub all_utf8 : List ℕ → List ℕ → Bool
all_utf8 bytes ws = tags_utf8 (tags_of bytes ws)

pub utf8_step : (bytes ws : List ℕ) (i : ℕ) → i + 5 ≤ length ws → all_utf8 bytes (drop i ws) ≡ cond (tag_utf8 (tag_at bytes ws i)) (all_utf8 bytes (drop (i + 5) ws)) false
utf8_step bytes ws i h = rw (five ws i h)
