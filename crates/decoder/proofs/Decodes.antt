-- The call by what the first pass answers: a fault, no room, or the vertices written.
use Prim.Native.Nat.{ℕ, ◌*◌, ◌<◌, ◌≤◌}
use mathlib.Core.Path.{◌≡◌, refl, sym, ◌∙◌}
use mathlib.Core.List.{List}
use native.Mathlib.Omega.{arith}
use borrow.Author.Tests.{le-ltb, lt-ltb}
use lib.IntN.{ℤ}
use lib.ListN.{length}
use mir.Syntax.{w64}
use mir.Val.{Fits}
use Rattle.promise.specs.Answers.{Gives}
use Rattle.refusal.specs.declared.Fault.{Fault}
use Rattle.refusal.specs.declared.Refusal.TheVariants.{Room}
use Rattle.refusal.specs.Said.{plain}
use Rattle.words.specs.Geometries.{max_words}
use Rattle.decoder.specs.Vertices.{Cursor, Vertex, Trace, traced, faulty, origin}
use Rattle.decoder.specs.ReadingWords.{trace, reading, said_reading}
use Rattle.decoder.specs.Passing.{size_of, HasRoom, filled}
use Rattle.decoder.proofs.Sizes.{few_vertices}
use Rattle.std.specs.Prelude.{Result, Ok, Err}

-- n vertices were read
record Sizes (t : Trace) (n : ℕ) : Type 0 where
  vs : List Vertex
  end : Cursor
  is : t ≡ traced vs end
  count : length vs ≡ n

sized : (t : Trace) (n : ℕ) → Ok n ≡ size_of t → Sizes t n
sized (traced vs c) n e = record { vs = vs; end = c; is = refl; count = cc }
sized (faulty r) n e = let z : ◌≡◌ {A = ℕ} 0 1 = cc in absurd (omega arith)

barred : (t : Trace) (f : Fault) → Err f ≡ size_of t → t ≡ faulty f
barred (traced vs c) f e = let z : ◌≡◌ {A = ℕ} 0 1 = cc in absurd (omega arith)
barred (faulty r) f e = cc

module _ (ws : List ℕ) (out : List ℤ) (r : Result ℕ Fault) (e : r ≡ size_of (trace ws)) where
  pub decode_bad : (f : Fault) → r ≡ Err f → Gives (reading ws out) (said_reading (Err f)) out
  decode_bad f g = rw (barred (trace ws) f (sym g ∙ e)) (record { answer = refl; memory = refl })

  module _ (n : ℕ) (f : r ≡ Ok n) where
    size : Sizes (trace ws) n
    size = sized (trace ws) n (sym f ∙ e)

    decode_few : n ≤ length ws
    decode_few = omega (arith, size.count, few_vertices 0 origin ws size.vs size.end size.is)

    pub decode_over : (most : ℕ) → most ≡ max_words → most < length ws → Gives (reading ws out) (said_reading (Err (plain Room))) out
    decode_over most g h =
        let k : max_words < length ws = omega arith in
        rw (size.is, lt-ltb max_words (length ws) k) (record { answer = refl; memory = refl })

    module _ (most : ℕ) (g : most ≡ max_words) (h : length ws ≤ most) where
      within_cap : length ws ≤ max_words
      within_cap = omega arith

      -- three numbers a vertex are not too many to reckon with
      pub decode_triple : Fits w64 (3 * n)
      decode_triple = record { fits = omega (arith, decode_few, within_cap) }

      pub decode_short : length out < 3 * n → Gives (reading ws out) (said_reading (Err (plain Room))) out
      decode_short s = rw (size.is, le-ltb max_words (length ws) within_cap, size.count, lt-ltb (length out) (3 * n) s) (record { answer = refl; memory = refl })

      pub decode_fits : 3 * n ≤ length out → HasRoom (trace ws) 0 (length out)
      decode_fits s = rw (size.is, size.count) (omega arith)

      pub decode_done : 3 * n ≤ length out → (out' : List ℤ) → out' ≡ filled (trace ws) 0 out → Gives (reading ws out) (said_reading (Ok n)) out'
      decode_done s out' w =
          rw (size.is, le-ltb max_words (length ws) within_cap, size.count, le-ltb (length out) (3 * n) s)
          (record { answer = refl; memory = rw size.is at w })
