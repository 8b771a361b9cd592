-- oracle/README.md, "Tile script": one operation of a script, at a place of its numbers. "A text is its length in bytes and then its bytes, filled up with
-- zero bytes to a multiple of four."
use Rattle.std.specs.Prelude.{ℕ, ◌+◌, ◌-◌, ◌*◌, ◌/◌, ◌%◌, ◌^◌, Bool, true, false, cond, Option, Some, None, List, [], leb, ltb, eqb, length, get_or, take, drop}
use Rattle.whole.specs.Twos.{signed64, wide}
use Rattle.script.specs.declared.Part.{Part}
use Rattle.script.specs.declared.Value.{Value}
use Rattle.script.specs.declared.Value.TheVariants.{Text, Float, Double, Int, Uint, Sint, Bool as BoolValue}
use Rattle.script.specs.declared.Op.{Op}
use Rattle.script.specs.declared.Op.TheVariants.{Create, Open, SetId, Tag, Close, Abandon, Add}

-- ---- a text
-- how many words its bytes take
abbrev pub words_for : ℕ → ℕ
words_for len = (len + 3) / 4

-- its last word has no more bytes than the text has left for it; the others are zero
abbrev pub filled : ℕ → ℕ → Bool
filled len last = cond (eqb (len % 4) 0) true (ltb last (256 ^ (len % 4)))

abbrev pub part : ℕ → ℕ → Part
part start len = record { start = start; len = len }

-- the text whose length stands at a place, and where the number behind it stands
abbrev pub text_at : List ℕ → ℕ → Option (Part × ℕ)
text_at ns at =
    cond (ltb at (length ns))
    (cond (leb (words_for (get_or ns at 0)) (length ns - (at + 1)))
    (cond (filled (get_or ns at 0) (get_or ns (at + words_for (get_or ns at 0)) 0))
    (Some (part (at + 1) (get_or ns at 0), at + words_for (get_or ns at 0) + 1))
    None)
    None)
    None

abbrev pub with_text : Option (Part × ℕ) → (Part → ℕ → Option (Op × ℕ)) → Option (Op × ℕ)
with_text (Some (t, next)) go = go t next
with_text None go = None

-- ---- what follows each operation's number
abbrev pub pair_at : List ℕ → ℕ → ℕ
pair_at ns at = wide (get_or ns at 0) (get_or ns (at + 1) 0)

-- 1, and 8 for a strict layer: extent, name
unfoldable pub creates : Bool → List ℕ → ℕ → Option (Op × ℕ)
creates strict ns at = cond (ltb at (length ns)) (with_text (text_at ns (at + 1)) (λ name next. Some (Create (get_or ns at 0) name strict, next))) None

-- 2: kind, word count, words
unfoldable pub opens : List ℕ → ℕ → Option (Op × ℕ)
opens ns at =
    cond (leb 2 (length ns - at))
    (cond (leb (get_or ns (at + 1) 0) (length ns - (at + 2)))
    (Some (Open (get_or ns at 0) (part (at + 2) (get_or ns (at + 1) 0)), at + 2 + get_or ns (at + 1) 0))
    None)
    None

-- 3: low half, high half
unfoldable pub sets : List ℕ → ℕ → Option (Op × ℕ)
sets ns at = cond (leb 2 (length ns - at)) (Some (SetId (pair_at ns at), at + 2)) None

-- 4: key, value kind, content: kind 1 a text, 2 one word, 3 to 6 low and high half, 7 one word 0 or 1
unfoldable pub string_at : Part → List ℕ → ℕ → Option (Op × ℕ)
string_at key ns at = with_text (text_at ns at) (λ text next. Some (Tag key (Text text), next))

unfoldable pub float_at : Part → List ℕ → ℕ → Option (Op × ℕ)
float_at key ns at = cond (ltb at (length ns)) (Some (Tag key (Float (get_or ns at 0)), at + 1)) None

-- kinds 3 double, 4 int, 5 uint, 6 sint
abbrev pub long_value : ℕ → ℕ → Value
long_value kind bits = cond (eqb kind 3) (Double bits) (cond (eqb kind 4) (Int (signed64 bits)) (cond (eqb kind 5) (Uint bits) (Sint (signed64 bits))))

unfoldable pub long_at : Part → ℕ → List ℕ → ℕ → Option (Op × ℕ)
long_at key kind ns at = cond (leb 2 (length ns - at)) (Some (Tag key (long_value kind (pair_at ns at)), at + 2)) None

unfoldable pub bool_at : Part → List ℕ → ℕ → Option (Op × ℕ)
bool_at key ns at = cond (ltb at (length ns)) (cond (leb (get_or ns at 0) 1) (Some (Tag key (BoolValue (eqb (get_or ns at 0) 1)), at + 1)) None) None

abbrev pub content : Part → ℕ → List ℕ → ℕ → Option (Op × ℕ)
content key kind ns at =
    cond (eqb kind 1) (string_at key ns at) (
    cond (eqb kind 2) (float_at key ns at) (
    cond (eqb kind 7) (bool_at key ns at) (
    cond (ltb kind 3) None (
    cond (ltb 6 kind) None
    (long_at key kind ns at)))))

unfoldable pub valued : Part → List ℕ → ℕ → Option (Op × ℕ)
valued key ns at = cond (ltb at (length ns)) (content key (get_or ns at 0) ns (at + 1)) None

unfoldable pub tags : List ℕ → ℕ → Option (Op × ℕ)
tags ns at = with_text (text_at ns at) (λ key next. valued key ns next)

-- ---- an operation: its number, and what follows it
abbrev pub follows : ℕ → List ℕ → ℕ → Option (Op × ℕ)
follows number ns at =
    cond (eqb number 1) (creates false ns at) (
    cond (eqb number 2) (opens ns at) (
    cond (eqb number 3) (sets ns at) (
    cond (eqb number 4) (tags ns at) (
    cond (eqb number 5) (Some (Close, at)) (
    cond (eqb number 6) (Some (Abandon, at)) (
    cond (eqb number 7) (Some (Add, at)) (
    cond (eqb number 8) (creates true ns at)
    None)))))))

unfoldable pub operation : List ℕ → ℕ → Option (Op × ℕ)
operation ns at = cond (ltb at (length ns)) (follows (get_or ns at 0) ns (at + 1)) None

-- ---- what a part names: a text in the script's bytes, four to a word; a run of words in its numbers
unfoldable pub text_of : List ℕ → Part → List ℕ
text_of bytes p = cond (leb (4 * p.start + p.len) (length bytes)) (take p.len (drop (4 * p.start) bytes)) []

unfoldable pub words_of : List ℕ → Part → List ℕ
words_of ns p = cond (leb (p.start + p.len) (length ns)) (take p.len (drop p.start ns)) []
