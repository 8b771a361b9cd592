-- Crate `layer`: wrong answers of the calls that put a tag.
use Rattle.std.specs.Prelude.{ℕ, suc, ◌+◌, ◌*◌, ◌/◌, ◌%◌, ◌≡◌, Bool, true, cond, List, [], ◌∷◌, ◌++◌, ℤ, pos, negsuc, nat_abs, length, get_or, set, replicate, Option, Some, None}
use Rattle.std.proofs.Common.{ap, arith}
use Rattle.refusal.specs.declared.Refusal.TheVariants.{State, Text as TextRefusal, Utf8}
use Rattle.words.specs.Params.{param}
use Rattle.table.specs.declared.Value.{Value}
use Rattle.table.specs.Texts.{short_text}
use Rattle.utf8.specs.Utf8.{is_utf8}
use Rattle.table.specs.Keys.{find_key}
use Rattle.table.specs.Values.{find_value}
use Rattle.layer.specs.declared.Figures.{Figures}
use Rattle.layer.specs.declared.Layer.{Layer}
use Rattle.layer.specs.Held.{Memory, mem, Seen, seen, check, when_open, held_by, onto, written}
use Rattle.layer.specs.State.{valid}
use Rattle.layer.specs.Calls.{Tag, index_of}
use Rattle.layer.specs.Calls.{put_of, key_words, value_words, with_tag, held_with, tagged_by, tagged, tagged_once, add_tag, value_of, bits_of, bit_of, tag_string, tag_bits}
use Rattle.ruled_out.specs.Inputs.{item, figures, refusal_of, used_after, held_after, layer_of}
use Rattle.ruled_out.specs.Inputs.{before, now, whole, begun}

-- ---- the tag calls: what one tag puts
-- key and value index exchanged
pub pair_turned : ((at k v : ℕ) (ws : List ℕ) → with_tag at k v ws ≡ set (ws ++ (v ∷ k ∷ [])) (at + 4) (get_or ws (at + 4) 0 + 2)) → ⊥
pair_turned h = let e : ◌≡◌ {A = ℕ} 0 1 = ap (item 6) (h 0 0 1 (1 ∷ 0 ∷ 0 ∷ 0 ∷ 0 ∷ 0 ∷ [])) in omega arith

-- one word of the two is counted
pub one_counted : ((at k v : ℕ) (ws : List ℕ) → with_tag at k v ws ≡ set (ws ++ (k ∷ v ∷ [])) (at + 4) (get_or ws (at + 4) 0 + 1)) → ⊥
one_counted h = let e : ◌≡◌ {A = ℕ} 2 1 = ap (item 4) (h 0 0 0 (1 ∷ 0 ∷ 0 ∷ 0 ∷ 0 ∷ 0 ∷ [])) in omega arith

-- a new entry has the next index but one
pub index_off : ((next : ℕ) → index_of None next ≡ suc next) → ⊥
index_off h = let e : ◌≡◌ {A = ℕ} 0 1 = h 0 in omega arith

-- an entry that was found has the next index
pub last_index : ((j next : ℕ) → index_of (Some j) next ≡ next) → ⊥
last_index h = let e : ◌≡◌ {A = ℕ} 0 1 = h 0 1 in omega arith

-- a new key goes first
pub key_first : ((u o : Figures) (m : Memory) (t : Tag) (kf vf : Option ℕ)
    → (held_with u o m t kf vf).keys ≡ put_of kf (key_words u.texts t.key) ++ m.keys) → ⊥
key_first h = let e : ◌≡◌ {A = ℕ} 1 3 = ap (item 0) (h now before (mem (1 ∷ 1 ∷ []) [] [] []) (tag_string (98 ∷ []) []) None None) in omega arith

-- the value's text before the key's
pub value_text_first : ((u o : Figures) (m : Memory) (t : Tag) (kf vf : Option ℕ)
    → (held_with u o m t kf vf).texts ≡ m.texts ++ (put_of vf t.text ++ put_of kf t.key)) → ⊥
value_text_first h = let e : ◌≡◌ {A = ℕ} 98 99 = ap (item 0) (h now before (mem [] [] [] []) (tag_string (98 ∷ []) (99 ∷ [])) None None) in omega arith

-- the value's text is said to start where the key's does
pub value_text_misplaced : ((u o : Figures) (m : Memory) (t : Tag) (kf vf : Option ℕ)
    → (held_with u o m t kf vf).values ≡ m.values ++ put_of vf (value_words u.texts t.value t.text)) → ⊥
value_text_misplaced h = let e : ◌≡◌ {A = ℕ} 4 3 = ap (item 1) (h now before (mem [] [] [] []) (tag_string (98 ∷ []) (99 ∷ [])) None None) in omega arith

-- an equal key is stored again
pub key_not_shared : ((t : Tag) (v : Seen) (o : Figures)
    → tagged t v o ≡ tagged_by t v o None (find_value 0 v.held.values v.held.texts t.value t.text)) → ⊥
key_not_shared h = let e : ◌≡◌ {A = ℕ} 1 2 = ap (λ c. (used_after c).keys) (h (tag_bits 5 (107 ∷ []) 5) begun before) in omega arith

-- an equal value is stored again
pub value_not_shared : ((t : Tag) (v : Seen) (o : Figures)
    → tagged t v o ≡ tagged_by t v o (find_key 0 v.held.keys v.held.texts t.key) None) → ⊥
value_not_shared h = let e : ◌≡◌ {A = ℕ} 1 2 = ap (λ c. (used_after c).values) (h (tag_string (107 ∷ []) (118 ∷ [])) begun before) in omega arith

-- ---- the tag calls: their checks
-- TURN is asked before TEXT
pub turn_before_text : ((t : Tag) (v : Seen) → add_tag t v ≡ check (valid v) State (when_open v.layer.feature
    (λ o. check (short_text (length t.key)) TextRefusal (check (short_text (length t.text)) TextRefusal
    (check (is_utf8 t.key) Utf8 (check (is_utf8 t.text) Utf8 (tagged_once t v o))))))) → ⊥
unfolding valid
turn_before_text h = let e : ◌≡◌ {A = ℕ} 11 12 = ap refusal_of (h (tag_string (replicate 1025 0) []) whole) in omega arith

-- a value's text of more than 1,024 bytes is taken
pub long_value_taken : ((t : Tag) (v : Seen) → add_tag t v ≡ check (valid v) State (check (short_text (length t.key)) TextRefusal
    (check (is_utf8 t.key) Utf8 (check (is_utf8 t.text) Utf8 (when_open v.layer.feature (λ o. tagged_once t v o)))))) → ⊥
unfolding valid
long_value_taken h = let e : ◌≡◌ {A = ℕ} 11 12 = ap refusal_of (h (tag_string [] (replicate 1025 0)) whole) in omega arith

-- a refused tag has put its key
pub refused_tag_writes : ((t : Tag) (s : Layer) (m : Memory) (o : Figures) → (written (tagged t (seen s m) o) s m).memory.keys
    ≡ (onto (held_with s.used o (held_by s.used m) t None None) m).keys) → ⊥
refused_tag_writes h =
    let e : ◌≡◌ {A = ℕ} 0 1 = ap (item 1) (h (tag_bits 5 (98 ∷ []) 5) (layer_of (figures 0 0 1 6) (Some before))
    (mem (0 ∷ 0 ∷ []) [] (97 ∷ 0 ∷ []) (1 ∷ 0 ∷ 0 ∷ 0 ∷ 0 ∷ 0 ∷ [])) before)
    in omega arith

-- the lists are cut to their used parts
pub lists_cut : ((h m : Memory) → onto h m ≡ h) → ⊥
lists_cut h = let e : ◌≡◌ {A = ℕ} 1 0 = ap (λ (m : Memory). length m.keys) (h (mem [] [] [] []) (mem (0 ∷ []) [] [] [])) in omega arith

-- ---- the seven tag calls, of which only the value differs
-- a string stored as a bool
pub string_as_bool : ((key text : List ℕ) (v : Seen) → add_tag (tag_string key text) v ≡ add_tag (tag_bits 7 key 0) v) → ⊥
unfolding valid
string_as_bool h = let e : ◌≡◌ {A = ℕ} 1 7 = ap (λ c. item 3 (held_after c).values) (h (107 ∷ []) (98 ∷ []) begun) in omega arith

-- a string without its text
pub string_text_forgotten : ((key text : List ℕ) (v : Seen) → add_tag (tag_string key text) v ≡ add_tag (tag_string key []) v) → ⊥
unfolding valid
string_text_forgotten h = let e : ◌≡◌ {A = ℕ} 1 0 = ap (λ c. item 5 (held_after c).values) (h (107 ∷ []) (98 ∷ []) begun) in omega arith

-- a float stored as a double
pub float_as_double : ((key : List ℕ) (bits : ℕ) (v : Seen) → add_tag (tag_bits 2 key bits) v ≡ add_tag (tag_bits 3 key bits) v) → ⊥
unfolding valid
float_as_double h = let e : ◌≡◌ {A = ℕ} 2 3 = ap (λ c. item 3 (held_after c).values) (h (107 ∷ []) 5 begun) in omega arith

-- a float in the high half
pub float_in_high_half : ((key : List ℕ) (bits : ℕ) (v : Seen) → add_tag (tag_bits 2 key bits) v ≡ add_tag (tag_bits 2 key (4294967296 * bits)) v) → ⊥
unfolding valid
float_in_high_half h = let e : ◌≡◌ {A = ℕ} 5 0 = ap (λ c. item 4 (held_after c).values) (h (107 ∷ []) 5 begun) in omega arith

-- a double stored as a uint
pub double_as_uint : ((key : List ℕ) (bits : ℕ) (v : Seen) → add_tag (tag_bits 3 key bits) v ≡ add_tag (tag_bits 5 key bits) v) → ⊥
unfolding valid
double_as_uint h = let e : ◌≡◌ {A = ℕ} 3 5 = ap (λ c. item 3 (held_after c).values) (h (107 ∷ []) 5 begun) in omega arith

-- the low half of a double
pub double_low_half : ((key : List ℕ) (bits : ℕ) (v : Seen) → add_tag (tag_bits 3 key bits) v ≡ add_tag (tag_bits 3 key (bits % 4294967296)) v) → ⊥
unfolding valid
double_low_half h = let e : ◌≡◌ {A = ℕ} 1 0 = ap (λ c. item 5 (held_after c).values) (h (107 ∷ []) 4294967296 begun) in omega arith

-- an int stored as a sint
pub int_as_sint : ((key : List ℕ) (x : ℤ) (v : Seen) → add_tag (tag_bits 4 key (bits_of x)) v ≡ add_tag (tag_bits 6 key (bits_of x)) v) → ⊥
unfolding valid
int_as_sint h = let e : ◌≡◌ {A = ℕ} 4 6 = ap (λ c. item 3 (held_after c).values) (h (107 ∷ []) (pos 5) begun) in omega arith

-- an int without its sign
pub int_sign_lost : ((key : List ℕ) (x : ℤ) (v : Seen) → add_tag (tag_bits 4 key (bits_of x)) v ≡ add_tag (tag_bits 4 key (nat_abs x)) v) → ⊥
unfolding valid
int_sign_lost h = let e : ◌≡◌ {A = ℕ} 4294967291 5 = ap (λ c. item 4 (held_after c).values) (h (107 ∷ []) (negsuc 4) begun) in omega arith

-- a uint stored as an int
pub uint_as_int : ((key : List ℕ) (n : ℕ) (v : Seen) → add_tag (tag_bits 5 key n) v ≡ add_tag (tag_bits 4 key n) v) → ⊥
unfolding valid
uint_as_int h = let e : ◌≡◌ {A = ℕ} 5 4 = ap (λ c. item 3 (held_after c).values) (h (107 ∷ []) 5 begun) in omega arith

-- the low half of a uint
pub uint_low_half : ((key : List ℕ) (n : ℕ) (v : Seen) → add_tag (tag_bits 5 key n) v ≡ add_tag (tag_bits 5 key (n % 4294967296)) v) → ⊥
unfolding valid
uint_low_half h = let e : ◌≡◌ {A = ℕ} 1 0 = ap (λ c. item 5 (held_after c).values) (h (107 ∷ []) 4294967296 begun) in omega arith

-- a sint stored as an int
pub sint_as_int : ((key : List ℕ) (x : ℤ) (v : Seen) → add_tag (tag_bits 6 key (bits_of x)) v ≡ add_tag (tag_bits 4 key (bits_of x)) v) → ⊥
unfolding valid
sint_as_int h = let e : ◌≡◌ {A = ℕ} 6 4 = ap (λ c. item 3 (held_after c).values) (h (107 ∷ []) (pos 5) begun) in omega arith

-- a sint stored in zigzag
pub sint_in_zigzag : ((key : List ℕ) (x : ℤ) (v : Seen) → add_tag (tag_bits 6 key (bits_of x)) v ≡ add_tag (tag_bits 6 key (param x)) v) → ⊥
unfolding valid param
sint_in_zigzag h = let e : ◌≡◌ {A = ℕ} 5 10 = ap (λ c. item 4 (held_after c).values) (h (107 ∷ []) (pos 5) begun) in omega arith

-- a bool stored as a uint
pub bool_as_uint : ((key : List ℕ) (b : Bool) (v : Seen) → add_tag (tag_bits 7 key (bit_of b)) v ≡ add_tag (tag_bits 5 key (bit_of b)) v) → ⊥
unfolding valid
bool_as_uint h = let e : ◌≡◌ {A = ℕ} 7 5 = ap (λ c. item 3 (held_after c).values) (h (107 ∷ []) true begun) in omega arith

-- a bool inverted
pub bool_inverted : ((key : List ℕ) (b : Bool) (v : Seen) → add_tag (tag_bits 7 key (bit_of b)) v ≡ add_tag (tag_bits 7 key (cond b 0 1)) v) → ⊥
unfolding valid
bool_inverted h = let e : ◌≡◌ {A = ℕ} 1 0 = ap (λ c. item 4 (held_after c).values) (h (107 ∷ []) true begun) in omega arith

-- ---- value_of, bits_of, bit_of
-- the two halves exchanged
pub halves_turned : ((kind bits : ℕ) → value_of kind bits ≡ record { kind = kind; low = bits / 4294967296; high = bits % 4294967296 }) → ⊥
halves_turned h = let e : ◌≡◌ {A = ℕ} 5 0 = ap (λ (v : Value). v.low) (h 5 5) in omega arith

-- no number is below zero
pub sign_lost : ((x : ℤ) → bits_of x ≡ nat_abs x) → ⊥
sign_lost h = let e : ◌≡◌ {A = ℕ} 18446744073709551615 1 = h (negsuc 0) in omega arith

-- 32 bits of a number below zero
pub bits_of_32 : ((n : ℕ) → bits_of (negsuc n) ≡ 4294967295) → ⊥
bits_of_32 h = let e : ◌≡◌ {A = ℕ} 18446744073709551615 4294967295 = h 0 in omega arith

-- true is 2
pub true_is_two : ((b : Bool) → bit_of b ≡ cond b 2 0) → ⊥
true_is_two h = let e : ◌≡◌ {A = ℕ} 1 2 = h true in omega arith
