-- Crates `runs`, `table`, `records`, `index`, and the look-ups of `layer`: wrong runs, look-ups, entries, records and indexes.
use Rattle.std.specs.Prelude.{ℕ, suc, ◌+◌, ◌*◌, ◌/◌, ◌%◌, ◌≡◌, Bool, true, false, cond, ◌&&◌, List, [], ◌∷◌, ◌++◌, leb, ltb, eqb, length, drop, get_or, set, replicate, Option, Some, None}
use Rattle.std.proofs.Common.{ap, arith}
use Rattle.promise.specs.Laid.{lay}
use Rattle.words.specs.Geometries.{is_kind}
use Rattle.runs.specs.Fitting.{laid_in}
use Rattle.table.specs.declared.Value.{Value}
use Rattle.table.specs.Texts.{max_bytes, short_text, inside, begins, same_text}
use Rattle.table.specs.Keys.{find_key, keys_in}
use Rattle.table.specs.Values.{is_zero, same_content, same_value, find_value, value_ok}
use Rattle.records.specs.Records.{head_ok, records_in, record_length, ends_at}
use Rattle.index.specs.Hashes.{hash_from, mixed}
use Rattle.number.specs.Least.{smaller}
use Rattle.index.specs.Chains.{slots_in, slots, serves, cleared, max_entry, pushed, built, walk}
use Rattle.index.specs.Entries.{walked_key}
use Rattle.layer.specs.declared.Figures.{Figures}
use Rattle.layer.specs.Held.{Memory, mem}
use Rattle.layer.specs.Calls.{Tag, put_of, tag_string}
use Rattle.layer.specs.Steps.{laid_tag}
use Rattle.layer.specs.Lookup.{key_by, pushed_new}
use Rattle.ruled_out.specs.Inputs.{bit, item, found_index, figures, before}

-- ---- runs: lay
-- a run goes to the front
pub laid_in_front : ((at : ℕ) (run l : List ℕ) → laid_in at run l ≡ cond (leb (at + length run) (length l)) (lay 0 run l) l) → ⊥
laid_in_front h = let e : ◌≡◌ {A = ℕ} 0 7 = ap (item 0) (h 1 (7 ∷ []) (0 ∷ 0 ∷ [])) in omega arith

-- a run that does not fit goes on behind the list
pub laid_beyond : ((at : ℕ) (run l : List ℕ) → laid_in at run l ≡ lay at run l) → ⊥
laid_beyond h = let e : ◌≡◌ {A = ℕ} 0 1 = ap length (h 0 (7 ∷ []) []) in omega arith

-- ---- table: texts
-- a text of 1,025 bytes is taken
pub long_text : ((len : ℕ) → short_text len ≡ leb len 1025) → ⊥
long_text h = let e : ◌≡◌ {A = ℕ} 0 1 = ap bit (h 1025) in omega arith

-- a text of 1,024 bytes is refused
pub text_at_limit_refused : ((len : ℕ) → short_text len ≡ ltb len max_bytes) → ⊥
text_at_limit_refused h = let e : ◌≡◌ {A = ℕ} 1 0 = ap bit (h 1024) in omega arith

-- texts of one length are the same
pub same_length : ((texts : List ℕ) (start len : ℕ) (key : List ℕ) → same_text texts start len key ≡ eqb len (length key)) → ⊥
same_length h = let e : ◌≡◌ {A = ℕ} 0 1 = ap bit (h (97 ∷ []) 0 1 (98 ∷ [])) in omega arith

-- a text that begins as the key does is the same
pub same_beginning : ((texts : List ℕ) (start len : ℕ) (key : List ℕ)
    → same_text texts start len key ≡ cond (inside (length texts) start len) (begins (drop start texts) key) false) → ⊥
same_beginning h = let e : ◌≡◌ {A = ℕ} 0 1 = ap bit (h (97 ∷ 98 ∷ []) 0 2 (97 ∷ [])) in omega arith

-- a text may run past the used text
pub text_past : ((bytes start len : ℕ) → inside bytes start len ≡ leb start bytes) → ⊥
text_past h = let e : ◌≡◌ {A = ℕ} 0 1 = ap bit (h 3 3 1) in omega arith

-- ---- table: key_pos
-- a key's index is one more
pub key_off : ((j start len : ℕ) (keys texts key : List ℕ)
    → find_key j (start ∷ len ∷ keys) texts key ≡ cond (same_text texts start len key) (Some (suc j)) (find_key (suc j) keys texts key)) → ⊥
key_off h = let e : ◌≡◌ {A = ℕ} 1 2 = ap found_index (h 0 0 1 [] (97 ∷ []) (97 ∷ [])) in omega arith

-- the first of two that is there
abbrev or_else : Option ℕ → Option ℕ → Option ℕ
or_else (Some j) f = Some j
or_else None f = f

-- of equal keys the last is found
pub last_key_found : ((j start len : ℕ) (keys texts key : List ℕ) → find_key j (start ∷ len ∷ keys) texts key
    ≡ or_else (find_key (suc j) keys texts key) (cond (same_text texts start len key) (Some j) None)) → ⊥
last_key_found h = let e : ◌≡◌ {A = ℕ} 1 2 = ap found_index (h 0 0 1 (0 ∷ 1 ∷ []) (97 ∷ []) (97 ∷ [])) in omega arith

-- ---- table: val_pos
-- a value's index is one more
pub value_off : ((j kind low high : ℕ) (values texts : List ℕ) (v : Value) (text : List ℕ) → find_value j (kind ∷ low ∷ high ∷ values) texts v text
    ≡ cond (same_value texts kind low high v text) (Some (suc j)) (find_value (suc j) values texts v text)) → ⊥
value_off h = let e : ◌≡◌ {A = ℕ} 1 2 = ap found_index (h 0 5 1 0 [] [] (record { kind = 5; low = 1; high = 0 }) []) in omega arith

-- of equal values the last is found
pub last_value_found : ((j kind low high : ℕ) (values texts : List ℕ) (v : Value) (text : List ℕ) → find_value j (kind ∷ low ∷ high ∷ values) texts v text
    ≡ or_else (find_value (suc j) values texts v text) (cond (same_value texts kind low high v text) (Some j) None)) → ⊥
last_value_found h = let e : ◌≡◌ {A = ℕ} 1 2 = ap found_index (h 0 5 1 0 (5 ∷ 1 ∷ 0 ∷ []) [] (record { kind = 5; low = 1; high = 0 }) []) in omega arith

-- 0.0 and -0.0 are kept apart
pub zero_apart : ((kind low high low₂ high₂ : ℕ) → same_content kind low high low₂ high₂ ≡ (eqb low low₂ && eqb high high₂)) → ⊥
zero_apart h = let e : ◌≡◌ {A = ℕ} 1 0 = ap bit (h 2 2147483648 0 0 0) in omega arith

-- a float is zero where all its bits are 0
pub zero_of_all_bits : ((low high : ℕ) → is_zero 2 low high ≡ (eqb low 0 && eqb high 0)) → ⊥
zero_of_all_bits h = let e : ◌≡◌ {A = ℕ} 1 0 = ap bit (h 2147483648 0) in omega arith

-- a NaN never equals itself
pub nan_unequal : ((kind low high low₂ high₂ : ℕ) → same_content kind low high low₂ high₂
    ≡ cond (eqb low low₂ && eqb high high₂) (leb low 2139095040) (is_zero kind low high && is_zero kind low₂ high₂)) → ⊥
nan_unequal h = let e : ◌≡◌ {A = ℕ} 1 0 = ap bit (h 2 2143289344 0 2143289344 0) in omega arith

-- an int is a uint of its content
pub int_is_uint : ((texts : List ℕ) (kind low high : ℕ) (v : Value) (text : List ℕ)
    → same_value texts kind low high v text ≡ cond (eqb kind 1) (same_text texts low high text) (same_content kind low high v.low v.high)) → ⊥
int_is_uint h = let e : ◌≡◌ {A = ℕ} 0 1 = ap bit (h [] 4 1 0 (record { kind = 5; low = 1; high = 0 }) []) in omega arith

-- ---- table: keys_in, values_in
-- of the keys only the first is asked
pub first_key_asked : ((bytes start len : ℕ) (keys : List ℕ) → keys_in bytes (start ∷ len ∷ keys) ≡ inside bytes start len) → ⊥
first_key_asked h = let e : ◌≡◌ {A = ℕ} 0 1 = ap bit (h 1 0 1 (9 ∷ 9 ∷ [])) in omega arith

-- a value kind of 8 is taken
pub kind_eight : ((bytes kind low high : ℕ) → value_ok bytes kind low high ≡ cond (eqb kind 8) true (value_ok bytes kind low high)) → ⊥
kind_eight h = let e : ◌≡◌ {A = ℕ} 0 1 = ap bit (h 0 8 0 0) in omega arith

-- a bool of 2 is taken
pub bool_two : ((bytes low high : ℕ) → value_ok bytes 7 low high ≡ (leb low 2 && eqb high 0)) → ⊥
bool_two h = let e : ◌≡◌ {A = ℕ} 0 1 = ap bit (h 0 2 0) in omega arith

-- a float's high half is not asked
pub float_high : ((bytes low high : ℕ) → value_ok bytes 2 low high ≡ true) → ⊥
float_high h = let e : ◌≡◌ {A = ℕ} 0 1 = ap bit (h 0 0 1) in omega arith

-- ---- records
-- kinds 0 to 2
pub kind_shifted : ((kind mark : ℕ) → head_ok kind mark ≡ (is_kind (kind + 1) && leb mark 1)) → ⊥
kind_shifted h = let e : ◌≡◌ {A = ℕ} 0 1 = ap bit (h 0 0) in omega arith

-- an id mark of 2 is taken
pub mark_two : ((kind mark : ℕ) → head_ok kind mark ≡ (is_kind kind && leb mark 2)) → ⊥
mark_two h = let e : ◌≡◌ {A = ℕ} 0 1 = ap bit (h 1 2) in omega arith

-- a record of seven words before its geometry
pub seven_words : ((kind mark low high tags geometry : ℕ) (ws : List ℕ) → record_length (kind ∷ mark ∷ low ∷ high ∷ tags ∷ geometry ∷ ws)
    ≡ cond (head_ok kind mark) (cond (leb (tags + geometry) (length ws)) (Some (7 + tags + geometry)) None) None) → ⊥
seven_words h = let e : ◌≡◌ {A = ℕ} 7 8 = ap found_index (h 1 0 0 0 0 0 []) in omega arith

-- the records need not follow each other to the end
pub not_to_the_end : ((n left : ℕ) → records_in n (suc left) [] ≡ Some n) → ⊥
not_to_the_end h = let e : ◌≡◌ {A = ℕ} 0 1 = ap found_index (h 0 0) in omega arith

-- any record is the last
pub any_record_last : ((end e : ℕ) → ends_at end (Some e) ≡ true) → ⊥
any_record_last h = let e : ◌≡◌ {A = ℕ} 0 1 = ap bit (h 1 0) in omega arith

-- ---- index
-- an index without slots serves
pub no_slots_serve : ((words room : ℕ) → serves words room ≡ leb room (slots_in words)) → ⊥
no_slots_serve h = let e : ◌≡◌ {A = ℕ} 0 1 = ap bit (h 0 0) in omega arith

-- an index of fewer slots than the table has room serves
pub few_slots_serve : ((words room : ℕ) → serves words room ≡ ltb 0 (slots_in words)) → ⊥
few_slots_serve h = let e : ◌≡◌ {A = ℕ} 0 1 = ap bit (h 2 2) in omega arith

-- only the heads are cleared
pub cleared_half : ((l : List ℕ) → cleared l ≡ replicate (slots l) 0) → ⊥
cleared_half h = let e : ◌≡◌ {A = ℕ} 2 1 = ap length (h (9 ∷ 9 ∷ [])) in omega arith

-- the words are cleared to 1
pub cleared_to_one : ((l : List ℕ) → cleared l ≡ replicate (length l) 1) → ⊥
cleared_to_one h = let e : ◌≡◌ {A = ℕ} 0 1 = ap (item 0) (h (9 ∷ 9 ∷ [])) in omega arith

-- an entry is left out
pub entry_left_out : ((l : List ℕ) (n k : ℕ) → pushed l n k ≡ l) → ⊥
entry_left_out h = let e : ◌≡◌ {A = ℕ} 1 0 = ap (item 0) (h (0 ∷ 0 ∷ []) 0 0) in omega arith

-- an entry is not linked to those before it in its bucket
pub head_unlinked : ((l : List ℕ) (n k : ℕ) → pushed l n k
    ≡ cond (ltb n (slots l)) (cond (ltb n max_entry) (set (set l (slots l + n) 0) (k % slots l) (suc n)) l) l) → ⊥
head_unlinked h = let e : ◌≡◌ {A = ℕ} 1 0 = ap (item 3) (h (1 ∷ 0 ∷ 0 ∷ 0 ∷ []) 1 0) in omega arith

-- the first entry is not pushed
pub first_unpushed : ((l : List ℕ) (hs : ℕ → ℕ) (n : ℕ) → built l hs (suc n) ≡ cond (eqb n 0) (built l hs n) (pushed (built l hs n) n (hs n))) → ⊥
first_unpushed h = let e : ◌≡◌ {A = ℕ} 1 0 = ap (item 0) (h (0 ∷ 0 ∷ []) (λ j. 0) 0) in omega arith

-- of two entries that are the same the newest is found
pub newest_found : ((l : List ℕ) (same : ℕ → Bool) (j cur best : ℕ) → walk l same (suc j) cur best
    ≡ cond (eqb cur (suc j)) (walk l same j (get_or l (slots l + j) 0) (cond (eqb best 0) (cond (same j) (suc j) best) best)) (walk l same j cur best)) → ⊥
newest_found h = let e : ◌≡◌ {A = ℕ} 1 2 = h (1 ∷ 0 ∷ []) (λ j. true) 0 1 2 in omega arith

-- an index with a slot for each entry and no more finds nothing
pub full_index_empty : ((n s : ℕ) → smaller n s ≡ cond (ltb n s) n 0) → ⊥
full_index_empty h = let e : ◌≡◌ {A = ℕ} 1 0 = h 1 1 in omega arith

-- a text's bytes are passed over
pub bytes_passed_over : ((acc b : ℕ) (bs : List ℕ) → hash_from acc (b ∷ bs) ≡ hash_from acc bs) → ⊥
bytes_passed_over h = let e : ◌≡◌ {A = ℕ} 1 0 = h 0 1 [] in omega arith

-- the number of a text is that of its bytes from the last on
pub text_backwards : ((acc b : ℕ) (bs : List ℕ) → hash_from acc (b ∷ bs) ≡ (hash_from acc bs * 16777619 + b) % 4294967296) → ⊥
text_backwards h = let e : ◌≡◌ {A = ℕ} 16777621 33555239 = h 0 1 (2 ∷ []) in omega arith

-- 0.0 and -0.0 have two numbers
pub zeros_apart : ((kind low high : ℕ) → mixed kind low high ≡ (kind + low % 2147483648 + high % 4294967296 * 31) * 82952543 / 65536) → ⊥
unfolding mixed
zeros_apart h = let e : ◌≡◌ {A = ℕ} 3797 84263856803541 = h 3 0 2147483648 in omega arith

-- ---- layer: looking up, and what is laid
-- where no index serves a key is never found
pub scan_left_out : ((l : List ℕ) (room : ℕ) (ks ts key : List ℕ) (k : ℕ)
    → key_by l room ks ts key k ≡ cond (serves (length l) room) (walked_key l ks ts key k) None) → ⊥
scan_left_out h = let e : ◌≡◌ {A = ℕ} 1 0 = ap found_index (h [] 1 (0 ∷ 1 ∷ []) (97 ∷ []) (97 ∷ []) 0) in omega arith

-- a value that was found is pushed once more
pub found_noted : ((j n k : ℕ) (l : List ℕ) → pushed_new (Some j) l n k ≡ pushed l n k) → ⊥
found_noted h = let e : ◌≡◌ {A = ℕ} 0 1 = ap (item 0) (h 0 0 0 (0 ∷ 0 ∷ [])) in omega arith

-- a value's text goes before its key's
pub value_first : ((u o : Figures) (kf vf : Option ℕ) (t : Tag) (m : Memory)
    → (laid_tag u o kf vf t m).texts ≡ lay u.texts (put_of vf t.text ++ put_of kf t.key) m.texts) → ⊥
value_first h =
    let e : ◌≡◌ {A = ℕ} 98 99 = ap (item 0) (h (figures 0 0 0 0) before None None (tag_string (98 ∷ []) (99 ∷ [])) (mem [] [] (0 ∷ 0 ∷ []) []))
    in omega arith
