-- What each step of a call keeps: a layer that breaks no rule of STATE, its room apart, has parts as long as its figures say (`Sound`), and opening, marking, a tag and
-- closing give one again, whatever the room. Where the room is kept too (`Fine`), so is the whole of STATE.
use Prim.Native.Nat.{ℕ, ◌+◌, ◌*◌, ◌/◌, ◌%◌, ◌≤◌}
use mathlib.Core.Path.{◌≡◌, refl, sym, ap, ◌∙◌}
use mathlib.Core.Bool.{Bool, true, false}
use mathlib.Core.List.{List, [], ◌∷◌, ◌++◌, append_assoc}
use native.Mathlib.Omega.{arith}
use lib.ListN.{length, take, drop, get_or, set, length-append, length-set, take-append-drop}
use lib.Seq.{length-take-le, take_at, drop_at, take-append-le, drop-append-le, take-set-le, drop-set-add, get_or-drop, take-take, take-add, drop-drop}
use lib.Dec.{leb, eqb}
use borrow.Author.Tests.{le-leb, leb-true}
use Rattle.promise.specs.Laid.{lay}
use Rattle.promise.proofs.Laying.{length_lay}
use Rattle.refusal.specs.declared.Refusal.{Refusal}
use Rattle.refusal.specs.declared.Refusal.TheVariants.{Turn}
use Rattle.std.specs.Prelude.{Option, Some, None}
use Rattle.table.specs.declared.Value.{Value}
use Rattle.table.specs.Keys.{keys_in}
use Rattle.table.specs.Values.{values_in}
use Rattle.table.proofs.Growing.{keys_more, values_more}
use Rattle.records.specs.Records.{head_ok, follow, one_record}
use Rattle.records.proofs.Growing.{whole as whole-record, one_whole, last_six, follow_one, one_new, one_tagged, one_marked}
use Rattle.layer.specs.declared.Figures.{Figures}
use Rattle.layer.specs.Held.{Memory, Seen, Change, refuses, holds, check, when_open, fits, next}
use Rattle.layer.specs.State.{valid, records_ok}
use Rattle.layer.specs.Calls.{is_shut, more_words, with_used, with_features, record_with, Tag, is_value, index_of, more_of, put_of, key_words, value_words, grown_by, held_with, tag_put_by}
use Rattle.layer.proofs.Fitting.{Within, within, fits_yes}
use Rattle.layer.proofs.Standing.{parts, whole, OpenParts, open_parts}
use Rattle.layer.proofs.Entries.{length_put, twice, thrice}

-- the parts are as long as the figures say
pub record Lengths (v : Seen) : Type 0 where
  pub keys : length v.held.keys ≡ v.layer.used.keys * 2
  pub values : length v.held.values ≡ v.layer.used.values * 3
  pub texts : length v.held.texts ≡ v.layer.used.texts
  pub features : length v.held.features ≡ v.layer.used.features

pub record Fine (v : Seen) : Type 0 where
  pub stands : valid v ≡ true
  pub lengths : Lengths v

pub record Sound (v : Seen) : Type 0 where
  pub name : leb v.layer.name v.layer.used.texts ≡ true
  pub keys : keys_in v.layer.used.texts v.held.keys ≡ true
  pub values : values_in v.layer.used.texts v.held.values ≡ true
  pub records : records_ok v.layer.feature v.layer.used v.held.features ≡ true
  pub lengths : Lengths v

pub sound : (v : Seen) → valid v ≡ true → Lengths v → Sound v
sound v e L = let P = parts v e in record { name = P.name; keys = P.keys; values = P.values; records = P.records; lengths = L }

pub fine : (v : Seen) → Sound v → fits v.layer.used v.room ≡ true → Fine v
fine v S h = record { stands = whole v (record { room = h; name = S.name; keys = S.keys; values = S.values; records = S.records }); lengths = S.lengths }

-- of a change: nothing, where it refuses
abbrev pub All : (Seen → Type 0) → Change → Seen → Type 0
All P (refuses r) v = Unit {0}
All P (holds t h) v = P (next (holds t h) v)

-- a change by its checks
pub by_test : (P : Change → Type 0) (b : Bool) (r : Refusal) (c : Change) → (b ≡ false → P (refuses r)) → (b ≡ true → P c) → P (check b r c)
by_test P true r c n y = y refl
by_test P false r c n y = n refl

pub by_check : (P : Change → Type 0) (b : Bool) (r : Refusal) (c : Change) → P (refuses r) → (b ≡ true → P c) → P (check b r c)
by_check P b r c n y = by_test P b r c (λ e. n) y

pub by_open : (P : Change → Type 0) (f : Option Figures) (go : Figures → Change) → P (refuses Turn) → ((o : Figures) → f ≡ Some o → P (go o)) → P (when_open f go)
by_open P None go f g = f
by_open P (Some o) go f g = g o refl

pub is_shut_lem : (f : Option Figures) → is_shut f ≡ true → f ≡ None
is_shut_lem None e = refl
is_shut_lem (Some o) e = absurd (let z : ◌≡◌ {A = ℕ} 0 1 = cc in omega arith)

-- ---- runs laid into a list, before and behind a place
pub take_lay_before : (n i : ℕ) (run l : List ℕ) → n ≤ i → i + length run ≤ length l → take n (lay i run l) ≡ take n l
take_lay_before n i run l h k =
    let e : length (take i l) ≡ i = length-take-le i l (omega arith) in
    rw append_assoc (take-append-le n (take i l) (run ++ drop (i + length run) l) (omega arith) ∙ take-take n i l h)

drop_take : (n i : ℕ) (l : List ℕ) → n ≤ length l → drop n (take (n + i) l) ≡ take i (drop n l)
drop_take n i l h = ap (drop n) (take-add n i l) ∙ drop_at (take n l) (take i (drop n l)) n (length-take-le n l h)

pub drop_lay_add : (n i : ℕ) (run l : List ℕ) → n + i + length run ≤ length l → drop n (lay (n + i) run l) ≡ lay i run (drop n l)
drop_lay_add n i run l h =
    let e : length (take (n + i) l) ≡ n + i = length-take-le (n + i) l (omega arith) in
    let a : drop n (take (n + i) l ++ run ++ drop (n + i + length run) l) ≡ drop n (take (n + i) l ++ run) ++ drop (n + i + length run) l =
    drop-append-le n (take (n + i) l ++ run) (drop (n + i + length run) l) (omega (arith, length-append (take (n + i) l) run)) in
    let b : drop n (take (n + i) l ++ run) ≡ drop n (take (n + i) l) ++ run = drop-append-le n (take (n + i) l) run (omega arith) in
    let m : n + (i + length run) ≡ n + i + length run = omega arith in
    let c : drop (i + length run) (drop n l) ≡ drop (n + i + length run) l = drop-drop (i + length run) n l ∙ ap (λ (k : ℕ). drop k l) m in
    a ∙ rw (b, drop_take n i l (omega arith), c)

-- ---- new entries
new_key : (f : Option ℕ) (start : ℕ) (key : List ℕ) (more : ℕ) → keys_in (start + more_of f (length key) + more) (put_of f (key_words start key)) ≡ true
new_key (Some j) start key more = refl
new_key None start key more = rw (le-leb (start + length key) (start + length key + more) (omega arith))

value_of : (start : ℕ) (v : Value) (text : List ℕ) (t : Bool) → eqb v.kind 1 ≡ t → is_value v ≡ true → values_in (start + length text) (value_words start v text) ≡ true
value_of start v text true q g = rw (q, le-leb (start + length text) (start + length text) (omega arith))
value_of start v text false q g = rw q (cc (rw q at g))

new_value : (f : Option ℕ) (start : ℕ) (v : Value) (text : List ℕ) → is_value v ≡ true → values_in (start + more_of f (length text)) (put_of f (value_words start v text)) ≡ true
new_value (Some j) start v text g = refl
new_value None start v text g = value_of start v text (eqb v.kind 1) refl g

-- ---- opening
module _ (kind mark id : ℕ) (words : List ℕ) (v : Seen) (S : Sound v) (k : head_ok kind mark ≡ true) (f : v.layer.feature ≡ None) where
  abbrev opened_seen : Seen
  opened_seen = next (holds (with_used v.layer (more_words v.layer.used (6 + length words)) (Some v.layer.used)) (with_features v.held (v.held.features ++ record_with kind mark id words))) v

  opened_records : records_ok (Some v.layer.used) (more_words v.layer.used (6 + length words)) (v.held.features ++ record_with kind mark id words) ≡ true
  opened_records =
      let n = v.layer.used.features in
      let ws = v.held.features in
      let new = record_with kind mark id words in
      let p : follow ws ≡ true = rw f at S.records in
      let a = fits_yes v.layer.used (more_words v.layer.used (6 + length words)) (record { keys = omega arith; values = omega arith; texts = omega arith; features = omega arith }) in
      let b : take n (ws ++ new) ≡ ws = take_at ws new n S.lengths.features in
      let d : drop n (ws ++ new) ≡ new = drop_at ws new n S.lengths.features in
      let o : one_record (ws ++ new) n ≡ true =
      one_whole (ws ++ new) n (omega (arith, length-append ws new, S.lengths.features)) ∙ ap whole-record d ∙ one_new kind mark (id % 4294967296) (id / 4294967296) words k in
      rw (a, b, p, o)

  pub opened_sound : Sound opened_seen
  opened_sound =
      record {
        name = S.name;
        keys = S.keys;
        values = S.values;
        records = opened_records;
        lengths = record {
          keys = S.lengths.keys;
          values = S.lengths.values;
          texts = S.lengths.texts;
          features = omega (arith, length-append v.held.features (record_with kind mark id words), S.lengths.features);
        };
      }

-- ---- with a feature open
module _ (v : Seen) (S : Sound v) (o : Figures) (f : v.layer.feature ≡ Some o) where
  open_of : OpenParts o v.layer.used v.held.features
  open_of = open_parts v.layer.feature o v.layer.used v.held.features f S.records

  pub opening_in : Within o v.layer.used
  opening_in = within o v.layer.used open_of.room

  pub at_in : o.features ≤ length v.held.features
  at_in = omega (arith, opening_in.features, S.lengths.features)

  last_whole : whole-record (drop o.features v.held.features) ≡ true
  last_whole = sym (one_whole v.held.features o.features at_in) ∙ open_of.last

  pub six_in : o.features + 6 + get_or v.held.features (o.features + 4) 0 ≤ v.layer.used.features
  six_in = omega (arith, last_six v.held.features o.features at_in open_of.last, S.lengths.features)

  pub closed_sound : Sound (next (holds (with_used v.layer v.layer.used None) v.held) v)
  closed_sound =
      let g : follow v.held.features ≡ true = rw take-append-drop at (follow_one (take o.features v.held.features) (drop o.features v.held.features) open_of.before last_whole) in
      record {
        name = S.name;
        keys = S.keys;
        values = S.values;
        records = g;
        lengths = record { keys = S.lengths.keys; values = S.lengths.values; texts = S.lengths.texts; features = S.lengths.features };
      }

  -- a run laid within the open record
  module _ (low high : ℕ) where
    abbrev marked : List ℕ
    marked = lay (o.features + 1) (1 ∷ low ∷ high ∷ []) v.held.features

    pub marked_in : o.features + 1 + 3 ≤ length v.held.features
    marked_in = omega (arith, six_in, S.lengths.features)

    marked_records : records_ok v.layer.feature v.layer.used marked ≡ true
    marked_records =
        let n = o.features in
        let ws = v.held.features in
        let a = take_lay_before n (o.features + 1) (1 ∷ low ∷ high ∷ []) ws (omega arith) marked_in in
        let d = drop_lay_add n 1 (1 ∷ low ∷ high ∷ []) ws marked_in in
        let l = length_lay (o.features + 1) (1 ∷ low ∷ high ∷ []) ws marked_in in
        let w : one_record marked n ≡ true = one_whole marked n (omega (arith, at_in, l)) ∙ ap whole-record d ∙ one_marked (drop n ws) low high last_whole in
        rw (f, open_of.room, a, open_of.before, w)

    pub marked_sound : Sound (next (holds v.layer (with_features v.held marked)) v)
    marked_sound =
        record {
          name = S.name;
          keys = S.keys;
          values = S.values;
          records = marked_records;
          lengths = record {
            keys = S.lengths.keys;
            values = S.lengths.values;
            texts = S.lengths.texts;
            features = length_lay (o.features + 1) (1 ∷ low ∷ high ∷ []) v.held.features marked_in ∙ S.lengths.features;
          };
        }

  -- a tag
  module _ (t : Tag) (g : is_value t.value ≡ true) (kf vf : Option ℕ) where
    abbrev grown : Figures
    grown = grown_by v.layer.used kf vf (length t.key) (length t.text)

    abbrev after_tag : Memory
    after_tag = held_with v.layer.used o v.held t kf vf

    pub tag_take : take o.features after_tag.features ≡ take o.features v.held.features
    tag_take =
        let ws = v.held.features in
        let pair = index_of kf v.layer.used.keys ∷ index_of vf v.layer.used.values ∷ [] in
        take-set-le o.features (ws ++ pair) (o.features + 4) (get_or ws (o.features + 4) 0 + 2) (omega arith)
        ∙ take-append-le o.features ws pair at_in

    tag_drop : drop o.features after_tag.features ≡ set (drop o.features v.held.features ++ (index_of kf v.layer.used.keys ∷ index_of vf v.layer.used.values ∷ [])) 4 (get_or (drop o.features v.held.features) 4 0 + 2)
    tag_drop =
        let ws = v.held.features in
        let pair = index_of kf v.layer.used.keys ∷ index_of vf v.layer.used.values ∷ [] in
        drop-set-add o.features (ws ++ pair) 4 (get_or ws (o.features + 4) 0 + 2)
        ∙ rw (drop-append-le o.features ws pair at_in, get_or-drop o.features ws 4 0)

    tag_length : length after_tag.features ≡ v.layer.used.features + 2
    tag_length =
        let ws = v.held.features in
        let pair = index_of kf v.layer.used.keys ∷ index_of vf v.layer.used.values ∷ [] in
        length-set (ws ++ pair) (o.features + 4) (get_or ws (o.features + 4) 0 + 2) ∙ omega (arith, length-append ws pair, S.lengths.features)

    tag_records : records_ok v.layer.feature grown after_tag.features ≡ true
    tag_records =
        let W = opening_in in
        let a = fits_yes o grown (record { keys = omega (arith, W.keys); values = omega (arith, W.values); texts = omega (arith, W.texts); features = omega (arith, W.features) }) in
        let w : one_record after_tag.features o.features ≡ true =
        one_whole after_tag.features o.features (omega (arith, tag_length, opening_in.features))
        ∙ ap whole-record tag_drop
        ∙ one_tagged (drop o.features v.held.features) (index_of kf v.layer.used.keys) (index_of vf v.layer.used.values) last_whole in
        rw (f, a, tag_take, open_of.before, w)

    pub tag_sound : Sound (tag_put_by o t v kf vf)
    tag_sound =
        let u = v.layer.used in
        let n : leb v.layer.name grown.texts ≡ true = le-leb v.layer.name grown.texts (omega (arith, leb-true v.layer.name u.texts S.name)) in
        let k = keys_more u.texts grown.texts (omega arith) v.held.keys (put_of kf (key_words u.texts t.key)) S.keys (new_key kf u.texts t.key (more_of vf (length t.text))) in
        let w = values_more u.texts grown.texts (omega arith) v.held.values (put_of vf (value_words (u.texts + more_of kf (length t.key)) t.value t.text)) S.values (new_value vf (u.texts + more_of kf (length t.key)) t.value t.text g) in
        record {
          name = n;
          keys = k;
          values = w;
          records = tag_records;
          lengths = record {
            keys = omega (arith, length-append v.held.keys (put_of kf (key_words u.texts t.key)), S.lengths.keys, length_put kf (key_words u.texts t.key), twice kf);
            values = omega (arith, length-append v.held.values (put_of vf (value_words (u.texts + more_of kf (length t.key)) t.value t.text)), S.lengths.values, length_put vf (value_words (u.texts + more_of kf (length t.key)) t.value t.text), thrice vf);
            texts = omega (arith, length-append v.held.texts (put_of kf t.key ++ put_of vf t.text), length-append (put_of kf t.key) (put_of vf t.text), S.lengths.texts, length_put kf t.key, length_put vf t.text);
            features = tag_length;
          };
        }
