-- What a layer's lists hold of a drawing, and what each step makes of it, whatever the room: opening, an id, a tag, and cutting back.
use Prim.Native.Nat.{ℕ, ◌+◌, ◌*◌, ◌%◌, ◌/◌, ◌≤◌}
use mathlib.Core.Path.{◌≡◌, refl, sym, ap, ◌∙◌, subst}
use mathlib.Core.Bool.{Bool, true, false}
use mathlib.Core.List.{List, [], ◌∷◌, ◌++◌, append_assoc, append-nil}
use mathlib.Core.Option.{Option}
use native.Mathlib.Omega.{arith}
use lib.ListN.{length, get_or, length-append, length-take, length-set}
use lib.Seq.{take_all, take_at, take-append-le, take-set-le}
use Rattle.promise.specs.Laid.{lay}
use Rattle.std.specs.Prelude.{Option as OptionOf}
use Rattle.table.specs.declared.Value.{Value}
use Rattle.layer.specs.declared.Figures.{Figures}
use Rattle.layer.specs.Held.{Memory, held_by}
use Rattle.layer.specs.Calls.{Tag as Stored, more_words, with_features, record_with, index_of, more_of, put_of, key_words, value_words, stored_as, grown_by, held_with, with_tag}
use Rattle.layer.proofs.Entries.{length_put}
use Rattle.layer.proofs.Keeping.{take_lay_before}
use Rattle.tile.specs.Holding.{same_bytes}
use Rattle.given.specs.Given.{Content, text, float, double, int, uint, sint, bool, Tag, Feature, same, among, place_of, joined, all_tags, keys_of, values_of, identified, tagged}
use Rattle.given.specs.Messages.{each, tag_indices}
use Rattle.given.specs.Asked.{tag_of, Fine}
use Rattle.given.specs.Layout.{KeysStand, no_keys, one_key, ValuesStand, no_values, one_value, mark_of, number_of, record_from, record_of, Holds, HeldAs}
use Rattle.given.proofs.FirstUse.{new, place_new, joins, bytes_same, content_same, Met, indices_more, indices_append}
use Rattle.given.proofs.Entries.{text_more, text_new, keys_count, keys_more, keys_append, found_at}
use Rattle.given.proofs.Values.{value_new, values_count, values_more, values_append}
use Rattle.given.proofs.Records.{each_last, records_more, id_laid, tag_laid}

module _ (u : Figures) (n : ℕ) (h : Memory) (name : List ℕ) (keys : List (List ℕ)) (values : List Content) (fs : List Feature) (H : Holds u n h name keys values fs) where
  pub key_words_lem : length h.keys ≡ u.keys * 2
  key_words_lem = omega (arith, keys_count h.texts h.keys keys H.keys_stand, H.key_count)

  pub value_words_lem : length h.values ≡ u.values * 3
  value_words_lem = omega (arith, values_count h.texts h.values values H.values_stand, H.value_count)

  -- a record more, and what is held up to the figures before it
  module _ (kind : ℕ) (id : Option ℕ) (words : List ℕ) where
    abbrev pub bare : Feature
    bare = record { kind = kind; id = id; geometry = words; tags = [] }

    abbrev pub with_record : Memory
    with_record = with_features h (h.features ++ record_with kind (mark_of id) (number_of id) words)

    pub record_held : Holds (more_words u (6 + length words)) n with_record name keys values (fs ++ (bare ∷ []))
    record_held =
        record {
          key_count = H.key_count;
          value_count = H.value_count;
          text_count = H.text_count;
          word_count = omega (arith, length-append h.features (record_with kind (mark_of id) (number_of id) words), H.word_count);
          title = H.title;
          keys_stand = H.keys_stand;
          values_stand = H.values_stand;
          records_are = rw (H.records_are, each_last (record_of keys values) fs bare, append-nil words);
        }

    pub record_cut : held_by u with_record ≡ h
    record_cut =
        rw (
          take_all (u.keys * 2) h.keys (omega (arith, key_words_lem)),
          take_all (u.values * 3) h.values (omega (arith, value_words_lem)),
          take_all u.texts h.texts (omega (arith, H.text_count)),
          take_at h.features (record_with kind (mark_of id) (number_of id) words) u.features H.word_count,
        )

-- ---- what tests and lengths make of what was found
index_is : {A : Type 0} (alike : A → A → Bool) (x : A) (xs : List A) (n : ℕ) → n ≡ length xs → index_of (found_at 0 (among alike x xs) (place_of alike x xs)) n ≡ place_of alike x xs
index_is alike x xs n e = by (among alike x xs) refl
  where
    by : (b : Bool) → among alike x xs ≡ b → index_of (found_at 0 b (place_of alike x xs)) n ≡ place_of alike x xs
    by true h = omega arith
    by false h = e ∙ sym (place_new alike x xs h)

count_is : {A : Type 0} (b : Bool) (place : ℕ) (x : A) (xs : List A) (n : ℕ) → n ≡ length xs → n + more_of (found_at 0 b place) 1 ≡ length (xs ++ new b x)
count_is true place x xs n e = omega (arith, length-append xs [])
count_is false place x xs n e = omega (arith, length-append xs (x ∷ []))

pub tag_parts : (key : List ℕ) (c : Content) → tag_of key c ≡ record { key = key; value = (tag_of key c).value; text = (tag_of key c).text }
tag_parts key (text t) = refl
tag_parts key (float n) = refl
tag_parts key (double n) = refl
tag_parts key (int n) = refl
tag_parts key (uint n) = refl
tag_parts key (sint n) = refl
tag_parts key (bool b) = refl

new_key : (texts key behind : List ℕ) (start : ℕ) (b : Bool) (place : ℕ) → length texts ≡ start → KeysStand (texts ++ (put_of (found_at 0 b place) key ++ behind)) (put_of (found_at 0 b place) (key_words start key)) (new b key)
new_key texts key behind start true place e = no_keys
new_key texts key behind start false place e = rw (← e) (one_key (length texts) (length key) key [] [] (text_new texts key behind) no_keys)

new_value : (before key : List ℕ) (c : Content) (start : ℕ) (b : Bool) (place : ℕ) → length before ≡ start → Fine c → ValuesStand (before ++ put_of (found_at 0 b place) (tag_of key c).text) (put_of (found_at 0 b place) (value_words start (tag_of key c).value (tag_of key c).text)) (new b c)
new_value before key c start true place e g = no_values
new_value before key c start false place e g =
    let w : Value = stored_as (length before) (tag_of key c).value (length (tag_of key c).text) in
    rw (← e) (one_value w.kind w.low w.high c [] [] (value_new before key c w refl) g no_values)

-- ---- the open feature, f, behind those completed
module _ (u : Figures) (n : ℕ) (h : Memory) (name : List ℕ) (keys : List (List ℕ)) (values : List Content) (fs : List Feature) (f : Feature) (H : Holds u n h name keys values (fs ++ (f ∷ []))) where
  parted : h.features ≡ each (record_of keys values) fs ++ record_of keys values f
  parted = H.records_are ∙ each_last (record_of keys values) fs f

  module _ (at : ℕ) (e : at ≡ length (each (record_of keys values) fs)) where
    pub id_held : (id : ℕ) → Holds u n (with_features h (lay (at + 1) (1 ∷ id % 4294967296 ∷ id / 4294967296 ∷ []) h.features)) name keys values (fs ++ (identified id f ∷ []))
    id_held id =
        let before = each (record_of keys values) fs in
        let indices = tag_indices keys values f.tags in
        let r : lay (at + 1) (1 ∷ id % 4294967296 ∷ id / 4294967296 ∷ []) h.features ≡ before ++ record_of keys values (identified id f) =
        rw (parted, e) (id_laid before f.kind f.id f.geometry indices id) in
        record {
          key_count = H.key_count;
          value_count = H.value_count;
          text_count = H.text_count;
          word_count = rw r (omega (arith, H.word_count, ap length parted, length-append before (record_of keys values f), length-append before (record_of keys values (identified id f)), length-append f.geometry indices));
          title = H.title;
          keys_stand = H.keys_stand;
          values_stand = H.values_stand;
          records_are = r ∙ sym (each_last (record_of keys values) fs (identified id f));
        }

    module _ (M : Met keys values (all_tags fs)) (N : Met keys values f.tags) (key : List ℕ) (c : Content) (g : Fine c) (o : Figures) (l : o.features ≡ at) where
      abbrev pub kf : OptionOf ℕ
      kf = found_at 0 (among same_bytes key keys) (place_of same_bytes key keys)

      abbrev pub vf : OptionOf ℕ
      vf = found_at 0 (among same c values) (place_of same c values)

      abbrev new_tag : Tag
      new_tag = record { key = key; value = c }

      abbrev stored : Stored
      stored = record { key = key; value = (tag_of key c).value; text = (tag_of key c).text }

      abbrev keys₂ : List (List ℕ)
      keys₂ = joined same_bytes keys key

      abbrev values₂ : List Content
      values₂ = joined same values c

      -- the tag's two indices are those of its key and its value, and no index before moves
      indices₂ : tag_indices keys₂ values₂ (f.tags ++ (new_tag ∷ [])) ≡ tag_indices keys values f.tags ++ (place_of same_bytes key keys ∷ place_of same c values ∷ [])
      indices₂ =
          indices_append keys₂ values₂ f.tags (new_tag ∷ [])
          ∙ rw (
            indices_more keys (new (among same_bytes key keys) key) values (new (among same c values) c) f.tags N,
            (joins same_bytes key (bytes_same key) keys).1,
            (joins same c (content_same c) values).1,
          )

      records₂ : with_tag o.features (index_of kf u.keys) (index_of vf u.values) h.features ≡ each (record_of keys₂ values₂) (fs ++ (tagged new_tag f ∷ []))
      records₂ =
          let before = each (record_of keys values) fs in
          let a = tag_laid before f.kind f.id f.geometry (tag_indices keys values f.tags) (place_of same_bytes key keys) (place_of same c values) in
          let b : each (record_of keys₂ values₂) (fs ++ (tagged new_tag f ∷ [])) ≡ before ++ record_from f.kind f.id f.geometry (tag_indices keys values f.tags ++ (place_of same_bytes key keys ∷ place_of same c values ∷ [])) =
          each_last (record_of keys₂ values₂) fs (tagged new_tag f)
          ∙ rw (records_more keys (new (among same_bytes key keys) key) values (new (among same c values) c) fs M, indices₂) in
          rw (l, e, parted, index_is same_bytes key keys u.keys H.key_count, index_is same c values u.values H.value_count) (a ∙ sym b)

      tag_stored : Holds (grown_by u kf vf (length key) (length (tag_of key c).text)) n (held_with u o h stored kf vf) name keys₂ values₂ (fs ++ (tagged new_tag f ∷ []))
      tag_stored =
          let put = put_of kf key in
          let behind = put_of vf (tag_of key c).text in
          let texts = h.texts in
          let start = u.texts + more_of kf (length key) in
          let w = new_value (texts ++ put) key c start (among same c values) (place_of same c values) (omega (arith, length-append texts put, length_put kf key, H.text_count)) g in
          record {
            key_count = count_is (among same_bytes key keys) (place_of same_bytes key keys) key keys u.keys H.key_count;
            value_count = count_is (among same c values) (place_of same c values) c values u.values H.value_count;
            text_count = omega (arith, length-append texts (put ++ behind), length-append put behind, length_put kf key, length_put vf (tag_of key c).text, H.text_count);
            word_count =
                length-set (h.features ++ (index_of kf u.keys ∷ index_of vf u.values ∷ [])) (o.features + 4) (get_or h.features (o.features + 4) 0 + 2)
                ∙ omega (arith, length-append h.features (index_of kf u.keys ∷ index_of vf u.values ∷ []), H.word_count);
            title = text_more texts (put ++ behind) 0 n name H.title;
            keys_stand = keys_append (texts ++ (put ++ behind)) h.keys (put_of kf (key_words u.texts key)) keys (new (among same_bytes key keys) key) (keys_more texts (put ++ behind) h.keys keys H.keys_stand) (new_key texts key behind u.texts (among same_bytes key keys) (place_of same_bytes key keys) H.text_count);
            values_stand = values_append (texts ++ (put ++ behind)) h.values (put_of vf (value_words start (tag_of key c).value (tag_of key c).text)) values (new (among same c values) c) (values_more texts (put ++ behind) h.values values H.values_stand) (rw (append_assoc texts put behind) at w);
            records_are = records₂;
          }

      pub tag_held : Holds (grown_by u kf vf (length (tag_of key c).key) (length (tag_of key c).text)) n (held_with u o h (tag_of key c) kf vf) name keys₂ values₂ (fs ++ (tagged new_tag f ∷ []))
      tag_held = subst (λ (x : Stored). Holds (grown_by u kf vf (length x.key) (length x.text)) n (held_with u o h x kf vf) name keys₂ values₂ (fs ++ (tagged new_tag f ∷ []))) (sym (tag_parts key c)) tag_stored

-- ---- what is held up to the figures o stays where words are put behind it
module _ (o : Figures) (n : ℕ) (h : Memory) (name : List ℕ) (fs : List Feature) (B : HeldAs o n (held_by o h) name fs) where
  pub in_keys : o.keys * 2 ≤ length h.keys
  in_keys = omega (arith, length-take (o.keys * 2) h.keys, key_words_lem o n (held_by o h) name (keys_of fs) (values_of fs) fs B)

  pub in_values : o.values * 3 ≤ length h.values
  in_values = omega (arith, length-take (o.values * 3) h.values, value_words_lem o n (held_by o h) name (keys_of fs) (values_of fs) fs B)

  pub in_texts : o.texts ≤ length h.texts
  in_texts = omega (arith, length-take o.texts h.texts, B.text_count)

  pub in_words : o.features ≤ length h.features
  in_words = omega (arith, length-take o.features h.features, B.word_count)

  pub cut_marked : (run : List ℕ) → o.features + 1 + length run ≤ length h.features → held_by o (with_features h (lay (o.features + 1) run h.features)) ≡ held_by o h
  cut_marked run k = rw (take_lay_before o.features (o.features + 1) run h.features (omega arith) k)

  pub cut_tagged : (u : Figures) (x : Stored) (kf vf : OptionOf ℕ) → held_by o (held_with u o h x kf vf) ≡ held_by o h
  cut_tagged u x kf vf =
      let pair = index_of kf u.keys ∷ index_of vf u.values ∷ [] in
      rw (
        take-append-le (o.keys * 2) h.keys (put_of kf (key_words u.texts x.key)) in_keys,
        take-append-le (o.values * 3) h.values (put_of vf (value_words (u.texts + more_of kf (length x.key)) x.value x.text)) in_values,
        take-append-le o.texts h.texts (put_of kf x.key ++ put_of vf x.text) in_texts,
        take-set-le o.features (h.features ++ pair) (o.features + 4) (get_or h.features (o.features + 4) 0 + 2) (omega arith),
        take-append-le o.features h.features pair in_words,
      )
