-- The keys of the open feature, tag by tag: which texts its tag words stand for (`Keyed`), what a tag adds to them (`tag_keyed`), and that AGAIN asks for them
-- (`has_is`).
use Prim.Native.Nat.{ℕ, suc, ◌+◌, ◌-◌, ◌*◌, ◌/◌, ◌≤◌, ◌<◌}
use mathlib.Core.Path.{◌≡◌, refl, sym, ap, subst, ◌∙◌}
use mathlib.Core.Bool.{Bool, true, false}
use mathlib.Core.List.{List, [], ◌∷◌, ◌++◌}
use native.Mathlib.Omega.{arith}
use lib.ListN.{length, get_or, set, drop, length-append, length-set, drop_of_length-le, get_or-append}
use lib.Seq.{drop-append-le, drop-set-lt, get_or_at, get_or-append-add, get_or-set_same}
use borrow.Author.Tests.{lt-ltb, leb-true}
use Rattle.promise.proofs.Joined.{cond_both}
use Rattle.std.specs.Prelude.{Option, Some, None}
use Rattle.table.specs.Texts.{inside, same_text, text_of}
use Rattle.table.specs.Keys.{find_key, keys_in}
use Rattle.index.proofs.Alike.{text_is}
use Rattle.index.proofs.Growing.{text_kept}
use Rattle.layer.specs.declared.Figures.{Figures}
use Rattle.layer.specs.Held.{Seen}
use Rattle.layer.specs.Calls.{record_with, Tag, index_of, put_of, key_words, with_tag, key_found, value_found, tag_put, is_key, has_key, last_tags}
use Rattle.layer.proofs.Entries.{text_next}
use Rattle.tile.specs.Holding.{same_bytes, among}
use Rattle.tile.proofs.Names.{text_bytes}
use Rattle.layer.proofs.Keeping.{Sound}
use Rattle.layer.proofs.Fitting.{within}
use Rattle.layer.proofs.Standing.{open_parts}
use Rattle.records.proofs.Growing.{last_six}
use Rattle.layer.specs.declared.whole_feature.Head.{Head}
use Rattle.layer.specs.Whole.{mark_of, id_of, feature_opened}

-- ---- entry k of the keys is there, and its text is x
pub record Named (ks ts : List ℕ) (k : ℕ) (x : List ℕ) : Type 0 where
  pub there : k < length ks / 2
  pub within : get_or ks (k * 2) 0 + get_or ks (k * 2 + 1) 0 ≤ length ts
  pub text : text_of ts (get_or ks (k * 2) 0) (get_or ks (k * 2 + 1) 0) ≡ x

pub named_is : (ks ts : List ℕ) (k : ℕ) (x key : List ℕ) → Named ks ts k x → is_key ks ts k key ≡ same_bytes x key
named_is ks ts k x key N = rw (lt-ltb k (length ks / 2) N.there) (text_bytes ts (get_or ks (k * 2) 0) (get_or ks (k * 2 + 1) 0) key N.within ∙ ap (λ (t : List ℕ). same_bytes t key) N.text)

-- more keys and texts behind change nothing
pub named_more : (ks new ts more : List ℕ) (k : ℕ) (x : List ℕ) → Named ks ts k x → Named (ks ++ new) (ts ++ more) k x
named_more ks new ts more k x N =
    let h = N.there in
    let a = get_or-append ks new 0 (k * 2) (omega arith) in
    let b = get_or-append ks new 0 (k * 2 + 1) (omega arith) in
    record {
      there = omega (arith, length-append ks new);
      within = rw (a, b) (omega (arith, N.within, length-append ts more));
      text = rw (a, b) (text_kept ts more (get_or ks (k * 2) 0) (get_or ks (k * 2 + 1) 0) N.within ∙ N.text);
    }

-- what is found has that text
one_before : (a b : ℕ) (ks ts : List ℕ) (k : ℕ) (x : List ℕ) → Named ks ts k x → Named (a ∷ b ∷ ks) ts (suc k) x
one_before a b ks ts k x N =
    let e : suc k * 2 ≡ suc (suc (k * 2)) = omega arith in
    let f : suc (suc (k * 2)) + 1 ≡ suc (suc (k * 2 + 1)) = omega arith in
    record { there = omega (arith, N.there); within = rw (e, f) N.within; text = rw (e, f) N.text }

Found_at : List ℕ → List ℕ → List ℕ → ℕ → ℕ → Type 0
Found_at ks ts key j i = (m : ℕ) × (i ≡ j + m) × Named ks ts m key

found_named : (ks ts key : List ℕ) (j i : ℕ) → keys_in (length ts) ks ≡ true → find_key j ks ts key ≡ Some i → Found_at ks ts key j i
unfolding Found_at
found_named [] ts key j i K e = absurd (let z : ◌≡◌ {A = ℕ} 0 1 = cc in omega arith)
found_named (a ∷ []) ts key j i K e = absurd (let z : ◌≡◌ {A = ℕ} 0 1 = cc in omega arith)
found_named (a ∷ b ∷ ks) ts key j i K e = by (same_text ts a b key) refl (λ f. found_named ks ts key (suc j) i (cond_both (inside (length ts) a b) (keys_in (length ts) ks) K).1 f)
  where
    in_texts : a + b ≤ length ts
    in_texts = leb-true (a + b) (length ts) (cond_both (inside (length ts) a b) (keys_in (length ts) ks) K).0

    by : (t : Bool) → same_text ts a b key ≡ t → (find_key (suc j) ks ts key ≡ Some i → Found_at ks ts key (suc j) i) → Found_at (a ∷ b ∷ ks) ts key j i
    by true q go =
        let f : Some j ≡ Some i = rw q at e in
        let g : j ≡ i = cc in
        (0, omega (arith, g), record { there = omega arith; within = in_texts; text = text_is ts a b key q })
    by false q go =
        let (m, r, N) = go (rw q at e) in
        (suc m, omega (arith, r), one_before a b ks ts m key N)

-- a key behind the others, its text behind the others' texts
new_named : (ks ts : List ℕ) (n u : ℕ) (x more : List ℕ) → length ks ≡ n * 2 → length ts ≡ u → Named (ks ++ (u ∷ length x ∷ [])) (ts ++ (x ++ more)) n x
new_named ks ts n u x more k t =
    let a : get_or (ks ++ (u ∷ length x ∷ [])) (n * 2) 0 ≡ u = get_or_at ks u (length x ∷ []) 0 (n * 2) k in
    let b : get_or (ks ++ (u ∷ length x ∷ [])) (n * 2 + 1) 0 ≡ length x = ap (λ (i : ℕ). get_or (ks ++ (u ∷ length x ∷ [])) (i + 1) 0) (sym k) ∙ get_or-append-add ks (u ∷ length x ∷ []) 1 0 in
    record {
      there = omega (arith, length-append ks (u ∷ length x ∷ []));
      within = rw (a, b) (omega (arith, length-append ts (x ++ more), length-append x more));
      text = rw (a, b) (text_next ts x more u t);
    }

-- ---- tag words stand for these keys, in their order
pub data TagsNamed (ks ts : List ℕ) : List ℕ → List (List ℕ) → Type 0 where
  no_tags : TagsNamed ks ts [] []
  one_tag : (k v : ℕ) (ws x : List ℕ) (xs : List (List ℕ)) → Named ks ts k x → TagsNamed ks ts ws xs → TagsNamed ks ts (k ∷ v ∷ ws) (x ∷ xs)

pub has_is : (ks ts ws : List ℕ) (xs : List (List ℕ)) (key : List ℕ) → TagsNamed ks ts ws xs → has_key ks ts ws key ≡ among key xs
has_is ks ts ws xs key no_tags = refl
has_is ks ts ws xs key (one_tag k v ws' x xs' N T) = rw (named_is ks ts k x key N, has_is ks ts ws' xs' key T)

tags_more : (ks new ts more ws : List ℕ) (xs : List (List ℕ)) → TagsNamed ks ts ws xs → TagsNamed (ks ++ new) (ts ++ more) ws xs
tags_more ks new ts more ws xs no_tags = no_tags
tags_more ks new ts more ws xs (one_tag k v ws' x xs' N T) = one_tag k v ws' x xs' (named_more ks new ts more k x N) (tags_more ks new ts more ws' xs' T)

tags_behind : (ks ts ws : List ℕ) (xs : List (List ℕ)) (k v : ℕ) (x : List ℕ) → TagsNamed ks ts ws xs → Named ks ts k x → TagsNamed ks ts (ws ++ (k ∷ v ∷ [])) (xs ++ (x ∷ []))
tags_behind ks ts ws xs k v x no_tags N = one_tag k v [] x [] N no_tags
tags_behind ks ts ws xs k v x (one_tag j w ws' y ys M T) N = one_tag j w (ws' ++ (k ∷ v ∷ [])) y (ys ++ (x ∷ [])) M (tags_behind ks ts ws' ys k v x T N)

-- ---- the open feature
abbrev pub Keyed : Seen → Figures → List (List ℕ) → Type 0
Keyed v o xs = TagsNamed v.held.keys v.held.texts (last_tags v.held.features o.features) xs

-- a tag's two words go behind
pub last_tagged : (ws : List ℕ) (at k v : ℕ) → at + 6 + get_or ws (at + 4) 0 ≤ length ws → last_tags (with_tag at k v ws) at ≡ last_tags ws at ++ (k ∷ v ∷ [])
last_tagged ws at k v h =
    let n = get_or ws (at + 4) 0 in
    let all = ws ++ (k ∷ v ∷ []) in
    let l : length (set all (at + 4) (n + 2)) ≡ length ws + 2 = length-set all (at + 4) (n + 2) ∙ length-append ws (k ∷ v ∷ []) in
    let g : get_or (set all (at + 4) (n + 2)) (at + 4) 0 ≡ n + 2 = get_or-set_same all (at + 4) (n + 2) 0 (omega (arith, length-append ws (k ∷ v ∷ []))) in
    let e : length ws + 2 - (n + 2) ≡ length ws - n = omega arith in
    rw (l, g, e, drop-set-lt (length ws - n) all (at + 4) (n + 2) (omega arith)) (drop-append-le (length ws - n) ws (k ∷ v ∷ []) (omega arith))

key_named : (ks ts : List ℕ) (n u : ℕ) (x more : List ℕ) (f : Option ℕ) → f ≡ find_key 0 ks ts x → keys_in (length ts) ks ≡ true → length ks ≡ n * 2 → length ts ≡ u → Named (ks ++ put_of f (key_words u x)) (ts ++ (put_of f x ++ more)) (index_of f n) x
unfolding Found_at
key_named ks ts n u x more (Some j) e K k t =
    let (m, r, N) = found_named ks ts x 0 j K (sym e) in
    let q : m ≡ j = omega (arith, r) in
    named_more ks [] ts ([] ++ more) j x (subst (λ (i : ℕ). Named ks ts i x) q N)
key_named ks ts n u x more None e K k t = new_named ks ts n u x more k t

module _ (v : Seen) (S : Sound v) (o : Figures) (six : o.features + 6 + get_or v.held.features (o.features + 4) 0 ≤ length v.held.features) (t : Tag) (xs : List (List ℕ)) (T : Keyed v o xs) where
  pub tag_keyed : Keyed (tag_put o t v) o (xs ++ (t.key ∷ []))
  tag_keyed =
      let h = v.held in
      let u = v.layer.used in
      let kf = key_found t v in
      let vf = value_found t v in
      let K : keys_in (length h.texts) h.keys ≡ true = rw S.lengths.texts S.keys in
      rw (last_tagged h.features o.features (index_of kf u.keys) (index_of vf u.values) six)
      (tags_behind (tag_put o t v).held.keys (tag_put o t v).held.texts (last_tags h.features o.features) xs (index_of kf u.keys) (index_of vf u.values) t.key
      (tags_more h.keys (put_of kf (key_words u.texts t.key)) h.texts (put_of kf t.key ++ put_of vf t.text) (last_tags h.features o.features) xs T)
      (key_named h.keys h.texts u.keys u.texts t.key (put_of vf t.text) kf refl K S.lengths.keys S.lengths.texts))

-- its six words and its tag words are there
pub open_six : (v : Seen) → Sound v → (o : Figures) → v.layer.feature ≡ Some o → o.features + 6 + get_or v.held.features (o.features + 4) 0 ≤ length v.held.features
open_six v S o f =
    let P = open_parts v.layer.feature o v.layer.used v.held.features f S.records in
    last_six v.held.features o.features (omega (arith, (within o v.layer.used P.room).features, S.lengths.features)) P.last

-- a feature that was just opened has none
pub new_keyed : (f : Head) (words : List ℕ) (v : Seen) → Sound v → Keyed (feature_opened f words v) v.layer.used []
new_keyed f words v S =
    let ws = v.held.features in
    let new = record_with f.kind (mark_of f) (id_of f) words in
    let g : get_or (ws ++ new) (v.layer.used.features + 4) 0 ≡ 0 = ap (λ (n : ℕ). get_or (ws ++ new) (n + 4) 0) (sym S.lengths.features) ∙ get_or-append-add ws new 4 0 in
    let d : drop (length (ws ++ new) - 0) (ws ++ new) ≡ [] = drop_of_length-le (ws ++ new) {i = length (ws ++ new) - 0} (omega arith) in
    rw (g, d) no_tags
