-- The dry run of a whole feature's tags: what it reckons tag by tag are the figures after the tags are put (`tags_need`), within the bound (`need_within`), so that
-- either decides whether the feature has room.
use Prim.Native.Nat.{ℕ, ◌+◌, ◌≤◌, zero-le}
use mathlib.Core.Path.{◌≡◌, refl, sym, ap, ◌∙◌}
use mathlib.Core.Bool.{Bool, true, false, cond}
use mathlib.Core.List.{List, [], ◌∷◌, ◌++◌}
use native.Mathlib.Omega.{arith}
use lib.ListN.{length, drop, length-drop}
use lib.Seq.{length-take-le}
use lib.Dec.{eqb}
use borrow.Author.Tests.{le-leb, leb-true}
use Rattle.std.specs.Prelude.{Option, Some, None}
use Rattle.table.specs.declared.Value.{Value}
use Rattle.table.specs.Texts.{inside, same_text, text_of}
use Rattle.table.specs.Keys.{find_key, keys_in}
use Rattle.table.specs.Values.{same_value, find_value, value_ok, values_in}
use Rattle.records.specs.Records.{is_found}
use Rattle.promise.proofs.Joined.{cond_both}
use Rattle.layer.specs.declared.Figures.{Figures}
use Rattle.layer.specs.Held.{Seen}
use Rattle.layer.specs.Calls.{with_features, Tag, is_value, more_of, put_of, grown_by, held_with, tag_put_by, key_found, value_found, tag_put}
use Rattle.layer.specs.TagLists.{tag_ok, tags_ok, value_given, text_place, tag_of, tags_of, key_given}
use Rattle.layer.specs.Whole.{feature_opened, tags_put}
use Rattle.layer.specs.NeedSteps.{value_among, or_given, key_known, value_known, need_of, most_of, walked}
use Rattle.layer.proofs.Fitting.{never, both, Within}
use Rattle.layer.proofs.Entries.{length_put}
use Rattle.layer.proofs.Keeping.{Sound, opened_sound, tag_sound}
use Rattle.layer.proofs.Filled.{value_given_lem}
use Rattle.layer.proofs.Finding.{key_old, key_new, value_old, value_new}

-- ---- tests
no_more : (a : Bool) → cond a true false ≡ a
no_more true = refl
no_more false = refl

any_of : (a b c : Bool) → cond (cond a true b) true c ≡ cond a true (cond b true c)
any_of true b c = refl
any_of false b c = refl

any_on : (s x y z : Bool) → x ≡ cond y true z → cond s true x ≡ cond (cond s true y) true z
any_on true x y z e = refl
any_on false x y z e = e

or_found : (f : Option ℕ) (g : Bool) → is_found (or_given f g) ≡ cond (is_found f) true g
or_found (Some j) g = refl
or_found None true = refl
or_found None false = refl

-- ---- the tables alone: a layer without features
abbrev bare : Seen → Seen
bare v =
    record {
      layer = record { extent = v.layer.extent; strict = v.layer.strict; name = 0; used = record { keys = v.layer.used.keys; values = v.layer.used.values; texts = v.layer.used.texts; features = 0 }; feature = None };
      held = with_features v.held [];
      room = v.room;
    }

abbrev pub Tables : Seen → Type 0
Tables v = Sound (bare v)

pub tables : (v : Seen) → Sound v → Tables v
tables v S =
    record {
      name = le-leb 0 v.layer.used.texts zero-le;
      keys = S.keys;
      values = S.values;
      records = refl;
      lengths = record { keys = S.lengths.keys; values = S.lengths.values; texts = S.lengths.texts; features = refl };
    }

-- a tag keeps them in order, as it does in a layer with one feature
tables_put : (o : Figures) (t : Tag) (v : Seen) (kf vf : Option ℕ) → Tables v → is_value t.value ≡ true → Tables (tag_put_by o t v kf vf)
tables_put o t v kf vf T g =
    let O = opened_sound 1 0 0 [] (bare v) T refl refl in
    let S = tag_sound (feature_opened (record { kind = 1; has_id = false; id = 0 }) [] (bare v)) O (bare v).layer.used refl t g kf vf in
    record {
      name = le-leb 0 (tag_put_by o t v kf vf).layer.used.texts zero-le;
      keys = S.keys;
      values = S.values;
      records = refl;
      lengths = record { keys = S.lengths.keys; values = S.lengths.values; texts = S.lengths.texts; features = refl };
    }

-- ---- a list of tags with one more
key_last : (n : ℕ) (bytes ws key : List ℕ) (a b c d e : ℕ) → tags_ok n ws ≡ true → key_given bytes (ws ++ (a ∷ b ∷ c ∷ d ∷ e ∷ [])) key ≡ cond (key_given bytes ws key) true (same_text bytes a b key)
key_last n bytes [] key a b c d e h = no_more (same_text bytes a b key)
key_last n bytes (v ∷ []) key a b c d e h = never h
key_last n bytes (v ∷ w ∷ []) key a b c d e h = never h
key_last n bytes (v ∷ w ∷ x ∷ []) key a b c d e h = never h
key_last n bytes (v ∷ w ∷ x ∷ y ∷ []) key a b c d e h = never h
key_last n bytes (v ∷ w ∷ x ∷ y ∷ z ∷ ws) key a b c d e h =
    any_on (same_text bytes v w key) (key_given bytes (ws ++ (a ∷ b ∷ c ∷ d ∷ e ∷ [])) key) (key_given bytes ws key) (same_text bytes a b key)
    (key_last n bytes ws key a b c d e (cond_both (tag_ok n v w x y z) (tags_ok n ws) h).1)

value_last : (n : ℕ) (bytes ws : List ℕ) (v : Value) (text : List ℕ) (a b c d e : ℕ) → tags_ok n ws ≡ true → value_among bytes (ws ++ (a ∷ b ∷ c ∷ d ∷ e ∷ [])) v text ≡ cond (value_among bytes ws v text) true (same_value bytes c d e v text)
value_last n bytes [] v text a b c d e h = no_more (same_value bytes c d e v text)
value_last n bytes (p ∷ []) v text a b c d e h = never h
value_last n bytes (p ∷ q ∷ []) v text a b c d e h = never h
value_last n bytes (p ∷ q ∷ x ∷ []) v text a b c d e h = never h
value_last n bytes (p ∷ q ∷ x ∷ y ∷ []) v text a b c d e h = never h
value_last n bytes (p ∷ q ∷ x ∷ y ∷ z ∷ ws) v text a b c d e h =
    any_on (same_value bytes x y z v text) (value_among bytes (ws ++ (a ∷ b ∷ c ∷ d ∷ e ∷ [])) v text) (value_among bytes ws v text) (same_value bytes c d e v text)
    (value_last n bytes ws v text a b c d e (cond_both (tag_ok n p q x y z) (tags_ok n ws) h).1)

ok_last : (n : ℕ) (ws : List ℕ) (a b c d e : ℕ) → tags_ok n ws ≡ true → tag_ok n a b c d e ≡ true → tags_ok n (ws ++ (a ∷ b ∷ c ∷ d ∷ e ∷ [])) ≡ true
ok_last n [] a b c d e h g = rw g
ok_last n (v ∷ []) a b c d e h g = never h
ok_last n (v ∷ w ∷ []) a b c d e h g = never h
ok_last n (v ∷ w ∷ x ∷ []) a b c d e h g = never h
ok_last n (v ∷ w ∷ x ∷ y ∷ []) a b c d e h g = never h
ok_last n (v ∷ w ∷ x ∷ y ∷ z ∷ ws) a b c d e h g =
    let p = cond_both (tag_ok n v w x y z) (tags_ok n ws) h in
    rw p.0 (ok_last n ws a b c d e p.1 g)

-- ---- what a tag puts depends on whether it was found alone
more_alike : (f g : Option ℕ) (n : ℕ) → is_found f ≡ is_found g → more_of f n ≡ more_of g n
more_alike (Some i) (Some j) n e = refl
more_alike (Some i) None n e = never (sym e)
more_alike None (Some j) n e = never e
more_alike None None n e = refl

grown_alike : (w : Figures) (kf kg vf vg : Option ℕ) (key text : ℕ) → is_found kf ≡ is_found kg → is_found vf ≡ is_found vg → grown_by w kf vf key text ≡ grown_by w kg vg key text
grown_alike w kf kg vf vg key text p q = rw (more_alike kf kg 1 p, more_alike kf kg key p, more_alike vf vg 1 q, more_alike vf vg text q)

-- what is found is what the tables of the layer hold and the earlier tags gave
pub record Knows (bytes ks vs ts earlier : List ℕ) (n : Seen) : Type 0 where
  pub keys : (key : List ℕ) → is_found (find_key 0 n.held.keys n.held.texts key) ≡ cond (is_found (find_key 0 ks ts key)) true (key_given bytes earlier key)
  pub values : (v : Value) (text : List ℕ) → is_found (find_value 0 n.held.values n.held.texts v text) ≡ cond (is_found (find_value 0 vs ts v text)) true (value_among bytes earlier v text)

module _ (bytes ks vs ts : List ℕ) (o : Figures) where
  -- one tag
  module _ (earlier : List ℕ) (E : tags_ok (length bytes) earlier ≡ true) (n : Seen) (T : Tables n) (N : Knows bytes ks vs ts earlier n) (a b c d e : ℕ) (g : tag_ok (length bytes) a b c d e ≡ true) where
    abbrev tag : Tag
    tag = tag_of bytes a b c d e

    key_in : a + b ≤ length bytes
    key_in = leb-true (a + b) (length bytes) (both (inside (length bytes) a b) (value_ok (length bytes) c d e) g).0

    value_in : value_ok (length bytes) c d e ≡ true
    value_in = (both (inside (length bytes) a b) (value_ok (length bytes) c d e) g).1

    keys_there : keys_in (length n.held.texts) n.held.keys ≡ true
    keys_there = rw T.lengths.texts T.keys

    values_there : values_in (length n.held.texts) n.held.values ≡ true
    values_there = rw T.lengths.texts T.values

    key_by_lem : (kf vf : Option ℕ) → key_found tag n ≡ kf → (key : List ℕ) → is_found (find_key 0 (held_with n.layer.used o n.held tag kf vf).keys (held_with n.layer.used o n.held tag kf vf).texts key) ≡ cond (is_found (find_key 0 n.held.keys n.held.texts key)) true (same_text bytes a b key)
    key_by_lem (Some j) vf q key = key_old bytes a b key_in n.held.keys n.held.texts n.layer.used.texts keys_there T.lengths.texts j q (put_of vf tag.text) key
    key_by_lem None vf q key = key_new bytes a b key_in n.held.keys n.held.texts n.layer.used.texts keys_there T.lengths.texts (put_of vf tag.text) key

    value_by_lem : (kf vf : Option ℕ) → value_found tag n ≡ vf → (v : Value) (text : List ℕ) → is_found (find_value 0 (held_with n.layer.used o n.held tag kf vf).values (held_with n.layer.used o n.held tag kf vf).texts v text) ≡ cond (is_found (find_value 0 n.held.values n.held.texts v text)) true (same_value bytes c d e v text)
    value_by_lem kf (Some j) q v text = value_old bytes c d e value_in n.held.values n.held.texts n.layer.used.texts values_there T.lengths.texts j q (put_of kf tag.key ++ []) v text
    value_by_lem kf None q v text = value_new bytes c d e value_in n.held.values n.held.texts n.layer.used.texts values_there T.lengths.texts (put_of kf tag.key) (more_of kf (length tag.key)) (length_put kf tag.key) v text

    knows_on : Knows bytes ks vs ts (earlier ++ (a ∷ b ∷ c ∷ d ∷ e ∷ [])) (tag_put o tag n)
    knows_on =
        record {
          keys = λ key.
              key_by_lem (key_found tag n) (value_found tag n) refl key
              ∙ ap (λ (x : Bool). cond x true (same_text bytes a b key)) (N.keys key)
              ∙ any_of (is_found (find_key 0 ks ts key)) (key_given bytes earlier key) (same_text bytes a b key)
              ∙ ap (λ (x : Bool). cond (is_found (find_key 0 ks ts key)) true x) (sym (key_last (length bytes) bytes earlier key a b c d e E));
          values = λ v text.
              value_by_lem (key_found tag n) (value_found tag n) refl v text
              ∙ ap (λ (x : Bool). cond x true (same_value bytes c d e v text)) (N.values v text)
              ∙ any_of (is_found (find_value 0 vs ts v text)) (value_among bytes earlier v text) (same_value bytes c d e v text)
              ∙ ap (λ (x : Bool). cond (is_found (find_value 0 vs ts v text)) true x) (sym (value_last (length bytes) bytes earlier v text a b c d e E));
        }

    tables_on : Tables (tag_put o tag n)
    tables_on = tables_put o tag n (key_found tag n) (value_found tag n) T (value_given_lem (length bytes) c d e (eqb c 1) refl value_in)

    text_long : (t : Bool) → eqb c 1 ≡ t → length tag.text ≡ (text_place c d e).len
    text_long true q = rw q (length-take-le e (drop d bytes) (let h : d + e ≤ length bytes = leb-true (d + e) (length bytes) (rw q at value_in) in omega (arith, length-drop d bytes)))
    text_long false q = rw q

    figures_on : (tag_put o tag n).layer.used ≡ need_of ks vs ts bytes earlier a b c d e n.layer.used
    figures_on =
        let k : length (text_of bytes a b) ≡ b = length-take-le b (drop a bytes) (omega (arith, key_in, length-drop a bytes)) in
        let kf = find_key 0 ks ts tag.key in
        let vf = find_value 0 vs ts tag.value tag.text in
        let x = key_known ks ts bytes earlier (record { start = a; len = b }) in
        let y = value_known vs ts bytes earlier (value_given c d e) (text_place c d e) in
        grown_alike n.layer.used (key_found tag n) x (value_found tag n) y (length tag.key) (length tag.text)
        (N.keys tag.key ∙ sym (or_found kf (key_given bytes earlier tag.key)))
        (N.values tag.value tag.text ∙ sym (or_found vf (value_among bytes earlier tag.value tag.text)))
        ∙ ap (λ (l : ℕ). grown_by n.layer.used x y l (length tag.text)) k
        ∙ ap (λ (l : ℕ). grown_by n.layer.used x y b l) (text_long (eqb c 1) refl)

  -- all tags
  pub tags_need : (earlier ws : List ℕ) (n : Seen) → tags_ok (length bytes) earlier ≡ true → tags_ok (length bytes) ws ≡ true → Tables n → Knows bytes ks vs ts earlier n → (tags_put o (tags_of bytes ws) n).layer.used ≡ walked (need_of ks vs ts bytes) earlier ws n.layer.used
  tags_need earlier [] n E h T N = refl
  tags_need earlier (a ∷ []) n E h T N = refl
  tags_need earlier (a ∷ b ∷ []) n E h T N = refl
  tags_need earlier (a ∷ b ∷ c ∷ []) n E h T N = refl
  tags_need earlier (a ∷ b ∷ c ∷ d ∷ []) n E h T N = refl
  tags_need earlier (a ∷ b ∷ c ∷ d ∷ e ∷ ws) n E h T N =
      let p = cond_both (tag_ok (length bytes) a b c d e) (tags_ok (length bytes) ws) h in
      let g = p.0 in
      tags_need (earlier ++ (a ∷ b ∷ c ∷ d ∷ e ∷ [])) ws (tag_put o (tag_of bytes a b c d e) n) (ok_last (length bytes) earlier a b c d e E g) p.1 (tables_on earlier E n T N a b c d e g) (knows_on earlier E n T N a b c d e g)
      ∙ ap (λ (w : Figures). walked (need_of ks vs ts bytes) (earlier ++ (a ∷ b ∷ c ∷ d ∷ e ∷ [])) ws w) (figures_on earlier E n T N a b c d e g)

-- ---- the bound
more_le : (f : Option ℕ) (n : ℕ) → more_of f n ≤ n
more_le (Some j) n = zero-le
more_le None n = omega arith

grown_within : (w u : Figures) (kf vf : Option ℕ) (key text : ℕ) → Within w u → Within (grown_by w kf vf key text) (grown_by u None None key text)
grown_within w u kf vf key text I =
    record {
      keys = omega (arith, I.keys, more_le kf 1);
      values = omega (arith, I.values, more_le vf 1);
      texts = omega (arith, I.texts, more_le kf key, more_le vf text);
      features = omega (arith, I.features);
    }

pub need_within : (ks vs ts bytes earlier ws : List ℕ) (w u : Figures) → Within w u → Within (walked (need_of ks vs ts bytes) earlier ws w) (walked most_of earlier ws u)
need_within ks vs ts bytes earlier [] w u I = I
need_within ks vs ts bytes earlier (a ∷ []) w u I = I
need_within ks vs ts bytes earlier (a ∷ b ∷ []) w u I = I
need_within ks vs ts bytes earlier (a ∷ b ∷ c ∷ []) w u I = I
need_within ks vs ts bytes earlier (a ∷ b ∷ c ∷ d ∷ []) w u I = I
need_within ks vs ts bytes earlier (a ∷ b ∷ c ∷ d ∷ e ∷ ws) w u I =
    need_within ks vs ts bytes (earlier ++ (a ∷ b ∷ c ∷ d ∷ e ∷ [])) ws (need_of ks vs ts bytes earlier a b c d e w) (most_of earlier a b c d e u)
    (grown_within w u (key_known ks ts bytes earlier (record { start = a; len = b })) (value_known vs ts bytes earlier (value_given c d e) (text_place c d e)) b (text_place c d e).len I)

-- before the first tag: what the layer holds
pub knows_start : (bytes : List ℕ) (n : Seen) → Knows bytes n.held.keys n.held.values n.held.texts [] n
knows_start bytes n =
    record {
      keys = λ key. sym (no_more (is_found (find_key 0 n.held.keys n.held.texts key)));
      values = λ v text. sym (no_more (is_found (find_value 0 n.held.values n.held.texts v text)));
    }
