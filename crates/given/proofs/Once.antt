-- What AGAIN asks is what was given: the open feature of a layer has a key exactly where one of the tags given to it has (`asks_given`). So no feature of a strict
-- layer has a key twice, whatever calls were made (`keys_once_lem`), and none of a tile of such layers (`tile_once`); nor has one a key index twice (`indices_once`).
use Prim.Native.Nat.{ℕ, suc, ◌+◌, ◌-◌, ◌*◌, ◌/◌, ◌%◌}
use mathlib.Core.Path.{◌≡◌, refl, sym, ap, ◌∙◌}
use mathlib.Core.Bool.{Bool, true, false, cond, not}
use mathlib.Core.List.{List, [], ◌∷◌, ◌++◌, map, map-append}
use mathlib.Core.Option.{Option, none, some}
use native.Mathlib.Omega.{arith}
use lib.ListN.{length, get_or, length-append}
use lib.Seq.{drop_at, drop-append-add, get_or-append-add}
use lib.Dec.{eqb, ltb}
use borrow.Author.Tests.{lt-ltb, le-ltb, ltb-true, ltb-false, leb-true, eq-eqb, eqb-true, not-true}
use Rattle.promise.proofs.Joined.{never, same, both, cond_both}
use Rattle.table.specs.Texts.{inside, text_of}
use Rattle.table.specs.Values.{value_ok}
use Rattle.layer.specs.declared.Figures.{Figures}
use Rattle.std.specs.Prelude.{Some}
use Rattle.layer.specs.declared.Layer.{Layer}
use Rattle.layer.specs.declared.whole_feature.Head.{Head}
use Rattle.layer.specs.Held.{Memory, Seen, seen, Change, refuses, holds, held_by}
use Rattle.layer.specs.Calls.{Tag as Stored, is_key, has_key, last_tags, takes_key}
use Rattle.layer.specs.TagLists.{tag_ok, tags_ok, key_given, keys_once}
use Rattle.layer.specs.Whole.{add_feature}
use Rattle.layer.proofs.Checked.{by_tag, by_feature}
use Rattle.layer.proofs.Choosing.{Chose, opened_chose, marked_chose, closed_chose, abandoned_chose, feature_chose}
use Rattle.tile.specs.Holding.{same_bytes, among as amongKeys, none_twice, At}
use Rattle.tile.proofs.Names.{bytes_equal, none_twice_more}
use Rattle.given.specs.Given.{Content, Tag, Feature, Drawing, Call, opens, identifies, tags, closes, abandons, among, place_of, all_tags, key_of, keys_of, values_of, identified, tagged, on_open, completed, after, added}
use Rattle.given.specs.Messages.{each, tag_indices}
use Rattle.given.specs.Asked.{Made, calls, whole, tag_of, tags_given, feature_given, asks, asked, gives, FineCall, FineMade, Words}
use Rattle.given.specs.Layout.{TextStands, KeysStand, no_keys, one_key, record_from, record_of, HeldAs, Stands}
use Rattle.given.specs.Runs.{Plan, begun, page_of, Sound, AllSound, drawings}
use Rattle.given.specs.Texts.{Every}
use Rattle.given.specs.Once.{FeatureOnce, AllOnce, key_indices, is_among, each_once, IndexOnce}
use Rattle.given.proofs.FirstUse.{bytes_same, Met, met_left, met_right, all_met}
use Rattle.given.proofs.Entries.{text_found}
use Rattle.given.proofs.Records.{each_last}
use Rattle.given.proofs.Holding.{tag_parts}
use Rattle.given.proofs.Standing.{there, starts, met}
use Rattle.given.proofs.Courses.{Keeps, run_keeps}
use Rattle.given.proofs.Runs.{StandsIn, stands_on, begun_stands}
use Rattle.given.proofs.Texts.{every_behind, tile_every}

-- ---- the entries of the keys
entry_shift : (a b j : ℕ) (ws : List ℕ) → ltb (suc j) (length (a ∷ b ∷ ws) / 2) ≡ ltb j (length ws / 2)
entry_shift a b j ws = by (ltb j (length ws / 2)) refl
  where
    by : (t : Bool) → ltb j (length ws / 2) ≡ t → ltb (suc j) (length (a ∷ b ∷ ws) / 2) ≡ t
    by true q = let h = ltb-true j (length ws / 2) q in lt-ltb (suc j) (length (a ∷ b ∷ ws) / 2) (omega arith)
    by false q = let h = ltb-false j (length ws / 2) q in le-ltb (suc j) (length (a ∷ b ∷ ws) / 2) (omega arith)

key_shift : (a b : ℕ) (ws texts : List ℕ) (j : ℕ) (key : List ℕ) → is_key (a ∷ b ∷ ws) texts (suc j) key ≡ is_key ws texts j key
key_shift a b ws texts j key =
    let e : suc j * 2 ≡ suc (suc (j * 2)) = omega arith in
    let f : suc (suc (j * 2)) + 1 ≡ suc (suc (j * 2 + 1)) = omega arith in
    rw (entry_shift a b j ws, e, f)

key_first : (start len : ℕ) (ws texts k key : List ℕ) → TextStands texts start len k → is_key (start ∷ len ∷ ws) texts 0 key ≡ same_bytes k key
key_first start len ws texts k key T = rw (lt-ltb 0 (length (start ∷ len ∷ ws) / 2) (omega arith)) (text_found texts start len k T key)

key_placed : (texts ws : List ℕ) (keys : List (List ℕ)) → KeysStand texts ws keys → (k : List ℕ) → among same_bytes k keys ≡ true → (key : List ℕ) → is_key ws texts (place_of same_bytes k keys) key ≡ same_bytes k key
key_placed texts _ _ no_keys k m key = never m
key_placed texts _ _ (one_key start len x ws keys T K) k m key = by (same_bytes x k) refl (λ q. key_placed texts ws keys K k q key) m
  where
    by : (t : Bool) → same_bytes x k ≡ t → (among same_bytes k keys ≡ true → is_key ws texts (place_of same_bytes k keys) key ≡ same_bytes k key) → cond t true (among same_bytes k keys) ≡ true → is_key (start ∷ len ∷ ws) texts (cond t 0 (suc (place_of same_bytes k keys))) key ≡ same_bytes k key
    by true q go n = key_first start len ws texts x key T ∙ ap (λ (y : List ℕ). same_bytes y key) (bytes_equal x k q)
    by false q go n = key_shift start len ws texts (place_of same_bytes k keys) key ∙ go n

-- ---- the tags of a feature
has_given : (texts ws : List ℕ) (keys : List (List ℕ)) (values : List Content) → KeysStand texts ws keys → (ts : List Tag) → Met keys values ts → (key : List ℕ) → has_key ws texts (tag_indices keys values ts) key ≡ amongKeys key (map key_of ts)
has_given texts ws keys values K [] M key = refl
has_given texts ws keys values K (t ∷ ts) M key = rw (key_placed texts ws keys K t.key M.0 key, has_given texts ws keys values K ts M.2 key)

last_indices : (before : List ℕ) (kind : ℕ) (id : Option ℕ) (geometry indices : List ℕ) → last_tags (before ++ record_from kind id geometry indices) (length before) ≡ indices
last_indices before kind id geometry indices =
    let r = record_from kind id geometry indices in
    let g : get_or (before ++ r) (length before + 4) 0 ≡ length indices = get_or-append-add before r 4 0 in
    let n : length (before ++ r) - length indices ≡ length before + (6 + length geometry) = omega (arith, length-append before r, length-append geometry indices) in
    rw (g, n, drop-append-add before r (6 + length geometry)) (drop_at (kind ∷ get_or r 1 0 ∷ get_or r 2 0 ∷ get_or r 3 0 ∷ length indices ∷ length geometry ∷ geometry) indices (6 + length geometry) (omega arith))

module _ (v : Seen) (d : Drawing) (S : Stands v d) (o : Figures) (s : v.layer.feature ≡ Some o) where
  tags_there : (f : Feature) → HeldAs v.layer.used v.layer.name v.held d.name (d.features ++ (f ∷ [])) → HeldAs o v.layer.name (held_by o v.held) d.name d.features → (key : List ℕ) → has_key v.held.keys v.held.texts (last_tags v.held.features o.features) key ≡ amongKeys key (map key_of f.tags)
  tags_there f A B key =
      let ks = keys_of (d.features ++ (f ∷ [])) in
      let vs = values_of (d.features ++ (f ∷ [])) in
      let before = each (record_of ks vs) d.features in
      let e : v.held.features ≡ before ++ record_of ks vs f = A.records_are ∙ each_last (record_of ks vs) d.features f in
      let l : last_tags v.held.features o.features ≡ tag_indices ks vs f.tags =
      ap (λ (ws : List ℕ). last_tags ws o.features) e
      ∙ ap (λ (n : ℕ). last_tags (before ++ record_of ks vs f) n) (starts v d S o s f A B)
      ∙ last_indices before f.kind f.id f.geometry (tag_indices ks vs f.tags) in
      ap (λ (ws : List ℕ). has_key v.held.keys v.held.texts ws key) l
      ∙ has_given v.held.texts v.held.keys ks vs A.keys_stand f.tags (met_right ks vs (all_tags d.features) f.tags (met v d S o s f A B)) key

  pub asks_given : (f : Feature) × (d.pending ≡ some f) × ((key : List ℕ) → has_key v.held.keys v.held.texts (last_tags v.held.features o.features) key ≡ amongKeys key (map key_of f.tags))
  asks_given = let (f, p, A, B) = there v d S o s in (f, p, λ key. tags_there f A B key)

-- ---- a whole feature: the keys that its words give
keys_given : (bytes ws : List ℕ) → tags_ok (length bytes) ws ≡ true → (key : List ℕ) → key_given bytes ws key ≡ amongKeys key (map key_of (tags_given bytes ws))
keys_given bytes [] e key = refl
keys_given bytes (a ∷ []) e key = refl
keys_given bytes (a ∷ b ∷ []) e key = refl
keys_given bytes (a ∷ b ∷ c ∷ []) e key = refl
keys_given bytes (a ∷ b ∷ c ∷ d ∷ []) e key = refl
keys_given bytes (start ∷ len ∷ kind ∷ low ∷ high ∷ ws) e key =
    let p = cond_both (tag_ok (length bytes) start len kind low high) (tags_ok (length bytes) ws) e in
    let h = leb-true (start + len) (length bytes) (both (inside (length bytes) start len) (value_ok (length bytes) kind low high) p.0).0 in
    rw (text_found bytes start len (text_of bytes start len) (record { within = h; there = refl }) key, keys_given bytes ws p.1 key)

once_given : (bytes ws : List ℕ) → tags_ok (length bytes) ws ≡ true → keys_once bytes ws ≡ true → none_twice (map key_of (tags_given bytes ws)) ≡ true
once_given bytes [] e k = refl
once_given bytes (a ∷ []) e k = refl
once_given bytes (a ∷ b ∷ []) e k = refl
once_given bytes (a ∷ b ∷ c ∷ []) e k = refl
once_given bytes (a ∷ b ∷ c ∷ d ∷ []) e k = refl
once_given bytes (start ∷ len ∷ kind ∷ low ∷ high ∷ ws) e k =
    let own = text_of bytes start len in
    let p = cond_both (tag_ok (length bytes) start len kind low high) (tags_ok (length bytes) ws) e in
    let q = cond_both (not (key_given bytes ws own)) (keys_once bytes ws) k in
    let g : amongKeys own (map key_of (tags_given bytes ws)) ≡ false = sym (keys_given bytes ws p.1 own) ∙ not-true (key_given bytes ws own) q.0 in
    rw g (once_given bytes ws p.1 q.1)

-- ---- every call keeps it
pub record OnceIn (s : Layer) (m : Memory) (d : Drawing) : Type 0 where
  pub stands : StandsIn s m d
  pub strict : s.strict ≡ true
  pub once : AllOnce d

-- what stands then, with the choice kept
keeps_once : (s : Layer) (m : Memory) (e : Drawing) (x : Change) → s.strict ≡ true → Keeps StandsIn s m e x → Chose s.strict x → AllOnce e → Keeps OnceIn s m e x
keeps_once s m e (refuses r) q K c A = tt
keeps_once s m e (holds t h) q K c A = record { stands = K; strict = c ∙ q; once = A }

module _ (s : Layer) (m : Memory) (d : Drawing) (I : OnceIn s m d) where
  marked_once : (n : ℕ) (f : Option Feature) → Every FeatureOnce (completed f) → Every FeatureOnce (completed (on_open (identified n) f))
  marked_once n none a = tt
  marked_once n (some f) a = a

  -- a tag that was not refused as AGAIN has a key of its own
  module _ (key : List ℕ) (c : Content) (o : Figures) (f : s.feature ≡ Some o) (a : takes_key s.strict (seen s m).held o.features (tag_of key c).key ≡ true) where
    not_there : has_key (seen s m).held.keys (seen s m).held.texts (last_tags (seen s m).held.features o.features) key ≡ false
    not_there =
        let k : (tag_of key c).key ≡ key = ap (λ (t : Stored). t.key) (tag_parts key c) in
        not-true (has_key (seen s m).held.keys (seen s m).held.texts (last_tags (seen s m).held.features o.features) key) (rw (I.strict, k) at a)

    tagged_once : Every FeatureOnce (completed (on_open (tagged (record { key = key; value = c })) d.pending))
    tagged_once =
        let (g, p, k) = asks_given (seen s m) d I.stands o f in
        let n : amongKeys key (map key_of g.tags) ≡ false = sym (k key) ∙ not_there in
        let w = I.once.started in
        rw p (by g (rw p at w) n)
      where
        by : (g : Feature) → Every FeatureOnce (g ∷ []) → amongKeys key (map key_of g.tags) ≡ false → Every FeatureOnce (tagged (record { key = key; value = c }) g ∷ [])
        by g e n = (rw (map-append key_of g.tags (record { key = key; value = c } ∷ [])) (none_twice_more key (map key_of g.tags) e.0 n), tt)

  call_once : (c : Call) → FineCall c → Keeps OnceIn s m (after c d) (asks c (seen s m))
  call_once (opens kind words) g =
      keeps_once s m _ (asks (opens kind words) (seen s m)) I.strict (stands_on (calls (opens kind words)) g s m d I.stands) (opened_chose (seen s m) kind words)
      (record { complete = I.once.complete; started = (refl, tt) })
  call_once (identifies n) g =
      keeps_once s m _ (asks (identifies n) (seen s m)) I.strict (stands_on (calls (identifies n)) g s m d I.stands) (marked_chose (seen s m) (n % 4294967296) (n / 4294967296))
      (record { complete = I.once.complete; started = marked_once n d.pending I.once.started })
  call_once (tags key c) g =
      by_tag (λ (x : Change). Keeps StandsIn s m (after (tags key c) d) x → Keeps OnceIn s m (after (tags key c) d) x) (tag_of key c) (seen s m) (λ q n K. tt)
      (λ e u o f a h K. record { stands = K; strict = I.strict; once = record { complete = I.once.complete; started = tagged_once key c o f a } })
      (stands_on (calls (tags key c)) g s m d I.stands)
  call_once closes g =
      keeps_once s m _ (asks closes (seen s m)) I.strict (stands_on (calls closes) g s m d I.stands) (closed_chose (seen s m))
      (record { complete = every_behind FeatureOnce d.features (completed d.pending) I.once.complete I.once.started; started = tt })
  call_once abandons g =
      keeps_once s m _ (asks abandons (seen s m)) I.strict (stands_on (calls abandons) g s m d I.stands) (abandoned_chose (seen s m))
      (record { complete = I.once.complete; started = tt })

  whole_once : (f : Head) (words ws bytes : List ℕ) → Words ws → Keeps OnceIn s m (added (feature_given f words ws bytes) d) (add_feature f words ws bytes (seen s m))
  whole_once f words ws bytes g =
      let e = added (feature_given f words ws bytes) d in
      by_feature (λ (x : Change). Keeps StandsIn s m e x → Chose s.strict x → Keeps OnceIn s m e x) f words ws bytes (seen s m) (λ q K c. tt)
      (λ l k v u i a h K c.
      record {
        stands = K;
        strict = c ∙ I.strict;
        once = record {
          complete = every_behind FeatureOnce d.features (feature_given f words ws bytes ∷ []) I.once.complete (once_given bytes ws l (rw I.strict at a), tt);
          started = tt;
        };
      })
      (stands_on (whole f words ws bytes) g s m d I.stands)
      (feature_chose (seen s m) f words ws bytes)

made_once : (c : Made) → FineMade c → (s : Layer) (m : Memory) (d : Drawing) → OnceIn s m d → Keeps OnceIn s m (gives c d) (asked c (seen s m))
made_once (calls c) g s m d I = call_once s m d I c g
made_once (whole f words ws bytes) g s m d I = whole_once s m d I f words ws bytes g

-- ---- a layer that was created strict, and any run of calls on it
pub keys_once_lem : (p : Plan) → Sound p → p.strict ≡ true → AllOnce (page_of p).drawing
keys_once_lem p s q =
    (run_keeps OnceIn made_once p.calls s.fine (begun p) (record { stands = begun_stands p s.creates; strict = q; once = record { complete = tt; started = tt } })).once

-- and so of every layer of a tile of such layers
abbrev pub AllStrict : List Plan → Type 0
AllStrict ps = Every (λ (p : Plan). p.strict ≡ true) ps

all_once : (ps : List Plan) → AllSound ps → AllStrict ps → Every (λ (p : Plan). AllOnce (page_of p).drawing) ps
all_once [] s q = tt
all_once (p ∷ ps) s q = (keys_once_lem p s.0 q.0, all_once ps s.1 q.1)

pub tile_once : (ps : List Plan) → AllSound ps → AllStrict ps → (a : At) → Every AllOnce (drawings (map page_of ps) a)
tile_once ps s q a = tile_every AllOnce ps (all_once ps s q) a

-- ---- the indices that go out
place_apart : (a b : List ℕ) (keys : List (List ℕ)) → among same_bytes a keys ≡ true → among same_bytes b keys ≡ true → place_of same_bytes a keys ≡ place_of same_bytes b keys → a ≡ b
place_apart a b [] p q e = never p
place_apart a b (y ∷ ys) p q e = by (same_bytes y a) (same_bytes y b) refl refl p q e (λ h k f. place_apart a b ys h k f)
  where
    by : (s t : Bool) → same_bytes y a ≡ s → same_bytes y b ≡ t → cond s true (among same_bytes a ys) ≡ true → cond t true (among same_bytes b ys) ≡ true → cond s 0 (suc (place_of same_bytes a ys)) ≡ cond t 0 (suc (place_of same_bytes b ys)) → (among same_bytes a ys ≡ true → among same_bytes b ys ≡ true → place_of same_bytes a ys ≡ place_of same_bytes b ys → a ≡ b) → a ≡ b
    by true true x z h k f go = sym (bytes_equal y a x) ∙ bytes_equal y b z
    by true false x z h k f go = absurd (omega arith)
    by false true x z h k f go = absurd (omega arith)
    by false false x z h k f go = go h k (omega arith)

index_same : (a b : List ℕ) (keys : List (List ℕ)) → among same_bytes a keys ≡ true → among same_bytes b keys ≡ true → eqb (place_of same_bytes a keys) (place_of same_bytes b keys) ≡ same_bytes a b
index_same a b keys p q =
    same (eqb (place_of same_bytes a keys) (place_of same_bytes b keys)) (same_bytes a b)
    (λ e. let z : a ≡ b = place_apart a b keys p q (eqb-true (place_of same_bytes a keys) (place_of same_bytes b keys) e) in rw z (bytes_same b))
    (λ e. eq-eqb (place_of same_bytes a keys) (place_of same_bytes b keys) (ap (λ (x : List ℕ). place_of same_bytes x keys) (bytes_equal a b e)))

module _ (keys : List (List ℕ)) (values : List Content) where
  index_among : (a : List ℕ) → among same_bytes a keys ≡ true → (ts : List Tag) → Met keys values ts → is_among (place_of same_bytes a keys) (key_indices keys ts) ≡ amongKeys a (map key_of ts)
  index_among a p [] M = refl
  index_among a p (t ∷ ts) M = rw (index_same t.key a keys M.0 p, index_among a p ts M.2)

  tags_apart : (ts : List Tag) → Met keys values ts → none_twice (map key_of ts) ≡ true → each_once (key_indices keys ts) ≡ true
  tags_apart [] M e = refl
  tags_apart (t ∷ ts) M e = rw (index_among t.key M.0 ts M.2) (by (amongKeys t.key (map key_of ts)) e (tags_apart ts M.2))
    where
      by : (b : Bool) → cond b false (none_twice (map key_of ts)) ≡ true → (none_twice (map key_of ts) ≡ true → each_once (key_indices keys ts) ≡ true) → cond b false (each_once (key_indices keys ts)) ≡ true
      by true h go = never h
      by false h go = go h

  features_apart : (fs : List Feature) → Met keys values (all_tags fs) → Every FeatureOnce fs → Every (IndexOnce keys) fs
  features_apart [] M E = tt
  features_apart (f ∷ fs) M E =
      (tags_apart f.tags (met_left keys values f.tags (all_tags fs) M) E.0, features_apart fs (met_right keys values f.tags (all_tags fs) M) E.1)

-- MVT's sentence: of a layer that was created strict, no feature that goes out has a key index twice
pub indices_once : (d : Drawing) → AllOnce d → Every (IndexOnce (keys_of d.features)) d.features
indices_once d A = features_apart (keys_of d.features) (values_of d.features) d.features (all_met [] [] (all_tags d.features)) A.complete
