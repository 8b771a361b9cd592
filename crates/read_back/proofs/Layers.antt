-- A layer's message has a piece for its name, for each feature, each key and each value, for its extent and its version; by these it reads back as it was
-- given.
use Prim.Native.Nat.{ℕ, ◌%◌, ◌≤◌, ◌<◌}
use mathlib.Core.Path.{◌≡◌, refl, ap, ◌∙◌}
use mathlib.Core.Bool.{Bool, true, false, cond}
use mathlib.Core.List.{List, [], ◌∷◌, ◌++◌, map, append-nil, map-id}
use mathlib.Core.Option.{Option}
use native.Mathlib.Omega.{arith}
use lib.ListN.{length, length-append}
use Rattle.wire.specs.declared.field.Field.{Field}
use Rattle.wire.specs.declared.field.Field.TheVariants.{LayerName, LayerFeature, LayerKey, LayerValue, LayerExtent, LayerVersion}
use Rattle.wire.specs.Schema.{key_of}
use Rattle.wire.specs.Fields.{varint_field, delimited}
use Rattle.messages.specs.declared.key.Kind.TheVariants.{Layer as layer, Feature as feature, Value as value}
use Rattle.messages.specs.declared.field.FieldAt.{FieldAt}
use Rattle.messages.specs.Keys.{follows}
use Rattle.messages.specs.Tiles.{nested}
use Rattle.messages.specs.Meaning.{last_of, each_of, low32, number_or, body_of, text_or, value_of, feature_of, layer_says, layer_of}
use Rattle.messages.proofs.Written.{All, all_append, all_both, all_map, Piece, number, body, written, written_all, written_append, number_written, body_written}
use Rattle.messages.proofs.Written.{pieces_count, pieces_short, Placed, AllPlaced, Good, any_body, message_body, body_there, is_message_lem, within_read}
use Rattle.messages.proofs.Chosen.{each_piece, each_append, each_own, each_other, last_placed, each_says}
use Rattle.given.specs.Given.{Content, Tag, Feature as FeatureGiven, Drawing, same, among, joined, first_used, all_tags, content_of, keys_of, values_of}
use Rattle.given.specs.Messages.{each, value_message, feature_message, feature_field, key_field, value_field, layer_message}
use Rattle.given.specs.Texts.{Every}
use Rattle.read_back.specs.Layers.{value_given, feature_given, layer_given}
use Rattle.read_back.specs.Sizes.{SizedContent, SizedTag, SizedFeature, Sized}
use Rattle.read_back.proofs.Values.{value_holds, value_read_lem}
use Rattle.read_back.proofs.Features.{feature_holds, feature_read}

-- ---- the values of sized features are sized
pub every_all : {A : Type 0} (Q : A → Type 0) (xs : List A) → Every Q xs → All Q xs
every_all Q [] a = tt
every_all Q (x ∷ xs) a = (a.0, every_all Q xs a.1)

first_all : {A : Type 0} (alike : A → A → Bool) (Q : A → Type 0) (met xs : List A) → All Q met → All Q xs → All Q (first_used alike met xs)
first_all alike Q met [] a b = a
first_all alike Q met (x ∷ xs) a b =
    first_all alike Q (joined alike met x) xs (all_append Q met (cond (among alike x met) [] (x ∷ [])) a (by (among alike x met))) b.1
  where
    by : (t : Bool) → All Q (cond t [] (x ∷ []))
    by true = tt
    by false = (b.0, tt)

tags_sized : (ts us : List Tag) → Every SizedTag ts → All SizedContent (map content_of us) → All SizedContent (map content_of (ts ++ us))
tags_sized [] us a b = b
tags_sized (t ∷ ts) us a b = (a.0, tags_sized ts us a.1 b)

contents_sized : (fs : List FeatureGiven) → Every SizedFeature fs → All SizedContent (map content_of (all_tags fs))
contents_sized [] a = tt
contents_sized (f ∷ fs) a = tags_sized f.tags (all_tags fs) a.0.in_tags (contents_sized fs a.1)

pub values_sized : (fs : List FeatureGiven) → Every SizedFeature fs → All SizedContent (values_of fs)
values_sized fs a = first_all same SizedContent [] (map content_of (all_tags fs)) tt (contents_sized fs a)

-- ---- its pieces
abbrev key_body : List ℕ → Piece
key_body key = body LayerKey key

abbrev value_body : Content → Piece
value_body c = body LayerValue (value_message c)

pub each_written : {A : Type 0} (field : A → List ℕ) (g : A → Piece) → ((x : A) → field x ≡ written (g x)) → (xs : List A)
    → each field xs ≡ written_all (map g xs)
each_written field g e [] = refl
each_written field g e (x ∷ xs) = rw (e x, each_written field g e xs)

module _ (name : List ℕ) (extent : ℕ) (fs : List FeatureGiven) (keys : List (List ℕ)) (values : List Content) where
  abbrev feature_body : FeatureGiven → Piece
  feature_body f = body LayerFeature (feature_message keys values f)

  abbrev ends : List Piece
  ends = number LayerExtent extent ∷ number LayerVersion 2 ∷ []

  abbrev layer_pieces : List Piece
  layer_pieces = body LayerName name ∷ (map feature_body fs ++ (map key_body keys ++ (map value_body values ++ ends)))

  -- what they are written as, and of each key which they are
  layer_written : delimited LayerName name
      ++ (each (feature_field keys values) fs
      ++ (each key_field keys ++ (each value_field values ++ (varint_field LayerExtent extent ++ varint_field LayerVersion 2)))) ≡ written_all layer_pieces
  layer_written =
      rw (
        body_written LayerName name,
        each_written (feature_field keys values) feature_body (λ f. body_written LayerFeature (feature_message keys values f)) fs,
        each_written key_field key_body (λ k. body_written LayerKey k) keys,
        each_written value_field value_body (λ c. body_written LayerValue (value_message c)) values,
        number_written LayerExtent extent,
        number_written LayerVersion 2,
        written_append (map feature_body fs) (map key_body keys ++ (map value_body values ++ ends)),
        written_append (map key_body keys) (map value_body values ++ ends),
        written_append (map value_body values) ends,
        append-nil,
      )

  parted : (key : ℕ)
      → each_piece key layer_pieces
      ≡ each_piece key (body LayerName name ∷ []) ++
      (each_piece key (map feature_body fs) ++ (each_piece key (map key_body keys) ++ (each_piece key (map value_body values) ++ each_piece key ends)))
  parted key =
      each_append key (body LayerName name ∷ []) (map feature_body fs ++ (map key_body keys ++ (map value_body values ++ ends)))
      ∙ rw (
        each_append key (map feature_body fs) (map key_body keys ++ (map value_body values ++ ends)),
        each_append key (map key_body keys) (map value_body values ++ ends),
        each_append key (map value_body values) ends,
      )

  -- ---- each is no longer than the layer, and there are not more keys and values than bytes
  module _ (h : length (written_all layer_pieces) ≤ 4294967295) where
    record Short : Type 0 where
      name_short : length name ≤ 4294967295
      features_short : length (written_all (map feature_body fs)) ≤ 4294967295
      keys_short : length (written_all (map key_body keys)) ≤ 4294967295
      values_short : length (written_all (map value_body values)) ≤ 4294967295

    short : Short
    short =
        let rest = map feature_body fs ++ (map key_body keys ++ (map value_body values ++ ends)) in
        let a = length-append (written (body LayerName name)) (written_all rest) in
        let b = length-append (varint_field LayerName (length name)) name in
        let c =
        ap length (written_append (map feature_body fs) (map key_body keys ++ (map value_body values ++ ends)))
        ∙ length-append (written_all (map feature_body fs)) (written_all (map key_body keys ++ (map value_body values ++ ends))) in
        let d =
        ap length (written_append (map key_body keys) (map value_body values ++ ends))
        ∙ length-append (written_all (map key_body keys)) (written_all (map value_body values ++ ends)) in
        let e = ap length (written_append (map value_body values) ends) ∙ length-append (written_all (map value_body values)) (written_all ends) in
        record {
          name_short = omega (arith, a, b);
          features_short = omega (arith, a, c);
          keys_short = omega (arith, a, c, d);
          values_short = omega (arith, a, c, d, e);
        }

    few : length keys ≤ 4294967295
    few = omega (arith, pieces_count key_body keys, short.keys_short)

    less : length values ≤ 4294967295
    less = omega (arith, pieces_count value_body values, short.values_short)

    abbrev FitFeature : FeatureGiven → Type 0
    FitFeature f = SizedFeature f × (length (feature_message keys values f) ≤ 4294967295)

    abbrev FitContent : Content → Type 0
    FitContent c = SizedContent c × (length (value_message c) ≤ 4294967295)

    module _ (x : extent < 4294967296) (s : All SizedFeature fs) (t : All SizedContent values) where
      features_fit : All FitFeature fs
      features_fit =
          all_both SizedFeature (λ (f : FeatureGiven). length (feature_message keys values f) ≤ 4294967295) fs s
          (pieces_short feature_body 4294967295 fs short.features_short)

      contents_fit : All FitContent values
      contents_fit =
          all_both SizedContent (λ (c : Content). length (value_message c) ≤ 4294967295) values t
          (pieces_short value_body 4294967295 values short.values_short)

      feature_body_lem : (f : FeatureGiven) → FitFeature f → Good (nested 1) layer (feature_body f)
      unfolding follows
      feature_body_lem f q =
          message_body (nested 1) layer LayerFeature (feature_message keys values f) (omega (arith, q.1)) feature refl
          (feature_holds keys values few less f q.0 q.1)

      value_body_lem : (c : Content) → FitContent c → Good (nested 1) layer (value_body c)
      unfolding follows
      value_body_lem c q = message_body (nested 1) layer LayerValue (value_message c) (omega (arith, q.1)) value refl (value_holds c q.0 q.1)

      layer_good : All (Good (nested 1) layer) layer_pieces
      unfolding follows
      layer_good =
          let G = Good (nested 1) layer in (
            any_body (nested 1) layer LayerName name (omega (arith, short.name_short)) refl,
            all_append G (map feature_body fs) (map key_body keys ++ (map value_body values ++ ends))
                (all_map FitFeature G feature_body (λ f q. feature_body_lem f q) fs features_fit)
                (all_append G (map key_body keys) (map value_body values ++ ends)
                (all_map (λ (k : List ℕ). length k ≤ 4294967295) G key_body (λ k q. any_body (nested 1) layer LayerKey k (omega (arith, q)) refl) keys
                (pieces_short key_body 4294967295 keys short.keys_short))
                (all_append G (map value_body values) ends (all_map FitContent G value_body (λ c q. value_body_lem c q) values contents_fit)
                ((refl, omega arith), ((refl, omega arith), tt)))),
          )

      -- ---- what they say
      module _ (src : List ℕ) (gs : List FieldAt) (a : AllPlaced src layer_pieces gs) where
        name_said : text_or src (last_of (key_of LayerName) gs) ≡ name
        name_said =
            let k = key_of LayerName in
            let e : each_piece k layer_pieces ≡ body LayerName name ∷ [] =
            parted k ∙ rw (each_other k feature_body (λ f. refl) fs, each_other k key_body (λ f. refl) keys, each_other k value_body (λ c. refl) values) in
            let (f, l, q) = last_placed src k layer_pieces gs a (body LayerName name) e in
            ap (text_or src) l ∙ body_there q

        number_said : (d n : ℕ) (field : Field) → each_piece (key_of field) layer_pieces ≡ number field n ∷ [] → n < 4294967296
            → low32 (number_or d (last_of (key_of field) gs)) ≡ n
        number_said d n field e g =
            let (f, l, q) = last_placed src (key_of field) layer_pieces gs a (number field n) e in
            let m : n % 4294967296 ≡ n = omega arith in
            ap (λ (y : Option FieldAt). low32 (number_or d y)) l ∙ ap low32 q.value_is_lem ∙ m

        version_said : low32 (number_or 1 (last_of (key_of LayerVersion) gs)) ≡ 2
        version_said =
            let k = key_of LayerVersion in
            number_said 1 2 LayerVersion
            (parted k ∙ rw (each_other k feature_body (λ f. refl) fs, each_other k key_body (λ f. refl) keys, each_other k value_body (λ c. refl) values))
            (omega arith)

        extent_said : low32 (number_or 4096 (last_of (key_of LayerExtent) gs)) ≡ extent
        extent_said =
            let k = key_of LayerExtent in
            number_said 4096 extent LayerExtent
            (parted k ∙ rw (each_other k feature_body (λ f. refl) fs, each_other k key_body (λ f. refl) keys, each_other k value_body (λ c. refl) values)) x

        keys_said : map (body_of src) (each_of (key_of LayerKey) gs) ≡ keys
        keys_said =
            let k = key_of LayerKey in
            each_says src (λ (b : List ℕ). length b ≤ 4294967295) key_body (λ (b : List ℕ). b) (body_of src) (λ b f g q. body_there q) keys
            (pieces_short key_body 4294967295 keys short.keys_short) k layer_pieces gs a
            (parted k
            ∙ rw (each_other k feature_body (λ f. refl) fs, each_own k key_body (λ f. refl) keys, each_other k value_body (λ c. refl) values, append-nil))
            ∙ map-id keys

        values_said : map (value_of src) (each_of (key_of LayerValue) gs) ≡ map value_given values
        values_said =
            let k = key_of LayerValue in
            each_says src FitContent value_body value_given (value_of src)
            (λ c f g q. value_read_lem src LayerValue c g.0 g.1 f q) values contents_fit k layer_pieces gs a
            (parted k
            ∙ rw (each_other k feature_body (λ f. refl) fs, each_other k key_body (λ f. refl) keys, each_own k value_body (λ c. refl) values, append-nil))

        features_said : map (feature_of src) (each_of (key_of LayerFeature) gs) ≡ map (feature_given keys values) fs
        features_said =
            let k = key_of LayerFeature in
            each_says src FitFeature feature_body (feature_given keys values) (feature_of src)
            (λ f y g q. feature_read keys values few less f g.0 g.1 src LayerFeature y q) fs features_fit k layer_pieces gs a
            (parted k
            ∙ rw (each_own k feature_body (λ f. refl) fs, each_other k key_body (λ f. refl) keys, each_other k value_body (λ c. refl) values, append-nil))

        layer_says_lem : layer_says src gs
            ≡ record { name = name; version = 2; extent = extent; keys = keys; values = map value_given values; features = map (feature_given keys values) fs }
        layer_says_lem = rw (name_said, version_said, extent_said, keys_said, values_said, features_said)

-- ---- a layer as it was given, in the body of a field
module _ (d : Drawing) (s : Sized d) (h : length (layer_message d) ≤ 4294967295) where
  abbrev own_pieces : List Piece
  own_pieces = layer_pieces d.name d.extent d.features (keys_of d.features) (values_of d.features)

  own_written : layer_message d ≡ written_all own_pieces
  unfolding layer_message
  own_written = layer_written d.name d.extent d.features (keys_of d.features) (values_of d.features)

  own_short : length (written_all own_pieces) ≤ 4294967295
  own_short = omega (arith, ap length own_written)

  own_good : All (Good (nested 1) layer) own_pieces
  own_good =
      layer_good d.name d.extent d.features (keys_of d.features) (values_of d.features) own_short s.in_extent
      (every_all SizedFeature d.features s.in_features) (values_sized d.features s.in_features)

  pub layer_holds : (front : List ℕ) → nested 2 layer (length front) (front ++ layer_message d) ≡ true
  unfolding nested
  layer_holds front = rw own_written (is_message_lem (nested 1) layer own_pieces own_good front)

  pub layer_read_lem : (src : List ℕ) (field : Field) (f : FieldAt) → Placed src (body field (layer_message d)) f → layer_of src f ≡ layer_given d
  unfolding layer_of
  layer_read_lem src field f q =
      let I = within_read (nested 1) layer own_pieces own_good q own_written in
      ap (layer_says src) I.read
      ∙ layer_says_lem d.name d.extent d.features (keys_of d.features) (values_of d.features) own_short s.in_extent
      (every_all SizedFeature d.features s.in_features) (values_sized d.features s.in_features) src I.fields I.placed
