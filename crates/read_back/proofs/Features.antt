-- A feature's message has a piece for its id where it has one, for its tags and its geometry where they are not empty, and for its kind; by these it reads
-- back as it was given.
use Prim.Native.Nat.{ℕ, suc, ◌+◌, ◌%◌, ◌≤◌, ◌<◌}
use mathlib.Core.Path.{◌≡◌, refl, sym, ap, subst, ◌∙◌}
use mathlib.Core.Bool.{Bool, true, false, cond}
use mathlib.Core.List.{List, [], ◌∷◌, ◌++◌, append-nil}
use mathlib.Core.Option.{Option, none, some}
use native.Mathlib.Omega.{arith}
use lib.Dec.{eqb}
use lib.ListN.{length, length-append}
use Rattle.wire.specs.declared.field.Field.{Field}
use Rattle.wire.specs.declared.field.Field.TheVariants.{FeatureId, FeatureTags, FeatureType, FeatureGeometry}
use Rattle.wire.specs.Schema.{key_of}
use Rattle.wire.specs.Fields.{varint_field, varints}
use Rattle.messages.specs.declared.key.Kind.{Kind}
use Rattle.messages.specs.declared.key.Kind.TheVariants.{Feature as feature}
use Rattle.messages.specs.declared.key.Body.TheVariants.{Varints as varintsIn}
use Rattle.messages.specs.declared.key.Follows.TheVariants.{ABody as aBody}
use Rattle.messages.specs.declared.field.FieldAt.{FieldAt}
use Rattle.messages.specs.Keys.{follows}
use Rattle.messages.specs.Tiles.{nested}
use Rattle.messages.specs.Meaning.{last_of, low32, number_or, id_of, single_key, words_of, feature_says, feature_of}
use Rattle.messages.proofs.Written.{All, all_append, Below32, Piece, number, body, written, written_all, written_append, number_written}
use Rattle.messages.proofs.Written.{Placed, AllPlaced, Good, numbers_body, is_message_lem, within_read}
use Rattle.messages.proofs.Chosen.{below_wide, packed_written, each_piece, each_append, last_placed, last_absent, packed_pieces, placed_parts, Other}
use Rattle.messages.proofs.Chosen.{words_other, words_own, words_append}
use Rattle.tile.specs.Holding.{same_bytes}
use Rattle.given.specs.Given.{Content, Tag, Feature as FeatureGiven, same, place_of}
use Rattle.given.specs.Asked.{Words}
use Rattle.given.specs.Messages.{tag_indices, id_field, feature_message}
use Rattle.read_back.specs.Layers.{feature_given}
use Rattle.read_back.specs.Sizes.{SizedId, SizedFeature}

abbrev pub id_pieces : Option ℕ → List Piece
id_pieces none = []
id_pieces (some n) = number FeatureId n ∷ []

abbrev pub feature_pieces : Option ℕ → List ℕ → ℕ → List ℕ → List Piece
feature_pieces id tags kind geometry = id_pieces id ++ (packed_pieces FeatureTags tags ++ (number FeatureType kind ∷ packed_pieces FeatureGeometry geometry))

id_written : (id : Option ℕ) → id_field id ≡ written_all (id_pieces id)
id_written none = refl
id_written (some n) = number_written FeatureId n ∙ sym (append-nil (written (number FeatureId n)))

pub feature_written : (keys : List (List ℕ)) (values : List Content) (f : FeatureGiven)
    → feature_message keys values f ≡ written_all (feature_pieces f.id (tag_indices keys values f.tags) f.kind f.geometry)
unfolding feature_message
feature_written keys values f =
    let tags = tag_indices keys values f.tags in
    rw (
      id_written f.id,
      packed_written FeatureTags tags,
      number_written FeatureType f.kind,
      packed_written FeatureGeometry f.geometry,
      written_append (id_pieces f.id) (packed_pieces FeatureTags tags ++ (number FeatureType f.kind ∷ packed_pieces FeatureGeometry f.geometry)),
      written_append (packed_pieces FeatureTags tags) (number FeatureType f.kind ∷ packed_pieces FeatureGeometry f.geometry),
    )

-- ---- each is known to MVT, its numbers fit and its lists are varints
pub packed_good : (P : Kind → ℕ → List ℕ → Bool) (kind : Kind) (field : Field) → follows kind (key_of field) ≡ aBody varintsIn → (ws : List ℕ) → All Below32 ws
    → length (written_all (packed_pieces field ws)) < 18446744073709551616 → All (Good P kind) (packed_pieces field ws)
packed_good P kind field e [] g h = tt
packed_good P kind field e (w ∷ ws) g h =
    let b = varints (w ∷ ws) in
    let l : length b < 18446744073709551616 = omega (arith, length-append (written (body field b)) [], length-append (varint_field field (length b)) b) in
    (numbers_body P kind field b l e (w ∷ ws) (below_wide (w ∷ ws) g) refl, tt)

id_good : (id : Option ℕ) → SizedId id → All (Good (nested 0) feature) (id_pieces id)
unfolding follows
id_good none s = tt
id_good (some n) s = ((refl, s), tt)

-- pieces with another key
packed_other : (field : Field) (key : ℕ) → eqb (key_of field) key ≡ false → (ws : List ℕ) → each_piece key (packed_pieces field ws) ≡ []
packed_other field key e [] = refl
packed_other field key e (w ∷ ws) = rw e

id_other : (key : ℕ) → eqb (key_of FeatureId) key ≡ false → (id : Option ℕ) → each_piece key (id_pieces id) ≡ []
id_other key e none = refl
id_other key e (some n) = rw e

module _ (own : Field) (src : List ℕ) where
  id_apart : eqb (key_of FeatureId) (key_of own) ≡ false → eqb (key_of FeatureId) (single_key own) ≡ false → (id : Option ℕ) → All (Other own src) (id_pieces id)
  id_apart d e none = tt
  id_apart d e (some n) = ((d, e), tt)

  packed_apart : (field : Field) → eqb (key_of field) (key_of own) ≡ false → eqb (key_of field) (single_key own) ≡ false → (ws : List ℕ)
      → All (Other own src) (packed_pieces field ws)
  packed_apart field d e [] = tt
  packed_apart field d e (w ∷ ws) = ((d, e), tt)

  four_parts : (f1 f2 f3 f4 : List FieldAt)
      → words_of own src (f1 ++ (f2 ++ (f3 ++ f4))) ≡ words_of own src f1 ++ (words_of own src f2 ++ (words_of own src f3 ++ words_of own src f4))
  four_parts f1 f2 f3 f4 = rw (words_append own src f1 (f2 ++ (f3 ++ f4)), words_append own src f2 (f3 ++ f4), words_append own src f3 f4)

module _ (id : Option ℕ) (tags : List ℕ) (kind : ℕ) (geometry : List ℕ) (i : SizedId id) (t : All Below32 tags) (k : kind < 4294967296)
    (g : All Below32 geometry) where
  pub feature_good : length (written_all (feature_pieces id tags kind geometry)) ≤ 4294967295
      → All (Good (nested 0) feature) (feature_pieces id tags kind geometry)
  unfolding follows
  feature_good h =
      let a = id_pieces id in
      let b = packed_pieces FeatureTags tags in
      let c = number FeatureType kind in
      let d = packed_pieces FeatureGeometry geometry in
      let l : length (written_all b) + length (written_all d) ≤ 4294967295 =
      omega (
        arith,
        ap length (written_append a (b ++ (c ∷ d))),
        ap length (written_append b (c ∷ d)),
        length-append (written_all a) (written_all (b ++ (c ∷ d))),
        length-append (written_all b) (written_all (c ∷ d)),
        length-append (written c) (written_all d),
      ) in
      all_append (Good (nested 0) feature) a (b ++ (c ∷ d)) (id_good id i)
      (all_append (Good (nested 0) feature) b (c ∷ d) (packed_good (nested 0) feature FeatureTags refl tags t (omega arith))
      ((refl, omega arith), packed_good (nested 0) feature FeatureGeometry refl geometry g (omega arith)))

  -- ---- what it says
  module _ (src : List ℕ) (fs : List FieldAt) (a : AllPlaced src (feature_pieces id tags kind geometry) fs) where
    parted : (key : ℕ)
        → each_piece key (feature_pieces id tags kind geometry)
        ≡ each_piece key (id_pieces id) ++
        (each_piece key (packed_pieces FeatureTags tags) ++ each_piece key (number FeatureType kind ∷ packed_pieces FeatureGeometry geometry))
    parted key =
        each_append key (id_pieces id) (packed_pieces FeatureTags tags ++ (number FeatureType kind ∷ packed_pieces FeatureGeometry geometry))
        ∙ ap (λ (l : List Piece). each_piece key (id_pieces id) ++ l)
        (each_append key (packed_pieces FeatureTags tags) (number FeatureType kind ∷ packed_pieces FeatureGeometry geometry))

    id_said : id_of (last_of (key_of FeatureId) fs) ≡ id
    id_said =
        by id
        (parted (key_of FeatureId)
        ∙ rw (packed_other FeatureTags (key_of FeatureId) refl tags, packed_other FeatureGeometry (key_of FeatureId) refl geometry, append-nil))
      where
        by : (x : Option ℕ) → each_piece (key_of FeatureId) (feature_pieces id tags kind geometry) ≡ each_piece (key_of FeatureId) (id_pieces x)
            → id_of (last_of (key_of FeatureId) fs) ≡ x
        by none e = ap id_of (last_absent src (key_of FeatureId) (feature_pieces id tags kind geometry) fs a e)
        by (some n) e =
            let (f, l, q) = last_placed src (key_of FeatureId) (feature_pieces id tags kind geometry) fs a (number FeatureId n) e in
            ap id_of l ∙ ap (λ (m : ℕ). some m) q.value_is_lem

    kind_said : low32 (number_or 0 (last_of (key_of FeatureType) fs)) ≡ kind
    kind_said =
        let e : each_piece (key_of FeatureType) (feature_pieces id tags kind geometry) ≡ number FeatureType kind ∷ [] =
        parted (key_of FeatureType)
        ∙ rw (
          id_other (key_of FeatureType) refl id,
          packed_other FeatureTags (key_of FeatureType) refl tags,
          packed_other FeatureGeometry (key_of FeatureType) refl geometry,
        ) in
        let (f, l, q) = last_placed src (key_of FeatureType) (feature_pieces id tags kind geometry) fs a (number FeatureType kind) e in
        let n : kind % 4294967296 ≡ kind = omega arith in
        ap (λ (x : Option FieldAt). low32 (number_or 0 x)) l ∙ ap low32 q.value_is_lem ∙ n

    -- the fields of the four parts
    abbrev TwoLists : List FieldAt → Type 0
    TwoLists l = (words_of FeatureTags src l ≡ tags) × (words_of FeatureGeometry src l ≡ geometry)

    words_by_lem : (f1 f2 f3 f4 : List FieldAt) → AllPlaced src (id_pieces id) f1 → AllPlaced src (packed_pieces FeatureTags tags) f2
        → AllPlaced src (number FeatureType kind ∷ []) f3 → AllPlaced src (packed_pieces FeatureGeometry geometry) f4 → TwoLists (f1 ++ (f2 ++ (f3 ++ f4)))
    words_by_lem f1 f2 f3 f4 p1 p2 p3 p4 = (
      four_parts FeatureTags src f1 f2 f3 f4 ∙ rw (
        words_other FeatureTags src (id_pieces id) f1 p1 (id_apart FeatureTags src refl refl id),
        words_own FeatureTags src tags t f2 p2,
        words_other FeatureTags src (number FeatureType kind ∷ []) f3 p3 ((refl, refl), tt),
        words_other FeatureTags src (packed_pieces FeatureGeometry geometry) f4 p4 (packed_apart FeatureTags src FeatureGeometry refl refl geometry),
        append-nil,
      ),
      four_parts FeatureGeometry src f1 f2 f3 f4 ∙ rw (
        words_other FeatureGeometry src (id_pieces id) f1 p1 (id_apart FeatureGeometry src refl refl id),
        words_other FeatureGeometry src (packed_pieces FeatureTags tags) f2 p2 (packed_apart FeatureGeometry src FeatureTags refl refl tags),
        words_other FeatureGeometry src (number FeatureType kind ∷ []) f3 p3 ((refl, refl), tt),
        words_own FeatureGeometry src geometry g f4 p4,
      ),
    )

    words_said : TwoLists fs
    words_said =
        let (f1, m1, e1, p1, q1) =
        placed_parts src (id_pieces id) (packed_pieces FeatureTags tags ++ (number FeatureType kind ∷ packed_pieces FeatureGeometry geometry)) fs a in
        let (f2, m2, e2, p2, q2) = placed_parts src (packed_pieces FeatureTags tags) (number FeatureType kind ∷ packed_pieces FeatureGeometry geometry) m1 q1 in
        let (f3, f4, e3, p3, p4) = placed_parts src (number FeatureType kind ∷ []) (packed_pieces FeatureGeometry geometry) m2 q2 in
        subst TwoLists (sym (e1 ∙ ap (λ (l : List FieldAt). f1 ++ l) (e2 ∙ ap (λ (l : List FieldAt). f2 ++ l) e3))) (words_by_lem f1 f2 f3 f4 p1 p2 p3 p4)

    pub feature_says_lem : feature_says src fs ≡ record { id = id; kind = kind; tags = tags; geometry = geometry }
    feature_says_lem = rw (id_said, kind_said, words_said.0, words_said.1)

-- ---- a feature as it was given, in the body of a field
place_within : {A : Type 0} (alike : A → A → Bool) (x : A) (xs : List A) → place_of alike x xs ≤ length xs
place_within alike x [] = omega arith
place_within alike x (y ∷ xs) = by (alike y x) (place_within alike x xs)
  where
    by : (b : Bool) → place_of alike x xs ≤ length xs → cond b 0 (suc (place_of alike x xs)) ≤ suc (length xs)
    by true h = omega arith
    by false h = omega arith

words_below : (ws : List ℕ) → Words ws → All Below32 ws
words_below [] g = tt
words_below (w ∷ ws) g = (g.0, words_below ws g.1)

module _ (keys : List (List ℕ)) (values : List Content) (few : length keys ≤ 4294967295) (less : length values ≤ 4294967295) where
  indices_below : (ts : List Tag) → All Below32 (tag_indices keys values ts)
  indices_below [] = tt
  indices_below (t ∷ ts) = (omega (arith, place_within same_bytes t.key keys), (omega (arith, place_within same t.value values), indices_below ts))

  module _ (f : FeatureGiven) (s : SizedFeature f) (h : length (feature_message keys values f) ≤ 4294967295) where
    own_good : All (Good (nested 0) feature) (feature_pieces f.id (tag_indices keys values f.tags) f.kind f.geometry)
    own_good =
        feature_good f.id (tag_indices keys values f.tags) f.kind f.geometry s.in_id (indices_below f.tags) s.in_kind
        (words_below f.geometry s.in_geometry)
        (omega (arith, ap length (feature_written keys values f)))

    pub feature_holds : (front : List ℕ) → nested 1 feature (length front) (front ++ feature_message keys values f) ≡ true
    unfolding nested
    feature_holds front =
        rw (feature_written keys values f)
        (is_message_lem (nested 0) feature (feature_pieces f.id (tag_indices keys values f.tags) f.kind f.geometry) own_good front)

    pub feature_read : (src : List ℕ) (field : Field) (x : FieldAt) → Placed src (body field (feature_message keys values f)) x
        → feature_of src x ≡ feature_given keys values f
    unfolding feature_of
    feature_read src field x q =
        let I =
        within_read (nested 0) feature (feature_pieces f.id (tag_indices keys values f.tags) f.kind f.geometry) own_good q
        (feature_written keys values f) in
        ap (feature_says src) I.read
        ∙ feature_says_lem f.id (tag_indices keys values f.tags) f.kind f.geometry s.in_id (indices_below f.tags) s.in_kind
        (words_below f.geometry s.in_geometry) src I.fields I.placed
