-- Whoever goes on from each answer's end is handed out every field with the key, in order, and then that there is none.
--     walk_each                                  of any message whose fields can be read
--     good_layers                                a good tile's layers can be read
--     walk_layers walk_keys walk_values          the calls on a good tile: none is refused (features: Featuring)
use Prim.Native.Nat.{ℕ, suc, ◌≤◌, ◌<◌}
use mathlib.Core.Path.{◌≡◌, refl, sym, ap, subst, ◌∙◌}
use mathlib.Core.Bool.{Bool, true, false, cond}
use mathlib.Core.List.{List, [], ◌∷◌}
use mathlib.Core.Option.{Option, none, some}
use native.Mathlib.Omega.{arith}
use borrow.Author.Tests.{ltb-true, ltb-false, eqb-true, le-leb}
use lib.Dec.{ltb, eqb}
use lib.ListN.{length, take}
use lib.Seq.{length-take-le, take-take}
use Rattle.std.specs.Prelude.{Some, None, Ok}
use Rattle.promise.proofs.Joined.{never, cond_both}
use Rattle.wire.specs.declared.field.Field.TheVariants.{TileLayer, LayerKey, LayerValue}
use Rattle.wire.specs.Schema.{key_of}
use Rattle.messages.specs.declared.key.Kind.{Kind}
use Rattle.messages.specs.declared.key.Kind.TheVariants.{Tile as tile, Layer as layer, Value as value}
use Rattle.messages.specs.declared.field.FieldAt.{FieldAt}
use Rattle.messages.specs.Fields.{NextField, field_at, before, and_then, fields_from}
use Rattle.messages.specs.declared.key.Body.TheVariants.{Within as within}
use Rattle.messages.specs.declared.key.Follows.{Follows}
use Rattle.messages.specs.declared.key.Follows.TheVariants.{ABody as aBody}
use Rattle.messages.specs.Keys.{follows}
use Rattle.messages.specs.Tiles.{Verdict, is_content, holds, all_hold, if_read, nested, is_good}
use Rattle.messages.specs.Meaning.{or_nothing, each_of, fields_of, kind_field, layer_fields}
use Rattle.messages.proofs.Fields.{fields_step, fields_end}
use Rattle.reader.specs.Finding.{Found, or_later, first_of}
use Rattle.reader.specs.Heads.{part_of, layer_head, value_head}
use Rattle.reader.specs.Answers.{layer_read, next_layer, next_key, value_read, next_value}
use Rattle.reader.proofs.Finding.{first_step, first_end, found_at}

-- a call at a place answers the first of these fields, at its end the second, and so on, and behind the last that there is none
abbrev pub Walk : {A : Type 0} → (ℕ → A) → A → (FieldAt → A) → ℕ → List FieldAt → Type 0
Walk call nothing one at [] = call at ≡ nothing
Walk call nothing one at (f ∷ fs) = (call at ≡ one f) × Walk call nothing one f.end fs

-- ---- the fields of a message from a place on: none where it ends, or one and those behind it
pub record Behind (kind : Kind) (at : ℕ) (src : List ℕ) (f : FieldAt) (fs : List FieldAt) : Type 0 where
  pub inside : at < length src
  pub here : field_at kind at src ≡ Some f
  pub rest : fields_from kind f.end src ≡ some fs

no_fields : {A : Type 0} {fs : List FieldAt} → none ≡ some fs → A
no_fields e = absurd (let z : ◌≡◌ {A = ℕ} 0 1 = cc in omega arith)

no_first : {A : Type 0} {f : FieldAt} {fs : List FieldAt} → some (f ∷ fs) ≡ some [] → A
no_first e = absurd (let z : ◌≡◌ {A = ℕ} 0 1 = cc in omega arith)

module _ (kind : Kind) (src : List ℕ) where
  abbrev from : FieldAt → Option (List FieldAt)
  from g = fields_from kind g.end src

  module _ (at : ℕ) where
    none_before : (g : FieldAt) (o : Option (List FieldAt)) → before g o ≡ some [] → ⊥
    none_before g none e = no_fields e
    none_before g (some gs) e = no_first e

    none_read : (r : NextField) → and_then r from ≡ some [] → ⊥
    none_read (Some g) e = none_before g (from g) e
    none_read None e = no_fields e

    over : fields_from kind at src ≡ some [] → length src ≤ at
    over e = by (ltb at (length src)) refl
      where
        by : (b : Bool) → ltb at (length src) ≡ b → length src ≤ at
        by true t = absurd (none_read (field_at kind at src) (sym (fields_step src kind at (ltb-true at (length src) t)) ∙ e))
        by false t = ltb-false at (length src) t

    module _ (f : FieldAt) (fs : List FieldAt) where
      one_before : at < length src → (g : FieldAt) → field_at kind at src ≡ Some g → (o : Option (List FieldAt)) → from g ≡ o → before g o ≡ some (f ∷ fs) → Behind kind at src f fs
      one_before h g e none m k = no_fields k
      one_before h g e (some gs) m k =
          let a : g ≡ f = cc in
          let b : gs ≡ fs = cc in
          record { inside = h; here = e ∙ ap Some a; rest = ap from (sym a) ∙ m ∙ ap some b }

      one_read : at < length src → (r : NextField) → field_at kind at src ≡ r → and_then r from ≡ some (f ∷ fs) → Behind kind at src f fs
      one_read h (Some g) e k = one_before h g e (from g) refl k
      one_read h None e k = no_fields k

      pub behind : fields_from kind at src ≡ some (f ∷ fs) → Behind kind at src f fs
      behind e = by (ltb at (length src)) refl
        where
          by : (b : Bool) → ltb at (length src) ≡ b → Behind kind at src f fs
          by true t = let h = ltb-true at (length src) t in one_read h (field_at kind at src) refl (sym (fields_step src kind at h) ∙ e)
          by false t = no_first (sym e ∙ fields_end src kind at (ltb-false at (length src) t))

  -- ---- the first with the key, and the others from its end on
  module _ (key : ℕ) where
    abbrev finds : ℕ → Found
    finds at = first_of kind key at src

    -- a field with another key is passed over
    same_walk : (at end : ℕ) → finds at ≡ finds end → (fs : List FieldAt) → Walk finds (Ok None) (λ g. Ok (Some g)) end fs → Walk finds (Ok None) (λ g. Ok (Some g)) at fs
    same_walk at end e [] w = e ∙ w
    same_walk at end e (f ∷ fs) w = (e ∙ w.0, w.1)

    walk_by : (at : ℕ) (f : FieldAt) (fs : List FieldAt) → finds at ≡ or_later key (Some f) (λ g. finds g.end) → Walk finds (Ok None) (λ g. Ok (Some g)) f.end (each_of key fs) →
        (b : Bool) → eqb f.key key ≡ b → Walk finds (Ok None) (λ g. Ok (Some g)) at (cond b (f ∷ each_of key fs) (each_of key fs))
    walk_by at f fs e w true t = (rw t at e, w)
    walk_by at f fs e w false t = same_walk at f.end (rw t at e) (each_of key fs) w

    pub walk_each : (at : ℕ) (fs : List FieldAt) → fields_from kind at src ≡ some fs → Walk finds (Ok None) (λ g. Ok (Some g)) at (each_of key fs)
    walk_each at [] e = first_end kind key src at (over at e)
    walk_each at (f ∷ fs) e =
        let b = behind at f fs e in
        walk_by at f fs (first_step kind key src at b.inside ∙ ap (λ (x : NextField). or_later key x (λ g. finds g.end)) b.here)
        (walk_each f.end fs b.rest) (eqb f.key key) refl

-- ---- messages that can be read
abbrev pub All : (FieldAt → Type 0) → List FieldAt → Type 0
All P [] = Unit {0}
All P (f ∷ fs) = P f × All P fs

-- so many deep: its fields, and that each body is what its field asks for
pub record Read (deep : ℕ) (kind : Kind) (at : ℕ) (src : List ℕ) : Type 0 where
  pub fields : List FieldAt
  pub read : fields_from kind at src ≡ some fields
  pub hold : all_hold (nested deep) kind src fields ≡ true

pub nested_read : (deep : ℕ) (kind : Kind) (at : ℕ) (src : List ℕ) → nested (suc deep) kind at src ≡ true → Read deep kind at src
unfolding nested
nested_read deep kind at src e = by (fields_from kind at src) refl e
  where
    by : (o : Option (List FieldAt)) → fields_from kind at src ≡ o → if_read (nested deep) kind src o ≡ true → Read deep kind at src
    by none r h = never h
    by (some fs) r h = record { fields = fs; read = r; hold = h }

module _ (deep : ℕ) (kind sub : Kind) (key : ℕ) (asks : follows kind key ≡ aBody (within sub)) (src : List ℕ) where
  abbrev IsGood : FieldAt → Type 0
  IsGood f = nested deep sub f.start (take f.end src) ≡ true

  hold_each : (fs : List FieldAt) → all_hold (nested deep) kind src fs ≡ true → All IsGood (each_of key fs)
  hold_each [] e = tt
  hold_each (f ∷ fs) e =
      let h = cond_both (holds (nested deep) kind src f) (all_hold (nested deep) kind src fs) e in
      by (eqb f.key key) refl h.0 (hold_each fs h.1)
    where
      by : (b : Bool) → eqb f.key key ≡ b → holds (nested deep) kind src f ≡ true → All IsGood (each_of key fs) → All IsGood (cond b (f ∷ each_of key fs) (each_of key fs))
      by true t h w =
          let asked : follows kind f.key ≡ aBody (within sub) = ap (follows kind) (eqb-true f.key key t) ∙ asks in
          (ap (λ (x : Follows). is_content (nested deep) x f.start (take f.end src)) (sym asked) ∙ h, w)
      by false t h w = w

-- ---- the bodies with a key, each inside the bytes and a message of its kind
pub record GoodBody (deep : ℕ) (sub : Kind) (src : List ℕ) (f : FieldAt) : Type 0 where
  pub ordered : f.start ≤ f.end
  pub inside : f.end ≤ length src
  pub good : nested deep sub f.start (take f.end src) ≡ true

module _ (kind : Kind) (key : ℕ) (src : List ℕ) where
  walk_inside : (deep : ℕ) (sub : Kind) (at : ℕ) (fs : List FieldAt) → Walk (finds kind src key) (Ok None) (λ g. Ok (Some g)) at fs →
      All (λ f. nested deep sub f.start (take f.end src) ≡ true) fs → All (GoodBody deep sub src) fs
  walk_inside deep sub at [] w g = tt
  walk_inside deep sub at (f ∷ fs) w g =
      let k = found_at kind key src w.0 in
      (record { ordered = k.ordered; inside = k.inside; good = g.0 }, walk_inside deep sub f.end fs w.1 g.1)

  pub good_bodies : (deep : ℕ) (sub : Kind) → follows kind key ≡ aBody (within sub) → (at : ℕ) (r : Read deep kind at src) → All (GoodBody deep sub src) (each_of key r.fields)
  good_bodies deep sub asks at r =
      walk_inside deep sub at (each_of key r.fields) (walk_each kind src key at r.fields r.read) (hold_each deep kind sub key asks src r.fields r.hold)

  -- a walk of a call that answers by what is found; P is known of each
  module _ {A : Type 0} (call : ℕ → A) (nothing : A) (one : FieldAt → A) (P : FieldAt → Type 0)
      (ends : (at : ℕ) → at ≤ length src → finds kind src key at ≡ Ok None → call at ≡ nothing)
      (goes : (at : ℕ) (f : FieldAt) → at ≤ length src → finds kind src key at ≡ Ok (Some f) → P f → call at ≡ one f) where
    pub walk_call : (at : ℕ) (fs : List FieldAt) → at ≤ length src → Walk (finds kind src key) (Ok None) (λ g. Ok (Some g)) at fs → All P fs → Walk call nothing one at fs
    walk_call at [] h w g = ends at h w
    walk_call at (f ∷ fs) h w g = (goes at f h w.0 g.0, walk_call f.end fs (found_at kind key src w.0).inside w.1 g.1)

-- ---- the layers of a good tile
layer_follows : follows tile (key_of TileLayer) ≡ aBody (within layer)
unfolding follows
layer_follows = refl

value_follows : follows layer (key_of LayerValue) ≡ aBody (within value)
unfolding follows
value_follows = refl

abbrev pub GoodLayer : List ℕ → FieldAt → Type 0
GoodLayer src f = GoodBody 2 layer src f

tile_read : (src : List ℕ) → is_good src ≡ true → Read 2 tile 0 src
unfolding is_good
tile_read src g = nested_read 2 tile 0 src g

pub fields_are : {fs : List FieldAt} (o : Option (List FieldAt)) → o ≡ some fs → fs ≡ or_nothing o
fields_are o e = ap or_nothing (sym e)

pub good_layers : (src : List ℕ) → is_good src ≡ true → All (GoodLayer src) (layer_fields src)
good_layers src g =
    let r = tile_read src g in
    subst (λ (fs : List FieldAt). All (GoodLayer src) (each_of (key_of TileLayer) fs)) (fields_are (fields_from tile 0 src) r.read) (good_bodies tile (key_of TileLayer) src 2 layer layer_follows 0 r)

module _ (v : Verdict) (src : List ℕ) where
  layer_is : (f : FieldAt) (o : Option (List FieldAt)) (fs : List FieldAt) → o ≡ some fs → layer_read v f o ≡ Ok (Some (layer_head f (or_nothing o)))
  layer_is f o fs e = rw e refl

  pub walk_layers : is_good src ≡ true → Walk (λ at. next_layer at src v) (Ok None) (λ f. Ok (Some (layer_head f (fields_of layer src f)))) 0 (layer_fields src)
  unfolding next_layer
  walk_layers g =
      let r = tile_read src g in
      walk_call tile (key_of TileLayer) src (λ at. next_layer at src v) (Ok None) (λ f. Ok (Some (layer_head f (fields_of layer src f)))) (GoodLayer src)
      (λ at h e. rw (le-leb at (length src) h, e) refl)
      (λ at f h e k.
      let m = nested_read 1 layer f.start (take f.end src) k.good in
      rw (le-leb at (length src) h, e) (layer_is f (fields_from layer f.start (take f.end src)) m.fields m.read))
      0 (layer_fields src) (omega arith)
      (subst (λ (fs : List FieldAt). Walk (finds tile src (key_of TileLayer)) (Ok None) (λ g. Ok (Some g)) 0 (each_of (key_of TileLayer) fs)) (fields_are (fields_from tile 0 src) r.read) (walk_each tile src (key_of TileLayer) 0 r.fields r.read))
      (good_layers src g)

  -- ---- the keys and values of a good layer
  module _ (f : FieldAt) (k : GoodLayer src f) where
    pub layer_read_lem : Read 1 layer f.start (take f.end src)
    layer_read_lem = nested_read 1 layer f.start (take f.end src) k.good

    pub long : length (take f.end src) ≡ f.end
    long = length-take-le f.end src k.inside

    -- every field with a key, as found from the layer's start on
    pub walk_found : (key : ℕ) → Walk (finds layer (take f.end src) key) (Ok None) (λ g. Ok (Some g)) f.start (each_of key (fields_of layer src f))
    walk_found key =
        subst (λ (fs : List FieldAt). Walk (finds layer (take f.end src) key) (Ok None) (λ g. Ok (Some g)) f.start (each_of key fs))
        (fields_are (fields_from layer f.start (take f.end src)) layer_read_lem.read)
        (walk_each layer (take f.end src) key f.start layer_read_lem.fields layer_read_lem.read)

    any : (fs : List FieldAt) → All (λ g. Unit {0}) fs
    any [] = tt
    any (g ∷ fs) = (tt, any fs)

    pub walk_keys : Walk (λ at. next_key at f.end src v) (Ok None) (λ g. Ok (Some (part_of g))) f.start (each_of (key_of LayerKey) (fields_of layer src f))
    unfolding next_key
    walk_keys =
        walk_call layer (key_of LayerKey) (take f.end src) (λ at. next_key at f.end src v) (Ok None) (λ g. Ok (Some (part_of g))) (λ g. Unit {0})
        (λ at h e. rw (le-leb at f.end (omega (arith, h, long)), le-leb f.end (length src) k.inside, e) refl)
        (λ at g h e u. rw (le-leb at f.end (omega (arith, h, long)), le-leb f.end (length src) k.inside, e) refl)
        f.start (each_of (key_of LayerKey) (fields_of layer src f)) (omega (arith, k.ordered, long)) (walk_found (key_of LayerKey)) (any (each_of (key_of LayerKey) (fields_of layer src f)))

    value_is_lem : (g : FieldAt) (o : Option (List FieldAt)) (fs : List FieldAt) → o ≡ some fs → value_read v g o ≡ Ok (Some (value_head g (kind_field (or_nothing o))))
    value_is_lem g o fs e = rw e refl

    good_values : All (GoodBody 1 value (take f.end src)) (each_of (key_of LayerValue) (fields_of layer src f))
    good_values =
        subst (λ (fs : List FieldAt). All (GoodBody 1 value (take f.end src)) (each_of (key_of LayerValue) fs))
        (fields_are (fields_from layer f.start (take f.end src)) layer_read_lem.read)
        (good_bodies layer (key_of LayerValue) (take f.end src) 1 value value_follows f.start layer_read_lem)

    pub walk_values : Walk (λ at. next_value at f.end src v) (Ok None) (λ g. Ok (Some (value_head g (kind_field (fields_of value src g))))) f.start (each_of (key_of LayerValue) (fields_of layer src f))
    unfolding next_value
    walk_values =
        walk_call layer (key_of LayerValue) (take f.end src) (λ at. next_value at f.end src v) (Ok None) (λ g. Ok (Some (value_head g (kind_field (fields_of value src g)))))
        (GoodBody 1 value (take f.end src))
        (λ at h e. rw (le-leb at f.end (omega (arith, h, long)), le-leb f.end (length src) k.inside, e) refl)
        (λ at g h e b.
        let m = nested_read 0 value g.start (take g.end (take f.end src)) b.good in
        rw (le-leb at f.end (omega (arith, h, long)), le-leb f.end (length src) k.inside, e, ← take-take g.end f.end src (omega (arith, b.inside, long)))
        (value_is_lem g (fields_from value g.start (take g.end (take f.end src))) m.fields m.read))
        f.start (each_of (key_of LayerValue) (fields_of layer src f)) (omega (arith, k.ordered, long)) (walk_found (key_of LayerValue)) good_values
