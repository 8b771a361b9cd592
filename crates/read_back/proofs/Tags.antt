-- Of each tag that was given, a reader sees the key's bytes and the same value: the very one, but that of 0.0 and -0.0 the first used is said for both.
use Prim.Native.Nat.{ℕ, suc, ◌%◌}
use mathlib.Core.Path.{◌≡◌, refl, sym, ap, ◌∙◌}
use mathlib.Core.Bool.{Bool, true, false, cond}
use mathlib.Core.List.{List, [], ◌∷◌, map}
use lib.IntN.{ℤ}
use lib.Dec.{eqb}
use lib.ListN.{get_or}
use borrow.Author.Tests.{eqb-false, ne_eqb}
use Rattle.whole.specs.Twos.{signed64}
use Rattle.promise.proofs.Joined.{never}
use Rattle.messages.specs.Meaning.{empty, Layer}
use Rattle.messages.proofs.Written.{All}
use Rattle.tile.specs.Holding.{same_bytes}
use Rattle.given.specs.Given.{Content, text, float, double, int, uint, sint, bool, Tag, Feature, Drawing, unsigned, mark, same, among, place_of}
use Rattle.given.specs.Given.{all_tags, keys_of, values_of}
use Rattle.given.specs.Messages.{tag_indices}
use Rattle.given.specs.Texts.{Every}
use Rattle.given.proofs.FirstUse.{Met, met_left, met_right, all_met}
use Rattle.given.proofs.Corollaries.{place_leads, bytes_are, same_mark}
use Rattle.given.proofs.Numbers.{signed_back}
use Rattle.read_back.specs.Layers.{value_given, feature_given, layer_given}
use Rattle.read_back.specs.Sizes.{SizedContent, SizedTag, SizedFeature, Sized}
use Rattle.read_back.specs.Tags.{tags_from, is_zero, SaysTags, SaysFeatures, SaysLayers}
use Rattle.read_back.proofs.Layers.{values_sized}

-- ---- contents that are the same have the same mark, and by that a content is known which is no zero
abbrev zero_mark : List ℕ → Bool
zero_mark [] = false
zero_mark (k ∷ l) = cond (eqb k 2) (eqb (get_or l 0 0) 0) (cond (eqb k 3) (eqb (get_or l 0 0) 0) false)

unsigned_zero : (sign bits : ℕ) → 0 % sign ≡ 0 → eqb (unsigned sign bits) 0 ≡ eqb (bits % sign) 0
unsigned_zero sign bits o = by (eqb (bits % sign) 0) refl
  where
    by : (t : Bool) → eqb (bits % sign) 0 ≡ t → eqb (cond t 0 bits) 0 ≡ t
    by true q = refl
    by false q = ne_eqb bits 0 (λ e. eqb-false (bits % sign) 0 q (ap (λ (n : ℕ). n % sign) e ∙ o))

zero_mark_lem : (c : Content) → zero_mark (mark c) ≡ is_zero c
zero_mark_lem (text t) = refl
zero_mark_lem (float bits) = unsigned_zero 2147483648 bits refl
zero_mark_lem (double bits) = unsigned_zero 9223372036854775808 bits refl
zero_mark_lem (int n) = refl
zero_mark_lem (uint n) = refl
zero_mark_lem (sint n) = refl
zero_mark_lem (bool b) = refl

abbrev from_mark : List ℕ → Content
from_mark [] = text []
from_mark (k ∷ l) =
    cond (eqb k 1) (text l)
    (cond (eqb k 2) (float (get_or l 0 0))
    (cond (eqb k 3) (double (get_or l 0 0))
    (cond (eqb k 4) (int (signed64 (get_or l 0 0)))
    (cond (eqb k 5) (uint (get_or l 0 0))
    (cond (eqb k 6) (sint (signed64 (get_or l 0 0))) (bool (eqb (get_or l 0 0) 1)))))))

same_bit : (b : Bool) → eqb (cond b 1 0) 1 ≡ b
same_bit true = refl
same_bit false = refl

from_mark_lem : (c : Content) → SizedContent c → is_zero c ≡ false → from_mark (mark c) ≡ c
from_mark_lem (text t) s z = refl
from_mark_lem (float bits) s z = rw z
from_mark_lem (double bits) s z = rw z
from_mark_lem (int n) s z = ap (λ (x : ℤ). int x) (signed_back n s)
from_mark_lem (uint n) s z = refl
from_mark_lem (sint n) s z = ap (λ (x : ℤ). sint x) (signed_back n s)
from_mark_lem (bool b) s z = ap (λ (x : Bool). bool x) (same_bit b)

pub same_exact : (a b : Content) → SizedContent a → SizedContent b → same a b ≡ true → is_zero b ≡ false → a ≡ b
same_exact a b s t e z =
    let m = same_mark a b e in
    let y : is_zero a ≡ false = sym (zero_mark_lem a) ∙ ap zero_mark m ∙ zero_mark_lem b ∙ z in
    sym (from_mark_lem a s y) ∙ ap from_mark m ∙ from_mark_lem b t z

-- ---- what a tag's two numbers lead to
value_there : (v : Content) (values : List Content) → among same v values ≡ true → All SizedContent values
    → (c : Content) × (get_or (map value_given values) (place_of same v values) empty ≡ value_given c) × (same c v ≡ true) × SizedContent c
value_there v [] m s = never m
value_there v (y ∷ ys) m s = by (same y v) refl m (λ n. value_there v ys n s.1)
  where
    by : (t : Bool) → same y v ≡ t → cond t true (among same v ys) ≡ true
        → (among same v ys ≡ true → (c : Content) × (get_or (map value_given ys) (place_of same v ys) empty ≡ value_given c) × (same c v ≡ true) × SizedContent c)
        → (c : Content) × (get_or (map value_given (y ∷ ys)) (cond t 0 (suc (place_of same v ys))) empty ≡ value_given c) × (same c v ≡ true) × SizedContent c
    by true q n go = (y, refl, q, s.0)
    by false q n go = go n

module _ (keys : List (List ℕ)) (values : List Content) (s : All SizedContent values) where
  tags_said_lem : (ts : List Tag) → Met keys values ts → Every SizedTag ts → SaysTags ts (tags_from keys (map value_given values) (tag_indices keys values ts))
  tags_said_lem [] M z = tt
  tags_said_lem (t ∷ ts) M z =
      let (c, e, a, k) = value_there t.value values M.1 s in (
        record {
          key_is_lem = bytes_are (get_or keys (place_of same_bytes t.key keys) []) t.key (place_leads same_bytes t.key [] keys M.0);
          content = c;
          value_is_lem = e;
          alike = a;
          exact = λ n. e ∙ ap value_given (same_exact c t.value k z.0 a n);
        },
        tags_said_lem ts M.2 z.1,
      )

  features_said : (l : Layer) → l.keys ≡ keys → l.values ≡ map value_given values → (fs : List Feature) → Met keys values (all_tags fs)
      → Every SizedFeature fs → SaysFeatures l fs (map (feature_given keys values) fs)
  features_said l d e [] M z = tt
  features_said l d e (f ∷ fs) M z = (
    rw (d, e) (tags_said_lem f.tags (met_left keys values f.tags (all_tags fs) M) z.0.in_tags),
    features_said l d e fs (met_right keys values f.tags (all_tags fs) M) z.1,
  )

pub layer_tags : (d : Drawing) → Sized d → SaysFeatures (layer_given d) d.features (layer_given d).features
layer_tags d z =
    let fs = d.features in
    features_said (keys_of fs) (values_of fs) (values_sized fs z.in_features) (layer_given d) refl refl fs (all_met [] [] (all_tags fs)) z.in_features

pub tile_tags : (ds : List Drawing) → Every Sized ds → SaysLayers ds (map layer_given ds)
tile_tags [] z = tt
tile_tags (d ∷ ds) z = (layer_tags d z.0, tile_tags ds z.1)
