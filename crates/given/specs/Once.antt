-- Request (xiv), for whoever reads a tile: no feature of a strict layer has a key twice. MVT says it of the key's index: "a key index is unique within a feature".
use Rattle.std.specs.Prelude.{ℕ, ◌≡◌, Bool, true, false, cond, List, [], ◌∷◌, map, eqb}
use Rattle.tile.specs.Holding.{same_bytes, none_twice}
use Rattle.given.specs.Given.{Tag, Feature, Drawing, place_of, key_of, keys_of, completed}
use Rattle.given.specs.Texts.{Every}

abbrev pub FeatureOnce : Feature → Type 0
FeatureOnce f = none_twice (map key_of f.tags) ≡ true

-- of the features that are complete, and of the one that is open
pub record AllOnce (d : Drawing) : Type 0 where
  pub complete : Every FeatureOnce d.features
  pub started : Every FeatureOnce (completed d.pending)

-- ---- the same of the indices that go out, of each tag the first of two
abbrev pub key_indices : List (List ℕ) → List Tag → List ℕ
key_indices keys [] = []
key_indices keys (t ∷ ts) = place_of same_bytes t.key keys ∷ key_indices keys ts

abbrev pub is_among : ℕ → List ℕ → Bool
is_among n [] = false
is_among n (m ∷ ms) = cond (eqb m n) true (is_among n ms)

abbrev pub each_once : List ℕ → Bool
each_once [] = true
each_once (n ∷ ns) = cond (is_among n ns) false (each_once ns)

abbrev pub IndexOnce : List (List ℕ) → Feature → Type 0
IndexOnce keys f = each_once (key_indices keys f.tags) ≡ true
