-- Request (viii), for whoever reads a tile: every text of what was given is UTF-8, the layer's name, the keys and the text values.
use Rattle.std.specs.Prelude.{◌≡◌, true, List, [], ◌∷◌}
use Rattle.utf8.specs.Utf8.{is_utf8}
use Rattle.layer.specs.TagLists.{tag_utf8}
use Rattle.given.specs.Given.{Tag, Feature, Drawing, completed}
use Rattle.given.specs.Asked.{tag_of}

abbrev pub Every : {A : Type 0} → (A → Type 0) → List A → Type 0
Every P [] = Unit {0}
Every P (x ∷ xs) = P x × Every P xs

abbrev pub TagText : Tag → Type 0
TagText t = tag_utf8 (tag_of t.key t.value) ≡ true

abbrev pub FeatureText : Feature → Type 0
FeatureText f = Every TagText f.tags

-- of the features that are complete, and of the one that is open
pub record AllText (d : Drawing) : Type 0 where
  pub named : is_utf8 d.name ≡ true
  pub complete : Every FeatureText d.features
  pub started : Every FeatureText (completed d.pending)
