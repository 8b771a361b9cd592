-- Tags put one after the other: figures only grow, the room and the open feature stay, and where the last figures fit, so do those before them.
use mathlib.Core.Path.{◌≡◌, refl}
use mathlib.Core.Bool.{true}
use mathlib.Core.List.{List, [], ◌∷◌}
use native.Mathlib.Omega.{arith}
use Rattle.layer.specs.declared.Figures.{Figures}
use Rattle.layer.specs.Held.{fits, Seen}
use Rattle.layer.specs.Calls.{Tag, tag_put}
use Rattle.layer.specs.Whole.{tags_put}
use Rattle.layer.proofs.Fitting.{Within, within, fits_yes}

pub tag_grows : (o : Figures) (t : Tag) (v : Seen) → Within v.layer.used (tag_put o t v).layer.used
tag_grows o t v = record { keys = omega arith; values = omega arith; texts = omega arith; features = omega arith }

pub tags_grow : (o : Figures) (ts : List Tag) (v : Seen) → Within v.layer.used (tags_put o ts v).layer.used
tags_grow o [] v = record { keys = omega arith; values = omega arith; texts = omega arith; features = omega arith }
tags_grow o (t ∷ ts) v =
    let A = tag_grows o t v in
    let B = tags_grow o ts (tag_put o t v) in
    record {
      keys = omega (arith, A.keys, B.keys);
      values = omega (arith, A.values, B.values);
      texts = omega (arith, A.texts, B.texts);
      features = omega (arith, A.features, B.features);
    }

pub fits_before : (a b room : Figures) → Within a b → fits b room ≡ true → fits a room ≡ true
fits_before a b room A h =
    let B = within b room h in
    fits_yes a room (record { keys = omega (arith, A.keys, B.keys); values = omega (arith, A.values, B.values); texts = omega (arith, A.texts, B.texts); features = omega (arith, A.features, B.features) })

pub same_room : (o : Figures) (ts : List Tag) (v : Seen) → (tags_put o ts v).room ≡ v.room
same_room o [] v = refl
same_room o (t ∷ ts) v = same_room o ts (tag_put o t v)

pub same_feature : (o : Figures) (ts : List Tag) (v : Seen) → (tags_put o ts v).layer.feature ≡ v.layer.feature
same_feature o [] v = refl
same_feature o (t ∷ ts) v = same_feature o ts (tag_put o t v)
