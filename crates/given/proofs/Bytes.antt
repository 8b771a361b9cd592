-- The bytes of a layer, as crate `tile` reads them out of the lists, are MVT's message of the drawing that stands there.
use mathlib.Core.Path.{◌≡◌}
use Rattle.std.specs.Prelude.{None}
use Rattle.layer.specs.Held.{Seen}
use Rattle.tile.specs.Texts.{text_field}
use Rattle.tile.specs.Layers.{layer_bytes}
use Rattle.given.specs.Given.{Drawing, keys_of, values_of}
use Rattle.given.specs.Messages.{layer_message}
use Rattle.given.specs.Layout.{Stands}
use Rattle.given.proofs.Entries.{key_fields_lem}
use Rattle.given.proofs.Values.{value_fields_lem}
use Rattle.given.proofs.Records.{feature_fields_lem}
use Rattle.given.proofs.Standing.{none_open}

pub layer_bytes_lem : (v : Seen) (d : Drawing) → Stands v d → v.layer.feature ≡ None → layer_bytes v.layer v.held ≡ layer_message d
unfolding layer_bytes layer_message text_field
layer_bytes_lem v d S s =
    let fs = d.features in
    let H = (none_open v.layer.used v.layer.name v.held d.name fs v.layer.feature d.pending s S.parts).1 in
    rw (
      H.title.there,
      H.records_are,
      feature_fields_lem (keys_of fs) (values_of fs) fs,
      key_fields_lem v.held.texts v.held.keys (keys_of fs) H.keys_stand,
      value_fields_lem v.held.texts v.held.values (values_of fs) H.values_stand,
      S.extent_is,
    )
