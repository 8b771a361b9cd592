-- A tile of what was given is good, and reads back as it was given: one layer for each, in order.
use Prim.Native.Nat.{◌≤◌}
use mathlib.Core.Path.{◌≡◌, refl, ap, ◌∙◌}
use mathlib.Core.Bool.{true}
use mathlib.Core.List.{List, [], map}
use mathlib.Core.Option.{some}
use native.Mathlib.Omega.{arith}
use lib.ListN.{length}
use Rattle.wire.specs.declared.field.Field.TheVariants.{TileLayer}
use Rattle.wire.specs.Schema.{key_of}
use Rattle.messages.specs.declared.key.Kind.TheVariants.{Tile as tile, Layer as layer}
use Rattle.messages.specs.Keys.{follows}
use Rattle.messages.specs.Tiles.{nested, is_good}
use Rattle.messages.specs.Meaning.{each_of, layer_of, reading}
use Rattle.messages.proofs.Written.{All, all_both, all_map, Piece, body, written_all, body_written, pieces_short, Good, message_body, pieces_read, is_message_lem}
use Rattle.messages.proofs.Chosen.{each_own, each_says}
use Rattle.given.specs.Given.{Drawing}
use Rattle.given.specs.Messages.{layer_message, layer_field, tile_message}
use Rattle.given.specs.Texts.{Every}
use Rattle.read_back.specs.Layers.{layer_given}
use Rattle.read_back.specs.Sizes.{Sized}
use Rattle.read_back.proofs.Layers.{every_all, each_written, layer_holds, layer_read_lem}

abbrev layer_body : Drawing → Piece
layer_body d = body TileLayer (layer_message d)

abbrev Fit : Drawing → Type 0
Fit d = Sized d × (length (layer_message d) ≤ 4294967295)

module _ (ds : List Drawing) (s : Every Sized ds) (h : length (tile_message ds) ≤ 4294967295) where
  tile_written : tile_message ds ≡ written_all (map layer_body ds)
  tile_written = each_written layer_field layer_body (λ d. body_written TileLayer (layer_message d)) ds

  all_fit : All Fit ds
  all_fit =
      all_both Sized (λ (d : Drawing). length (layer_message d) ≤ 4294967295) ds (every_all Sized ds s)
      (pieces_short layer_body 4294967295 ds (omega (arith, ap length tile_written)))

  tile_good : All (Good (nested 2) tile) (map layer_body ds)
  unfolding follows
  tile_good =
      all_map Fit (Good (nested 2) tile) layer_body
      (λ d q. message_body (nested 2) tile TileLayer (layer_message d) (omega (arith, q.1)) layer refl (layer_holds d q.0 q.1)) ds all_fit

  written_good : is_good (written_all (map layer_body ds)) ≡ true
  unfolding is_good nested
  written_good = is_message_lem (nested 2) tile (map layer_body ds) tile_good []

  pub good_tile : is_good (tile_message ds) ≡ true
  good_tile = ap is_good tile_written ∙ written_good

  written_read : reading (written_all (map layer_body ds)) ≡ some (map layer_given ds)
  unfolding reading
  written_read =
      let R = pieces_read (nested 2) tile (map layer_body ds) tile_good [] in
      let src = written_all (map layer_body ds) in
      let e : map (layer_of src) (each_of (key_of TileLayer) R.fields) ≡ map layer_given ds =
      each_says src Fit layer_body layer_given (layer_of src) (λ d f g q. layer_read_lem d g.0 g.1 src TileLayer f q) ds all_fit (key_of TileLayer)
      (map layer_body ds) R.fields R.placed (each_own (key_of TileLayer) layer_body (λ d. refl) ds) in
      rw (written_good, R.read, e)

  pub reads_back : reading (tile_message ds) ≡ some (map layer_given ds)
  reads_back = ap reading tile_written ∙ written_read
