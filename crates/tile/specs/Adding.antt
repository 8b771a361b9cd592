-- Document 01, "Tile bytes": adding a layer, with its checks in the table's order, ROOM last: STATE, TURN, EXTENT, NAME, ROOM. The call sees the tile, its
-- two lists, and of the layer what each call on a layer sees: its record, the used part of each list and the room of each.
use Rattle.std.specs.Prelude.{ℕ, ◌+◌, ◌*◌, ◌≡◌, refl, Bool, true, false, not, List, [], ◌∷◌, length, take, replicate, leb, eqb}
use Rattle.promise.specs.Answers.{Written, kept}
use Rattle.promise.specs.Laid.{lay}
use Rattle.refusal.specs.declared.Refusal.{Refusal}
use Rattle.refusal.specs.declared.Refusal.TheVariants.{State, Room, Turn, Extent, Name}
use Rattle.refusal.specs.Said.{Said, accepted, refused}
use Rattle.table.specs.Keys.{find_key}
use Rattle.records.specs.Records.{is_found}
use Rattle.layer.specs.Held.{Seen, mem, seen}
use Rattle.layer.specs.State.{valid}
use Rattle.layer.specs.Calls.{is_shut, new_layer}
use Rattle.tile.specs.Layers.{layer_bytes, layer_field, name_at}
use Rattle.tile.specs.Texts.{text_field}
use Rattle.wire.specs.Varints.{varint}
use Rattle.wire.specs.Schema.{head}
use Rattle.wire.specs.Fields.{varint_field, delimited}
use Rattle.tile.specs.declared.Tile.{Tile}
use Rattle.tile.specs.Tiles.{TileMemory, lists, name_room, byte_room, used_names, used_bytes, valid_tile, fresh_tile}

-- the layer's name is its first text
abbrev pub name_text : Seen → List ℕ
name_text v = take v.layer.name v.held.texts

-- the tile has a layer of this name: equal bytes
abbrev pub has_name : Tile → TileMemory → List ℕ → Bool
has_name t m name = is_found (find_key 0 (used_names t m) (used_bytes t m) name)

-- a check in its place: the refusal where it fails, with the given tile and nothing written, else what follows
abbrev pub check : Bool → Refusal → Tile → TileMemory → Written (Said Tile) TileMemory → Written (Said Tile) TileMemory
check true r t m w = w
check false r t m w = kept (refused r t) m

-- the layer's field goes behind the used bytes, and where its name starts there and its length behind the used names
abbrev pub with_layer : Tile → Seen → TileMemory → Written (Said Tile) TileMemory
with_layer t v m =
    record {
      answer = accepted (record { extent = t.extent; used = t.used + length (layer_field v); layers = t.layers + 1 });
      memory = record {
        names = lay (t.layers * 2) ((t.used + name_at v) ∷ v.layer.name ∷ []) m.names;
        bytes = lay t.used (layer_field v) m.bytes;
      };
    }

-- ROOM, reckoned without a limit on room: the bytes and their cap, and the names
abbrev pub appended : Tile → Seen → TileMemory → Written (Said Tile) TileMemory
appended t v m =
    check (leb (t.used + length (layer_field v)) (byte_room (length m.bytes))) Room t m
    (check (leb (t.layers + 1) (name_room (length m.names))) Room t m
    (with_layer t v m))

unfoldable pub add_layer : Tile → Seen → TileMemory → Written (Said Tile) TileMemory
add_layer t v m =
    check (valid_tile t m) State t m
    (check (valid v) State t m
    (check (is_shut v.layer.feature) Turn t m
    (check (eqb v.layer.extent t.extent) Extent t m
    (check (not (has_name t m (name_text v))) Name t m
    (appended t v m)))))

-- ---- document 01's tile: extent 4096, layer "a" without features. The name stands behind the first four bytes
pub one_layer : add_layer (fresh_tile 4096) (seen (new_layer (97 ∷ []) 4096) (mem [] [] (97 ∷ []) [])) (lists (0 ∷ 0 ∷ []) (replicate 11 0)) ≡
    record {
      answer = accepted (record { extent = 4096; used = 10; layers = 1 });
      memory = lists (4 ∷ 1 ∷ []) (26 ∷ 8 ∷ 10 ∷ 1 ∷ 97 ∷ 40 ∷ 128 ∷ 32 ∷ 120 ∷ 2 ∷ 0 ∷ []);
    }
unfolding add_layer valid_tile valid layer_field layer_bytes name_at text_field delimited varint_field head varint
one_layer = refl
