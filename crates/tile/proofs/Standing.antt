-- What a tile that breaks no rule of STATE is: `parts` takes `valid_tile` apart, `whole` puts it together; and `valid_tile` at each return of `is_valid`.
use Prim.Native.Nat.{ℕ, ◌*◌, ◌≤◌, ◌<◌}
use mathlib.Core.Path.{◌≡◌, refl, ap, ◌∙◌}
use mathlib.Core.Bool.{Bool, true, false, ◌&&◌}
use mathlib.Core.List.{List}
use native.Mathlib.Omega.{arith}
use lib.ListN.{length, take}
use lib.Dec.{leb}
use borrow.Author.Tests.{le-leb, lt-leb, leb-true}
use Rattle.std.specs.Prelude.{Option, Some, None, is_some}
use Rattle.records.specs.Records.{is_found}
use Rattle.table.specs.Keys.{keys_in, find_key}
use Rattle.layer.proofs.Fitting.{both, smaller_le}
use Rattle.tile.specs.declared.Tile.{Tile}
use Rattle.tile.specs.Tiles.{lists, max_tile_bytes, name_room, byte_room, valid_tile}
use Rattle.tile.specs.Adding.{has_name}

pub record Parts (t : Tile) (ns bs : List ℕ) : Type 0 where
  pub room : t.used ≤ byte_room (length bs)
  pub in_bytes : t.used ≤ length bs
  pub few_bytes : t.used ≤ max_tile_bytes
  pub few_names : t.layers ≤ name_room (length ns)
  pub in_names : t.layers * 2 ≤ length ns
  pub names : keys_in t.used (take (t.layers * 2) ns) ≡ true

module _ (t : Tile) (ns bs : List ℕ) where
  pub parts : valid_tile t (lists ns bs) ≡ true → Parts t ns bs
  unfolding valid_tile
  parts e =
      let k = keys_in t.used (take (t.layers * 2) ns) in
      let p = both (leb t.used (byte_room (length bs))) (leb t.layers (name_room (length ns)) && k) e in
      let q = both (leb t.layers (name_room (length ns))) k p.1 in
      let a = leb-true t.used (byte_room (length bs)) p.0 in
      let b = leb-true t.layers (name_room (length ns)) q.0 in
      let c = smaller_le (length bs) max_tile_bytes in
      record {
        room = a;
        in_bytes = omega (arith, a, c.0);
        few_bytes = omega (arith, a, c.1);
        few_names = b;
        in_names = omega (arith, b);
        names = q.1;
      }

  pub whole : t.used ≤ byte_room (length bs) → t.layers ≤ name_room (length ns) → keys_in t.used (take (t.layers * 2) ns) ≡ true → valid_tile t (lists ns bs) ≡ true
  unfolding valid_tile
  whole a b c = rw (le-leb t.used (byte_room (length bs)) a, le-leb t.layers (name_room (length ns)) b, c)

  -- ---- `is_valid`
  module _ (room : ℕ) (e : room ≡ byte_room (length bs)) where
    pub bytes_past : room < t.used → false ≡ valid_tile t (lists ns bs)
    unfolding valid_tile
    bytes_past h = rw (← e, lt-leb t.used room h)

    module _ (h : t.used ≤ room) (entries : ℕ) (f : entries ≡ name_room (length ns)) where
      pub names_past : entries < t.layers → false ≡ valid_tile t (lists ns bs)
      unfolding valid_tile
      names_past k = rw (← e, le-leb t.used room h, ← f, lt-leb t.layers entries k)

      pub names_in : t.layers ≤ entries → t.layers * 2 ≤ length ns
      names_in k = omega arith

      pub valid_is : t.layers ≤ entries → (r : Bool) → r ≡ keys_in t.used (take (t.layers * 2) ns) → r ≡ valid_tile t (lists ns bs)
      unfolding valid_tile
      valid_is k r g = rw (← e, le-leb t.used room h, ← f, le-leb t.layers entries k) g

  -- ---- `has_name`
  module _ (name : List ℕ) (f : Option ℕ) (g : f ≡ find_key 0 (take (t.layers * 2) ns) (take t.used bs) name) where
    found : (f : Option ℕ) → is_some f ≡ is_found f
    found (Some j) = refl
    found None = refl

    pub is_named : (r : Bool) → r ≡ is_some f → r ≡ has_name t (lists ns bs) name
    is_named r e = e ∙ found f ∙ ap is_found g
