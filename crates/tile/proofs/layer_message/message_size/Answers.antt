-- The sizes of the parts, which add up within 64 bits.
use Prim.Native.Nat.{ℕ, ◌+◌, ◌≤◌}
use mathlib.Core.Path.{◌≡◌}
use native.Mathlib.Omega.{arith}
use lib.ListN.{length}
use Rattle.wire.specs.declared.field.Field.TheVariants.{LayerExtent, LayerVersion}
use Rattle.wire.proofs.Fields.{varint_field_short}
use Rattle.layer.specs.Held.{Memory, mem}
use Rattle.tile.specs.Layers.{version, layer_bytes}
use Rattle.tile.specs.Steps.{max_size}
use Rattle.tile.proofs.Layers.{size_is, layer_short, name_inside, features_sized, keys_sized, values_sized}
use Rattle.tile.proofs.layer_message.message_size.Goals as goal
use Rattle.tile.proofs.layer_message.message_size.Tie as tie
use Rattle.tile.proofs.layer_message.message_size.Reads as contract
use Rattle.tile.proofs.layer_message.message_size.Lts as places

-- the places on the way that the lemmas below speak of
abbrev Start : Type 0
Start = places.Start tie.the-claims contract.Pre contract.Post

abbrev After-varint_field_size-2 : Type 0
After-varint_field_size-2 = places.After-varint_field_size2 tie.the-claims contract.Pre contract.Post

abbrev lists : Start → Memory
lists s = mem s.args.keys.now s.args.values.now s.args.texts.now s.args.features.now

abbrev total : After-varint_field_size-2 → ℕ
total c =
    c.text_size-name.result + c.features_size-records.result + c.keys_size-table.result + c.values_size-contents.result
    + (c.varint_field_size.result + c.varint_field_size-2.result)

-- what follows the lists
last : {a b x y : ℕ} → a ≡ x → b ≡ y → a + b ≡ x + y
last p q = omega arith

total_is : (c : After-varint_field_size-2) → total c ≡ length (layer_bytes c.args.s (lists c.before.before.before.before.before.before.before.before.before.before))
total_is c =
    size_is c.args.s (lists c.before.before.before.before.before.before.before.before.before.before) c.requires _ _ _ _ _ c.text_size-name.ensures c.features_size-records.ensures c.keys_size-table.ensures c.values_size-contents.ensures (last c.varint_field_size.ensures c.varint_field_size-2.ensures)

fits : (c : After-varint_field_size-2) → total c ≤ max_size
fits c =
    omega (arith, total_is c, layer_short c.args.s (lists c.before.before.before.before.before.before.before.before.before.before) c.requires)

pub text_size-name-requires : goal.text_size-name-requires
text_size-name-requires c =
    name_inside c.args.s (lists c.before.before.before.before.before) c.requires

pub features_size-records-requires : goal.features_size-records-requires
features_size-records-requires c =
    features_sized c.args.s (lists c.before.before.before.before.before.before) c.requires

pub keys_size-table-requires : goal.keys_size-table-requires
keys_size-table-requires c =
    keys_sized c.args.s (lists c.before.before.before.before.before.before.before) c.requires

pub values_size-contents-requires : goal.values_size-contents-requires
values_size-contents-requires c =
    values_sized c.args.s (lists c.before.before.before.before.before.before.before.before) c.requires

pub overflow_add-last : goal.overflow_add-last
overflow_add-last c =
    omega (arith, c.varint_field_size.ensures, c.varint_field_size-2.ensures, varint_field_short LayerExtent c.args.s.extent, varint_field_short LayerVersion version)

pub overflow_add-result : goal.overflow_add-result
overflow_add-result c = omega (arith, fits c.before)

pub overflow_add-result-2 : goal.overflow_add-result-2
overflow_add-result-2 c = omega (arith, fits c.before)

pub overflow_add-result-3 : goal.overflow_add-result-3
overflow_add-result-3 c = omega (arith, fits c.before)

pub overflow_add-result-4 : goal.overflow_add-result-4
overflow_add-result-4 c = omega (arith, fits c.before)

pub returns : goal.returns
returns c = total_is c.before
