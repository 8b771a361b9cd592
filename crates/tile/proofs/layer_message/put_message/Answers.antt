-- One part after the other, each at the front of what is left of the list.
use Prim.Native.Nat.{ℕ, ◌+◌, ◌-◌}
use mathlib.Core.Path.{refl}
use mathlib.Core.List.{List}
use native.Mathlib.Omega.{arith}
use lib.ListN.{length}
use borrow.Rule.Slice.PartMut.{put_mid}
use Rattle.wire.specs.declared.field.Field.TheVariants.{LayerName, LayerExtent, LayerVersion}
use Rattle.wire.specs.Fields.{varint_field}
use Rattle.promise.proofs.Running.{Run, run_first, run_inside, run_room, run_sum, run_turn, run_last_sum, run_last_long, run_last}
use Rattle.layer.specs.Held.{Memory, mem}
use Rattle.tile.specs.Texts.{text_field}
use Rattle.tile.specs.Entries.{key_fields, value_fields, feature_fields}
use Rattle.tile.specs.Layers.{version, layer_bytes}
use Rattle.tile.proofs.Layers.{layer_parts, layer_long, name_inside, after_name, after_records, after_table, after_contents}
use Rattle.tile.proofs.layer_message.put_message.Goals as goal
use Rattle.tile.proofs.layer_message.put_message.Tie as tie
use Rattle.tile.proofs.layer_message.put_message.Reads as contract
use Rattle.tile.proofs.layer_message.put_message.Lts as places

-- the places on the way that the lemmas below speak of
abbrev Start : Type 0
Start = places.Start tie.the-claims contract.Pre contract.Post

abbrev After-put_text-name : Type 0
After-put_text-name = places.After-put_text tie.the-claims contract.Pre contract.Post

abbrev After-put_features : Type 0
After-put_features = places.After-put_features tie.the-claims contract.Pre contract.Post

abbrev After-put_keys : Type 0
After-put_keys = places.After-put_keys tie.the-claims contract.Pre contract.Post

abbrev After-put_values : Type 0
After-put_values = places.After-put_values tie.the-claims contract.Pre contract.Post

abbrev After-put_varint_field : Type 0
After-put_varint_field = places.After-put_varint_field tie.the-claims contract.Pre contract.Post

abbrev lists : Start → Memory
lists s = mem s.args.keys.now s.args.values.now s.args.texts.now s.args.features.now

-- the parts behind the name
abbrev records : Start → List ℕ
records s = feature_fields 0 s.args.features.now

abbrev table : Start → List ℕ
table s = key_fields s.args.texts.now s.args.keys.now

abbrev contents : Start → List ℕ
contents s = value_fields s.args.texts.now s.args.values.now

abbrev extent : Start → List ℕ
extent s = varint_field LayerExtent s.args.s.extent

-- so much of the message is put when so much is left: at the place, and in the list
abbrev Behind : Start → List ℕ → List ℕ → ℕ → Type 0
Behind s rest out at = Run (layer_bytes s.args.s (lists s)) rest s.args.out.now out at

abbrev onto : ℕ → List ℕ → List ℕ → List ℕ
onto at out ys = put_mid at (length out - at) out ys

abbrev at_name : After-put_text-name → ℕ
at_name c = c.put_text-name.result

abbrev out_name : After-put_text-name → List ℕ
out_name c = c.put_text-name.new.out

named : (c : After-put_text-name) → Behind c.before.before.before.before.before.before.before (after_name c.args.s (lists c.before.before.before.before.before.before.before)) (out_name c) (at_name c)
named c = run_first _ (text_field LayerName c.args.texts.now 0 c.args.s.name) _ _ (layer_parts c.args.s (lists c.before.before.before.before.before.before.before)) c.requires.room c.put_text-name.ensures

abbrev at_recorded : After-put_features → ℕ
at_recorded c = at_name c.before.before.before.before + c.put_features.result

abbrev out_recorded : After-put_features → List ℕ
out_recorded c = onto (at_name c.before.before.before.before) (out_name c.before.before.before.before) c.put_features.new.out

recorded : (c : After-put_features) → Behind c.before.before.before.before.before.before.before.before.before.before.before (after_records c.args.s (lists c.before.before.before.before.before.before.before.before.before.before.before)) (out_recorded c) (at_recorded c)
recorded c = run_turn (named c.before.before.before.before) (records c.before.before.before.before.before.before.before.before.before.before.before) _ refl c.put_features.ensures

abbrev at_tabled : After-put_keys → ℕ
at_tabled c = at_recorded c.before.before.before.before + c.put_keys.result

abbrev out_tabled : After-put_keys → List ℕ
out_tabled c = onto (at_recorded c.before.before.before.before) (out_recorded c.before.before.before.before) c.put_keys.new.out

tabled : (c : After-put_keys) → Behind c.before.before.before.before.before.before.before.before.before.before.before.before.before.before.before (after_table c.args.s (lists c.before.before.before.before.before.before.before.before.before.before.before.before.before.before.before)) (out_tabled c) (at_tabled c)
tabled c = run_turn (recorded c.before.before.before.before) (table c.before.before.before.before.before.before.before.before.before.before.before.before.before.before.before) _ refl c.put_keys.ensures

abbrev at_filled : After-put_values → ℕ
at_filled c = at_tabled c.before.before.before.before + c.put_values.result

abbrev out_filled : After-put_values → List ℕ
out_filled c = onto (at_tabled c.before.before.before.before) (out_tabled c.before.before.before.before) c.put_values.new.out

filled : (c : After-put_values) → Behind c.before.before.before.before.before.before.before.before.before.before.before.before.before.before.before.before.before.before.before (after_contents c.args.s (lists c.before.before.before.before.before.before.before.before.before.before.before.before.before.before.before.before.before.before.before)) (out_filled c) (at_filled c)
filled c = run_turn (tabled c.before.before.before.before) (contents c.before.before.before.before.before.before.before.before.before.before.before.before.before.before.before.before.before.before.before) _ refl c.put_values.ensures

abbrev at_extended : After-put_varint_field → ℕ
at_extended c = at_filled c.before.before.before.before + c.put_varint_field.result

abbrev out_extended : After-put_varint_field → List ℕ
out_extended c = onto (at_filled c.before.before.before.before) (out_filled c.before.before.before.before) c.put_varint_field.new.out

extended : (c : After-put_varint_field) → Behind c.before.before.before.before.before.before.before.before.before.before.before.before.before.before.before.before.before.before.before.before.before.before.before (varint_field LayerVersion version) (out_extended c) (at_extended c)
extended c = run_turn (filled c.before.before.before.before) (extent c.before.before.before.before.before.before.before.before.before.before.before.before.before.before.before.before.before.before.before.before.before.before.before) _ refl c.put_varint_field.ensures

pub put_text-name-requires : goal.put_text-name-requires
put_text-name-requires c =
    record { good = name_inside c.args.s (lists c.before.before.before.before.before.before.before) c.requires.good; room = omega (arith, c.requires.room, layer_long c.args.s (lists c.before.before.before.before.before.before.before)) }

pub slice_bounds-put_features-count : goal.slice_bounds-put_features-count
slice_bounds-put_features-count c = run_inside (named c.before.before.before)

pub slice_bounds-put_features-start : goal.slice_bounds-put_features-start
slice_bounds-put_features-start c = run_inside (named c.before.before.before)

pub put_features-requires : goal.put_features-requires
put_features-requires c =
    record { good = c.requires.good.features; room = run_room (named c.before.before.before.before) (records c.before.before.before.before.before.before.before.before.before.before.before) _ refl }

pub overflow_add-records : goal.overflow_add-records
overflow_add-records c =
    omega (arith, run_sum (named c.before.before.before.before.before.before.before) (records c.before.before.before.before.before.before.before.before.before.before.before.before.before.before) _ refl c.put_features.ensures, c.well_formed)

pub slice_bounds-put_keys-count : goal.slice_bounds-put_keys-count
slice_bounds-put_keys-count c = run_inside (recorded c.before.before.before)

pub slice_bounds-put_keys-start : goal.slice_bounds-put_keys-start
slice_bounds-put_keys-start c = run_inside (recorded c.before.before.before)

pub put_keys-requires : goal.put_keys-requires
put_keys-requires c =
    record { good = c.requires.good.keys; room = run_room (recorded c.before.before.before.before) (table c.before.before.before.before.before.before.before.before.before.before.before.before.before.before.before) _ refl }

pub overflow_add-table : goal.overflow_add-table
overflow_add-table c =
    omega (arith, run_sum (recorded c.before.before.before.before.before.before.before) (table c.before.before.before.before.before.before.before.before.before.before.before.before.before.before.before.before.before.before) _ refl c.put_keys.ensures, c.well_formed)

pub slice_bounds-put_values-count : goal.slice_bounds-put_values-count
slice_bounds-put_values-count c = run_inside (tabled c.before.before.before)

pub slice_bounds-put_values-start : goal.slice_bounds-put_values-start
slice_bounds-put_values-start c = run_inside (tabled c.before.before.before)

pub put_values-requires : goal.put_values-requires
put_values-requires c =
    record { good = c.requires.good.values; room = run_room (tabled c.before.before.before.before) (contents c.before.before.before.before.before.before.before.before.before.before.before.before.before.before.before.before.before.before.before) _ refl }

pub overflow_add-contents : goal.overflow_add-contents
overflow_add-contents c =
    omega (arith, run_sum (tabled c.before.before.before.before.before.before.before) (contents c.before.before.before.before.before.before.before.before.before.before.before.before.before.before.before.before.before.before.before.before.before.before) _ refl c.put_values.ensures, c.well_formed)

pub slice_bounds-put_varint_field-count : goal.slice_bounds-put_varint_field-count
slice_bounds-put_varint_field-count c = run_inside (filled c.before.before.before)

pub slice_bounds-put_varint_field-start : goal.slice_bounds-put_varint_field-start
slice_bounds-put_varint_field-start c = run_inside (filled c.before.before.before)

pub overflow_add-last : goal.overflow_add-last
overflow_add-last c =
    omega (arith, run_sum (filled c.before.before.before.before.before.before.before) (extent c.before.before.before.before.before.before.before.before.before.before.before.before.before.before.before.before.before.before.before.before.before.before.before.before.before.before) _ refl c.put_varint_field.ensures, c.well_formed)

pub slice_bounds-put_varint_field-count-2 : goal.slice_bounds-put_varint_field-count-2
slice_bounds-put_varint_field-count-2 c = run_inside (extended c.before.before.before)

pub slice_bounds-put_varint_field-start-2 : goal.slice_bounds-put_varint_field-start-2
slice_bounds-put_varint_field-start-2 c = run_inside (extended c.before.before.before)

pub overflow_add-result : goal.overflow_add-result
overflow_add-result c =
    omega (arith, run_last_sum (extended c.before.before.before.before.before.before.before) c.put_varint_field-2.ensures, c.well_formed)

pub shape_of-out : goal.shape_of-out
shape_of-out c =
    run_last_long (extended c.before.before.before.before.before.before.before) c.put_varint_field-2.ensures

pub returns : goal.returns
returns c =
    run_last (extended c.before.before.before.before.before.before.before) c.put_varint_field-2.ensures
