-- One part after the other, each at the front of what is left of the list.
use mathlib.Core.Path.{◌≡◌, refl}
use mathlib.Core.List.{List, ◌++◌}
use Prim.Native.Nat.{ℕ, ◌+◌, ◌-◌}
use native.Mathlib.Omega.{arith}
use lib.ListN.{length}
use borrow.Rule.Slice.PartMut.{put_mid}
use Rattle.wire.specs.declared.field.Field.TheVariants.{FeatureTags, FeatureType, FeatureGeometry}
use Rattle.wire.specs.Fields.{varint_field, packed_field}
use Rattle.promise.proofs.Running.{Run, run_first, run_inside, run_sum, run_turn, run_last_sum, run_last}
use Rattle.tile.specs.Features.{id_field, feature_message}
use Rattle.tile.proofs.Features.{message_parts}
use Rattle.tile.proofs.feature.put_parts.Goals as goal
use Rattle.tile.proofs.feature.put_parts.Tie as tie
use Rattle.tile.proofs.feature.put_parts.Reads as contract
use Rattle.tile.proofs.feature.put_parts.Lts as places

-- the places on the way that the lemmas below speak of
abbrev Start : Type 0
Start = places.Start tie.the-claims contract.Pre contract.Post

abbrev After-put_id-a : Type 0
After-put_id-a = places.After-put_id tie.the-claims contract.Pre contract.Post

abbrev After-put_packed-k : Type 0
After-put_packed-k = places.After-put_packed tie.the-claims contract.Pre contract.Post

abbrev After-put_varint_field-m : Type 0
After-put_varint_field-m = places.After-put_varint_field tie.the-claims contract.Pre contract.Post

-- what is still to come behind each part
abbrev rest3 : Start → List ℕ
rest3 s = packed_field FeatureGeometry s.args.geometry.now

abbrev rest2 : Start → List ℕ
rest2 s = varint_field FeatureType s.args.kind ++ rest3 s

abbrev rest1 : Start → List ℕ
rest1 s = packed_field FeatureTags s.args.tags.now ++ rest2 s

parts : (s : Start) → feature_message s.args.kind s.args.mark s.args.low s.args.high s.args.tags.now s.args.geometry.now ≡ id_field s.args.mark s.args.low s.args.high ++ rest1 s
parts s = message_parts _ _ _ _ _ _

-- so much of the message is put when so much is left: at the place, and in the list
abbrev Behind : Start → List ℕ → List ℕ → ℕ → Type 0
Behind s rest out at = Run (feature_message s.args.kind s.args.mark s.args.low s.args.high s.args.tags.now s.args.geometry.now) rest s.args.out.now out at

abbrev onto : ℕ → List ℕ → List ℕ → List ℕ
onto at out ys = put_mid at (length out - at) out ys

abbrev out_id : After-put_id-a → List ℕ
out_id c = c.put_id-a.new.out

marked : (c : After-put_id-a) → Behind c.before.before.before.before.before (rest1 c.before.before.before.before.before) (out_id c) c.put_id-a.result
marked c = run_first _ (id_field c.args.mark c.args.low c.args.high) _ _ (parts c.before.before.before.before.before) c.requires c.put_id-a.ensures

abbrev at_tags : After-put_packed-k → ℕ
at_tags c = c.put_id-a.result + c.put_packed-k.result

abbrev out_tags : After-put_packed-k → List ℕ
out_tags c = onto c.put_id-a.result (out_id c.before.before.before.before) c.put_packed-k.new.out

tagged : (c : After-put_packed-k) → Behind c.before.before.before.before.before.before.before.before.before (rest2 c.before.before.before.before.before.before.before.before.before) (out_tags c) (at_tags c)
tagged c = run_turn (marked c.before.before.before.before) (packed_field FeatureTags c.args.tags.now) _ refl c.put_packed-k.ensures

abbrev at_type : After-put_varint_field-m → ℕ
at_type c = at_tags c.before.before.before.before + c.put_varint_field-m.result

abbrev out_type : After-put_varint_field-m → List ℕ
out_type c = onto (at_tags c.before.before.before.before) (out_tags c.before.before.before.before) c.put_varint_field-m.new.out

typed : (c : After-put_varint_field-m) → Behind c.before.before.before.before.before.before.before.before.before.before.before.before.before (rest3 c.before.before.before.before.before.before.before.before.before.before.before.before.before) (out_type c) (at_type c)
typed c = run_turn (tagged c.before.before.before.before) (varint_field FeatureType c.args.kind) _ refl c.put_varint_field-m.ensures

pub slice_bounds-put_packed-count : goal.slice_bounds-put_packed-count
slice_bounds-put_packed-count c = run_inside (marked c.before.before.before)

pub slice_bounds-put_packed-start : goal.slice_bounds-put_packed-start
slice_bounds-put_packed-start c = run_inside (marked c.before.before.before)

pub overflow_add-b : goal.overflow_add-b
overflow_add-b c =
    omega (arith, run_sum (marked c.before.before.before.before.before.before.before) (packed_field FeatureTags c.args.tags.now) _ refl c.put_packed-k.ensures, c.well_formed)

pub slice_bounds-put_varint_field-count : goal.slice_bounds-put_varint_field-count
slice_bounds-put_varint_field-count c = run_inside (tagged c.before.before.before)

pub slice_bounds-put_varint_field-start : goal.slice_bounds-put_varint_field-start
slice_bounds-put_varint_field-start c = run_inside (tagged c.before.before.before)

pub overflow_add-d : goal.overflow_add-d
overflow_add-d c =
    omega (arith, run_sum (tagged c.before.before.before.before.before.before.before) (varint_field FeatureType c.args.kind) _ refl c.put_varint_field-m.ensures, c.well_formed)

pub slice_bounds-put_packed-count-2 : goal.slice_bounds-put_packed-count-2
slice_bounds-put_packed-count-2 c = run_inside (typed c.before.before.before)

pub slice_bounds-put_packed-start-2 : goal.slice_bounds-put_packed-start-2
slice_bounds-put_packed-start-2 c = run_inside (typed c.before.before.before)

pub overflow_add-result : goal.overflow_add-result
overflow_add-result c =
    omega (arith, run_last_sum (typed c.before.before.before.before.before.before.before) c.put_packed-n.ensures, c.well_formed)

pub returns : goal.returns
returns c =
    run_last (typed c.before.before.before.before.before.before.before) c.put_packed-n.ensures
