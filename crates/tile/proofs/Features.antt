-- Laws of a feature's message: its parts and how long it is at most, and the record that it comes from.
use Prim.Native.Nat.{ℕ, ◌+◌, ◌-◌, ◌*◌, ◌≤◌}
use mathlib.Core.Path.{◌≡◌, refl, ap}
use mathlib.Core.Bool.{Bool, true, false, cond}
use mathlib.Core.List.{List, [], ◌∷◌, ◌++◌}
use native.Mathlib.Omega.{arith}
use borrow.Author.Tests.{ne_eqb}
use lib.Dec.{leb, eqb}
use lib.ListN.{length, take, drop, get_or, length-append, length-take}
use borrow.Rule.Slice.PartMut.{mid_of}
use Rattle.std.specs.Prelude.{Some, None}
use Rattle.wire.specs.declared.field.Field.{Field}
use Rattle.wire.specs.declared.field.Field.TheVariants.{FeatureId, FeatureTags, FeatureType, FeatureGeometry}
use Rattle.wire.specs.Varints.{varint}
use Rattle.whole.specs.Twos.{wide}
use Rattle.promise.specs.Widened.{Wide}
use Rattle.wire.specs.Fields.{varint_field, packed_field, varints}
use Rattle.wire.proofs.Varints.{varint_ten}
use Rattle.wire.proofs.Fields.{varint_field_short, delimited_long}
use Rattle.records.specs.Records.{head_ok, record_length}
use Rattle.tile.specs.Features.{id_field, feature_message, record_message, record_size}

-- ---- the id
module _ (mark low high : ℕ) where
  pub id_set : (bits : ℕ) → bits ≡ wide low high → mark ≡ 1 → id_field mark low high ≡ varint_field FeatureId bits
  id_set bits e h = rw (h, e)

  pub id_unset : (mark ≡ 1 → ⊥) → id_field mark low high ≡ []
  id_unset h = rw (ne_eqb mark 1 h)

  pub id_short : length (id_field mark low high) ≤ 11
  id_short = by (eqb mark 1)
    where
      by : (b : Bool) → length (cond b (varint_field FeatureId (wide low high)) []) ≤ 11
      by true = varint_field_short FeatureId (wide low high)
      by false = omega arith

-- ---- packed lists: ten bytes a word at most, and a head and a length
tens : (ws : List ℕ) → length (varints ws) ≤ length ws * 10
tens [] = omega arith
tens (w ∷ ws) = omega (arith, length-append (varint w) (varints ws), varint_ten w, tens ws)

pub packed_short : (field : Field) (ws : List ℕ) → length (packed_field field ws) ≤ 11 + length ws * 10
packed_short field [] = omega arith
packed_short field (w ∷ ws) = omega (arith, delimited_long field (varints (w ∷ ws)), varint_field_short field (length (varints (w ∷ ws))), tens (w ∷ ws))

-- ---- the message
module _ (kind mark low high : ℕ) (tags geometry : List ℕ) where
  pub message_parts : feature_message kind mark low high tags geometry ≡ id_field mark low high ++ (packed_field FeatureTags tags ++ (varint_field FeatureType kind ++ packed_field FeatureGeometry geometry))
  unfolding feature_message
  message_parts = refl

  pub message_long : length (feature_message kind mark low high tags geometry) ≡ length (id_field mark low high) + length (packed_field FeatureTags tags) + length (varint_field FeatureType kind) + length (packed_field FeatureGeometry geometry)
  message_long =
      omega (
        arith,
        ap length message_parts,
        length-append (id_field mark low high) (packed_field FeatureTags tags ++ (varint_field FeatureType kind ++ packed_field FeatureGeometry geometry)),
        length-append (packed_field FeatureTags tags) (varint_field FeatureType kind ++ packed_field FeatureGeometry geometry),
        length-append (varint_field FeatureType kind) (packed_field FeatureGeometry geometry),
      )

  pub message_short : length (feature_message kind mark low high tags geometry) ≤ 44 + (length tags + length geometry) * 10
  message_short = omega (arith, message_long, id_short mark low high, packed_short FeatureTags tags, varint_field_short FeatureType kind, packed_short FeatureGeometry geometry)

-- ---- the record at the front of some words
-- what is lent of a whole record: the tag words behind the geometry, and the geometry behind the head
module _ (ws : List ℕ) (tags end x y : ℕ) (p : Wide (get_or ws 5 0) x) (q : Wide (get_or ws 4 0) y) (e : tags ≡ 6 + x) (f : end ≡ tags + y) where
  pub record_lent : record_message ws ≡ feature_message (get_or ws 0 0) (get_or ws 1 0) (get_or ws 2 0) (get_or ws 3 0) (mid_of tags (end - tags) ws) (mid_of 6 (tags - 6) ws)
  unfolding record_message
  record_lent =
      let k : end - tags ≡ get_or ws 4 0 = omega (arith, q.same) in
      let m : tags - 6 ≡ get_or ws 5 0 = omega (arith, p.same) in
      let d : tags ≡ 6 + get_or ws 5 0 = omega (arith, p.same) in
      rw (k, m, d)

  -- the two parts have no more words than 32 bits can count each
  pub parts_few : length (mid_of tags (end - tags) ws) + length (mid_of 6 (tags - 6) ws) ≤ 8589934590
  parts_few = omega (arith, p.small, q.small, length-take (end - tags) (drop tags ws), length-take (tags - 6) (drop 6 ws))

  pub record_end : record_size ws ≤ length ws → end ≤ length ws
  record_end h = omega (arith, p.same, q.same)

-- where a whole record stands, what `records` finds its length to be is its size
pub record_found : (ws : List ℕ) (n : ℕ) → record_length ws ≡ Some n → record_size ws ≡ n
record_found [] n e = absurd (let z : ◌≡◌ {A = ℕ} 0 1 = cc in omega arith)
record_found (a ∷ []) n e = absurd (let z : ◌≡◌ {A = ℕ} 0 1 = cc in omega arith)
record_found (a ∷ b ∷ []) n e = absurd (let z : ◌≡◌ {A = ℕ} 0 1 = cc in omega arith)
record_found (a ∷ b ∷ c ∷ []) n e = absurd (let z : ◌≡◌ {A = ℕ} 0 1 = cc in omega arith)
record_found (a ∷ b ∷ c ∷ d ∷ []) n e = absurd (let z : ◌≡◌ {A = ℕ} 0 1 = cc in omega arith)
record_found (a ∷ b ∷ c ∷ d ∷ x ∷ []) n e = absurd (let z : ◌≡◌ {A = ℕ} 0 1 = cc in omega arith)
record_found (a ∷ b ∷ c ∷ d ∷ x ∷ y ∷ ws) n e = by (head_ok a b) (leb (x + y) (length ws)) e
  where
    by : (good whole : Bool) → cond good (cond whole (Some (6 + x + y)) None) None ≡ Some n → 6 + y + x ≡ n
    by true true f = let z : 6 + x + y ≡ n = cc in omega arith
    by true false f = absurd (let z : ◌≡◌ {A = ℕ} 0 1 = cc in omega arith)
    by false whole f = absurd (let z : ◌≡◌ {A = ℕ} 0 1 = cc in omega arith)

-- ten bytes a word at most
pub record_short : (ws : List ℕ) → length (record_message ws) ≤ record_size ws * 10
unfolding record_message
record_short ws =
    omega (
      arith,
      message_short (get_or ws 0 0) (get_or ws 1 0) (get_or ws 2 0) (get_or ws 3 0) (take (get_or ws 4 0) (drop (6 + get_or ws 5 0) ws)) (take (get_or ws 5 0) (drop 6 ws)),
      length-take (get_or ws 4 0) (drop (6 + get_or ws 5 0) ws),
      length-take (get_or ws 5 0) (drop 6 ws),
    )
