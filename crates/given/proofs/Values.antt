-- How values stand in a layer's list, three words each, and what follows of them: as for keys (proofs/Entries).
use Prim.Native.Nat.{ℕ, suc, ◌*◌, ◌%◌}
use mathlib.Core.Path.{◌≡◌, refl, ap}
use mathlib.Core.Bool.{true, false}
use mathlib.Core.List.{List, [], ◌++◌, append-nil}
use native.Mathlib.Omega.{arith}
use lib.ListN.{length}
use Rattle.table.specs.declared.Value.{Value}
use Rattle.table.specs.Values.{same_value, find_value}
use Rattle.layer.specs.Calls.{bit_of, stored_as}
use Rattle.tile.specs.Texts.{text_field}
use Rattle.tile.specs.Values.{value_message as storedMessage}
use Rattle.tile.specs.Entries.{value_fields}
use Rattle.given.specs.Given.{Content, text, float, double, int, uint, sint, bool, bits64, same, among, place_of}
use Rattle.given.specs.Messages.{each, value_message, value_field}
use Rattle.given.specs.Asked.{tag_of, Fine}
use Rattle.given.specs.Layout.{TextStands, ValueStands, ValuesStand, no_values, one_value}
use Rattle.given.proofs.Numbers.{halves, bits_are, zigzag_is}
use Rattle.given.proofs.Alike.{number_found}
use Rattle.given.proofs.Entries.{text_more, text_new, text_found, found_at, found_next}

-- ---- one value
value_more : (texts more : List ℕ) (kind low high : ℕ) (c : Content) → ValueStands texts kind low high c → ValueStands (texts ++ more) kind low high c
value_more texts more kind low high (text t) S = (S.0, text_more texts more low high t S.1)
value_more texts more kind low high (float bits) S = S
value_more texts more kind low high (double bits) S = S
value_more texts more kind low high (int n) S = S
value_more texts more kind low high (uint n) S = S
value_more texts more kind low high (sint n) S = S
value_more texts more kind low high (bool b) S = S

-- a value as it is put behind the texts
pub value_new : (before key : List ℕ) (c : Content) (w : Value) → w ≡ stored_as (length before) (tag_of key c).value (length (tag_of key c).text) → ValueStands (before ++ (tag_of key c).text) w.kind w.low w.high c
value_new before key (text t) w e = (ap (λ (v : Value). v.kind) e, rw e (rw append-nil at (text_new before t [])))
value_new before key (float bits) w e = rw e (record { kind_is = refl; low_is = refl; high_is = refl })
value_new before key (double bits) w e = rw e (record { kind_is = refl; low_is = refl; high_is = refl })
value_new before key (int n) w e = rw (e, bits_are n) (record { kind_is = refl; low_is = refl; high_is = refl })
value_new before key (uint n) w e = rw e (record { kind_is = refl; low_is = refl; high_is = refl })
value_new before key (sint n) w e = rw (e, bits_are n) (record { kind_is = refl; low_is = refl; high_is = refl })
value_new before key (bool b) w e = rw e (record { kind_is = refl; low_is = refl; high_is = refl })

-- a value is found where it is the same content
text_row : (texts : List ℕ) (low high : ℕ) (t : List ℕ) → TextStands texts low high t → (key : List ℕ) (b : Content) → same_value texts 1 low high (tag_of key b).value (tag_of key b).text ≡ same (text t) b
text_row texts low high t T key (text s) = text_found texts low high t T s
text_row texts low high t T key (float bits) = refl
text_row texts low high t T key (double bits) = refl
text_row texts low high t T key (int n) = refl
text_row texts low high t T key (uint n) = refl
text_row texts low high t T key (sint n) = refl
text_row texts low high t T key (bool b) = refl

module _ (texts : List ℕ) (kind low high : ℕ) where
  value_found_lem : (a : Content) → ValueStands texts kind low high a → Fine a → (key : List ℕ) (b : Content) → Fine b → same_value texts kind low high (tag_of key b).value (tag_of key b).text ≡ same a b
  value_found_lem (text t) S f key b g = rw S.0 (text_row texts low high t S.1 key b)
  value_found_lem (float n) S f key b g = rw (S.kind_is, S.low_is, S.high_is) (number_found texts 2 n refl (λ e. f) key b g)
  value_found_lem (double n) S f key b g = rw (S.kind_is, S.low_is, S.high_is) (number_found texts 3 n refl (λ e. absurd (omega arith)) key b g)
  value_found_lem (int n) S f key b g = rw (S.kind_is, S.low_is, S.high_is) (number_found texts 4 (bits64 n) refl (λ e. absurd (omega arith)) key b g)
  value_found_lem (uint n) S f key b g = rw (S.kind_is, S.low_is, S.high_is) (number_found texts 5 n refl (λ e. absurd (omega arith)) key b g)
  value_found_lem (sint n) S f key b g = rw (S.kind_is, S.low_is, S.high_is) (number_found texts 6 (bits64 n) refl (λ e. absurd (omega arith)) key b g)
  value_found_lem (bool n) S f key b g = rw (S.kind_is, S.low_is, S.high_is) (number_found texts 7 (bit_of n) refl (λ e. absurd (omega arith)) key b g)

  -- its message is that of what was given
  value_message_lem : (c : Content) → ValueStands texts kind low high c → Fine c → storedMessage texts kind low high ≡ value_message c
  unfolding storedMessage value_message text_field
  value_message_lem (text t) S f = rw (S.0, S.1.there)
  value_message_lem (float n) S f = let e : n % 4294967296 ≡ n = omega arith in rw (S.kind_is, S.low_is, e)
  value_message_lem (double n) S f = rw (S.kind_is, S.low_is, S.high_is, halves n)
  value_message_lem (int n) S f = rw (S.kind_is, S.low_is, S.high_is, halves (bits64 n))
  value_message_lem (uint n) S f = rw (S.kind_is, S.low_is, S.high_is, halves n)
  value_message_lem (sint n) S f = rw (S.kind_is, S.low_is, S.high_is, halves (bits64 n), zigzag_is n f)
  value_message_lem (bool true) S f = rw (S.kind_is, S.low_is)
  value_message_lem (bool false) S f = rw (S.kind_is, S.low_is)

-- ---- values
module _ (texts : List ℕ) where
  pub values_count : (ws : List ℕ) (cs : List Content) → ValuesStand texts ws cs → length ws ≡ length cs * 3
  values_count _ _ no_values = refl
  values_count _ _ (one_value kind low high c ws cs S f W) = let n = values_count ws cs W in omega arith

  pub values_more : (more ws : List ℕ) (cs : List Content) → ValuesStand texts ws cs → ValuesStand (texts ++ more) ws cs
  values_more more _ _ no_values = no_values
  values_more more _ _ (one_value kind low high c ws cs S f W) = one_value kind low high c ws cs (value_more texts more kind low high c S) f (values_more more ws cs W)

  pub values_append : (ws xs : List ℕ) (cs ds : List Content) → ValuesStand texts ws cs → ValuesStand texts xs ds → ValuesStand texts (ws ++ xs) (cs ++ ds)
  values_append _ xs _ ds no_values O = O
  values_append _ xs _ ds (one_value kind low high c ws cs S f W) O = one_value kind low high c (ws ++ xs) (cs ++ ds) S f (values_append ws xs cs ds W O)

  pub values_found : (ws : List ℕ) (cs : List Content) → ValuesStand texts ws cs → (j : ℕ) (key : List ℕ) (b : Content) → Fine b → find_value j ws texts (tag_of key b).value (tag_of key b).text ≡ found_at j (among same b cs) (place_of same b cs)
  values_found _ _ no_values j key b g = refl
  values_found _ _ (one_value kind low high c ws cs S f W) j key b g =
      rw (value_found_lem texts kind low high c S f key b g, values_found ws cs W (suc j) key b g) (found_next j (same c b) (among same b cs) (place_of same b cs))

  pub value_fields_lem : (ws : List ℕ) (cs : List Content) → ValuesStand texts ws cs → value_fields texts ws ≡ each value_field cs
  value_fields_lem _ _ no_values = refl
  value_fields_lem _ _ (one_value kind low high c ws cs S f W) = rw (value_message_lem texts kind low high c S f, value_fields_lem ws cs W)
