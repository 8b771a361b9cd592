-- The two indexes that are lent beside a layer's lists, one of its keys and one of its values, so that a tag need not be looked up by a scan. One that does not
-- serve, since it has no slots or fewer than its table has room for, is not used: its table is looked up by scan, and it stays as it is.
use Rattle.std.specs.Prelude.{ℕ, ◌≡◌, false, cond, List, length}
use Rattle.std.specs.Prelude.{Option, Some, None}
use Rattle.table.specs.declared.Value.{Value}
use Rattle.table.specs.Keys.{find_key}
use Rattle.table.specs.Values.{find_value}
use Rattle.index.specs.Chains.{serves, pushed}
use Rattle.index.specs.Entries.{built_keys, walked_key, built_values, walked_value}
use Rattle.layer.specs.declared.Figures.{Figures}
use Rattle.layer.specs.Held.{Seen}

pub record Index : Type 0 where
  pub keys : List ℕ
  pub values : List ℕ

abbrev pub idx : List ℕ → List ℕ → Index
idx ks vs = record { keys = ks; values = vs }

-- the index of what a layer holds in a list of that length, where it serves; else what is there
abbrev pub key_index : Seen → List ℕ → List ℕ
key_index v l = cond (serves (length l) v.room.keys) (built_keys l v.held.keys v.held.texts) l

abbrev pub value_index : Seen → List ℕ → List ℕ
value_index v l = cond (serves (length l) v.room.values) (built_values l v.held.values v.held.texts) l

abbrev pub indexed : Seen → Index → Index
indexed v x = record { keys = key_index v x.keys; values = value_index v x.values }

-- ---- looking up, in a table with room for so many entries; h is the number of what is looked up
abbrev pub key_by : List ℕ → ℕ → List ℕ → List ℕ → List ℕ → ℕ → Option ℕ
key_by l room ks ts key h = cond (serves (length l) room) (walked_key l ks ts key h) (find_key 0 ks ts key)

abbrev pub value_by : List ℕ → ℕ → List ℕ → List ℕ → Value → List ℕ → ℕ → Option ℕ
value_by l room vs ts v text h = cond (serves (length l) room) (walked_value l vs ts v text h) (find_value 0 vs ts v text)

-- ---- an index after a tag: an entry that was not found is entry n, and is pushed
abbrev pub pushed_new : Option ℕ → List ℕ → ℕ → ℕ → List ℕ
pushed_new (Some j) l n h = l
pushed_new None l n h = pushed l n h

abbrev pub noted : List ℕ → ℕ → Option ℕ → ℕ → ℕ → List ℕ
noted l room f n h = cond (serves (length l) room) (pushed_new f l n h) l

-- the indexes that serve are those of what the layer holds
pub record Current (v : Seen) (x : Index) : Type 0 where
  pub keys : x.keys ≡ key_index v x.keys
  pub values : x.values ≡ value_index v x.values

-- lists as long as they were, and the same where they do not serve
pub record Kept (room : Figures) (x y : Index) : Type 0 where
  pub keys_long : length y.keys ≡ length x.keys
  pub values_long : length y.values ≡ length x.values
  pub keys_same : serves (length x.keys) room.keys ≡ false → y.keys ≡ x.keys
  pub values_same : serves (length x.values) room.values ≡ false → y.values ≡ x.values
