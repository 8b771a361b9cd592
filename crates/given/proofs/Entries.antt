-- How keys and values stand in a layer's lists, entry by entry, and what follows of them: how many words they are, that they still stand where texts grow, where each
-- is found, and which fields they make.
use Prim.Native.Nat.{ℕ, suc, ◌+◌, ◌*◌, ◌≤◌}
use mathlib.Core.Path.{◌≡◌, refl, ap, ◌∙◌}
use mathlib.Core.Bool.{Bool, true, false, cond}
use mathlib.Core.List.{List, ◌++◌}
use native.Mathlib.Omega.{arith}
use lib.ListN.{length, drop, length-append, length-drop}
use lib.Seq.{take-append-le, drop-append-le, take-append_seam, drop-append_seam}
use Rattle.std.specs.Prelude.{Option, Some, None}
use Rattle.table.specs.Texts.{same_text}
use Rattle.table.specs.Keys.{find_key}
use Rattle.tile.specs.Texts.{text_field}
use Rattle.tile.specs.Entries.{key_fields}
use Rattle.tile.specs.Holding.{same_bytes}
use Rattle.tile.proofs.Names.{text_bytes}
use Rattle.given.specs.Given.{among, place_of}
use Rattle.given.specs.Messages.{each, key_field}
use Rattle.given.specs.Layout.{TextStands, KeysStand, no_keys, one_key}

-- ---- one text
module _ (texts more : List ℕ) (start len : ℕ) (t : List ℕ) (T : TextStands texts start len t) where
  pub text_more : TextStands (texts ++ more) start len t
  text_more =
      let W = T.within in
      let h : len ≤ length (drop start texts) = rw length-drop (omega arith) in
      record {
        within = omega (arith, length-append texts more);
        there = rw (drop-append-le start texts more (omega arith), take-append-le len (drop start texts) more h) T.there;
      }

pub text_new : (before t behind : List ℕ) → TextStands (before ++ (t ++ behind)) (length before) (length t) t
text_new before t behind =
    record {
      within = omega (arith, length-append before (t ++ behind), length-append t behind);
      there = rw (drop-append_seam before (t ++ behind), take-append_seam t behind);
    }

-- a text is found where its bytes are equal
pub text_found : (texts : List ℕ) (start len : ℕ) (t : List ℕ) → TextStands texts start len t → (key : List ℕ) → same_text texts start len key ≡ same_bytes t key
text_found texts start len t T key = text_bytes texts start len key T.within ∙ ap (λ (x : List ℕ). same_bytes x key) T.there

-- what is found at index j on
abbrev pub found_at : ℕ → Bool → ℕ → Option ℕ
found_at j b place = cond b (Some (j + place)) None

pub found_next : (j : ℕ) (t b : Bool) (place : ℕ) → cond t (Some j) (found_at (suc j) b place) ≡ found_at j (cond t true b) (cond t 0 (suc place))
found_next j true b place = ap Some (omega arith)
found_next j false b place = ap (λ (n : ℕ). cond b (Some n) None) (omega arith)

-- ---- keys
module _ (texts : List ℕ) where
  pub keys_count : (ws : List ℕ) (keys : List (List ℕ)) → KeysStand texts ws keys → length ws ≡ length keys * 2
  keys_count _ _ no_keys = refl
  keys_count _ _ (one_key start len key ws keys T K) = let n = keys_count ws keys K in omega arith

  pub keys_more : (more ws : List ℕ) (keys : List (List ℕ)) → KeysStand texts ws keys → KeysStand (texts ++ more) ws keys
  keys_more more _ _ no_keys = no_keys
  keys_more more _ _ (one_key start len key ws keys T K) = one_key start len key ws keys (text_more texts more start len key T) (keys_more more ws keys K)

  pub keys_append : (ws xs : List ℕ) (keys others : List (List ℕ)) → KeysStand texts ws keys → KeysStand texts xs others → KeysStand texts (ws ++ xs) (keys ++ others)
  keys_append _ xs _ others no_keys O = O
  keys_append _ xs _ others (one_key start len key ws keys T K) O = one_key start len key (ws ++ xs) (keys ++ others) T (keys_append ws xs keys others K O)

  pub keys_found : (ws : List ℕ) (keys : List (List ℕ)) → KeysStand texts ws keys → (j : ℕ) (key : List ℕ) → find_key j ws texts key ≡ found_at j (among same_bytes key keys) (place_of same_bytes key keys)
  keys_found _ _ no_keys j key = refl
  keys_found _ _ (one_key start len k ws keys T K) j key =
      rw (text_found texts start len k T key, keys_found ws keys K (suc j) key) (found_next j (same_bytes k key) (among same_bytes key keys) (place_of same_bytes key keys))

  pub key_fields_lem : (ws : List ℕ) (keys : List (List ℕ)) → KeysStand texts ws keys → key_fields texts ws ≡ each key_field keys
  unfolding text_field
  key_fields_lem _ _ no_keys = refl
  key_fields_lem _ _ (one_key start len key ws keys T K) = rw (T.there, key_fields_lem ws keys K)
