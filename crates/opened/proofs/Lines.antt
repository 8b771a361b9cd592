-- The lines with numbers: these are laid one behind the other, and the line's end behind the last; and no line is longer than its room.
use mathlib.Core.List.{List, [], ◌∷◌, ◌++◌, append-nil}
use Prim.Native.Nat.{ℕ, ◌≤◌}
use native.Mathlib.Omega.{arith}
use lib.ListN.{length, length-append}
use Rattle.std.specs.Prelude.{Option as Maybe, Some, None}
use Rattle.promise.specs.Answers.{Gives}
use Rattle.printed.specs.Lending.{appended}
use Rattle.printed.specs.Printed.{newline, shown}
use Rattle.opened.specs.Opened.{named, line, layers_head, layers_text, layers_room, version_head, extent_head, keys_head, values_head, features_head, layer_end_text, layer_end_room, feature_head, id_head, feature_text, feature_room}
use Rattle.opened.proofs.Chains.{then_laid, front}
use Rattle.opened.proofs.Spelling.{named_short}

-- ---- how many layers there are
pub layers_short : (n : ℕ) → length (layers_text n) ≤ layers_room
layers_short n = rw (length-append (named layers_head n) (newline ∷ [])) (omega (arith, named_short layers_head n))

-- ---- a feature
module _ (kind : ℕ) (text : List ℕ) (h : feature_room ≤ length text) {r s : ℕ} {l n : List ℕ} (g : Gives (appended (named feature_head kind) 0 text) r l) where
  pub with_id : (id : ℕ) {q : ℕ} {m : List ℕ} → Gives (appended (named id_head id) r l) q m → Gives (appended (newline ∷ []) q m) s n → Gives (shown feature_room (feature_text kind (Some id)) text) s n
  with_id id {q = q} {m = m} k j = by (named feature_head kind) (named id_head id) (named_short feature_head kind) (named_short id_head id) g k
    where
      by : (a b : List ℕ) → length a ≤ 33 → length b ≤ 24 → Gives (appended a 0 text) r l → Gives (appended b r l) q m → Gives (shown feature_room (line (a ++ b)) text) s n
      by a b p o g1 g2 =
          front feature_room (line (a ++ b)) text h
          (then_laid (a ++ b) (newline ∷ []) text 0 (rw (length-append a b) (omega arith)) (then_laid a b text 0 (omega arith) g1 g2) j)

  pub without_id : Gives (appended (newline ∷ []) r l) s n → Gives (shown feature_room (feature_text kind None) text) s n
  without_id j = by (named feature_head kind) (named_short feature_head kind) g
    where
      by : (a : List ℕ) → length a ≤ 33 → Gives (appended a 0 text) r l → Gives (shown feature_room (line (a ++ [])) text) s n
      by a p g1 = rw (append-nil a) (front feature_room (line a) text h (then_laid a (newline ∷ []) text 0 (omega arith) g1 j))

pub feature_short : (kind : ℕ) (id : Maybe ℕ) → length (feature_text kind id) ≤ feature_room
feature_short kind (Some id) = by (named feature_head kind) (named id_head id) (named_short feature_head kind) (named_short id_head id)
  where
    by : (a b : List ℕ) → length a ≤ 33 → length b ≤ 24 → length (line (a ++ b)) ≤ feature_room
    by a b p q = simp length-append (omega arith)
feature_short kind None = by (named feature_head kind) (named_short feature_head kind)
  where
    by : (a : List ℕ) → length a ≤ 33 → length (line (a ++ [])) ≤ feature_room
    by a p = simp length-append (omega arith)

-- ---- a layer's end
module _ (a b c d e : List ℕ) (p : length a ≤ 29) (q : length b ≤ 28) (r : length c ≤ 26) (s : length d ≤ 28) (t : length e ≤ 30) where
  five_short : length (line (a ++ b ++ c ++ d ++ e)) ≤ layer_end_room
  five_short = simp length-append (omega arith)

  five_shown : (text : List ℕ) → layer_end_room ≤ length text → {l1 l2 l3 l4 l5 l6 : List ℕ} {r1 r2 r3 r4 r5 r6 : ℕ}
      → Gives (appended a 0 text) r1 l1 → Gives (appended b r1 l1) r2 l2 → Gives (appended c r2 l2) r3 l3 → Gives (appended d r3 l3) r4 l4 → Gives (appended e r4 l4) r5 l5
      → Gives (appended (newline ∷ []) r5 l5) r6 l6
      → Gives (shown layer_end_room (line (a ++ b ++ c ++ d ++ e)) text) r6 l6
  five_shown text h g1 g2 g3 g4 g5 g6 =
      let f2 = then_laid a b text 0 (omega arith) g1 g2 in
      let f3 = then_laid (a ++ b) c text 0 (simp length-append (omega arith)) f2 g3 in
      let f4 = then_laid (a ++ b ++ c) d text 0 (simp length-append (omega arith)) f3 g4 in
      let f5 = then_laid (a ++ b ++ c ++ d) e text 0 (simp length-append (omega arith)) f4 g5 in
      front layer_end_room (line (a ++ b ++ c ++ d ++ e)) text h (then_laid (a ++ b ++ c ++ d ++ e) (newline ∷ []) text 0 (simp length-append (omega arith)) f5 g6)

module _ (version extent keys values features : ℕ) where
  pub layer_end_short : length (layer_end_text version extent keys values features) ≤ layer_end_room
  layer_end_short =
      five_short (named version_head version) (named extent_head extent) (named keys_head keys) (named values_head values) (named features_head features)
      (named_short version_head version) (named_short extent_head extent) (named_short keys_head keys) (named_short values_head values) (named_short features_head features)

  pub layer_end_shown : (text : List ℕ) → layer_end_room ≤ length text → {l1 l2 l3 l4 l5 l6 : List ℕ} {r1 r2 r3 r4 r5 r6 : ℕ}
      → Gives (appended (named version_head version) 0 text) r1 l1 → Gives (appended (named extent_head extent) r1 l1) r2 l2 → Gives (appended (named keys_head keys) r2 l2) r3 l3
      → Gives (appended (named values_head values) r3 l3) r4 l4 → Gives (appended (named features_head features) r4 l4) r5 l5 → Gives (appended (newline ∷ []) r5 l5) r6 l6
      → Gives (shown layer_end_room (layer_end_text version extent keys values features) text) r6 l6
  layer_end_shown =
      five_shown (named version_head version) (named extent_head extent) (named keys_head keys) (named values_head values) (named features_head features)
      (named_short version_head version) (named_short extent_head extent) (named_short keys_head keys) (named_short values_head values) (named_short features_head features)
