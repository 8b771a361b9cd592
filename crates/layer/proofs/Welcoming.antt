-- `add_known`: a feature that a check refuses, one that has no room, and one that is put. The indexes are built with the first that is put.
use Prim.Native.Nat.{ℕ, ◌≤◌}
use mathlib.Core.Path.{◌≡◌, refl, sym, ap, subst, ◌∙◌}
use mathlib.Core.Bool.{Bool, true, false, cond, not}
use mathlib.Core.List.{List, [], ◌∷◌}
use native.Mathlib.Omega.{arith}
use lib.ListN.{length, take}
use lib.Seq.{take-length}
use borrow.Author.Tests.{not-true, not-false}
use Rattle.promise.specs.Answers.{Gives}
use Rattle.refusal.specs.declared.Refusal.{Refusal}
use Rattle.refusal.specs.declared.Refusal.TheVariants.{Room}
use Rattle.layer.specs.declared.Layer.{Layer}
use Rattle.std.specs.Prelude.{Result, Ok, Err}
use Rattle.layer.specs.Answers.{Changed}
use Rattle.layer.specs.declared.whole_feature.Head.{Head}
use Rattle.layer.specs.Held.{Memory, mem, fits, Seen, seen, Change, holds, written}
use Rattle.layer.specs.Answers.{said_changed}
use Rattle.layer.specs.State.{valid}
use Rattle.layer.specs.Calls.{if_room}
use Rattle.layer.specs.TagLists.{tags_of}
use Rattle.layer.specs.Whole.{feature_put, add_feature}
use Rattle.layer.specs.Lookup.{Index, idx, indexed, Current, Kept}
use Rattle.layer.specs.WholeSteps.{asks, Asking, Decides, Leaves, MayPut, CurrentIf, Known, Given, LeavesFeature}
use Rattle.layer.proofs.Keeping.{Sound, sound}
use Rattle.layer.proofs.After.{seen_lengths}
use Rattle.layer.proofs.Indexing.{kept_same, kept_on, kept_built, current_built}
use Rattle.layer.proofs.Filled.{left_seen, left_valid, left_long}
use Rattle.layer.proofs.Features.{feature_sound, feature_room}
use Rattle.layer.proofs.Barring.{chain_barred, chain_welcome, welcome_chain}

-- ---- as much of the indexes as is built
none_current : (v : Seen) → Current v (idx [] [])
none_current v = record { keys = refl; values = refl }

part_current : (b : Bool) (v : Seen) (ki vi : List ℕ) → CurrentIf b v (idx ki vi) → Current v (idx (take (cond b (length ki) 0) ki) (take (cond b (length vi) 0) vi))
part_current true v ki vi C = rw (take-length ki, take-length vi) C
part_current false v ki vi C = none_current v

pub part_there : (b : Bool) (l : List ℕ) (n : ℕ) → n ≡ cond b (length l) 0 → n ≤ length l
part_there true l n e = omega arith
part_there false l n e = omega arith

built_current : (b : Bool) (v : Seen) (x : Index) → CurrentIf b v x → Current v (cond b x (indexed v x))
built_current true v x C = C
built_current false v x C = current_built v x

built_kept : (b : Bool) (v : Seen) (x : Index) → Kept v.room x (cond b x (indexed v x))
built_kept true v x = kept_same v.room x
built_kept false v x = kept_built v x

module _ (s : Layer) (built : Bool) (f : Head) (words ws bytes ks vs ts fs ki vi : List ℕ) (G : Given s built f words ws bytes (mem ks vs ts fs) (idx ki vi)) where
  abbrev before : Seen
  before = seen s (mem ks vs ts fs)

  abbrev put : Seen
  put = feature_put f words (tags_of bytes ws) before

  pub asking : (a b : ℕ) → a ≡ cond built (length ki) 0 → b ≡ cond built (length vi) 0 → Asking s (length words) ws bytes (mem ks vs ts fs) (idx (take a ki) (take b vi))
  asking a b p q =
      let W = G.welcome in
      record { few = W.few; list = W.list; short = W.short; stands = W.stands; current = rw (p, q) (part_current built before ki vi G.current) }

  by_room : add_feature f words ws bytes before ≡ if_room put
  by_room = welcome_chain s (mem ks vs ts fs) f words ws bytes G.welcome

  module _ (q : Bool) (D : Decides q (length words) (tags_of bytes ws) before) where
    decided : fits put.layer.used put.room ≡ q
    decided = ap (fits put.layer.used) (feature_room f words (tags_of bytes ws) before) ∙ sym (D.decides f words refl)

    pub no_room : not q ≡ true → LeavesFeature (add_feature f words ws bytes before) s (Err (record { refusal = Room; kept = s })) (mem ks vs ts fs) (mem ks vs ts fs) (idx ki vi) (idx ki vi)
    no_room n = rw (by_room, decided, not-true q n) (record { is = refl; layer = refl; memory = refl; index = refl })

    module _ (n : not q ≡ false) (y : Index) (e : y ≡ cond built (idx ki vi) (indexed before (idx ki vi))) where
      fits_put : fits put.layer.used put.room ≡ true
      fits_put = decided ∙ not-false q n

      pub may_put : MayPut s f words ws bytes (mem ks vs ts fs) y
      may_put =
          record {
            welcome = G.welcome;
            room = ap (fits put.layer.used) (sym (feature_room f words (tags_of bytes ws) before)) ∙ fits_put;
            current = rw e (built_current built before (idx ki vi) G.current);
          }

      sound_put : Sound put
      sound_put =
          let W = G.welcome in
          feature_sound f words ws bytes before (sound before W.stands (seen_lengths s (mem ks vs ts fs) W.stands)) W.list W.kind_good W.shut

      module _ (t : Layer) (m : Memory) (z : Index) (L : Leaves put t (mem ks vs ts fs) m y z) where
        now : seen t m ≡ put
        now =
            left_seen put t (mem ks vs ts fs) m y z L sound_put fits_put (feature_room f words (tags_of bytes ws) before)

        pub feature_left : LeavesFeature (add_feature f words ws bytes before) s (Ok t) (mem ks vs ts fs) m (idx ki vi) z
        feature_left =
            let K : Kept before.room (idx ki vi) y = rw e (built_kept built before (idx ki vi)) in
            let A : Kept before.room y z = rw (feature_room f words (tags_of bytes ws) before) at L.kept in
            record {
              held = put.held;
              is = by_room ∙ rw fits_put (ap (λ (l : Layer). holds l put.held) (sym L.layer));
              memory = L.memory;
              stood = G.welcome.stands;
              stands = left_valid put t (mem ks vs ts fs) m y z L sound_put fits_put (feature_room f words (tags_of bytes ws) before);
              long = left_long put t (mem ks vs ts fs) m y z L sound_put fits_put (feature_room f words (tags_of bytes ws) before);
              kept = kept_on before.room (idx ki vi) y z K A;
              current = subst (λ (w : Seen). Current w z) (sym now) L.current;
            }

-- ---- `add_known`
module _ (s : Layer) (stands built : Bool) (f : Head) (words ws bytes : List ℕ) (m : Memory) (x : Index) (K : Known s stands built m x) (r : Result (Unit {0}) Refusal) (g : r ≡ asks s.feature s.strict stands f.kind (length words) ws bytes) where
  pub known_given : r ≡ Ok tt → Given s built f words ws bytes m x
  known_given e = record { welcome = chain_welcome s stands m K.state f words ws bytes r g e; current = K.current }

  pub known_barred : (q : Refusal) → r ≡ Err q → LeavesFeature (add_feature f words ws bytes (seen s m)) s (Err (record { refusal = q; kept = s })) m m x x
  known_barred q e = rw (chain_barred s stands m K.state f words ws bytes r g q e) (record { is = refl; layer = refl; memory = refl; index = refl })

-- ---- `add_feature`: lists of one word are lent for the indexes, which are not used
pub known_none : (s : Layer) (stands : Bool) (m : Memory) → stands ≡ valid (seen s m) → Known s stands true m (idx (0 ∷ []) (0 ∷ []))
known_none s stands m e = record { state = e; current = record { keys = refl; values = refl } }

pub one_answer : (c : Change) (s : Layer) (r : Changed) (m n : Memory) (x y : Index) → LeavesFeature c s r m n x y → Gives (written c s m) (said_changed r) n
one_answer c s (Ok t) m n x y A = rw A.is (record { answer = refl; memory = A.memory })
one_answer c s (Err e) m n x y A = rw A.is (record { answer = ap (λ (l : Layer). said_changed (Err (record { refusal = e.refusal; kept = l }))) A.layer; memory = A.memory })
