-- Every later call, and every run of them, answers by what is seen of the layer alone (`same_replies`), and leaves what it would have left (`same_following`).
-- So after a run that completes no feature, and then abandoning, they answer as if no feature had been opened (`never_opened`).
use Prim.Native.Nat.{ℕ, suc}
use mathlib.Core.Path.{◌≡◌, refl, sym, ap, subst, ◌∙◌}
use mathlib.Core.Bool.{Bool, true, false, cond}
use mathlib.Core.List.{List, [], ◌∷◌, ◌++◌}
use lib.ListN.{length, take, drop}
use lib.Dec.{eqb}
use Rattle.promise.specs.Answers.{Written, kept}
use Rattle.refusal.specs.declared.Refusal.TheVariants.{Job, State}
use Rattle.refusal.specs.Refusals.{number_of}
use Rattle.refusal.specs.Said.{Said, accepted, refused}
use Rattle.layer.specs.declared.Layer.{Layer}
use Rattle.std.specs.Prelude.{None}
use Rattle.layer.specs.declared.whole_feature.Head.{Head}
use Rattle.layer.specs.Held.{Memory, Seen, Change, refuses, holds, next, onto}
use Rattle.layer.specs.State.{valid}
use Rattle.layer.specs.Calls.{num_features, num_tags, name_of}
use Rattle.layer.specs.TagLists.{tags_of}
use Rattle.layer.specs.Whole.{add_feature}
use Rattle.layer.specs.Lookup.{Index, indexed}
use Rattle.layer.specs.Many.{Many, head_of, heads_ok, and_next, add_all, done, add_features}
use Rattle.layer.proofs.Keeping.{Lengths, sound}
use Rattle.layer.proofs.Checked.{by_feature}
use Rattle.layer.proofs.After.{Sized, seen_lengths}
use Rattle.layer.proofs.Features.{feature_sound, feature_room}
use Rattle.tile.specs.Asking.{layer_size}
use Rattle.tile.specs.Adding.{add_layer}
use Rattle.tile.specs.Holding.{Given, seen_of}
use Rattle.rollback.specs.Runs.{Call, abandons, does, open_ended, layer_after, memory_after}
use Rattle.rollback.specs.Later.{Later, calls, adds, adds_many, asks_state, asks_features, asks_tags, asks_name, asks_size, joins, Reply, changed, added, stands, counted, named, sizes, joined, wrote, reply, left_by, left_by_many, following, replies, following_all}
use Rattle.rollback.proofs.Good.{All}
use Rattle.rollback.proofs.Seen.{sized, answer_of, answer_is, seen_change}
use Rattle.rollback.proofs.Rolled.{unseen}

-- ---- a whole feature leaves parts within the room
feature_sized : (f : Head) (words ws bytes : List ℕ) (v : Seen) → (valid v ≡ true → Lengths v) → All Sized (add_feature f words ws bytes v) v
feature_sized f words ws bytes v L =
    by_feature (λ (x : Change). All Sized x v) f words ws bytes v (λ q. tt) (λ list kind e u shut a h.
    let S = feature_sound f words ws bytes v (sound v e (L e)) list kind shut in
    record { lengths = record { keys = S.lengths.keys; values = S.lengths.values; texts = S.lengths.texts; features = S.lengths.features }; room = rw (feature_room f words (tags_of bytes ws) v) at h })

-- ---- a change that hangs on what is seen
module _ (F : Seen → Change) (in-room : (v : Seen) → (valid v ≡ true → Lengths v) → All Sized (F v) v) (g g₂ : Given) (e : seen_of g ≡ seen_of g₂) where
  same_answer : (wrote (F (seen_of g)) g).answer ≡ (wrote (F (seen_of g₂)) g₂).answer
  same_answer =
      answer_is (F (seen_of g)) g.layer g.memory
      ∙ ap (λ (v : Seen). answer_of (F v) v.layer) e
      ∙ sym (answer_is (F (seen_of g₂)) g₂.layer g₂.memory)

  same_left : seen_of (left_by (wrote (F (seen_of g)) g)) ≡ seen_of (left_by (wrote (F (seen_of g₂)) g₂))
  same_left =
      seen_change (F (seen_of g)) g.layer g.memory (in-room (seen_of g) (seen_lengths g.layer g.memory))
      ∙ ap (λ (v : Seen). next (F v) v) e
      ∙ sym (seen_change (F (seen_of g₂)) g₂.layer g₂.memory (in-room (seen_of g₂) (seen_lengths g₂.layer g₂.memory)))

-- ---- many features
record Same (w w₂ : Written (Said Many) Memory) : Type 0 where
  answer : w.answer ≡ w₂.answer
  left : seen_of (left_by_many w) ≡ seen_of (left_by_many w₂)

-- the layer as it was, in lists as they were
stays : (number place n : ℕ) (g g₂ : Given) → seen_of g ≡ seen_of g₂ → Same (kept (record { number = number; place = place; values = record { layer = g.layer; count = n } }) g.memory) (kept (record { number = number; place = place; values = record { layer = g₂.layer; count = n } }) g₂.memory)
stays number place n g g₂ e =
    record {
      answer = ap (λ (v : Seen). record { number = number; place = place; values = record { layer = v.layer; count = n } }) e;
      left = e;
    }

both_ways : (b : Bool) (w z w₂ z₂ : Written (Said Many) Memory) → Same w w₂ → Same z z₂ → Same (cond b w z) (cond b w₂ z₂)
both_ways true w z w₂ z₂ S Z = S
both_ways false w z w₂ z₂ S Z = Z

no_more : (n : ℕ) (g g₂ : Given) → seen_of g ≡ seen_of g₂ → Same (done n g.layer g.memory) (done n g₂.layer g₂.memory)
no_more n g g₂ e =
    subst (λ (v : Seen). Same (done n g.layer g.memory) (cond (valid v) (kept (accepted (record { layer = g₂.layer; count = n })) g₂.memory) (kept (refused State (record { layer = g₂.layer; count = n })) g₂.memory))) e
    (both_ways (valid (seen_of g)) _ _ _ _ (stays 0 0 n g g₂ e) (stays (number_of State) 0 n g g₂ e))

-- what follows a feature
module _ (n : ℕ) (go : Layer → Memory → Written (Said Many) Memory) (k : (u u₂ : Given) → seen_of u ≡ seen_of u₂ → Same (go u.layer u.memory) (go u₂.layer u₂.memory)) where
  one_more : (x : Change) (g g₂ : Given) → seen_of g ≡ seen_of g₂ → All Sized x (seen_of g) → Same (and_next x g.layer g.memory n go) (and_next x g₂.layer g₂.memory n go)
  one_more (refuses r) g g₂ e S = stays (number_of r) 0 n g g₂ e
  one_more (holds t h) g g₂ e S =
      k (record { layer = t; memory = onto h g.memory }) (record { layer = t; memory = onto h g₂.memory })
      (seen_change (holds t h) g.layer g.memory S
      ∙ ap (next (holds t h)) e
      ∙ sym (seen_change (holds t h) g₂.layer g₂.memory (subst (All Sized (holds t h)) e S)))

many_same : (n : ℕ) (hs words ws bytes : List ℕ) (g g₂ : Given) → seen_of g ≡ seen_of g₂ → Same (add_all n hs words ws bytes g.layer g.memory) (add_all n hs words ws bytes g₂.layer g₂.memory)
many_same n [] words ws bytes g g₂ e = no_more n g g₂ e
many_same n (a ∷ []) words ws bytes g g₂ e = no_more n g g₂ e
many_same n (a ∷ b ∷ []) words ws bytes g g₂ e = no_more n g g₂ e
many_same n (a ∷ b ∷ c ∷ []) words ws bytes g g₂ e = no_more n g g₂ e
many_same n (a ∷ b ∷ c ∷ d ∷ []) words ws bytes g g₂ e = no_more n g g₂ e
many_same n (a ∷ b ∷ c ∷ d ∷ f ∷ []) words ws bytes g g₂ e = no_more n g g₂ e
many_same n (kind ∷ mark ∷ low ∷ high ∷ w ∷ t ∷ hs) words ws bytes g g₂ e =
    let F : Seen → Change = λ v. add_feature (head_of kind mark low high) (take w words) (take t ws) bytes v in
    let go : Layer → Memory → Written (Said Many) Memory = λ u l. add_all (suc n) hs (drop w words) (drop t ws) bytes u l in
    subst (λ (v : Seen). Same (and_next (F (seen_of g)) g.layer g.memory n go) (and_next (F v) g₂.layer g₂.memory n go)) e
    (one_more n go (λ u u₂ q. many_same (suc n) hs (drop w words) (drop t ws) bytes u u₂ q) (F (seen_of g)) g g₂ e
    (feature_sized (head_of kind mark low high) (take w words) (take t ws) bytes (seen_of g) (seen_lengths g.layer g.memory)))

features_same : (hs words ws bytes : List ℕ) (g g₂ : Given) → seen_of g ≡ seen_of g₂ → Same (add_features hs words ws bytes g.layer g.memory) (add_features hs words ws bytes g₂.layer g₂.memory)
features_same hs words ws bytes g g₂ e =
    both_ways (heads_ok (length words) (length ws) hs) _ _ _ _ (many_same 0 hs words ws bytes g g₂ e) (stays (number_of Job) 0 0 g g₂ e)

-- ---- every later call
abbrev index_by : Index → Said Many → Seen → Reply
index_by x a v = added a (cond (eqb a.values.count 0) x (indexed v x))

pub same_reply : (l : Later) (g g₂ : Given) → seen_of g ≡ seen_of g₂ → reply l g ≡ reply l g₂
same_reply (calls c) g g₂ e = ap changed (same_answer (does c) (sized c) g g₂ e)
same_reply (adds f words ws bytes) g g₂ e = ap changed (same_answer (add_feature f words ws bytes) (feature_sized f words ws bytes) g g₂ e)
same_reply (adds_many hs words ws bytes x) g g₂ e =
    let S = features_same hs words ws bytes g g₂ e in
    ap (λ (a : Said Many). index_by x a (seen_of (left_by_many (add_features hs words ws bytes g.layer g.memory)))) S.answer
    ∙ ap (index_by x (add_features hs words ws bytes g₂.layer g₂.memory).answer) S.left
same_reply asks_state g g₂ e = ap (λ (v : Seen). stands (valid v)) e
same_reply asks_features g g₂ e = ap (λ (v : Seen). counted (num_features v)) e
same_reply asks_tags g g₂ e = ap (λ (v : Seen). counted (num_tags v)) e
same_reply asks_name g g₂ e = ap (λ (v : Seen). named (name_of v)) e
same_reply (asks_size t) g g₂ e = ap (λ (v : Seen). sizes (layer_size t v)) e
same_reply (joins t m) g g₂ e = ap (λ (v : Seen). joined (add_layer t v m)) e

pub same_following : (l : Later) (g g₂ : Given) → seen_of g ≡ seen_of g₂ → seen_of (following l g) ≡ seen_of (following l g₂)
same_following (calls c) g g₂ e = same_left (does c) (sized c) g g₂ e
same_following (adds f words ws bytes) g g₂ e = same_left (add_feature f words ws bytes) (feature_sized f words ws bytes) g g₂ e
same_following (adds_many hs words ws bytes x) g g₂ e = (features_same hs words ws bytes g g₂ e).left
same_following asks_state g g₂ e = e
same_following asks_features g g₂ e = e
same_following asks_tags g g₂ e = e
same_following asks_name g g₂ e = e
same_following (asks_size t) g g₂ e = e
same_following (joins t m) g g₂ e = e

pub same_replies : (ls : List Later) (g g₂ : Given) → seen_of g ≡ seen_of g₂ → replies ls g ≡ replies ls g₂
same_replies [] g g₂ e = refl
same_replies (l ∷ ls) g g₂ e =
    ap (λ (r : Reply). r ∷ replies ls (following l g)) (same_reply l g g₂ e)
    ∙ ap (λ (rs : List Reply). reply l g₂ ∷ rs) (same_replies ls (following l g) (following l g₂) (same_following l g g₂ e))

pub same_following_all : (ls : List Later) (g g₂ : Given) → seen_of g ≡ seen_of g₂ → seen_of (following_all ls g) ≡ seen_of (following_all ls g₂)
same_following_all [] g g₂ e = e
same_following_all (l ∷ ls) g g₂ e = same_following_all ls (following l g) (following l g₂) (same_following l g g₂ e)

-- ---- abandoned, as if never opened
abbrev after_calls : List Call → Given → Given
after_calls cs g = record { layer = layer_after cs g.layer g.memory; memory = memory_after cs g.layer g.memory }

module _ (g : Given) (f : g.layer.feature ≡ None) (since : List Call) (n : open_ended since ≡ true) (later : List Later) where
  pub never_opened : replies later (after_calls (since ++ (abandons ∷ [])) g) ≡ replies later g
  never_opened = same_replies later (after_calls (since ++ (abandons ∷ [])) g) g (unseen g.layer g.memory f since n [])

  pub nothing_left : seen_of (following_all later (after_calls (since ++ (abandons ∷ [])) g)) ≡ seen_of (following_all later g)
  nothing_left = same_following_all later (after_calls (since ++ (abandons ∷ [])) g) g (unseen g.layer g.memory f since n [])
