-- A layer beside the same one of another choice: every call keeps the choice (`keeps_choice`), and it is AGAIN or what it is on the ordinary layer, with the choice
-- put back (`beside`). So a run in which AGAIN is not answered leaves what it leaves of an ordinary layer, and its tile has the same bytes (`same_run`).
use Prim.Native.Nat.{ℕ, suc, ◌+◌}
use mathlib.Core.Path.{◌≡◌, refl, sym, ap, subst, ◌∙◌}
use mathlib.Core.Bool.{Bool, true, false, cond, not}
use mathlib.Core.List.{List, [], ◌∷◌, map}
use mathlib.Core.Logic.{◌⊎◌, inl, inr}
use native.Mathlib.Omega.{arith}
use lib.ListN.{length, take, drop}
use lib.Dec.{leb}
use borrow.Author.Tests.{not-true}
use Rattle.promise.specs.Answers.{Written, kept}
use Rattle.promise.proofs.Joined.{never, both}
use Rattle.refusal.specs.declared.Refusal.{Refusal}
use Rattle.refusal.specs.declared.Refusal.TheVariants.{Job, Kind, State, Room, Text as TextRefusal, Utf8, Turn, Again}
use Rattle.refusal.specs.Said.{Said}
use Rattle.utf8.specs.Utf8.{is_utf8}
use Rattle.table.specs.Texts.{short_text}
use Rattle.words.specs.Geometries.{is_kind, max_words}
use Rattle.layer.specs.declared.Figures.{Figures}
use Rattle.std.specs.Prelude.{Option, Some, None}
use Rattle.layer.specs.declared.Layer.{Layer}
use Rattle.layer.specs.declared.whole_feature.Head.{Head}
use Rattle.layer.specs.Held.{Memory, Seen, seen, Change, refuses, holds, check, when_open, fits, written, onto}
use Rattle.layer.specs.State.{valid}
use Rattle.layer.specs.Answers.{Told}
use Rattle.layer.specs.Calls.{is_shut, more_words, Tag, tag_put, if_room, tagged, tagged_once, takes_key, chosen, tags_in}
use Rattle.layer.specs.TagLists.{tags_ok, tags_short, tags_utf8, tags_of, takes_keys}
use Rattle.layer.specs.Whole.{feature_opened, tags_put, feature_shut, feature_put, add_feature}
use Rattle.layer.specs.Lookup.{Index}
use Rattle.layer.specs.Many.{Many, head_of, heads_ok, and_next, done, add_all, add_features, along_index}
use Rattle.layer.proofs.Choosing.{Chose, opened_chose, marked_chose, tag_chose, closed_chose, abandoned_chose, feature_chose}
use Rattle.tile.specs.declared.Tile.{Tile}
use Rattle.tile.specs.Tiles.{TileMemory}
use Rattle.tile.specs.Layers.{layer_field, layer_bytes, name_at}
use Rattle.tile.specs.Asking.{layer_size}
use Rattle.tile.specs.Adding.{add_layer}
use Rattle.tile.specs.Holding.{Given, seen_of}
use Rattle.rollback.specs.Runs.{Call, opens, marks, tags, closes, abandons, does}
use Rattle.rollback.specs.Later.{Later, calls, adds, adds_many, asks_state, asks_features, asks_tags, asks_name, asks_size, joins, Reply, changed, added, counted, named, sizes, joined, reply, left_by, left_by_many, following, replies, following_all}
use Rattle.rollback.specs.Strict.{choice, said_with, many_with, told_with, with_choice, is_again, says_again, never_again}

-- ---- the choice is kept
chosen_same : (s : Layer) (b : Bool) → s.strict ≡ b → chosen b s ≡ s
chosen_same s b e = subst (λ (c : Bool). chosen c s ≡ s) e refl

call_chose : (c : Call) (v : Seen) → Chose v.layer.strict (does c v)
call_chose (opens kind words) v = opened_chose v kind words
call_chose (marks low high) v = marked_chose v low high
call_chose (tags t g) v = tag_chose v t
call_chose closes v = closed_chose v
call_chose abandons v = abandoned_chose v

-- what a change leaves
left_chose : (s : Layer) (m : Memory) (x : Change) → Chose s.strict x → (written x s m).answer.values.strict ≡ s.strict
left_chose s m (refuses r) c = refl
left_chose s m (holds t h) c = c

next_chose : (b : Bool) (x : Change) (s : Layer) (m : Memory) (n : ℕ) (go : Layer → Memory → Written (Said Many) Memory) → s.strict ≡ b → Chose b x → ((u : Layer) (l : Memory) → u.strict ≡ b → (go u l).answer.values.layer.strict ≡ b) → (and_next x s m n go).answer.values.layer.strict ≡ b
next_chose b (refuses r) s m n go e c k = e
next_chose b (holds t h) s m n go e c k = k t (onto h m) c

either_chose : (t b : Bool) (w z : Written (Said Many) Memory) → w.answer.values.layer.strict ≡ b → z.answer.values.layer.strict ≡ b → (cond t w z).answer.values.layer.strict ≡ b
either_chose true b w z e f = e
either_chose false b w z e f = f

done_chose : (n : ℕ) (s : Layer) (m : Memory) → (done n s m).answer.values.layer.strict ≡ s.strict
done_chose n s m = either_chose (valid (seen s m)) s.strict _ _ refl refl

all_chose : (n : ℕ) (hs words ws bytes : List ℕ) (s : Layer) (m : Memory) (b : Bool) → s.strict ≡ b → (add_all n hs words ws bytes s m).answer.values.layer.strict ≡ b
all_chose n [] words ws bytes s m b e = done_chose n s m ∙ e
all_chose n (x ∷ []) words ws bytes s m b e = done_chose n s m ∙ e
all_chose n (x ∷ y ∷ []) words ws bytes s m b e = done_chose n s m ∙ e
all_chose n (x ∷ y ∷ z ∷ []) words ws bytes s m b e = done_chose n s m ∙ e
all_chose n (x ∷ y ∷ z ∷ w ∷ []) words ws bytes s m b e = done_chose n s m ∙ e
all_chose n (x ∷ y ∷ z ∷ w ∷ t ∷ []) words ws bytes s m b e = done_chose n s m ∙ e
all_chose n (kind ∷ mark ∷ low ∷ high ∷ w ∷ t ∷ hs) words ws bytes s m b e =
    next_chose b (add_feature (head_of kind mark low high) (take w words) (take t ws) bytes (seen s m)) s m n (λ u l. add_all (suc n) hs (drop w words) (drop t ws) bytes u l) e
    (subst (λ (c : Bool). Chose c (add_feature (head_of kind mark low high) (take w words) (take t ws) bytes (seen s m))) e (feature_chose (seen s m) (head_of kind mark low high) (take w words) (take t ws) bytes))
    (λ u l k. all_chose (suc n) hs (drop w words) (drop t ws) bytes u l b k)

many_chose : (hs words ws bytes : List ℕ) (s : Layer) (m : Memory) → (add_features hs words ws bytes s m).answer.values.layer.strict ≡ s.strict
many_chose hs words ws bytes s m = either_chose (heads_ok (length words) (length ws) hs) s.strict _ _ (all_chose 0 hs words ws bytes s m s.strict refl) refl

pub keeps_choice : (l : Later) (g : Given) → (following l g).layer.strict ≡ g.layer.strict
keeps_choice (calls c) g = left_chose g.layer g.memory (does c (seen_of g)) (call_chose c (seen_of g))
keeps_choice (adds f words ws bytes) g = left_chose g.layer g.memory (add_feature f words ws bytes (seen_of g)) (feature_chose (seen_of g) f words ws bytes)
keeps_choice (adds_many hs words ws bytes x) g = many_chose hs words ws bytes g.layer g.memory
keeps_choice asks_state g = refl
keeps_choice asks_features g = refl
keeps_choice asks_tags g = refl
keeps_choice asks_name g = refl
keeps_choice (asks_size t) g = refl
keeps_choice (joins t m) g = refl

-- ---- a change beside that of the ordinary layer: AGAIN, or the same with the choice put back
abbrev choose : Bool → Seen → Seen
choose b v = record { layer = chosen b v.layer; held = v.held; room = v.room }

abbrev put_back : Bool → Change → Change
put_back b (refuses r) = refuses r
put_back b (holds t h) = holds (chosen b t) h

abbrev Beside : Bool → Change → Change → Type 0
Beside b x y = (x ≡ refuses Again) ⊎ (x ≡ put_back b y)

valid_choice : (b : Bool) (v : Seen) → valid (choose b v) ≡ valid v
unfolding valid
valid_choice b v = refl

tags_choice : (b : Bool) (o : Figures) (ts : List Tag) (v : Seen) → tags_put o ts (choose b v) ≡ choose b (tags_put o ts v)
tags_choice b o [] v = refl
tags_choice b o (t ∷ ts) v = tags_choice b o ts (tag_put o t v)

put_choice : (b : Bool) (f : Head) (words : List ℕ) (ts : List Tag) (v : Seen) → feature_put f words ts (choose b v) ≡ choose b (feature_put f words ts v)
put_choice b f words ts v = ap feature_shut (tags_choice b v.layer.used ts (feature_opened f words v))

module _ (b : Bool) where
  past_check : (s t : Bool) (q : Refusal) (x y : Change) → s ≡ t → Beside b x y → Beside b (check s q x) (check t q y)
  past_check true t q x y e B = rw (← e) B
  past_check false t q x y e B = rw (← e) (inr refl)

  past_open : (f : Option Figures) (go went : Figures → Change) → ((o : Figures) → Beside b (go o) (went o)) → Beside b (when_open f go) (when_open f went)
  past_open None go went B = inr refl
  past_open (Some o) go went B = B o

  past_again : (t : Bool) (x y : Change) → Beside b x y → Beside b (check t Again x) y
  past_again true x y B = B
  past_again false x y B = inl refl

  module _ (v : Seen) where
    abbrev own : Seen
    own = choose b v

    abbrev plain : Seen
    plain = choose false v

    abbrev after_state : (x y : Change) → Beside b x y → Beside b (check (valid own) State x) (check (valid plain) State y)
    after_state x y B = past_check (valid own) (valid plain) State x y (valid_choice b v ∙ sym (valid_choice false v)) B

    tag_beside : (t : Tag) (o : Figures) → Beside b (tagged_once t own o) (tagged_once t plain o)
    tag_beside t o =
        past_again (takes_key b v.held o.features t.key) (tagged t own o) (tagged t plain o)
        (past_check (fits (tag_put o t v).layer.used v.room) (fits (tag_put o t v).layer.used v.room) Room _ _ refl (inr refl))

    call_beside : (c : Call) → Beside b (does c own) (does c plain)
    call_beside (opens kind words) =
        past_check (is_kind kind) (is_kind kind) Kind _ _ refl (after_state _ _ (
        past_check (is_shut v.layer.feature) (is_shut v.layer.feature) Turn _ _ refl (
        past_check (leb (length words) max_words) (leb (length words) max_words) Room _ _ refl (
        past_check (fits (more_words v.layer.used (6 + length words)) v.room) (fits (more_words v.layer.used (6 + length words)) v.room) Room _ _ refl (inr refl)))))
    call_beside (marks low high) = after_state _ _ (past_open v.layer.feature _ _ (λ o. inr refl))
    call_beside (tags t g) =
        after_state _ _ (
        past_check (short_text (length t.key)) (short_text (length t.key)) TextRefusal _ _ refl (
        past_check (short_text (length t.text)) (short_text (length t.text)) TextRefusal _ _ refl (
        past_check (is_utf8 t.key) (is_utf8 t.key) Utf8 _ _ refl (
        past_check (is_utf8 t.text) (is_utf8 t.text) Utf8 _ _ refl (
        past_open v.layer.feature _ _ (λ o. tag_beside t o))))))
    call_beside closes = after_state _ _ (past_open v.layer.feature _ _ (λ o. inr refl))
    call_beside abandons = after_state _ _ (past_open v.layer.feature _ _ (λ o. inr refl))

  module _ (f : Head) (words ws bytes : List ℕ) (v : Seen) where
    -- the figures after it, whatever the choice, and the layer of that choice
    abbrev put : Seen
    put = feature_put f words (tags_of bytes ws) v

    -- behind AGAIN
    abbrev few : Seen → Change
    few w = check (leb (length words) max_words) Room (if_room (feature_put f words (tags_of bytes ws) w))

    room_beside : Beside b (if_room (feature_put f words (tags_of bytes ws) (choose b v))) (if_room (feature_put f words (tags_of bytes ws) (choose false v)))
    room_beside =
        subst (λ (w : Seen). Beside b (if_room w) (if_room (feature_put f words (tags_of bytes ws) (choose false v)))) (sym (put_choice b f words (tags_of bytes ws) v))
        (subst (λ (w : Seen). Beside b (if_room (choose b put)) (if_room w)) (sym (put_choice false f words (tags_of bytes ws) v))
        (past_check (fits put.layer.used put.room) (fits put.layer.used put.room) Room _ _ refl (inr refl)))

    feature_beside : Beside b (add_feature f words ws bytes (choose b v)) (add_feature f words ws bytes (choose false v))
    feature_beside =
        past_check (tags_ok (length bytes) ws) (tags_ok (length bytes) ws) Job _ _ refl (
        past_check (is_kind f.kind) (is_kind f.kind) Kind _ _ refl (
        after_state v _ _ (
        past_check (tags_short ws) (tags_short ws) TextRefusal _ _ refl (
        past_check (tags_utf8 (tags_of bytes ws)) (tags_utf8 (tags_of bytes ws)) Utf8 _ _ refl (
        past_check (is_shut v.layer.feature) (is_shut v.layer.feature) Turn _ _ refl (
        past_again (takes_keys b bytes ws) (few (choose b v)) (few (choose false v)) (
        past_check (leb (length words) max_words) (leb (length words) max_words) Room _ _ refl room_beside)))))))

-- ---- many features
abbrev many_back : Bool → Written (Said Many) Memory → Written (Said Many) Memory
many_back b w = record { answer = said_with (many_with b) w.answer; memory = w.memory }

abbrev BesideMany : Bool → Written (Said Many) Memory → Written (Said Many) Memory → Type 0
BesideMany b w z = (is_again w.answer.number ≡ true) ⊎ (w ≡ many_back b z)

module _ (b : Bool) where
  either_beside : (s t : Bool) (w x y z : Written (Said Many) Memory) → s ≡ t → BesideMany b w y → BesideMany b x z → BesideMany b (cond s w x) (cond t y z)
  either_beside true t w x y z e B C = rw (← e) B
  either_beside false t w x y z e B C = rw (← e) C

  done_beside : (n : ℕ) (s : Layer) (m : Memory) → BesideMany b (done n (chosen b s) m) (done n (chosen false s) m)
  done_beside n s m =
      either_beside (valid (seen (chosen b s) m)) (valid (seen (chosen false s) m)) _ _ _ _ (valid_choice b (seen s m) ∙ sym (valid_choice false (seen s m))) (inr refl) (inr refl)

  next_beside : (x y : Change) (s : Layer) (m : Memory) (n : ℕ) (go : Layer → Memory → Written (Said Many) Memory) → Beside b x y → Chose false y → ((u : Layer) (l : Memory) → BesideMany b (go (chosen b u) l) (go (chosen false u) l)) → BesideMany b (and_next x (chosen b s) m n go) (and_next y (chosen false s) m n go)
  next_beside x y s m n go (inl e) c k = rw e (inl refl)
  next_beside x (refuses r) s m n go (inr e) c k = rw e (inr refl)
  next_beside x (holds t h) s m n go (inr e) c k =
      rw e (subst (λ (u : Layer). BesideMany b (go (chosen b t) (onto h m)) (go u (onto h m))) (chosen_same t false c) (k t (onto h m)))

  all_beside : (n : ℕ) (hs words ws bytes : List ℕ) (s : Layer) (m : Memory) → BesideMany b (add_all n hs words ws bytes (chosen b s) m) (add_all n hs words ws bytes (chosen false s) m)
  all_beside n [] words ws bytes s m = done_beside n s m
  all_beside n (x ∷ []) words ws bytes s m = done_beside n s m
  all_beside n (x ∷ y ∷ []) words ws bytes s m = done_beside n s m
  all_beside n (x ∷ y ∷ z ∷ []) words ws bytes s m = done_beside n s m
  all_beside n (x ∷ y ∷ z ∷ w ∷ []) words ws bytes s m = done_beside n s m
  all_beside n (x ∷ y ∷ z ∷ w ∷ t ∷ []) words ws bytes s m = done_beside n s m
  all_beside n (kind ∷ mark ∷ low ∷ high ∷ w ∷ t ∷ hs) words ws bytes s m =
      let f = head_of kind mark low high in
      next_beside (add_feature f (take w words) (take t ws) bytes (seen (chosen b s) m)) (add_feature f (take w words) (take t ws) bytes (seen (chosen false s) m)) s m n
      (λ u l. add_all (suc n) hs (drop w words) (drop t ws) bytes u l)
      (feature_beside b f (take w words) (take t ws) bytes (seen s m))
      (feature_chose (seen (chosen false s) m) f (take w words) (take t ws) bytes)
      (λ u l. all_beside (suc n) hs (drop w words) (drop t ws) bytes u l)

  many_beside : (hs words ws bytes : List ℕ) (s : Layer) (m : Memory) → BesideMany b (add_features hs words ws bytes (chosen b s) m) (add_features hs words ws bytes (chosen false s) m)
  many_beside hs words ws bytes s m =
      either_beside (heads_ok (length words) (length ws) hs) (heads_ok (length words) (length ws) hs) _ _ _ _ refl (all_beside 0 hs words ws bytes s m) (inr refl)

-- ---- every call: where it is not AGAIN, its answer and what it leaves are those of the ordinary layer, with the choice put back
pub record SameBut (b : Bool) (l : Later) (g : Given) : Type 0 where
  pub answered : reply l (choice b g) ≡ with_choice b (reply l (choice false g))
  pub left : following l (choice b g) ≡ choice b (following l (choice false g))

abbrev SameChange : Bool → Written (Said Layer) Memory → Written (Said Layer) Memory → Type 0
SameChange b w z = (changed w.answer ≡ with_choice b (changed z.answer)) × (left_by w ≡ choice b (left_by z))

change_same : (b : Bool) (s : Layer) (m : Memory) (x y : Change) → Beside b x y → is_again (written x (chosen b s) m).answer.number ≡ false → SameChange b (written x (chosen b s) m) (written y (chosen false s) m)
change_same b s m x y (inl e) n = never (sym (rw e at n))
change_same b s m x (refuses r) (inr e) n = rw e (refl, refl)
change_same b s m x (holds t h) (inr e) n = rw e (refl, refl)

many_same : (b : Bool) (x : Index) (w z : Written (Said Many) Memory) → BesideMany b w z → is_again w.answer.number ≡ false → (added (along_index w x).answer (along_index w x).memory.index ≡ with_choice b (added (along_index z x).answer (along_index z x).memory.index)) × (left_by_many w ≡ choice b (left_by_many z))
many_same b x w z (inl e) n = never (sym n ∙ e)
many_same b x w z (inr e) n = rw e (refl, refl)

-- questions
told_with_lem : {X : Type 0} (b : Bool) (v : Seen) (x y x' y' : Said (Told X)) → x ≡ said_with (told_with b) x' → y ≡ said_with (told_with b) y' → cond (valid (choose b v)) x y ≡ said_with (told_with b) (cond (valid (choose false v)) x' y')
told_with_lem {X = X} b v x y x' y' p q = rw (valid_choice b v, valid_choice false v) (by (valid v))
  where
    by : (t : Bool) → cond t x y ≡ said_with (told_with b) (cond t x' y')
    by true = p
    by false = q

tags_with : (b : Bool) (v : Seen) (f : Option Figures) → tags_in f (choose b v) ≡ said_with (told_with b) (tags_in f (choose false v))
tags_with b v None = refl
tags_with b v (Some o) = refl

-- a tile reads no choice
size_choice : (b : Bool) (t : Tile) (v : Seen) → layer_size t (choose b v) ≡ layer_size t v
unfolding valid layer_field layer_bytes
size_choice b t v = refl

joined_choice : (b : Bool) (t : Tile) (v : Seen) (m : TileMemory) → add_layer t (choose b v) m ≡ add_layer t v m
unfolding add_layer valid layer_field layer_bytes name_at
joined_choice b t v m = refl

pub beside : (l : Later) (b : Bool) (g : Given) → says_again (reply l (choice b g)) ≡ false → SameBut b l g
beside (calls c) b g n =
    let S = change_same b g.layer g.memory (does c (choose b (seen_of g))) (does c (choose false (seen_of g))) (call_beside b (seen_of g) c) n in
    record { answered = S.0; left = S.1 }
beside (adds f words ws bytes) b g n =
    let S = change_same b g.layer g.memory (add_feature f words ws bytes (choose b (seen_of g))) (add_feature f words ws bytes (choose false (seen_of g))) (feature_beside b f words ws bytes (seen_of g)) n in
    record { answered = S.0; left = S.1 }
beside (adds_many hs words ws bytes x) b g n =
    let S = many_same b x (add_features hs words ws bytes (chosen b g.layer) g.memory) (add_features hs words ws bytes (chosen false g.layer) g.memory) (many_beside b hs words ws bytes g.layer g.memory) n in
    record { answered = S.0; left = S.1 }
beside asks_state b g n = record { answered = rw (valid_choice b (seen_of g), valid_choice false (seen_of g)); left = refl }
beside asks_features b g n = record { answered = ap counted (told_with_lem b (seen_of g) _ _ _ _ refl refl); left = refl }
beside asks_tags b g n = record { answered = ap counted (told_with_lem b (seen_of g) _ _ _ _ (tags_with b (seen_of g) g.layer.feature) refl); left = refl }
beside asks_name b g n = record { answered = ap named (told_with_lem b (seen_of g) _ _ _ _ refl refl); left = refl }
beside (asks_size t) b g n = record { answered = ap sizes (size_choice b t (seen_of g) ∙ sym (size_choice false t (seen_of g))); left = refl }
beside (joins t m) b g n = record { answered = ap joined (joined_choice b t (seen_of g) m ∙ sym (joined_choice false t (seen_of g) m)); left = refl }

-- ---- a run without AGAIN
pub record SameRun (b : Bool) (ls : List Later) (g : Given) : Type 0 where
  pub answered : replies ls (choice b g) ≡ map (with_choice b) (replies ls (choice false g))
  pub left : following_all ls (choice b g) ≡ choice b (following_all ls (choice false g))

pub same_run : (ls : List Later) (b : Bool) (g : Given) → never_again (replies ls (choice b g)) ≡ true → SameRun b ls g
same_run [] b g n = record { answered = refl; left = refl }
same_run (l ∷ ls) b g n =
    let p = both (not (says_again (reply l (choice b g)))) (never_again (replies ls (following l (choice b g)))) n in
    let S = beside l b g (not-true (says_again (reply l (choice b g))) p.0) in
    let u = following l (choice false g) in
    let e : choice false u ≡ u = ap (λ (s : Layer). record { layer = s; memory = u.memory }) (chosen_same u.layer false (keeps_choice l (choice false g))) in
    let R = same_run ls b u (subst (λ (h : Given). never_again (replies ls h) ≡ true) S.left p.1) in
    record {
      answered =
          ap (λ (r : Reply). r ∷ replies ls (following l (choice b g))) S.answered
          ∙ ap (λ (h : Given). with_choice b (reply l (choice false g)) ∷ replies ls h) S.left
          ∙ ap (λ (rs : List Reply). with_choice b (reply l (choice false g)) ∷ rs) (R.answered ∙ ap (λ (h : Given). map (with_choice b) (replies ls h)) e);
      left = ap (following_all ls) S.left ∙ R.left ∙ ap (λ (h : Given). choice b (following_all ls h)) e;
    }

-- so the tile that such a layer is added to has the bytes that the ordinary layer gives
pub same_bytes : (ls : List Later) (b : Bool) (g : Given) → never_again (replies ls (choice b g)) ≡ true → (t : Tile) (m : TileMemory) → add_layer t (seen_of (following_all ls (choice b g))) m ≡ add_layer t (seen_of (following_all ls (choice false g))) m
same_bytes ls b g n t m =
    ap (λ (h : Given). add_layer t (seen_of h) m) (same_run ls b g n).left ∙ joined_choice b t (seen_of (following_all ls (choice false g))) m
