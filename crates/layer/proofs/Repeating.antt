-- AGAIN, at the returns and turns of the functions of `once`, and what its steps ask for.
use Prim.Native.Nat.{ℕ, ◌+◌, ◌-◌, ◌*◌, ◌/◌, ◌≤◌, ◌<◌}
use mathlib.Core.Path.{◌≡◌, sym, ap, ◌∙◌}
use mathlib.Core.Bool.{Bool, true, false, cond, not}
use mathlib.Core.List.{List, [], ◌++◌}
use native.Mathlib.Omega.{arith}
use lib.ListN.{length, get_or, take, drop, length-drop}
use lib.Seq.{length-take-le, get_or-take, take-add, take_all, drop_at}
use borrow.Author.Tests.{lt-ltb, le-ltb, not-true, not-false}
use Rattle.promise.specs.Answers.{Gives}
use Rattle.promise.specs.Widened.{Wide}
use Rattle.refusal.specs.declared.Refusal.{Refusal}
use Rattle.refusal.specs.declared.Refusal.TheVariants.{State, Text as TextRefusal, Utf8, Again}
use Rattle.refusal.specs.Said.{Said}
use Rattle.table.specs.Texts.{short_text, same_text, text_of}
use Rattle.utf8.specs.Utf8.{is_utf8}
use Rattle.layer.specs.declared.Figures.{Figures}
use Rattle.layer.specs.declared.Layer.{Layer}
use Rattle.std.specs.Prelude.{Some, Result, Ok, Err}
use Rattle.layer.specs.Held.{Memory, mem, held_by, seen, Change, check, written}
use Rattle.layer.specs.State.{valid}
use Rattle.layer.specs.Answers.{said_created}
use Rattle.layer.specs.Calls.{Tag, is_key, has_key, last_tags, takes_key, tagged, tagged_once, add_tag, created, chosen, strictly, created_strict}
use Rattle.layer.specs.TagLists.{key_given, keys_once, once_at, takes_keys}
use Rattle.layer.specs.Steps.{Ready, TagsThere}
use Rattle.layer.proofs.Fitting.{fit}
use Rattle.layer.proofs.Chains.{one_open}
use Rattle.layer.proofs.Listing.{five}

-- ---- `is_key`
module _ (ks ts : List ℕ) (k : ℕ) (key : List ℕ) where
  pub key_beyond : length ks / 2 ≤ k → false ≡ is_key ks ts k key
  key_beyond h = rw (le-ltb k (length ks / 2) h)

  pub key_compared : k < length ks / 2 → (s n : ℕ) → Wide (get_or ks (k * 2) 0) s → Wide (get_or ks (k * 2 + 1) 0) n → (r : Bool) → r ≡ same_text ts s n key → r ≡ is_key ks ts k key
  key_compared h s n p q r g = rw (lt-ltb k (length ks / 2) h, ← p.same, ← q.same) g

-- ---- `takes_key`
-- the last tag words, as they are lent
tags_part : (fs : List ℕ) (w o n : ℕ) → w ≤ length fs → o + 6 + get_or fs (o + 4) 0 ≤ w → Wide (get_or fs (o + 4) 0) n → take (w - (w - n)) (drop (w - n) fs) ≡ last_tags (take w fs) o
tags_part fs w o n h s p =
    let l = length-take-le w fs h in
    let g = get_or-take w fs (o + 4) 0 (omega arith) in
    let a : n ≡ get_or fs (o + 4) 0 = p.same in
    let e : w ≡ (w - n) + (w - (w - n)) = omega arith in
    let t : take w fs ≡ take (w - n) fs ++ take (w - (w - n)) (drop (w - n) fs) = ap (λ (k : ℕ). take k fs) e ∙ take-add (w - n) (w - (w - n)) fs in
    let d : drop (w - n) (take w fs) ≡ take (w - (w - n)) (drop (w - n) fs) = ap (drop (w - n)) t ∙ drop_at (take (w - n) fs) (take (w - (w - n)) (drop (w - n) fs)) (w - n) (length-take-le (w - n) fs (omega arith)) in
    rw (l, g, ← a, d)

pub new_told : (u o : Figures) (ks ts fs key : List ℕ) → TagsThere u o ks ts fs → (n : ℕ) → Wide (get_or fs (o.features + 4) 0) n → (b : Bool) → b ≡ has_key (take (u.keys * 2) ks) (take u.texts ts) (take (u.features - (u.features - n)) (drop (u.features - n) fs)) key → not b ≡ takes_key true (held_by u (mem ks [] ts fs)) o.features key
new_told u o ks ts fs key T n p b g = rw (← tags_part fs u.features o.features n T.in_features T.six p, ← g)

-- ---- the two sorts of layer
module _ (b : Bool) (s : Layer) (m : Memory) (h : Memory) (at : ℕ) (key : List ℕ) (c : Change) (r : Said Layer) (n : Memory) where
  as_strict : b ≡ true → Gives (written (check (takes_key true h at key) Again c) s m) r n → Gives (written (check (takes_key b h at key) Again c) s m) r n
  as_strict e g = rw e g

  as_ordinary : b ≡ false → Gives (written c s m) r n → Gives (written (check (takes_key b h at key) Again c) s m) r n
  as_ordinary e g = rw e g

-- what a tag's call has told
pub tags_there : (s : Layer) (o : Figures) (key text : ℕ) (ks vs ts fs : List ℕ) → Ready s o key text (mem ks vs ts fs) → TagsThere s.used o ks ts fs
tags_there s o key text ks vs ts fs R =
    let F = fit s.used (length ks) (length vs) (length ts) (length fs) R.room in
    record { few = F.few_keys; in_keys = F.in_keys; in_texts = F.in_texts; in_features = F.in_features; six = R.six }

-- ---- a list of tags
pub once_told : (bytes ws : List ℕ) (i a l : ℕ) → Wide (get_or ws i 0) a → Wide (get_or ws (i + 1) 0) l → (b : Bool) → b ≡ key_given bytes (take (length ws - (i + 5)) (drop (i + 5) ws)) (take (a + l - a) (drop a bytes)) → not b ≡ once_at bytes ws i
once_told bytes ws i a l x y b g =
    let e : a + l - a ≡ l = omega arith in
    let r = take_all (length ws - (i + 5)) (drop (i + 5) ws) (omega (arith, length-drop (i + 5) ws)) in
    let z : b ≡ key_given bytes (drop (i + 5) ws) (text_of bytes (get_or ws i 0) (get_or ws (i + 1) 0)) = g ∙ rw (r, e, x.same, y.same) in
    rw (← z)

pub once_step : (bytes ws : List ℕ) (i : ℕ) → i + 5 ≤ length ws → keys_once bytes (drop i ws) ≡ cond (once_at bytes ws i) (keys_once bytes (drop (i + 5) ws)) false
once_step bytes ws i h = rw (five ws i h)

module _ (strict : Bool) (bytes ws : List ℕ) where
  pub all_taken : not strict ≡ true → true ≡ takes_keys strict bytes ws
  all_taken h = rw (not-true strict h)

  pub taken_once : not strict ≡ false → (b : Bool) → b ≡ keys_once bytes ws → b ≡ takes_keys strict bytes ws
  taken_once h b g = rw (not-false strict h) g

-- ---- `Layer::new_strict`
module _ (name : List ℕ) (extent : ℕ) (ts us : List ℕ) (r : Result Layer Refusal) (g : Gives (created name extent ts) (said_created r) us) where
  pub strict_done : (s t : Layer) → r ≡ Ok s → t ≡ chosen true s → Gives (created_strict name extent ts) (said_created (Ok t)) us
  strict_done s t e c = record { answer = ap (λ (x : Layer). said_created (Ok x)) c ∙ ap strictly (ap said_created (sym e) ∙ g.answer); memory = g.memory }

  pub strict_refused : (q : Refusal) → r ≡ Err q → Gives (created_strict name extent ts) (said_created (Err q)) us
  strict_refused q e = record { answer = ap strictly (ap said_created (sym e) ∙ g.answer); memory = g.memory }

-- ---- `add_tag`: where all is asked up to TURN, it is what a tag of the open feature makes
pub record TagAsked (t : Tag) (s : Layer) (m : Memory) (o : Figures) : Type 0 where
  pub stands : valid (seen s m) ≡ true
  pub short_key : short_text (length t.key) ≡ true
  pub short_text_lem : short_text (length t.text) ≡ true
  pub utf8_key : is_utf8 t.key ≡ true
  pub utf8_text : is_utf8 t.text ≡ true
  pub since : s.feature ≡ Some o

past : (b : Bool) (q : Refusal) (c : Change) (s : Layer) (m : Memory) (r : Said Layer) (n : Memory) → b ≡ true → Gives (written c s m) r n → Gives (written (check b q c) s m) r n
past b q c s m r n e g = rw e g

module _ (t : Tag) (s : Layer) (m : Memory) (o : Figures) (A : TagAsked t s m o) (r : Said Layer) (n : Memory) where
  tag_asked : Gives (written (tagged_once t (seen s m) o) s m) r n → Gives (written (add_tag t (seen s m)) s m) r n
  tag_asked g =
      past (valid (seen s m)) State _ s m r n A.stands
      (past (short_text (length t.key)) TextRefusal _ s m r n A.short_key
      (past (short_text (length t.text)) TextRefusal _ s m r n A.short_text_lem
      (past (is_utf8 t.key) Utf8 _ s m r n A.utf8_key
      (past (is_utf8 t.text) Utf8 _ s m r n A.utf8_text
      (one_open s.feature (λ p. tagged_once t (seen s m) p) s m o A.since r n g)))))

  pub tag_strictly : s.strict ≡ true → Gives (written (check (takes_key true (seen s m).held o.features t.key) Again (tagged t (seen s m) o)) s m) r n → Gives (written (add_tag t (seen s m)) s m) r n
  tag_strictly e g = tag_asked (as_strict s.strict s m (seen s m).held o.features t.key (tagged t (seen s m) o) r n e g)

  pub tag_plainly : s.strict ≡ false → Gives (written (tagged t (seen s m) o) s m) r n → Gives (written (add_tag t (seen s m)) s m) r n
  tag_plainly e g = tag_asked (as_ordinary s.strict s m (seen s m).held o.features t.key (tagged t (seen s m) o) r n e g)
