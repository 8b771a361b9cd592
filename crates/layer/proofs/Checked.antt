-- The calls that are given texts, taken apart: what holds of every refusal and of what is put holds of the call.
use Prim.Native.Nat.{ℕ}
use mathlib.Core.Path.{◌≡◌, ap}
use mathlib.Core.Bool.{true, false}
use mathlib.Core.List.{List}
use native.Mathlib.Omega.{arith}
use lib.ListN.{length}
use lib.Dec.{leb}
use Rattle.promise.proofs.Joined.{both_is}
use Rattle.refusal.specs.declared.Refusal.{Refusal}
use Rattle.refusal.specs.declared.Refusal.TheVariants.{Job, Kind, State, Room, Text as TextRefusal, Utf8, Turn, Again}
use Rattle.refusal.specs.Refusals.{number_of}
use Rattle.table.specs.Texts.{short_text}
use Rattle.utf8.specs.Utf8.{is_utf8}
use Rattle.words.specs.Geometries.{is_kind, max_words}
use Rattle.layer.specs.declared.Figures.{Figures}
use Rattle.std.specs.Prelude.{Some, None}
use Rattle.layer.specs.declared.whole_feature.Head.{Head}
use Rattle.layer.specs.Held.{Seen, Change, refuses, holds, fits}
use Rattle.layer.specs.State.{valid}
use Rattle.layer.specs.Calls.{is_shut, Tag, tag_put, takes_key, add_tag}
use Rattle.layer.specs.TagLists.{tags_ok, tags_short, tag_utf8, tags_utf8, tags_of, takes_keys}
use Rattle.layer.specs.Whole.{feature_put, add_feature}
use Rattle.layer.proofs.Keeping.{by_test, by_check, by_open, is_shut_lem}

-- STATE comes only where the layer breaks a rule
abbrev pub Fair : Seen → Refusal → Type 0
Fair v q = q ≡ State → valid v ≡ false

other : (v : Seen) (q : Refusal) → (number_of q ≡ 4 → ⊥) → Fair v q
other v q n e = absurd (n (ap number_of e))

-- a tag
module _ (P : Change → Type 0) (t : Tag) (v : Seen) (no : (q : Refusal) → Fair v q → P (refuses q)) where
  pub by_tag : (valid v ≡ true → tag_utf8 t ≡ true → (o : Figures) → v.layer.feature ≡ Some o → takes_key v.layer.strict v.held o.features t.key ≡ true → fits (tag_put o t v).layer.used v.room ≡ true → P (holds (tag_put o t v).layer (tag_put o t v).held)) → P (add_tag t v)
  by_tag go =
      by_test P (valid v) State _ (λ e. no State (λ z. e)) (λ e.
      by_check P (short_text (length t.key)) TextRefusal _ (no TextRefusal (other v TextRefusal (λ z. omega arith))) (λ k.
      by_check P (short_text (length t.text)) TextRefusal _ (no TextRefusal (other v TextRefusal (λ z. omega arith))) (λ x.
      by_check P (is_utf8 t.key) Utf8 _ (no Utf8 (other v Utf8 (λ z. omega arith))) (λ y.
      by_check P (is_utf8 t.text) Utf8 _ (no Utf8 (other v Utf8 (λ z. omega arith))) (λ w.
      by_open P v.layer.feature _ (no Turn (other v Turn (λ z. omega arith))) (λ o f.
      by_check P (takes_key v.layer.strict v.held o.features t.key) Again _ (no Again (other v Again (λ z. omega arith))) (λ a.
      by_check P (fits (tag_put o t v).layer.used v.room) Room _ (no Room (other v Room (λ z. omega arith))) (λ h. go e (both_is y w) o f a h))))))))

-- a whole feature
module _ (P : Change → Type 0) (f : Head) (words ws bytes : List ℕ) (v : Seen) (no : (q : Refusal) → P (refuses q)) where
  abbrev W : Seen
  W = feature_put f words (tags_of bytes ws) v

  pub by_feature : (tags_ok (length bytes) ws ≡ true → is_kind f.kind ≡ true → valid v ≡ true → tags_utf8 (tags_of bytes ws) ≡ true → v.layer.feature ≡ None → takes_keys v.layer.strict bytes ws ≡ true → fits W.layer.used W.room ≡ true → P (holds W.layer W.held)) → P (add_feature f words ws bytes v)
  by_feature go =
      by_check P (tags_ok (length bytes) ws) Job _ (no Job) (λ l.
      by_check P (is_kind f.kind) Kind _ (no Kind) (λ k.
      by_check P (valid v) State _ (no State) (λ e.
      by_check P (tags_short ws) TextRefusal _ (no TextRefusal) (λ s.
      by_check P (tags_utf8 (tags_of bytes ws)) Utf8 _ (no Utf8) (λ u.
      by_check P (is_shut v.layer.feature) Turn _ (no Turn) (λ i.
      by_check P (takes_keys v.layer.strict bytes ws) Again _ (no Again) (λ a.
      by_check P (leb (length words) max_words) Room _ (no Room) (λ m.
      by_check P (fits W.layer.used W.room) Room _ (no Room) (λ h. go l k e u (is_shut_lem v.layer.feature i) a h)))))))))
