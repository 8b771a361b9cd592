-- Every call that changes a layer keeps its choice, strict or not; abandoning too.
use Prim.Native.Nat.{ℕ, ◌+◌}
use mathlib.Core.Path.{◌≡◌, refl}
use mathlib.Core.Bool.{Bool}
use mathlib.Core.List.{List, [], ◌∷◌}
use lib.ListN.{length}
use lib.Dec.{leb}
use Rattle.refusal.specs.declared.Refusal.TheVariants.{Kind, State, Room, Turn}
use Rattle.words.specs.Geometries.{is_kind, max_words}
use Rattle.layer.specs.declared.Figures.{Figures}
use Rattle.layer.specs.declared.whole_feature.Head.{Head}
use Rattle.layer.specs.Held.{Seen, Change, refuses, holds, fits}
use Rattle.layer.specs.State.{valid}
use Rattle.layer.specs.Calls.{is_shut, more_words, into_feature, set_id, into_layer, abandoned, Tag, tag_put, add_tag}
use Rattle.layer.specs.TagLists.{tags_of}
use Rattle.layer.specs.Whole.{feature_opened, tags_put, add_feature}
use Rattle.layer.proofs.Keeping.{by_check, by_open}
use Rattle.layer.proofs.Checked.{by_tag, by_feature}

-- of a change: nothing, where it refuses
abbrev pub Chose : Bool → Change → Type 0
Chose b (refuses r) = Unit {0}
Chose b (holds t h) = t.strict ≡ b

same_choice : (o : Figures) (ts : List Tag) (v : Seen) → (tags_put o ts v).layer.strict ≡ v.layer.strict
same_choice o [] v = refl
same_choice o (t ∷ ts) v = same_choice o ts (tag_put o t v)

module _ (v : Seen) where
  abbrev Kept : Change → Type 0
  Kept = Chose v.layer.strict

  pub opened_chose : (kind : ℕ) (words : List ℕ) → Kept (into_feature kind words v)
  opened_chose kind words =
      by_check Kept (is_kind kind) Kind _ tt (λ k.
      by_check Kept (valid v) State _ tt (λ e.
      by_check Kept (is_shut v.layer.feature) Turn _ tt (λ f.
      by_check Kept (leb (length words) max_words) Room _ tt (λ m.
      by_check Kept (fits (more_words v.layer.used (6 + length words)) v.room) Room _ tt (λ h. refl)))))

  pub marked_chose : (low high : ℕ) → Kept (set_id low high v)
  marked_chose low high = by_check Kept (valid v) State _ tt (λ e. by_open Kept v.layer.feature _ tt (λ o f. refl))

  pub tag_chose : (t : Tag) → Kept (add_tag t v)
  tag_chose t = by_tag Kept t v (λ q n. tt) (λ e u o f a h. refl)

  pub closed_chose : Kept (into_layer v)
  closed_chose = by_check Kept (valid v) State _ tt (λ e. by_open Kept v.layer.feature _ tt (λ o f. refl))

  pub abandoned_chose : Kept (abandoned v)
  abandoned_chose = by_check Kept (valid v) State _ tt (λ e. by_open Kept v.layer.feature _ tt (λ o f. refl))

  pub feature_chose : (f : Head) (words ws bytes : List ℕ) → Kept (add_feature f words ws bytes v)
  feature_chose f words ws bytes =
      by_feature Kept f words ws bytes v (λ q. tt) (λ l k e u s a h. same_choice v.layer.used (tags_of bytes ws) (feature_opened f words v))
