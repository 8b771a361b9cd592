-- What `has_room` asks of its steps, and what it decides by their answers: whether the figures after the feature, whatever its head and its words, fit.
use Prim.Native.Nat.{ℕ, ◌+◌, ◌*◌, ◌/◌}
use mathlib.Core.Path.{◌≡◌, refl, sym, ap, ◌∙◌}
use mathlib.Core.Bool.{Bool, true}
use mathlib.Core.List.{List, []}
use lib.ListN.{length, take}
use Rattle.layer.specs.declared.Figures.{Figures}
use Rattle.layer.specs.declared.Layer.{Layer}
use Rattle.layer.specs.declared.whole_feature.Head.{Head}
use Rattle.layer.specs.Held.{Seen, seen, mem, fits, room_of, max_keys, max_values, max_texts, max_feature_words}
use Rattle.layer.specs.Calls.{more_words}
use Rattle.layer.specs.TagLists.{tags_of}
use Rattle.layer.specs.Whole.{feature_opened, feature_put}
use Rattle.layer.specs.Lookup.{idx}
use Rattle.layer.specs.WholeSteps.{Asking, Decides}
use Rattle.layer.specs.NeedSteps.{needed, most_of, walked, Capped, MostLoop, NeedLoop}
use Rattle.layer.proofs.Fitting.{within, fits_yes, smaller_le, Fit, fit}
use Rattle.layer.proofs.Standing.{parts}
use Rattle.layer.proofs.Keeping.{sound}
use Rattle.layer.proofs.After.{seen_lengths}
use Rattle.layer.proofs.Indexing.{key_looked, value_looked}
use Rattle.layer.proofs.Walking.{within_on, within_same}
use Rattle.layer.proofs.Needing.{tables, knows_start, tags_need, need_within}

room_capped : (keys values texts features : ℕ) → Capped (room_of keys values texts features)
room_capped keys values texts features =
    record {
      keys = (smaller_le (keys / 2) max_keys).1;
      values = (smaller_le (values / 3) max_values).1;
      texts = (smaller_le texts max_texts).1;
      features = (smaller_le features max_feature_words).1;
    }

module _ (s : Layer) (words : ℕ) (ws bytes ks vs ts fs kx vx : List ℕ) (A : Asking s words ws bytes (mem ks vs ts fs) (idx kx vx)) where
  abbrev before : Seen
  before = seen s (mem ks vs ts fs)

  abbrev opening : Figures
  opening = more_words s.used (6 + words)

  pub asked_fit : Fit s.used (length ks) (length vs) (length ts) (length fs)
  asked_fit = fit s.used (length ks) (length vs) (length ts) (length fs) (parts before A.stands).room

  -- the figures after the feature are those of the dry run
  put_need : (f : Head) (geometry : List ℕ) → length geometry ≡ words → (feature_put f geometry (tags_of bytes ws) before).layer.used ≡ needed before.held.keys before.held.values before.held.texts bytes ws opening
  put_need f geometry e =
      let T = tables before (sound before A.stands (seen_lengths s (mem ks vs ts fs) A.stands)) in
      tags_need bytes before.held.keys before.held.values before.held.texts s.used [] ws (feature_opened f geometry before) refl A.list T (knows_start bytes (feature_opened f geometry before))
      ∙ ap (λ (n : ℕ). needed before.held.keys before.held.values before.held.texts bytes ws (more_words s.used (6 + n))) e

  module _ (room : Figures) (q : room ≡ room_of (length ks) (length vs) (length ts) (length fs)) where
    pub most_loop : MostLoop ws room
    most_loop = record { short = A.short; capped = rw q (room_capped (length ks) (length vs) (length ts) (length fs)) }

    pub need_loop : NeedLoop ws bytes room (take (s.used.keys * 2) ks) (take (s.used.values * 3) vs) (take s.used.texts ts) kx vx
    need_loop =
        let L = seen_lengths s (mem ks vs ts fs) A.stands in
        record {
          list = A.list;
          short = A.short;
          capped = most_loop.capped;
          keys = record { looked = λ key. rw q (key_looked before A.stands L kx key asked_fit.few_keys A.current.keys) };
          values = record { looked = λ v text. rw q (value_looked before A.stands L vx v text asked_fit.few_values A.current.values) };
        }

    module _ (r : Bool) where
      pub need_decides : r ≡ fits (needed (take (s.used.keys * 2) ks) (take (s.used.values * 3) vs) (take s.used.texts ts) bytes ws opening) room → Decides r words (tags_of bytes ws) before
      need_decides g = record { decides = λ f geometry e. g ∙ ap (λ (x : Figures). fits (needed before.held.keys before.held.values before.held.texts bytes ws opening) x) q ∙ ap (λ (x : Figures). fits x before.room) (sym (put_need f geometry e)) }

      pub most_decides : r ≡ fits (walked most_of [] ws opening) room → r ≡ true → Decides true words (tags_of bytes ws) before
      most_decides g y =
          let need = needed before.held.keys before.held.values before.held.texts bytes ws opening in
          let most = walked most_of [] ws opening in
          let h : fits most before.room ≡ true = ap (λ (x : Figures). fits most x) (sym q) ∙ sym g ∙ y in
          let n = need_within before.held.keys before.held.values before.held.texts bytes [] ws opening opening (within_same opening) in
          let d : fits need before.room ≡ true = fits_yes need before.room (within_on need most before.room n (within most before.room h)) in
          record { decides = λ f geometry e. sym d ∙ ap (λ (x : Figures). fits x before.room) (sym (put_need f geometry e)) }
