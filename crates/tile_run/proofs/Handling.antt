-- What each way through an operation answers: nothing at hand, or what the layer's call gave; and one value for each answer.
use mathlib.Core.Path.{◌≡◌, refl, sym, ◌∙◌, ap, subst}
use mathlib.Core.Bool.{Bool, true, false}
use mathlib.Core.List.{List}
use Prim.Native.Nat.{ℕ}
use Rattle.promise.specs.Answers.{Gives}
use Rattle.refusal.specs.declared.Refusal.{Refusal}
use Rattle.refusal.specs.declared.Refusal.TheVariants.{Turn}
use Rattle.std.specs.Prelude.{Some, None, Result, Ok, Err}
use Rattle.refusal.specs.declared.Refused.{Refused}
use Rattle.refusal.specs.Said.{Said, accepted, refused}
use Rattle.refusal.proofs.Laws.{one_refusal, never_both}
use Rattle.layer.specs.declared.Layer.{Layer}
use Rattle.layer.specs.Held.{Memory, Seen, seen, Change, written}
use Rattle.layer.specs.Answers.{Changed, said_changed, said_created}
use Rattle.layer.specs.Calls.{Tag, created, created_strict, add_tag}
use Rattle.tile_run.specs.Hands.{Hand, Handled, said_handled, holding, on_hand, new_hand, making, creating}

module _ (strict : Bool) (name : List ℕ) (extent : ℕ) (h : Hand) (ts l : List ℕ) (a : Said (List Layer)) (b : Said Hand) (e : b ≡ new_hand h a) where
  new_held : Gives (making strict name extent ts) a l → Gives (creating strict name extent h ts) b l
  unfolding creating
  new_held g = record { answer = e ∙ ap (new_hand h) g.answer; memory = g.memory }

  pub strict_held : strict ≡ true → Gives (created_strict name extent ts) a l → Gives (creating strict name extent h ts) b l
  strict_held t g = new_held (rw t g)

  pub plain_held : strict ≡ false → Gives (created name extent ts) a l → Gives (creating strict name extent h ts) b l
  plain_held t g = new_held (rw t g)

-- ---- a call on what is at hand
module _ (call : Seen → Change) (h : Hand) (m : Memory) where
  pub no_layer_lem : h ≡ None → Gives (on_hand call h m) (refused Turn h) m
  unfolding on_hand
  no_layer_lem e = rw e (record { answer = refl; memory = refl })

  pub on_layer_lem : (s : Layer) (a : Said Layer) (b : Said Hand) (n : Memory) → h ≡ Some s → Gives (written (call (seen s m)) s m) a n → b ≡ holding a → Gives (on_hand call h m) b n
  unfolding on_hand
  on_layer_lem s a b n e g f = rw e (record { answer = f ∙ ap holding g.answer; memory = g.memory })

-- ---- one value for each answer
pub same_kept : {X : Type 0} (a b : Refused X) → a.refusal ≡ b.refusal → a.kept ≡ b.kept → a ≡ b
same_kept a b i j = λ k. record { refusal = i k; kept = j k }

pub one_handled : (r r' : Handled) → said_handled r ≡ said_handled r' → r ≡ r'
one_handled (Ok h) (Ok h') e = ap (λ (a : Said Hand). Ok a.values) e
one_handled (Ok h) (Err b) e = absurd (never_both b.refusal e)
one_handled (Err a) (Ok h') e = absurd (never_both a.refusal (sym e))
one_handled (Err a) (Err b) e = ap Err (same_kept a b (one_refusal a.refusal b.refusal e) (ap (λ (x : Said Hand). x.values) e))

-- ---- a tag, by the script's value
pub tag_by : (s : Layer) (m n : Memory) (a : Said Layer) (t t' : Tag) → t ≡ t' → Gives (written (add_tag t' (seen s m)) s m) a n → Gives (written (add_tag t (seen s m)) s m) a n
tag_by s m n a t t' e g = subst (λ (x : Tag). Gives (written (add_tag x (seen s m)) s m) a n) (sym e) g
