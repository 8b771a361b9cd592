-- What each way through an operation gives, over plain lists; and one value for each answer.
use mathlib.Core.Path.{◌≡◌, refl, sym, ◌∙◌, ap}
use mathlib.Core.Bool.{Bool}
use mathlib.Core.List.{List}
use Prim.Native.Nat.{ℕ, ◌%◌, ◌/◌}
use native.Mathlib.Omega.{arith}
use borrow.Author.Tests.{ne_eqb}
use Rattle.promise.specs.Answers.{Written, Gives}
use Rattle.refusal.specs.declared.Refusal.{Refusal}
use Rattle.refusal.specs.declared.Refusal.TheVariants.{Turn}
use Rattle.refusal.specs.Refusals.{number_of}
use Rattle.std.specs.Prelude.{Some, None, Result, Ok, Err}
use Rattle.refusal.specs.declared.Refused.{Refused}
use Rattle.refusal.specs.Said.{Said, accepted, refused}
use Rattle.refusal.proofs.Laws.{numbered, one_refusal, never_both}
use Rattle.layer.specs.declared.Layer.{Layer}
use Rattle.layer.specs.Held.{Memory, Seen, seen, Change}
use Rattle.tile.specs.declared.Tile.{Tile}
use Rattle.tile.specs.Tiles.{TileMemory}
use Rattle.tile.specs.Answers.{said_tile}
use Rattle.tile.specs.Adding.{add_layer}
use Rattle.layer.specs.Calls.{into_feature, set_id, add_tag, into_layer, abandoned}
use Rattle.script.specs.declared.Part.{Part}
use Rattle.script.specs.declared.Value.{Value}
use Rattle.script.specs.declared.Op.{Op}
use Rattle.script.specs.declared.Op.TheVariants.{Create, Open, SetId, Tag, Close, Abandon, Add}
use Rattle.script.specs.Script.{text_of, words_of}
use Rattle.tile_run.proofs.Handling.{same_kept}
use Rattle.tile_run.specs.Hands.{Hand, said_handled, creating, on_hand, tag_of}
use Rattle.tile_run.specs.declared.performing.Work.{Work}
use Rattle.tile_run.specs.Operations.{Performed, Lists, lists, said_performed, working, added, adding, in_layer, with_texts, in_texts, in_tile, on_layer, performed}

abbrev at_work : Tile → Hand → Work
at_work t h = record { tile = t; hand = h }

-- ---- adding: a refused layer stays at hand
module _ (s : Layer) (a : Result Tile (Refused Tile)) (b : Refused Tile) where
  pub added_refused : a ≡ Err b → refused b.refusal (at_work b.kept (Some s)) ≡ added s (said_tile a)
  added_refused e = rw (e, ne_eqb (number_of b.refusal) 0 (λ z. absurd (omega (arith, numbered b.refusal))))

module _ (w : Work) (m : Memory) (t : TileMemory) where
  pub none_added : w.hand ≡ None → Gives (adding w m t) (refused Turn w) t
  unfolding adding
  none_added e = rw e (record { answer = refl; memory = refl })

  pub layer_added : (s : Layer) (a : Said Tile) (b : Said Work) (n : TileMemory) → w.hand ≡ Some s → Gives (add_layer w.tile (seen s m) t) a n → b ≡ added s a → Gives (adding w m t) b n
  unfolding adding
  layer_added s a b n e g f = rw e (record { answer = f ∙ ap (added s) g.answer; memory = g.memory })

-- ---- an operation, by the part of the lists that it may change
module _ (bytes ns : List ℕ) (op : Op) (w : Work) (m : Lists) where
  through_layer : (call : Seen → Change) (a : Said Hand) (b : Said Work) (n : Memory) → performed bytes ns op w m ≡ in_layer w.tile m.tile (on_hand call w.hand m.layer)
      → Gives (on_hand call w.hand m.layer) a n → b ≡ working w.tile a → Gives (performed bytes ns op w m) b (lists n m.tile)
  through_layer call a b n e g f = rw e (record { answer = f ∙ ap (working w.tile) g.answer; memory = ap (λ (k : Memory). lists k m.tile) g.memory })

  through_texts : (v : Written (Said Hand) (List ℕ)) (a : Said Hand) (b : Said Work) (ts : List ℕ) → performed bytes ns op w m ≡ in_texts w.tile m v
      → Gives v a ts → b ≡ working w.tile a → Gives (performed bytes ns op w m) b (lists (with_texts m.layer ts) m.tile)
  through_texts v a b ts e g f = rw e (record { answer = f ∙ ap (working w.tile) g.answer; memory = ap (λ (l : List ℕ). lists (with_texts m.layer l) m.tile) g.memory })

  through_tile : (b : Said Work) (n : TileMemory) → performed bytes ns op w m ≡ in_tile m.layer (adding w m.layer m.tile)
      → Gives (adding w m.layer m.tile) b n → Gives (performed bytes ns op w m) b (lists m.layer n)
  through_tile b n e g = rw e (record { answer = g.answer; memory = ap (lists m.layer) g.memory })

  op_is : (o : Op) → op ≡ o → performed bytes ns op w m ≡ performed bytes ns o w m
  op_is o e = ap (λ (x : Op). performed bytes ns x w m) e

  module _ (a : Said Hand) (b : Said Work) (f : b ≡ working w.tile a) where
    pub create_op : (extent : ℕ) (name : Part) (strict : Bool) (text ts : List ℕ) → op ≡ Create extent name strict → text ≡ text_of bytes name
        → Gives (creating strict text extent w.hand m.layer.texts) a ts → Gives (performed bytes ns op w m) b (lists (with_texts m.layer ts) m.tile)
    unfolding performed
    create_op extent name strict text ts e t g =
        through_texts (creating strict text extent w.hand m.layer.texts) a b ts
        (op_is _ e ∙ ap (λ (x : List ℕ). in_texts w.tile m (creating strict x extent w.hand m.layer.texts)) (sym t)) g f

    module _ (n : Memory) where
      pub open_op : (kind : ℕ) (words : Part) (run : List ℕ) → op ≡ Open kind words → run ≡ words_of ns words → Gives (on_hand (into_feature kind run) w.hand m.layer) a n
          → Gives (performed bytes ns op w m) b (lists n m.tile)
      unfolding performed
      open_op kind words run e t g = through_layer (into_feature kind run) a b n (op_is _ e ∙ ap (λ (x : List ℕ). on_layer w m (into_feature kind x)) (sym t)) g f

      pub id_op : (id : ℕ) → op ≡ SetId id → Gives (on_hand (set_id (id % 4294967296) (id / 4294967296)) w.hand m.layer) a n → Gives (performed bytes ns op w m) b (lists n m.tile)
      unfolding performed
      id_op id e g = through_layer (set_id (id % 4294967296) (id / 4294967296)) a b n (op_is _ e) g f

      pub tag_op : (key : Part) (v : Value) (text : List ℕ) → op ≡ Tag key v → text ≡ text_of bytes key → Gives (on_hand (add_tag (tag_of bytes text v)) w.hand m.layer) a n
          → Gives (performed bytes ns op w m) b (lists n m.tile)
      unfolding performed
      tag_op key v text e t g = through_layer (add_tag (tag_of bytes text v)) a b n (op_is _ e ∙ ap (λ (x : List ℕ). on_layer w m (add_tag (tag_of bytes x v))) (sym t)) g f

      pub close_op : op ≡ Close → Gives (on_hand into_layer w.hand m.layer) a n → Gives (performed bytes ns op w m) b (lists n m.tile)
      unfolding performed
      close_op e g = through_layer into_layer a b n (op_is _ e) g f

      pub abandon_op : op ≡ Abandon → Gives (on_hand abandoned w.hand m.layer) a n → Gives (performed bytes ns op w m) b (lists n m.tile)
      unfolding performed
      abandon_op e g = through_layer abandoned a b n (op_is _ e) g f

  pub add_op : (b : Said Work) (n : TileMemory) → op ≡ Add → Gives (adding w m.layer m.tile) b n → Gives (performed bytes ns op w m) b (lists m.layer n)
  unfolding performed
  add_op b n e g = through_tile b n (op_is _ e) g

-- ---- one value for each answer
pub one_performed : (r r' : Performed) → said_performed r ≡ said_performed r' → r ≡ r'
one_performed (Ok w) (Ok w') e = ap (λ (a : Said Work). Ok a.values) e
one_performed (Ok w) (Err b) e = absurd (never_both b.refusal e)
one_performed (Err a) (Ok w') e = absurd (never_both a.refusal (sym e))
one_performed (Err a) (Err b) e = ap Err (same_kept a b (one_refusal a.refusal b.refusal e) (ap (λ (x : Said Work). x.values) e))
