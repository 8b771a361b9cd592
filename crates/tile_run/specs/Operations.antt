-- oracle/README.md, "Tile script": one operation on the tile and on what is at hand, case by case. Each case is what the called function promises.
use Rattle.std.specs.Prelude.{ℕ, ◌%◌, ◌/◌, cond, Some, None, Result, Ok, Err, List, eqb}
use Rattle.promise.specs.Answers.{Written, kept}
use Rattle.refusal.specs.declared.Refusal.TheVariants.{Turn}
use Rattle.refusal.specs.declared.Refused.{Refused}
use Rattle.refusal.specs.Said.{Said, accepted, refused}
use Rattle.layer.specs.declared.Layer.{Layer}
use Rattle.layer.specs.Held.{Memory, Seen, seen, Change}
use Rattle.layer.specs.Calls.{into_feature, set_id, add_tag, into_layer, abandoned}
use Rattle.tile.specs.declared.Tile.{Tile}
use Rattle.tile.specs.Tiles.{TileMemory}
use Rattle.tile.specs.Adding.{add_layer}
use Rattle.script.specs.declared.Op.{Op}
use Rattle.script.specs.declared.Op.TheVariants.{Create, Open, SetId, Tag, Close, Abandon, Add}
use Rattle.script.specs.Script.{text_of, words_of}
use Rattle.tile_run.specs.Hands.{Hand, creating, on_hand, tag_of}
use Rattle.tile_run.specs.declared.performing.Work.{Work}

-- the six lent lists: the layer's four, and the tile's names and bytes
pub record Lists : Type 0 where
  pub layer : Memory
  pub tile : TileMemory

abbrev pub lists : Memory → TileMemory → Lists
lists m t = record { layer = m; tile = t }

-- the paper's number, and the tile and what is at hand then
abbrev pub Performed : Type 0
Performed = Result Work (Refused Work)

abbrev pub said_performed : Performed → Said Work
said_performed (Ok w) = accepted w
said_performed (Err e) = refused e.refusal e.kept

-- ---- operations on the hand leave the tile and its lists
abbrev pub working : Tile → Said Hand → Said Work
working t a = record { number = a.number; place = a.place; values = record { tile = t; hand = a.values } }

-- ---- adding: an accepted layer is handed away, a refused one stays at hand
abbrev pub added : Layer → Said Tile → Said Work
added s a = record { number = a.number; place = a.place; values = record { tile = a.values; hand = cond (eqb a.number 0) None (Some s) } }

abbrev pub adding_by : Hand → Work → Memory → TileMemory → Written (Said Work) TileMemory
adding_by None w m t = kept (refused Turn w) t
adding_by (Some s) w m t = record { answer = added s (add_layer w.tile (seen s m) t).answer; memory = (add_layer w.tile (seen s m) t).memory }

unfoldable pub adding : Work → Memory → TileMemory → Written (Said Work) TileMemory
adding w m t = adding_by w.hand w m t

-- ---- what each part of the lists becomes
abbrev pub in_layer : Tile → TileMemory → Written (Said Hand) Memory → Written (Said Work) Lists
in_layer t tm w = record { answer = working t w.answer; memory = lists w.memory tm }

abbrev pub with_texts : Memory → List ℕ → Memory
with_texts m ts = record { keys = m.keys; values = m.values; texts = ts; features = m.features }

abbrev pub in_texts : Tile → Lists → Written (Said Hand) (List ℕ) → Written (Said Work) Lists
in_texts t m w = record { answer = working t w.answer; memory = lists (with_texts m.layer w.memory) m.tile }

abbrev pub in_tile : Memory → Written (Said Work) TileMemory → Written (Said Work) Lists
in_tile m w = record { answer = w.answer; memory = lists m w.memory }

-- ---- an operation, of a script with these bytes and numbers
abbrev pub on_layer : Work → Lists → (Seen → Change) → Written (Said Work) Lists
on_layer w m call = in_layer w.tile m.tile (on_hand call w.hand m.layer)

unfoldable pub performed : List ℕ → List ℕ → Op → Work → Lists → Written (Said Work) Lists
performed bytes ns (Create extent name strict) w m = in_texts w.tile m (creating strict (text_of bytes name) extent w.hand m.layer.texts)
performed bytes ns (Open kind words) w m = on_layer w m (into_feature kind (words_of ns words))
performed bytes ns (SetId id) w m = on_layer w m (set_id (id % 4294967296) (id / 4294967296))
performed bytes ns (Tag key v) w m = on_layer w m (add_tag (tag_of bytes (text_of bytes key) v))
performed bytes ns Close w m = on_layer w m into_layer
performed bytes ns Abandon w m = on_layer w m abandoned
performed bytes ns Add w m = in_tile m.layer (adding w m.layer m.tile)
