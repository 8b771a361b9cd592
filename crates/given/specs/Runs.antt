-- A whole run: layers that are made, each of any calls in any lists lent to it, and a fresh tile to which they are added; beside them what was given, by the
-- calls that were accepted.
use Rattle.std.specs.Prelude.{ℕ, ◌≡◌, Bool, cond, List, [], ◌∷◌, eqb, take}
use Rattle.promise.specs.Answers.{Written}
use Rattle.promise.specs.Laid.{lay}
use Rattle.refusal.specs.Said.{Said}
use Rattle.layer.specs.declared.Layer.{Layer}
use Rattle.layer.specs.Held.{Memory, mem, seen, written}
use Rattle.layer.specs.Calls.{new_layer, chosen, created, created_strict}
use Rattle.layer.specs.Many.{Many, add_features}
use Rattle.tile.specs.Holding.{Given, At, call, after}
use Rattle.given.specs.Given.{Drawing, blank}
use Rattle.given.specs.Asked.{Made, asked, gives, features_given, added_all, FineMade, Words}

-- a layer, its lists, and what was given to it
pub record Page : Type 0 where
  pub layer : Layer
  pub memory : Memory
  pub drawing : Drawing

-- a call in memory: its answer and the memory after it are those that each function of crate `layer` promises
abbrev pub called : Made → Page → Written (Said Layer) Memory
called c p = written (asked c (seen p.layer p.memory)) p.layer p.memory

abbrev pub turned : Made → Page → Page
turned c p =
    record {
      layer = (called c p).answer.values;
      memory = (called c p).memory;
      drawing = cond (eqb (called c p).answer.number 0) (gives c p.drawing) p.drawing;
    }

-- one call, or one with many features, of which those before the first that is refused are accepted
pub data Step : Type 0 where
  one : Made → Step
  many : List ℕ → List ℕ → List ℕ → List ℕ → Step

abbrev pub called_many : List ℕ → List ℕ → List ℕ → List ℕ → Page → Written (Said Many) Memory
called_many heads words ws bytes p = add_features heads words ws bytes p.layer p.memory

abbrev pub stepped : Step → Page → Page
stepped (one c) p = turned c p
stepped (many heads words ws bytes) p =
    record {
      layer = (called_many heads words ws bytes p).answer.values.layer;
      memory = (called_many heads words ws bytes p).memory;
      drawing = added_all (take (called_many heads words ws bytes p).answer.values.count (features_given heads words ws bytes)) p.drawing;
    }

abbrev pub stepped_all : List Step → Page → Page
stepped_all [] p = p
stepped_all (c ∷ cs) p = stepped_all cs (stepped c p)

-- what is lent and called: a name, an extent, whether it is to be strict and four lists for creating a layer, and the calls on it
pub record Plan : Type 0 where
  pub name : List ℕ
  pub extent : ℕ
  pub strict : Bool
  pub lent : Memory
  pub calls : List Step

-- the call that creates the layer
abbrev pub creating : Plan → Written (Said (List Layer)) (List ℕ)
creating p = cond p.strict (created_strict p.name p.extent p.lent.texts) (created p.name p.extent p.lent.texts)

-- the layer as it is created, where that is accepted: its name is the first text
abbrev pub begun : Plan → Page
begun p =
    record {
      layer = chosen p.strict (new_layer p.name p.extent);
      memory = mem p.lent.keys p.lent.values (lay 0 p.name p.lent.texts) p.lent.features;
      drawing = blank p.name p.extent;
    }

abbrev pub page_of : Plan → Page
page_of p = stepped_all p.calls (begun p)

abbrev pub FineStep : Step → Type 0
FineStep (one c) = FineMade c
FineStep (many heads words ws bytes) = Words ws

abbrev pub AllFine : List Step → Type 0
AllFine [] = Unit {0}
AllFine (c ∷ cs) = FineStep c × AllFine cs

-- creating was accepted, and numbers are those of the calls' types
pub record Sound (p : Plan) : Type 0 where
  pub creates : (creating p).answer.number ≡ 0
  pub fine : AllFine p.calls

abbrev pub AllSound : List Plan → Type 0
AllSound [] = Unit {0}
AllSound (p ∷ ps) = Sound p × AllSound ps

-- ---- the tile: what was given of the layers that it accepted
abbrev pub layer_of : Page → Given
layer_of p = record { layer = p.layer; memory = p.memory }

abbrev pub drawings : List Page → At → List Drawing
drawings [] a = []
drawings (p ∷ ps) a = cond (eqb (call (layer_of p) a).answer.number 0) (p.drawing ∷ drawings ps (after (layer_of p) a)) (drawings ps (after (layer_of p) a))
