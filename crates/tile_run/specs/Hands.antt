-- oracle/README.md, "Tile script": "Creating a layer takes the place of the one at hand (a refused one leaves it). An operation that needs a layer where there
-- is none, or after the layer was added, is `refused 12`."
use Rattle.std.specs.Prelude.{ℕ, Bool, cond, Option, Some, None, Result, Ok, Err, List, [], ◌∷◌}
use Rattle.promise.specs.Answers.{Written, kept}
use Rattle.refusal.specs.declared.Refusal.TheVariants.{Turn}
use Rattle.refusal.specs.declared.Refused.{Refused}
use Rattle.refusal.specs.Said.{Said, accepted, refused}
use Rattle.layer.specs.declared.Layer.{Layer}
use Rattle.layer.specs.Held.{Memory, Seen, seen, Change, written}
use Rattle.layer.specs.Calls.{Tag, created, created_strict, bits_of, bit_of, tag_string, tag_bits}
use Rattle.script.specs.declared.Value.{Value}
use Rattle.script.specs.declared.Value.TheVariants.{Text, Float, Double, Int, Uint, Sint, Bool as BoolValue}
use Rattle.script.specs.Script.{text_of}

-- what is at hand: a layer, or nothing
abbrev pub Hand : Type 0
Hand = Option Layer

abbrev pub Handled : Type 0
Handled = Result Hand (Refused Hand)

-- the paper's number, and what is at hand then
abbrev pub said_handled : Handled → Said Hand
said_handled (Ok h) = accepted h
said_handled (Err e) = refused e.refusal e.kept

-- what a layer's call says, with its layer at hand
abbrev pub holding : Said Layer → Said Hand
holding a = record { number = a.number; place = a.place; values = Some a.values }

-- a call on the layer at hand; TURN where there is none
unfoldable pub on_hand : (Seen → Change) → Hand → Memory → Written (Said Hand) Memory
on_hand call None m = kept (refused Turn None) m
on_hand call (Some s) m = record { answer = holding (written (call (seen s m)) s m).answer; memory = (written (call (seen s m)) s m).memory }

-- the layer that was created, or else what was at hand
abbrev pub or_else : Hand → List Layer → Hand
or_else h [] = h
or_else h (s ∷ ss) = Some s

abbrev pub new_hand : Hand → Said (List Layer) → Said Hand
new_hand h a = record { number = a.number; place = a.place; values = or_else h a.values }

-- a layer, strict or not
abbrev pub making : Bool → List ℕ → ℕ → List ℕ → Written (Said (List Layer)) (List ℕ)
making strict name extent ts = cond strict (created_strict name extent ts) (created name extent ts)

unfoldable pub creating : Bool → List ℕ → ℕ → Hand → List ℕ → Written (Said Hand) (List ℕ)
creating strict name extent h ts = record { answer = new_hand h (making strict name extent ts).answer; memory = (making strict name extent ts).memory }

-- what a script's value tags with: a text of the script's bytes, or the bits of its kind
abbrev pub tag_of : List ℕ → List ℕ → Value → Tag
tag_of bytes key (Text p) = tag_string key (text_of bytes p)
tag_of bytes key (Float x) = tag_bits 2 key x
tag_of bytes key (Double x) = tag_bits 3 key x
tag_of bytes key (Int x) = tag_bits 4 key (bits_of x)
tag_of bytes key (Uint x) = tag_bits 5 key x
tag_of bytes key (Sint x) = tag_bits 6 key (bits_of x)
tag_of bytes key (BoolValue x) = tag_bits 7 key (bit_of x)
