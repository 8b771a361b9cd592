-- Document 01, "Tags and rollback": what a layer holds, and what a call makes of it. A call sees the layer's own record, the used part of each list and
-- the room of each, and nothing else; it refuses, or gives the record and the used parts after it. The lent memory after it is those
-- parts, and beyond them what stood there.
use Rattle.std.specs.Prelude.{ℕ, ◌*◌, ◌/◌, Bool, true, false, ◌&&◌, List, ◌++◌, length, take, drop, leb}
use Rattle.promise.specs.Answers.{Written, kept}
use Rattle.refusal.specs.declared.Refusal.{Refusal}
use Rattle.refusal.specs.declared.Refusal.TheVariants.{Turn}
use Rattle.refusal.specs.Said.{Said, accepted, refused}
pub use Rattle.number.specs.Least.{smaller}
use Rattle.layer.specs.declared.Figures.{Figures}
use Rattle.std.specs.Prelude.{Option, Some, None}
use Rattle.layer.specs.declared.Layer.{Layer}

-- the four lent lists, or the used part of each
pub record Memory : Type 0 where
  pub keys : List ℕ
  pub values : List ℕ
  pub texts : List ℕ
  pub features : List ℕ

abbrev pub mem : List ℕ → List ℕ → List ℕ → List ℕ → Memory
mem ks vs ts fs = record { keys = ks; values = vs; texts = ts; features = fs }

-- the caps (document 01, "Domain"): keys and values in entries, texts in bytes, features in words
abbrev pub max_keys : ℕ
max_keys = 65536

abbrev pub max_values : ℕ
max_values = 65536

abbrev pub max_texts : ℕ
max_texts = 4294967295

abbrev pub max_feature_words : ℕ
max_feature_words = 4294967295

-- the room in lists of these lengths, in what the figures count
abbrev pub room_of : ℕ → ℕ → ℕ → ℕ → Figures
room_of keys values texts features =
    record {
      keys = smaller (keys / 2) max_keys;
      values = smaller (values / 3) max_values;
      texts = smaller texts max_texts;
      features = smaller features max_feature_words;
    }

-- no figure exceeds the other's
abbrev pub fits : Figures → Figures → Bool
fits a b = leb a.keys b.keys && (leb a.values b.values && (leb a.texts b.texts && leb a.features b.features))

-- the part of each list that the figures say is used
abbrev pub held_by : Figures → Memory → Memory
held_by u m =
    record {
      keys = take (u.keys * 2) m.keys;
      values = take (u.values * 3) m.values;
      texts = take u.texts m.texts;
      features = take u.features m.features;
    }

-- what a call sees
pub record Seen : Type 0 where
  pub layer : Layer
  pub held : Memory
  pub room : Figures

abbrev pub seen : Layer → Memory → Seen
seen s m =
    record {
      layer = s;
      held = held_by s.used m;
      room = room_of (length m.keys) (length m.values) (length m.texts) (length m.features);
    }

-- what a call makes of it
pub data Change : Type 0 where
  refuses : Refusal → Change
  holds : Layer → Memory → Change

-- a check in its place: the refusal where it fails, else what follows
abbrev pub check : Bool → Refusal → Change → Change
check true r c = c
check false r c = refuses r

-- TURN, where no feature is open; else what follows, by the figures at opening
abbrev pub when_open : Option Figures → (Figures → Change) → Change
when_open None go = refuses Turn
when_open (Some o) go = go o

-- the parts at the front of the lists, and beyond them what stood there
abbrev pub front : List ℕ → List ℕ → List ℕ
front part l = part ++ drop (length part) l

abbrev pub onto : Memory → Memory → Memory
onto h m =
    record {
      keys = front h.keys m.keys;
      values = front h.values m.values;
      texts = front h.texts m.texts;
      features = front h.features m.features;
    }

-- the answer and the lent memory after a call. A refusal gives the layer back as it was and writes nowhere
abbrev pub written : Change → Layer → Memory → Written (Said Layer) Memory
written (refuses r) s m = kept (refused r s) m
written (holds t h) s m = record { answer = accepted t; memory = onto h m }

-- what is seen after a call
abbrev pub next : Change → Seen → Seen
next (refuses r) v = v
next (holds t h) v = record { layer = t; held = h; room = v.room }
