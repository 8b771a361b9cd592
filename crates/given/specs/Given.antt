-- What is given to a layer, in the words of MVT and of document 01, and what each accepted call does to it. No list of words, no figure and no half of a
-- number: that the lists of crate `layer` hold just this is proved (specs/Layout), and so is that the bytes are its message (specs/Messages).
use Rattle.std.specs.Prelude.{ℕ, suc, ◌%◌, ◌-◌, Bool, true, false, cond, List, [], ◌∷◌, ◌++◌, map, ℤ, pos, negsuc, eqb}
use Rattle.std.proofs.Math.Option.{Option, none, some}
use Rattle.tile.specs.Holding.{same_bytes}

-- ---- what a layer is
-- the seven kinds of value: a text by its bytes, a float and a double by their bits, whole numbers, a bool
pub data Content : Type 0 where
  text : List ℕ → Content
  float : ℕ → Content
  double : ℕ → Content
  int : ℤ → Content
  uint : ℕ → Content
  sint : ℤ → Content
  bool : Bool → Content

pub record Tag : Type 0 where
  pub key : List ℕ
  pub value : Content

pub record Feature : Type 0 where
  pub kind : ℕ
  pub id : Option ℕ
  pub geometry : List ℕ
  pub tags : List Tag

-- its features are those completed; beside them the one that is open, if one is
pub record Drawing : Type 0 where
  pub name : List ℕ
  pub extent : ℕ
  pub features : List Feature
  pub pending : Option Feature

-- ---- which contents are the same: of one kind and equal, and of floats and doubles also 0.0 and -0.0, whose bits are 0 but for the sign. A NaN is what its
-- bits are
abbrev pub unsigned : ℕ → ℕ → ℕ
unsigned sign bits = cond (eqb (bits % sign) 0) 0 bits

-- PB, "Signed Integers": a number below zero as 64 bits, two's complement
abbrev pub bits64 : ℤ → ℕ
bits64 (pos n) = n
bits64 (negsuc n) = 18446744073709551616 - suc n

-- the kind, and what tells contents of one kind apart
abbrev pub mark : Content → List ℕ
mark (text t) = 1 ∷ t
mark (float bits) = 2 ∷ unsigned 2147483648 bits ∷ []
mark (double bits) = 3 ∷ unsigned 9223372036854775808 bits ∷ []
mark (int n) = 4 ∷ bits64 n ∷ []
mark (uint n) = 5 ∷ n ∷ []
mark (sint n) = 6 ∷ bits64 n ∷ []
mark (bool b) = 7 ∷ cond b 1 0 ∷ []

abbrev pub same : Content → Content → Bool
same a b = same_bytes (mark a) (mark b)

-- ---- keys and values are those of the tags, in order of first use
abbrev pub among : {A : Type 0} → (A → A → Bool) → A → List A → Bool
among alike x [] = false
among alike x (y ∷ ys) = cond (alike y x) true (among alike x ys)

-- where the first that is x stands
abbrev pub place_of : {A : Type 0} → (A → A → Bool) → A → List A → ℕ
place_of alike x [] = 0
place_of alike x (y ∷ ys) = cond (alike y x) 0 (suc (place_of alike x ys))

-- x behind those met, unless it is one of them
abbrev pub joined : {A : Type 0} → (A → A → Bool) → List A → A → List A
joined alike met x = met ++ cond (among alike x met) [] (x ∷ [])

abbrev pub first_used : {A : Type 0} → (A → A → Bool) → List A → List A → List A
first_used alike met [] = met
first_used alike met (x ∷ xs) = first_used alike (joined alike met x) xs

abbrev pub all_tags : List Feature → List Tag
all_tags [] = []
all_tags (f ∷ fs) = f.tags ++ all_tags fs

abbrev pub key_of : Tag → List ℕ
key_of t = t.key

abbrev pub content_of : Tag → Content
content_of t = t.value

abbrev pub keys_of : List Feature → List (List ℕ)
keys_of fs = first_used same_bytes [] (map key_of (all_tags fs))

abbrev pub values_of : List Feature → List Content
values_of fs = first_used same [] (map content_of (all_tags fs))

-- ---- the calls on a layer, and what each does where it is accepted
pub data Call : Type 0 where
  opens : ℕ → List ℕ → Call
  identifies : ℕ → Call
  tags : List ℕ → Content → Call
  closes : Call
  abandons : Call

-- a new layer, and one with these features and this one open
abbrev pub blank : List ℕ → ℕ → Drawing
blank name extent = record { name = name; extent = extent; features = []; pending = none }

abbrev pub drawn : Drawing → List Feature → Option Feature → Drawing
drawn d fs f = record { name = d.name; extent = d.extent; features = fs; pending = f }

abbrev pub fresh : ℕ → List ℕ → Feature
fresh kind words = record { kind = kind; id = none; geometry = words; tags = [] }

abbrev pub identified : ℕ → Feature → Feature
identified n f = record { kind = f.kind; id = some n; geometry = f.geometry; tags = f.tags }

abbrev pub tagged : Tag → Feature → Feature
tagged t f = record { kind = f.kind; id = f.id; geometry = f.geometry; tags = f.tags ++ (t ∷ []) }

-- a call on the open feature
abbrev pub on_open : (Feature → Feature) → Option Feature → Option Feature
on_open go none = none
on_open go (some f) = some (go f)

abbrev pub completed : Option Feature → List Feature
completed none = []
completed (some f) = f ∷ []

abbrev pub after : Call → Drawing → Drawing
after (opens kind words) d = drawn d d.features (some (fresh kind words))
after (identifies n) d = drawn d d.features (on_open (identified n) d.pending)
after (tags key value) d = drawn d d.features (on_open (tagged (record { key = key; value = value })) d.pending)
after closes d = drawn d (d.features ++ completed d.pending) none
after abandons d = drawn d d.features none

-- a whole feature
abbrev pub added : Feature → Drawing → Drawing
added f d = drawn d (d.features ++ (f ∷ [])) none
