-- The grammar by what comes next (PB, "Message Structure"): each definition says what stands at the front of the bytes and hands what is behind it to the next,
-- `K`, so that a byte can be taken off in front. It says the same as `is_good` of messages, and is there for the laws alone. Varints are what `read_of` of wire
-- reads: at most ten bytes and 64 bits, longer forms too.
use Rattle.std.specs.Prelude.{ℕ, zero, suc, ◌≤◌, ◌≡◌, List, [], length, take, drop}
use Rattle.wire.specs.Reading.{VarintRead, good, cut, over, read_of}
use Rattle.messages.specs.declared.key.Kind.{Kind}
use Rattle.messages.specs.declared.key.Body.{Body}
use Rattle.messages.specs.declared.key.Body.TheVariants.{Any as any, Varints as varints, Within as within}
use Rattle.messages.specs.declared.key.Follows.{Follows}
use Rattle.messages.specs.declared.key.Follows.TheVariants.{Wrong as wrong, AVarint as aVarint, Bytes as bytes, ABody as aBody}
use Rattle.messages.specs.Keys.{follows}

-- a varint was read: its number and what is behind it
abbrev pub Then : VarintRead → List ℕ → (ℕ → List ℕ → Type 0) → Type 0
Then (good n k) bs K = K n (drop k bs)
Then cut bs K = ⊥
Then (over place) bs K = ⊥

-- a varint at the front, after whose first byte so many may follow; 9 for a whole one
abbrev pub Varint : ℕ → List ℕ → (ℕ → List ℕ → Type 0) → Type 0
Varint more bs K = Then (read_of 2 more bs) bs K

-- so many bytes at the front are an A, and what is behind them a B
pub record Within (n : ℕ) (bs : List ℕ) (A B : List ℕ → Type 0) : Type 0 where
  pub there : n ≤ length bs
  pub inside : A (take n bs)
  pub rest : B (drop n bs)

-- varints exactly to the end: so many, or any number of them
abbrev pub VarintsOf : ℕ → List ℕ → Type 0
VarintsOf zero bs = bs ≡ []
VarintsOf (suc count) bs = Varint 9 bs (λ n r. VarintsOf count r)

abbrev pub Varints : List ℕ → Type 0
Varints bs = (count : ℕ) × VarintsOf count bs

-- P says which bytes are a message of a kind
module _ (P : Kind → List ℕ → Type 0) where
  abbrev pub IsBody : Body → List ℕ → Type 0
  IsBody any bs = Unit {0}
  IsBody varints bs = Varints bs
  IsBody (within kind) bs = P kind bs

  abbrev pub Content : Follows → List ℕ → (List ℕ → Type 0) → Type 0
  Content wrong bs K = ⊥
  Content aVarint bs K = Varint 9 bs (λ n r. K r)
  Content (bytes n) bs K = Within n bs (λ m. Unit {0}) K
  Content (aBody body) bs K = Varint 9 bs (λ n r. Within n r (IsBody body) K)

  abbrev pub FieldsOf : Kind → ℕ → List ℕ → Type 0
  FieldsOf kind zero bs = bs ≡ []
  FieldsOf kind (suc count) bs = Varint 9 bs (λ key r. Content (follows kind key) r (FieldsOf kind count))

  abbrev pub Message : Kind → List ℕ → Type 0
  Message kind bs = (count : ℕ) × FieldsOf kind count bs

-- messages one inside the other, so many deep
abbrev pub Level : ℕ → Kind → List ℕ → Type 0
Level zero kind bs = ⊥
Level (suc depth) kind bs = Message (Level depth) kind bs
