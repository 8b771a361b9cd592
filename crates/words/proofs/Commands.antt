-- Laws of command words: encoding and decoding undo each other, and an answer is known by what it says.
use mathlib.Core.Path.{◌≡◌, refl, sym, ◌∙◌, ap}
use mathlib.Core.Bool.{Bool, true, false, cond}
use Prim.Native.Nat.{ℕ, ◌/◌, ◌%◌}
use native.Mathlib.Omega.{arith}
use Rattle.std.specs.Prelude.{Result, Ok, Err}
use Rattle.refusal.specs.declared.Refusal.{Refusal}
use Rattle.refusal.specs.declared.Refusal.TheVariants.{Command as NoCommand}
use Rattle.refusal.specs.Said.{Said, accepted, refused}
use Rattle.refusal.proofs.Laws.{one_refusal, never_both}
use Rattle.words.specs.declared.command.Command.{Command}
use Rattle.words.specs.declared.command.Command.TheVariants.{MoveTo, LineTo, ClosePath}
use Rattle.words.specs.declared.command.CommandInt.{CommandInt}
use Rattle.words.specs.Commands.{id_of, command_word, said_word, IdCount, is_id, decoded, said_command}

-- ---- there and back
parts : (c : Command) (count : ℕ) → (command_word (id_of c) count % 8 ≡ id_of c) × (command_word (id_of c) count / 8 ≡ count)
parts MoveTo count = (omega arith, omega arith)
parts LineTo count = (omega arith, omega arith)
parts ClosePath count = (omega arith, omega arith)

known : (c : Command) → is_id (id_of c) ≡ true
known MoveTo = refl
known LineTo = refl
known ClosePath = refl

pub read_written : (c : Command) (count : ℕ) → decoded (command_word (id_of c) count) ≡ accepted (record { id = id_of c; count = count })
read_written c count = let (e, f) = parts c count in rw (e, f, known c)

pub written_read : (word : ℕ) → command_word (word % 8) (word / 8) ≡ word
written_read word = omega arith

-- ---- one value for each answer
same_id : (c c' : Command) → id_of c ≡ id_of c' → c ≡ c'
same_id MoveTo MoveTo e = refl
same_id MoveTo LineTo e = absurd (omega arith)
same_id MoveTo ClosePath e = absurd (omega arith)
same_id LineTo MoveTo e = absurd (omega arith)
same_id LineTo LineTo e = refl
same_id LineTo ClosePath e = absurd (omega arith)
same_id ClosePath MoveTo e = absurd (omega arith)
same_id ClosePath LineTo e = absurd (omega arith)
same_id ClosePath ClosePath e = refl

pub one_word : (r r' : Result ℕ Refusal) → said_word r ≡ said_word r' → r ≡ r'
one_word (Ok w) (Ok w') e = ap (λ (s : Said ℕ). Ok s.values) e
one_word (Ok w) (Err r) e = absurd (never_both r e)
one_word (Err r) (Ok w) e = absurd (never_both r (sym e))
one_word (Err r) (Err r') e = ap Err (one_refusal r r' e)

pub one_command : (r r' : Result CommandInt Refusal) → said_command r ≡ said_command r' → r ≡ r'
one_command (Ok c) (Ok c') e =
    let i : c.id ≡ c'.id = same_id c.id c'.id (ap (λ (s : Said IdCount). s.values.id) e) in
    let n : c.count ≡ c'.count = ap (λ (s : Said IdCount). s.values.count) e in
    λ k. Ok (record { id = i k; count = n k })
one_command (Ok c) (Err r) e = absurd (never_both r e)
one_command (Err r) (Ok c) e = absurd (never_both r (sym e))
one_command (Err r) (Err r') e = ap Err (one_refusal r r' e)

-- ---- the word that was decoded, by what `decode` answered
abbrev none : IdCount
none = record { id = 0; count = 0 }

heard_not : (t : Bool) (x : IdCount) (k : Refusal) → refused k none ≡ cond t (accepted x) (refused NoCommand none) → t ≡ false
heard_not true x k e = absurd (never_both k (sym e))
heard_not false x k e = refl

heard : (t : Bool) (x v : IdCount) → accepted v ≡ cond t (accepted x) (refused NoCommand none) → (t ≡ true) × (v ≡ x)
heard true x v e = (refl, ap (λ (s : Said IdCount). s.values) e)
heard false x v e = absurd (never_both NoCommand e)

module _ (word : ℕ) (r : Result CommandInt Refusal) (said : said_command r ≡ decoded word) where
  pub decoded_none : (k : Refusal) → r ≡ Err k → is_id (word % 8) ≡ false
  decoded_none k e = heard_not (is_id (word % 8)) (record { id = word % 8; count = word / 8 }) k (ap said_command (sym e) ∙ said)

  pub decoded_some : (c : CommandInt) → r ≡ Ok c → (is_id (word % 8) ≡ true) × (id_of c.id ≡ word % 8) × (c.count ≡ word / 8)
  decoded_some c e =
      let (t, v) = heard (is_id (word % 8)) (record { id = word % 8; count = word / 8 }) (record { id = id_of c.id; count = c.count }) (ap said_command (sym e) ∙ said) in
      (t, ap (λ (x : IdCount). x.id) v, ap (λ (x : IdCount). x.count) v)
