-- An answer is known by what it says: one value for each answer enum.
use Prim.Native.Nat.{ℕ}
use mathlib.Core.Path.{◌≡◌, sym, ap}
use mathlib.Core.List.{List, [], ◌∷◌}
use Rattle.refusal.specs.declared.Refusal.{Refusal}
use Rattle.refusal.specs.Said.{Said}
use Rattle.refusal.proofs.Laws.{one_refusal, never_both}
use Rattle.table.specs.declared.Text.{Text}
use Rattle.layer.specs.declared.Layer.{Layer}
use Rattle.std.specs.Prelude.{Result, Ok, Err}
use Rattle.layer.specs.Answers.{Changed}
use Rattle.layer.specs.Many.{Added}
use Rattle.refusal.specs.declared.Refused.{Refused}
use Rattle.layer.specs.Answers.{said_changed, said_created, Told, said_counted, said_named}
use Rattle.layer.specs.Many.{Many, many_of, said_added}

-- a list of one holds what it holds
one : {X : Type 0} (a b : X) → a ∷ [] ≡ b ∷ [] → a ≡ b
one a b e = cc

same_kept : {T : Type 0} (a b : Refused T) → a.refusal ≡ b.refusal → a.kept ≡ b.kept → a ≡ b
same_kept a b i j = λ k. record { refusal = i k; kept = j k }

pub one_changed : (r r' : Changed) → said_changed r ≡ said_changed r' → r ≡ r'
one_changed (Ok s) (Ok t) e = ap (λ (x : Said Layer). Ok x.values) e
one_changed (Ok s) (Err b) e = absurd (never_both b.refusal e)
one_changed (Err a) (Ok t) e = absurd (never_both a.refusal (sym e))
one_changed (Err a) (Err b) e = ap Err (same_kept a b (one_refusal a.refusal b.refusal e) (ap (λ (x : Said Layer). x.values) e))

pub one_created : (r r' : Result Layer Refusal) → said_created r ≡ said_created r' → r ≡ r'
one_created (Ok s) (Ok t) e = ap Ok (one s t (ap (λ (x : Said (List Layer)). x.values) e))
one_created (Ok s) (Err r) e = absurd (never_both r e)
one_created (Err r) (Ok t) e = absurd (never_both r (sym e))
one_created (Err r) (Err r') e = ap Err (one_refusal r r' e)

pub one_counted : (r r' : Result ℕ (Refused Layer)) → said_counted r ≡ said_counted r' → r ≡ r'
one_counted (Ok m) (Ok n) e = ap (λ (x : Said (Told ℕ)). Ok x.values.told) e
one_counted (Ok m) (Err b) e = absurd (never_both b.refusal e)
one_counted (Err a) (Ok n) e = absurd (never_both a.refusal (sym e))
one_counted (Err a) (Err b) e = ap Err (same_kept a b (one_refusal a.refusal b.refusal e) (one a.kept b.kept (ap (λ (x : Said (Told ℕ)). x.values.given) e)))

pub one_named : (r r' : Result Text (Refused Layer)) → said_named r ≡ said_named r' → r ≡ r'
one_named (Ok s) (Ok t) e = ap Ok (one s t (ap (λ (x : Said (Told (List Text))). x.values.told) e))
one_named (Ok s) (Err b) e = absurd (never_both b.refusal e)
one_named (Err a) (Ok t) e = absurd (never_both a.refusal (sym e))
one_named (Err a) (Err b) e = ap Err (same_kept a b (one_refusal a.refusal b.refusal e) (one a.kept b.kept (ap (λ (x : Said (Told (List Text))). x.values.given) e)))

same_many : (p q : Layer × ℕ) → many_of p ≡ many_of q → p ≡ q
same_many (s, m) (t, n) e = ap (λ (x : Many). (x.layer, x.count)) e

pub one_added : (r r' : Added) → said_added r ≡ said_added r' → r ≡ r'
one_added (Ok p) (Ok q) e = ap Ok (same_many p q (ap (λ (x : Said Many). x.values) e))
one_added (Ok p) (Err b) e = absurd (never_both b.refusal e)
one_added (Err a) (Ok q) e = absurd (never_both a.refusal (sym e))
one_added (Err a) (Err b) e = ap Err (same_kept a b (one_refusal a.refusal b.refusal e) (same_many a.kept b.kept (ap (λ (x : Said Many). x.values) e)))
