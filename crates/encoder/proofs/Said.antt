-- An answer is known by what it says: one value for each answer enum.
use Rattle.std.specs.Prelude.{Result, Ok, Err}
use mathlib.Core.Path.{◌≡◌, refl, sym, ◌∙◌, ap}
use mathlib.Core.List.{List, [], ◌∷◌}
use Rattle.refusal.specs.Said.{Said}
use Rattle.refusal.proofs.Laws.{one_refusal, never_both, numbered}
use Rattle.encoder.specs.declared.GeomEncoder.{GeomEncoder}
use Rattle.encoder.specs.Answers.{Counted, done, turned, said_drawn, said_started, none, edges_of, passed}
use Rattle.encoder.specs.declared.Edges.{Edges}
use Rattle.refusal.specs.declared.Refusal.{Refusal}
use Rattle.refusal.specs.Refusals.{number_of}
use mathlib.Core.Bool.{Bool, true, false, cond}
use lib.Dec.{eqb}
use borrow.Author.Tests.{eq-eqb, ne_eqb}
use native.Mathlib.Omega.{arith}
use Rattle.refusal.specs.declared.Refused.{Refused}

pub one_drawn : (r r' : Result (GeomEncoder × Edges) (Refused GeomEncoder)) → said_drawn r ≡ said_drawn r' → edges_of r ≡ edges_of r' → r ≡ r'
one_drawn (Ok (s, n)) (Ok (t, m)) e f = let j : s ≡ t = ap (λ (x : Said Counted). x.values.state) e in λ k. Ok (j k, f k)
one_drawn (Ok (s, n)) (Err x) e f = absurd (never_both x.refusal e)
one_drawn (Err x) (Ok (t, m)) e f = absurd (never_both x.refusal (sym e))
one_drawn (Err x) (Err y) e f =
    let i : x.refusal ≡ y.refusal = one_refusal x.refusal y.refusal e in
    let j : x.kept ≡ y.kept = ap (λ (x : Said Counted). x.values.state) e in
    λ k. Err (record { refusal = i k; kept = j k })

pub one_started : (r r' : Result GeomEncoder Refusal) → said_started r ≡ said_started r' → r ≡ r'
one_started (Ok s) (Ok t) e = let l : s ∷ [] ≡ t ∷ [] = ap (λ (x : Said (List GeomEncoder)). x.values) e in let k : s ≡ t = cc in ap Ok k
one_started (Ok s) (Err r) e = absurd (never_both r e)
one_started (Err r) (Ok t) e = absurd (never_both r (sym e))
one_started (Err r) (Err r') e = ap Err (one_refusal r r' e)

-- ---- the edges that an answer passes on: those of the point where it is accepted, none where it is refused
module _ (a : Said Counted) (n : Edges) where
  pub passed_none : (r : Refusal) (s : GeomEncoder) → turned r s ≡ a → none ≡ passed a n
  passed_none r s e =
      let z : number_of r ≡ a.number = ap (λ (x : Said Counted). x.number) e in
      rw (ne_eqb a.number 0 (λ f. omega (arith, numbered r))) refl

  pub passed_on : (s : GeomEncoder) (m : Edges) → done s ≡ a → m ≡ n → m ≡ passed a n
  passed_on s m e f =
      let z : 0 ≡ a.number = ap (λ (x : Said Counted). x.number) e in
      rw (eq-eqb a.number 0 (sym z)) f

  -- edges that are none are passed on as none
  pub passed_nothing : (m : Edges) → m ≡ none → n ≡ none → m ≡ passed a n
  passed_nothing m e f = e ∙ by (eqb a.number 0)
    where
      by : (t : Bool) → none ≡ cond t n none
      by true = sym f
      by false = refl
