-- Laws of calls in order: one more call, and calls after calls.
--     go_on go_off           the first call accepted, or refused
--     go_then                calls after calls
--     never_on same_state    what an outcome tells
use mathlib.Core.Path.{◌≡◌, refl, sym, ◌∙◌, ap}
use mathlib.Core.Bool.{Bool, true, false, cond}
use mathlib.Core.List.{List, [], ◌∷◌, ◌++◌}
use Prim.Native.Nat.{ℕ}
use native.Mathlib.Omega.{arith}
use lib.Dec.{eqb}
use Rattle.promise.specs.Answers.{Written, Gives, kept}
use Rattle.refusal.specs.declared.Refusal.{Refusal}
use Rattle.refusal.specs.Said.{Said, refused}
use Rattle.refusal.proofs.Laws.{not_zero, never_zero}
use Rattle.encoder.specs.declared.GeomEncoder.{GeomEncoder}
use Rattle.encoder.specs.Answers.{Counted, done, turned}
use Rattle.encoder.specs.Calls.{Call, call}
use Rattle.encoder.proofs.Accepted.{refused_keeps}
use Rattle.encoder.specs.Jobs.{Outcome, on, off, taken, stopped, go}

-- ---- an outcome that goes on is none that stopped, and is known by its state
state_in_lem : GeomEncoder → Outcome → GeomEncoder
state_in_lem d (on n s) = s
state_in_lem d (off a) = d

is_on : Outcome → ℕ
is_on (on n s) = 1
is_on (off a) = 0

pub never_on : {a : Said ℕ} {n : ℕ} {s : GeomEncoder} → off a ≡ on n s → ⊥
unfolding is_on
never_on e = let z : ◌≡◌ {A = ℕ} 0 1 = ap is_on e in omega arith

pub same_state : {n m : ℕ} {s t : GeomEncoder} → on n s ≡ on m t → s ≡ t
unfolding state_in_lem
same_state {s = s} e = ap (state_in_lem s) e

-- ---- one more call
module _ (c : Call) (cs : List Call) (n : ℕ) (s t : GeomEncoder) (out l : List ℕ) where
  pub go_on : Gives (call c s out) (done t) l → go (c ∷ cs) n s out ≡ go cs (taken c n) t l
  go_on g = rw (sym g.answer, sym g.memory)

  module _ (k : Refusal) (g : Gives (call c s out) (turned k t) l) where
    pub go_off : go (c ∷ cs) n s out ≡ kept (off (refused k n)) out
    go_off = rw (sym g.answer, never_zero k)

    pub off_list : l ≡ out
    off_list = g.memory ∙ refused_keeps c s out (λ e. not_zero k (ap (λ (a : Said Counted). a.number) g.answer ∙ e))

-- ---- calls after calls
abbrev pub then : Outcome → List Call → List ℕ → Written Outcome (List ℕ)
then (on n s) cs out = go cs n s out
then (off a) cs out = kept (off a) out

module _ (ds : List Call) where
  -- one more call in front, by whether it is accepted: w goes on from it, and x does so with ds behind
  then_by : (b : Bool) (w x : Written Outcome (List ℕ)) (a : Said ℕ) (out : List ℕ) → x ≡ then w.answer ds w.memory →
      cond b x (kept (off a) out) ≡ then (cond b w (kept (off a) out)).answer ds (cond b w (kept (off a) out)).memory
  then_by true w x a out e = e
  then_by false w x a out e = refl

  pub go_then : (cs : List Call) (n : ℕ) (s : GeomEncoder) (out : List ℕ) → go (cs ++ ds) n s out ≡ then (go cs n s out).answer ds (go cs n s out).memory
  go_then [] n s out = refl
  go_then (c ∷ cs) n s out =
      let w = call c s out in
      then_by (eqb w.answer.number 0) (go cs (taken c n) w.answer.values.state w.memory) (go (cs ++ ds) (taken c n) w.answer.values.state w.memory) (stopped n w.answer) out
      (go_then cs (taken c n) w.answer.values.state w.memory)
