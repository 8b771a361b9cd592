-- Calls one after the other, each accepted: what a part and a whole job are made of.
use Rattle.std.specs.Prelude.{ℕ, ◌≡◌, List, [], ◌∷◌}
use Rattle.promise.specs.Answers.{Written, kept}
use Rattle.refusal.specs.Said.{Said}
use Rattle.clip.specs.declared.Pt.{Pt}
use Rattle.encoder.specs.declared.GeomEncoder.{GeomEncoder}
use Rattle.encoder.specs.Answers.{Counted, done}
use Rattle.encoder.specs.Adding.{added}
use Rattle.encoder.specs.Completing.{completed}

pub data Call : Type 0 where
  add : Pt → Call
  complete : Call

abbrev pub call : Call → GeomEncoder → List ℕ → Written (Said Counted) (List ℕ)
call (add p) s out = added s p out
call complete s out = completed s out

-- the calls of a part: its points, and its completion
abbrev pub part_calls : List Pt → List Call
part_calls [] = complete ∷ []
part_calls (p ∷ ps) = add p ∷ part_calls ps

-- from the state s and the list out, each of the calls is accepted, and the last one leaves t and l
pub data After : List Call → GeomEncoder → List ℕ → GeomEncoder → List ℕ → Type 0 where
  none : {s : GeomEncoder} {out : List ℕ} → After [] s out s out
  next : {c : Call} {cs : List Call} {s t u : GeomEncoder} {out l m : List ℕ} → call c s out ≡ kept (done t) l → After cs t l u m → After (c ∷ cs) s out u m
