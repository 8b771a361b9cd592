-- The two laws of specs/Laws, from what Symmetry and Shift prove of the definition: `from_other_end`, `by_one_step`.
use mathlib.Core.Path.{◌≡◌, refl, sym, ◌∙◌, ap}
use mathlib.Core.Bool.{Bool, true, false, cond}
use mathlib.Core.List.{List, [], ◌∷◌}
use lib.IntN.{ℤ}
use Rattle.refusal.specs.declared.Refusal.TheVariants.{Box, Coord}
use Rattle.refusal.specs.Said.{Said, accepted, refused}
use Rattle.clip.specs.declared.Seg.{Seg}
use Rattle.clip.specs.declared.BBox.{BBox}
use Rattle.clip.specs.declared.ClippedSeg.{ClippedSeg}
use Rattle.std.specs.Prelude.{Result, Ok, Err}
use Rattle.refusal.specs.declared.Refusal.{Refusal}
use Rattle.clip.specs.Domain.{is_coord, is_good}
use Rattle.clip.specs.Cutting.{clip}
use Rattle.clip.specs.Answer.{said_clipped, are_coords, clipped}
use Rattle.clip.specs.Laws.{said_of, answer_of, reversed, turned, FromOtherEnd, moved_seg, moved_box, moved_clip, BothTaken, ByOneStep}
use Rattle.promise.proofs.Joined.{and_sym}
use Rattle.clip.proofs.Callers.{one_answer, not_refused}
use Rattle.clip.proofs.Symmetry.{clip_reversed}
use Rattle.clip.proofs.Shift.{clip_moved}

-- an answer changed says what it said, changed
said_of_lem : (f : ClippedSeg → ClippedSeg) (r : Result ClippedSeg Refusal) → said_clipped (answer_of f r) ≡ said_of f (said_clipped r)
said_of_lem f (Ok c) = refl
said_of_lem f (Err r) = refl

-- what is said leaves one answer
one_changed : (f : ClippedSeg → ClippedSeg) (r r' : Result ClippedSeg Refusal) {a a' : Said (List ClippedSeg)} → a' ≡ said_of f a → said_clipped r ≡ a → said_clipped r' ≡ a' → r' ≡ answer_of f r
one_changed f r r' e g h = one_answer r' (answer_of f r) (h ∙ e ∙ ap (said_of f) (sym g) ∙ sym (said_of_lem f r))

reversed_said : (s : Seg) (b : BBox) → clipped (reversed s) b ≡ said_of turned (clipped s b)
unfolding clipped
reversed_said s b = rw (and_sym (is_coord s.p1) (is_coord s.p0), clip_reversed b s) (go (is_good b) (are_coords s))
  where
    go : (g t : Bool) → cond g (cond t (accepted (turned (clip b s) ∷ [])) (refused Coord [])) (refused Box [])
        ≡ said_of turned (cond g (cond t (accepted (clip b s ∷ [])) (refused Coord [])) (refused Box []))
    go true true = refl
    go true false = refl
    go false t = refl

pub from_other_end : FromOtherEnd
from_other_end = record {
  defined = clip_reversed;
  said = reversed_said;
  answered = λ s b r r'. one_changed turned r r' (reversed_said s b);
}

module _ (u v : ℤ) (s : Seg) (b : BBox) (h : BothTaken u v s b) where
  moved_said : clipped (moved_seg u v s) (moved_box u v b) ≡ said_of (moved_clip u v) (clipped s b)
  moved_said =
      not_refused (moved_seg u v s) (moved_box u v b) h.box_moved h.ends_moved ∙ ap (λ (c : ClippedSeg). accepted (c ∷ [])) (clip_moved u v b s) ∙
      ap (said_of (moved_clip u v)) (sym (not_refused s b h.box h.ends))

pub by_one_step : ByOneStep
by_one_step = record {
  defined = clip_moved;
  said = moved_said;
  answered = λ u v s b h r r'. one_changed (moved_clip u v) r r' (moved_said u v s b h);
}
