-- What a refused new encoder, and a refused job, gives in place of a state, every number 0: the calls that a state is handed to, a point's, a surveyed point's
-- and a part's, refuse it as STATE, whatever list is lent, give it back and write nowhere.
use Prim.Native.Nat.{ℕ}
use mathlib.Core.Path.{◌≡◌, refl}
use mathlib.Core.Bool.{Bool, true, false, ◌&&◌}
use mathlib.Core.List.{List}
use lib.ListN.{length}
use Rattle.promise.specs.Answers.{kept}
use Rattle.refusal.specs.declared.Refusal.TheVariants.{State}
use Rattle.clip.specs.declared.Pt.{Pt}
use Rattle.clip.specs.Domain.{is_good}
use Rattle.encoder.specs.Points.{in_limits}
use Rattle.encoder.specs.Figures.{figures_fit}
use Rattle.encoder.specs.Tallies.{balanced}
use Rattle.encoder.specs.States.{valid}
use Rattle.encoder.specs.Adding.{added}
use Rattle.encoder.specs.Completing.{completed}
use Rattle.telling.specs.Telling.{told}
use Rattle.brinepost.specs.Carried.{point_to, are_flags, state_of, nothing}
use Rattle.brinepost.specs.Drawing.{flat_drawn, flagged, unless_flagged, added_at, completed_from}

no_kind : (a c d e : Bool) → a && false && c && d && e ≡ false
no_kind true c d e = refl
no_kind false c d e = refl

no_state : (n : ℕ) → valid (state_of nothing) n ≡ false
unfolding valid state_of nothing
no_state n = no_kind (figures_fit 0 0 0 n) (is_good (state_of nothing).bbox) (in_limits (state_of nothing).xy_end (state_of nothing).pt0 (state_of nothing).pt1) (balanced (state_of nothing).tally)

pub point_refused : (p : Pt) (out : List ℕ) → added_at nothing p out ≡ kept (flagged nothing State) out
unfolding unless_flagged are_flags nothing point_to told flat_drawn added
point_refused p out = rw (no_state (length out))

pub part_refused : (out : List ℕ) → completed_from nothing out ≡ kept (flagged nothing State) out
unfolding unless_flagged are_flags nothing point_to told flat_drawn completed
part_refused out = rw (no_state (length out))
