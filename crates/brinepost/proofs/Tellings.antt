-- What C is told follows from what the proved function said, for a call that carries a state by its flags too.
use Prim.Native.Nat.{ℕ}
use mathlib.Core.Path.{◌≡◌, refl, sym, ◌∙◌, ap}
use mathlib.Core.Bool.{Bool, true, false, not, ◌&&◌, cond}
use mathlib.Core.List.{List, [], ◌∷◌}
use borrow.Author.Tests.{not-true, not-false}
use mir.Syntax.{w32}
use mir.Val.{to_z, of_z}
use lib.IntN.{ℤ}
use lib.Ieee.{Float}
use lib.Dec.{eqb}
use Rattle.whole.proofs.Machine.{Back}
use Rattle.promise.specs.Answers.{Written, Gives}
use Rattle.refusal.specs.declared.Refusal.{Refusal}
use Rattle.refusal.specs.declared.Refusal.TheVariants.{Box, Coord, State}
use Rattle.refusal.specs.Refusals.{number_of}
use Rattle.refusal.specs.Said.{Said, accepted}
use Rattle.telling.proofs.Tellings.{told_gives}
use Rattle.clip.specs.declared.Pt.{Pt}
use Rattle.clip.specs.declared.Seg.{Seg}
use Rattle.clip.specs.declared.BBox.{BBox}
use Rattle.clip.specs.declared.ClippedSeg.{ClippedSeg}
use Rattle.clip.specs.Domain.{is_coord, is_good, is_inside}
use Rattle.clip.specs.Answer.{said_clipped, are_coords, clipped}
use Rattle.clip.specs.Numbers.{seg_at, box_at}
use Rattle.clip.specs.Cutting.{given as asGiven, overlap}
use Rattle.clip.specs.declared.Edge.{Edge}
use Rattle.promise.proofs.Joined.{both}
use Rattle.clip.proofs.Callers.{box_refused, coord_refused, kept_inside, kept_apart}
use Rattle.affine.specs.declared.Affine.{Affine}
use Rattle.affine.specs.Mapping.{said_mapped, mapped}
use Rattle.encoder.specs.declared.GeomEncoder.{GeomEncoder}
use Rattle.refusal.specs.declared.Refused.{Refused}
use Rattle.std.specs.Prelude.{Result, Ok, Err}
use Rattle.encoder.specs.declared.Edges.{Edges}
use Rattle.encoder.specs.Answers.{Counted, said_started, started, said_drawn, none, edges_of, passed}
use Rattle.encoder.specs.Adding.{added, edges}
use Rattle.encoder.specs.Completing.{completed}
use Rattle.brinepost.specs.declared.segment.BpClipped.{BpClipped}
use Rattle.brinepost.specs.declared.state.BpEncoder.{BpEncoder}
use Rattle.brinepost.specs.declared.calls.BpStarted.{BpStarted}
use Rattle.brinepost.specs.declared.calls.BpDrawn.{BpDrawn}
use Rattle.brinepost.specs.declared.surveyed.BpMapped.{BpMapped}
use Rattle.brinepost.specs.Segments.{ends, flat_clip}
use Rattle.brinepost.specs.Carried.{are_flags, state_of}
use Rattle.brinepost.specs.Drawing.{flat_started, flat_drawn, flagged, unless_flagged, added_at, completed_from}
use Rattle.brinepost.specs.Surveyed.{flat_mapped}

-- a segment and a box made of numbers, and the numbers of a clipped segment, as the machine reads them back
abbrev read : ℤ → ℤ
read z = to_z w32 (of_z w32 z)

module _ {x0 y0 x1 y1 : ℤ} (b0 : Back w32 x0) (c0 : Back w32 y0) (b1 : Back w32 x1) (c1 : Back w32 y1) where
  pub seg_read : (s : Seg) → s ≡ seg_at (read x0) (read y0) (read x1) (read y1) → s ≡ seg_at x0 y0 x1 y1
  seg_read s e = rw (b0, c0, b1, c1) at e

  pub ends_read : (m n : Edge) (r : BpClipped) → r ≡ ends 0 (record { seg = seg_at (read x0) (read y0) (read x1) (read y1); first = m; second = n } ∷ []) → r ≡ ends 0 (record { seg = seg_at x0 y0 x1 y1; first = m; second = n } ∷ [])
  ends_read m n r e = rw (b0, c0, b1, c1) at e

pub box_read : {l r b t : ℤ} → Back w32 l → Back w32 r → Back w32 b → Back w32 t → (x : BBox) → x ≡ box_at (read l) (read r) (read b) (read t) → x ≡ box_at l r b t
box_read bl br bb bt x e = rw (bl, br, bb, bt) at e

pub clip_of : (s t : Seg) (b c : BBox) (r : BpClipped) → s ≡ t → b ≡ c → r ≡ flat_clip (clipped s b) → r ≡ flat_clip (clipped t c)
clip_of s t b c r e f h = rw (e, f) at h

-- a segment answered as given
as_given : (s t : Seg) (b : BBox) (r : BpClipped) → clipped s b ≡ accepted (asGiven s ∷ []) → s ≡ t → r ≡ ends 0 (asGiven t ∷ []) → r ≡ flat_clip (clipped s b)
unfolding flat_clip
as_given s t b r h f e = e ∙ ap (λ (z : Seg). ends 0 (asGiven z ∷ [])) (sym f) ∙ sym (ap flat_clip h)

-- a box that is not good; then both ends in it, an end beyond the limit, and no overlap, as the code's tests tell it
module _ (s : Seg) (b : BBox) (g : Bool) (eg : g ≡ is_good b) (r : BpClipped) where
  pub clip_box : not g ≡ true → r ≡ ends (number_of Box) [] → r ≡ flat_clip (clipped s b)
  unfolding flat_clip
  clip_box n e = e ∙ sym (ap flat_clip (box_refused s b (sym eg ∙ not-true g n)))

  module _ (n : not g ≡ false) (u v : Bool) where
    pub clip_kept : u ≡ is_inside b s.p0 → v ≡ is_inside b s.p1 → (u && v) ≡ true → (t : Seg) → s ≡ t → r ≡ ends 0 (asGiven t ∷ []) → r ≡ flat_clip (clipped s b)
    clip_kept eu ev i t = let h = both u v i in as_given s t b r (kept_inside s b (sym eg ∙ not-false g n) (sym eu ∙ h.0) (sym ev ∙ h.1))

    module _ (eu : u ≡ is_coord s.p0) (ev : v ≡ is_coord s.p1) where
      told : (u && v) ≡ are_coords s
      told = rw (eu, ev) refl

      pub clip_coord : not (u && v) ≡ true → r ≡ ends (number_of Coord) [] → r ≡ flat_clip (clipped s b)
      unfolding flat_clip
      clip_coord i e = e ∙ sym (ap flat_clip (coord_refused s b (sym eg ∙ not-false g n) (sym told ∙ not-true (u && v) i)))

      pub clip_apart : not (u && v) ≡ false → (o : Bool) → o ≡ overlap b s → not o ≡ true → (t : Seg) → s ≡ t → r ≡ ends 0 (asGiven t ∷ []) → r ≡ flat_clip (clipped s b)
      clip_apart i o eo h t = as_given s t b r (kept_apart s b (sym eg ∙ not-false g n) (sym told ∙ not-false (u && v) i) (sym eo ∙ not-true o h))

-- what the clip said, by its two cases
module _ (a : Result ClippedSeg Refusal) (s : Seg) (b : BBox) (e : said_clipped a ≡ clipped s b) (r : BpClipped) where
  pub clip_done : (c : ClippedSeg) → a ≡ Ok c → r ≡ ends 0 (c ∷ []) → r ≡ flat_clip (clipped s b)
  unfolding flat_clip
  clip_done c f h = h ∙ ap flat_clip (sym (ap said_clipped f) ∙ e)

  pub clip_not : (k : Refusal) → a ≡ Err k → r ≡ ends (number_of k) [] → r ≡ flat_clip (clipped s b)
  unfolding flat_clip
  clip_not k f h = h ∙ ap flat_clip (sym (ap said_clipped f) ∙ e)

pub start_told : (a : Result GeomEncoder Refusal) (kind : ℕ) (b : BBox) (r : BpStarted) → said_started a ≡ started kind b → r ≡ flat_started (said_started a) → r ≡ flat_started (started kind b)
start_told a kind b r e h = h ∙ ap flat_started e

pub map_told : (a : Result Pt Refusal) (t u : Affine) (x y : Float) (r : BpMapped) → t ≡ u → said_mapped a ≡ mapped t x y → r ≡ flat_mapped (said_mapped a) → r ≡ flat_mapped (mapped u x y)
map_told a t u x y r f e h = h ∙ ap flat_mapped (e ∙ ap (λ (z : Affine). mapped z x y) f)

-- ---- the edges: a refused call names none, so what was passed on once is told as it is
passed_once : (b : Bool) (e : Edges) → cond b (cond b e none) none ≡ cond b e none
passed_once true e = refl
passed_once false e = refl

passes_none : (b : Bool) → cond b none none ≡ none
passes_none true = refl
passes_none false = refl

told_once : (given : BpEncoder) (e : Edges) (a : Said Counted) → flat_drawn given (passed a e) a ≡ flat_drawn given e a
unfolding flat_drawn
told_once given e a = rw (passed_once (eqb a.number 0) e)

-- ---- a call with a carried state: t is what its flags were answered to be
module _ (given : BpEncoder) (out : List ℕ) (t : Bool) (f : t ≡ are_flags given) where
  flags_no : (e : Edges) (w : Written (Said Counted) (List ℕ)) (r : BpDrawn) → not t ≡ true → r ≡ flagged given State → Gives (unless_flagged given out e w) r out
  unfolding unless_flagged
  flags_no e w r h k = rw (sym f ∙ not-true t h) (record { answer = k; memory = refl })

  flags_yes : (e : Edges) (w : Written (Said Counted) (List ℕ)) (a : Result (GeomEncoder × Edges) (Refused GeomEncoder)) (r : BpDrawn) (m : List ℕ) → not t ≡ false → Gives w (said_drawn a) m → edges_of a ≡ passed w.answer e → r ≡ flat_drawn given (edges_of a) (said_drawn a) → Gives (unless_flagged given out e w) r m
  unfolding unless_flagged
  flags_yes e w a r m h g n k =
      let p : edges_of a ≡ passed (said_drawn a) e = n ∙ ap (λ (x : Said Counted). passed x e) (sym g.answer) in
      let q : r ≡ flat_drawn given e (said_drawn a) = k ∙ ap (λ (x : Edges). flat_drawn given x (said_drawn a)) p ∙ told_once given e (said_drawn a) in
      rw (sym f ∙ not-false t h) (told_gives (flat_drawn given e) w (said_drawn a) r m g q)

  pub add_flagged : (p : Pt) (r : BpDrawn) → not t ≡ true → r ≡ flagged given State → Gives (added_at given p out) r out
  add_flagged p r h k = flags_no (edges (state_of given) p) (added (state_of given) p out) r h k

  pub complete_flagged : (r : BpDrawn) → not t ≡ true → r ≡ flagged given State → Gives (completed_from given out) r out
  complete_flagged r h k = flags_no none (completed (state_of given) out) r h k

  module _ (h : not t ≡ false) (s : GeomEncoder) (k : s ≡ state_of given) (a : Result (GeomEncoder × Edges) (Refused GeomEncoder)) (r : BpDrawn) (m : List ℕ) (q : r ≡ flat_drawn given (edges_of a) (said_drawn a)) where
    pub add_told : (p : Pt) → Gives (added s p out) (said_drawn a) m → edges_of a ≡ passed (added s p out).answer (edges s p) → Gives (added_at given p out) r m
    add_told p g n = rw (← k) (flags_yes (edges s p) (added s p out) a r m h g n q)

    pub complete_told : Gives (completed s out) (said_drawn a) m → edges_of a ≡ none → Gives (completed_from given out) r m
    complete_told g n = rw (← k) (flags_yes none (completed s out) a r m h g (n ∙ sym (passes_none (eqb (completed s out).answer.number 0))) q)
