-- A layer as C carries it, put together from its parts, and what comes back of one that was handed out; a flag or a mark that is neither 0 nor 1 is STATE.
use Prim.Native.Nat.{ℕ}
use mathlib.Core.Path.{◌≡◌, refl}
use mathlib.Core.Bool.{Bool, true, false, ◌&&◌, ◌||◌}
use lib.Dec.{ltb, eqb}
use Rattle.std.specs.Prelude.{Option, Some, None}
use Rattle.layer.specs.declared.Figures.{Figures}
use Rattle.layer.specs.declared.Layer.{Layer}
use Rattle.layer.specs.Held.{Memory, fits, seen}
use Rattle.layer.specs.State.{valid}
use Rattle.brinepost_tiles.specs.declared.carried.BpFigures.{BpFigures}
use Rattle.brinepost_tiles.specs.declared.carried.BpLayer.{BpLayer}
use Rattle.brinepost_tiles.specs.Carried.{figures_of, figures_to, open_of, flag_to, since_to, mark_to, broken, is_broken, layer_of, layer_to}

pub layer_read_lem : (s : BpLayer) (a : Figures) (b : Option Figures) → is_broken s ≡ false → a ≡ figures_of s.used → b ≡ open_of s.is_open s.since →
    ◌≡◌ {A = Layer} (record { extent = s.extent; strict = eqb s.is_strict 1; name = s.name; used = a; feature = b }) (layer_of s)
unfolding layer_of
layer_read_lem s a b h e f = rw (h, e, f)

pub layer_broken : (s : BpLayer) (r : Layer) → is_broken s ≡ true → r ≡ broken → r ≡ layer_of s
unfolding layer_of
layer_broken s r h e = rw (h, e)

pub layer_made : (s : Layer) (n k : ℕ) (a b : BpFigures) → n ≡ flag_to s.feature → k ≡ mark_to s.strict → a ≡ since_to s.feature → b ≡ figures_to s.used →
    ◌≡◌ {A = BpLayer} (record { extent = s.extent; is_open = n; is_strict = k; name = s.name; used = b; since = a }) (layer_to s)
unfolding layer_to
layer_made s n k a b e d f g = rw (e, d, f, g)

-- what C was handed and hands in again is the layer itself, its mark and its open feature among it
back : (s : Layer) (f : Option Figures) (b : Bool) → s.feature ≡ f → s.strict ≡ b → layer_of (layer_to s) ≡ s
unfolding layer_of layer_to
back s None true e d = rw (e, d)
back s None false e d = rw (e, d)
back s (Some o) true e d = rw (e, d)
back s (Some o) false e d = rw (e, d)

pub carried_back : (s : Layer) → layer_of (layer_to s) ≡ s
carried_back s = back s s.feature s.strict refl refl

-- whatever lists are lent
pub stands_broken : (a : Bool) → a && false ≡ false
stands_broken true = refl
stands_broken false = refl

or_true : (a : Bool) → a || true ≡ true
or_true true = refl
or_true false = refl

bad : (s : BpLayer) (m : Memory) → is_broken s ≡ true → valid (seen (layer_of s) m) ≡ false
unfolding layer_of valid
bad s m h =
    let e : broken ≡ layer_of s = layer_broken s broken h refl in
    rw (← e) (stands_broken (fits broken.used (seen broken m).room))

pub bad_flag : (s : BpLayer) (m : Memory) → ltb 1 s.is_open ≡ true → valid (seen (layer_of s) m) ≡ false
bad_flag s m h = bad s m (rw h)

pub bad_mark : (s : BpLayer) (m : Memory) → ltb 1 s.is_strict ≡ true → valid (seen (layer_of s) m) ≡ false
bad_mark s m h = bad s m (rw h (or_true (ltb 1 s.is_open)))
