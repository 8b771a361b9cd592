-- The loops over a list of tags, five words at a time: the figures only grow, so that those which do not fit never will.
use Prim.Native.Nat.{ℕ, ◌+◌, ◌-◌, ◌*◌, ◌/◌, ◌≤◌, ◌<◌, zero-le}
use mathlib.Core.Path.{◌≡◌, refl, sym, ap, ◌∙◌}
use mathlib.Core.Bool.{Bool, true, false, not, ◌&&◌}
use mathlib.Core.List.{List, [], ◌∷◌, ◌++◌}
use native.Mathlib.Omega.{arith}
use lib.ListN.{length, get_or, take, drop, length-drop}
use lib.Seq.{take-add}
use lib.Dec.{leb}
use borrow.Author.Tests.{leb-true, not-true, not-false}
use Rattle.promise.proofs.Joined.{cond_both}
use Rattle.std.specs.Prelude.{None}
use Rattle.table.specs.Texts.{max_bytes, short_text}
use Rattle.layer.specs.declared.Figures.{Figures}
use Rattle.layer.specs.declared.tag_list.Place.{Place}
use Rattle.layer.specs.Held.{fits}
use Rattle.layer.specs.Calls.{grown_by}
use Rattle.layer.specs.Steps.{Small}
use Rattle.layer.specs.TagLists.{text_place, short_tag, short_at, tags_short}
use Rattle.layer.specs.WholeSteps.{place_at}
use Rattle.layer.specs.NeedSteps.{ample, Step, most_of, walked, step_at, Capped, MostAsked}
use Rattle.layer.proofs.Fitting.{never, both, Within, within, fits_yes}
use Rattle.layer.proofs.Listing.{five, short_at_lem, short_after}

-- ---- the figures
pub within_on : (a b c : Figures) → Within a b → Within b c → Within a c
within_on a b c p q = record { keys = omega arith; values = omega arith; texts = omega arith; features = omega arith }

pub within_same : (a : Figures) → Within a a
within_same a = record { keys = omega arith; values = omega arith; texts = omega arith; features = omega arith }

-- a step never lessens a figure
abbrev pub Grow : Step → Type 0
Grow step = (earlier : List ℕ) (a b c d e : ℕ) (w : Figures) → Within w (step earlier a b c d e w)

walked_grows : (step : Step) → Grow step → (earlier ws : List ℕ) (w : Figures) → Within w (walked step earlier ws w)
walked_grows step g earlier [] w = within_same w
walked_grows step g earlier (a ∷ []) w = within_same w
walked_grows step g earlier (a ∷ b ∷ []) w = within_same w
walked_grows step g earlier (a ∷ b ∷ c ∷ []) w = within_same w
walked_grows step g earlier (a ∷ b ∷ c ∷ d ∷ []) w = within_same w
walked_grows step g earlier (a ∷ b ∷ c ∷ d ∷ e ∷ ws) w =
    let u = step earlier a b c d e w in
    let next = earlier ++ (a ∷ b ∷ c ∷ d ∷ e ∷ []) in
    within_on w u (walked step next ws u) (g earlier a b c d e w) (walked_grows step g next ws u)

walked_few : (step : Step) (earlier l : List ℕ) (w : Figures) → length l < 5 → walked step earlier l w ≡ w
walked_few step earlier [] w h = refl
walked_few step earlier (a ∷ []) w h = refl
walked_few step earlier (a ∷ b ∷ []) w h = refl
walked_few step earlier (a ∷ b ∷ c ∷ []) w h = refl
walked_few step earlier (a ∷ b ∷ c ∷ d ∷ []) w h = refl
walked_few step earlier (a ∷ b ∷ c ∷ d ∷ e ∷ l) w h = absurd (omega arith)

pub record Walks (step : Step) (ws : List ℕ) (w : Figures) (i : ℕ) (u : Figures) : Type 0 where
  pub at : i ≤ length ws
  pub short : tags_short (drop i ws) ≡ true
  pub rest : walked step [] ws w ≡ walked step (take i ws) (drop i ws) u

pub walks_start : (step : Step) (ws : List ℕ) (w : Figures) → tags_short ws ≡ true → Walks step ws w 0 w
walks_start step ws w e = record { at = zero-le; short = e; rest = refl }

-- figures that fit stay within the caps of the room
pub capped : (u room : Figures) (b : Bool) → b ≡ fits u room → not b ≡ false → Capped room → Capped u
capped u room b g y c =
    let p = within u room (sym g ∙ not-false b y) in
    record { keys = omega (arith, p.keys, c.keys); values = omega (arith, p.values, c.values); texts = omega (arith, p.texts, c.texts); features = omega (arith, p.features, c.features) }

unfit_by : (a b : Figures) (room : Figures) (t : Bool) → fits b room ≡ t → Within a b → fits a room ≡ false → false ≡ t
unfit_by a b room true e p q = never (sym q ∙ fits_yes a room (within_on a b room p (within b room e)))
unfit_by a b room false e p q = refl

module _ (step : Step) (ws : List ℕ) (w : Figures) (i : ℕ) (u : Figures) (I : Walks step ws w i u) where
  pub walks_done : (room : Figures) → length ws - i < 5 → (b : Bool) → b ≡ fits u room → b ≡ fits (walked step [] ws w) room
  walks_done room h b g = let e = I.rest ∙ walked_few step (take i ws) (drop i ws) u (rw length-drop h) in g ∙ ap (λ (x : Figures). fits x room) (sym e)

  pub walks_past : (room : Figures) → Grow step → (b : Bool) → b ≡ fits u room → not b ≡ true → false ≡ fits (walked step [] ws w) room
  walks_past room grow b g y =
      let p = walked_grows step grow (take i ws) (drop i ws) u in
      let q : fits u room ≡ false = sym g ∙ not-true b y in
      unfit_by u (walked step (take i ws) (drop i ws) u) room (fits (walked step (take i ws) (drop i ws) u) room) refl p q ∙ ap (λ (x : Figures). fits x room) (sym I.rest)

  module _ (h : 5 ≤ length ws - i) where
    five_more : take (i + 5) ws ≡ take i ws ++ (get_or ws i 0 ∷ get_or ws (i + 1) 0 ∷ get_or ws (i + 2) 0 ∷ get_or ws (i + 3) 0 ∷ get_or ws (i + 4) 0 ∷ [])
    five_more = take-add i 5 ws ∙ ap (λ (l : List ℕ). take i ws ++ take 5 l) (five ws i (omega arith))

    pub walks_on : (x : Figures) → x ≡ step_at step ws i u → Walks step ws w (i + 5) x
    walks_on x g =
        record {
          at = omega arith;
          short = short_after ws i I.short (omega arith);
          rest = I.rest ∙ ap (λ (l : List ℕ). walked step (take i ws) l u) (five ws i (omega arith)) ∙ rw (five_more, g);
        }

    pub most_asked : (room : Figures) (b : Bool) → b ≡ fits u room → not b ≡ false → Capped room → MostAsked u ws i
    most_asked room b g y c = record { words = omega arith; short = short_at_lem ws i I.short (omega arith); capped = capped u room b g y c }

-- ---- a tag, as its place says it
pub small_tag : (w : Figures) (ws : List ℕ) (i : ℕ) (p : Place) → Capped w → short_at ws i ≡ true → p ≡ place_at ws i → Small w p.key.len p.text.len
small_tag w ws i p c e q =
    let s = both (short_text (get_or ws (i + 1) 0)) (short_text (text_place (get_or ws (i + 2) 0) (get_or ws (i + 3) 0) (get_or ws (i + 4) 0)).len) e in
    let k : p.key.len ≤ max_bytes = rw q (leb-true (get_or ws (i + 1) 0) max_bytes s.0) in
    let t : p.text.len ≤ max_bytes = rw q (leb-true (text_place (get_or ws (i + 2) 0) (get_or ws (i + 3) 0) (get_or ws (i + 4) 0)).len max_bytes s.1) in
    record { keys = c.keys; values = c.values; texts = c.texts; features = c.features; small_key = k; small_text = t }

pub most_is : (w : Figures) (ws : List ℕ) (i : ℕ) (p : Place) → p ≡ place_at ws i → (r : Figures) → r ≡ grown_by w None None p.key.len p.text.len → r ≡ step_at most_of ws i w
most_is w ws i p q r g = g ∙ ap (λ (x : Place). grown_by w None None x.key.len x.text.len) q

pub most_grows : Grow most_of
most_grows earlier a b c d e w = record { keys = omega arith; values = omega arith; texts = omega arith; features = omega arith }

-- ---- so many tags, whatever they are
-- figures with so many tags more, each of a new key and a new value with the longest texts
abbrev Bounded : Figures → ℕ → Figures → Type 0
Bounded w n u = Within u (record { keys = w.keys + n; values = w.values + n; texts = w.texts + n * (2 * max_bytes); features = w.features + n * 2 })

most_bound : (earlier ws : List ℕ) (w : Figures) → tags_short ws ≡ true → Bounded w (length ws / 5) (walked most_of earlier ws w)
most_bound earlier [] w e = record { keys = omega arith; values = omega arith; texts = omega arith; features = omega arith }
most_bound earlier (a ∷ []) w e = record { keys = omega arith; values = omega arith; texts = omega arith; features = omega arith }
most_bound earlier (a ∷ b ∷ []) w e = record { keys = omega arith; values = omega arith; texts = omega arith; features = omega arith }
most_bound earlier (a ∷ b ∷ c ∷ []) w e = record { keys = omega arith; values = omega arith; texts = omega arith; features = omega arith }
most_bound earlier (a ∷ b ∷ c ∷ d ∷ []) w e = record { keys = omega arith; values = omega arith; texts = omega arith; features = omega arith }
most_bound earlier (start ∷ len ∷ kind ∷ low ∷ high ∷ ws) w e =
    let p = cond_both (short_tag len kind low high) (tags_short ws) e in
    let q = both (short_text len) (short_text (text_place kind low high).len) p.0 in
    let k = leb-true len max_bytes q.0 in
    let t = leb-true (text_place kind low high).len max_bytes q.1 in
    let I = most_bound (earlier ++ (start ∷ len ∷ kind ∷ low ∷ high ∷ [])) ws (most_of earlier start len kind low high w) p.1 in
    record { keys = omega (arith, I.keys); values = omega (arith, I.values); texts = omega (arith, I.texts, k, t); features = omega (arith, I.features) }

pub ample_met : (ws : List ℕ) (w room : Figures) (r : Bool) → tags_short ws ≡ true → r ≡ ample w (length ws / 5) room → r ≡ true → true ≡ fits (walked most_of [] ws w) room
ample_met ws w room r e g y =
    let n = length ws / 5 in
    let p = cond_both (fits w room) _ (sym g ∙ y) in
    let W = within w room p.0 in
    let a = both (leb n (room.keys - w.keys)) (leb n (room.values - w.values) && (leb n ((room.texts - w.texts) / (2 * max_bytes)) && leb n ((room.features - w.features) / 2))) p.1 in
    let b = both (leb n (room.values - w.values)) (leb n ((room.texts - w.texts) / (2 * max_bytes)) && leb n ((room.features - w.features) / 2)) a.1 in
    let c = both (leb n ((room.texts - w.texts) / (2 * max_bytes))) (leb n ((room.features - w.features) / 2)) b.1 in
    let k = leb-true n (room.keys - w.keys) a.0 in
    let v = leb-true n (room.values - w.values) b.0 in
    let t = leb-true n ((room.texts - w.texts) / (2 * max_bytes)) c.0 in
    let f = leb-true n ((room.features - w.features) / 2) c.1 in
    let B = most_bound [] ws w e in
    sym (fits_yes (walked most_of [] ws w) room (record { keys = omega (arith, B.keys, W.keys); values = omega (arith, B.values, W.values); texts = omega (arith, B.texts, W.texts); features = omega (arith, B.features, W.features) }))

-- `is_ample`
pub fitting : (w room : Figures) (b : Bool) → b ≡ fits w room → not b ≡ false → Within w room
fitting w room b g h = within w room (sym g ∙ not-false b h)

pub not_ample : (w : Figures) (n : ℕ) (room : Figures) (b : Bool) → b ≡ fits w room → not b ≡ true → false ≡ ample w n room
not_ample w n room b g h = rw (← g, not-true b h)

pub ample_told : (w : Figures) (n : ℕ) (room : Figures) (b : Bool) → b ≡ fits w room → not b ≡ false → (leb n (room.keys - w.keys) && (leb n (room.values - w.values) && (leb n ((room.texts - w.texts) / (2 * max_bytes)) && leb n ((room.features - w.features) / 2)))) ≡ ample w n room
ample_told w n room b g h = rw (← g, not-false b h)
