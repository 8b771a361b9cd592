-- One tag of the dry run: what the steps find of its key and of its value, and the figures after it.
use Prim.Native.Nat.{ℕ, ◌+◌, ◌-◌, ◌≤◌, ◌<◌}
use mathlib.Core.Path.{◌≡◌, sym, ap, ◌∙◌}
use mathlib.Core.Bool.{Bool, true, false, not}
use mathlib.Core.List.{List, []}
use native.Mathlib.Omega.{arith}
use lib.ListN.{length, take, drop}
use Rattle.std.specs.Prelude.{Option, Some, None}
use Rattle.table.specs.declared.Text.{Text}
use Rattle.table.specs.declared.Value.{Value}
use Rattle.table.specs.Keys.{find_key}
use Rattle.table.specs.Values.{find_value}
use Rattle.index.specs.Hashes.{hash_text, hash_value}
use Rattle.layer.specs.declared.Figures.{Figures}
use Rattle.layer.specs.declared.tag_list.Place.{Place}
use Rattle.layer.specs.Held.{fits}
use Rattle.layer.specs.Calls.{grown_by}
use Rattle.layer.specs.TagLists.{tags_ok, key_given}
use Rattle.layer.specs.Lookup.{key_by, value_by}
use Rattle.layer.specs.WholeSteps.{place_at}
use Rattle.layer.specs.NeedSteps.{value_among, if_given, or_given, placed_text, key_known, value_known, need_of, walked, step_at, KeysLooked, ValuesLooked, KeyAsked, ValueAsked, NeedAsked, NeedLoop}
use Rattle.layer.specs.Steps.{Small}
use Rattle.layer.proofs.Placing.{key_room, text_room}
use Rattle.layer.proofs.Listing.{ok_at_lem, ok_after, short_at_lem}
use Rattle.layer.proofs.Walking.{small_tag, Grow, Walks, walks_start, walks_done, walks_past, walks_on, capped}

-- the part of the bytes that is lent as the text at a place
abbrev lent_text : List ℕ → ℕ → ℕ → List ℕ
lent_text bytes start len = take (start + len - start) (drop start bytes)

lent_is : (bytes : List ℕ) (at : Text) → lent_text bytes at.start at.len ≡ placed_text bytes at
lent_is bytes at = let z : at.start + at.len - at.start ≡ at.len = omega arith in rw z

module _ (bytes ks ts kx earlier : List ℕ) (room : ℕ) (at : Text) (K : KeysLooked kx room ks ts) (h : ℕ) (he : h ≡ hash_text (lent_text bytes at.start at.len)) (f : Option ℕ) (fe : f ≡ key_by kx room ks ts (lent_text bytes at.start at.len) h) where
  key_scanned : f ≡ find_key 0 ks ts (placed_text bytes at)
  key_scanned = fe ∙ ap (λ (n : ℕ). key_by kx room ks ts (lent_text bytes at.start at.len) n) he ∙ K.looked (lent_text bytes at.start at.len) ∙ ap (λ (l : List ℕ). find_key 0 ks ts l) (lent_is bytes at)

  pub key_there : (j : ℕ) → f ≡ Some j → Some j ≡ key_known ks ts bytes earlier at
  key_there j q = ap (λ (x : Option ℕ). or_given x (key_given bytes earlier (placed_text bytes at))) (sym q ∙ key_scanned)

  pub key_told : f ≡ None → (g : Bool) → g ≡ key_given bytes earlier (lent_text bytes at.start at.len) → (r : Option ℕ) → r ≡ if_given g → r ≡ key_known ks ts bytes earlier at
  key_told q g ge r re =
      re ∙ ap if_given (ge ∙ ap (λ (l : List ℕ). key_given bytes earlier l) (lent_is bytes at)) ∙ ap (λ (x : Option ℕ). or_given x (key_given bytes earlier (placed_text bytes at))) (sym q ∙ key_scanned)

module _ (bytes vs ts vx earlier : List ℕ) (v : Value) (room : ℕ) (at : Text) (K : ValuesLooked vx room vs ts) (h : ℕ) (he : h ≡ hash_value v (lent_text bytes at.start at.len)) (f : Option ℕ) (fe : f ≡ value_by vx room vs ts v (lent_text bytes at.start at.len) h) where
  value_scanned : f ≡ find_value 0 vs ts v (placed_text bytes at)
  value_scanned = fe ∙ ap (λ (n : ℕ). value_by vx room vs ts v (lent_text bytes at.start at.len) n) he ∙ K.looked v (lent_text bytes at.start at.len) ∙ ap (λ (l : List ℕ). find_value 0 vs ts v l) (lent_is bytes at)

  pub value_there : (j : ℕ) → f ≡ Some j → Some j ≡ value_known vs ts bytes earlier v at
  value_there j q = ap (λ (x : Option ℕ). or_given x (value_among bytes earlier v (placed_text bytes at))) (sym q ∙ value_scanned)

  pub value_told : f ≡ None → (g : Bool) → g ≡ value_among bytes earlier v (lent_text bytes at.start at.len) → (r : Option ℕ) → r ≡ if_given g → r ≡ value_known vs ts bytes earlier v at
  value_told q g ge r re =
      re ∙ ap if_given (ge ∙ ap (λ (l : List ℕ). value_among bytes earlier v l) (lent_is bytes at)) ∙ ap (λ (x : Option ℕ). or_given x (value_among bytes earlier v (placed_text bytes at))) (sym q ∙ value_scanned)

module _ (w : Figures) (ws : List ℕ) (i : ℕ) (bytes : List ℕ) (room : Figures) (ks vs ts kx vx : List ℕ) (N : NeedAsked w ws i bytes room ks vs ts kx vx) (p : Place) (e : p ≡ place_at ws i) where
  pub key_asked : KeyAsked p.key.start p.key.len (length bytes) kx room.keys ks ts
  key_asked = record { there = key_room bytes ws i N.there.ok p e; keys = N.keys }

  pub value_asked : ValueAsked p.text.start p.text.len (length bytes) vx room.values vs ts
  value_asked = record { there = text_room bytes ws i N.there.ok p e; values = N.values }

  pub need_small : Small w p.key.len p.text.len
  need_small = small_tag w ws i p N.capped N.there.short e

pub need_is : (w : Figures) (ws : List ℕ) (i : ℕ) (bytes ks vs ts : List ℕ) (p : Place) → p ≡ place_at ws i → (kf vf : Option ℕ) → kf ≡ key_known ks ts bytes (take i ws) p.key → vf ≡ value_known vs ts bytes (take i ws) p.value p.text → (r : Figures) → r ≡ grown_by w kf vf p.key.len p.text.len → r ≡ step_at (need_of ks vs ts bytes) ws i w
need_is w ws i bytes ks vs ts p e kf vf k v r g = rw (g, k, v, e)

-- ---- the loop
need_grows : (ks vs ts bytes : List ℕ) → Grow (need_of ks vs ts bytes)
need_grows ks vs ts bytes earlier a b c d e w = record { keys = omega arith; values = omega arith; texts = omega arith; features = omega arith }

pub record Reckons (ks vs ts bytes ws : List ℕ) (w : Figures) (i : ℕ) (u : Figures) : Type 0 where
  pub walks : Walks (need_of ks vs ts bytes) ws w i u
  pub list : tags_ok (length bytes) (drop i ws) ≡ true

module _ (ks vs ts kx vx bytes ws : List ℕ) (room : Figures) (w : Figures) (L : NeedLoop ws bytes room ks vs ts kx vx) where
  pub reckons_start : Reckons ks vs ts bytes ws w 0 w
  reckons_start = record { walks = walks_start (need_of ks vs ts bytes) ws w L.short; list = L.list }

  module _ (i : ℕ) (u : Figures) (I : Reckons ks vs ts bytes ws w i u) where
    pub reckons_done : length ws - i < 5 → (b : Bool) → b ≡ fits u room → b ≡ fits (walked (need_of ks vs ts bytes) [] ws w) room
    reckons_done h b g = walks_done (need_of ks vs ts bytes) ws w i u I.walks room h b g

    pub reckons_past : (b : Bool) → b ≡ fits u room → not b ≡ true → false ≡ fits (walked (need_of ks vs ts bytes) [] ws w) room
    reckons_past b g y = walks_past (need_of ks vs ts bytes) ws w i u I.walks room (need_grows ks vs ts bytes) b g y

    module _ (h : 5 ≤ length ws - i) where
      pub need_asked : (b : Bool) → b ≡ fits u room → not b ≡ false → NeedAsked u ws i bytes room ks vs ts kx vx
      need_asked b g y =
          record {
            there = record { words = omega arith; ok = ok_at_lem (length bytes) ws i I.list (omega arith); short = short_at_lem ws i I.walks.short (omega arith) };
            capped = capped u room b g y L.capped;
            keys = L.keys;
            values = L.values;
          }

      pub reckons_on : (x : Figures) → x ≡ step_at (need_of ks vs ts bytes) ws i u → Reckons ks vs ts bytes ws w (i + 5) x
      reckons_on x g = record { walks = walks_on (need_of ks vs ts bytes) ws w i u I.walks h x g; list = ok_after (length bytes) ws i I.list (omega arith) }
