-- The steps of `build_index`: an index where it is used, and both of a layer.
use Prim.Native.Nat.{ℕ, ◌*◌}
use mathlib.Core.Path.{◌≡◌}
use mathlib.Core.Bool.{Bool, true, false, cond, not}
use mathlib.Core.List.{List}
use lib.ListN.{length, take}
use borrow.Author.Tests.{not-true, not-false}
use Rattle.index.specs.Chains.{serves}
use Rattle.index.specs.Entries.{built_keys, built_values}
use Rattle.layer.specs.declared.Figures.{Figures}
use Rattle.layer.specs.declared.Layer.{Layer}
use Rattle.layer.specs.Held.{mem, seen, room_of}
use Rattle.layer.specs.State.{valid}
use Rattle.layer.specs.Lookup.{Index, idx, indexed}
use Rattle.layer.specs.WholeSteps.{indexed_by, UsedIn}
use Rattle.layer.proofs.Standing.{valid_fit}

module _ (l k : List ℕ) (used : Bool) (t : Bool) (e : t ≡ used) where
  pub not_used : not t ≡ true → l ≡ cond used k l
  not_used h = rw (← e, not-true t h)

  pub is_used : not t ≡ false → (b : List ℕ) → b ≡ k → b ≡ cond used k l
  is_used h b f = rw (← e, not-false t h) f

module _ (u room : Figures) (ks vs ts ki vi : List ℕ) where
  pub both_built : (b : Bool) → b ≡ false → (kb vb : List ℕ) →
      kb ≡ cond (serves (length ki) room.keys) (built_keys ki (take (u.keys * 2) ks) (take u.texts ts)) ki →
      vb ≡ cond (serves (length vi) room.values) (built_values vi (take (u.values * 3) vs) (take u.texts ts)) vi →
      idx kb vb ≡ cond b (idx ki vi) (indexed_by u room ks vs ts (idx ki vi))
  both_built b h kb vb f g = rw (f, g, h)

  pub built_before : (b : Bool) → b ≡ true → idx ki vi ≡ cond b (idx ki vi) (indexed_by u room ks vs ts (idx ki vi))
  built_before b h = rw h

-- of a layer that breaks no rule of STATE
module _ (s : Layer) (ks vs ts fs ki vi : List ℕ) where
  pub used_in : valid (seen s (mem ks vs ts fs)) ≡ true → UsedIn s.used ks vs ts
  used_in e = let F = valid_fit s ks vs ts fs e in record { in_keys = F.in_keys; in_values = F.in_values; in_texts = F.in_texts }

  pub as_indexed : (b : Bool) (room : Figures) → room ≡ room_of (length ks) (length vs) (length ts) (length fs) → (y : Index) →
      y ≡ cond b (idx ki vi) (indexed_by s.used room ks vs ts (idx ki vi)) →
      y ≡ cond b (idx ki vi) (indexed (seen s (mem ks vs ts fs)) (idx ki vi))
  as_indexed b room q y e = rw q at e
