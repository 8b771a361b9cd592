-- `add_layer` at each return of `add_layer`.
use Prim.Native.Nat.{ℕ}
use mathlib.Core.Path.{◌≡◌, refl, sym, ap, ◌∙◌}
use mathlib.Core.Bool.{Bool, true, false, not}
use mathlib.Core.List.{List}
use lib.ListN.{take}
use borrow.Author.Tests.{not-true, not-false, eq-eqb, ne_eqb}
use Rattle.std.specs.Prelude.{Result, Err}
use Rattle.refusal.specs.declared.Refused.{Refused}
use Rattle.promise.specs.Answers.{Gives}
use Rattle.refusal.specs.declared.Refusal.TheVariants.{State, Turn, Extent, Name}
use Rattle.layer.specs.declared.Layer.{Layer}
use Rattle.layer.specs.Held.{mem, seen}
use Rattle.layer.specs.State.{valid}
use Rattle.layer.specs.Calls.{is_shut}
use Rattle.tile.specs.declared.Tile.{Tile}
use Rattle.tile.specs.Tiles.{TileMemory, lists, valid_tile}
use Rattle.tile.specs.Answers.{said_tile}
use Rattle.tile.specs.Adding.{name_text, has_name, appended, add_layer}
use Rattle.tile.specs.Steps.{Ready}
use Rattle.tile.proofs.Fields.{name_is}

module _ (t : Tile) (s : Layer) (ks vs ts fs ns bs : List ℕ) (a : Bool) (ga : a ≡ valid_tile t (lists ns bs)) where
  pub tile_state : not a ≡ true → Gives (add_layer t (seen s (mem ks vs ts fs)) (lists ns bs)) (said_tile (Err (record { refusal = State; kept = t }))) (lists ns bs)
  unfolding add_layer
  tile_state h = rw (← ga, not-true a h) (record { answer = refl; memory = refl })

  module _ (ha : not a ≡ false) (b : Bool) (gb : b ≡ valid (seen s (mem ks vs ts fs))) where
    pub layer_state : not b ≡ true → Gives (add_layer t (seen s (mem ks vs ts fs)) (lists ns bs)) (said_tile (Err (record { refusal = State; kept = t }))) (lists ns bs)
    unfolding add_layer
    layer_state h = rw (← ga, not-false a ha, ← gb, not-true b h) (record { answer = refl; memory = refl })

    module _ (hb : not b ≡ false) where
      pub ready : Ready t (seen s (mem ks vs ts fs)) (lists ns bs)
      ready = record { tile = sym ga ∙ not-false a ha; layer = sym gb ∙ not-false b hb }

      module _ (c : Bool) (gc : c ≡ is_shut s.feature) where
        pub feature_open : not c ≡ true → Gives (add_layer t (seen s (mem ks vs ts fs)) (lists ns bs)) (said_tile (Err (record { refusal = Turn; kept = t }))) (lists ns bs)
        unfolding add_layer
        feature_open h = rw (ready.tile, ready.layer, ← gc, not-true c h) (record { answer = refl; memory = refl })

        module _ (hc : not c ≡ false) where
          pub extents_differ : (s.extent ≡ t.extent → ⊥) → Gives (add_layer t (seen s (mem ks vs ts fs)) (lists ns bs)) (said_tile (Err (record { refusal = Extent; kept = t }))) (lists ns bs)
          unfolding add_layer
          extents_differ h = rw (ready.tile, ready.layer, ← gc, not-false c hc, ne_eqb s.extent t.extent h) (record { answer = refl; memory = refl })

          module _ (e : s.extent ≡ t.extent) (d : Bool) (gd : d ≡ has_name t (lists ns bs) (take s.name ts)) where
            named : has_name t (lists ns bs) (name_text (seen s (mem ks vs ts fs))) ≡ d
            named = ap (has_name t (lists ns bs)) (name_is s ks vs ts fs ready.layer) ∙ sym gd

            pub name_there : d ≡ true → Gives (add_layer t (seen s (mem ks vs ts fs)) (lists ns bs)) (said_tile (Err (record { refusal = Name; kept = t }))) (lists ns bs)
            unfolding add_layer
            name_there h = rw (ready.tile, ready.layer, ← gc, not-false c hc, eq-eqb s.extent t.extent e, named, h) (record { answer = refl; memory = refl })

            pub then_append : d ≡ false → (r : Result Tile (Refused Tile)) (m : TileMemory) → Gives (appended t (seen s (mem ks vs ts fs)) (lists ns bs)) (said_tile r) m → Gives (add_layer t (seen s (mem ks vs ts fs)) (lists ns bs)) (said_tile r) m
            unfolding add_layer
            then_append h r m g = rw (ready.tile, ready.layer, ← gc, not-false c hc, eq-eqb s.extent t.extent e, named, h) g
