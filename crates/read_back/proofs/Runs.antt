-- One theorem for a whole run: the used bytes of a fresh tile, after any layers made by any calls, read as what was given to the layers that it accepted;
-- and of each tag a reader sees the key and the value that were given.
use Prim.Native.Nat.{ℕ, ◌≤◌}
use mathlib.Core.Path.{◌≡◌, sym, ap, subst, ◌∙◌}
use mathlib.Core.List.{List, [], ◌∷◌, map}
use mathlib.Core.Option.{some}
use native.Mathlib.Omega.{arith}
use lib.ListN.{length}
use Rattle.messages.specs.Meaning.{Layer, or_nothing, reading}
use Rattle.tile.specs.Tiles.{lists, used_bytes, fresh_tile}
use Rattle.tile.specs.Holding.{At, after_all}
use Rattle.tile.proofs.Standing.{parts}
use Rattle.tile.proofs.Holding.{run_holds}
use Rattle.given.specs.Messages.{tile_message}
use Rattle.given.specs.Runs.{Plan, page_of, AllSound, layer_of, drawings}
use Rattle.given.specs.Texts.{Every}
use Rattle.given.proofs.Runs.{what_was_given}
use Rattle.given.proofs.Texts.{tile_every}
use Rattle.read_back.specs.Layers.{layer_given}
use Rattle.read_back.specs.Sizes.{Sized, SizedPlan}
use Rattle.read_back.specs.Tags.{SaysLayers}
use Rattle.read_back.proofs.Tiles.{reads_back}
use Rattle.read_back.proofs.Tags.{tile_tags}
use Rattle.read_back.proofs.Calls.{plan_sized}

plans_sized : (ps : List Plan) → Every SizedPlan ps → Every (λ (p : Plan). Sized (page_of p).drawing) ps
plans_sized [] g = tt
plans_sized (p ∷ ps) g = (plan_sized p g.0, plans_sized ps g.1)

-- a fresh tile in lent lists
abbrev fresh : ℕ → List ℕ → List ℕ → At
fresh extent ns bs = record { tile = fresh_tile extent; memory = lists ns bs }

module _ (extent : ℕ) (ns bs : List ℕ) (ps : List Plan) (s : AllSound ps) (g : Every SizedPlan ps) where
  all_sized : Every Sized (drawings (map page_of ps) (fresh extent ns bs))
  all_sized = tile_every Sized ps (plans_sized ps g) (fresh extent ns bs)

  short : length (tile_message (drawings (map page_of ps) (fresh extent ns bs))) ≤ 4294967295
  short =
      let b = after_all (map layer_of (map page_of ps)) (fresh extent ns bs) in
      let H = run_holds extent ns bs (map layer_of (map page_of ps)) in
      let P = parts b.tile b.memory.names b.memory.bytes H.state in
      let e = ap length (sym H.bytes ∙ what_was_given extent ns bs ps s) in
      omega (arith, H.size, e, P.few_bytes)

  pub run_reads_back : let a : At = record { tile = fresh_tile extent; memory = lists ns bs } in
      let b = after_all (map layer_of (map page_of ps)) a in reading (used_bytes b.tile b.memory) ≡ some (map layer_given (drawings (map page_of ps) a))
  run_reads_back = ap reading (what_was_given extent ns bs ps s) ∙ reads_back (drawings (map page_of ps) (fresh extent ns bs)) all_sized short

  -- so whatever layers are read, they say of each feature the tags that were given
  pub run_tags : let a : At = record { tile = fresh_tile extent; memory = lists ns bs } in
      let b = after_all (map layer_of (map page_of ps)) a in
      (ls : List Layer) → reading (used_bytes b.tile b.memory) ≡ some ls → SaysLayers (drawings (map page_of ps) a) ls
  run_tags ls e =
      let ds = drawings (map page_of ps) (fresh extent ns bs) in
      subst (SaysLayers ds) (ap or_nothing (sym run_reads_back ∙ e)) (tile_tags ds all_sized)
