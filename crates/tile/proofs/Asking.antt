-- `counted` at each return of the functions that answer a number, and one value for each answer enum.
use Prim.Native.Nat.{ℕ}
use mathlib.Core.Path.{◌≡◌, sym, ap}
use mathlib.Core.Bool.{Bool, true, false, not}
use mathlib.Core.List.{[], ◌∷◌}
use borrow.Author.Tests.{not-true, not-false}
use lib.ListN.{length}
use Rattle.refusal.specs.declared.Refusal.TheVariants.{State}
use Rattle.std.specs.Prelude.{Result, Ok, Err}
use Rattle.refusal.specs.declared.Refused.{Refused}
use Rattle.refusal.specs.Said.{Said}
use Rattle.refusal.proofs.Laws.{one_refusal, never_both}
use Rattle.layer.specs.Held.{Seen}
use Rattle.layer.specs.State.{valid}
use Rattle.tile.specs.Layers.{layer_field}
use Rattle.tile.specs.declared.Tile.{Tile}
use Rattle.tile.specs.Tiles.{TileMemory, valid_tile}
use Rattle.tile.specs.Answers.{Told, said_tile, said_counted}
use Rattle.tile.specs.Asking.{counted, layer_size}

module _ (t : Tile) (m : TileMemory) (n : ℕ) (b : Bool) (g : b ≡ valid_tile t m) where
  pub not_counted : not b ≡ true → said_counted (Err (record { refusal = State; kept = t })) ≡ counted t m n
  not_counted h = rw (← g, not-true b h)

  pub is_counted : not b ≡ false → said_counted (Ok n) ≡ counted t m n
  is_counted h = rw (← g, not-false b h)

-- ---- `layer_size` at each return of `layer_size`
module _ (t : Tile) (v : Seen) (b : Bool) (g : b ≡ valid v) where
  pub not_sized : not b ≡ true → said_counted (Err (record { refusal = State; kept = t })) ≡ layer_size t v
  not_sized h = rw (← g, not-true b h)

  pub is_sized : not b ≡ false → (n : ℕ) → n ≡ length (layer_field v) → said_counted (Ok n) ≡ layer_size t v
  is_sized h n e = rw (← g, not-false b h, e)

-- ---- one value for each answer
same_kept : (a b : Refused Tile) → a.refusal ≡ b.refusal → a.kept ≡ b.kept → a ≡ b
same_kept a b i j = λ k. record { refusal = i k; kept = j k }

pub one_tile : (r r' : Result Tile (Refused Tile)) → said_tile r ≡ said_tile r' → r ≡ r'
one_tile (Ok t) (Ok u) e = ap (λ (x : Said Tile). Ok x.values) e
one_tile (Ok t) (Err b) e = absurd (never_both b.refusal e)
one_tile (Err a) (Ok u) e = absurd (never_both a.refusal (sym e))
one_tile (Err a) (Err b) e = ap Err (same_kept a b (one_refusal a.refusal b.refusal e) (ap (λ (x : Said Tile). x.values) e))

pub one_counted : (r r' : Result ℕ (Refused Tile)) → said_counted r ≡ said_counted r' → r ≡ r'
one_counted (Ok n) (Ok k) e = ap (λ (x : Said Told). Ok x.values.told) e
one_counted (Ok n) (Err b) e = absurd (never_both b.refusal e)
one_counted (Err a) (Ok n) e = absurd (never_both a.refusal (sym e))
one_counted (Err a) (Err b) e =
    let l : a.kept ∷ [] ≡ b.kept ∷ [] = ap (λ (x : Said Told). x.values.given) e in
    ap Err (same_kept a b (one_refusal a.refusal b.refusal e) cc)
