-- `appended` at each return of `append`.
use Prim.Native.Nat.{ℕ, ◌+◌, ◌-◌, ◌*◌, ◌≤◌}
use mathlib.Core.Path.{◌≡◌, refl, sym, ◌∙◌}
use mathlib.Core.Bool.{Bool, true, false, not}
use mathlib.Core.List.{List, [], ◌∷◌, append_assoc}
use native.Mathlib.Omega.{arith}
use lib.ListN.{length, drop}
use lib.Seq.{drop-drop}
use lib.Dec.{leb}
use borrow.Author.Tests.{leb-true, not-true, not-false}
use borrow.Rule.Slice.PartMut.{mid_of, put_mid}
use Rattle.std.specs.Prelude.{Ok, Err}
use Rattle.promise.specs.Answers.{Gives}
use Rattle.promise.specs.Laid.{lay}
use Rattle.refusal.specs.declared.Refusal.TheVariants.{Room}
use Rattle.runs.specs.Fitting.{laid_in}
use Rattle.runs.proofs.Laws.{laid_fits}
use Rattle.promise.specs.Puts.{put}
use Rattle.promise.proofs.Parts.{lent, home, lent_long, lay_front}
use Rattle.promise.proofs.Fronts.{put_fits}
use Rattle.layer.specs.declared.Layer.{Layer}
use Rattle.layer.specs.Held.{Seen, mem, seen}
use Rattle.layer.proofs.Fitting.{smaller_le}
use Rattle.tile.specs.Layers.{layer_field, name_at}
use Rattle.tile.specs.declared.Tile.{Tile}
use Rattle.tile.specs.Tiles.{lists, max_tile_bytes, name_room, byte_room}
use Rattle.tile.specs.Answers.{said_tile}
use Rattle.tile.specs.Adding.{appended}
use Rattle.tile.specs.Steps.{Ready}
use Rattle.tile.proofs.Fields.{name_within}

-- ---- a run through `&mut bytes[at..]`
pub laid_at : (run bs : List ℕ) (at : ℕ) {r : ℕ} {ys : List ℕ} → at + length run ≤ length bs → Gives (put run (mid_of at (length bs - at) bs)) r ys → put_mid at (length bs - at) bs ys ≡ lay at run bs
laid_at run bs at {ys = ys} h g =
    let p = put_fits run (mid_of at (length bs - at) bs) (lent_long at (length run) bs h) g in
    let e : drop (length run) (drop at bs) ≡ drop (at + length run) bs = drop-drop (length run) at bs in
    home at bs ys ∙ rw (p.list_is, lay_front, lent at bs, e, append_assoc)

-- what is known where the layer has room: its size and where its name starts in it, and that it fits
pub record Fitted (t : Tile) (v : Seen) (ns bs : List ℕ) (size at : ℕ) : Type 0 where
  pub size_is : size ≡ length (layer_field v)
  pub at_is : at ≡ name_at v
  pub room : leb (t.used + length (layer_field v)) (byte_room (length bs)) ≡ true
  pub entries : leb (t.layers + 1) (name_room (length ns)) ≡ true
  pub in_bytes : t.used + size ≤ length bs
  pub few_bytes : t.used + size ≤ max_tile_bytes
  pub in_names : t.layers * 2 + 2 ≤ length ns
  pub name_few : at + v.layer.name ≤ size

module _ (t : Tile) (s : Layer) (ks vs ts fs ns bs : List ℕ) (ready : Ready t (seen s (mem ks vs ts fs)) (lists ns bs)) (size : ℕ) (e : size ≡ length (layer_field (seen s (mem ks vs ts fs)))) (room : ℕ) (f : room ≡ byte_room (length bs)) (a : Bool) (g : a ≡ leb (t.used + size) room) where
  told : leb (t.used + length (layer_field (seen s (mem ks vs ts fs)))) (byte_room (length bs)) ≡ a
  told = rw (← e, ← f) (sym g)

  pub bytes_full : not a ≡ true → Gives (appended t (seen s (mem ks vs ts fs)) (lists ns bs)) (said_tile (Err (record { refusal = Room; kept = t }))) (lists ns bs)
  bytes_full h = rw (told, not-true a h) (record { answer = refl; memory = refl })

  module _ (h : not a ≡ false) (entries : ℕ) (k : entries ≡ name_room (length ns)) (b : Bool) (q : b ≡ leb (t.layers + 1) entries) where
    pub names_full : not b ≡ true → Gives (appended t (seen s (mem ks vs ts fs)) (lists ns bs)) (said_tile (Err (record { refusal = Room; kept = t }))) (lists ns bs)
    names_full n = rw (told, not-false a h, ← k, ← q, not-true b n) (record { answer = refl; memory = refl })

    pub fitted : not b ≡ false → (at : ℕ) → at ≡ name_at (seen s (mem ks vs ts fs)) → Fitted t (seen s (mem ks vs ts fs)) ns bs size at
    fitted n at p =
        let x = leb-true (t.used + size) room (sym g ∙ not-false a h) in
        let y = leb-true (t.layers + 1) entries (sym q ∙ not-false b n) in
        let z = smaller_le (length bs) max_tile_bytes in
        record {
          size_is = e;
          at_is = p;
          room = told ∙ not-false a h;
          entries = rw (← k, ← q) (not-false b n);
          in_bytes = omega (arith, x, z.0);
          few_bytes = omega (arith, x, z.1);
          in_names = omega (arith, y);
          name_few = omega (arith, e, p, name_within s ks vs ts fs ready.layer);
        }

module _ (t : Tile) (v : Seen) (ns bs : List ℕ) (size at : ℕ) (F : Fitted t v ns bs size at) where
  pub small_start : t.used + at ≤ max_tile_bytes
  small_start = omega (arith, F.few_bytes, F.name_few)

  pub small_name : v.layer.name ≤ max_tile_bytes
  small_name = omega (arith, F.few_bytes, F.name_few)

  pub layer_added : (ns₂ : List ℕ) → ns₂ ≡ laid_in (t.layers * 2) ((t.used + at) ∷ v.layer.name ∷ []) ns → (r : ℕ) (ys : List ℕ) → Gives (put (layer_field v) (mid_of t.used (length bs - t.used) bs)) r ys → Gives (appended t v (lists ns bs)) (said_tile (Ok (record { extent = t.extent; used = t.used + size; layers = t.layers + 1 }))) (lists ns₂ (put_mid t.used (length bs - t.used) bs ys))
  layer_added ns₂ x r ys y =
      let z = laid_at (layer_field v) bs t.used (omega (arith, F.in_bytes, F.size_is)) y in
      let n = laid_fits (t.layers * 2) ((t.used + at) ∷ v.layer.name ∷ []) ns F.in_names ns₂ x in
      rw (F.room, F.entries) (record { answer = rw (← F.size_is); memory = rw (z, n, F.at_is) })
