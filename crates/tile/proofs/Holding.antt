-- A tile that breaks no rule of STATE never does after a call, and holds the fields of the accepted layers, one behind the other, with their names.
--     outcome                       a call is accepted, and then nothing stood against it, or refused, and then nothing has changed
--     tile_next call_keeps          STATE after an accepted call, and after any call
--     named_among                   NAME, by the names of the layers that the tile holds
--     holds_more holds_all          a layer more; any run of calls
--     fresh_valid run_holds         a fresh tile; any run of calls from there
--     tells_layers tells_size       what such a tile answers to questions
use Prim.Native.Nat.{ℕ, ◌+◌, ◌*◌, ◌≤◌}
use mathlib.Core.Path.{◌≡◌, refl, sym, ap, ◌∙◌}
use mathlib.Core.Bool.{Bool, true, false, not, cond}
use mathlib.Core.List.{List, [], ◌∷◌, ◌++◌, append_assoc, append-nil}
use native.Mathlib.Omega.{arith}
use lib.ListN.{length, take, drop, length-append}
use lib.Seq.{length-take-le, drop_at, drop-drop}
use lib.Dec.{leb, eqb}
use borrow.Author.Tests.{le-leb, leb-true, ne_eqb, not-true}
use Rattle.promise.specs.Answers.{Written, kept}
use Rattle.promise.specs.Laid.{lay}
use Rattle.promise.proofs.Laying.{length_lay, take_lay}
use Rattle.refusal.specs.declared.Refusal.{Refusal}
use Rattle.refusal.specs.declared.Refusal.TheVariants.{State, Room, Turn, Extent, Name}
use Rattle.refusal.specs.Refusals.{number_of}
use Rattle.refusal.specs.Said.{Said, refused}
use Rattle.refusal.proofs.Laws.{numbered}
use Rattle.wire.specs.declared.field.Field.TheVariants.{TileLayer}
use Rattle.wire.specs.Fields.{delimited}
use Rattle.table.specs.Keys.{keys_in}
use Rattle.table.proofs.Growing.{keys_more}
use Rattle.layer.specs.Held.{Seen}
use Rattle.layer.specs.State.{valid}
use Rattle.layer.specs.Calls.{is_shut}
use Rattle.layer.proofs.Fitting.{smaller_le}
use Rattle.tile.specs.Layers.{layer_bytes, layer_field, name_at}
use Rattle.tile.proofs.Layers.{field_parts}
use Rattle.tile.specs.declared.Tile.{Tile}
use Rattle.tile.specs.Tiles.{TileMemory, lists, max_tile_bytes, name_room, byte_room, used_names, used_bytes, valid_tile, fresh_tile}
use Rattle.tile.specs.Adding.{name_text, has_name, check, with_layer, add_layer}
use Rattle.tile.specs.Answers.{tells}
use Rattle.tile.specs.Asking.{num_layers, compute_size}
use Rattle.tile.specs.Holding.{Given, seen_of, tile_bytes, layer_names, texts_at, among, none_twice, At, after, after_all, taken}
use Rattle.tile.proofs.Standing.{Parts, parts, whole}
use Rattle.tile.proofs.Names.{found_among, texts_more, none_twice_more}
use Rattle.tile.proofs.Fields.{name_stands, name_within}

-- ---- a call is accepted, and then nothing stood against it, or refused, and then nothing has changed
pub record May (t : Tile) (v : Seen) (m : TileMemory) : Type 0 where
  pub state : valid_tile t m ≡ true
  pub layer : valid v ≡ true
  pub new_name : has_name t m (name_text v) ≡ false
  pub bytes : t.used + length (layer_field v) ≤ byte_room (length m.bytes)
  pub names : t.layers + 1 ≤ name_room (length m.names)

pub data Outcome (t : Tile) (v : Seen) (m : TileMemory) : Written (Said Tile) TileMemory → Type 0 where
  added : May t v m → Outcome t v m (with_layer t v m)
  unchanged : (r : Refusal) → Outcome t v m (kept (refused r t) m)

module _ (t : Tile) (v : Seen) (m : TileMemory) where
  by : (b : Bool) (r : Refusal) (w : Written (Said Tile) TileMemory) → (b ≡ true → Outcome t v m w) → Outcome t v m (check b r t m w)
  by true r w k = k refl
  by false r w k = unchanged r

  pub outcome : Outcome t v m (add_layer t v m)
  unfolding add_layer
  outcome =
      by (valid_tile t m) State _ (λ a.
      by (valid v) State _ (λ b.
      by (is_shut v.layer.feature) Turn _ (λ c.
      by (eqb v.layer.extent t.extent) Extent _ (λ d.
      by (not (has_name t m (name_text v))) Name _ (λ e.
      by (leb (t.used + length (layer_field v)) (byte_room (length m.bytes))) Room _ (λ f.
      by (leb (t.layers + 1) (name_room (length m.names))) Room _ (λ g.
      added (record {
        state = a;
        layer = b;
        new_name = not-true (has_name t m (name_text v)) e;
        bytes = leb-true (t.used + length (layer_field v)) (byte_room (length m.bytes)) f;
        names = leb-true (t.layers + 1) (name_room (length m.names)) g;
      }))))))))

-- ---- a tile with a layer more
module _ (t : Tile) (g : Given) (m : TileMemory) (M : May t (seen_of g) m) where
  P : Parts t m.names m.bytes
  P = parts t m.names m.bytes M.state

  in_bytes : t.used + length (layer_field (seen_of g)) ≤ length m.bytes
  in_bytes = omega (arith, M.bytes, smaller_le (length m.bytes) max_tile_bytes)

  in_names : t.layers * 2 + 2 ≤ length m.names
  in_names = omega (arith, M.names)

  bytes_after : take (t.used + length (layer_field (seen_of g))) (lay t.used (layer_field (seen_of g)) m.bytes) ≡ take t.used m.bytes ++ layer_field (seen_of g)
  bytes_after = take_lay t.used (layer_field (seen_of g)) m.bytes in_bytes

  names_after : (x y : ℕ) → take ((t.layers + 1) * 2) (lay (t.layers * 2) (x ∷ y ∷ []) m.names) ≡ take (t.layers * 2) m.names ++ (x ∷ y ∷ [])
  names_after x y =
      let z : (t.layers + 1) * 2 ≡ t.layers * 2 + 2 = omega arith in
      rw z (take_lay (t.layers * 2) (x ∷ y ∷ []) m.names in_names)

  entry_in : keys_in (t.used + length (layer_field (seen_of g))) ((t.used + name_at (seen_of g)) ∷ g.layer.name ∷ []) ≡ true
  entry_in =
      let h : t.used + name_at (seen_of g) + g.layer.name ≤ t.used + length (layer_field (seen_of g)) =
      omega (arith, name_within g.layer g.memory.keys g.memory.values g.memory.texts g.memory.features M.layer) in
      rw (le-leb (t.used + name_at (seen_of g) + g.layer.name) (t.used + length (layer_field (seen_of g))) h)

  -- an accepted call keeps the tile's STATE
  pub tile_next : valid_tile (with_layer t (seen_of g) m).answer.values (with_layer t (seen_of g) m).memory ≡ true
  tile_next =
      let n = names_after (t.used + name_at (seen_of g)) g.layer.name in
      whole (with_layer t (seen_of g) m).answer.values (with_layer t (seen_of g) m).memory.names (with_layer t (seen_of g) m).memory.bytes
      (rw (length_lay t.used (layer_field (seen_of g)) m.bytes in_bytes) M.bytes)
      (rw (length_lay (t.layers * 2) ((t.used + name_at (seen_of g)) ∷ g.layer.name ∷ []) m.names in_names) M.names)
      (rw n (keys_more t.used (t.used + length (layer_field (seen_of g))) (omega arith) (take (t.layers * 2) m.names) ((t.used + name_at (seen_of g)) ∷ g.layer.name ∷ []) P.names entry_in))

-- the state after an answer
abbrev left : Written (Said Tile) TileMemory → At
left w = record { tile = w.answer.values; memory = w.memory }

keeps_by : (a : At) → valid_tile a.tile a.memory ≡ true → (g : Given) (w : Written (Said Tile) TileMemory) → Outcome a.tile (seen_of g) a.memory w → valid_tile (left w).tile (left w).memory ≡ true
keeps_by a h g _ (added M) = tile_next a.tile g a.memory M
keeps_by a h g _ (unchanged r) = h

pub call_keeps : (g : Given) (a : At) → valid_tile a.tile a.memory ≡ true → valid_tile (after g a).tile (after g a).memory ≡ true
call_keeps g a h = keeps_by a h g (add_layer a.tile (seen_of g) a.memory) (outcome a.tile (seen_of g) a.memory)

-- ---- what a tile holds
pub record Holds (gs : List Given) (a : At) : Type 0 where
  pub state : valid_tile a.tile a.memory ≡ true
  pub size : a.tile.used ≡ length (tile_bytes gs)
  pub bytes : used_bytes a.tile a.memory ≡ tile_bytes gs
  pub layers : a.tile.layers ≡ length gs
  pub names : texts_at (used_names a.tile a.memory) (used_bytes a.tile a.memory) ≡ layer_names gs
  pub apart : none_twice (layer_names gs) ≡ true

-- NAME: the tile has a layer of this name where one of its layers has
pub named_among : (gs : List Given) (a : At) → Holds gs a → (name : List ℕ) → has_name a.tile a.memory name ≡ among name (layer_names gs)
named_among gs a H name =
    let P = parts a.tile a.memory.names a.memory.bytes H.state in
    let k : keys_in (length (used_bytes a.tile a.memory)) (used_names a.tile a.memory) ≡ true = rw (length-take-le a.tile.used a.memory.bytes P.in_bytes) P.names in
    found_among 0 (used_names a.tile a.memory) (used_bytes a.tile a.memory) name k ∙ ap (among name) H.names

bytes_of : (gs hs : List Given) → tile_bytes (gs ++ hs) ≡ tile_bytes gs ++ tile_bytes hs
bytes_of [] hs = refl
bytes_of (g ∷ gs) hs = rw (bytes_of gs hs) (sym (append_assoc (delimited TileLayer (layer_bytes g.layer (seen_of g).held)) (tile_bytes gs) (tile_bytes hs)))

names_of : (gs hs : List Given) → layer_names (gs ++ hs) ≡ layer_names gs ++ layer_names hs
names_of [] hs = refl
names_of (g ∷ gs) hs = ap (λ (l : List (List ℕ)). name_text (seen_of g) ∷ l) (names_of gs hs)

module _ (gs : List Given) (a : At) (H : Holds gs a) (g : Given) (M : May a.tile (seen_of g) a.memory) where
  one_more : tile_bytes (gs ++ (g ∷ [])) ≡ tile_bytes gs ++ layer_field (seen_of g)
  one_more = bytes_of gs (g ∷ []) ∙ rw (append-nil, field_parts (seen_of g))

  bytes_now : used_bytes (left (with_layer a.tile (seen_of g) a.memory)).tile (left (with_layer a.tile (seen_of g) a.memory)).memory ≡ tile_bytes gs ++ layer_field (seen_of g)
  bytes_now = bytes_after a.tile g a.memory M ∙ ap (λ (l : List ℕ). l ++ layer_field (seen_of g)) H.bytes

  -- the new entry names the new layer's name
  text_now : take g.layer.name (drop (a.tile.used + name_at (seen_of g)) (tile_bytes gs ++ layer_field (seen_of g))) ≡ name_text (seen_of g)
  text_now =
      let d : drop (a.tile.used + name_at (seen_of g)) (tile_bytes gs ++ layer_field (seen_of g)) ≡ drop (name_at (seen_of g)) (layer_field (seen_of g)) =
      sym (drop-drop (name_at (seen_of g)) a.tile.used (tile_bytes gs ++ layer_field (seen_of g))) ∙ ap (drop (name_at (seen_of g))) (drop_at (tile_bytes gs) (layer_field (seen_of g)) a.tile.used (sym H.size)) in
      ap (take g.layer.name) d ∙ name_stands g.layer g.memory.keys g.memory.values g.memory.texts g.memory.features M.layer

  pub holds_more : Holds (gs ++ (g ∷ [])) (left (with_layer a.tile (seen_of g) a.memory))
  holds_more =
      let x = a.tile.used + name_at (seen_of g) in
      let ks = take (a.tile.layers * 2) a.memory.names in
      let k : keys_in (length (tile_bytes gs)) ks ≡ true = rw (← H.size) (parts a.tile a.memory.names a.memory.bytes M.state).names in
      let o : texts_at ks (tile_bytes gs) ≡ layer_names gs = rw H.bytes at H.names in
      let p = names_after a.tile g a.memory M x g.layer.name in
      record {
        state = tile_next a.tile g a.memory M;
        size = ap (λ (n : ℕ). n + length (layer_field (seen_of g))) H.size ∙ sym (length-append (tile_bytes gs) (layer_field (seen_of g))) ∙ ap length (sym one_more);
        bytes = bytes_now ∙ sym one_more;
        layers = ap (λ (n : ℕ). n + 1) H.layers ∙ sym (length-append gs (g ∷ []));
        names = rw (p, bytes_now) (texts_more ks x g.layer.name (tile_bytes gs) (layer_field (seen_of g)) k ∙ rw (o, text_now, names_of gs (g ∷ [])));
        apart = rw (names_of gs (g ∷ [])) (none_twice_more (name_text (seen_of g)) (layer_names gs) H.apart (sym (named_among gs a H (name_text (seen_of g))) ∙ M.new_name));
      }

-- ---- any run of calls
run_by : (done : List Given) (a : At) → Holds done a → (g : Given) (gs : List Given) → ((d : List Given) (b : At) → Holds d b → Holds (d ++ taken gs b) (after_all gs b)) → (w : Written (Said Tile) TileMemory) → Outcome a.tile (seen_of g) a.memory w → Holds (done ++ cond (eqb w.answer.number 0) (g ∷ taken gs (left w)) (taken gs (left w))) (after_all gs (left w))
run_by done a H g gs k _ (added M) =
    let r = k (done ++ (g ∷ [])) (left (with_layer a.tile (seen_of g) a.memory)) (holds_more done a H g M) in
    rw (append_assoc done (g ∷ []) (taken gs (left (with_layer a.tile (seen_of g) a.memory)))) at r
run_by done a H g gs k _ (unchanged r) = rw (ne_eqb (number_of r) 0 (λ e. omega (arith, numbered r))) (k done a H)

pub holds_all : (gs done : List Given) (a : At) → Holds done a → Holds (done ++ taken gs a) (after_all gs a)
holds_all [] done a H = rw append-nil H
holds_all (g ∷ gs) done a H = run_by done a H g gs (holds_all gs) (add_layer a.tile (seen_of g) a.memory) (outcome a.tile (seen_of g) a.memory)

-- ---- from a fresh tile, whatever is lent to it
pub fresh_valid : (extent : ℕ) (ns bs : List ℕ) → valid_tile (fresh_tile extent) (lists ns bs) ≡ true
fresh_valid extent ns bs = whole (fresh_tile extent) ns bs (omega arith) (omega arith) refl

pub holds_none : (extent : ℕ) (ns bs : List ℕ) → Holds [] (record { tile = fresh_tile extent; memory = lists ns bs })
holds_none extent ns bs = record { state = fresh_valid extent ns bs; size = refl; bytes = refl; layers = refl; names = refl; apart = refl }

pub run_holds : (extent : ℕ) (ns bs : List ℕ) (gs : List Given) → let a : At = record { tile = fresh_tile extent; memory = lists ns bs } in Holds (taken gs a) (after_all gs a)
run_holds extent ns bs gs = holds_all gs [] (record { tile = fresh_tile extent; memory = lists ns bs }) (holds_none extent ns bs)

-- what such a tile tells: none of the questions is refused
module _ (gs : List Given) (a : At) (H : Holds gs a) where
  pub tells_layers : num_layers a.tile a.memory ≡ tells (length gs)
  tells_layers = rw (H.state, H.layers)

  pub tells_size : compute_size a.tile a.memory ≡ tells (length (tile_bytes gs))
  tells_size = rw (H.state, H.size)
