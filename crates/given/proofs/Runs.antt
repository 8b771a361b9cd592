-- One theorem for a whole run: the used bytes of a fresh tile after any layers made by any calls are MVT's message of what was given.
use Prim.Native.Nat.{ℕ, ◌≤◌}
use mathlib.Core.Path.{◌≡◌, refl, ap, ◌∙◌, subst}
use mathlib.Core.Bool.{Bool, true, false, cond}
use mathlib.Core.List.{List, [], ◌∷◌, map}
use native.Mathlib.Omega.{arith}
use lib.ListN.{length, take, replicate}
use lib.Seq.{take_at, take-length}
use lib.Dec.{leb, eqb}
use borrow.Author.Tests.{leb-true}
use Rattle.promise.specs.Laid.{lay}
use Rattle.promise.specs.Answers.{Written}
use Rattle.refusal.specs.Said.{Said, accepted}
use Rattle.table.specs.Texts.{short_text}
use Rattle.utf8.specs.Utf8.{is_utf8}
use Rattle.layer.specs.declared.Layer.{Layer}
use Rattle.std.specs.Prelude.{None}
use Rattle.layer.specs.Held.{Memory, mem, Seen, seen, Change, refuses, holds, next, smaller, max_texts}
use Rattle.layer.specs.State.{valid}
use Rattle.layer.specs.Calls.{is_shut, created}
use Rattle.layer.proofs.Fitting.{smaller_le}
use Rattle.layer.proofs.Keeping.{is_shut_lem}
use Rattle.layer.proofs.After.{seen_after_lem}
use Rattle.tile.specs.Tiles.{TileMemory, lists, used_bytes, valid_tile, fresh_tile}
use Rattle.tile.specs.declared.Tile.{Tile}
use Rattle.tile.specs.Adding.{add_layer, one_layer}
use Rattle.tile.specs.Holding.{tile_bytes, At, call, after, after_all, taken}
use Rattle.tile.proofs.Holding.{run_holds}
use Rattle.given.specs.Given.{Drawing}
use Rattle.given.specs.Messages.{tile_message, p_tile}
use Rattle.given.specs.Asked.{Made, calls, whole, asked, gives, FineMade}
use Rattle.given.specs.Layout.{no_keys, no_values, Stands}
use Rattle.given.specs.Runs.{Page, Step, stepped_all, Plan, creating, begun, page_of, AllFine, Sound, AllSound, layer_of, drawings}
use Rattle.given.proofs.Courses.{Keeps, run_keeps}
use Rattle.given.proofs.Standing.{stands_lengths, Kept, call_stands}
use Rattle.given.proofs.Whole.{whole_stands}
use Rattle.given.proofs.Bytes.{layer_bytes_lem}

-- ---- one law for every call as it is made
pub made_stands : (c : Made) → FineMade c → (v : Seen) (d : Drawing) → Stands v d → Kept (gives c d) v (asked c v)
made_stands (calls c) g v d S = call_stands v d S c g
made_stands (whole f words ws bytes) g v d S = whole_stands f words ws bytes g v d S

pub accepted_stands : (c : Made) → FineMade c → (v : Seen) (d : Drawing) → Stands v d → (t : Layer) (h : Memory) → asked c v ≡ holds t h → Stands (next (holds t h) v) (gives c d)
accepted_stands c g v d S t h e = let K : Kept (gives c d) v (holds t h) = subst (Kept (gives c d) v) e (made_stands c g v d S) in K.stands

-- ---- in memory
abbrev pub StandsIn : Layer → Memory → Drawing → Type 0
StandsIn s m d = Stands (seen s m) d

abbrev pub PageStands : Page → Type 0
PageStands p = StandsIn p.layer p.memory p.drawing

-- what is laid over the lists is what is seen then
as_laid : (s : Layer) (m : Memory) (e : Drawing) (x : Change) → Kept e (seen s m) x → Keeps StandsIn s m e x
as_laid s m e (refuses r) K = tt
as_laid s m e (holds t h) K = rw (seen_after_lem t h m (record { lengths = stands_lengths _ e K.stands; room = K.room })) K.stands

pub stands_on : (c : Made) → FineMade c → (s : Layer) (m : Memory) (d : Drawing) → StandsIn s m d → Keeps StandsIn s m (gives c d) (asked c (seen s m))
stands_on c g s m d S = as_laid s m (gives c d) (asked c (seen s m)) (made_stands c g (seen s m) d S)

pub all_stand : (cs : List Step) → AllFine cs → (p : Page) → PageStands p → PageStands (stepped_all cs p)
all_stand = run_keeps StandsIn stands_on

-- ---- a new layer
-- an accepted one passed its three checks
pub record Accepted (name ts : List ℕ) : Type 0 where
  pub short : short_text (length name) ≡ true
  pub utf8 : is_utf8 name ≡ true
  pub room : leb (length name) (smaller (length ts) max_texts) ≡ true

pub passed : (name : List ℕ) (extent : ℕ) (ts : List ℕ) → (created name extent ts).answer.number ≡ 0 → Accepted name ts
passed name extent ts e = by (short_text (length name)) (is_utf8 name) (leb (length name) (smaller (length ts) max_texts)) refl refl refl
  where
    by : (a b c : Bool) → short_text (length name) ≡ a → is_utf8 name ≡ b → leb (length name) (smaller (length ts) max_texts) ≡ c → Accepted name ts
    by true true true p q r = record { short = p; utf8 = q; room = r }
    by true true false p q r = absurd (let z : ◌≡◌ {A = ℕ} 7 0 = rw (p, q, r) at e in omega arith)
    by true false c p q r = absurd (let z : ◌≡◌ {A = ℕ} 22 0 = rw (p, q) at e in omega arith)
    by false b c p q r = absurd (let z : ◌≡◌ {A = ℕ} 11 0 = rw p at e in omega arith)

room_for : (name : List ℕ) (extent : ℕ) (ts : List ℕ) → (created name extent ts).answer.number ≡ 0 → length name ≤ length ts
room_for name extent ts e = omega (arith, leb-true (length name) (smaller (length ts) max_texts) (passed name extent ts e).room, smaller_le (length ts) max_texts)

-- strict or not, a new layer is accepted where an ordinary one is
pub creates_new : (p : Plan) → (creating p).answer.number ≡ 0 → (created p.name p.extent p.lent.texts).answer.number ≡ 0
creates_new p e = by p.strict refl
  where
    by : (b : Bool) → p.strict ≡ b → (created p.name p.extent p.lent.texts).answer.number ≡ 0
    by true q = rw q at e
    by false q = rw q at e

-- what is begun with is what creating answered and left
pub begun_is : (p : Plan) → (creating p).answer.number ≡ 0 → creating p ≡ record { answer = accepted ((begun p).layer ∷ []); memory = (begun p).memory.texts }
begun_is p e = by p.strict refl
  where
    by : (b : Bool) → p.strict ≡ b → creating p ≡ record { answer = accepted ((begun p).layer ∷ []); memory = (begun p).memory.texts }
    by true q = let A = passed p.name p.extent p.lent.texts (creates_new p e) in rw (q, A.short, A.utf8, A.room)
    by false q = let A = passed p.name p.extent p.lent.texts (creates_new p e) in rw (q, A.short, A.utf8, A.room)

pub begun_stands : (p : Plan) → (creating p).answer.number ≡ 0 → PageStands (begun p)
begun_stands p e =
    let h = room_for p.name p.extent p.lent.texts (creates_new p e) in
    let t : take (length p.name) (lay 0 p.name p.lent.texts) ≡ p.name = take_at p.name _ (length p.name) refl in
    record {
      extent_is = refl;
      parts = rw t
          (record {
            key_count = refl;
            value_count = refl;
            text_count = refl;
            word_count = refl;
            title = record { within = omega arith; there = take-length p.name };
            keys_stand = no_keys;
            values_stand = no_values;
            records_are = refl;
          });
    }

pub page_stands : (p : Plan) → Sound p → PageStands (page_of p)
page_stands p s = all_stand p.calls s.fine (begun p) (begun_stands p s.creates)

-- ---- the tile
-- what is accepted has no feature open
accepted_shut : (t : Tile) (v : Seen) (m : TileMemory) → eqb (add_layer t v m).answer.number 0 ≡ true → v.layer.feature ≡ None
unfolding add_layer
accepted_shut t v m e = is_shut_lem v.layer.feature (by (valid_tile t m) (valid v) (is_shut v.layer.feature) refl refl refl)
  where
    by : (a b c : Bool) → valid_tile t m ≡ a → valid v ≡ b → is_shut v.layer.feature ≡ c → c ≡ true
    by a b true p q r = refl
    by false b false p q r = rw p at e
    by true false false p q r = rw (p, q) at e
    by true true false p q r = rw (p, q, r) at e

abbrev AllStand : List Page → Type 0
AllStand [] = Unit {0}
AllStand (p ∷ ps) = PageStands p × AllStand ps

taken_message : (ps : List Page) → AllStand ps → (a : At) → tile_bytes (taken (map layer_of ps) a) ≡ tile_message (drawings ps a)
taken_message [] S a = refl
taken_message (p ∷ ps) S a = by (eqb (call (layer_of p) a).answer.number 0) refl (taken_message ps S.1 (after (layer_of p) a))
  where
    by : (b : Bool) → eqb (call (layer_of p) a).answer.number 0 ≡ b → tile_bytes (taken (map layer_of ps) (after (layer_of p) a)) ≡ tile_message (drawings ps (after (layer_of p) a)) → tile_bytes (cond b (layer_of p ∷ taken (map layer_of ps) (after (layer_of p) a)) (taken (map layer_of ps) (after (layer_of p) a))) ≡ tile_message (cond b (p.drawing ∷ drawings ps (after (layer_of p) a)) (drawings ps (after (layer_of p) a)))
    by true e k = rw (layer_bytes_lem (seen p.layer p.memory) p.drawing S.0 (accepted_shut a.tile (seen p.layer p.memory) a.memory e), k)
    by false e k = k

sound_pages : (ps : List Plan) → AllSound ps → AllStand (map page_of ps)
sound_pages [] s = tt
sound_pages (p ∷ ps) s = (page_stands p s.0, sound_pages ps s.1)

pub what_was_given : (extent : ℕ) (ns bs : List ℕ) (ps : List Plan) → AllSound ps → let a : At = record { tile = fresh_tile extent; memory = lists ns bs } in let b = after_all (map layer_of (map page_of ps)) a in used_bytes b.tile b.memory ≡ tile_message (drawings (map page_of ps) a)
what_was_given extent ns bs ps s =
    let a : At = record { tile = fresh_tile extent; memory = lists ns bs } in
    (run_holds extent ns bs (map layer_of (map page_of ps))).bytes ∙ taken_message (map page_of ps) (sound_pages ps s) a

-- ---- document 01's tile: extent 4096, layer "a" without features
abbrev pub plain_plan : Plan
plain_plan = record { name = 97 ∷ []; extent = 4096; strict = false; lent = mem [] [] (0 ∷ []) []; calls = [] }

pub p_run : let a : At = record { tile = fresh_tile 4096; memory = lists (0 ∷ 0 ∷ []) (replicate 11 0) } in let b = after_all (map layer_of (map page_of (plain_plan ∷ []))) a in used_bytes b.tile b.memory ≡ 26 ∷ 8 ∷ 10 ∷ 1 ∷ 97 ∷ 40 ∷ 128 ∷ 32 ∷ 120 ∷ 2 ∷ []
p_run =
    what_was_given 4096 (0 ∷ 0 ∷ []) (replicate 11 0) (plain_plan ∷ []) (record { creates = refl; fine = tt }, tt)
    ∙ ap (λ (w : Written (Said Tile) TileMemory). tile_message (cond (eqb w.answer.number 0) ((page_of plain_plan).drawing ∷ []) [])) one_layer ∙ p_tile
