-- Whatever calls are made on a layer that was created by a call, in any order and refused or not: every text of what it was given is UTF-8.
use Prim.Native.Nat.{ℕ}
use mathlib.Core.Path.{◌≡◌, refl, ◌∙◌}
use mathlib.Core.Bool.{Bool, true, false, cond, ◌&&◌}
use mathlib.Core.List.{List, [], ◌∷◌, ◌++◌, map}
use mathlib.Core.Option.{Option, none, some}
use lib.IntN.{ℤ}
use lib.Dec.{eqb}
use Rattle.whole.specs.Twos.{wide, signed64}
use Rattle.promise.proofs.Joined.{cond_both}
use Rattle.table.specs.Texts.{text_of}
use Rattle.utf8.specs.Utf8.{is_utf8}
use Rattle.layer.specs.declared.Layer.{Layer}
use Rattle.layer.specs.declared.whole_feature.Head.{Head}
use Rattle.layer.specs.Held.{Memory, seen, Change, refuses, holds}
use Rattle.layer.specs.TagLists.{tag_utf8, tags_utf8, tag_of as tagStored, tags_of}
use Rattle.layer.specs.Whole.{add_feature}
use Rattle.layer.proofs.Checked.{by_tag, by_feature}
use Rattle.tile.specs.Holding.{At, call, after as after-layer}
use Rattle.given.specs.Given.{float, double, int, uint, sint, bool, Tag, Feature, Drawing, Call, opens, identifies, tags, closes, abandons, identified, tagged, on_open, completed, after, added}
use Rattle.given.specs.Asked.{Made, calls, whole, tag_of, content_at, tags_given, feature_given, asks, asked, gives, FineMade}
use Rattle.given.specs.Runs.{Plan, begun, page_of, Sound, AllSound, layer_of, drawings}
use Rattle.given.specs.Texts.{Every, TagText, FeatureText, AllText}
use Rattle.given.proofs.Courses.{Keeps, run_keeps}
use Rattle.given.proofs.Runs.{passed, creates_new}

-- ---- one behind the other
pub every_behind : {A : Type 0} (P : A → Type 0) (xs ys : List A) → Every P xs → Every P ys → Every P (xs ++ ys)
every_behind P [] ys a b = b
every_behind P (x ∷ xs) ys a b = (a.0, every_behind P xs ys a.1 b)

-- ---- a call that is accepted leaves a drawing of such texts
abbrev TextIn : Layer → Memory → Drawing → Type 0
TextIn s m d = AllText d

always : (s : Layer) (m : Memory) (d : Drawing) (x : Change) → AllText d → Keeps TextIn s m d x
always s m d (refuses r) A = tt
always s m d (holds t h) A = A

module _ (s : Layer) (m : Memory) (d : Drawing) (A : AllText d) where
  -- what is pending is as it was, or has one tag more
  marked : (n : ℕ) (f : Option Feature) → Every FeatureText (completed f) → Every FeatureText (completed (on_open (identified n) f))
  marked n none a = tt
  marked n (some f) a = a

  tagged_text : (t : Tag) (f : Option Feature) → Every FeatureText (completed f) → TagText t → Every FeatureText (completed (on_open (tagged t) f))
  tagged_text t none a u = tt
  tagged_text t (some f) a u = (every_behind TagText f.tags (t ∷ []) a.0 (u, tt), tt)

  call_text : (c : Call) → Keeps TextIn s m (after c d) (asks c (seen s m))
  call_text (opens kind words) = always s m _ (asks (opens kind words) (seen s m)) (record { named = A.named; complete = A.complete; started = (tt, tt) })
  call_text (identifies n) = always s m _ (asks (identifies n) (seen s m)) (record { named = A.named; complete = A.complete; started = marked n d.pending A.started })
  call_text (tags key c) =
      by_tag (Keeps TextIn s m (after (tags key c) d)) (tag_of key c) (seen s m) (λ q n. tt) (λ e u o f a h.
      record { named = A.named; complete = A.complete; started = tagged_text (record { key = key; value = c }) d.pending A.started u })
  call_text closes =
      always s m _ (asks closes (seen s m)) (record { named = A.named; complete = every_behind FeatureText d.features (completed d.pending) A.complete A.started; started = tt })
  call_text abandons = always s m _ (asks abandons (seen s m)) (record { named = A.named; complete = A.complete; started = tt })

-- a whole feature: the texts that its words give are those that they store
no_text : (key : List ℕ) (low n : ℕ) (z : ℤ) (b p q r s t : Bool) → tag_utf8 (tag_of key (cond p (float low) (cond q (double n) (cond r (int z) (cond s (uint n) (cond t (sint z) (bool b))))))) ≡ (is_utf8 key && true)
no_text key low n z b true q r s t = refl
no_text key low n z b false true r s t = refl
no_text key low n z b false false true s t = refl
no_text key low n z b false false false true t = refl
no_text key low n z b false false false false true = refl
no_text key low n z b false false false false false = refl

one_given : (bytes : List ℕ) (start len kind low high : ℕ) → tag_utf8 (tagStored bytes start len kind low high) ≡ true → tag_utf8 (tag_of (text_of bytes start len) (content_at bytes kind low high)) ≡ true
one_given bytes start len kind low high u = by (eqb kind 1) refl
  where
    by : (b : Bool) → eqb kind 1 ≡ b → tag_utf8 (tag_of (text_of bytes start len) (content_at bytes kind low high)) ≡ true
    by true e = rw e (rw e at u)
    by false e = rw e (no_text (text_of bytes start len) low (wide low high) (signed64 (wide low high)) (eqb low 1) (eqb kind 2) (eqb kind 3) (eqb kind 4) (eqb kind 5) (eqb kind 6) ∙ (rw e at u))

tags_given_lem : (bytes ws : List ℕ) → tags_utf8 (tags_of bytes ws) ≡ true → Every TagText (tags_given bytes ws)
tags_given_lem bytes [] u = tt
tags_given_lem bytes (a ∷ []) u = tt
tags_given_lem bytes (a ∷ b ∷ []) u = tt
tags_given_lem bytes (a ∷ b ∷ c ∷ []) u = tt
tags_given_lem bytes (a ∷ b ∷ c ∷ d ∷ []) u = tt
tags_given_lem bytes (start ∷ len ∷ kind ∷ low ∷ high ∷ ws) u =
    let p = cond_both (tag_utf8 (tagStored bytes start len kind low high)) (tags_utf8 (tags_of bytes ws)) u in
    (one_given bytes start len kind low high p.0, tags_given_lem bytes ws p.1)

whole_text : (f : Head) (words ws bytes : List ℕ) (s : Layer) (m : Memory) (d : Drawing) → AllText d → Keeps TextIn s m (added (feature_given f words ws bytes) d) (add_feature f words ws bytes (seen s m))
whole_text f words ws bytes s m d A =
    by_feature (Keeps TextIn s m (added (feature_given f words ws bytes) d)) f words ws bytes (seen s m) (λ q. tt) (λ l k e u i a h.
    record { named = A.named; complete = every_behind FeatureText d.features (feature_given f words ws bytes ∷ []) A.complete (tags_given_lem bytes ws u, tt); started = tt })

made_text : (c : Made) → FineMade c → (s : Layer) (m : Memory) (d : Drawing) → AllText d → Keeps TextIn s m (gives c d) (asked c (seen s m))
made_text (calls c) g s m d A = call_text s m d A c
made_text (whole f words ws bytes) g s m d A = whole_text f words ws bytes s m d A

-- ---- a layer that was created, and any run of calls on it
pub texts_are_utf8 : (p : Plan) → Sound p → AllText (page_of p).drawing
texts_are_utf8 p s =
    run_keeps TextIn made_text p.calls s.fine (begun p)
    (record { named = (passed p.name p.extent p.lent.texts (creates_new p s.creates)).utf8; complete = tt; started = tt })

-- and so of every layer of a tile, whose bytes are the message of these drawings (`what_was_given`): what is true of each drawing is true of those accepted
pub tile_every : (P : Drawing → Type 0) (ps : List Plan) → Every (λ (p : Plan). P (page_of p).drawing) ps → (a : At) → Every P (drawings (map page_of ps) a)
tile_every P [] E a = tt
tile_every P (p ∷ ps) E a = by (eqb (call (layer_of (page_of p)) a).answer.number 0) (drawings (map page_of ps) (after-layer (layer_of (page_of p)) a)) E.0 (tile_every P ps E.1 (after-layer (layer_of (page_of p)) a))
  where
    by : (b : Bool) (ds : List Drawing) → P (page_of p).drawing → Every P ds → Every P (cond b ((page_of p).drawing ∷ ds) ds)
    by true ds A F = (A, F)
    by false ds A F = F

all_texts : (ps : List Plan) → AllSound ps → Every (λ (p : Plan). AllText (page_of p).drawing) ps
all_texts [] s = tt
all_texts (p ∷ ps) s = (texts_are_utf8 p s.0, all_texts ps s.1)

pub tile_texts : (ps : List Plan) → AllSound ps → (a : At) → Every AllText (drawings (map page_of ps) a)
tile_texts ps s a = tile_every AllText ps (all_texts ps s) a
