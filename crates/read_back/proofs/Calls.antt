-- Whatever calls are made, in any order and refused or not: where their numbers are those of the calls' types, so are those of what was given. The drawing
-- alone is looked at: a call leaves it, or does to it what it says.
use Prim.Native.Nat.{ℕ, zero, suc, ◌<◌}
use mathlib.Core.Path.{◌≡◌, refl}
use mathlib.Core.Bool.{Bool, true, false, cond}
use mathlib.Core.List.{List, [], ◌∷◌}
use mathlib.Core.Option.{Option, none, some}
use native.Mathlib.Omega.{arith}
use lib.Dec.{ltb, eqb}
use lib.ListN.{take, drop}
use borrow.Author.Tests.{ltb-true, ltb-false}
use Rattle.whole.specs.Twos.{wide, signed64}
use Rattle.whole.proofs.Twos.{twos_high}
use Rattle.layer.specs.declared.whole_feature.Head.{Head}
use Rattle.layer.specs.Many.{head_of}
use Rattle.given.specs.Given.{text, float, double, int, uint, sint, bool, Tag, Feature, Drawing, drawn, identified, tagged, on_open, completed, after, added}
use Rattle.given.specs.Given.{Call, opens, identifies, tags, closes, abandons}
use Rattle.given.specs.Asked.{Made, calls, whole, content_at, tags_given, id_given, feature_given, features_given, added_all, gives, Int64, Words}
use Rattle.given.specs.Runs.{Page, called, Step, one, many, called_many, stepped, stepped_all, Plan, begun, page_of}
use Rattle.given.specs.Texts.{Every}
use Rattle.given.proofs.Courses.{words_take, words_drop}
use Rattle.given.proofs.Texts.{every_behind}
use Rattle.read_back.specs.Sizes.{SizedContent, SizedTag, SizedId, SizedFeature, Sized, SizedCall, SizedMade, SizedStep, SizedPlan}

-- with what is open beside what is complete
record SizedSoFar (d : Drawing) : Type 0 where
  sized : Sized d
  started : Every SizedFeature (completed d.pending)

-- ---- the tags and features of lent lists
signed_fits : (n : ℕ) → n < 18446744073709551616 → Int64 (signed64 n)
signed_fits n h = by (ltb n 9223372036854775808) refl
  where
    by : (b : Bool) → ltb n 9223372036854775808 ≡ b → Int64 (signed64 n)
    by true e = rw e (ltb-true n 9223372036854775808 e)
    by false e = let g = ltb-false n 9223372036854775808 e in rw (twos_high 9223372036854775808 18446744073709551615 n refl g (omega arith)) (omega arith)

module _ (bytes : List ℕ) where
  content_sized : (kind low high : ℕ) → low < 4294967296 → high < 4294967296 → SizedContent (content_at bytes kind low high)
  content_sized kind low high l h = by _ (wide low high) (eqb low 1) (eqb kind 1) (eqb kind 2) (eqb kind 3) (eqb kind 4) (eqb kind 5) (eqb kind 6) (omega arith)
    where
      by : (t : List ℕ) (n : ℕ) (b p q r s u v : Bool) → n < 18446744073709551616
          → SizedContent (cond p (text t) (cond q (float low) (cond r (double n)
          (cond s (int (signed64 n)) (cond u (uint n) (cond v (sint (signed64 n)) (bool b)))))))
      by t n b true q r s u v f = tt
      by t n b false true r s u v f = l
      by t n b false false true s u v f = f
      by t n b false false false true u v f = signed_fits n f
      by t n b false false false false true v f = f
      by t n b false false false false false true f = signed_fits n f
      by t n b false false false false false false f = tt

  tags_sized : (ws : List ℕ) → Words ws → Every SizedTag (tags_given bytes ws)
  tags_sized [] g = tt
  tags_sized (a ∷ []) g = tt
  tags_sized (a ∷ b ∷ []) g = tt
  tags_sized (a ∷ b ∷ c ∷ []) g = tt
  tags_sized (a ∷ b ∷ c ∷ d ∷ []) g = tt
  tags_sized (start ∷ len ∷ kind ∷ low ∷ high ∷ ws) g = (content_sized kind low high g.1.1.1.0 g.1.1.1.1.0, tags_sized ws g.1.1.1.1.1)

  feature_sized : (f : Head) (words ws : List ℕ) → f.kind < 4294967296 → f.id < 18446744073709551616 → Words words → Words ws
      → SizedFeature (feature_given f words ws bytes)
  feature_sized f words ws k i g t = record { in_kind = k; in_id = by f.has_id; in_geometry = g; in_tags = tags_sized ws t }
    where
      by : (b : Bool) → SizedId (id_given b f.id)
      by true = i
      by false = tt

  features_sized : (hs words ws : List ℕ) → Words hs → Words words → Words ws → Every SizedFeature (features_given hs words ws bytes)
  features_sized [] words ws h g t = tt
  features_sized (a ∷ []) words ws h g t = tt
  features_sized (a ∷ b ∷ []) words ws h g t = tt
  features_sized (a ∷ b ∷ c ∷ []) words ws h g t = tt
  features_sized (a ∷ b ∷ c ∷ d ∷ []) words ws h g t = tt
  features_sized (a ∷ b ∷ c ∷ d ∷ e ∷ []) words ws h g t = tt
  features_sized (kind ∷ mark ∷ low ∷ high ∷ w ∷ n ∷ hs) words ws h g t =
      let l = h.1.1.0 in
      let u = h.1.1.1.0 in (
        feature_sized (head_of kind mark low high) (take w words) (take n ws) h.0 (omega arith) (words_take w words g) (words_take n ws t),
        features_sized hs (drop w words) (drop n ws) h.1.1.1.1.1.1 (words_drop w words g) (words_drop n ws t),
      )

-- ---- a call that is accepted
module _ (d : Drawing) (S : SizedSoFar d) where
  with_id : (n : ℕ) → n < 18446744073709551616 → (f : Option Feature) → Every SizedFeature (completed f)
      → Every SizedFeature (completed (on_open (identified n) f))
  with_id n h none a = tt
  with_id n h (some f) a = (record { in_kind = a.0.in_kind; in_id = h; in_geometry = a.0.in_geometry; in_tags = a.0.in_tags }, tt)

  with_tag : (t : Tag) → SizedTag t → (f : Option Feature) → Every SizedFeature (completed f) → Every SizedFeature (completed (on_open (tagged t) f))
  with_tag t h none a = tt
  with_tag t h (some f) a = (
    record {
      in_kind = a.0.in_kind;
      in_id = a.0.in_id;
      in_geometry = a.0.in_geometry;
      in_tags = every_behind SizedTag f.tags (t ∷ []) a.0.in_tags (h, tt);
    },
    tt,
  )

  -- with these features and this one open
  with_features : (fs : List Feature) → Every SizedFeature fs → (f : Option Feature) → Every SizedFeature (completed f) → SizedSoFar (drawn d fs f)
  with_features fs a f b = record { sized = record { in_extent = S.sized.in_extent; in_features = a }; started = b }

  call_sized : (c : Call) → SizedCall c → SizedSoFar (after c d)
  call_sized (opens kind words) g =
      with_features d.features S.sized.in_features _ (record { in_kind = g.0; in_id = tt; in_geometry = g.1; in_tags = tt }, tt)
  call_sized (identifies n) g = with_features d.features S.sized.in_features _ (with_id n g d.pending S.started)
  call_sized (tags key value) g =
      with_features d.features S.sized.in_features _ (with_tag (record { key = key; value = value }) g d.pending S.started)
  call_sized closes g = with_features _ (every_behind SizedFeature d.features (completed d.pending) S.sized.in_features S.started) none tt
  call_sized abandons g = with_features d.features S.sized.in_features none tt

  added_sized : (f : Feature) → SizedFeature f → SizedSoFar (added f d)
  added_sized f s = with_features _ (every_behind SizedFeature d.features (f ∷ []) S.sized.in_features (s, tt)) none tt

  made_sized : (c : Made) → SizedMade c → SizedSoFar (gives c d)
  made_sized (calls c) g = call_sized c g
  made_sized (whole f words ws bytes) g = added_sized (feature_given f words ws bytes) (feature_sized bytes f words ws g.0 g.1 g.2 g.3)

all_added : (n : ℕ) (fs : List Feature) → Every SizedFeature fs → (d : Drawing) → SizedSoFar d → SizedSoFar (added_all (take n fs) d)
all_added zero fs s d S = S
all_added (suc n) [] s d S = S
all_added (suc n) (f ∷ fs) s d S = all_added n fs s.1 (added f d) (added_sized d S f s.0)

-- ---- any run of calls
step_sized : (c : Step) → SizedStep c → (p : Page) → SizedSoFar p.drawing → SizedSoFar (stepped c p).drawing
step_sized (one c) g p S = by (eqb (called c p).answer.number 0)
  where
    by : (b : Bool) → SizedSoFar (cond b (gives c p.drawing) p.drawing)
    by true = made_sized p.drawing S c g
    by false = S
step_sized (many heads words ws bytes) g p S =
    all_added (called_many heads words ws bytes p).answer.values.count (features_given heads words ws bytes)
    (features_sized bytes heads words ws g.0 g.1 g.2) p.drawing S

run_sized : (cs : List Step) → Every SizedStep cs → (p : Page) → SizedSoFar p.drawing → SizedSoFar (stepped_all cs p).drawing
run_sized [] g p S = S
run_sized (c ∷ cs) g p S = run_sized cs g.1 (stepped c p) (step_sized c g.0 p S)

pub plan_sized : (p : Plan) → SizedPlan p → Sized (page_of p).drawing
plan_sized p g = (run_sized p.calls g.in_calls (begun p) (record { sized = record { in_extent = g.in_extent; in_features = tt }; started = tt })).sized
