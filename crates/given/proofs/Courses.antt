-- What every accepted call keeps is kept by any run of calls, refused ones among them, and by calls with many features.
use Prim.Native.Nat.{ℕ, zero, suc, ◌+◌}
use mathlib.Core.Path.{◌≡◌}
use mathlib.Core.Bool.{Bool, true, false, cond}
use mathlib.Core.List.{List, [], ◌∷◌}
use native.Mathlib.Omega.{arith}
use lib.ListN.{length, take, drop}
use lib.Dec.{eqb}
use borrow.Author.Tests.{ne_eqb}
use Rattle.promise.specs.Answers.{Written, kept}
use Rattle.refusal.specs.declared.Refusal.TheVariants.{Job, State}
use Rattle.refusal.specs.Refusals.{number_of}
use Rattle.refusal.specs.Said.{Said, accepted, refused}
use Rattle.refusal.proofs.Laws.{not_zero}
use Rattle.layer.specs.declared.Layer.{Layer}
use Rattle.layer.specs.Held.{Memory, seen, Change, refuses, holds, written, onto}
use Rattle.layer.specs.State.{valid}
use Rattle.layer.specs.Whole.{add_feature}
use Rattle.layer.specs.Many.{Many, head_of, heads_ok, and_next, done, add_all}
use Rattle.given.specs.Given.{Feature, Drawing, added}
use Rattle.given.specs.Asked.{Made, whole, asked, gives, feature_given, features_given, added_all, FineMade, Words}
use Rattle.given.specs.Runs.{Page, turned, Step, one, many, stepped, stepped_all, FineStep, AllFine}

pub words_take : (n : ℕ) (ws : List ℕ) → Words ws → Words (take n ws)
words_take zero ws g = tt
words_take (suc n) [] g = tt
words_take (suc n) (w ∷ ws) g = (g.0, words_take n ws g.1)

pub words_drop : (n : ℕ) (ws : List ℕ) → Words ws → Words (drop n ws)
words_drop zero ws g = g
words_drop (suc n) [] g = tt
words_drop (suc n) (w ∷ ws) g = words_drop n ws g.1

-- what is said of a layer, its lists and what was given to it
module _ (P : Layer → Memory → Drawing → Type 0) where
  abbrev PageKeeps : Page → Type 0
  PageKeeps p = P p.layer p.memory p.drawing

  -- after a change it is true of what the change leaves
  abbrev pub Keeps : Layer → Memory → Drawing → Change → Type 0
  Keeps s m e (refuses r) = Unit {0}
  Keeps s m e (holds t h) = P t (onto h m) e

  module _ (keeps : (c : Made) → FineMade c → (s : Layer) (m : Memory) (d : Drawing) → P s m d → Keeps s m (gives c d) (asked c (seen s m))) where
    by_change : (s : Layer) (m : Memory) (d e : Drawing) → P s m d → (x : Change) → Keeps s m e x → P (written x s m).answer.values (written x s m).memory (cond (eqb (written x s m).answer.number 0) e d)
    by_change s m d e S (refuses r) K = rw (ne_eqb (number_of r) 0 (not_zero r)) S
    by_change s m d e S (holds t h) K = K

    turned_keeps : (c : Made) → FineMade c → (p : Page) → PageKeeps p → PageKeeps (turned c p)
    turned_keeps c g p S = by_change p.layer p.memory p.drawing (gives c p.drawing) S (asked c (seen p.layer p.memory)) (keeps c g p.layer p.memory p.drawing S)

    -- many features: k of them were accepted behind n, one after the other
    record ManyKeep (n : ℕ) (fs : List Feature) (d : Drawing) (r : Written (Said Many) Memory) : Type 0 where
      pub more : ℕ
      pub counted : r.answer.values.count ≡ n + more
      pub kept_by : P r.answer.values.layer r.memory (added_all (take more fs) d)

    none_more : (n : ℕ) (fs : List Feature) (s : Layer) (m : Memory) (d : Drawing) → P s m d → ManyKeep n fs d (done n s m)
    none_more n fs s m d S = by (valid (seen s m))
      where
        by : (b : Bool) → ManyKeep n fs d (cond b (kept (accepted (record { layer = s; count = n })) m) (kept (refused State (record { layer = s; count = n })) m))
        by true = record { more = 0; counted = omega arith; kept_by = S }
        by false = record { more = 0; counted = omega arith; kept_by = S }

    one_more : (n : ℕ) (f : Feature) (fs : List Feature) (s : Layer) (m : Memory) (d : Drawing) → P s m d → (x : Change) → Keeps s m (added f d) x → (go : Layer → Memory → Written (Said Many) Memory) → ((u : Layer) (l : Memory) → P u l (added f d) → ManyKeep (suc n) fs (added f d) (go u l)) → ManyKeep n (f ∷ fs) d (and_next x s m n go)
    one_more n f fs s m d S (refuses r) K go k = record { more = 0; counted = omega arith; kept_by = S }
    one_more n f fs s m d S (holds t h) K go k = let N = k t (onto h m) K in record { more = suc N.more; counted = omega (arith, N.counted); kept_by = N.kept_by }

    many_from : (hs : List ℕ) (n : ℕ) (words ws bytes : List ℕ) → Words ws → (s : Layer) (m : Memory) (d : Drawing) → P s m d → ManyKeep n (features_given hs words ws bytes) d (add_all n hs words ws bytes s m)
    many_from [] n words ws bytes g s m d S = none_more n [] s m d S
    many_from (a ∷ []) n words ws bytes g s m d S = none_more n [] s m d S
    many_from (a ∷ b ∷ []) n words ws bytes g s m d S = none_more n [] s m d S
    many_from (a ∷ b ∷ c ∷ []) n words ws bytes g s m d S = none_more n [] s m d S
    many_from (a ∷ b ∷ c ∷ e ∷ []) n words ws bytes g s m d S = none_more n [] s m d S
    many_from (a ∷ b ∷ c ∷ e ∷ x ∷ []) n words ws bytes g s m d S = none_more n [] s m d S
    many_from (kind ∷ mark ∷ low ∷ high ∷ w ∷ t ∷ hs) n words ws bytes g s m d S =
        let f = head_of kind mark low high in
        one_more n (feature_given f (take w words) (take t ws) bytes) (features_given hs (drop w words) (drop t ws) bytes) s m d S
        (add_feature f (take w words) (take t ws) bytes (seen s m))
        (keeps (whole f (take w words) (take t ws) bytes) (words_take t ws g) s m d S)
        (λ u l. add_all (suc n) hs (drop w words) (drop t ws) bytes u l)
        (λ u l T. many_from hs (suc n) (drop w words) (drop t ws) bytes (words_drop t ws g) u l (added (feature_given f (take w words) (take t ws) bytes) d) T)

    many_keeps : (heads words ws bytes : List ℕ) → Words ws → (p : Page) → PageKeeps p → PageKeeps (stepped (many heads words ws bytes) p)
    many_keeps heads words ws bytes g p S = by (heads_ok (length words) (length ws) heads)
      where
        R : Written (Said Many) Memory → Type 0
        R r = P r.answer.values.layer r.memory (added_all (take r.answer.values.count (features_given heads words ws bytes)) p.drawing)

        by : (b : Bool) → R (cond b (add_all 0 heads words ws bytes p.layer p.memory) (kept (refused Job (record { layer = p.layer; count = 0 })) p.memory))
        by true =
            let N = many_from heads 0 words ws bytes g p.layer p.memory p.drawing S in
            let e : (add_all 0 heads words ws bytes p.layer p.memory).answer.values.count ≡ N.more = omega (arith, N.counted) in
            rw e N.kept_by
        by false = S

    step_keeps : (c : Step) → FineStep c → (p : Page) → PageKeeps p → PageKeeps (stepped c p)
    step_keeps (one c) g p S = turned_keeps c g p S
    step_keeps (many heads words ws bytes) g p S = many_keeps heads words ws bytes g p S

    pub run_keeps : (cs : List Step) → AllFine cs → (p : Page) → PageKeeps p → PageKeeps (stepped_all cs p)
    run_keeps [] g p S = S
    run_keeps (c ∷ cs) g p S = run_keeps cs g.1 (stepped c p) (step_keeps c g.0 p S)
