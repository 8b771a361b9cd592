-- The loop of `add_features`: what is left of the heads gives the rest, what is known of STATE is still so, and the indexes are right once a feature was accepted.
use Prim.Native.Nat.{ℕ, suc, ◌+◌, ◌-◌, ◌≤◌, ◌<◌, zero-le}
use mathlib.Core.Path.{◌≡◌, refl, sym, ap, subst, ◌∙◌}
use mathlib.Core.Bool.{Bool, true, false, cond, not}
use mathlib.Core.List.{List}
use native.Mathlib.Omega.{arith}
use lib.ListN.{length, get_or, take, drop, drop_of_length-le}
use lib.Seq.{drop-drop}
use lib.Dec.{ltb, eqb}
use borrow.Author.Tests.{not-true, not-false, lt-ltb, eqb-true, eqb-false}
use Rattle.promise.specs.Answers.{Written, Gives, kept}
use Rattle.refusal.specs.declared.Refusal.{Refusal}
use Rattle.refusal.specs.declared.Refusal.TheVariants.{Job, State}
use Rattle.refusal.specs.Said.{Said}
use Rattle.refusal.specs.declared.Refused.{Refused}
use Rattle.layer.specs.declared.Layer.{Layer}
use Rattle.std.specs.Prelude.{Ok, Err}
use Rattle.layer.specs.Answers.{Changed}
use Rattle.layer.specs.Many.{Added}
use Rattle.layer.specs.declared.whole_feature.Head.{Head}
use Rattle.layer.specs.Held.{Memory, Seen, seen, Change}
use Rattle.layer.specs.State.{valid}
use Rattle.layer.specs.Whole.{add_feature}
use Rattle.layer.specs.Lookup.{Index, indexed, Kept}
use Rattle.layer.specs.Many.{Many, said_added, head_at, heads_ok, and_next, done, add_all, with_index, along_index, add_indexed}
use Rattle.layer.specs.WholeSteps.{Long, CurrentIf, Known, Accepted, NotAccepted, LeavesFeature, all_read}
use Rattle.layer.proofs.Heads.{six, six_left, words_in, tags_in_lem, ok_after}
use Rattle.layer.proofs.Indexing.{kept_same, kept_on, settled}

long_on : (m l k : Memory) → Long m l → Long l k → Long m k
long_on m l k A B = record { keys = B.keys ∙ A.keys; values = B.values ∙ A.values; texts = B.texts ∙ A.texts; features = B.features ∙ A.features }

same_room : (s t : Layer) (m l : Memory) → Long m l → (seen t l).room ≡ (seen s m).room
same_room s t m l A = rw (A.keys, A.values, A.texts, A.features)

-- the indexes after n features
abbrev IndexSo : ℕ → Seen → Index → Index → Type 0
IndexSo n v x y = CurrentIf (ltb 0 n) v y × (n ≡ 0 → y ≡ x)

pub record Going (heads words ws bytes : List ℕ) (d : Bool) (s : Layer) (m : Memory) (x : Index) (t : Layer) (l : Memory) (y : Index) (i w g n : ℕ) : Type 0 where
  pub at : i ≤ length heads
  pub words_at : w ≤ length words
  pub tags_at : g ≤ length ws
  pub few : n ≤ i
  pub ok : heads_ok (length words - w) (length ws - g) (drop i heads) ≡ true
  pub state : d ≡ valid (seen t l)
  pub long : Long m l
  pub kept : Kept (seen s m).room x y
  pub index : CurrentIf (ltb 0 n) (seen t l) y × (n ≡ 0 → y ≡ x)
  pub rest : add_all 0 heads words ws bytes s m ≡ add_all n (drop i heads) (drop w words) (drop g ws) bytes t l

pub begin : (heads words ws bytes : List ℕ) (d : Bool) (s : Layer) (m : Memory) (x : Index) → heads_ok (length words) (length ws) heads ≡ true → d ≡ valid (seen s m) → Going heads words ws bytes d s m x s m x 0 0 0 0
begin heads words ws bytes d s m x h e =
    record {
      at = zero-le;
      words_at = zero-le;
      tags_at = zero-le;
      few = zero-le;
      ok = let a : length words - 0 ≡ length words = omega arith in let b : length ws - 0 ≡ length ws = omega arith in rw (a, b) h;
      state = e;
      long = record { keys = refl; values = refl; texts = refl; features = refl };
      kept = kept_same (seen s m).room x;
      index = (tt, λ z. refl);
      rest = refl;
    }

-- an answer with its indexes
module _ (heads words ws bytes : List ℕ) (s : Layer) (m : Memory) (x : Index) (t : Layer) (n : ℕ) (l : Memory) (y : Index) (K : Kept (seen t l).room x y) (I : CurrentIf (ltb 0 n) (seen t l) y × (n ≡ 0 → y ≡ x)) where
  index_by : (b : Bool) → eqb n 0 ≡ b → y ≡ cond b x (indexed (seen t l) x)
  index_by true q = I.1 (eqb-true n 0 q)
  index_by false q =
      let p : ltb 0 n ≡ true = lt-ltb 0 n (let z = eqb-false n 0 q in omega (arith, by z)) in
      settled (seen t l) x y K (subst (λ (b : Bool). CurrentIf b (seen t l) y) p I.0)
    where
      by : (n ≡ 0 → ⊥) → 0 < n
      by z = omega arith

  pub answered : (a : Said Many) → a.values ≡ record { layer = t; count = n } → add_all 0 heads words ws bytes s m ≡ kept a l → Gives (along_index (add_all 0 heads words ws bytes s m) x) a (with_index l y)
  answered a v e =
      rw (e, v) (record { answer = refl; memory = ap (with_index l) (index_by (eqb n 0) refl) })

module _ (heads words ws bytes : List ℕ) (d : Bool) (s : Layer) (m : Memory) (x : Index) (t : Layer) (l : Memory) (y : Index) (i w g n : ℕ) (F : Going heads words ws bytes d s m x t l y i w g n) where
  kept_here : Kept (seen t l).room x y
  kept_here = rw (same_room s t m l F.long) F.kept

  -- no head left
  module _ (h : length heads ≤ i) where
    at_end : add_all 0 heads words ws bytes s m ≡ done n t l
    at_end = F.rest ∙ rw (drop_of_length-le heads {i = i} h)

    pub ends : (r : Added) → r ≡ all_read d t n → Gives (along_index (add_all 0 heads words ws bytes s m) x) (said_added r) (with_index l y)
    ends r e = rw e (by d refl)
      where
        by : (b : Bool) → d ≡ b → Gives (along_index (add_all 0 heads words ws bytes s m) x) (said_added (all_read b t n)) (with_index l y)
        by true q = answered heads words ws bytes s m x t n l y kept_here F.index (said_added (Ok (t, n))) refl (at_end ∙ rw (← F.state, q))
        by false q = answered heads words ws bytes s m x t n l y kept_here F.index (said_added (Err (record { refusal = State; kept = (t, n) }))) refl (at_end ∙ rw (← F.state, q))

  module _ (h : i < length heads) where
    pub head_there : i + 6 ≤ length heads
    head_there = six_left (length words - w) (length ws - g) heads i F.ok h

    pub words_there : (a : ℕ) → a ≡ get_or heads (i + 4) 0 → w + a ≤ length words
    words_there a e = let k = words_in (length words - w) (length ws - g) heads i F.ok h in omega (arith, F.words_at)

    pub tags_there : (b : ℕ) → b ≡ get_or heads (i + 5) 0 → g + b ≤ length ws
    tags_there b e = let k = tags_in_lem (length words - w) (length ws - g) heads i F.ok h in omega (arith, F.tags_at)

    pub known : (b : Bool) → b ≡ ltb 0 n → Known t d b l y
    known b e = record { state = F.state; current = rw e F.index.0 }

    -- the feature of the six words
    module _ (f : Head) (a b : ℕ) (pf : f ≡ head_at heads i) (pa : a ≡ get_or heads (i + 4) 0) (pb : b ≡ get_or heads (i + 5) 0) where
      abbrev the_feature : Change
      the_feature = add_feature f (take (w + a - w) (drop w words)) (take (g + b - g) (drop g ws)) bytes (seen t l)

      abbrev onward : Layer → Memory → Written (Said Many) Memory
      onward u k = add_all (suc n) (drop (i + 6) heads) (drop (w + a) words) (drop (g + b) ws) bytes u k

      as_rest : add_all 0 heads words ws bytes s m ≡ and_next the_feature t l n onward
      as_rest =
          let u : w + a - w ≡ get_or heads (i + 4) 0 = omega (arith, pa) in
          let v : g + b - g ≡ get_or heads (i + 5) 0 = omega (arith, pb) in
          let p : drop (get_or heads (i + 4) 0) (drop w words) ≡ drop (w + a) words = drop-drop (get_or heads (i + 4) 0) w words ∙ ap (λ (c : ℕ). drop (w + c) words) (sym pa) in
          let q : drop (get_or heads (i + 5) 0) (drop g ws) ≡ drop (g + b) ws = drop-drop (get_or heads (i + 5) 0) g ws ∙ ap (λ (c : ℕ). drop (g + c) ws) (sym pb) in
          F.rest ∙ rw (six heads i head_there, p, q, u, v, pf)

      module _ (k : Memory) (z : Index) where
        pub stops : (r : Refusal) (q : Layer) → NotAccepted the_feature r t q l k y z → Gives (along_index (add_all 0 heads words ws bytes s m) x) (said_added (Err (record { refusal = r; kept = (t, n) }))) (with_index k z)
        stops r q A =
            rw (A.memory, A.index)
            (answered heads words ws bytes s m x t n l y kept_here F.index (said_added (Err (record { refusal = r; kept = (t, n) }))) refl (as_rest ∙ ap (λ (c : Change). and_next c t l n onward) A.is))

        module _ (u : Layer) (A : Accepted the_feature t u l k y z) where
          pub turn : Going heads words ws bytes d s m x u k z (i + 6) (w + a) (g + b) (n + 1)
          turn =
              let j : suc n ≡ n + 1 = omega arith in
              let p : length words - w - get_or heads (i + 4) 0 ≡ length words - (w + a) = omega (arith, pa) in
              let q : length ws - g - get_or heads (i + 5) 0 ≡ length ws - (g + b) = omega (arith, pb) in
              let o : ltb 0 (n + 1) ≡ true = lt-ltb 0 (n + 1) (omega arith) in
              record {
                at = head_there;
                words_at = words_there a pa;
                tags_at = tags_there b pb;
                few = omega (arith, F.few);
                ok = rw (p, q) at (ok_after (length words - w) (length ws - g) heads i F.ok h);
                state = F.state ∙ A.stood ∙ sym A.stands;
                long = long_on m l k F.long A.long;
                kept = kept_on (seen s m).room x y z F.kept (rw (same_room s t m l F.long) at A.kept);
                index = (rw o A.current, λ e. absurd (omega arith));
                rest = as_rest ∙ ap (λ (c : Change). and_next c t l n onward) A.is ∙ rw (← A.memory, j);
              }

-- what a call answered, once it is told which answer that was
module _ (c : Change) (s : Layer) (r : Changed) (m n : Memory) (x y : Index) (A : LeavesFeature c s r m n x y) where
  pub as_done : (u : Layer) → r ≡ Ok u → Accepted c s u m n x y
  as_done u e = subst (λ (q : Changed). LeavesFeature c s q m n x y) e A

  pub as_refused : (q : Refused Layer) → r ≡ Err q → NotAccepted c q.refusal s q.kept m n x y
  as_refused q e = subst (λ (k : Changed). LeavesFeature c s k m n x y) e A

-- ---- `add_features`
module _ (heads words ws bytes : List ℕ) (s : Layer) (m : Memory) (x : Index) (a : Bool) (e : a ≡ heads_ok (length words) (length ws) heads) where
  pub no_heads : not a ≡ true → Gives (add_indexed heads words ws bytes s m x) (said_added (Err (record { refusal = Job; kept = (s, 0) }))) (with_index m x)
  no_heads h = rw (← e, not-true a h) (record { answer = refl; memory = refl })

  pub heads_ok_lem : not a ≡ false → heads_ok (length words) (length ws) heads ≡ true
  heads_ok_lem h = sym e ∙ not-false a h

  pub all_added : not a ≡ false → (r : Said Many) (n : Memory) (y : Index) → Gives (along_index (add_all 0 heads words ws bytes s m) x) r (with_index n y) → Gives (add_indexed heads words ws bytes s m x) r (with_index n y)
  all_added h r n y k = rw (heads_ok_lem h) k
