-- What the private writers of a tag leave behind: an entry that was found puts nothing, another goes last; a pair of words is counted in its record.
use Prim.Native.Nat.{ℕ, ◌+◌, ◌*◌, ◌≤◌}
use mathlib.Core.Path.{◌≡◌, sym, ap, ◌∙◌, subst}
use mathlib.Core.List.{List, [], ◌∷◌, ◌++◌}
use native.Mathlib.Omega.{arith}
use lib.ListN.{length, set, get_or}
use Rattle.promise.specs.Laid.{lay}
use Rattle.promise.proofs.Laying.{lay_nothing, lay_next}
use Rattle.runs.specs.Fitting.{laid_in}
use Rattle.runs.proofs.Laws.{laid_fits}
use Rattle.std.specs.Prelude.{Option, Some, None}
use Rattle.table.specs.declared.Value.{Value}
use Rattle.layer.specs.declared.Figures.{Figures}
use Rattle.layer.specs.Held.{mem}
use Rattle.layer.specs.Calls.{index_of, more_of, put_of, key_words, stored_as, words_of, value_words}
use Rattle.layer.proofs.Entries.{length_put}
use Rattle.layer.specs.Steps.{EntryRoom, Puts, PairRoom, TagRoom, laid_tag}

-- ---- `put_key`, `put_value`
pub put_none : (f : Option ℕ) (j : ℕ) (words text : List ℕ) (at start : ℕ) (es ts : List ℕ) → f ≡ Some j → Puts f words text at start es ts es ts
put_none f j words text at start es ts e = rw e (record { entries = sym (lay_nothing at es); texts = sym (lay_nothing start ts) })

module _ (f : Option ℕ) (e : f ≡ None) (text : List ℕ) (at start : ℕ) (es ts es₂ ts₂ : List ℕ) where
  pub put_last : (words : List ℕ) → EntryRoom f (length words) (length text) at start (length es) (length ts) → es₂ ≡ laid_in at words es → ts₂ ≡ laid_in start text ts → Puts f words text at start es ts es₂ ts₂
  put_last words R p q =
      let a : at + length words ≤ length es = rw e at R.in_entries in
      let b : start + length text ≤ length ts = rw e at R.in_texts in
      rw e (record { entries = laid_fits at words es a es₂ p; texts = laid_fits start text ts b ts₂ q })

  pub put_value : (v w : Value) → EntryRoom f 3 (length text) at start (length es) (length ts) → w ≡ stored_as start v (length text) → es₂ ≡ laid_in at (words_of w) es → ts₂ ≡ laid_in start text ts → Puts f (value_words start v text) text at start es ts es₂ ts₂
  put_value v w R g p q = subst (λ (x : Value). Puts f (words_of x) text at start es ts es₂ ts₂) g (put_last (words_of w) R p q)

-- ---- `put_pair`
pub pair_put : (at end k v : ℕ) (fs l : List ℕ) (i a : ℕ) → PairRoom at end k v fs → l ≡ laid_in end (k ∷ v ∷ []) fs → set l i a ≡ set (lay end (k ∷ v ∷ []) fs) i a
pair_put at end k v fs l i a R e = ap (λ (x : List ℕ). set x i a) (laid_fits end (k ∷ v ∷ []) fs R.in_features l e)

-- ---- `put_tag`
module _ (u o : Figures) (kf vf : Option ℕ) (key : List ℕ) (v : Value) (text ks vs ts fs : List ℕ) (R : TagRoom u o kf vf (length key) (length text) (mem ks vs ts fs)) where
  pub pair_room : (ki vi : ℕ) → ki ≡ index_of kf u.keys → vi ≡ index_of vf u.values → PairRoom o.features u.features ki vi fs
  pair_room ki vi a b = rw (a, b) R.pair

  module _ (start : ℕ) (g : start ≡ u.texts + more_of kf (length key)) (ks₂ ts₂ : List ℕ) (P : Puts kf (key_words u.texts key) key (u.keys * 2) u.texts ks ts ks₂ ts₂) where
    pub tag_put_lem : (vs₂ ts₃ fs₂ : List ℕ) → Puts vf (value_words start v text) text (u.values * 3) start vs ts₂ vs₂ ts₃ → (ki vi : ℕ) → ki ≡ index_of kf u.keys → vi ≡ index_of vf u.values → fs₂ ≡ set (lay u.features (ki ∷ vi ∷ []) fs) (o.features + 4) (get_or fs (o.features + 4) 0 + 2) → mem ks₂ vs₂ ts₃ fs₂ ≡ laid_tag u o kf vf (record { key = key; value = v; text = text }) (mem ks vs ts fs)
    tag_put_lem vs₂ ts₃ fs₂ Q ki vi a b f =
        let n : start ≡ u.texts + length (put_of kf key) = omega (arith, length_put kf key) in
        let t : lay start (put_of vf text) (lay u.texts (put_of kf key) ts) ≡ lay u.texts (put_of kf key ++ put_of vf text) ts =
        ap (λ (x : ℕ). lay x (put_of vf text) (lay u.texts (put_of kf key) ts)) n ∙ lay_next u.texts (put_of kf key) (put_of vf text) ts (omega (arith, R.in_texts, length_put kf key)) in
        rw (P.entries, Q.entries, Q.texts, P.texts, f, a, b, t, g)
