-- What becomes of the records where the list grows: a record put behind records, and the last record with two words more.
--     follow_one        records, and behind them one record, follow each other
--     one_whole         the last record of a list is what stands from its start on, and is one record
--     last_six          its six words and its tag words are there
--     one_new           six words and their geometry are one record
--     one_tagged        the last record is one still where a tag's two words are behind it and counted in it
--     one_marked        and where its id is set
use Prim.Native.Nat.{ℕ, zero, suc, ◌+◌, ◌-◌, ◌≤◌}
use mathlib.Core.Path.{◌≡◌, refl, sym, ap, ◌∙◌}
use mathlib.Core.Bool.{Bool, true, false, cond, ◌&&◌}
use mathlib.Core.List.{List, [], ◌∷◌, ◌++◌}
use native.Mathlib.Omega.{arith}
use native.Mathlib.Nat.{le_refl}
use lib.ListN.{length, get_or, drop, set, length-drop, length-append}
use lib.Seq.{drop-length, get_or-drop}
use lib.Dec.{leb, eqb}
use borrow.Author.Tests.{le-leb, eq-eqb, ne_eqb, eqb-true, eqb-false}
use Rattle.promise.specs.Laid.{lay}
use Rattle.std.specs.Prelude.{Option, Some, None}
use Rattle.words.specs.Geometries.{is_kind}
use Rattle.records.specs.Records.{head_ok, records_in, is_found, follow, record_length, end_from, ends_at, one_record}
use Rattle.records.proofs.Records.{skip}

never : {X : Type 0} → false ≡ true → X
never p = absurd (let z : ◌≡◌ {A = ℕ} 0 1 = cc in omega arith)

-- one record, and nothing behind it
abbrev pub whole : List ℕ → Bool
whole l = ends_at (length l) (record_length l)

module _ (a b c d tags geometry : ℕ) (l : List ℕ) where
  -- what one record says of its six words
  pub whole_head : whole (a ∷ b ∷ c ∷ d ∷ tags ∷ geometry ∷ l) ≡ true → (head_ok a b ≡ true) × (tags + geometry ≡ length l)
  whole_head e = by (head_ok a b) (leb (tags + geometry) (length l)) refl refl e
    where
      by : (x y : Bool) → head_ok a b ≡ x → leb (tags + geometry) (length l) ≡ y → ends_at (length (a ∷ b ∷ c ∷ d ∷ tags ∷ geometry ∷ l)) (cond x (cond y (Some (6 + tags + geometry)) None) None) ≡ true → (head_ok a b ≡ true) × (tags + geometry ≡ length l)
      by false y p q e = never e
      by true false p q e = never e
      by true true p q e = (p, omega (arith, eqb-true (6 + tags + geometry) (length (a ∷ b ∷ c ∷ d ∷ tags ∷ geometry ∷ l)) e))

  pub whole_of : head_ok a b ≡ true → tags + geometry ≡ length l → whole (a ∷ b ∷ c ∷ d ∷ tags ∷ geometry ∷ l) ≡ true
  whole_of h e =
      rw (h, le-leb (tags + geometry) (length l) (omega arith))
      (eq-eqb (6 + tags + geometry) (length (a ∷ b ∷ c ∷ d ∷ tags ∷ geometry ∷ l)) (omega arith))

-- a list that is one record has its six words
pub cases : (P : List ℕ → Type 0) (l : List ℕ) → whole l ≡ true → ((a b c d tags geometry : ℕ) (r : List ℕ) → l ≡ a ∷ b ∷ c ∷ d ∷ tags ∷ geometry ∷ r → head_ok a b ≡ true → tags + geometry ≡ length r → P l) → P l
cases P [] h f = never h
cases P (a ∷ []) h f = never h
cases P (a ∷ b ∷ []) h f = never h
cases P (a ∷ b ∷ c ∷ []) h f = never h
cases P (a ∷ b ∷ c ∷ d ∷ []) h f = never h
cases P (a ∷ b ∷ c ∷ d ∷ e ∷ []) h f = never h
cases P (a ∷ b ∷ c ∷ d ∷ e ∷ g ∷ r) h f = let w = whole_head a b c d e g r h in f a b c d e g r refl w.0 w.1

-- ---- the last record of a list
last_by : (i n : ℕ) (f : Option ℕ) (k : ℕ) → n ≡ i + k → ends_at n (end_from i f) ≡ ends_at k f
last_by i n None k e = refl
last_by i n (Some j) k e = by (eqb j k) refl
  where
    by : (t : Bool) → eqb j k ≡ t → eqb (i + j) n ≡ t
    by true h = eq-eqb (i + j) n (omega (arith, eqb-true j k h))
    by false h = ne_eqb (i + j) n (λ q. eqb-false j k h (omega arith))

pub one_whole : (ws : List ℕ) (i : ℕ) → i ≤ length ws → one_record ws i ≡ whole (drop i ws)
one_whole ws i h =
    last_by i (length ws) (record_length (drop i ws)) (length ws - i) (omega arith)
    ∙ ap (λ (n : ℕ). ends_at n (record_length (drop i ws))) (sym (length-drop i ws))

-- its six words are there, and its tag words
whole_six : (l : List ℕ) → whole l ≡ true → 6 + get_or l 4 0 ≤ length l
whole_six l h = cases (λ (x : List ℕ). 6 + get_or x 4 0 ≤ length x) l h (λ a b c d e g r p k q. rw p (by e g r q))
  where
    by : (e g : ℕ) (r : List ℕ) → e + g ≡ length r → 6 + e ≤ suc (suc (suc (suc (suc (suc (length r))))))
    by e g r q = omega arith

pub last_six : (ws : List ℕ) (i : ℕ) → i ≤ length ws → one_record ws i ≡ true → i + 6 + get_or ws (i + 4) 0 ≤ length ws
last_six ws i h e =
    let w = whole_six (drop i ws) (sym (one_whole ws i h) ∙ e) in
    omega (arith, w, length-drop i ws, get_or-drop i ws 4 0)

-- ---- records, and behind them one record
one_found : (n : ℕ) (r : List ℕ) → whole r ≡ true → is_found (records_in n 0 r) ≡ true
one_found n r h = cases (λ (l : List ℕ). is_found (records_in n 0 l) ≡ true) r h (λ a b c d e g l p k q. rw p (by a b c d e g l k q))
  where
    by : (a b c d e g : ℕ) (l : List ℕ) → head_ok a b ≡ true → e + g ≡ length l → is_found (records_in n 0 (a ∷ b ∷ c ∷ d ∷ e ∷ g ∷ l)) ≡ true
    by a b c d e g l k q = rw (k, skip (suc n) (e + g) l, q, le-leb (length l) (length l) (le_refl (length l)), drop-length l)

found_more : (n left : ℕ) (l r : List ℕ) → is_found (records_in n left l) ≡ true → whole r ≡ true → is_found (records_in n left (l ++ r)) ≡ true
found_more n zero [] r h w = one_found n r w
found_more n zero (a ∷ []) r h w = never h
found_more n zero (a ∷ b ∷ []) r h w = never h
found_more n zero (a ∷ b ∷ c ∷ []) r h w = never h
found_more n zero (a ∷ b ∷ c ∷ d ∷ []) r h w = never h
found_more n zero (a ∷ b ∷ c ∷ d ∷ e ∷ []) r h w = never h
found_more n zero (a ∷ b ∷ c ∷ d ∷ e ∷ g ∷ l) r h w = by (head_ok a b) h (λ k. found_more (suc n) (e + g) l r k w)
  where
    by : (x : Bool) → is_found (cond x (records_in (suc n) (e + g) l) None) ≡ true → (is_found (records_in (suc n) (e + g) l) ≡ true → is_found (records_in (suc n) (e + g) (l ++ r)) ≡ true) → is_found (cond x (records_in (suc n) (e + g) (l ++ r)) None) ≡ true
    by true k f = f k
    by false k f = never k
found_more n (suc left) [] r h w = never h
found_more n (suc left) (x ∷ l) r h w = found_more n left l r h w

pub follow_one : (l r : List ℕ) → follow l ≡ true → whole r ≡ true → follow (l ++ r) ≡ true
follow_one l r h w = found_more 0 0 l r h w

-- ---- one record
pub one_new : (kind mark low high : ℕ) (words : List ℕ) → head_ok kind mark ≡ true → whole (kind ∷ mark ∷ low ∷ high ∷ 0 ∷ length words ∷ words) ≡ true
one_new kind mark low high words h = whole_of kind mark low high 0 (length words) words h (omega arith)

pub one_tagged : (l : List ℕ) (k v : ℕ) → whole l ≡ true → whole (set (l ++ (k ∷ v ∷ [])) 4 (get_or l 4 0 + 2)) ≡ true
one_tagged l k v h = cases (λ (x : List ℕ). whole (set (x ++ (k ∷ v ∷ [])) 4 (get_or x 4 0 + 2)) ≡ true) l h (λ a b c d e g r p m q. rw p (by a b c d e g r m q))
  where
    by : (a b c d e g : ℕ) (r : List ℕ) → head_ok a b ≡ true → e + g ≡ length r → whole (a ∷ b ∷ c ∷ d ∷ (e + 2) ∷ g ∷ (r ++ (k ∷ v ∷ []))) ≡ true
    by a b c d e g r m q = whole_of a b c d (e + 2) g (r ++ (k ∷ v ∷ [])) m (rw length-append (omega arith))

pub one_marked : (l : List ℕ) (low high : ℕ) → whole l ≡ true → whole (lay 1 (1 ∷ low ∷ high ∷ []) l) ≡ true
one_marked l low high h = cases (λ (x : List ℕ). whole (lay 1 (1 ∷ low ∷ high ∷ []) x) ≡ true) l h (λ a b c d e g r p m q. rw p (by a b c d e g r m q))
  where
    kind_of : (x y : Bool) → (x && y) ≡ true → x ≡ true
    kind_of true y p = refl
    kind_of false y p = never p

    by : (a b c d e g : ℕ) (r : List ℕ) → head_ok a b ≡ true → e + g ≡ length r → whole (a ∷ 1 ∷ low ∷ high ∷ e ∷ g ∷ r) ≡ true
    by a b c d e g r m q = whole_of a 1 low high e g r (rw (kind_of (is_kind a) (leb b 1) m)) q
