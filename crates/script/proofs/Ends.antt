-- An operation that is read ends behind its beginning and within the script, so reading operation after operation comes to an end.
use mathlib.Core.Path.{◌≡◌, refl}
use mathlib.Core.Bool.{Bool, true, false, cond}
use mathlib.Core.List.{List}
use Rattle.std.specs.Prelude.{Option, Some, None}
use Prim.Native.Nat.{ℕ, ◌+◌, ◌-◌, ◌<◌, ◌≤◌}
use native.Mathlib.Omega.{arith}
use borrow.Author.Tests.{ltb-true, leb-true}
use lib.Dec.{leb, ltb, eqb}
use lib.ListN.{length, get_or}
use Rattle.script.specs.declared.Part.{Part}
use Rattle.script.specs.declared.Op.{Op}
use Rattle.script.specs.Script.{words_for, filled, text_at, with_text, creates, opens, sets, string_at, float_at, long_at, bool_at, valued, tags, follows, operation}

-- a place from `at` on, and within the script
pub record Reaches (ns : List ℕ) (at n : ℕ) : Type 0 where
  pub on : at ≤ n
  pub inside : n ≤ length ns

Ends : List ℕ → ℕ → Option (Op × ℕ) → Type 0
Ends ns at (Some (op, n)) = Reaches ns at n
Ends ns at None = Unit {0}

TakenEnds : List ℕ → ℕ → Option (Part × ℕ) → Type 0
TakenEnds ns at (Some (t, n)) = Reaches ns at n
TakenEnds ns at None = Unit {0}

-- by a test
by : {X : Type 0} (P : X → Type 0) (b : Bool) {x y : X} → (b ≡ true → P x) → P y → P (cond b x y)
by P true f g = f refl
by P false f g = g

module _ (ns : List ℕ) where
  text_ends : (at : ℕ) → TakenEnds ns at (text_at ns at)
  unfolding TakenEnds
  text_ends at =
      by (TakenEnds ns at) (ltb at (length ns)) (λ h.
      by (TakenEnds ns at) (leb (words_for (get_or ns at 0)) (length ns - (at + 1))) (λ k.
      by (TakenEnds ns at) (filled (get_or ns at 0) (get_or ns (at + words_for (get_or ns at 0)) 0)) (λ f.
      record { on = omega arith; inside = omega (arith, ltb-true at (length ns) h, leb-true (words_for (get_or ns at 0)) (length ns - (at + 1)) k) })
      tt) tt) tt

  with_ends : (at from : ℕ) (t : Option (Part × ℕ)) (go : Part → ℕ → Option (Op × ℕ)) → TakenEnds ns from t → ((p : Part) (n : ℕ) → Reaches ns from n → Ends ns at (go p n)) → Ends ns at (with_text t go)
  unfolding TakenEnds Ends
  with_ends at from (Some (p, n)) go w f = f p n w
  with_ends at from None go w f = tt

  -- from an earlier place
  earlier : (at from : ℕ) (n : Option (Op × ℕ)) → at ≤ from → Ends ns from n → Ends ns at n
  unfolding Ends
  earlier at from (Some (op, n)) h w = record { on = omega (arith, w.on); inside = w.inside }
  earlier at from None h w = tt

  create_ends : (strict : Bool) (at : ℕ) → Ends ns at (creates strict ns at)
  unfolding creates Ends
  create_ends strict at =
      by (Ends ns at) (ltb at (length ns)) (λ h.
      with_ends at (at + 1) (text_at ns (at + 1)) _ (text_ends (at + 1)) (λ p n w. record { on = omega (arith, w.on); inside = w.inside }))
      tt

  open_ends : (at : ℕ) → Ends ns at (opens ns at)
  unfolding opens Ends
  open_ends at =
      by (Ends ns at) (leb 2 (length ns - at)) (λ h.
      by (Ends ns at) (leb (get_or ns (at + 1) 0) (length ns - (at + 2))) (λ k.
      record { on = omega arith; inside = omega (arith, leb-true 2 (length ns - at) h, leb-true (get_or ns (at + 1) 0) (length ns - (at + 2)) k) })
      tt) tt

  -- two numbers; one number
  pair_ends : (at : ℕ) (op : Op) → Ends ns at (cond (leb 2 (length ns - at)) (Some (op, at + 2)) None)
  unfolding Ends
  pair_ends at op = by (Ends ns at) (leb 2 (length ns - at)) (λ h. record { on = omega arith; inside = omega (arith, leb-true 2 (length ns - at) h) }) tt

  one_ends : (at : ℕ) (op : Op) → at < length ns → Ends ns at (Some (op, at + 1))
  unfolding Ends
  one_ends at op h = record { on = omega arith; inside = omega arith }

  bad_ends : (at : ℕ) → Ends ns at None
  unfolding Ends
  bad_ends at = tt

  string_ends : (key : Part) (at : ℕ) → Ends ns at (string_at key ns at)
  unfolding string_at Ends
  string_ends key at = with_ends at at (text_at ns at) _ (text_ends at) (λ p n w. w)

  float_ends : (key : Part) (at : ℕ) → Ends ns at (float_at key ns at)
  unfolding float_at
  float_ends key at = by (Ends ns at) (ltb at (length ns)) (λ h. one_ends at _ (ltb-true at (length ns) h)) (bad_ends at)

  bool_ends : (key : Part) (at : ℕ) → Ends ns at (bool_at key ns at)
  unfolding bool_at
  bool_ends key at =
      by (Ends ns at) (ltb at (length ns)) (λ h.
      by (Ends ns at) (leb (get_or ns at 0) 1) (λ k. one_ends at _ (ltb-true at (length ns) h)) (bad_ends at))
      (bad_ends at)

  long_ends : (key : Part) (kind at : ℕ) → Ends ns at (long_at key kind ns at)
  unfolding long_at
  long_ends key kind at = pair_ends at _

  value_ends : (key : Part) (at : ℕ) → Ends ns at (valued key ns at)
  unfolding valued
  value_ends key at =
      by (Ends ns at) (ltb at (length ns)) (λ h.
      let k = get_or ns at 0 in
      earlier at (at + 1) _ (omega arith)
      (by (Ends ns (at + 1)) (eqb k 1) (λ e. string_ends key (at + 1))
      (by (Ends ns (at + 1)) (eqb k 2) (λ e. float_ends key (at + 1))
      (by (Ends ns (at + 1)) (eqb k 7) (λ e. bool_ends key (at + 1))
      (by (Ends ns (at + 1)) (ltb k 3) (λ e. bad_ends (at + 1))
      (by (Ends ns (at + 1)) (ltb 6 k) (λ e. bad_ends (at + 1)) (long_ends key k (at + 1))))))))
      (bad_ends at)

  tag_ends : (at : ℕ) → Ends ns at (tags ns at)
  unfolding tags
  tag_ends at = with_ends at at (text_at ns at) _ (text_ends at) (λ p n w. earlier at n _ w.on (value_ends p n))

  id_ends : (at : ℕ) → Ends ns at (sets ns at)
  unfolding sets
  id_ends at = pair_ends at _

  follow_ends : (number at : ℕ) → at ≤ length ns → Ends ns at (follows number ns at)
  unfolding Ends
  follow_ends number at h =
      let here : Reaches ns at at = record { on = omega arith; inside = h } in
      by (Ends ns at) (eqb number 1) (λ e. create_ends false at)
      (by (Ends ns at) (eqb number 2) (λ e. open_ends at)
      (by (Ends ns at) (eqb number 3) (λ e. id_ends at)
      (by (Ends ns at) (eqb number 4) (λ e. tag_ends at)
      (by (Ends ns at) (eqb number 5) (λ e. here)
      (by (Ends ns at) (eqb number 6) (λ e. here)
      (by (Ends ns at) (eqb number 7) (λ e. here)
      (by (Ends ns at) (eqb number 8) (λ e. create_ends true at) tt)))))))

  op_ends : (at : ℕ) → Ends ns (at + 1) (operation ns at)
  unfolding operation
  op_ends at = by (Ends ns (at + 1)) (ltb at (length ns)) (λ h. follow_ends (get_or ns at 0) (at + 1) (omega (arith, ltb-true at (length ns) h))) (bad_ends (at + 1))

  pub operation_ends : (at : ℕ) (op : Op) (n : ℕ) → operation ns at ≡ Some (op, n) → Reaches ns (at + 1) n
  unfolding Ends
  operation_ends at op n e = rw e at (op_ends at)
