-- Parts at the front of a list and runs laid into it.
--     front_take front_run       the used part is what stands there; a run put behind it is a run laid there
--     lay_append front_lay       a run laid within the used part
--     front_set                  one word stored within the part
--     held_onto cut_onto         the memory of what is held, and of what was held at earlier figures, is the memory
use Prim.Native.Nat.{ℕ, ◌+◌, ◌*◌, ◌≤◌, ◌<◌}
use mathlib.Core.Path.{◌≡◌, sym, ap, ◌∙◌}
use mathlib.Core.List.{List, ◌++◌, append_assoc}
use native.Mathlib.Omega.{arith}
use lib.ListN.{length, take, drop, set, length-append, length-set, take-append-drop}
use lib.Seq.{length-take-le, take-append-le, drop-append-le, take-take, set-append_left}
use Rattle.promise.specs.Laid.{lay}
use Rattle.promise.proofs.Laying.{length_lay}
use Rattle.layer.specs.declared.Figures.{Figures}
use Rattle.layer.specs.Held.{Memory, mem, held_by, front, onto}
use Rattle.layer.proofs.Fitting.{Within, Fit}

module _ (n : ℕ) (l : List ℕ) (h : n ≤ length l) where
  pub front_take : front (take n l) l ≡ l
  front_take = ap (λ (k : ℕ). take n l ++ drop k l) (length-take-le n l h) ∙ take-append-drop n l

  pub front_run : (run : List ℕ) → front (take n l ++ run) l ≡ lay n run l
  front_run run =
      let e : length (take n l ++ run) ≡ n + length run = length-append (take n l) run ∙ ap (λ (k : ℕ). k + length run) (length-take-le n l h) in
      ap (λ (k : ℕ). take n l ++ run ++ drop k l) e

pub lay_append : (i : ℕ) (run p q : List ℕ) → i + length run ≤ length p → lay i run (p ++ q) ≡ lay i run p ++ q
lay_append i run p q h =
    let a : take i (p ++ q) ≡ take i p = take-append-le i p q (omega arith) in
    let b : drop (i + length run) (p ++ q) ≡ drop (i + length run) p ++ q = drop-append-le (i + length run) p q h in
    rw (a, b) (sym (append_assoc (take i p ++ run) (drop (i + length run) p) q))

pub front_lay : (n i : ℕ) (run l : List ℕ) → n ≤ length l → i + length run ≤ n → front (lay i run (take n l)) l ≡ lay i run l
front_lay n i run l h k =
    let e : length (take n l) ≡ n = length-take-le n l h in
    let f : length (lay i run (take n l)) ≡ n = length_lay i run (take n l) (omega arith) ∙ e in
    ap (λ (x : ℕ). lay i run (take n l) ++ drop x l) f
    ∙ sym (lay_append i run (take n l) (drop n l) (omega arith))
    ∙ ap (lay i run) (take-append-drop n l)

pub front_set : (p l : List ℕ) (i a : ℕ) → i < length p → front (set p i a) l ≡ set (front p l) i a
front_set p l i a h = ap (λ (x : ℕ). set p i a ++ drop x l) (length-set p i a) ∙ sym (set-append_left p (drop (length p) l) i a h)

module _ (u : Figures) (ks vs ts fs : List ℕ) (F : Fit u (length ks) (length vs) (length ts) (length fs)) where
  pub held_onto : onto (held_by u (mem ks vs ts fs)) (mem ks vs ts fs) ≡ mem ks vs ts fs
  held_onto =
      rw (front_take (u.keys * 2) ks F.in_keys, front_take (u.values * 3) vs F.in_values, front_take u.texts ts F.in_texts, front_take u.features fs F.in_features)

  pub held_cut : (o : Figures) → Within o u → held_by o (held_by u (mem ks vs ts fs)) ≡ held_by o (mem ks vs ts fs)
  held_cut o w =
      rw (take-take (o.keys * 2) (u.keys * 2) ks (omega (arith, w.keys)), take-take (o.values * 3) (u.values * 3) vs (omega (arith, w.values)), take-take o.texts u.texts ts w.texts, take-take o.features u.features fs w.features)

  pub fit_cut : (o : Figures) → Within o u → Fit o (length ks) (length vs) (length ts) (length fs)
  fit_cut o w =
      record {
        in_keys = omega (arith, w.keys, F.in_keys);
        few_keys = omega (arith, w.keys, F.few_keys);
        in_values = omega (arith, w.values, F.in_values);
        few_values = omega (arith, w.values, F.few_values);
        in_texts = omega (arith, w.texts, F.in_texts);
        few_texts = omega (arith, w.texts, F.few_texts);
        in_features = omega (arith, w.features, F.in_features);
        few_features = omega (arith, w.features, F.few_features);
      }

pub cut_onto : (o u : Figures) (ks vs ts fs : List ℕ) → Fit u (length ks) (length vs) (length ts) (length fs) → Within o u → onto (held_by o (held_by u (mem ks vs ts fs))) (mem ks vs ts fs) ≡ mem ks vs ts fs
cut_onto o u ks vs ts fs F w = ap (λ (h : Memory). onto h (mem ks vs ts fs)) (held_cut u ks vs ts fs F o w) ∙ held_onto o ks vs ts fs (fit_cut u ks vs ts fs F o w)
