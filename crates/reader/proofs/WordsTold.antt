-- The numbers of a feature laid in a lent list: a law for each way of the code, and that the call's definition is what is told of the step.
use Prim.Native.Nat.{ℕ, ◌≤◌, ◌<◌}
use mathlib.Core.Path.{◌≡◌, refl, sym, ap, ◌∙◌}
use mathlib.Core.Logic.{◌⊎◌, inl, inr}
use mathlib.Core.Bool.{Bool, true, false, cond}
use mathlib.Core.List.{List, [], ◌∷◌, ◌++◌}
use native.Mathlib.Omega.{arith}
use borrow.Author.Tests.{le-leb, lt-leb}
use lib.Dec.{leb}
use lib.ListN.{length, take}
use Rattle.std.specs.Prelude.{Some, None, Ok, Err}
use Rattle.promise.specs.Answers.{Written, Gives, kept}
use Rattle.promise.specs.Laid.{lay}
use Rattle.refusal.specs.declared.Refusal.TheVariants.{State, Room}
use Rattle.refusal.specs.declared.Fault.{Fault}
use Rattle.refusal.specs.Said.{plain}
use Rattle.wire.specs.declared.field.Field.{Field}
use Rattle.wire.specs.Schema.{key_of}
use Rattle.messages.specs.declared.key.Kind.TheVariants.{Feature as feature}
use Rattle.messages.specs.declared.field.FieldAt.{FieldAt}
use Rattle.messages.specs.Fields.{fields_from}
use Rattle.messages.specs.Tiles.{Verdict, Answers, nested}
use Rattle.messages.specs.Meaning.{or_nothing, single_key, words_in, words_of}
use Rattle.reader.specs.declared.features.FeatureHead.{FeatureHead}
use Rattle.reader.specs.declared.into.Which.{Which}
use Rattle.reader.specs.declared.into.Which.TheVariants.{Tags, Geometry}
use Rattle.reader.specs.declared.cause.Cause.{Cause}
use Rattle.reader.specs.declared.cause.Cause.TheVariants.{Outside, NoRoom, Broken}
use Rattle.reader.specs.Packed.{PutsAt}
use Rattle.reader.specs.Answers.{Laid, blamed, fault_of, within, laid_out, words_into}
use Rattle.reader.specs.FeatureSteps.{FeatureRead, head_from, feature_read}
use Rattle.reader.specs.WordSteps.{WordsStep, field_of, packed_of, single_of, count_of, words_at, AllFit, step_laid, words_step, told_into}
use Rattle.reader.specs.Steps.{told}
use Rattle.reader.proofs.Telling.{says, refuses}

-- ---- which numbers
words_same : (field : Field) (src : List ℕ) (fs : List FieldAt) → words_at (key_of field) (single_key field) src fs ≡ words_of field src fs
words_same field src [] = refl
words_same field src (f ∷ fs) = ap (λ (l : List ℕ). words_in field src f ++ l) (words_same field src fs)

words_of_lem : (which : Which) (src : List ℕ) (fs : List FieldAt) → words_at (packed_of which) (single_of which) src fs ≡ words_of (field_of which) src fs
words_of_lem Tags src fs = words_same (field_of Tags) src fs
words_of_lem Geometry src fs = words_same (field_of Geometry) src fs

a_list_of : (which : Which) → (packed_of which ≡ 18) ⊎ (packed_of which ≡ 34)
a_list_of Tags = inl refl
a_list_of Geometry = inr refl

count_is : (which : Which) (start end : ℕ) (src : List ℕ) (fs : List FieldAt) → count_of which (head_from start end src fs) ≡ length (words_of (field_of which) src fs)
count_is Tags start end src fs = refl
count_is Geometry start end src fs = refl

-- ---- the ways of the code
module _ (which : Which) (start end : ℕ) (src out : List ℕ) where
  pub words_before : end < start → Gives (words_step (field_of which) start end src out) (Err Outside) out
  unfolding words_step
  words_before h = rw (lt-leb start end h) (record { answer = refl; memory = refl })

  pub words_beyond : start ≤ end → length src < end → Gives (words_step (field_of which) start end src out) (Err Outside) out
  unfolding words_step
  words_beyond h k = rw (le-leb start end h, lt-leb end (length src) k) (record { answer = refl; memory = refl })

  module _ (h : start ≤ end) (k : end ≤ length src) (r : FeatureRead) (e : r ≡ feature_read start (take end src)) where
    abbrev fields : List FieldAt
    fields = or_nothing (fields_from feature start (take end src))

    abbrev found : List ℕ
    found = words_of (field_of which) (take end src) fields

    record Read (x : FeatureHead) : Type 0 where
      good : nested 1 feature start (take end src) ≡ true
      head : x ≡ head_from start (length (take end src)) (take end src) fields

    read_is : (x : FeatureHead) → r ≡ Some x → Read x
    unfolding feature_read
    read_is x g = by (nested 1 feature start (take end src)) refl (sym e ∙ g)
      where
        by : (b : Bool) → nested 1 feature start (take end src) ≡ b → cond b (Some (head_from start (length (take end src)) (take end src) fields)) None ≡ Some x → Read x
        by true n m = record { good = n; head = let z : head_from start (length (take end src)) (take end src) fields ≡ x = cc in sym z }
        by false n m = absurd (let z : ◌≡◌ {A = ℕ} 0 1 = cc in omega arith)

    not_read : r ≡ None → nested 1 feature start (take end src) ≡ false
    unfolding feature_read
    not_read g = by (nested 1 feature start (take end src)) (sym e ∙ g)
      where
        by : (b : Bool) → cond b (Some (head_from start (length (take end src)) (take end src) fields)) None ≡ None → b ≡ false
        by true m = absurd (let z : ◌≡◌ {A = ℕ} 0 1 = cc in omega arith)
        by false m = refl

    pub words_broken : r ≡ None → Gives (words_step (field_of which) start end src out) (Err Broken) out
    unfolding words_step
    words_broken g = rw (le-leb start end h, le-leb end (length src) k, not_read g) (record { answer = refl; memory = refl })

    module _ (x : FeatureHead) (g : r ≡ Some x) (n : ℕ) (m : n ≡ count_of which x) where
      count : n ≡ length found
      count = m ∙ ap (count_of which) (read_is x g).head ∙ count_is which start (length (take end src)) (take end src) fields

      pub words_no_room : length out < n → Gives (words_step (field_of which) start end src out) (Err NoRoom) out
      unfolding words_step
      words_no_room l =
          let f : length out < length found = omega (arith, count) in
          rw (le-leb start end h, le-leb end (length src) k, (read_is x g).good, lt-leb (length found) (length out) f) (record { answer = refl; memory = refl })

      module _ (l : n ≤ length out) (p s : ℕ) (a : p ≡ packed_of which) (b : s ≡ single_of which) where
        words_are : words_at p s (take end src) fields ≡ found
        words_are = rw (a, b) (words_of_lem which (take end src) fields)

        pub words_able : AllFit p s (take end src) start out
        words_able = record { a_list = rw a (a_list_of which); good = (read_is x g).good; fits = omega (arith, ap length words_are, count) }

        pub words_laid : (w : ℕ) (o : List ℕ) → PutsAt 0 (words_at p s (take end src) fields) out w o → Gives (words_step (field_of which) start end src out) (Ok w) o
        unfolding words_step
        words_laid w o q =
            let f : length found ≤ length out = omega (arith, count) in
            let c : w ≡ length found = omega (arith, q.place, ap length words_are) in
            rw (le-leb start end h, le-leb end (length src) k, (read_is x g).good, le-leb (length found) (length out) f)
            (record { answer = ap Ok c; memory = q.list ∙ ap (λ (ws : List ℕ). lay 0 ws out) words_are })

-- ---- the call is what is told of the step
pub words_told : (v : Verdict) (field : Field) (start end : ℕ) (src out : List ℕ) → told_into v (words_step field start end src out) ≡ words_into field start end src out v
unfolding words_step words_into
words_told v field start end src out = by (within start end src) (nested 1 feature start (take end src)) (words_of field (take end src) (or_nothing (fields_from feature start (take end src))))
  where
    laid : (ws : List ℕ) (b : Bool) → told_into v (cond b (record { answer = Ok (length ws); memory = lay 0 ws out }) (kept (Err NoRoom) out))
        ≡ cond b (record { answer = Ok (length ws); memory = lay 0 ws out }) (kept (Err (plain Room)) out)
    laid ws true = refl
    laid ws false = refl

    by : (a b : Bool) (ws : List ℕ) → told_into v (cond a (cond b (step_laid ws out) (kept (Err Broken) out)) (kept (Err Outside) out))
        ≡ cond a (cond b (laid_out ws out) (kept (Err (blamed v)) out)) (kept (Err (plain State)) out)
    by true true ws = laid ws (leb (length ws) (length out))
    by true false ws = refl
    by false b ws = refl

-- ---- the call's answer, and the list after it
module _ (field : Field) (start end : ℕ) (src out : List ℕ) (s : WordsStep) (l : List ℕ) (g : Gives (words_step field start end src out) s l) where
  abbrev written : Laid → Written Laid (List ℕ)
  written r = record { answer = r; memory = l }

  same : (v : Verdict) (w : Written WordsStep (List ℕ)) → s ≡ w.answer → l ≡ w.memory → written (told v s) ≡ told_into v w
  same v w a b = rw (a, b) refl

  into_by : (v : Verdict) → words_into field start end src out v ≡ written (told v s)
  into_by v = sym (same v (words_step field start end src out) g.answer g.memory ∙ words_told v field start end src out)

  abbrev Promised : Laid → Type 0
  Promised r = Answers src (words_into field start end src out) (written r)

  pub into_words : (n : ℕ) → s ≡ Ok n → Promised (Ok n)
  into_words n k = says src (words_into field start end src out) s written into_by n k

  pub into_refused : (c : Cause) → s ≡ Err c → (f : Fault) → Answers src (fault_of c) f → Promised (Err f)
  into_refused c k f a = refuses src (words_into field start end src out) s written into_by c k f a
