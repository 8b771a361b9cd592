-- Many whole features in one call. Each has a head of six words: its kind, its id mark (0 or 1), the low and the high half of its id, how many geometry words
-- it has and how many tag words. The geometry words of all stand one behind the other in one lent list, their tag words in another, and their texts in one.
use Rattle.std.specs.Prelude.{ℕ, suc, ◌+◌, ◌-◌, Bool, false, cond, ◌&&◌, List, [], ◌∷◌, length, get_or, take, drop, leb, eqb}
use Rattle.promise.specs.Answers.{Written, kept}
use Rattle.refusal.specs.declared.Refusal.TheVariants.{Job, State}
use Rattle.refusal.specs.Said.{Said, accepted, refused}
use Rattle.whole.specs.Twos.{wide}
use Rattle.records.specs.Records.{mark_at, id_low_at, id_high_at}
use Rattle.layer.specs.declared.Layer.{Layer}
use Rattle.layer.specs.Held.{Memory, seen, Change, refuses, holds, onto}
use Rattle.layer.specs.State.{valid}
use Rattle.layer.specs.declared.whole_feature.Head.{Head}
use Rattle.std.specs.Prelude.{Result, Ok, Err}
use Rattle.refusal.specs.declared.Refused.{Refused}
use Rattle.layer.specs.Whole.{add_feature}
use Rattle.layer.specs.Lookup.{Index, indexed}

-- what is answered: a layer, and how many features were accepted
pub record Many : Type 0 where
  pub layer : Layer
  pub count : ℕ

abbrev pub Added : Type 0
Added = Result (Layer × ℕ) (Refused (Layer × ℕ))

abbrev pub many_of : Layer × ℕ → Many
many_of (s, n) = record { layer = s; count = n }

abbrev pub said_added : Added → Said Many
said_added (Ok p) = accepted (many_of p)
said_added (Err e) = refused e.refusal (many_of e.kept)

-- the head of its first four words
abbrev pub head_of : ℕ → ℕ → ℕ → ℕ → Head
head_of kind mark low high = record { kind = kind; has_id = eqb mark 1; id = wide low high }

-- they stand there as in a record
abbrev pub head_at : List ℕ → ℕ → Head
head_at hs i = head_of (get_or hs i 0) (get_or hs (i + mark_at) 0) (get_or hs (i + id_low_at) 0) (get_or hs (i + id_high_at) 0)

-- an id mark is 0 or 1, and what a feature has is there
abbrev pub head_ok : ℕ → ℕ → ℕ → ℕ → ℕ → Bool
head_ok words tags mark w t = leb mark 1 && (leb w words && leb t tags)

-- every six words are a head, and the features have these many geometry words and tag words, no more and no less
abbrev pub heads_ok : ℕ → ℕ → List ℕ → Bool
heads_ok words tags [] = eqb words 0 && eqb tags 0
heads_ok words tags (a ∷ []) = false
heads_ok words tags (a ∷ b ∷ []) = false
heads_ok words tags (a ∷ b ∷ c ∷ []) = false
heads_ok words tags (a ∷ b ∷ c ∷ d ∷ []) = false
heads_ok words tags (a ∷ b ∷ c ∷ d ∷ e ∷ []) = false
heads_ok words tags (kind ∷ mark ∷ low ∷ high ∷ w ∷ t ∷ hs) = cond (head_ok words tags mark w t) (heads_ok (words - w) (tags - t) hs) false

-- what follows a whole feature, where the layer s and n features stood before it: nothing where it is refused, and then its refusal and these are the answer
abbrev pub and_next : Change → Layer → Memory → ℕ → (Layer → Memory → Written (Said Many) Memory) → Written (Said Many) Memory
and_next (refuses r) s m n go = kept (refused r (record { layer = s; count = n })) m
and_next (holds t h) s m n go = go t (onto h m)

-- no more features: STATE, where the layer breaks a rule, which only one does that was given so
abbrev pub done : ℕ → Layer → Memory → Written (Said Many) Memory
done n s m = cond (valid (seen s m)) (kept (accepted (record { layer = s; count = n })) m) (kept (refused State (record { layer = s; count = n })) m)

-- the features of a list of heads one after the other, up to the first that is refused, where n were accepted before them
abbrev pub add_all : ℕ → List ℕ → List ℕ → List ℕ → List ℕ → Layer → Memory → Written (Said Many) Memory
add_all n [] words ws bytes s m = done n s m
add_all n (a ∷ []) words ws bytes s m = done n s m
add_all n (a ∷ b ∷ []) words ws bytes s m = done n s m
add_all n (a ∷ b ∷ c ∷ []) words ws bytes s m = done n s m
add_all n (a ∷ b ∷ c ∷ d ∷ []) words ws bytes s m = done n s m
add_all n (a ∷ b ∷ c ∷ d ∷ e ∷ []) words ws bytes s m = done n s m
add_all n (kind ∷ mark ∷ low ∷ high ∷ w ∷ t ∷ hs) words ws bytes s m =
    and_next (add_feature (head_of kind mark low high) (take w words) (take t ws) bytes (seen s m)) s m n
    (λ u l. add_all (suc n) hs (drop w words) (drop t ws) bytes u l)

-- JOB, where the words lent as heads are not heads or do not tell all the words; else the features. An empty list is well formed: it has no features.
abbrev pub add_features : List ℕ → List ℕ → List ℕ → List ℕ → Layer → Memory → Written (Said Many) Memory
add_features heads words ws bytes s m =
    cond (heads_ok (length words) (length ws) heads) (add_all 0 heads words ws bytes s m) (kept (refused Job (record { layer = s; count = 0 })) m)

-- ---- with indexes lent beside the lists
pub record Lists : Type 0 where
  pub lists : Memory
  pub index : Index

abbrev pub with_index : Memory → Index → Lists
with_index m x = record { lists = m; index = x }

-- the indexes are those of the layer that is answered, unless no feature was accepted
abbrev pub along_index : Written (Said Many) Memory → Index → Written (Said Many) Lists
along_index w x =
    record {
      answer = w.answer;
      memory = with_index w.memory (cond (eqb w.answer.values.count 0) x (indexed (seen w.answer.values.layer w.memory) x));
    }

abbrev pub add_indexed : List ℕ → List ℕ → List ℕ → List ℕ → Layer → Memory → Index → Written (Said Many) Lists
add_indexed heads words ws bytes s m x = along_index (add_features heads words ws bytes s m) x
