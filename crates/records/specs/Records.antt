-- Document 01, "Tags and rollback": a feature takes six words (kind, id mark, id low, id high, tag word count, geometry word count), its geometry, its
-- tag words. And STATE's rule of records: a kind of 1 to 3, an id mark of 0 or 1, and they follow each other exactly to the used end.
use Rattle.std.specs.Prelude.{ℕ, zero, suc, ◌+◌, ◌≡◌, refl, Bool, true, false, cond, ◌&&◌, List, [], ◌∷◌, length, drop, leb, eqb, Option, Some, None}
use Rattle.words.specs.Geometries.{is_kind}

-- the words before the geometry, and where they stand behind the kind: the id mark, the halves of the id, and how many tag and geometry words there are
abbrev pub head_words : ℕ
head_words = 6

abbrev pub mark_at : ℕ
mark_at = 1

abbrev pub id_low_at : ℕ
id_low_at = 2

abbrev pub id_high_at : ℕ
id_high_at = 3

abbrev pub tags_at : ℕ
tags_at = 4

abbrev pub geometry_at : ℕ
geometry_at = 5

abbrev pub head_ok : ℕ → ℕ → Bool
head_ok kind mark = is_kind kind && leb mark 1

-- how many records there are where they follow each other exactly to the end: n have been met, and of the last of them so many words are still to come
abbrev pub records_in : ℕ → ℕ → List ℕ → Option ℕ
records_in n zero [] = Some n
records_in n zero (a ∷ []) = None
records_in n zero (a ∷ b ∷ []) = None
records_in n zero (a ∷ b ∷ c ∷ []) = None
records_in n zero (a ∷ b ∷ c ∷ d ∷ []) = None
records_in n zero (a ∷ b ∷ c ∷ d ∷ e ∷ []) = None
records_in n zero (kind ∷ mark ∷ low ∷ high ∷ tags ∷ geometry ∷ ws) = cond (head_ok kind mark) (records_in (suc n) (tags + geometry) ws) None
records_in n (suc left) [] = None
records_in n (suc left) (w ∷ ws) = records_in n left ws

abbrev pub is_found : Option ℕ → Bool
is_found (Some n) = true
is_found None = false

abbrev pub follow : List ℕ → Bool
follow ws = is_found (records_in 0 0 ws)

-- the length of the record at the front, where a whole one stands there
abbrev pub record_length : List ℕ → Option ℕ
record_length [] = None
record_length (a ∷ []) = None
record_length (a ∷ b ∷ []) = None
record_length (a ∷ b ∷ c ∷ []) = None
record_length (a ∷ b ∷ c ∷ d ∷ []) = None
record_length (a ∷ b ∷ c ∷ d ∷ e ∷ []) = None
record_length (kind ∷ mark ∷ low ∷ high ∷ tags ∷ geometry ∷ ws) =
    cond (head_ok kind mark) (cond (leb (tags + geometry) (length ws)) (Some (head_words + tags + geometry)) None) None

-- where the record at index i ends
abbrev pub end_from : ℕ → Option ℕ → Option ℕ
end_from i (Some n) = Some (i + n)
end_from i None = None

abbrev pub record_end : List ℕ → ℕ → Option ℕ
record_end ws i = end_from i (record_length (drop i ws))

-- a record stands at index i, and it is the last
abbrev pub ends_at : ℕ → Option ℕ → Bool
ends_at end (Some e) = eqb e end
ends_at end None = false

abbrev pub one_record : List ℕ → ℕ → Bool
one_record ws i = ends_at (length ws) (record_end ws i)

-- two records, of a point with an id and a tag, and of a line without; and the first of them cut
two : records_in 0 0 (1 ∷ 1 ∷ 9 ∷ 0 ∷ 2 ∷ 3 ∷ 9 ∷ 4 ∷ 4 ∷ 0 ∷ 0 ∷ 2 ∷ 0 ∷ 0 ∷ 0 ∷ 0 ∷ 1 ∷ 15 ∷ []) ≡ Some 2
two = refl

cut : records_in 0 0 (1 ∷ 1 ∷ 9 ∷ 0 ∷ 2 ∷ 3 ∷ 9 ∷ 4 ∷ 4 ∷ 0 ∷ []) ≡ None
cut = refl
