-- An index: a list whose first half is the heads of the buckets and whose second half is the links of the entries. A head or a link is 1 + the number of an
-- entry, or 0 for none. The head of a bucket is its newest entry, and an entry links to the newest earlier one of its bucket.
use Rattle.std.specs.Prelude.{ℕ, zero, suc, ◌+◌, ◌/◌, ◌%◌, ◌≤◌, ◌<◌, ◌≡◌, Bool, cond, ◌&&◌, List, length, get_or, set, replicate, leb, ltb, eqb, Option, Some, None}
use Rattle.number.specs.Least.{smaller}

-- how many buckets an index of so many words has, and how many entries it has links for
abbrev pub slots_in : ℕ → ℕ
slots_in words = words / 2

abbrev pub slots : List ℕ → ℕ
slots l = slots_in (length l)

-- an index of so many words is used for a table with room for so many entries
abbrev pub serves : ℕ → ℕ → Bool
serves words room = ltb 0 (slots_in words) && leb room (slots_in words)

-- the bucket of each entry, by the numbers of the entries
abbrev pub buckets_of : (ℕ → ℕ) → ℕ → ℕ → ℕ
buckets_of hs s j = hs j % s

-- 1 + the newest entry below n in bucket b, or 0
abbrev pub latest : (ℕ → ℕ) → ℕ → ℕ → ℕ
latest bs b zero = 0
latest bs b (suc n) = cond (eqb (bs n) b) (suc n) (latest bs b n)

-- l is the index of n entries whose buckets are bs
pub record Indexes (l : List ℕ) (bs : ℕ → ℕ) (n : ℕ) : Type 0 where
  pub heads : (b : ℕ) → b < slots l → get_or l b 0 ≡ latest bs b n
  pub links : (j : ℕ) → j < n → get_or l (slots l + j) 0 ≡ latest bs (bs j) j
  pub rest : (j : ℕ) → n ≤ j → j < slots l → get_or l (slots l + j) 0 ≡ 0

-- ---- what changes an index
abbrev pub cleared : List ℕ → List ℕ
cleared l = replicate (length l) 0

-- an entry's number and 1 take a word
abbrev pub max_entry : ℕ
max_entry = 4294967295

-- entry n, whose number for a bucket is h, becomes the head of its bucket; nothing changes where it has no link
abbrev pub pushed : List ℕ → ℕ → ℕ → List ℕ
pushed l n h =
    cond (ltb n (slots l))
    (cond (ltb n max_entry) (set (set l (slots l + n) (get_or l (h % slots l) 0)) (h % slots l) (suc n)) l)
    l

-- the entries below n pushed one after the other; hs are their numbers for a bucket
abbrev pub built : List ℕ → (ℕ → ℕ) → ℕ → List ℕ
built l hs zero = l
built l hs (suc n) = pushed (built l hs n) n (hs n)

-- ---- looking up: down the entries below the limit, along the links. cur is 1 + the entry that is next, best 1 + the one that was found last
abbrev pub walk : List ℕ → (ℕ → Bool) → ℕ → ℕ → ℕ → ℕ
walk l same zero cur best = best
walk l same (suc j) cur best =
    cond (eqb cur (suc j))
    (walk l same j (get_or l (slots l + j) 0) (cond (same j) (suc j) best))
    (walk l same j cur best)

abbrev pub found_at : ℕ → Option ℕ
found_at zero = None
found_at (suc j) = Some j

-- the entry of the bucket of h that is the same, among those of n entries that there are links for
abbrev pub walked : List ℕ → (ℕ → Bool) → ℕ → ℕ → Option ℕ
walked l same n h = found_at (walk l same (smaller n (slots l)) (get_or l (h % slots l) 0) 0)
