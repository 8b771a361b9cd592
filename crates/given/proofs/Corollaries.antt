-- What follows of the definitions in a few lines each:
--     abandon_forgets        an abandoned feature was never given
--     single_calls           a whole feature gives what its single calls give
--     tags_lead              each tag's two indices lead to the key given and to the same value
--     none_before            and no key, and no value, before is that one: the first of equal ones is meant
--     same_mark same_int     the same contents: equal marks, and of ints and sints equal numbers
--     zeros_share            0.0 and -0.0 share the first
use Prim.Native.Nat.{ℕ, zero, suc, ◌<◌}
use mathlib.Core.Path.{◌≡◌, refl, sym, ap, ◌∙◌}
use mathlib.Core.Bool.{Bool, true, false, cond, ◌&&◌}
use mathlib.Core.List.{List, [], ◌∷◌, ◌++◌, append_assoc, append-nil}
use mathlib.Core.Option.{Option, none, some}
use native.Mathlib.Omega.{arith}
use lib.IntN.{ℤ}
use lib.Dec.{eqb}
use lib.ListN.{get_or}
use borrow.Author.Tests.{eqb-true}
use Rattle.whole.specs.Twos.{signed64}
use Rattle.layer.proofs.Fitting.{both, never}
use Rattle.tile.specs.Holding.{same_bytes}
use Rattle.given.specs.Given.{Content, text, float, double, Tag, Feature, Drawing, mark, bits64, same, among, place_of, all_tags, keys_of, values_of}
use Rattle.given.specs.Given.{Call, opens, identifies, tags, closes, abandons, drawn, fresh, identified, tagged, after, added}
use Rattle.given.specs.Asked.{Int64}
use Rattle.given.proofs.FirstUse.{Met, all_met}
use Rattle.given.proofs.Numbers.{signed_back}

abbrev pub after_all : List Call → Drawing → Drawing
after_all [] d = d
after_all (c ∷ cs) d = after_all cs (after c d)

-- ---- rollback
-- the call completes no feature
abbrev pub is_open_ended : Call → Bool
is_open_ended (opens kind words) = true
is_open_ended (identifies n) = true
is_open_ended (tags key value) = true
is_open_ended closes = false
is_open_ended abandons = true

abbrev pub open_ended : List Call → Bool
open_ended [] = true
open_ended (c ∷ cs) = is_open_ended c && open_ended cs

one_forgotten : (c : Call) → is_open_ended c ≡ true → (d : Drawing) → after abandons (after c d) ≡ after abandons d
one_forgotten (opens kind words) e d = refl
one_forgotten (identifies n) e d = refl
one_forgotten (tags key value) e d = refl
one_forgotten closes e d = never e
one_forgotten abandons e d = refl

forgotten : (cs : List Call) → open_ended cs ≡ true → (d : Drawing) → after abandons (after_all cs d) ≡ after abandons d
forgotten [] e d = refl
forgotten (c ∷ cs) e d = let p = both (is_open_ended c) (open_ended cs) e in forgotten cs p.1 (after c d) ∙ one_forgotten c p.0 d

pub abandon_forgets : (cs : List Call) → open_ended cs ≡ true → (d : Drawing) → d.pending ≡ none → after abandons (after_all cs d) ≡ d
abandon_forgets cs e d n = forgotten cs e d ∙ ap (λ (p : Option Feature). drawn d d.features p) (sym n)

-- ---- a whole feature, call by call
abbrev pub id_calls : Option ℕ → List Call
id_calls none = []
id_calls (some n) = identifies n ∷ []

abbrev pub tag_calls : List Tag → List Call
tag_calls [] = closes ∷ []
tag_calls (t ∷ ts) = tags t.key t.value ∷ tag_calls ts

abbrev pub calls_of : Feature → List Call
calls_of f = opens f.kind f.geometry ∷ (id_calls f.id ++ tag_calls f.tags)

tags_called : (ts : List Tag) (d : Drawing) (f : Feature) → after_all (tag_calls ts) (drawn d d.features (some f)) ≡ added (record { kind = f.kind; id = f.id; geometry = f.geometry; tags = f.tags ++ ts }) d
tags_called [] d f = rw append-nil
tags_called (t ∷ ts) d f = tags_called ts d (tagged t f) ∙ rw (append_assoc f.tags (t ∷ []) ts)

pub single_calls : (f : Feature) (d : Drawing) → after_all (calls_of f) d ≡ added f d
single_calls f d = by f.id f.tags
  where
    by : (id : Option ℕ) (ts : List Tag) → after_all (id_calls id ++ tag_calls ts) (drawn d d.features (some (fresh f.kind f.geometry))) ≡ added (record { kind = f.kind; id = id; geometry = f.geometry; tags = ts }) d
    by none ts = tags_called ts d (fresh f.kind f.geometry)
    by (some n) ts = tags_called ts d (identified n (fresh f.kind f.geometry))

-- ---- indices
module _ {A : Type 0} (alike : A → A → Bool) (x none-there : A) where
  pub place_leads : (xs : List A) → among alike x xs ≡ true → alike (get_or xs (place_of alike x xs) none-there) x ≡ true
  place_leads [] e = never e
  place_leads (y ∷ xs) e = by (alike y x) refl (place_leads xs) e
    where
      by : (b : Bool) → alike y x ≡ b → (among alike x xs ≡ true → alike (get_or xs (place_of alike x xs) none-there) x ≡ true) → cond b true (among alike x xs) ≡ true → alike (get_or (y ∷ xs) (cond b 0 (suc (place_of alike x xs))) none-there) x ≡ true
      by true p k h = p
      by false p k h = k h

  -- the first of equal ones
  pub none_before : (xs : List A) (i : ℕ) → i < place_of alike x xs → alike (get_or xs i none-there) x ≡ false
  none_before [] i h = absurd (omega arith)
  none_before (y ∷ xs) i h = by (alike y x) refl i (none_before xs) h
    where
      by : (b : Bool) → alike y x ≡ b → (i : ℕ) → ((i : ℕ) → i < place_of alike x xs → alike (get_or xs i none-there) x ≡ false) → i < cond b 0 (suc (place_of alike x xs)) → alike (get_or (y ∷ xs) i none-there) x ≡ false
      by true p i k h = absurd (omega arith)
      by false p zero k h = p
      by false p (suc i) k h = k i (omega arith)

pub bytes_are : (a b : List ℕ) → same_bytes a b ≡ true → a ≡ b
bytes_are [] [] e = refl
bytes_are [] (y ∷ b) e = never e
bytes_are (x ∷ a) [] e = never e
bytes_are (x ∷ a) (y ∷ b) e = by (eqb x y) refl (bytes_are a b) e
  where
    by : (t : Bool) → eqb x y ≡ t → (same_bytes a b ≡ true → a ≡ b) → cond t (same_bytes a b) false ≡ true → x ∷ a ≡ y ∷ b
    by true p k h = rw (eqb-true x y p, k h)
    by false p k h = never h

-- of each of these tags: what its first index leads to is its key, and what its second leads to is the same value
abbrev pub Lead : List (List ℕ) → List Content → List Tag → Type 0
Lead keys values [] = Unit {0}
Lead keys values (t ∷ ts) =
    (get_or keys (place_of same_bytes t.key keys) [] ≡ t.key) × (same (get_or values (place_of same t.value values) (text [])) t.value ≡ true) × Lead keys values ts

met_lead : (keys : List (List ℕ)) (values : List Content) (ts : List Tag) → Met keys values ts → Lead keys values ts
met_lead keys values [] M = tt
met_lead keys values (t ∷ ts) M = (
  bytes_are (get_or keys (place_of same_bytes t.key keys) []) t.key (place_leads same_bytes t.key [] keys M.0),
  place_leads same t.value (text []) values M.1,
  met_lead keys values ts M.2,
)

pub tags_lead : (fs : List Feature) → Lead (keys_of fs) (values_of fs) (all_tags fs)
tags_lead fs = met_lead (keys_of fs) (values_of fs) (all_tags fs) (all_met [] [] (all_tags fs))

-- ---- the same contents
pub same_mark : (a b : Content) → same a b ≡ true → mark a ≡ mark b
same_mark a b e = bytes_are (mark a) (mark b) e

pub same_int : (a b : ℤ) → Int64 a → Int64 b → bits64 a ≡ bits64 b → a ≡ b
same_int a b f g e = sym (signed_back a f) ∙ ap signed64 e ∙ signed_back b g

-- -0.0 where 0.0 was used before: the first index, and the other way round; a NaN is another than one of other bits
abbrev pub tag_of : Content → Tag
tag_of c = record { key = 97 ∷ []; value = c }

abbrev pub point_with : List Tag → Feature
point_with ts = record { kind = 1; id = none; geometry = []; tags = ts }

pub zeros_share : values_of (point_with (tag_of (float 0) ∷ tag_of (float 2147483648) ∷ []) ∷ []) ≡ float 0 ∷ []
zeros_share = refl

pub minus_first : values_of (point_with (tag_of (double 9223372036854775808) ∷ tag_of (double 0) ∷ []) ∷ []) ≡ double 9223372036854775808 ∷ []
minus_first = refl

pub nans_apart : values_of (point_with (tag_of (float 2143289344) ∷ tag_of (float 2143289345) ∷ tag_of (float 2143289344) ∷ []) ∷ []) ≡ float 2143289344 ∷ float 2143289345 ∷ []
nans_apart = refl
