-- Which fields of a message a reader takes, where the message was written of pieces: those with a key, the last with one, the words of packed lists. Each
-- choice is made among the pieces, which have no places, and what is said then is found where the chosen ones stand.
--     each_placed last_placed last_absent     the fields with a key, and the last of them, where one piece has it and where none has
--     map_placed each_says                    what fields say, piece by piece
--     words_own words_other placed_parts      the words of a packed list; those of other pieces; the fields of pieces one behind the other
use Prim.Native.Nat.{ℕ, ◌%◌}
use mathlib.Core.Path.{◌≡◌, refl, sym, ap, subst, ◌∙◌}
use mathlib.Core.Bool.{Bool, true, false, cond}
use mathlib.Core.List.{List, [], ◌∷◌, ◌++◌, map, append_assoc, append-nil}
use mathlib.Core.Option.{Option, none, some}
use native.Mathlib.Omega.{arith}
use borrow.Author.Tests.{eq-eqb}
use lib.Dec.{eqb}
use Rattle.wire.specs.declared.field.Field.{Field}
use Rattle.wire.specs.Schema.{key_of}
use Rattle.wire.specs.Fields.{varints, packed_field}
use Rattle.messages.specs.declared.field.FieldAt.{FieldAt}
use Rattle.messages.specs.Meaning.{later, last_of, each_of, packed_numbers, low32, single_key, words_in, words_of}
use Rattle.messages.proofs.Written.{All, Below32, Below64, Piece, body, key_is, written, written_all, body_written}
use Rattle.messages.proofs.Written.{Placed, AllPlaced, none_placed, one_placed, numbers_there}

-- ---- the fields with a key are the pieces with it
abbrev pub each_piece : ℕ → List Piece → List Piece
each_piece key [] = []
each_piece key (p ∷ ps) = cond (eqb (key_is p) key) (p ∷ each_piece key ps) (each_piece key ps)

pub each_append : (key : ℕ) (ps qs : List Piece) → each_piece key (ps ++ qs) ≡ each_piece key ps ++ each_piece key qs
each_append key [] qs = refl
each_append key (p ∷ ps) qs = by (eqb (key_is p) key) (each_append key ps qs)
  where
    by : (b : Bool) → each_piece key (ps ++ qs) ≡ each_piece key ps ++ each_piece key qs
        → cond b (p ∷ each_piece key (ps ++ qs)) (each_piece key (ps ++ qs)) ≡ cond b (p ∷ each_piece key ps) (each_piece key ps) ++ each_piece key qs
    by true e = ap (λ (l : List Piece). p ∷ l) e
    by false e = e

-- pieces that all have the key, and pieces that all have another
pub each_own : {A : Type 0} (key : ℕ) (g : A → Piece) → ((x : A) → eqb (key_is (g x)) key ≡ true) → (xs : List A) → each_piece key (map g xs) ≡ map g xs
each_own key g e [] = refl
each_own key g e (x ∷ xs) = rw (e x, each_own key g e xs)

pub each_other : {A : Type 0} (key : ℕ) (g : A → Piece) → ((x : A) → eqb (key_is (g x)) key ≡ false) → (xs : List A) → each_piece key (map g xs) ≡ []
each_other key g e [] = refl
each_other key g e (x ∷ xs) = rw (e x, each_other key g e xs)

module _ (src : List ℕ) where
  pub each_placed : (key : ℕ) (ps : List Piece) (fs : List FieldAt) → AllPlaced src ps fs → AllPlaced src (each_piece key ps) (each_of key fs)
  each_placed key _ _ none_placed = none_placed
  each_placed key _ _ (one_placed p f ps fs q more) =
      subst (λ (k : ℕ). AllPlaced src (each_piece key (p ∷ ps)) (cond (eqb k key) (f ∷ each_of key fs) (each_of key fs))) (sym q.key_is_lem)
      (by (eqb (key_is p) key) (each_placed key ps fs more))
    where
      by : (b : Bool) → AllPlaced src (each_piece key ps) (each_of key fs)
          → AllPlaced src (cond b (p ∷ each_piece key ps) (each_piece key ps)) (cond b (f ∷ each_of key fs) (each_of key fs))
      by true a = one_placed p f (each_piece key ps) (each_of key fs) q a
      by false a = a

-- the last field with a key, where one piece has it and where none has
abbrev last_in : List FieldAt → Option FieldAt
last_in [] = none
last_in (f ∷ fs) = later (some f) (last_in fs)

later_alone : (x : Option FieldAt) → later none x ≡ x
later_alone none = refl
later_alone (some f) = refl

last_each : (key : ℕ) (fs : List FieldAt) → last_of key fs ≡ last_in (each_of key fs)
last_each key [] = refl
last_each key (f ∷ fs) = by (eqb f.key key) (last_each key fs)
  where
    by : (b : Bool) → last_of key fs ≡ last_in (each_of key fs)
        → later (cond b (some f) none) (last_of key fs) ≡ last_in (cond b (f ∷ each_of key fs) (each_of key fs))
    by true e = ap (later (some f)) e
    by false e = later_alone (last_of key fs) ∙ e

module _ (src : List ℕ) (key : ℕ) (ps : List Piece) (fs : List FieldAt) (a : AllPlaced src ps fs) where
  pub last_placed : (p : Piece) → each_piece key ps ≡ p ∷ [] → (f : FieldAt) × (last_of key fs ≡ some f) × Placed src p f
  last_placed p e = by (each_of key fs) refl (subst (λ (l : List Piece). AllPlaced src l (each_of key fs)) e (each_placed src key ps fs a))
    where
      by : (gs : List FieldAt) → each_of key fs ≡ gs → AllPlaced src (p ∷ []) gs → (f : FieldAt) × (last_of key fs ≡ some f) × Placed src p f
      by _ h (one_placed _ f _ _ q none_placed) = (f, last_each key fs ∙ ap last_in h, q)

  pub last_absent : each_piece key ps ≡ [] → last_of key fs ≡ none
  last_absent e = by (each_of key fs) refl (subst (λ (l : List Piece). AllPlaced src l (each_of key fs)) e (each_placed src key ps fs a))
    where
      by : (gs : List FieldAt) → each_of key fs ≡ gs → AllPlaced src [] gs → last_of key fs ≡ none
      by _ h none_placed = last_each key fs ∙ ap last_in h

-- ---- what fields say, piece by piece
module _ (src : List ℕ) where
  pub map_placed : {A B : Type 0} (Q : A → Type 0) (g : A → Piece) (h : A → B) (r : FieldAt → B)
      → ((x : A) (f : FieldAt) → Q x → Placed src (g x) f → r f ≡ h x) → (xs : List A) → All Q xs → (fs : List FieldAt) → AllPlaced src (map g xs) fs
      → map r fs ≡ map h xs
  map_placed Q g h r k [] G _ none_placed = refl
  map_placed Q g h r k (x ∷ xs) G _ (one_placed _ f _ fs q more) = rw (k x f G.0 q, map_placed Q g h r k xs G.1 fs more)

  -- those with a key, where the pieces with it are those of a list
  pub each_says : {A B : Type 0} (Q : A → Type 0) (g : A → Piece) (h : A → B) (r : FieldAt → B)
      → ((x : A) (f : FieldAt) → Q x → Placed src (g x) f → r f ≡ h x) → (xs : List A) → All Q xs → (key : ℕ) (ps : List Piece) (fs : List FieldAt)
      → AllPlaced src ps fs → each_piece key ps ≡ map g xs → map r (each_of key fs) ≡ map h xs
  each_says Q g h r k xs G key ps fs a e =
      map_placed Q g h r k xs G (each_of key fs) (subst (λ (l : List Piece). AllPlaced src l (each_of key fs)) e (each_placed src key ps fs a))

-- ---- words, packed
abbrev pub packed_pieces : Field → List ℕ → List Piece
packed_pieces f [] = []
packed_pieces f (w ∷ ws) = body f (varints (w ∷ ws)) ∷ []

pub packed_written : (f : Field) (ws : List ℕ) → packed_field f ws ≡ written_all (packed_pieces f ws)
packed_written f [] = refl
packed_written f (w ∷ ws) = body_written f (varints (w ∷ ws)) ∙ sym (append-nil (written (body f (varints (w ∷ ws)))))

pub low_same : (ws : List ℕ) → All Below32 ws → map low32 ws ≡ ws
low_same [] g = refl
low_same (w ∷ ws) g = let e : w % 4294967296 ≡ w = omega (arith, g.0) in rw (e, low_same ws g.1)

pub below_wide : (ws : List ℕ) → All Below32 ws → All Below64 ws
below_wide [] g = tt
below_wide (w ∷ ws) g = (omega (arith, g.0), below_wide ws g.1)

module _ (field : Field) (src : List ℕ) where
  -- the words of a field that has no piece
  abbrev pub Other : Piece → Type 0
  Other p = (eqb (key_is p) (key_of field) ≡ false) × (eqb (key_is p) (single_key field) ≡ false)

  pub words_other : (ps : List Piece) (fs : List FieldAt) → AllPlaced src ps fs → All Other ps → words_of field src fs ≡ []
  words_other _ _ none_placed o = refl
  words_other _ _ (one_placed p f ps fs q more) o =
      subst
      (λ (k : ℕ). cond (eqb k (key_of field)) (map low32 (packed_numbers src f))
      (cond (eqb k (single_key field)) (low32 f.value ∷ []) []) ++ words_of field src fs ≡ []) (sym q.key_is_lem)
      (rw (o.0.0, o.0.1) (words_other ps fs more o.1))

  pub words_own : (ws : List ℕ) → All Below32 ws → (fs : List FieldAt) → AllPlaced src (packed_pieces field ws) fs → words_of field src fs ≡ ws
  words_own [] g _ none_placed = refl
  words_own (w ∷ ws) g _ (one_placed _ f _ _ q none_placed) =
      let e : eqb f.key (key_of field) ≡ true = eq-eqb f.key (key_of field) q.key_is_lem in
      rw (e, numbers_there q (w ∷ ws) (below_wide (w ∷ ws) g) refl, append-nil) (low_same (w ∷ ws) g)

  pub words_append : (fs gs : List FieldAt) → words_of field src (fs ++ gs) ≡ words_of field src fs ++ words_of field src gs
  words_append [] gs = refl
  words_append (f ∷ fs) gs =
      ap (λ (l : List ℕ). words_in field src f ++ l) (words_append fs gs)
      ∙ sym (append_assoc (words_in field src f) (words_of field src fs) (words_of field src gs))

-- the fields of pieces one behind the other
pub placed_parts : (src : List ℕ) (ps qs : List Piece) (fs : List FieldAt) → AllPlaced src (ps ++ qs) fs
    → (gs : List FieldAt) × (hs : List FieldAt) × (fs ≡ gs ++ hs) × AllPlaced src ps gs × AllPlaced src qs hs
placed_parts src [] qs fs a = ([], fs, refl, none_placed, a)
placed_parts src (p ∷ ps) qs _ (one_placed _ f _ fs q more) =
    let (gs, hs, e, a, b) = placed_parts src ps qs fs more in
    (f ∷ gs, hs, ap (λ (l : List FieldAt). f ∷ l) e, one_placed p f ps gs q a, b)
