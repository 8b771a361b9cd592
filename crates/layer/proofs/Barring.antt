-- The checks of a whole feature before ROOM: the one answer of `first_refusal`, and what it says of the chain of the definition.
use Prim.Native.Nat.{ℕ, ◌≤◌, ◌<◌}
use mathlib.Core.Path.{◌≡◌, refl, sym, ◌∙◌}
use mathlib.Core.Bool.{Bool, true, false, not}
use mathlib.Core.List.{List}
use native.Mathlib.Omega.{arith}
use lib.ListN.{length}
use lib.Dec.{leb}
use borrow.Author.Tests.{not-true, not-false, le-leb, lt-leb, leb-true}
use Rattle.refusal.specs.declared.Refusal.{Refusal}
use Rattle.refusal.specs.declared.Refusal.TheVariants.{Job, Kind, State, Room, Text as TextRefusal, Utf8, Turn, Again}
use Rattle.words.specs.Geometries.{is_kind, max_words}
use Rattle.layer.specs.declared.Layer.{Layer}
use Rattle.layer.specs.declared.whole_feature.Head.{Head}
use Rattle.std.specs.Prelude.{Result, Ok, Err}
use Rattle.layer.specs.Held.{Memory, seen, Change, refuses, check}
use Rattle.layer.specs.State.{valid}
use Rattle.layer.specs.Calls.{is_shut, if_room}
use Rattle.layer.specs.TagLists.{tags_ok, tags_short, tags_utf8, tags_of, takes_keys}
use Rattle.layer.specs.Whole.{feature_put, add_feature}
use Rattle.layer.specs.WholeSteps.{asked, asks, Welcome}
use Rattle.layer.proofs.Keeping.{is_shut_lem}

-- ---- `first_refusal`
module _ (p a : Bool) (x : p ≡ a) (b c d u e f g : Bool) where
  pub bar_list : not p ≡ true → Err Job ≡ asked a b c d u e f g
  bar_list h = rw (← x, not-true p h)

  module _ (i : not p ≡ false) (q : Bool) (y : q ≡ b) where
    pub bar_kind : not q ≡ true → Err Kind ≡ asked a b c d u e f g
    bar_kind h = rw (← x, not-false p i, ← y, not-true q h)

    module _ (j : not q ≡ false) where
      pub bar_state : not c ≡ true → Err State ≡ asked a b c d u e f g
      bar_state h = rw (← x, not-false p i, ← y, not-false q j, not-true c h)

      module _ (k : not c ≡ false) (r : Bool) (z : r ≡ d) where
        pub bar_text : not r ≡ true → Err TextRefusal ≡ asked a b c d u e f g
        bar_text h = rw (← x, not-false p i, ← y, not-false q j, not-false c k, ← z, not-true r h)

        module _ (l : not r ≡ false) (t : Bool) (w : t ≡ u) where
          pub bar_utf8 : not t ≡ true → Err Utf8 ≡ asked a b c d u e f g
          bar_utf8 h = rw (← x, not-false p i, ← y, not-false q j, not-false c k, ← z, not-false r l, ← w, not-true t h)

          module _ (m : not t ≡ false) (s : Bool) (v : s ≡ e) where
            pub bar_turn : not s ≡ true → Err Turn ≡ asked a b c d u e f g
            bar_turn h = rw (← x, not-false p i, ← y, not-false q j, not-false c k, ← z, not-false r l, ← w, not-false t m, ← v, not-true s h)

            module _ (n : not s ≡ false) (y' : Bool) (z' : y' ≡ f) where
              pub bar_again : not y' ≡ true → Err Again ≡ asked a b c d u e f g
              bar_again h = rw (← x, not-false p i, ← y, not-false q j, not-false c k, ← z, not-false r l, ← w, not-false t m, ← v, not-false s n, ← z', not-true y' h)

              pub bar_words : not y' ≡ false → g ≡ false → Err Room ≡ asked a b c d u e f g
              bar_words o h = rw (← x, not-false p i, ← y, not-false q j, not-false c k, ← z, not-false r l, ← w, not-false t m, ← v, not-false s n, ← z', not-false y' o, h)

              pub bar_none : not y' ≡ false → g ≡ true → Ok tt ≡ asked a b c d u e f g
              bar_none o h = rw (← x, not-false p i, ← y, not-false q j, not-false c k, ← z, not-false r l, ← w, not-false t m, ← v, not-false s n, ← z', not-false y' o, h)

pub words_many : (n : ℕ) → max_words < n → leb n max_words ≡ false
words_many n h = lt-leb n max_words h

pub words_few : (n : ℕ) → n ≤ max_words → leb n max_words ≡ true
words_few n h = le-leb n max_words h

-- ---- what the answer says of the chain
abbrev fine : Result (Unit {0}) Refusal
fine = Ok tt

never : {X : Type 0} (q : Refusal) → fine ≡ Err q → X
never q e = absurd (let z : ◌≡◌ {A = ℕ} 0 1 = cc in omega arith)

barred : (a b c d u e f g : Bool) (q : Refusal) (x : Change) → asked a b c d u e f g ≡ Err q → check a Job (check b Kind (check c State (check d TextRefusal (check u Utf8 (check e Turn (check f Again (check g Room x))))))) ≡ refuses q
barred true true true true true true true true q x h = never q h
barred true true true true true true true false q x h = cc
barred true true true true true true false g q x h = cc
barred true true true true true false f g q x h = cc
barred true true true true false e f g q x h = cc
barred true true true false u e f g q x h = cc
barred true true false d u e f g q x h = cc
barred true false c d u e f g q x h = cc
barred false b c d u e f g q x h = cc

record Eight (a b c d u e f g : Bool) : Type 0 where
  pub first : a ≡ true
  pub second : b ≡ true
  pub third : c ≡ true
  pub fourth : d ≡ true
  pub fifth : u ≡ true
  pub sixth : e ≡ true
  pub seventh : f ≡ true
  pub eighth : g ≡ true

eight : (a b c d u e f g : Bool) → asked a b c d u e f g ≡ Ok tt → Eight a b c d u e f g
eight true true true true true true true true h = record { first = refl; second = refl; third = refl; fourth = refl; fifth = refl; sixth = refl; seventh = refl; eighth = refl }
eight true true true true true true true false h = never Room (sym h)
eight true true true true true true false g h = never Again (sym h)
eight true true true true true false f g h = never Turn (sym h)
eight true true true true false e f g h = never Utf8 (sym h)
eight true true true false u e f g h = never TextRefusal (sym h)
eight true true false d u e f g h = never State (sym h)
eight true false c d u e f g h = never Kind (sym h)
eight false b c d u e f g h = never Job (sym h)

module _ (s : Layer) (stands : Bool) (m : Memory) (v : stands ≡ valid (seen s m)) (f : Head) (words ws bytes : List ℕ) (r : Result (Unit {0}) Refusal) (g : r ≡ asks s.feature s.strict stands f.kind (length words) ws bytes) where
  as_asked : r ≡ asked (tags_ok (length bytes) ws) (is_kind f.kind) (valid (seen s m)) (tags_short ws) (tags_utf8 (tags_of bytes ws)) (is_shut s.feature) (takes_keys s.strict bytes ws) (leb (length words) max_words)
  as_asked = rw v at g

  pub chain_barred : (q : Refusal) → r ≡ Err q → add_feature f words ws bytes (seen s m) ≡ refuses q
  chain_barred q e =
      barred (tags_ok (length bytes) ws) (is_kind f.kind) (valid (seen s m)) (tags_short ws) (tags_utf8 (tags_of bytes ws)) (is_shut s.feature) (takes_keys s.strict bytes ws) (leb (length words) max_words) q (if_room (feature_put f words (tags_of bytes ws) (seen s m))) (sym as_asked ∙ e)

  module _ (e : r ≡ Ok tt) where
    all_eight : Eight (tags_ok (length bytes) ws) (is_kind f.kind) (valid (seen s m)) (tags_short ws) (tags_utf8 (tags_of bytes ws)) (is_shut s.feature) (takes_keys s.strict bytes ws) (leb (length words) max_words)
    all_eight =
        eight (tags_ok (length bytes) ws) (is_kind f.kind) (valid (seen s m)) (tags_short ws) (tags_utf8 (tags_of bytes ws)) (is_shut s.feature) (takes_keys s.strict bytes ws) (leb (length words) max_words) (sym as_asked ∙ e)

    pub chain_welcome : Welcome s f.kind words ws bytes m
    chain_welcome =
        let S = all_eight in
        record {
          list = S.first;
          kind_good = S.second;
          stands = S.third;
          short = S.fourth;
          utf8 = S.fifth;
          shut = is_shut_lem s.feature S.sixth;
          once = S.seventh;
          few = leb-true (length words) max_words S.eighth;
        }

-- a welcome feature goes by ROOM alone
pub welcome_chain : (s : Layer) (m : Memory) (f : Head) (words ws bytes : List ℕ) → Welcome s f.kind words ws bytes m → add_feature f words ws bytes (seen s m) ≡ if_room (feature_put f words (tags_of bytes ws) (seen s m))
welcome_chain s m f words ws bytes W = rw (W.list, W.kind_good, W.stands, W.short, W.utf8, W.shut, W.once, le-leb (length words) max_words W.few)
