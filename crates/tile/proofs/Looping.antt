-- The loop over a list of entries, once for every kind of entry: of the whole fields those of the entries from index i on are the rest, and those entries are as
-- they should be.
--     Walk                                                              what such a loop is over
--     sizing_start sizing_entry sizing_within sizing_sum sizing_turn sizing_end                    the entries' size
--     laying_start laying_turn laying_end, and what a turn needs: laying_entry laying_inside laying_sum laying_long    their bytes
use Prim.Native.Nat.{ℕ, ◌+◌, ◌-◌, ◌≤◌, ◌<◌}
use mathlib.Core.Path.{◌≡◌, ap}
use mathlib.Core.List.{List, [], ◌++◌}
use native.Mathlib.Omega.{arith}
use lib.ListN.{length, length-append}
use borrow.Rule.Slice.PartMut.{mid_of, put_mid}
use Rattle.promise.specs.Answers.{Gives}
use Rattle.promise.specs.Puts.{put}
use Rattle.promise.proofs.Running.{Run, run_start, run_inside, run_room, run_long, run_sum, run_turn, run_end}
use Rattle.tile.specs.Steps.{Writable}

-- an entry of so many words stands at index i of n words: it is whole, its field comes first of those from i on, and the entries behind it are as they should be
pub record Next (whole : Type 0) (good : ℕ → Type 0) (fields : ℕ → List ℕ) (field : List ℕ) (n i words : ℕ) : Type 0 where
  pub some : 0 < words
  pub within : i + words ≤ n
  pub entry : whole
  pub rest : good (i + words)
  pub parts : fields i ≡ field ++ fields (i + words)

-- what a loop over n words is over: what is known of the entries from an index on, and their fields; what is known of the entry there, its field, and its words
pub record Walk (n : ℕ) : Type 1 where
  pub good : ℕ → Type 0
  pub fields : ℕ → List ℕ
  pub whole : ℕ → Type 0
  pub field : ℕ → List ℕ
  pub words : ℕ → ℕ
  pub next : (i : ℕ) → i < n → good i → Next (whole i) good fields (field i) n i (words i)
  pub none : (i : ℕ) → n ≤ i → fields i ≡ []

-- ---- sizes
pub record Sizing {n : ℕ} (W : Walk n) (size i : ℕ) : Type 0 where
  pub sound : W.good i
  pub within : i ≤ n
  pub total : length (W.fields 0) ≡ size + length (W.fields i)

module _ {n : ℕ} {W : Walk n} where
  pub sizing_start : W.good 0 → Sizing W 0 0
  sizing_start p = record { sound = p; within = omega arith; total = omega arith }

  module _ {size i : ℕ} (I : Sizing W size i) where
    module _ (h : i < n) where
      here : Next (W.whole i) W.good W.fields (W.field i) n i (W.words i)
      here = W.next i h I.sound

      pub sizing_entry : W.whole i
      sizing_entry = here.entry

      pub sizing_within : (i < i + W.words i) × (i + W.words i ≤ n)
      sizing_within = (omega (arith, here.some), here.within)

      module _ {k : ℕ} (q : k ≡ length (W.field i)) where
        pub sizing_sum : size + k ≤ length (W.fields 0)
        sizing_sum = omega (arith, I.total, ap length here.parts, length-append (W.field i) (W.fields (i + W.words i)))

        pub sizing_turn : Sizing W (size + k) (i + W.words i)
        sizing_turn = record { sound = here.rest; within = here.within; total = omega (arith, I.total, ap length here.parts, length-append (W.field i) (W.fields (i + W.words i))) }

    pub sizing_end : n ≤ i → size ≡ length (W.fields 0)
    sizing_end h = omega (arith, I.total, ap length (W.none i h))

-- ---- bytes
pub record Laying {n : ℕ} (W : Walk n) (out₀ out : List ℕ) (at i : ℕ) : Type 0 where
  pub sound : W.good i
  pub within : i ≤ n
  pub run : Run (W.fields 0) (W.fields i) out₀ out at

module _ {n : ℕ} {W : Walk n} where
  pub laying_start : {out : List ℕ} → Writable (W.good 0) (W.fields 0) (length out) → Laying W out out 0 0
  laying_start {out = out} p = record { sound = p.good; within = omega arith; run = run_start (W.fields 0) out p.room }

  module _ {out₀ out : List ℕ} {at i : ℕ} (I : Laying W out₀ out at i) where
    pub laying_inside : at ≤ length out
    laying_inside = run_inside I.run

    pub laying_long : length out ≡ length out₀
    laying_long = run_long I.run

    module _ (h : i < n) where
      there : Next (W.whole i) W.good W.fields (W.field i) n i (W.words i)
      there = W.next i h I.sound

      pub laying_within : (i < i + W.words i) × (i + W.words i ≤ n)
      laying_within = (omega (arith, there.some), there.within)

      pub laying_entry : Writable (W.whole i) (W.field i) (length (mid_of at (length out - at) out))
      laying_entry = record { good = there.entry; room = run_room I.run (W.field i) (W.fields (i + W.words i)) there.parts }

      module _ {k : ℕ} {ys : List ℕ} (g : Gives (put (W.field i) (mid_of at (length out - at) out)) k ys) where
        pub laying_sum : at + k ≤ length out₀
        laying_sum = run_sum I.run (W.field i) (W.fields (i + W.words i)) there.parts g

        pub laying_turn : Laying W out₀ (put_mid at (length out - at) out ys) (at + k) (i + W.words i)
        laying_turn = record { sound = there.rest; within = there.within; run = run_turn I.run (W.field i) (W.fields (i + W.words i)) there.parts g }

    pub laying_end : n ≤ i → Gives (put (W.fields 0) out₀) at out
    laying_end h = run_end I.run (W.none i h)
