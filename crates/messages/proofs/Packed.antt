-- Varints to the end of some bytes, one after the other: those from the place on can be read where those from i on can.
use Prim.Native.Nat.{ℕ, ◌+◌, ◌-◌, ◌≤◌, ◌<◌}
use mathlib.Core.Path.{◌≡◌, refl, sym, ◌∙◌}
use mathlib.Core.Bool.{true, false}
use mathlib.Core.List.{List}
use mathlib.Core.Option.{Option as Read, none, some}
use native.Mathlib.Omega.{arith}
use lib.ListN.{length, get_or}
use Rattle.messages.specs.Fields.{varint_at, number_before, numbers_from}
use Rattle.messages.specs.Tiles.{is_read}
use Rattle.messages.specs.Asking.{next_of}
use Rattle.messages.proofs.Fields.{varint_ends, numbers_step, numbers_end}
use Rattle.messages.proofs.Reading.{first_ends}
use Rattle.std.specs.Prelude.{Option, Some, None}
use Rattle.messages.specs.Fields.{VarintAt}

pub record Packed (src : List ℕ) (at i : ℕ) : Type 0 where
  pub rest : is_read (numbers_from at src) ≡ is_read (numbers_from i src)

pub packed_start : (src : List ℕ) (at : ℕ) → Packed src at at
packed_start src at = record { rest = refl }

read_before : (n : ℕ) (o : Read (List ℕ)) → is_read (number_before n o) ≡ is_read o
read_before n none = refl
read_before n (some ns) = refl

module _ (src : List ℕ) (at i : ℕ) (I : Packed src at i) where
  pub packed_end : length src ≤ i → true ≡ is_read (numbers_from at src)
  packed_end h = sym (I.rest ∙ rw (numbers_end src i h) refl)

  module _ (h : i < length src) where
    to_next : (n next : ℕ) → varint_at i src ≡ Some (n, next) → Packed src at next
    to_next n next e = record { rest = I.rest ∙ rw (numbers_step src i h, e) (read_before n (numbers_from next src)) }

    pub packed_one : get_or src i 0 < 128 → Packed src at (i + 1)
    packed_one t = to_next (get_or src i 0) (i + 1) (sym (first_ends src i h t (get_or src i 0) refl))

    -- a longer one, or none
    module _ (r : Option ℕ) (g : r ≡ next_of (varint_at i src)) where
      module _ (j : ℕ) (e : r ≡ Some j) where
        pub packed_more : Packed src at j
        packed_more = by (varint_at i src) refl (sym e ∙ g)
          where
            by : (v : VarintAt) → varint_at i src ≡ v → Some j ≡ next_of v → Packed src at j
            by (Some (n, next)) d f = let q : j ≡ next = cc in rw q (to_next n next d)
            by None d f = absurd (let z : ◌≡◌ {A = ℕ} 0 1 = cc in omega arith)

        pub packed_less : length src - j < length src - i
        packed_less = by (varint_at i src) refl (sym e ∙ g)
          where
            by : (v : VarintAt) → varint_at i src ≡ v → Some j ≡ next_of v → length src - j < length src - i
            by (Some (n, next)) d f = let q : j ≡ next = cc in omega (arith, (varint_ends d).later)
            by None d f = absurd (let z : ◌≡◌ {A = ℕ} 0 1 = cc in omega arith)

      pub packed_none : r ≡ None → false ≡ is_read (numbers_from at src)
      packed_none z = by (varint_at i src) refl (sym z ∙ g)
        where
          by : (v : VarintAt) → varint_at i src ≡ v → None ≡ next_of v → false ≡ is_read (numbers_from at src)
          by (Some (n, next)) d f = absurd (let y : ◌≡◌ {A = ℕ} 0 1 = cc in omega arith)
          by None d f = sym (I.rest ∙ rw (numbers_step src i h, d) refl)
