-- The numbers of a packed list, laid one by one: those before i are laid, those from i on are left, and all of them can be read.
use Prim.Native.Nat.{ℕ, ◌+◌, ◌-◌, ◌%◌, ◌≤◌, ◌<◌}
use mathlib.Core.Path.{◌≡◌, refl, sym, ap, ◌∙◌}
use mathlib.Core.Bool.{true, false}
use mathlib.Core.List.{List, ◌∷◌}
use mathlib.Core.Option.{Option, none, some}
use native.Mathlib.Omega.{arith}
use lib.ListN.{length, set, length-map}
use Rattle.std.specs.Prelude.{Some, None}
use Rattle.messages.specs.Fields.{VarintAt, varint_at, number_before, numbers_from}
use Rattle.messages.specs.Tiles.{is_read}
use Rattle.messages.specs.Meaning.{low32, or_nothing}
use Rattle.messages.proofs.Fields.{varint_ends, numbers_step, numbers_end}
use Rattle.reader.specs.Packed.{low_of, RoomFor, PutsAt}
use Rattle.reader.proofs.Laying.{Onward, onward_start, onward_one, onward_end, onward_room, onward_long}

pub low_long : (o : Option (List ℕ)) → length (low_of o) ≡ length (or_nothing o)
low_long o = length-map (or_nothing o) low32

read_before : (m : ℕ) (o : Option (List ℕ)) → is_read (number_before m o) ≡ is_read o
read_before m none = refl
read_before m (some ns) = refl

low_before : (m : ℕ) (o : Option (List ℕ)) → is_read o ≡ true → low_of (number_before m o) ≡ low32 m ∷ low_of o
low_before m none e = absurd (let z : ◌≡◌ {A = ℕ} 0 1 = cc in omega arith)
low_before m (some ns) e = refl

pub record Listing (src : List ℕ) (at from : ℕ) (out₀ out : List ℕ) (i n : ℕ) : Type 0 where
  pub can : is_read (numbers_from i src) ≡ true
  pub on : Onward (low_of (numbers_from at src)) from out₀ out n (low_of (numbers_from i src))

pub list_start : (src : List ℕ) (at from : ℕ) (out : List ℕ) → RoomFor (numbers_from at src) from out → Listing src at from out out at from
list_start src at from out r =
    record { can = r.can; on = onward_start (low_of (numbers_from at src)) from out (omega (arith, r.fits, low_long (numbers_from at src))) }

module _ {src : List ℕ} {at from : ℕ} {out₀ out : List ℕ} {i n : ℕ} (I : Listing src at from out₀ out i n) where
  pub list_long : length out ≡ length out₀
  list_long = onward_long I.on

  pub list_end : length src ≤ i → PutsAt from (low_of (numbers_from at src)) out₀ n out
  list_end h = onward_end I.on (ap low_of (numbers_end src i h))

  module _ (r : VarintAt) (h : i < length src) (e : r ≡ varint_at i src) where
    pub list_never : r ≡ None → ⊥
    list_never f =
        let v : varint_at i src ≡ None = sym e ∙ f in
        let g : numbers_from i src ≡ none = numbers_step src i h ∙ rw v refl in
        let b : false ≡ true = sym (ap is_read g) ∙ I.can in
        let z : ◌≡◌ {A = ℕ} 0 1 = cc in
        omega arith

    module _ (m next : ℕ) (f : r ≡ Some (m, next)) where
      there : varint_at i src ≡ Some (m, next)
      there = sym e ∙ f

      step : numbers_from i src ≡ number_before m (numbers_from next src)
      step = numbers_step src i h ∙ rw there refl

      can_next : is_read (numbers_from next src) ≡ true
      can_next = sym (read_before m (numbers_from next src)) ∙ sym (ap is_read step) ∙ I.can

      left : low_of (numbers_from i src) ≡ low32 m ∷ low_of (numbers_from next src)
      left = ap low_of step ∙ low_before m (numbers_from next src) can_next

      pub list_room : n < length out
      list_room = omega (arith, onward_room I.on, ap length left)

      pub list_less : length src - next < length src - i
      list_less = omega (arith, (varint_ends there).later)

      pub list_turn : (w : ℕ) → w ≡ m % 4294967296 → Listing src at from out₀ (set out n w) next (n + 1)
      list_turn w g = record { can = can_next; on = rw g (onward_one I.on (low32 m) (low_of (numbers_from next src)) left) }
