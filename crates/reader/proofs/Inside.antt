-- What a call hands out stands inside the bytes, so that a caller can go on from its end: the place behind a key is its start and its length.
use Prim.Native.Nat.{ℕ, ◌+◌, ◌≤◌}
use mathlib.Core.Path.{◌≡◌, refl, sym, ap, ◌∙◌}
use mathlib.Core.Bool.{Bool, true, false, cond}
use mathlib.Core.List.{List}
use native.Mathlib.Omega.{arith}
use lib.ListN.{length, take, length-take}
use Rattle.std.specs.Prelude.{Some, None, Ok, Err}
use Rattle.refusal.specs.declared.Refusal.TheVariants.{State}
use Rattle.refusal.specs.Said.{plain}
use Rattle.wire.specs.declared.field.Field.TheVariants.{LayerKey}
use Rattle.wire.specs.Schema.{key_of}
use Rattle.messages.specs.declared.key.Kind.TheVariants.{Layer as layer}
use Rattle.messages.specs.Tiles.{Verdict, Answers}
use Rattle.reader.specs.declared.layers.Part.{Part}
use Rattle.reader.specs.Finding.{Found, first_of}
use Rattle.reader.specs.Heads.{part_of}
use Rattle.reader.specs.Answers.{NextKey, within, key_found, next_key}
use Rattle.reader.proofs.Finding.{found_at}

module _ (src : List ℕ) (at end : ℕ) (v : Verdict) (p : Part) where
  by_found : (r : Found) → first_of layer (key_of LayerKey) at (take end src) ≡ r → key_found v r ≡ Ok (Some p) → p.start + p.len ≤ length src
  by_found (Ok (Some f)) h e =
      let k = found_at layer (key_of LayerKey) (take end src) h in
      let s : part_of f ≡ p = cc in
      let a : f.start ≡ p.start = ap (λ (q : Part). q.start) s in
      let b : (part_of f).len ≡ p.len = ap (λ (q : Part). q.len) s in
      omega (arith, k.ordered, k.inside, length-take end src)
  by_found (Ok None) h e = absurd (let z : ◌≡◌ {A = ℕ} 0 1 = cc in omega arith)
  by_found (Err c) h e = absurd (let z : ◌≡◌ {A = ℕ} 0 1 = cc in omega arith)

  by_places : (b : Bool) → cond b (key_found v (first_of layer (key_of LayerKey) at (take end src))) (Err (plain State)) ≡ Ok (Some p) → p.start + p.len ≤ length src
  by_places true e = by_found (first_of layer (key_of LayerKey) at (take end src)) refl e
  by_places false e = absurd (let z : ◌≡◌ {A = ℕ} 0 1 = cc in omega arith)

-- the place behind a key
pub key_inside : {src : List ℕ} (at end : ℕ) {r : NextKey} {p : Part} → r ≡ Ok (Some p) → Answers src (next_key at end src) r → p.start + p.len ≤ length src
unfolding next_key
key_inside {src} at end {r} {p} e a = by_places src at end a.verdict p (within at end src) (sym a.is ∙ e)
