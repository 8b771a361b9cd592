-- A whole feature: the tags of a lent list are those that its words give, and after an accepted call the drawing has the feature more.
use Prim.Native.Nat.{ℕ, ◌%◌, ◌/◌, ◌≤◌, ◌<◌}
use mathlib.Core.Path.{◌≡◌, refl, sym, subst}
use mathlib.Core.Bool.{Bool, true, false, cond}
use mathlib.Core.List.{List, [], ◌∷◌, ◌++◌, append_assoc, append-nil}
use mathlib.Core.Option.{Option, none, some}
use native.Mathlib.Omega.{arith}
use lib.ListN.{length}
use lib.Dec.{leb, eqb, ltb}
use borrow.Author.Tests.{eqb-true, eqb-false, leb-true, ltb-true, ltb-false}
use Rattle.promise.proofs.Joined.{cond_both}
use Rattle.table.specs.Texts.{inside, text_of}
use Rattle.table.specs.Values.{value_ok}
use Rattle.whole.specs.Twos.{wide, signed64}
use Rattle.whole.proofs.Twos.{twos_high}
use Rattle.layer.specs.declared.Figures.{Figures}
use Rattle.std.specs.Prelude.{Some, None}
use Rattle.layer.specs.declared.whole_feature.Head.{Head}
use Rattle.layer.specs.Held.{Seen}
use Rattle.layer.specs.Calls.{Tag as Stored, bits_of, bit_of, tag_put}
use Rattle.layer.specs.TagLists.{tag_ok, tags_ok, tag_of as tagStored, tags_of}
use Rattle.layer.specs.Whole.{feature_opened, tags_put, feature_put, add_feature}
use Rattle.layer.proofs.Fitting.{both, never}
use Rattle.layer.proofs.Growth.{same_feature}
use Rattle.layer.proofs.Checked.{by_feature}
use Rattle.layer.proofs.Features.{feature_room}
use Rattle.given.specs.Given.{Content, Tag, Feature, Drawing, drawn, on_open, tagged, after, tags, added}
use Rattle.given.specs.Asked.{tag_of, content_at, tags_given, id_given, feature_given, Int64, Fine, Words}
use Rattle.given.specs.Layout.{mark_of, number_of, Stands}
use Rattle.given.proofs.Numbers.{low_half, high_half}
use Rattle.given.proofs.Standing.{Kept, opened_stands, tag_stands, closed_stands}

-- ---- 64 bits as a number, and back
signed_fits : (n : ℕ) → n < 18446744073709551616 → (Int64 (signed64 n)) × (bits_of (signed64 n) ≡ n)
signed_fits n h = by (ltb n 9223372036854775808) refl
  where
    by : (b : Bool) → ltb n 9223372036854775808 ≡ b → (Int64 (signed64 n)) × (bits_of (signed64 n) ≡ n)
    by true e = rw e (ltb-true n 9223372036854775808 e, refl)
    by false e =
        let l = ltb-false n 9223372036854775808 e in
        rw (twos_high 9223372036854775808 18446744073709551615 n refl l (omega arith)) (omega arith, omega arith)

-- ---- the tag of five words is the one given
module _ (bytes : List ℕ) (start len kind low high : ℕ) (l : low < 4294967296) (h : high < 4294967296) where
  abbrev Given : Content → Type 0
  Given c = (tagStored bytes start len kind low high ≡ tag_of (text_of bytes start len) c) × Fine c

  -- a bool's content is 0 or 1
  bit_is : low ≤ 1 → bit_of (eqb low 1) ≡ low
  bit_is k = by (eqb low 1) refl
    where
      by : (b : Bool) → eqb low 1 ≡ b → bit_of b ≡ low
      by true e = sym (eqb-true low 1 e)
      by false e = omega (arith, eqb-false low 1 e)

  small : low % 4294967296 ≡ low
  small = omega arith

  none_behind : high ≡ 0 → low / 4294967296 ≡ high
  none_behind e = omega arith

  tag_given : value_ok (length bytes) kind low high ≡ true → Given (content_at bytes kind low high)
  tag_given ok = by (eqb kind 1) (eqb kind 2) (eqb kind 3) (eqb kind 4) (eqb kind 5) (eqb kind 6) (eqb kind 7) refl refl refl refl refl refl refl
    where
      back : bits_of (signed64 (wide low high)) ≡ wide low high
      back = (signed_fits (wide low high) (omega arith)).1

      fits64 : Int64 (signed64 (wide low high))
      fits64 = (signed_fits (wide low high) (omega arith)).0

      by : (a b c d e f g : Bool) → eqb kind 1 ≡ a → eqb kind 2 ≡ b → eqb kind 3 ≡ c → eqb kind 4 ≡ d → eqb kind 5 ≡ e → eqb kind 6 ≡ f → eqb kind 7 ≡ g → Given (content_at bytes kind low high)
      by true b c d e f g p q r s t u x = rw (eqb-true kind 1 p) (refl, tt)
      by false true c d e f g p q r s t u x =
          let k = eqb-true kind 2 q in
          let z : high ≡ 0 = eqb-true high 0 (rw k at ok) in
          rw (k, small, none_behind z) (refl, l)
      by false false true d e f g p q r s t u x = rw (eqb-true kind 3 r, low_half low high l, high_half low high l) (refl, tt)
      by false false false true e f g p q r s t u x = rw (eqb-true kind 4 s, back, low_half low high l, high_half low high l) (refl, fits64)
      by false false false false true f g p q r s t u x = rw (eqb-true kind 5 t, low_half low high l, high_half low high l) (refl, tt)
      by false false false false false true g p q r s t u x = rw (eqb-true kind 6 u, back, low_half low high l, high_half low high l) (refl, fits64)
      by false false false false false false true p q r s t u x =
          let k = eqb-true kind 7 x in
          let m = both (leb low 1) (eqb high 0) (rw k at ok) in
          rw (k, bit_is (leb-true low 1 m.0), small, none_behind (eqb-true high 0 m.1)) (refl, tt)
      by false false false false false false false p q r s t u x =
          let m = both (leb 3 kind) (leb kind 6) (rw (p, q, x) at ok) in
          absurd (omega (arith, leb-true 3 kind m.0, leb-true kind 6 m.1, eqb-false kind 3 r, eqb-false kind 4 s, eqb-false kind 5 t, eqb-false kind 6 u))

-- ---- tags one after the other
abbrev tagged_all : List Tag → Feature → Feature
tagged_all ts f = record { kind = f.kind; id = f.id; geometry = f.geometry; tags = f.tags ++ ts }

tagged_none : (p : Option Feature) → on_open (tagged_all []) p ≡ p
tagged_none none = refl
tagged_none (some f) = rw append-nil

tagged_more : (t : Tag) (ts : List Tag) (p : Option Feature) → on_open (tagged_all ts) (on_open (tagged t) p) ≡ on_open (tagged_all (t ∷ ts)) p
tagged_more t ts none = refl
tagged_more t ts (some f) = rw (append_assoc f.tags (t ∷ []) ts)

tags_stand : (bytes ws : List ℕ) → tags_ok (length bytes) ws ≡ true → Words ws → (o : Figures) (v : Seen) (d : Drawing) → v.layer.feature ≡ Some o → Stands v d → Stands (tags_put o (tags_of bytes ws) v) (drawn d d.features (on_open (tagged_all (tags_given bytes ws)) d.pending))
tags_stand bytes [] e w o v d s S = rw (tagged_none d.pending) S
tags_stand bytes (a ∷ []) e w o v d s S = never e
tags_stand bytes (a ∷ b ∷ []) e w o v d s S = never e
tags_stand bytes (a ∷ b ∷ c ∷ []) e w o v d s S = never e
tags_stand bytes (a ∷ b ∷ c ∷ x ∷ []) e w o v d s S = never e
tags_stand bytes (start ∷ len ∷ kind ∷ low ∷ high ∷ ws) e w o v d s S =
    let p = cond_both (tag_ok (length bytes) start len kind low high) (tags_ok (length bytes) ws) e in
    let ok = (both (inside (length bytes) start len) (value_ok (length bytes) kind low high) p.0).1 in
    let c = content_at bytes kind low high in
    let t : Tag = record { key = text_of bytes start len; value = c } in
    let G = tag_given bytes start len kind low high w.1.1.1.0 w.1.1.1.1.0 ok in
    let x = tagStored bytes start len kind low high in
    let T : Stands (tag_put o x v) (after (tags (text_of bytes start len) c) d) =
    subst (λ (y : Stored). Stands (tag_put o y v) (after (tags (text_of bytes start len) c) d)) (sym G.0) (tag_stands v d S o s (text_of bytes start len) c G.1) in
    rw (← tagged_more t (tags_given bytes ws) d.pending) (tags_stand bytes ws p.1 w.1.1.1.1.1 o (tag_put o x v) (after (tags (text_of bytes start len) c) d) s T)

-- ---- the whole
mark_is : (b : Bool) (n : ℕ) → cond b 1 0 ≡ mark_of (id_given b n)
mark_is true n = refl
mark_is false n = refl

number_is : (b : Bool) (n : ℕ) → cond b n 0 ≡ number_of (id_given b n)
number_is true n = refl
number_is false n = refl

module _ (f : Head) (words ws bytes : List ℕ) (g : Words ws) (v : Seen) (d : Drawing) (S : Stands v d) where
  put_stands : tags_ok (length bytes) ws ≡ true → v.layer.feature ≡ None → Stands (feature_put f words (tags_of bytes ws) v) (added (feature_given f words ws bytes) d)
  put_stands e s =
      let o = v.layer.used in
      let id = id_given f.has_id f.id in
      let B : Stands (feature_opened f words v) (drawn d d.features (some (record { kind = f.kind; id = id; geometry = words; tags = [] }))) =
      rw (mark_is f.has_id f.id, number_is f.has_id f.id) (opened_stands v d S s f.kind id words) in
      let T = tags_stand bytes ws e g o (feature_opened f words v) (drawn d d.features (some (record { kind = f.kind; id = id; geometry = words; tags = [] }))) refl B in
      let C = closed_stands (tags_put o (tags_of bytes ws) (feature_opened f words v)) (drawn d d.features (some (record { kind = f.kind; id = id; geometry = words; tags = tags_given bytes ws }))) T o (same_feature o (tags_of bytes ws) (feature_opened f words v)) in
      record { extent_is = C.extent_is; parts = C.parts }

  pub whole_stands : Kept (added (feature_given f words ws bytes) d) v (add_feature f words ws bytes v)
  whole_stands =
      let P = Kept (added (feature_given f words ws bytes) d) v in
      by_feature P f words ws bytes v (λ q. tt) (λ e k x u s a r.
      let C = put_stands e s in
      record { stands = record { extent_is = C.extent_is; parts = C.parts }; room = rw (feature_room f words (tags_of bytes ws) v) at r })
