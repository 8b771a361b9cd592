-- The loop of a stretch, over plain lists and numbers: what is left to take gives the rest of the answer.
use mathlib.Core.Path.{◌≡◌, refl, sym, ◌∙◌, ap, subst}
use mathlib.Core.Bool.{Bool, true, false, cond, not, ◌&&◌, ◌||◌}
use mathlib.Core.List.{List}
use Prim.Native.Nat.{ℕ, suc, ◌+◌, ◌-◌, ◌*◌, ◌/◌, ◌^◌, ◌≤◌, ◌<◌}
use native.Mathlib.Omega.{arith}
use borrow.Author.Tests.{le-leb, lt-leb, leb-true, not-true, not-false}
use lib.Dec.{leb, eqb}
use borrow.Author.Rules.{sfits_of}
use lib.IntN.{ℤ, pos}
use lib.Signed.{mag}
use lib.ListN.{length, get_or}
use mir.Syntax.{w32}
use mir.Val.{of_z, to_z}
use mir.Facts.{to_z-of_z}
use Rattle.promise.specs.Answers.{Gives, kept}
use Rattle.promise.proofs.Cases.{gives_kept}
use Rattle.clip.specs.declared.Pt.{Pt}
use Rattle.clip.specs.declared.BBox.{BBox}
use Rattle.clip.specs.Domain.{is_coord, is_good}
use Rattle.clip.proofs.Callers.{coord_facts}
use Rattle.words.specs.Geometries.{max_words, room}
use Rattle.encoder.specs.declared.GeomEncoder.{GeomEncoder}
use Rattle.encoder.specs.States.{Sound}
use Rattle.encoder.specs.Adding.{counted, added}
use Rattle.promise.proofs.Joined.{both}
use Rattle.words.proofs.Rooms.{room_length, room_cap}
use Rattle.encoder.specs.Boundary.{outside}
use Rattle.encoder.specs.declared.pen.Pen.{Pen}
use Rattle.encoder.specs.declared.stretch.Stretch.{Stretch}
use Rattle.encoder.specs.Stretches.{is_start, Ongoing, emissions_by, reckoned, spare_of, Counting, point_in, halted, run, last_point, stretched}
use Rattle.number.specs.Least.{smaller}
use Rattle.number.proofs.Least.{smaller_le}
use Rattle.encoder.specs.Tallies.{counts_fit}
use Rattle.encoder.specs.declared.draft.Draft.{Draft}
use Rattle.encoder.specs.Drafts.{draft_of}
use Rattle.encoder.specs.Pens.{state_of, drawn_by, Steady}
use Rattle.encoder.proofs.Tests.{inside_coord, pen_whole}
use Rattle.encoder.proofs.Marks.{drawn_raw}
use Rattle.encoder.proofs.Plain.{ongoing_start, Next, brings, next_is}
use Rattle.encoder.proofs.Tallies.{Counts, counts_fit_lem}

-- the point that the code reads
pub point_is : (l : List ℤ) (i : ℕ) → mag (get_or l (2 * i) (pos 0)) < 2 ^ 31 → mag (get_or l (2 * i + 1) (pos 0)) < 2 ^ 31 →
    ◌≡◌ {A = Pt} (record { x = to_z w32 (of_z w32 (get_or l (2 * i) (pos 0))); y = to_z w32 (of_z w32 (get_or l (2 * i + 1) (pos 0))) }) (point_in l i)
point_is l i m n = rw (to_z-of_z (sfits_of m), to_z-of_z (sfits_of n))

pub record Drawing (s : GeomEncoder) (l : List ℤ) (from end : ℕ) (out₀ : List ℕ) (bbox : BBox) (ring : Bool) (most : ℕ) (start : Pen) (out : List ℕ) (pen : Pen) (away : Bool) (i : ℕ) : Type 0 where
  pub was : away ≡ outside bbox pen.raw
  pub box : bbox ≡ s.bbox
  pub rings : ring ≡ eqb s.kind 3
  pub room : most ≡ room (length out)
  pub long : length out ≡ length out₀
  pub since : from ≤ i
  pub extra : ℕ
  pub sum : emissions_by pen ≡ emissions_by start + (i - from) + extra
  pub ongoing : Ongoing (counted (i - from) extra s) pen (length out)
  pub counting : Counting (state_of (counted (i - from) extra s) pen) (end - i)
  pub rest : run (end - from) l from (state_of s start) out₀ ≡ run (end - i) l i (state_of (counted (i - from) extra s) pen) out

-- points counted after points
none_counted : (s : GeomEncoder) → counted 0 0 s ≡ s
none_counted s =
    let a : s.tally.taken + 0 ≡ s.tally.taken = omega arith in
    let b : s.tally.boundary + 0 ≡ s.tally.boundary = omega arith in
    rw (a, b)

one_counted : (s : GeomEncoder) (n m b : ℕ) → counted 1 b (counted n m s) ≡ counted (n + 1) (m + b) s
one_counted s n m b =
    let e : s.tally.taken + n + 1 ≡ s.tally.taken + (n + 1) = omega arith in
    let f : s.tally.boundary + m + b ≡ s.tally.boundary + (m + b) = omega arith in
    rw (e, f)

pub draw_start : (s : GeomEncoder) (l : List ℤ) (from end : ℕ) (out : List ℕ) (most : ℕ) (start : Pen) → Ongoing s start (length out) → Counting (state_of s start) (end - from) → most ≡ room (length out) →
    (away : Bool) → away ≡ outside s.bbox start.raw → Drawing s l from end out s.bbox (eqb s.kind 3) most start out start away from
draw_start s l from end out most start e k m away w =
    let z : from - from ≡ 0 = omega arith in
    let i : counted (from - from) 0 s ≡ s = rw z (none_counted s) in
    record {
      was = w;
      box = refl;
      rings = refl;
      room = m;
      long = refl;
      since = omega arith;
      extra = 0;
      sum = omega arith;
      ongoing = rw i e;
      counting = subst (λ (x : GeomEncoder). Counting (state_of x start) (end - from)) (sym i) k;
      rest = ap (λ (x : GeomEncoder). run (end - from) l from (state_of x start) out) (sym i);
    }

pub few_points : {s : GeomEncoder} {pen : Pen} {n : ℕ} → Ongoing s pen n → pen.count ≤ max_words
few_points {n = n} O = omega (arith, O.sound.valid.counted, O.sound.valid.fits, room_cap n)

module _ (s : GeomEncoder) (l : List ℤ) (from end : ℕ) (out₀ : List ℕ) (bbox : BBox) (ring : Bool) (most : ℕ) (start : Pen) (out : List ℕ) (pen : Pen) (away : Bool) (i : ℕ)
    (I : Drawing s l from end out₀ bbox ring most start out pen away i) where
  good_box : is_good bbox ≡ true
  good_box = rw I.box I.ongoing.sound.valid.good

  few_words : pen.used ≤ max_words
  few_words = omega (arith, I.ongoing.sound.valid.fits, room_cap (length out))

  -- the state as the definition has it, and as it is reckoned from the emissions
  abbrev here : GeomEncoder
  here = counted (i - from) I.extra s

  reckoned_is : reckoned s start pen (i - from) ≡ state_of here pen
  reckoned_is = let e : emissions_by pen - emissions_by start - (i - from) ≡ I.extra = omega (arith, I.sum) in rw e

  pub draw_end : end ≤ i → (r : GeomEncoder) → r ≡ reckoned s start pen (i - from) → Gives (run (end - from) l from (state_of s start) out₀) (record { state = r; reached = i }) out
  draw_end h r e = let z : end - i ≡ 0 = omega arith in rw (I.rest, z, e, reckoned_is) (gives_kept (halted (state_of here pen) i) out)

  pub state_asked : counts_fit (state_of s start).tally ≡ true → start.count ≤ max_words →
      (pen.count ≤ max_words) × ((start.count ≤ max_words) × ((counts_fit (state_of s start).tally ≡ true) × ((counts_fit (reckoned s start pen (i - from)).tally ≡ true) × (emissions_by start + (i - from) ≤ emissions_by pen))))
  state_asked k f = (few_points I.ongoing, (f, (k, (ap (λ (x : GeomEncoder). counts_fit x.tally) reckoned_is ∙ I.counting.fits, omega (arith, I.sum)))))

  pub plain_asked : (p : Pt) (t : Bool) → t ≡ outside bbox p → (pen.used ≤ max_words) × (t ≡ false → is_coord p ≡ true)
  plain_asked p t e = (few_words, λ f. inside_coord bbox p good_box (sym e ∙ f))

  module _ (p : Pt) (u : Bool) (v : u ≡ outside bbox p) (t : Bool) (e : t ≡ (leb (pen.used + 6) most && is_coord p)) where
    module _ (n : not t ≡ false) where
      plain : (pen.used + 6 ≤ room (length out)) × (is_coord p ≡ true)
      plain =
          let (a, b) = both (leb (pen.used + 6) most) (is_coord p) (sym e ∙ not-false t n) in
          (let x = leb-true (pen.used + 6) most a in omega (arith, I.room), b)

      pub draw_asked : i < end → (is_good bbox ≡ true) × (Steady pen (length out) × ((is_coord p ≡ true) × ((away || u) ≡ (outside bbox pen.raw || outside bbox p))))
      draw_asked h =
          let x = I.ongoing.sound.valid in
          let k = I.counting.spare (omega arith) in (
            good_box,
            (
              record {
                able = record {
                  room = omega (arith, plain.0, room_length (length out));
                  few = omega (arith, plain.0, room_cap (length out));
                  two = I.ongoing.two;
                  counted = x.counted;
                  lost = omega (arith, x.balanced);
                  at0 = coord_facts x.at0;
                  at1 = coord_facts x.at1;
                };
                raw = x.end;
              },
              (plain.1, λ j. I.was j || v j),
            ),
          )

    module _ (h : i < end) (f : p ≡ point_in l i) where
      opened : run (end - from) l from (state_of s start) out₀ ≡
          cond t (run (end - (i + 1)) l (i + 1) (added (state_of here pen) p out).answer.values.state (added (state_of here pen) p out).memory) (kept (halted (state_of here pen) i) out)
      opened =
          let n : end - i ≡ suc (end - (i + 1)) = omega arith in
          I.rest ∙ rw (n, e, I.room, f)

      pub draw_stop : not t ≡ true → (r : GeomEncoder) → r ≡ reckoned s start pen (i - from) → Gives (run (end - from) l from (state_of s start) out₀) (record { state = r; reached = i }) out
      draw_stop n r k = rw (opened, not-true t n, k, reckoned_is) (gives_kept (halted (state_of here pen) i) out)

      pub draw_turn : (n : not t ≡ false) (next : Pen) (o : List ℕ) → Gives (drawn_by bbox ring pen p out) next o → Drawing s l from end out₀ bbox ring most start o next u (i + 1)
      draw_turn n next o g =
          let g' : Gives (drawn_by s.bbox (eqb s.kind 3) pen p out) next o = rw (I.box, I.rings) at g in
          let b = brings s pen p in
          let r = I.counting.spare (omega arith) in
          let N : Next here pen p out b next o = rw (g'.answer, g'.memory) (next_is here pen p out I.ongoing (plain n).1 (plain n).0 (omega arith)) in
          let m : i + 1 - from ≡ i - from + 1 = omega (arith, I.since) in
          let z : counted 1 b here ≡ counted (i + 1 - from) (I.extra + b) s = one_counted s (i - from) I.extra b ∙ rw m in
          record {
            was = v ∙ ap (outside bbox) (sym (ap (λ (x : Pen). x.raw) g'.answer ∙ drawn_raw s.bbox (eqb s.kind 3) pen p out));
            box = I.box;
            rings = I.rings;
            room = rw N.long I.room;
            long = N.long ∙ I.long;
            since = omega (arith, I.since);
            extra = I.extra + b;
            sum = omega (arith, N.sum, I.sum, I.since);
            ongoing = subst (λ (x : GeomEncoder). Ongoing x next (length o)) z N.ongoing;
            counting = subst (λ (x : GeomEncoder). Counting (state_of x next) (end - (i + 1))) z (record { fits = N.fits; spare = λ q. omega (arith, N.few) });
            rest = opened ∙ (rw (not-false t n, N.accepted)) ∙ ap (λ (x : GeomEncoder). run (end - (i + 1)) l (i + 1) (state_of x next) o) z;
          }

-- ---- the returns of `within`
module _ (from end most : ℕ) where
  pub none_left : end ≤ from → (end - from ≡ smaller (end - from) most) × (end ≤ end)
  none_left h = let z : end - from ≡ 0 = omega arith in (rw (z, le-leb 0 most (omega arith)), omega arith)

  pub all_left : end - from ≤ most → (end - from ≡ smaller (end - from) most) × (end ≤ end)
  all_left h = (rw (le-leb (end - from) most h), omega arith)

  pub some_left : from < end → most < end - from → (from + most - from ≡ smaller (end - from) most) × (from + most ≤ end)
  some_left g h = (rw (lt-leb (end - from) most h) (omega arith), omega arith)

-- ---- the returns of `add_stretch`
module _ (s : GeomEncoder) (l : List ℤ) (from to : ℕ) (out : List ℕ) (d : Draft) (f : d ≡ draft_of s) (t : Bool) (e : t ≡ is_start d) where
  starts : t ≡ is_start (draft_of s)
  starts = e ∙ ap is_start f

  pub stretch_none : not t ≡ true → Gives (stretched s l from to out) (record { state = s; reached = from }) out
  unfolding stretched
  stretch_none h = rw (sym starts ∙ not-true t h) (gives_kept (halted s from) out)

  module _ (h : not t ≡ false) where
    begins : is_start (draft_of s) ≡ true
    begins = sym starts ∙ not-false t h

    whole : state_of s d.pen ≡ s
    whole = ap (λ (x : Draft). state_of s x.pen) f ∙ pen_whole s begins

    pub stretch_asked : (n : ℕ) → Sound s n → Ongoing s d.pen n
    stretch_asked n S = subst (λ (x : Draft). Ongoing s x.pen n) (sym f) (ongoing_start s n S begins)

    -- the end that a stretch goes to, with so many points to spare
    pub stretch_run : (end last : ℕ) → last ≡ last_point (length l) to → (m : ℕ) → m ≡ spare_of s.tally → end - from ≡ smaller (last - from) m → (r : Stretch) (o : List ℕ) → Gives (run (end - from) l from (state_of s d.pen) out) r o → Gives (stretched s l from to out) r o
    unfolding stretched
    stretch_run end last k m j z r o g = rw begins (rw (whole, z, k, j) at g)

    pub counting_asked : Counts s.tally → (end last m : ℕ) → m ≡ spare_of s.tally → end - from ≡ smaller (last - from) m → Counting (state_of s d.pen) (end - from)
    counting_asked k end last m j z = rw whole (record {
      fits = counts_fit_lem s.tally k;
      spare = λ q. omega (arith, (smaller_le (last - from) m).1);
    })

pub last_within : (n to end : ℕ) → end ≡ last_point n to → end ≤ n / 2
last_within n to end e = by (leb to (n / 2)) refl e
  where
    by : (b : Bool) → leb to (n / 2) ≡ b → end ≡ cond b to (n / 2) → end ≤ n / 2
    by true f g = let h = leb-true to (n / 2) f in omega arith
    by false f g = omega arith
