-- From the pieces to the needs, and from the needs to the processes of a machine.
use Rattle.std.proofs.Common.{◌≡◌, ℕ, zero, suc, ◌+◌, ◌++◌, length-append, ◌<◌, ◌≤◌, max, min, true, ◌&&◌, ◌==◌, List, [], ◌∷◌, length, slice_index_or, sym, ap, ◌∙◌, subst, inl, inr, arith}
use Rattle.std.specs.Prelude.{slice_get, nat_le, nat_lt}
use Rattle.std.proofs.lemmas.Bool.{and_parts, and_from, eqb-true, eq-eqb, ltb-true, lt-ltb, le-leb, false≢true, or_cases, or_left, or_right, cases_eq}
use Rattle.std.proofs.lemmas.List.{get_or_default, get_or_append_left}
use Rattle.std.proofs.Math.Seq.{get_or-append_seam}
use Rattle.row_machine.specs.Valuation.{has}
use Rattle.row_machine.proofs.Basics.{member_at, member-any, any-member, followed_bit, follows_writer}
use Rattle.row_machine.proofs.Members.{member-place}
use Rattle.bit_sets.specs.declared.span.Span.{Span}
use Rattle.bit_sets.specs.Sets.{covers, in_spans, nothing}
use Rattle.bit_sets.proofs.Laws as L
use Rattle.peel.specs.Peeled.{needed}
use Rattle.bit_needs.specs.declared.footprints.Footprint.{Footprint}
use Rattle.bit_needs.specs.declared.writers.Written.{Written}
use Rattle.bit_needs.specs.declared.writers.Writers.{Writers}
use Rattle.bit_needs.specs.Writers.{no_piece, writes_it, AreWriters}
use Rattle.bit_needs.specs.Touching.{touches, IsTouchedBy, AreTouched}
use Rattle.bit_needs.specs.Needs.{no_footprint, footprint_at, AreNeeds}
use Rattle.bit_needs.specs.Laws.{NeedsAreFollowed}
use Rattle.bit_needs.proofs.Touching.{AreTouchedEach}

-- a number lies in a span of a list
in-member : (ss : List Span) (i n : ℕ) → i < length ss → covers (slice_index_or ss i nothing) n ≡ true → in_spans ss n ≡ true
in-member ss i n low h = by ss i low h
  where
    by : (ss : List Span) (i : ℕ) → i < length ss → covers (slice_index_or ss i nothing) n ≡ true → in_spans ss n ≡ true
    by [] i low h = absurd (omega arith)
    by (s ∷ ss) zero low h = L.in-more s ss n ∙ or_left (covers s n) (in_spans ss n) h
    by (s ∷ ss) (suc i) low h = L.in-more s ss n ∙ or_right (covers s n) (in_spans ss n) (by ss i (omega (arith, low)) h)

member-in : (ss : List Span) (n : ℕ) → in_spans ss n ≡ true → (i : ℕ) × (i < length ss) × (covers (slice_index_or ss i nothing) n ≡ true)
member-in [] n h = absurd (false≢true (sym (L.in-none n) ∙ h))
member-in (s ∷ ss) n h = elim (or_cases (covers s n) (in_spans ss n) (sym (L.in-more s ss n) ∙ h)) [
  | inl here ↦ (0, omega arith, here)
  | inr more ↦ (let r = member-in ss n more in (suc r.0, omega (arith, r.1), r.2))
]

-- spans that touch have the greater beginning in common
common-first : (a b : Span) → touches a b ≡ true → (covers a (max a.low b.low) ≡ true) × (covers b (max a.low b.low) ≡ true)
common-first a b h =
    let lt = ltb-true (max a.low b.low) (min a.high b.high) h in
    let n : ℕ = max a.low b.low in (
      and_from (nat_le a.low n) (nat_lt n a.high) (le-leb a.low n (omega arith)) (lt-ltb n a.high (omega (arith, lt))),
      and_from (nat_le b.low n) (nat_lt n b.high) (le-leb b.low n (omega arith)) (lt-ltb n b.high (omega (arith, lt))),
    )

common-touch : (a b : Span) (n : ℕ) → covers a n ≡ true → covers b n ≡ true → touches a b ≡ true
common-touch a b n h g =
    let la = L.covers-low a n h in
    let ha = L.covers-high a n h in
    let lb = L.covers-low b n g in
    let hb = L.covers-high b n g in
    lt-ltb (max a.low b.low) (min a.high b.high) (omega (arith, la, ha, lb, hb))

-- who writes a number is there
written-there : (fs : List Footprint) (q n : ℕ) → writes_it (slice_get fs q) n ≡ true → (q < length fs) × (in_spans (footprint_at fs q).writes n ≡ true)
written-there [] q n h = absurd (false≢true h)
written-there (f ∷ fs) zero n h = (omega arith, h)
written-there (f ∷ fs) (suc q) n h = let r = written-there fs q n h in (omega (arith, r.0), r.1)

there-written : (fs : List Footprint) (q n : ℕ) → q < length fs → in_spans (footprint_at fs q).writes n ≡ true → writes_it (slice_get fs q) n ≡ true
there-written [] q n low h = absurd (omega arith)
there-written (f ∷ fs) zero n low h = h
there-written (f ∷ fs) (suc q) n low h = there-written fs q n (omega (arith, low)) h

module _ (fs : List Footprint) (w : Writers) (are : AreWriters fs w) where
  meets-touched : (reads : List Span) (q : ℕ) → IsTouchedBy w.written reads q → (q < length fs) × ((n : ℕ) × (in_spans reads n ≡ true) × (in_spans (footprint_at fs q).writes n ≡ true))
  meets-touched reads q t =
      let s = slice_index_or reads t.place nothing in
      let p = slice_index_or w.written t.touched.at no_piece in
      let n : ℕ = max p.span.low s.low in
      let both = common-first p.span s t.touched.common in
      let told = member-any (λ (v : Written). (v.by == q) && covers v.span n) w.written p (member_at w.written t.touched.at no_piece t.touched.within) (and_from (p.by == q) (covers p.span n) (eq-eqb p.by q t.touched.by) both.0) in
      let there = written-there fs q n (sym (are.tells_writes q n) ∙ told) in
      (there.0, (n, in-member reads t.place n t.within both.1, there.1))

  touched-meets : (reads : List Span) (q n : ℕ) → q < length fs → in_spans reads n ≡ true → in_spans (footprint_at fs q).writes n ≡ true → IsTouchedBy w.written reads q
  touched-meets reads q n low read written =
      let r = member-in reads n read in
      let any = any-member (λ (v : Written). (v.by == q) && covers v.span n) w.written (are.tells_writes q n ∙ there-written fs q n low written) in
      let at = member-place w.written any.0 any.1 in
      let is : slice_index_or w.written at.0 no_piece ≡ any.0 = at_any w.written at.0 any.0 at.1 at.2 in
      let parts = and_parts (any.0.by == q) (covers any.0.span n) any.2 in
      record {
        place = r.0;
        within = r.1;
        touched = record {
          at = at.0;
          within = at.1;
          common = ap (λ (v : Written). touches v.span (slice_index_or reads r.0 nothing)) is ∙ common-touch any.0.span (slice_index_or reads r.0 nothing) n parts.1 r.2;
          by = ap (λ (v : Written). v.by) is ∙ eqb-true any.0.by q parts.0;
        };
      }
    where
      at_any : (ws : List Written) (k : ℕ) (x : Written) → k < length ws → slice_index_or ws k x ≡ x → slice_index_or ws k no_piece ≡ x
      at_any ws k x low is = get_or_default ws k no_piece x low ∙ is

  pub needs-are : (k : ℕ) (needs : List (List ℕ)) → length fs ≤ k → k ≤ length fs → AreTouchedEach w.written fs k needs → AreNeeds fs needs
  needs-are k needs all within each = record {
    count = let n = each.count in omega (arith, n);
    only = λ p q low m.
        let t = meets-touched (footprint_at fs p).reads q ((each.each p (omega arith)).only q m) in
        (t.0, record { number = t.1.0; read = t.1.1; written = t.1.2 });
    every = λ p q low there m. (each.each p (omega arith)).every q (touched-meets (footprint_at fs p).reads q m.number there m.read m.written);
  }

-- the needs of one more thing
pub each-more : (ws : List Written) (fs : List Footprint) (k : ℕ) (needs new : List (List ℕ)) (reads : List Span) (f : Footprint) (list : List ℕ)
    → k < length fs → f ≡ slice_index_or fs k f → AreTouchedEach ws fs k needs → reads ≡ f.reads → AreTouched ws reads list → new ≡ needs ++ list ∷ [] → AreTouchedEach ws fs (k + 1) new
each-more ws fs k needs new reads f list within is each same here grown = record {
  count = ap length grown ∙ length-append needs (list ∷ []) ∙ ap (λ n. n + 1) each.count;
  each = λ p below. elim (cases_eq p k) [
    | inl at ↦ (let its : needed new p ≡ list = ap (λ (xs : List (List ℕ)). slice_index_or xs p []) grown ∙ ap (λ j. slice_index_or (needs ++ list ∷ []) j []) (at ∙ sym each.count) ∙ get_or-append_seam needs list [] [] in
        let reading : reads ≡ (footprint_at fs p).reads = same ∙ ap (λ (g : Footprint). g.reads) (is ∙ get_or_default fs k f f within ∙ get_or_default fs k f no_footprint within ∙ ap (footprint_at fs) (sym at)) in
        subst (λ xs. AreTouched ws (footprint_at fs p).reads xs) (sym its) (subst (λ ss. AreTouched ws ss list) reading here))
    | inr other ↦ (let its : needed new p ≡ needed needs p = ap (λ (xs : List (List ℕ)). slice_index_or xs p []) grown ∙ get_or_append_left needs (list ∷ []) [] p (let n = each.count in omega arith) in
        subst (λ xs. AreTouched ws (footprint_at fs p).reads xs) (sym its) (each.each p (omega arith)))
  ];
}

-- each process needs those that it follows
pub needs_are_followed : NeedsAreFollowed
needs_are_followed place fs ps d needs are n = record {
  count = n.count ∙ are.count;
  followed = λ p q low there m.
      let meets = (n.only p q (omega (arith, are.count)) m).1 in
      follows_writer (slice_index_or ps p d) (slice_index_or ps q d) (place meets.number)
      (sym ((are.each p low).reads meets.number) ∙ meets.read) (sym ((are.each q there).writes meets.number) ∙ meets.written);
  needs_it = λ p q low there f.
      let bit = followed_bit (slice_index_or ps p d) (slice_index_or ps q d) f in
      let number = (are.each q there).numbered bit.0 bit.2 in
      n.every p q (omega (arith, are.count)) (omega (arith, are.count)) (record {
        number = number.0;
        read = (are.each p low).reads number.0 ∙ ap (has (slice_index_or ps p d).reads) number.1 ∙ bit.1;
        written = (are.each q there).writes number.0 ∙ ap (has (slice_index_or ps q d).writes) number.1 ∙ bit.2;
      });
}
