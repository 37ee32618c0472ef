-- Pieces that have a number in common with spans.
use Rattle.std.proofs.Common.{◌≡◌, ◌⊎◌, ℕ, ◌+◌, ◌<◌, ◌≤◌, max, min, true, false, List, [], length, slice_index_or, sym, ap, ◌∙◌, subst, inl, inr, arith}
use Rattle.std.proofs.lemmas.Bool.{ltb-true, false≢true, cases_eq, cases_lt}
use Rattle.row_machine.specs.Valuation.{Member}
use Rattle.bit_sets.specs.declared.span.Span.{Span}
use Rattle.bit_sets.specs.Sets.{nothing}
use Rattle.peel.specs.Peeled.{needed}
use Rattle.bit_needs.specs.declared.footprints.Footprint.{Footprint}
use Rattle.bit_needs.specs.declared.writers.Written.{Written}
use Rattle.bit_needs.specs.declared.writers.Writers.{Writers}
use Rattle.bit_needs.specs.Writers.{no_piece, AreOrdered}
use Rattle.bit_needs.specs.Touching.{touches, IsTouched, IsTouchedBy, AddsOne, AddsTouched, AreTouched}
use Rattle.bit_needs.specs.Needs.{footprint_at}

-- what the first k pieces add
pub record AddsBelow (ws : List Written) (s : Span) (k : ℕ) (old new : List ℕ) : Type 0 where
  pub kept : (p : ℕ) → Member old p → Member new p
  pub added : (j : ℕ) → j < k → j < length ws → touches (slice_index_or ws j no_piece).span s ≡ true → Member new (slice_index_or ws j no_piece).by
  pub only : (q : ℕ) → Member new q → Member old q ⊎ IsTouched ws s q

touching-low : (a b : Span) → touches a b ≡ true → b.low < a.high
touching-low a b h = let lt = ltb-true (max a.low b.low) (min a.high b.high) h in omega (arith, lt)

touching-high : (a b : Span) → touches a b ≡ true → a.low < b.high
touching-high a b h = let lt = ltb-true (max a.low b.low) (min a.high b.high) h in omega (arith, lt)

-- none of the first pieces reaches the span
pub adds-start : (w : Writers) (s : Span) (first : ℕ) (to : List ℕ) → AreOrdered w → ((k : ℕ) → k < first → slice_index_or w.ends k 0 ≤ s.low) → AddsBelow w.written s first to to
adds-start w s first to o before = record {
  kept = λ p m. m;
  added = λ j below within common.
      let low = touching-low (slice_index_or w.written j no_piece).span s common in
      let high = o.ends.reached j within in
      let end = before j below in
      absurd (omega (arith, low, high, end));
  only = λ q m. inl m;
}

pub adds-more : (ws : List Written) (s : Span) (k : ℕ) (old mid new : List ℕ) → k < length ws → touches (slice_index_or ws k no_piece).span s ≡ true
    → AddsBelow ws s k old mid → AddsOne (slice_index_or ws k no_piece).by mid new → AddsBelow ws s (k + 1) old new
adds-more ws s k old mid new within common a one = record {
  kept = λ p m. one.kept p (a.kept p m);
  added = λ j below low here. elim (cases_eq j k) [
    | inl same ↦ subst (λ i. Member new (slice_index_or ws i no_piece).by) (sym same) one.added
    | inr other ↦ one.kept (slice_index_or ws j no_piece).by (a.added j (omega arith) low here)
  ];
  only = λ q m. elim (one.only q m) [
    | inl before ↦ a.only q before
    | inr same ↦ inr (record { at = k; within = within; common = common; by = sym same })
  ];
}

pub adds-none : (ws : List Written) (s : Span) (k : ℕ) (old mid : List ℕ) → touches (slice_index_or ws k no_piece).span s ≡ false → AddsBelow ws s k old mid → AddsBelow ws s (k + 1) old mid
adds-none ws s k old mid apart a = record {
  kept = a.kept;
  added = λ j below low here. elim (cases_eq j k) [
    | inl same ↦ absurd (false≢true (sym apart ∙ sym (ap (λ i. touches (slice_index_or ws i no_piece).span s) same) ∙ here))
    | inr other ↦ a.added j (omega arith) low here
  ];
  only = a.only;
}

-- all pieces that begin below the end of the span have been looked at
pub adds-stop : (w : Writers) (s : Span) (k : ℕ) (old new : List ℕ) → AreOrdered w → k < length w.written → s.high ≤ (slice_index_or w.written k no_piece).span.low
    → AddsBelow w.written s k old new → AddsTouched w.written s old new
adds-stop w s k old new o within past a = record {
  kept = a.kept;
  added = λ q t. subst (Member new) t.by (a.added t.at (early t) t.within t.common);
  only = a.only;
}
  where
    early : {q : ℕ} → (t : IsTouched w.written s q) → t.at < k
    early t =
        let low = touching-high (slice_index_or w.written t.at no_piece).span s t.common in
        elim (cases_lt t.at k) [
          | inl h ↦ h
          | inr h ↦ (let order = o.ordered k t.at no_piece h t.within in absurd (omega (arith, low, order, past)))
        ]

pub adds-end : (ws : List Written) (s : Span) (k : ℕ) (old new : List ℕ) → length ws ≤ k → AddsBelow ws s k old new → AddsTouched ws s old new
adds-end ws s k old new all a = record {
  kept = a.kept;
  added = λ q t. subst (Member new) t.by (a.added t.at (let h = t.within in omega (arith, h)) t.within t.common);
  only = a.only;
}

-- those that one of the first k spans touches
pub record AreTouchedUpTo (ws : List Written) (reads : List Span) (k : ℕ) (qs : List ℕ) : Type 0 where
  pub every : (i q : ℕ) → i < k → IsTouched ws (slice_index_or reads i nothing) q → Member qs q
  pub only : (q : ℕ) → Member qs q → IsTouchedBy ws reads q

pub touched-none : (ws : List Written) (reads : List Span) → AreTouchedUpTo ws reads 0 []
touched-none ws reads = record { every = λ i q below t. absurd (omega arith); only = λ q m. elim m [ ] }

pub touched-more : (ws : List Written) (reads : List Span) (k : ℕ) (qs new : List ℕ) → k < length reads → AreTouchedUpTo ws reads k qs
    → AddsTouched ws (slice_index_or reads k nothing) qs new → AreTouchedUpTo ws reads (k + 1) new
touched-more ws reads k qs new within a more = record {
  every = λ i q below t. elim (cases_eq i k) [
    | inl same ↦ more.added q (subst (λ j. IsTouched ws (slice_index_or reads j nothing) q) same t)
    | inr other ↦ more.kept q (a.every i q (omega arith) t)
  ];
  only = λ q m. elim (more.only q m) [
    | inl before ↦ a.only q before
    | inr t ↦ record { place = k; within = within; touched = t }
  ];
}

pub touched-all : (ws : List Written) (reads : List Span) (k : ℕ) (qs : List ℕ) → length reads ≤ k → AreTouchedUpTo ws reads k qs → AreTouched ws reads qs
touched-all ws reads k qs all a = record {
  every = λ q t. a.every t.place q (let h = t.within in omega (arith, h)) t.touched;
  only = a.only;
}

-- the needs of the first k things
pub record AreTouchedEach (ws : List Written) (fs : List Footprint) (k : ℕ) (needs : List (List ℕ)) : Type 0 where
  pub count : length needs ≡ k
  pub each : (p : ℕ) → p < k → AreTouched ws (footprint_at fs p).reads (needed needs p)
