-- The greatest ends up to each piece.
use Rattle.std.proofs.Common.{◌≡◌, ℕ, ◌+◌, ◌-◌, ◌<◌, ◌≤◌, max, List, [], ◌∷◌, ◌++◌, length, slice_index_or, refl, sym, ap, ◌∙◌, inl, inr, arith, length-append}
use Rattle.std.specs.List.Sorted.{IsNonDecreasing}
use Rattle.std.proofs.lemmas.List.{get_or_append_left}
use Rattle.std.proofs.lemmas.List.Sorted.{IsNonDecreasingBy-push, IsNonDecreasingBy-short}
use Rattle.std.proofs.Math.Seq.{get_or-append_seam}
use Rattle.std.proofs.lemmas.Bool.{cases_eq}
use Rattle.bit_needs.specs.declared.writers.Written.{Written}
use Rattle.bit_needs.specs.Writers.{no_piece, AreReached}

-- of the first k pieces, the last of which is reached by `last`
pub record AreReachedUpTo (ws : List Written) (k : ℕ) (ends : List ℕ) (last : ℕ) : Type 0 where
  pub count : length ends ≡ k
  pub reached : (j : ℕ) → j < k → (slice_index_or ws j no_piece).span.high ≤ slice_index_or ends j 0
  pub ordered : IsNonDecreasing ends
  pub below : (j d : ℕ) → j < length ends → slice_index_or ends j d ≤ last

pub reached-none : (ws : List Written) (last : ℕ) → AreReachedUpTo ws 0 [] last
reached-none ws last = record {
  count = refl;
  reached = λ j below. absurd (omega arith);
  ordered = IsNonDecreasingBy-short (λ x. x) [] (omega arith);
  below = λ j d low. absurd (omega arith);
}

module _ (ends : List ℕ) (next : ℕ) where
  new-at : (j k d : ℕ) → length ends ≡ k → j ≡ k → slice_index_or (ends ++ next ∷ []) j d ≡ next
  new-at j k d count is = ap (λ i. slice_index_or (ends ++ next ∷ []) i d) (is ∙ sym count) ∙ get_or-append_seam ends next [] d

pub reached-more : (ws : List Written) (k : ℕ) (ends : List ℕ) (last : ℕ) → AreReachedUpTo ws k ends last
    → AreReachedUpTo ws (k + 1) (ends ++ max (slice_index_or ws k no_piece).span.high last ∷ []) (max (slice_index_or ws k no_piece).span.high last)
reached-more ws k ends last a = record {
  count = length-append ends (next ∷ []) ∙ ap (λ n. n + 1) a.count;
  reached = λ j below. elim (cases_eq j k) [
    | inl same ↦ (let here = new-at ends next j k 0 a.count same in
        let high = ap (λ i. (slice_index_or ws i no_piece).span.high) same in
        omega (arith, here, high))
    | inr other ↦ (let before = a.reached j (omega arith) in
        let same = get_or_append_left ends (next ∷ []) 0 j (let n = a.count in omega arith) in
        omega (arith, before, same))
  ];
  ordered = IsNonDecreasingBy-push (λ x. x) ends next a.ordered (λ d some. let h = a.below (length ends - 1) d (omega arith) in omega (arith, h));
  below = λ j d low. elim (cases_eq j k) [
    | inl same ↦ (let here = new-at ends next j k d a.count same in omega (arith, here))
    | inr other ↦ (let many = length-append ends (next ∷ []) in
        let n = a.count in
        let within : j < length ends = omega (arith, many, low, n) in
        let before = a.below j d within in
        let same = get_or_append_left ends (next ∷ []) d j within in
        omega (arith, before, same))
  ];
}
  where
    next : ℕ
    next = max (slice_index_or ws k no_piece).span.high last

pub reached-all : (ws : List Written) (k : ℕ) (ends : List ℕ) (last : ℕ) → k ≡ length ws → AreReachedUpTo ws k ends last → AreReached ws ends
reached-all ws k ends last all a = record {
  count = a.count ∙ all;
  reached = λ j below. a.reached j (omega (arith, all, below));
  ordered = a.ordered;
}
