-- The footprints of one process after another.
use Rattle.std.proofs.Common.{◌≡◌, inl, inr, ℕ, zero, suc, ◌+◌, ◌<◌, List, [], ◌∷◌, ◌++◌, length, slice_index_or, refl, sym, ap, ◌∙◌, subst, arith, length-append}
use Rattle.std.specs.Prelude.{slice_get}
use Rattle.std.proofs.lemmas.Bool.{cases_eq}
use Rattle.std.proofs.lemmas.List.{get_or_append_left}
use Rattle.std.proofs.Math.Seq.{get_or-append_seam}
use Rattle.bit_needs.specs.declared.footprints.Footprint.{Footprint}
use Rattle.bit_needs.specs.Needs.{footprint_at, no_footprint}
use Rattle.flow_sets.specs.declared.found.Found.{Found}
use Rattle.comb_order.specs.Combs.{number_at}
use Rattle.comb_order.specs.Bits.{IsFound, IsFoundAt, AreFound}

-- those of the first k
pub record AreFoundUpTo (widths : List ℕ) (flows : List Found) (numbers : List ℕ) (k : ℕ) (rs : List Footprint) : Type 0 where
  pub count : length rs ≡ k
  pub each : (j : ℕ) → j < k → IsFoundAt widths (slice_get flows (number_at numbers j)) (footprint_at rs j)

found-there : (widths : List ℕ) (flows : List Found) (n : ℕ) (f : Found) (r : Footprint) → n < length flows → f ≡ slice_index_or flows n f → IsFound widths f r → IsFoundAt widths (slice_get flows n) r
found-there widths [] n f r low is found = absurd (omega (arith, low))
found-there widths (g ∷ flows) zero f r low is found = subst (λ (x : Found). IsFound widths x r) is found
found-there widths (g ∷ flows) (suc n) f r low is found = found-there widths flows n f r (omega (arith, low)) is found

pub found-none : (widths : List ℕ) (flows : List Found) (numbers : List ℕ) → AreFoundUpTo widths flows numbers 0 []
found-none widths flows numbers = record { count = refl; each = λ j low. absurd (omega (arith, low)) }

pub found-more : (widths : List ℕ) (flows : List Found) (numbers : List ℕ) (k : ℕ) (rs new : List Footprint) (f : Found) (r : Footprint) → number_at numbers k < length flows
    → f ≡ slice_index_or flows (number_at numbers k) f → IsFound widths f r → AreFoundUpTo widths flows numbers k rs → new ≡ rs ++ r ∷ [] → AreFoundUpTo widths flows numbers (k + 1) new
found-more widths flows numbers k rs new f r there is found a grown = record {
  count = ap length grown ∙ length-append rs (r ∷ []) ∙ ap (λ n. n + 1) a.count;
  each = λ j low. elim (cases_eq j k) [
    | inl same ↦ (let its : footprint_at new j ≡ r = ap (λ (xs : List Footprint). slice_index_or xs j no_footprint) grown ∙ ap (λ i. slice_index_or (rs ++ r ∷ []) i no_footprint) (same ∙ sym a.count) ∙ get_or-append_seam rs r [] no_footprint in
        subst (λ x. IsFoundAt widths (slice_get flows (number_at numbers j)) x) (sym its)
        (subst (λ i. IsFoundAt widths (slice_get flows (number_at numbers i)) r) (sym same) (found-there widths flows (number_at numbers k) f r there is found)))
    | inr other ↦ (let its : footprint_at new j ≡ footprint_at rs j = ap (λ (xs : List Footprint). slice_index_or xs j no_footprint) grown ∙ get_or_append_left rs (r ∷ []) no_footprint j (let n = a.count in omega (arith, n, low, other)) in
        subst (λ x. IsFoundAt widths (slice_get flows (number_at numbers j)) x) (sym its) (a.each j (omega (arith, low, other))))
  ];
}

pub found-all : (widths : List ℕ) (flows : List Found) (numbers : List ℕ) (k : ℕ) (rs : List Footprint) → k ≡ length numbers → AreFoundUpTo widths flows numbers k rs → AreFound widths flows numbers rs
found-all widths flows numbers k rs all a = record { count = a.count ∙ all; each = λ j low. a.each j (omega (arith, low, all)) }
