-- The least of some tokens, one after the other.
use Rattle.std.proofs.Common.{◌≡◌, inl, inr, ℕ, ◌+◌, ◌<◌, ◌≤◌, min, List, [], ◌∷◌, ◌++◌, length, drop, slice_index_or, add-one, append_assoc, Option, Some, None, refl, ap, sym, ◌∙◌, subst, arith}
use Rattle.std.proofs.lemmas.Bool.{cases_lt}
use Rattle.std.proofs.lemmas.List.{drop_all}
use Rattle.std.proofs.Math.Seq.{drop-cons}
use Rattle.row_machine.proofs.Members.{append-member, member-front, member-back}
use Rattle.least_breaks.specs.Least.{IsLeastTokenAt, IsLeastToken, with_token, least_from}

one-more : (seen : List ℕ) (acc : Option ℕ) (t : ℕ) → IsLeastToken seen acc → IsLeastToken (seen ++ t ∷ []) (with_token acc t)
one-more seen None t h = record {
  there = member-back seen (t ∷ []) t (inl refl);
  least = λ u m. elim (append-member seen (t ∷ []) u m) [
    | inl before ↦ absurd (h u before)
    | inr here ↦ elim here [ inl is ↦ omega (arith, is) | inr none ↦ elim none [ ] ]
  ];
}
one-more seen (Some a) t h = elim (cases_lt t a) [
  | inl lower ↦ (let same : min a t ≡ t = omega (arith, lower) in subst (IsLeastTokenAt (seen ++ t ∷ [])) (sym same) (record {
    there = member-back seen (t ∷ []) t (inl refl);
    least = λ u m. elim (append-member seen (t ∷ []) u m) [
      | inl before ↦ (let le = h.least u before in omega (arith, le, lower))
      | inr here ↦ elim here [ inl is ↦ omega (arith, is) | inr none ↦ elim none [ ] ]
    ];
  }))
  | inr higher ↦ (let same : min a t ≡ a = omega (arith, higher) in subst (IsLeastTokenAt (seen ++ t ∷ [])) (sym same) (record {
    there = member-front seen (t ∷ []) a h.there;
    least = λ u m. elim (append-member seen (t ∷ []) u m) [
      | inl before ↦ h.least u before
      | inr here ↦ elim here [ inl is ↦ omega (arith, is, higher) | inr none ↦ elim none [ ] ]
    ];
  }))
]

from-seen : (seen ts : List ℕ) (acc : Option ℕ) → IsLeastToken seen acc → IsLeastToken (seen ++ ts) (least_from acc ts)
unfolding least_from
from-seen seen [] acc h = subst (λ xs. IsLeastToken xs acc) (sym (append-none seen)) h
  where
    append-none : (xs : List ℕ) → xs ++ [] ≡ xs
    append-none [] = refl
    append-none (x ∷ xs) = ap (λ ys. x ∷ ys) (append-none xs)
from-seen seen (t ∷ ts) acc h = subst (λ xs. IsLeastToken xs (least_from (with_token acc t) ts)) (append_assoc seen (t ∷ []) ts) (from-seen (seen ++ t ∷ []) ts (with_token acc t) (one-more seen acc t h))

pub is-least : (ts : List ℕ) (r : Option ℕ) → least_from None ts ≡ r → IsLeastToken ts r
is-least ts r is = subst (IsLeastToken ts) is (from-seen [] ts None (λ t m. elim m [ ]))

pub least-at : (acc : Option ℕ) (ts : List ℕ) (k : ℕ) → k < length ts → least_from (with_token acc (slice_index_or ts k 0)) (drop (k + 1) ts) ≡ least_from acc (drop k ts)
unfolding least_from
least-at acc ts k within = ap (λ n. least_from (with_token acc (slice_index_or ts k 0)) (drop n ts)) (add-one k) ∙ sym (ap (least_from acc) (drop-cons ts k 0 within))

pub least-none : (acc : Option ℕ) (ts : List ℕ) (k : ℕ) → length ts ≤ k → least_from acc (drop k ts) ≡ acc
unfolding least_from
least-none acc ts k past = ap (least_from acc) (drop_all k ts past)

pub ruleset least_laws = (is-least)
