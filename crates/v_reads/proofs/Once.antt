-- Numbers in ascending order, each once.
use Rattle.std.proofs.Common.{◌≡◌, ℕ, ◌==◌, Bool, true, false, ◌||◌, List, [], ◌∷◌, refl, sym, ap, ◌∙◌, arith}
use Rattle.std.specs.Prelude.{cond, nat_eq}
use Rattle.std.specs.List.{dedup, dedup_from}
use Rattle.std.specs.List.Retain.{IsFiltered, DiffersFromLast}
use Rattle.std.specs.List.Sorted.{IsPermutation}
use Rattle.std.proofs.lemmas.Bool.Decides.{nat_tests}
use Rattle.std.proofs.lemmas.List.Filters.{dedup_is}
use Rattle.std.proofs.lemmas.List.Sorted.{list_any-IsPermutation}
use Rattle.v_reads.specs.Reads.{is_among}

number-is : (a b : ℕ) → nat_eq a b ≡ true → a ≡ b
number-is a b h = grind (arith, nat_tests)

twice : (a b : Bool) → (a || b) ≡ (a || (a || b))
twice true b = refl
twice false b = refl

deduped-from : (k : ℕ) (xs : List ℕ) (n : ℕ) → is_among (dedup_from nat_eq k xs) n ≡ ((k == n) || is_among xs n)
deduped-from k [] n = refl
deduped-from k (x ∷ xs) n = by (deduped-from k xs n) (deduped-from x xs n) (nat_eq x k) refl
  where
    by : is_among (dedup_from nat_eq k xs) n ≡ ((k == n) || is_among xs n) → is_among (dedup_from nat_eq x xs) n ≡ ((x == n) || is_among xs n) → (b : Bool) → nat_eq x k ≡ b
        → is_among (cond b (dedup_from nat_eq k xs) (k ∷ dedup_from nat_eq x xs)) n ≡ ((k == n) || ((x == n) || is_among xs n))
    by h g true is = h ∙ twice (k == n) (is_among xs n) ∙ ap (λ j. (k == n) || ((j == n) || is_among xs n)) (sym (number-is x k is))
    by h g false is = ap (λ b. (k == n) || b) g

deduped : (xs : List ℕ) (n : ℕ) → is_among (dedup nat_eq xs) n ≡ is_among xs n
deduped [] n = refl
deduped (x ∷ xs) n = deduped-from x xs n

pub once : (xs ys zs : List ℕ) (n : ℕ) → IsPermutation xs ys → IsFiltered (DiffersFromLast nat_eq) [] ys zs → is_among zs n ≡ is_among xs n
once xs ys zs n sorted unlike =
    ap (λ l. is_among l n) (dedup_is nat_eq ys zs unlike) ∙ deduped ys n ∙ sym (list_any-IsPermutation (λ m. m == n) xs ys sorted)
