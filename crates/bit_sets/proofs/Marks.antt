-- What a test says of numbers in turn.
use Rattle.std.proofs.Common.{◌≡◌, ℕ, zero, suc, ◌+◌, ◌-◌, ◌<◌, ◌≤◌, Bool, true, false, ◌&&◌, ◌||◌, ◌⊎◌, inl, inr, List, [], ◌∷◌, ◌++◌, length, drop, slice_index_or, refl, ap, sym, ◌∙◌, append_assoc, append-nil, arith}
use Rattle.std.specs.Prelude.{nat_le, slice_get, Some}
use Rattle.std.proofs.lemmas.Bool.{le-leb, lt-leb, lt-ltb, cases_lt}
use Rattle.bit_sets.specs.declared.span.Span.{Span}
use Rattle.bit_sets.specs.Sets.{in_spans, IsSet, tests_from}
use Rattle.bit_sets.proofs.Laws as L
use Rattle.bit_sets.proofs.Steps as S

tests-zero : (f : ℕ → Bool) (k : ℕ) → tests_from f k zero ≡ []
unfolding tests_from
tests-zero f k = refl

tests-more : (f : ℕ → Bool) (k w : ℕ) → tests_from f k (suc w) ≡ f k ∷ tests_from f (suc k) w
unfolding tests_from
tests-more f k w = refl

pub tests-length : (f : ℕ → Bool) (k w : ℕ) → length (tests_from f k w) ≡ w
tests-length f k zero = ap length (tests-zero f k)
tests-length f k (suc w) = ap length (tests-more f k w) ∙ ap suc (tests-length f (suc k) w)

-- what is said of one of them
pub test-at : (f : ℕ → Bool) (k w i : ℕ) → i < w → slice_get (tests_from f k w) i ≡ Some (f (k + i))
test-at f k zero i h = absurd (omega (arith, h))
test-at f k (suc w) zero h = ap (λ ts. slice_get ts 0) (tests-more f k w) ∙ ap (λ j. Some (f j)) (omega arith)
test-at f k (suc w) (suc i) h = ap (λ ts. slice_get ts (suc i)) (tests-more f k w) ∙ test-at f (suc k) w i (omega (arith, h)) ∙ ap (λ j. Some (f j)) (omega arith)

-- one more number has been told of
pub told-on : (f : ℕ → Bool) (low k count : ℕ) (b : Bool) (done all : List Bool) → k < count → b ≡ f (low + k) → done ++ tests_from f (low + k) (count - k) ≡ all
    → (done ++ b ∷ []) ++ tests_from f (low + (k + 1)) (count - (k + 1)) ≡ all
told-on f low k count b done all h is before =
    let next : tests_from f (low + k) (count - k) ≡ f (low + k) ∷ tests_from f (low + (k + 1)) (count - (k + 1)) =
    ap (tests_from f (low + k)) (omega (arith, h)) ∙ tests-more f (low + k) (count - (k + 1)) ∙ ap (λ j. f (low + k) ∷ tests_from f j (count - (k + 1))) (omega arith) in
    append_assoc done (b ∷ []) (tests_from f (low + (k + 1)) (count - (k + 1))) ∙ ap (λ c. done ++ c ∷ tests_from f (low + (k + 1)) (count - (k + 1))) is ∙ ap (λ ts. done ++ ts) (sym next) ∙ before

pub told-all : (f : ℕ → Bool) (low k count : ℕ) (done all : List Bool) → count ≤ k → done ++ tests_from f (low + k) (count - k) ≡ all → done ≡ all
told-all f low k count done all h before =
    sym (append-nil done) ∙ ap (λ ts. done ++ ts) (sym (ap (tests_from f (low + k)) (omega (arith, h)) ∙ tests-zero f (low + k))) ∙ before

-- one span more ends below
pub passed : (n i k : ℕ) (xs : List Span) (d : Span) → i < length xs → (slice_index_or xs i d).high ≤ n → n ≤ k → in_spans (drop i xs) k ≡ in_spans (drop (i + 1) xs) k
passed n i k xs d h low at =
    S.in-at i k xs d h ∙ ap (λ b. b || in_spans (drop (i + 1) xs) k) (L.covers-not-high (slice_index_or xs i d) k (omega (arith, low, at)))

-- the first of the spans that end behind a number decides
pub next-is : (n i : ℕ) (xs : List Span) (d : Span) (b : Bool) → IsSet (drop i xs) → i < length xs → n < (slice_index_or xs i d).high → b ≡ nat_le (slice_index_or xs i d).low n → b ≡ in_spans (drop i xs) n
next-is n i xs d b a h behind is =
    let s = slice_index_or xs i d in
    is ∙ sym (S.in-at i n xs d h ∙ ap (λ x. x || in_spans (drop (i + 1) xs) n) (ap (λ x. nat_le s.low n && x) (lt-ltb n s.high behind) ∙ and-true (nat_le s.low n)) ∙ by (cases_lt n s.low))
  where
    and-true : (x : Bool) → (x && true) ≡ x
    and-true true = refl
    and-true false = refl

    by : (n < (slice_index_or xs i d).low) ⊎ ((slice_index_or xs i d).low ≤ n) → (nat_le (slice_index_or xs i d).low n || in_spans (drop (i + 1) xs) n) ≡ nat_le (slice_index_or xs i d).low n
    by (inl below) =
        let some = S.some-at 0 i xs d h a in
        ap (λ x. nat_le (slice_index_or xs i d).low n || x) (L.below-none (slice_index_or xs i d).high n (drop (i + 1) xs) (S.rest-at 0 i xs d h a) (omega (arith, some, below))) ∙ L.or-false (nat_le (slice_index_or xs i d).low n)
    by (inr above) = ap (λ x. x || in_spans (drop (i + 1) xs) n) (le-leb (slice_index_or xs i d).low n above) ∙ sym (le-leb (slice_index_or xs i d).low n above)

pub next-past : (n i : ℕ) (xs : List Span) → length xs ≤ i → false ≡ in_spans (drop i xs) n
next-past n i xs h = sym (S.in-past i n xs h)

pub less-or-not : (x low k : ℕ) → nat_le (x - low) k ≡ nat_le x (low + k)
less-or-not x low k = by (cases_lt (low + k) x)
  where
    by : (low + k < x) ⊎ (x ≤ low + k) → nat_le (x - low) k ≡ nat_le x (low + k)
    by (inl h) = lt-leb (x - low) k (omega (arith, h)) ∙ sym (lt-leb x (low + k) h)
    by (inr h) = le-leb (x - low) k (omega (arith, h)) ∙ sym (le-leb x (low + k) h)
