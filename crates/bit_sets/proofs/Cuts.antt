-- What is left of a use outside a set.
use Rattle.std.proofs.Common.{◌≡◌, ◌⊎◌, inl, inr, ℕ, zero, suc, ◌+◌, ◌<◌, ◌≤◌, max, Bool, true, false, ◌&&◌, ◌||◌, not, List, [], ◌∷◌, ◌++◌, cond, length, drop, slice_index_or, refl, ap, sym, ◌∙◌, arith, append_assoc, append-nil}
use Rattle.std.specs.Prelude.{nat_le, nat_lt}
use Rattle.std.proofs.lemmas.Bool.{le-leb, lt-leb, lt-ltb, both_ways, cases_lt}
use Rattle.bit_sets.specs.declared.span.Span.{Span}
use Rattle.bit_sets.specs.declared.span.Use.{Use}
use Rattle.bit_sets.specs.Sets.{covers, in_spans, Ascending, IsSet, tokens_at}
use Rattle.bit_sets.proofs.Laws as L
use Rattle.bit_sets.proofs.Steps as S

pub set-from : (i : ℕ) (xs : List Span) → IsSet xs → IsSet (drop i xs)
set-from zero xs a = a
set-from (suc i) [] a = a
set-from (suc i) (x ∷ xs) a = set-from i xs (L.ascending-lower 0 x.high xs (omega arith) (L.ascending-rest 0 x xs a))

-- the span from one number to another
abbrev pub span : ℕ → ℕ → Span
span low high = record { low = low; high = high }

-- before the first span that ends behind the use's beginning nothing is cut off
pub start : (s : Span) (n : ℕ) (xs : List Span) (i : ℕ) (to : List ℕ) (one : List ℕ) → (s.low ≤ n → in_spans xs n ≡ in_spans (drop i xs) n)
    → to ++ cond (covers (span s.low s.high) n && not (in_spans (drop i xs) n)) one [] ≡ to ++ cond (covers s n && not (in_spans xs n)) one []
start s n xs i to one h = by (covers s n) refl
  where
    by : (b : Bool) → covers s n ≡ b → to ++ cond (covers s n && not (in_spans (drop i xs) n)) one [] ≡ to ++ cond (covers s n && not (in_spans xs n)) one []
    by true is = ap (λ c. to ++ cond (covers s n && not c) one []) (sym (h (L.covers-low s n is)))
    by false is = ap (λ b. to ++ cond (b && not (in_spans (drop i xs) n)) one []) is ∙ sym (ap (λ b. to ++ cond (b && not (in_spans xs n)) one []) is)

-- at most one of two conditions holds
abbrev Split : Bool → Bool → Bool → Type 0
Split a b c = (c ≡ (a || b)) × (a ≡ true → b ≡ false)

split-tokens : (a b c : Bool) (to one : List ℕ) → Split a b c → (to ++ cond a one []) ++ cond b one [] ≡ to ++ cond c one []
split-tokens true b c to one h =
    ap (λ x. (to ++ one) ++ cond x one []) (h.1 refl) ∙ append-nil (to ++ one) ∙ ap (λ x. to ++ cond x one []) (sym h.0)
split-tokens false b c to one h = ap (λ ts. ts ++ cond b one []) (append-nil to) ∙ ap (λ x. to ++ cond x one []) (sym h.0)

-- a cut at a span: what lies before it, and what is left behind it
split : (low high n : ℕ) (s : Span) (rest : List Span) → s.low < s.high → s.low < high → Ascending s.high rest
    → Split (covers (span low s.low) n) (covers (span (max low s.high) high) n && not (in_spans rest n)) (covers (span low high) n && not (covers s n || in_spans rest n))
split low high n s rest some short a = cases (cases_lt n s.low) (cases_lt n s.high)
  where
    goal : Bool → Bool → Bool → Bool → Type 0
    goal x y z w = Split x (y && not (in_spans rest n)) (z && not (w || in_spans rest n))

    before : n < s.low → Split (covers (span low s.low) n) (covers (span (max low s.high) high) n && not (in_spans rest n)) (covers (span low high) n && not (covers s n || in_spans rest n))
    before h = (
      ap (λ b. covers (span low high) n && not b) (ap (λ b. b || in_spans rest n) (L.covers-not-low s n h) ∙ L.below-none s.high n rest a (omega arith))
          ∙ and-true (covers (span low high) n) ∙ ends ∙ sym (ap (λ b. covers (span low s.low) n || b) none ∙ L.or-false (covers (span low s.low) n)),
      λ is. none,
    )
      where
        ends : covers (span low high) n ≡ covers (span low s.low) n
        ends = ap (λ b. nat_le low n && b) (lt-ltb n high (omega arith) ∙ sym (lt-ltb n s.low h))

        none : (covers (span (max low s.high) high) n && not (in_spans rest n)) ≡ false
        none = ap (λ b. b && not (in_spans rest n)) (L.covers-not-low (span (max low s.high) high) n (omega arith))

        and-true : (b : Bool) → (b && true) ≡ b
        and-true true = refl
        and-true false = refl

    inside : s.low ≤ n → n < s.high → Split (covers (span low s.low) n) (covers (span (max low s.high) high) n && not (in_spans rest n)) (covers (span low high) n && not (covers s n || in_spans rest n))
    inside h g = (
      ap (λ b. covers (span low high) n && not (b || in_spans rest n)) (ap (λ b. b && nat_lt n s.high) (le-leb s.low n h) ∙ lt-ltb n s.high g)
          ∙ S.both-none (covers (span low high) n) ∙ sym (ap (λ b. b || (covers (span (max low s.high) high) n && not (in_spans rest n))) (L.covers-not-high (span low s.low) n h) ∙ none),
      λ is. none,
    )
      where
        none : (covers (span (max low s.high) high) n && not (in_spans rest n)) ≡ false
        none = ap (λ b. b && not (in_spans rest n)) (L.covers-not-low (span (max low s.high) high) n (omega arith))

    behind : s.high ≤ n → Split (covers (span low s.low) n) (covers (span (max low s.high) high) n && not (in_spans rest n)) (covers (span low high) n && not (covers s n || in_spans rest n))
    behind h = (
      ap (λ b. covers (span low high) n && not (b || in_spans rest n)) (L.covers-not-high s n h)
          ∙ ap (λ b. b && not (in_spans rest n)) starts
          ∙ sym (ap (λ b. b || (covers (span (max low s.high) high) n && not (in_spans rest n))) none),
      λ is. absurd (both_ways (covers (span low s.low) n) none is),
    )
      where
        none : covers (span low s.low) n ≡ false
        none = L.covers-not-high (span low s.low) n (omega arith)

        starts : covers (span low high) n ≡ covers (span (max low s.high) high) n
        starts = ap (λ b. b && nat_lt n high) (by (cases_lt n low))
          where
            by : (n < low) ⊎ (low ≤ n) → nat_le low n ≡ nat_le (max low s.high) n
            by (inl l) = lt-leb low n l ∙ sym (lt-leb (max low s.high) n (omega arith))
            by (inr l) = le-leb low n l ∙ sym (le-leb (max low s.high) n (omega arith))

    cases : (n < s.low) ⊎ (s.low ≤ n) → (n < s.high) ⊎ (s.high ≤ n) → Split (covers (span low s.low) n) (covers (span (max low s.high) high) n && not (in_spans rest n)) (covers (span low high) n && not (covers s n || in_spans rest n))
    cases (inl h) g = before h
    cases (inr h) (inl g) = inside h g
    cases (inr h) (inr g) = behind g

-- the invariant of the loop goes on by one span
pub cut-on : (low low' high k n : ℕ) (xs : List Span) (d : Span) (to to' one all : List ℕ) → k < length xs → IsSet (drop k xs) → (slice_index_or xs k d).low < high
    → low' ≡ max low (slice_index_or xs k d).high → to' ≡ to ++ cond (covers (span low (slice_index_or xs k d).low) n) one []
    → to ++ cond (covers (span low high) n && not (in_spans (drop k xs) n)) one [] ≡ all
    → to' ++ cond (covers (span low' high) n && not (in_spans (drop (k + 1) xs) n)) one [] ≡ all
cut-on low low' high k n xs d to to' one all h a short is new before =
    let s = slice_index_or xs k d in
    ap (λ ts. ts ++ cond (covers (span low' high) n && not (in_spans (drop (k + 1) xs) n)) one []) new
    ∙ ap (λ m. (to ++ cond (covers (span low s.low) n) one []) ++ cond (covers (span m high) n && not (in_spans (drop (k + 1) xs) n)) one []) is
    ∙ split-tokens _ _ (covers (span low high) n && not (covers s n || in_spans (drop (k + 1) xs) n)) to one (split low high n s (drop (k + 1) xs) (S.some-at 0 k xs d h a) short (S.rest-at 0 k xs d h a))
    ∙ ap (λ b. to ++ cond (covers (span low high) n && not b) one []) (sym (S.in-at k n xs d h)) ∙ before

-- behind the last span that begins before the use's end all is left
pub cut-end : (low high k n : ℕ) (xs : List Span) (d : Span) (to to' one all : List ℕ) → IsSet (drop k xs) → (length xs ≤ k) ⊎ (k < length xs × high ≤ (slice_index_or xs k d).low)
    → to' ≡ to ++ cond (covers (span low high) n) one []
    → to ++ cond (covers (span low high) n && not (in_spans (drop k xs) n)) one [] ≡ all → to' ≡ all
cut-end low high k n xs d to to' one all a past new before = new ∙ by (covers (span low high) n) refl ∙ before
  where
    none : n < high → (length xs ≤ k) ⊎ (k < length xs × high ≤ (slice_index_or xs k d).low) → in_spans (drop k xs) n ≡ false
    none h (inl p) = S.in-past k n xs p
    none h (inr p) =
        L.below-none (slice_index_or xs k d).low n (drop k xs) (S.lower-at (slice_index_or xs k d).low 0 k xs d p.0 (omega arith) a) (let g = p.1 in omega arith)

    by : (b : Bool) → covers (span low high) n ≡ b → to ++ cond (covers (span low high) n) one [] ≡ to ++ cond (covers (span low high) n && not (in_spans (drop k xs) n)) one []
    by true is =
        ap (λ b. to ++ cond b one []) is ∙ sym (ap (λ b. to ++ cond (b && not (in_spans (drop k xs) n)) one []) is ∙ ap (λ b. to ++ cond (not b) one []) (none (L.covers-high (span low high) n is) past))
    by false is = ap (λ b. to ++ cond b one []) is ∙ sym (ap (λ b. to ++ cond (b && not (in_spans (drop k xs) n)) one []) is)

-- one use after the other
pub use-on : (inside : Bool) (u : Use) (us : List Use) (n : ℕ) (to to' all : List ℕ) → to' ≡ to ++ cond (covers u.span n && not inside) (u.at ∷ []) []
    → to ++ cond inside [] (tokens_at (u ∷ us) n) ≡ all → to' ++ cond inside [] (tokens_at us n) ≡ all
use-on true u us n to to' all new before = ap (λ ts. ts ++ []) (new ∙ ap (λ b. to ++ cond b (u.at ∷ []) []) (S.both-none (covers u.span n)) ∙ append-nil to) ∙ before
use-on false u us n to to' all new before =
    ap (λ ts. ts ++ tokens_at us n) new ∙ append_assoc to (cond (covers u.span n && true) (u.at ∷ []) []) (tokens_at us n) ∙ ap (λ ts. to ++ ts) (by (covers u.span n) ∙ sym (L.tokens-more u us n)) ∙ before
  where
    by : (b : Bool) → cond (b && true) (u.at ∷ []) [] ++ tokens_at us n ≡ cond b (u.at ∷ tokens_at us n) (tokens_at us n)
    by true = refl
    by false = refl

pub use-end : (inside : Bool) (n : ℕ) (us : List Use) (to all : List ℕ) → us ≡ [] → to ++ cond inside [] (tokens_at us n) ≡ all → to ≡ all
use-end true n us to all none before = sym (append-nil to) ∙ before
use-end false n us to all none before = sym (append-nil to) ∙ ap (λ ts. to ++ ts) (sym (ap (λ vs. tokens_at vs n) none ∙ L.tokens-none n)) ∙ before
