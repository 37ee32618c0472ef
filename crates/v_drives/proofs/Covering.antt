-- Spans of bits in the row, and what they cover.
use Rattle.std.proofs.Common.{◌≡◌, ◌<◌, ◌≤◌, ◌⊎◌, inl, inr, ℕ, ◌+◌, ◌==◌, min, Bool, true, false, ◌&&◌, ◌||◌, List, [], ◌∷◌, ◌++◌, length, slice_index_or, ap, sym, ◌∙◌, subst, arith}
use Rattle.std.specs.Prelude.{nat_le, nat_lt}
use Rattle.std.proofs.lemmas.Bool.{le-leb, lt-leb, le-ltb, lt-ltb, cases_lt}
use Rattle.std.proofs.lemmas.Bool.Decides.{nat_tests}
use Rattle.bit_sets.specs.declared.span.Span.{Span}
use Rattle.bit_sets.specs.Sets as B
use Rattle.bit_sets.specs.Sets.{in_spans}
use Rattle.bit_sets.proofs.Laws as L
use Rattle.row_machine.specs.Valuation.{Place}
use Rattle.v_meaning.specs.Scopes.{Use}
use Rattle.v_meaning.specs.Statements.{covered, covers}
use Rattle.v_drives.specs.Rows.{bits_before, all_bits, number_of, IsBit, AreCovered}
use Rattle.v_drives.proofs.Numbering as N

pub one-covered : (ws : List ℕ) (u : Use) (s : Span) → ((q : Place) → IsBit ws q → B.covers s (number_of ws q) ≡ covers u q) → ((n : ℕ) → all_bits ws ≤ n → B.covers s n ≡ false) → AreCovered ws (u ∷ []) (s ∷ [])
one-covered ws u s value within = record {
  value = λ q there. alone s (number_of ws q) ∙ value q there ∙ sym (L.or-false (covers u q));
  within = λ n h. alone s n ∙ within n h;
}
  where
    alone : (s : Span) (n : ℕ) → in_spans (s ∷ []) n ≡ B.covers s n
    alone s n = L.in-more s [] n ∙ ap (λ b. B.covers s n || b) (L.in-none n) ∙ L.or-false (B.covers s n)

-- a number that is no signal's names none of the bits
not-same : (a b : ℕ) → b < a → (a == b) ≡ false
not-same a b h = grind (arith, nat_tests)

not-same-more : (a b : ℕ) → a < b → (a == b) ≡ false
not-same-more a b h = grind (arith, nat_tests)

pub no-signal : (ws : List ℕ) (u : Use) → length ws ≤ u.number → AreCovered ws (u ∷ []) (record { low = 0; high = 0 } ∷ [])
no-signal ws u h =
    one-covered ws u (record { low = 0; high = 0 })
    (λ q there. L.covers-none 0 0 (number_of ws q) (omega arith) ∙ sym (ap (λ b. b && (nat_le u.low q.bit && nat_lt q.bit u.high)) (not-same u.number q.signal (let near = there.0 in omega (arith, h, near)))))
    (λ n far. L.covers-none 0 0 n (omega arith))

-- the bits of a signal
abbrev pub span_in : List ℕ → Use → Span
span_in ws u = record { low = bits_before ws u.number + min u.low (slice_index_or ws u.number 0); high = bits_before ws u.number + min u.high (slice_index_or ws u.number 0) }

same-low : (o l w k : ℕ) → k < w → nat_le (o + min l w) (o + k) ≡ nat_le l k
same-low o l w k h = by (cases_lt k l)
  where
    by : (k < l) ⊎ (l ≤ k) → nat_le (o + min l w) (o + k) ≡ nat_le l k
    by (inl below) = lt-leb (o + min l w) (o + k) (omega (arith, below, h)) ∙ sym (lt-leb l k below)
    by (inr above) = le-leb (o + min l w) (o + k) (omega (arith, above, h)) ∙ sym (le-leb l k above)

same-high : (o l w k : ℕ) → k < w → nat_lt (o + k) (o + min l w) ≡ nat_lt k l
same-high o l w k h = by (cases_lt k l)
  where
    by : (k < l) ⊎ (l ≤ k) → nat_lt (o + k) (o + min l w) ≡ nat_lt k l
    by (inl below) = lt-ltb (o + k) (o + min l w) (omega (arith, below, h)) ∙ sym (lt-ltb k l below)
    by (inr above) = le-ltb (o + k) (o + min l w) (omega (arith, above, h)) ∙ sym (le-ltb k l above)

pub in-signal : (ws : List ℕ) (u : Use) → u.number < length ws → AreCovered ws (u ∷ []) (span_in ws u ∷ [])
in-signal ws u h = one-covered ws u (span_in ws u) (λ q there. by q there (cases_lt q.signal u.number) (cases_lt u.number q.signal)) (λ n far. let ends = N.ends-inside ws u.number h in L.covers-not-high (span_in ws u) n (omega (arith, ends, far)))
  where
    same : (q : Place) → q.bit < slice_index_or ws q.signal 0 → q.signal ≡ u.number → B.covers (span_in ws u) (number_of ws q) ≡ covers u q
    same q there is =
        let o = bits_before ws u.number in
        let w = slice_index_or ws u.number 0 in
        let short : q.bit < w = subst (λ s. q.bit < slice_index_or ws s 0) is there in
        let own : (u.number == q.signal) ≡ true = grind (arith, nat_tests) in
        ap (λ s. B.covers (span_in ws u) (bits_before ws s + q.bit)) is ∙ ap (λ b. b && nat_lt (o + q.bit) (o + min u.high w)) (same-low o u.low w q.bit short)
        ∙ ap (λ b. nat_le u.low q.bit && b) (same-high o u.high w q.bit short) ∙ sym (ap (λ b. b && (nat_le u.low q.bit && nat_lt q.bit u.high)) own)

    by : (q : Place) → IsBit ws q → (q.signal < u.number) ⊎ (u.number ≤ q.signal) → (u.number < q.signal) ⊎ (q.signal ≤ u.number) → B.covers (span_in ws u) (number_of ws q) ≡ covers u q
    by q there (inl less) more =
        let next = N.before-next ws q.signal there.0 in
        let more = N.before-more ws (q.signal + 1) u.number (omega (arith, less)) in
        let short = there.1 in
        L.covers-not-low (span_in ws u) (number_of ws q) (omega (arith, next, more, short)) ∙ sym (ap (λ b. b && (nat_le u.low q.bit && nat_lt q.bit u.high)) (not-same u.number q.signal less))
    by q there (inr up) (inl less) =
        let next = N.before-next ws u.number h in
        let more = N.before-more ws (u.number + 1) q.signal (omega (arith, less)) in
        L.covers-not-high (span_in ws u) (number_of ws q) (omega (arith, next, more)) ∙ sym (ap (λ b. b && (nat_le u.low q.bit && nat_lt q.bit u.high)) (not-same-more u.number q.signal less))
    by q there (inr up) (inr down) = same q there.1 (omega (arith, up, down))

-- nothing is covered by no span, and a span more covers a write more
pub covered-none : (b : Bool) (ss : List Span) (n : ℕ) → ss ≡ [] → (in_spans ss n || b) ≡ b
covered-none b ss n is = ap (λ xs. in_spans xs n || b) is ∙ ap (λ c. c || b) (L.in-none n)

pub covered-on : (ws : List ℕ) (u : Use) (us all : List Use) (s : Span) (ss : List Span) (q : Place) → IsBit ws q → AreCovered ws (u ∷ []) (s ∷ []) → (in_spans ss (number_of ws q) || covered (u ∷ us) q) ≡ covered all q
    → (in_spans (ss ++ s ∷ []) (number_of ws q) || covered us q) ≡ covered all q
covered-on ws u us all s ss q there one before =
    let n = number_of ws q in
    let own : B.covers s n ≡ covers u q = sym (L.in-more s [] n ∙ ap (λ b. B.covers s n || b) (L.in-none n) ∙ L.or-false (B.covers s n)) ∙ one.value q there ∙ L.or-false (covers u q) in
    ap (λ b. b || covered us q) (L.in-pushed ss s n) ∙ L.or-assoc (in_spans ss n) (B.covers s n) (covered us q) ∙ ap (λ b. in_spans ss n || (b || covered us q)) own ∙ before

pub none-on : (ws : List ℕ) (u : Use) (s : Span) (ss : List Span) (n : ℕ) → all_bits ws ≤ n → AreCovered ws (u ∷ []) (s ∷ []) → in_spans ss n ≡ false → in_spans (ss ++ s ∷ []) n ≡ false
none-on ws u s ss n far one before =
    L.in-pushed ss s n ∙ ap (λ b. b || B.covers s n) before ∙ sym (L.in-more s [] n ∙ ap (λ b. B.covers s n || b) (L.in-none n) ∙ L.or-false (B.covers s n)) ∙ one.within n far
