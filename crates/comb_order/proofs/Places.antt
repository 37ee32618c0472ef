-- The bits of a design's signals.
use Rattle.std.proofs.Common.{◌≡◌, inl, inr, ℕ, zero, suc, ◌+◌, ◌<◌, ◌≤◌, Bool, true, false, ◌&&◌, ◌||◌, ◌==◌, filter, List, [], ◌∷◌, ◌++◌, map, slice_index_or, refl, sym, ap, ◌∙◌, subst, arith}
use Rattle.std.specs.Cmp.{both_ways}
use Rattle.std.proofs.lemmas.Bool.{or_cases, or_left, or_right, and_parts, and_from, false≢true, eqb-true, eq-eqb, lt-ltb, ltb-true}
use Rattle.std.proofs.lemmas.Bool.Decides.{nat_tests}
use Rattle.row_machine.specs.Valuation.{Place, is_place, has}
use Rattle.row_machine.specs.Places as P
use Rattle.row_machine.proofs.Basics.{true_or_false, has-member, member-has}
use Rattle.row_machine.proofs.Members.{member-filter, filter-member}
use Rattle.sv_types.specs.declared.design.Design.{Design}
use Rattle.sv_types.specs.declared.design.Signal.{Signal}
use Rattle.sv_types.specs.Layouts.{width_of}
use Rattle.sv_types.specs.Machine.{places_from, places, parts, signal_meaning}
use Rattle.comb_order.specs.Bits.{widths_of}
use Rattle.comb_order.proofs.Positions.{is_there}

has-append : (xs ys : List Place) (q : Place) → has (xs ++ ys) q ≡ (has xs q || has ys q)
unfolding has
has-append [] ys q = refl
has-append (x ∷ xs) ys q = ap (λ b. is_place x q || b) (has-append xs ys q) ∙ again (is_place x q) (has xs q) (has ys q)
  where
    again : (a b c : Bool) → (a || (b || c)) ≡ ((a || b) || c)
    again true b c = refl
    again false b c = refl

-- the places of one signal
of-signal : (n k w : ℕ) (q : Place) → has (P.places_from n k w) q ≡ true → (q.signal ≡ n) × (q.bit < k + w)
unfolding has
of-signal n k zero q e = absurd (false≢true e)
of-signal n k (suc w) q e =
    elim (or_cases (is_place (record { signal = n; bit = k }) q) (has (P.places_from n (suc k) w) q) e) [
      | inl h ↦ (let both = and_parts (n == q.signal) (k == q.bit) h in
          let bit = eqb-true k q.bit both.1 in
          (sym (eqb-true n q.signal both.0), omega (arith, bit)))
      | inr h ↦ (let r = of-signal n (suc k) w q h in (r.0, omega (arith, r.1)))
    ]

in-signal : (n k w : ℕ) (q : Place) → q.signal ≡ n → k ≤ q.bit → q.bit < k + w → has (P.places_from n k w) q ≡ true
unfolding has
in-signal n k zero q s low high = absurd (omega arith)
in-signal n k (suc w) q s low high =
    elim (true_or_false (k == q.bit)) [
      | inl h ↦ or_left _ _ (λ i. eq-eqb n q.signal (sym s) i && h i)
      | inr h ↦ or_right (is_place (record { signal = n; bit = k }) q) _ (in-signal n (suc k) w q s (below h) (omega arith))
    ]
  where
    below : (k == q.bit) ≡ false → suc k ≤ q.bit
    below h = grind (arith, nat_tests)

-- and those of all signals
from-signals : (k : ℕ) (ss : List Signal) (q : Place) → has (places_from k (map signal_meaning ss)) q ≡ true
    → (n : ℕ) × (q.signal ≡ k + n) × (q.bit < slice_index_or (widths_of ss) n 0)
unfolding has
from-signals k [] q h = absurd (false≢true h)
from-signals k (s ∷ ss) q h =
    elim (or_cases _ _ (sym (has-append (P.places_of k (width_of s.of)) (places_from (suc k) (map signal_meaning ss)) q) ∙ h)) [
      | inl here ↦ (let r = of-signal k 0 (width_of s.of) q here in (0, (let same = r.0 in omega (arith, same)), (let low = r.1 in omega (arith, low))))
      | inr more ↦ (let r = from-signals (suc k) ss q more in (suc r.0, (let same = r.1 in omega (arith, same)), r.2))
    ]

to-signals : (k n : ℕ) (ss : List Signal) (q : Place) → q.signal ≡ k + n → q.bit < slice_index_or (widths_of ss) n 0 → has (places_from k (map signal_meaning ss)) q ≡ true
to-signals k n [] q is low = absurd (omega (arith, low))
to-signals k zero (s ∷ ss) q is low =
    has-append (P.places_of k (width_of s.of)) (places_from (suc k) (map signal_meaning ss)) q
    ∙ or_left _ _ (in-signal k 0 (width_of s.of) q (omega (arith, is)) (omega arith) (omega (arith, low)))
to-signals k (suc n) (s ∷ ss) q is low =
    has-append (P.places_of k (width_of s.of)) (places_from (suc k) (map signal_meaning ss)) q
    ∙ or_right (has (P.places_of k (width_of s.of)) q) _ (to-signals (suc k) n ss q (omega (arith, is)) low)

-- a bit is one of the design's exactly where it is there
pub has-there : (d : Design) (q : Place) → has (places (parts d)) q ≡ is_there (widths_of d.signals) q
has-there d q = both_ways _ _ forth back
  where
    forth : has (places (parts d)) q ≡ true → is_there (widths_of d.signals) q ≡ true
    forth h =
        let r = from-signals 0 d.signals q h in
        let at : r.0 ≡ q.signal = (let same = r.1 in omega (arith, same)) in
        lt-ltb q.bit (slice_index_or (widths_of d.signals) q.signal 0) (subst (λ n. q.bit < slice_index_or (widths_of d.signals) n 0) at r.2)

    back : is_there (widths_of d.signals) q ≡ true → has (places (parts d)) q ≡ true
    back h = to-signals 0 q.signal d.signals q (omega arith) (ltb-true q.bit (slice_index_or (widths_of d.signals) q.signal 0) h)

-- the places that pass a test
pub has-filter : (test : Place → Bool) (ps : List Place) (q : Place) → has (filter test ps) q ≡ (has ps q && test q)
has-filter test ps q = both_ways _ _ forth back
  where
    forth : has (filter test ps) q ≡ true → (has ps q && test q) ≡ true
    forth h = let r = filter-member test ps q (has-member (filter test ps) q h) in and_from (has ps q) (test q) (member-has ps q r.0) r.1

    back : (has ps q && test q) ≡ true → has (filter test ps) q ≡ true
    back h = let r = and_parts (has ps q) (test q) h in member-has (filter test ps) q (member-filter test ps q (has-member ps q r.0) r.1)
