-- Numbers of signals, and bits that are there.
use Rattle.std.proofs.Common.{◌≡◌, ℕ, zero, suc, ◌+◌, ◌^◌, ◌<◌, ◌≤◌, Bool, true, false, ◌&&◌, ◌||◌, ◌==◌, List, [], ◌∷◌, ◌++◌, length, map, Option, Some, None, refl, sym, ap, ◌∙◌, subst, inl, inr, arith}
use Rattle.std.specs.Prelude.{slice_get}
use Rattle.std.proofs.lemmas.Bool.{or_cases, or_left, or_right, and_parts, false≢true, eqb-true, eq-eqb, lt-ltb, ltb-true}
use Rattle.std.proofs.lemmas.Bool.Decides.{nat_tests}
use Rattle.row_machine.specs.Valuation.{Place, is_place, has}
use Rattle.row_machine.specs.Places as P
use Rattle.row_machine.proofs.Basics.{true_or_false}
use Rattle.sv_types.specs.declared.design.Design.{Design}
use Rattle.sv_types.specs.declared.design.Signal.{Signal}
use Rattle.sv_types.specs.Layouts.{width_of}
use Rattle.sv_types.specs.Surroundings.{is_signal}
use Rattle.sv_types.specs.Machine.{SignalMeaning, places_from, places, parts, signal_meaning}
use Rattle.break_laws.specs.Widths.{is_below}
use Rattle.break_laws.specs.Shapes.{width_at}

pub has-append : (xs ys : List Place) (q : Place) → has (xs ++ ys) q ≡ (has xs q || has ys q)
unfolding has
has-append [] ys q = refl
has-append (x ∷ xs) ys q = ap (λ b. is_place x q || b) (has-append xs ys q) ∙ sym (again (is_place x q) (has xs q) (has ys q))
  where
    again : (a b c : Bool) → ((a || b) || c) ≡ (a || (b || c))
    again true b c = refl
    again false b c = refl

-- the bits of a signal are of that signal
pub of-signal : (n k w : ℕ) (q : Place) → has (P.places_from n k w) q ≡ true → q.signal ≡ n
unfolding has
of-signal n k zero q e = absurd (false≢true e)
of-signal n k (suc w) q e =
    elim (or_cases (is_place (record { signal = n; bit = k }) q) (has (P.places_from n (suc k) w) q) e) [
      | inl h ↦ sym (eqb-true n q.signal (and_parts (n == q.signal) (k == q.bit) h).0)
      | inr h ↦ of-signal n (suc k) w q h
    ]

pub below-count : (k : ℕ) (ss : List SignalMeaning) (q : Place) → has (places_from k ss) q ≡ true → q.signal < k + length ss
unfolding has
below-count k [] q h = absurd (false≢true h)
below-count k (s ∷ ss) q h =
    elim (or_cases _ _ (sym (has-append (P.places_of k (length s.of.two_state)) (places_from (suc k) ss) q) ∙ h)) [
      | inl here ↦ (let same = of-signal k 0 (length s.of.two_state) q here in omega (arith, same))
      | inr more ↦ (let low = below-count (suc k) ss q more in omega (arith, low))
    ]

as-many : (ss : List Signal) → length (map signal_meaning ss) ≡ length ss
as-many [] = refl
as-many (s ∷ ss) = ap suc (as-many ss)

pub is-a-signal : (d : Design) → length d.signals ≤ 2 ^ 32 → (q : Place) → has (places (parts d)) q ≡ true → is_signal q.signal ≡ true
is-a-signal d few q h =
    let low = below-count 0 (map signal_meaning d.signals) q h in
    let many = as-many d.signals in
    lt-ltb q.signal (2 ^ 32) (omega (arith, low, many, few))

-- the bits that a signal has are among those of the design
there-from : (n k w : ℕ) (q : Place) → q.signal ≡ n → k ≤ q.bit → q.bit < k + w → has (P.places_from n k w) q ≡ true
unfolding has
there-from n k zero q s low high = absurd (omega arith)
there-from n k (suc w) q s low high =
    elim (true_or_false (k == q.bit)) [
      | inl h ↦ or_left _ _ (λ i. eq-eqb n q.signal (sym s) i && h i)
      | inr h ↦ or_right (is_place (record { signal = n; bit = k }) q) _ (there-from n (suc k) w q s (below h) (omega arith))
    ]
  where
    below : (k == q.bit) ≡ false → suc k ≤ q.bit
    below h = grind (arith, nat_tests)

in-signals : (k : ℕ) (ss : List Signal) (n : ℕ) (s : Signal) (q : Place) → slice_get ss n ≡ Some s → q.signal ≡ k + n → q.bit < width_of s.of → has (places_from k (map signal_meaning ss)) q ≡ true
in-signals k [] n s q h is low = cc
in-signals k (t ∷ ss) zero s q h is low =
    let same : s ≡ t = cc in
    let at : k + 0 ≡ k = omega arith in
    has-append (P.places_of k (width_of t.of)) (places_from (suc k) (map signal_meaning ss)) q
    ∙ or_left _ _ (there-from k 0 (width_of t.of) q (is ∙ at) (omega arith) (subst (λ (x : Signal). q.bit < 0 + width_of x.of) same (omega (arith, low))))
in-signals k (t ∷ ss) (suc n) s q h is low =
    let at : k + suc n ≡ suc k + n = omega arith in
    has-append (P.places_of k (width_of t.of)) (places_from (suc k) (map signal_meaning ss)) q
    ∙ or_right (has (P.places_of k (width_of t.of)) q) _ (in-signals (suc k) ss n s q h (is ∙ at) low)

pub bit-there : (d : Design) (q : Place) → is_below (width_at (slice_get d.signals q.signal)) q.bit ≡ true → has (places (parts d)) q ≡ true
bit-there d q h = by (slice_get d.signals q.signal) refl h
  where
    by : (o : Option Signal) → slice_get d.signals q.signal ≡ o → is_below (width_at o) q.bit ≡ true → has (places (parts d)) q ≡ true
    by None is low = absurd (false≢true low)
    by (Some s) is low = in-signals 0 d.signals q.signal s q is (omega arith) (ltb-true q.bit (width_of s.of) low)
