-- Places of whole signals.
use Rattle.std.proofs.Common.{◌≡◌, ℕ, zero, suc, ◌+◌, ◌<◌, ◌≤◌, Bool, true, false, not, cond, ◌&&◌, ◌||◌, ◌==◌, nat_lt, List, [], ◌∷◌, ◌++◌, None, refl, sym, ap, ◌∙◌, inl, inr, arith}
use Rattle.std.proofs.lemmas.Bool.Decides.{nat_tests}
use Rattle.std.proofs.lemmas.Bool.{or_cases, or_left, or_right, and_parts, false≢true, eqb-true, eq-eqb, ltb-true}
use Rattle.b4_core.specs.declared.bit.Bit4.{Bit4}
use Rattle.row_machine.specs.Valuation.{Place, Valuation, is_place, has}
use Rattle.row_machine.specs.Places.{places_from, places_of, bits_from, assigned, without}
use Rattle.row_machine.proofs.Basics.{is_place-true}
use Rattle.lower_design.proofs.Names.{pick_false, true_or_false}

pub has-append : (xs ys : List Place) (q : Place) → has (xs ++ ys) q ≡ (has xs q || has ys q)
unfolding has
has-append [] ys q = refl
has-append (x ∷ xs) ys q = ap (λ b. is_place x q || b) (has-append xs ys q) ∙ sym (or-assoc (is_place x q) (has xs q) (has ys q))
  where
    or-assoc : (a b c : Bool) → ((a || b) || c) ≡ (a || (b || c))
    or-assoc true b c = refl
    or-assoc false b c = refl

-- the places of a signal are of that signal
pub has-signal : (n k w : ℕ) (q : Place) → has (places_from n k w) q ≡ true → q.signal ≡ n
unfolding has
has-signal n k zero q e = absurd (false≢true e)
has-signal n k (suc w) q e =
    elim (or_cases (is_place (record { signal = n; bit = k }) q) (has (places_from n (suc k) w) q) e) [
      | inl h ↦ sym (eqb-true n q.signal (and_parts _ _ h).0)
      | inr h ↦ has-signal n (suc k) w q h
    ]

-- and each of its bits is among them
pub has-place : (n k w : ℕ) (q : Place) → q.signal ≡ n → k ≤ q.bit → q.bit < k + w → has (places_from n k w) q ≡ true
unfolding has
has-place n k zero q s low high = absurd (omega arith)
has-place n k (suc w) q s low high =
    elim (true_or_false (k == q.bit)) [
      | inl h ↦ or_left _ _ (λ i. eq-eqb n q.signal (sym s) i && h i)
      | inr h ↦ or_right (is_place (record { signal = n; bit = k }) q) _ (has-place n (suc k) w q s (below h) (omega arith))
    ]
  where
    below : (k == q.bit) ≡ false → suc k ≤ q.bit
    below h = grind (arith, nat_tests)

-- the assignment to a signal leaves every other place alone
pub assigned-within : (n w : ℕ) (bits : List Bit4) (q : Place) → has (places_of n w) q ≡ false → assigned n w bits q ≡ None
assigned-within n w bits q e =
    elim (true_or_false ((q.signal == n) && nat_lt q.bit w)) [
      | inr h ↦ pick_false _ _ _ h
      | inl h ↦ (let parts = and_parts _ _ h in
          let at : has (places_of n w) q ≡ true = has-place n 0 w q (eqb-true q.signal n parts.0) (omega arith) (inside (ltb-true q.bit w parts.1)) in
          absurd (false≢true (sym e ∙ at)))
    ]
  where
    inside : q.bit < w → q.bit < 0 + w
    inside h = omega arith

-- and it assigns each place of the signal
pub vectors-same : (v u : Valuation) (n k w : ℕ) → ((q : Place) → has (places_from n k w) q ≡ true → v q ≡ u q) → bits_from v n k w ≡ bits_from u n k w
unfolding has
vectors-same v u n k zero same = refl
vectors-same v u n k (suc w) same =
    λ i. same (record { signal = n; bit = k }) (or_left _ _ (λ j. eq-eqb n n refl j && eq-eqb k k refl j)) i
    ∷ vectors-same v u n (suc k) w (λ q h. same q (or_right (is_place (record { signal = n; bit = k }) q) _ h)) i

pub has-without : (own places : List Place) (q : Place) → has places q ≡ true → has own q ≡ false → has (without own places) q ≡ true
unfolding has
has-without own [] q e f = e
has-without own (p ∷ ps) q e f =
    elim (or_cases (is_place p q) (has ps q) e) [
      | inl h ↦ kept (has own p) (without own ps) (ap (has own) (is_place-true p q h) ∙ f) h
      | inr h ↦ later (has own p) (without own ps) (has-without own ps q h f)
    ]
  where
    kept : (b : Bool) (rest : List Place) → b ≡ false → is_place p q ≡ true → has (cond (not b) (p ∷ rest) rest) q ≡ true
    kept true rest b h = absurd (false≢true (sym b))
    kept false rest b h = or_left _ _ h

    later : (b : Bool) (rest : List Place) → has rest q ≡ true → has (cond (not b) (p ∷ rest) rest) q ≡ true
    later true rest h = h
    later false rest h = or_right (is_place p q) _ h

pub has-without-only : (own places : List Place) (q : Place) → has (without own places) q ≡ true → has places q ≡ true
unfolding has
has-without-only own [] q e = e
has-without-only own (p ∷ ps) q e = pick (λ h. has-without-only own ps q h) (has own p) e
  where
    pick : (has (without own ps) q ≡ true → has ps q ≡ true) → (b : Bool) → has (cond (not b) (p ∷ without own ps) (without own ps)) q ≡ true → (is_place p q || has ps q) ≡ true
    pick more true h = or_right (is_place p q) _ (more h)
    pick more false h =
        elim (or_cases (is_place p q) (has (without own ps) q) h) [
          | inl k ↦ or_left _ _ k
          | inr k ↦ or_right (is_place p q) _ (more k)
        ]
