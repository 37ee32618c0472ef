-- The order of numbers, limb by limb.
use Rattle.std.proofs.Common.{◌≡◌, ◌≤◌, ◌<◌, ◌==◌, ℕ, ◌+◌, ◌*◌, Bool, true, false, ◌&&◌, ◌||◌, List, length, drop, max, ap, ◌∙◌, arith}
use Rattle.std.specs.Prelude.{nat_lt, not}
use Rattle.std.proofs.lemmas.Bool.Decides.{nat_tests}
use Rattle.type_widths.specs.Limbs.{after, limb_at, number}
use Rattle.type_widths.proofs.Digits.{number-drop, number-none}

-- whether a number is less, or equal and less by the limbs below
abbrev pub less_or : ℕ → ℕ → Bool → Bool
less_or r s below = nat_lt r s || ((r == s) && below)

limb-step : (x y r s : ℕ) (below : Bool) → x < 4294967296 → y < 4294967296
    → less_or (x + 4294967296 * r) (y + 4294967296 * s) below ≡ less_or r s (after x y below)
limb-step x y r s true h g = grind (arith, nat_tests)
limb-step x y r s false h g = grind (arith, nat_tests)

pub less-step : (a b : List ℕ) (i : ℕ) (below : Bool) → limb_at a i < 4294967296 → limb_at b i < 4294967296
    → less_or (number (drop i a)) (number (drop i b)) below ≡ less_or (number (drop (i + 1) a)) (number (drop (i + 1) b)) (after (limb_at a i) (limb_at b i) below)
less-step a b i below h g =
    ap (λ k. less_or k (number (drop i b)) below) (number-drop a i)
    ∙ ap (λ k. less_or (limb_at a i + 4294967296 * number (drop (i + 1) a)) k below) (number-drop b i)
    ∙ limb-step (limb_at a i) (limb_at b i) (number (drop (i + 1) a)) (number (drop (i + 1) b)) below h g

pub less-end : (a b : List ℕ) (i : ℕ) (below : Bool) → max (length a) (length b) ≤ i → less_or (number (drop i a)) (number (drop i b)) below ≡ below
less-end a b i below h =
    ap (λ k. less_or k (number (drop i b)) below) (number-none a i (omega arith)) ∙ ap (λ k. less_or 0 k below) (number-none b i (omega arith))

pub ruleset ordering = (less-step, less-end)

pub same-by : (m n : ℕ) → (not (nat_lt m n) && not (nat_lt n m)) ≡ (m == n)
same-by m n = grind (arith, nat_tests)

pub ruleset same = (same-by)
