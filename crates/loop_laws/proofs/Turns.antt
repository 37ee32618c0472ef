-- Loops, turn by turn.
use Rattle.std.proofs.Common.{◌≡◌, ℕ, zero, suc, Bool, true, false, ◌&&◌, not, Option, Some, None, refl, ap, ◌∙◌}
use Rattle.sv_types.specs.Surroundings.{Sight}
use Rattle.sv_types.specs.Runs.{most_turns}
use Rattle.design_breaks.specs.declared.Unrolled.{Unrolled}
use Rattle.design_breaks.specs.Unrolling.{Control, Unrolls, onward, found, given, goes_on, one_of, unless_at, lasting, turns, too_long_at, unless_found, all_turns, is_past, looping}
use Rattle.loop_laws.proofs.Rows.{onward-stops}

-- whether the turns end
abbrev after_step : ℕ → Control → Sight → Option ℕ
after_step n c k = unless_at (too_long_at c.step k) (λ i. lasting n c (given c c.step i)) k

lasting-zero : (c : Control) (k : Sight) → lasting zero c k ≡ unless_at (too_long_at c.test k) (one_of (goes_on c k) (λ j. Some c.at) (λ j. None)) k
unfolding lasting
lasting-zero c k = refl

lasting-suc : (n : ℕ) (c : Control) (k : Sight) → lasting (suc n) c k ≡ unless_at (too_long_at c.test k) (one_of (goes_on c k) (after_step n c) (λ j. None)) k
unfolding lasting
lasting-suc n c k = refl

pub test-long : (n : ℕ) (c : Control) (k : Sight) (at : ℕ) → too_long_at c.test k ≡ Some at → lasting n c k ≡ Some at
test-long zero c k at is = lasting-zero c k ∙ ap (λ o. unless_at o (one_of (goes_on c k) (λ j. Some c.at) (λ j. None)) k) is
test-long (suc n) c k at is = lasting-suc n c k ∙ ap (λ o. unless_at o (one_of (goes_on c k) (after_step n c) (λ j. None)) k) is

pub test-stops : (n : ℕ) (c : Control) (k : Sight) → too_long_at c.test k ≡ None → goes_on c k ≡ false → lasting n c k ≡ None
test-stops zero c k is stops = lasting-zero c k ∙ ap (λ o. unless_at o (one_of (goes_on c k) (λ j. Some c.at) (λ j. None)) k) is ∙ ap (λ b. one_of b (λ j. Some c.at) (λ j. None) k) stops
test-stops (suc n) c k is stops = lasting-suc n c k ∙ ap (λ o. unless_at o (one_of (goes_on c k) (after_step n c) (λ j. None)) k) is ∙ ap (λ b. one_of b (after_step n c) (λ j. None) k) stops

pub never-ends : (c : Control) (k : Sight) → too_long_at c.test k ≡ None → goes_on c k ≡ true → lasting zero c k ≡ Some c.at
never-ends c k is goes = lasting-zero c k ∙ ap (λ o. unless_at o (one_of (goes_on c k) (λ j. Some c.at) (λ j. None)) k) is ∙ ap (λ b. one_of b (λ j. Some c.at) (λ j. None) k) goes

turn-on : (n : ℕ) (c : Control) (k : Sight) → too_long_at c.test k ≡ None → goes_on c k ≡ true → lasting (suc n) c k ≡ after_step n c k
turn-on n c k is goes = lasting-suc n c k ∙ ap (λ o. unless_at o (one_of (goes_on c k) (after_step n c) (λ j. None)) k) is ∙ ap (λ b. one_of b (after_step n c) (λ j. None) k) goes

pub step-long : (n : ℕ) (c : Control) (k : Sight) (at : ℕ) → too_long_at c.test k ≡ None → goes_on c k ≡ true → too_long_at c.step k ≡ Some at → lasting (suc n) c k ≡ Some at
step-long n c k at is goes long = turn-on n c k is goes ∙ ap (λ o. unless_at o (λ i. lasting n c (given c c.step i)) k) long

pub step-on : (n : ℕ) (c : Control) (k : Sight) → too_long_at c.test k ≡ None → goes_on c k ≡ true → too_long_at c.step k ≡ None → lasting (suc n) c k ≡ lasting n c (given c c.step k)
step-on n c k is goes short = turn-on n c k is goes ∙ ap (λ o. unless_at o (λ i. lasting n c (given c c.step i)) k) short

-- and what they add
turns-suc : (n : ℕ) (c : Control) (body : Unrolls) (k : Sight) (u : Unrolled) → turns (suc n) c body k u ≡ one_of (goes_on c k) (λ j. turns n c body (given c c.step j) (onward body j u)) (λ j. u) k
unfolding turns
turns-suc n c body k u = refl

pub turns-zero : (c : Control) (body : Unrolls) (k : Sight) (u : Unrolled) → turns zero c body k u ≡ u
unfolding turns
turns-zero c body k u = refl

pub turn-stops : (n : ℕ) (c : Control) (body : Unrolls) (k : Sight) (u : Unrolled) → goes_on c k ≡ false → turns (suc n) c body k u ≡ u
turn-stops n c body k u is = turns-suc n c body k u ∙ ap (λ b. one_of b (λ j. turns n c body (given c c.step j) (onward body j u)) (λ j. u) k) is

pub turn-goes : (n : ℕ) (c : Control) (body : Unrolls) (k : Sight) (u : Unrolled) → goes_on c k ≡ true → turns (suc n) c body k u ≡ turns n c body (given c c.step k) (onward body k u)
turn-goes n c body k u is = turns-suc n c body k u ∙ ap (λ b. one_of b (λ j. turns n c body (given c c.step j) (onward body j u)) (λ j. u) k) is

pub turns-full : (n : ℕ) (c : Control) (body : Unrolls) (k : Sight) (u : Unrolled) → u.left ≡ None → turns n c body k u ≡ u
turns-full zero c body k u is = turns-zero c body k u
turns-full (suc n) c body k u is = by (goes_on c k) refl (turns-full n c body (given c c.step k) u is)
  where
    by : (b : Bool) → goes_on c k ≡ b → turns n c body (given c c.step k) u ≡ u → turns (suc n) c body k u ≡ u
    by true goes later = turn-goes n c body k u goes ∙ ap (turns n c body (given c c.step k)) (onward-stops body k u is) ∙ later
    by false stops later = turn-stops n c body k u stops

-- a whole loop
abbrev rest_of : Control → Unrolls → Unrolls
rest_of c body j v = unless_found (lasting most_turns c (given c c.first j)) (λ i w. turns most_turns c body (given c c.first i) w) j v

pub first-long : (c : Control) (body : Unrolls) (k : Sight) (u : Unrolled) (at : ℕ) → too_long_at c.first k ≡ Some at → all_turns c body k u ≡ found (Some at) u
first-long c body k u at is = ap (λ o. unless_found o (rest_of c body) k u) is

pub loop-endless : (c : Control) (body : Unrolls) (k : Sight) (u : Unrolled) (at : ℕ) → too_long_at c.first k ≡ None → lasting most_turns c (given c c.first k) ≡ Some at → all_turns c body k u ≡ found (Some at) u
loop-endless c body k u at is long = ap (λ o. unless_found o (rest_of c body) k u) is ∙ ap (λ o. unless_found o (λ i w. turns most_turns c body (given c c.first i) w) k u) long

pub loop-ends : (c : Control) (body : Unrolls) (k : Sight) (u : Unrolled) → too_long_at c.first k ≡ None → lasting most_turns c (given c c.first k) ≡ None → all_turns c body k u ≡ turns most_turns c body (given c c.first k) u
loop-ends c body k u is ends = ap (λ o. unless_found o (rest_of c body) k u) is ∙ ap (λ o. unless_found o (λ i w. turns most_turns c body (given c c.first i) w) k u) ends

-- a loop that isn't unrolled, or is
pub not-counted : (b : Bool) (c : Control) (body : Unrolls) (k : Sight) (u : Unrolled) → b ≡ false → looping b c body k u ≡ u
not-counted b c body k u is = ap (λ x. one_of (x && not (is_past u.endless c.at)) (λ j. all_turns c body j u) (λ j. u) k) is

past : (b : Bool) → (b && not true) ≡ false
past true = refl
past false = refl

pub is-past : (b : Bool) (c : Control) (body : Unrolls) (k : Sight) (u : Unrolled) → is_past u.endless c.at ≡ true → looping b c body k u ≡ u
is-past b c body k u is = ap (λ x. one_of (b && not x) (λ j. all_turns c body j u) (λ j. u) k) is ∙ ap (λ x. one_of x (λ j. all_turns c body j u) (λ j. u) k) (past b)

pub is-unrolled : (b : Bool) (c : Control) (body : Unrolls) (k : Sight) (u : Unrolled) → b ≡ true → is_past u.endless c.at ≡ false → looping b c body k u ≡ all_turns c body k u
is-unrolled b c body k u is before =
    ap (λ x. one_of (x && not (is_past u.endless c.at)) (λ j. all_turns c body j u) (λ j. u) k) is ∙ ap (λ x. one_of (not x) (λ j. all_turns c body j u) (λ j. u) k) before
