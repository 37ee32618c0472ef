-- The binary digits of numbers.
use Rattle.std.proofs.Common.{◌≡◌, ℕ, zero, suc, ◌+◌, ◌-◌, ◌*◌, ◌/◌, ◌%◌, ◌^◌, ◌<◌, ◌≤◌, ◌==◌, ◌∷◌, refl, sym, ap, ◌∙◌, arith}
use Rattle.std.proofs.Math.Nat.{pow-suc, mod-add-div'}
use Rattle.std.proofs.Math.Pow.{mod-mod-pow}
use Rattle.b4_core.specs.Bits.{bit_of}
use Rattle.b4_core.specs.Vectors.{digits}

double_power : (k w : ℕ) → k * 2 ^ suc w ≡ 2 * (k * 2 ^ w)
double_power k w = ap (λ x. k * x) (pow-suc 2 w) ∙ omega arith

-- whole multiples of 2 to the w don't reach the w lowest digits
pub digits_multiple : (w k n : ℕ) → digits w (n + k * 2 ^ w) ≡ digits w n
digits_multiple zero k n = refl
digits_multiple (suc w) k n =
    let e = double_power k w in
    let low : (n + k * 2 ^ suc w) % 2 ≡ n % 2 = omega arith in
    let high : (n + k * 2 ^ suc w) / 2 ≡ n / 2 + k * 2 ^ w = omega arith in
    rw (low, high) (ap (λ v. bit_of (n % 2 == 1) ∷ v) (digits_multiple w k (n / 2)))

pub digits_remainder : (w n : ℕ) → digits w (n % 2 ^ w) ≡ digits w n
digits_remainder w n = sym (digits_multiple w (n / 2 ^ w) (n % 2 ^ w)) ∙ ap (digits w) (mod-add-div' n (2 ^ w))

-- a word of 128 bits keeps the w lowest digits
pub digits_word : (w n : ℕ) → w ≤ 128 → digits w (n % 2 ^ 128) ≡ digits w n
digits_word w n h =
    let whole : (128 - w) + w ≡ 128 = omega arith in
    let cut : n % 2 ^ 128 % 2 ^ w ≡ n % 2 ^ w = ap (λ k. n % 2 ^ k % 2 ^ w) (sym whole) ∙ mod-mod-pow n (128 - w) w in
    sym (digits_remainder w (n % 2 ^ 128)) ∙ ap (digits w) cut ∙ digits_remainder w n

-- the lowest digit, and those above it
pub digits_next : (w i n : ℕ) → i < w → digits (w - i) n ≡ bit_of (n % 2 == 1) ∷ digits (w - (i + 1)) (n / 2)
digits_next w i n h =
    let e : w - i ≡ suc (w - (i + 1)) = omega arith in
    rw e refl
