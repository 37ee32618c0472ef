-- Products that don't overflow.
use Rattle.std.proofs.Common.{◌≤◌, ◌^◌, ◌*◌, ℕ, ℤ, pos, negsuc, ◌*ℤ◌, ◌≤ℤ◌, ◌<ℤ◌, arith}
use Rattle.std.specs.Prelude.{unsigned_abs}
use Rattle.std.proofs.lemmas.Int.{ints, unsigned_abs-mul}
use Rattle.std.proofs.lemmas.Nat.{mul-le}

pub product-small : (n w : ℕ) → n ≤ 2 ^ 32 → w ≤ 2 ^ 32 → n * w ≤ 2 ^ 64
product-small n w h g = let small = mul-le n w (2 ^ 32) (2 ^ 32) h g in omega arith

pub product-near : (k : ℤ) (w : ℕ) → k <ℤ pos (2 ^ 32) → pos 0 ≤ℤ k → w ≤ 2 ^ 32 → unsigned_abs (k *ℤ pos w) ≤ 2 ^ 71
product-near (pos k) w h f g =
    let is = unsigned_abs-mul (pos k) (pos w) in
    let low : k ≤ 2 ^ 32 = omega (arith, ints) in
    let small = product-small k w low g in
    omega arith
product-near (negsuc k) w h f g = absurd (omega (arith, ints))

pub ruleset products = (product-small, product-near)
