-- The bits of the parts of a concatenation.
use Rattle.std.proofs.Common.{◌≡◌, ◌≤◌, ◌<◌, ◌*◌, ℕ, zero, suc, min, true, false, arith, ap}
use Rattle.std.specs.Prelude.{nat_lt}
use Rattle.std.proofs.Math.Nat.{mul-le-mul_left, suc-mul}
use Rattle.std.proofs.lemmas.Bool.Decides.{nat_tests}

pub too-many : (w b : ℕ) → b ≡ min w 65537 → 65536 < b → nat_lt 65536 w ≡ true
too-many w b e h = grind (arith, nat_tests)

pub not-many : (w b : ℕ) → b ≡ min w 65537 → b ≤ 65536 → nat_lt 65536 w ≡ false
not-many w b e h = grind (arith, nat_tests)

pub few-is : (w b : ℕ) → b ≡ min w 65537 → b ≤ 65536 → b ≡ w
few-is w b e h = omega arith

pub ruleset few = (too-many, not-many, few-is)

times-least : (n w b : ℕ) → b ≡ min w 65537 → n * b ≤ n * w
times-least n w b e = mul-le-mul_left n (omega arith)

-- a product that isn't too large has no part that is cut
pub times-is : (n w b : ℕ) → b ≡ min w 65537 → n * b ≤ 65536 → n * b ≡ n * w
times-is zero w b e h = omega arith
times-is (suc n) w b e h =
    let l : b ≤ suc n * b = omega (arith, suc-mul n b) in
    let s : b ≡ w = omega arith in
    ap (λ x. suc n * x) s

pub times-too-many : (n w b : ℕ) → b ≡ min w 65537 → 65536 < n * b → nat_lt 65536 (n * w) ≡ true
times-too-many n w b e h =
    let l = times-least n w b e in
    let m : 65536 < n * w = omega arith in
    grind (arith, nat_tests, m)

pub times-not-many : (n w b : ℕ) → b ≡ min w 65537 → n * b ≤ 65536 → nat_lt 65536 (n * w) ≡ false
times-not-many n w b e h =
    let s = times-is n w b e h in
    let m : n * w ≤ 65536 = omega arith in
    grind (arith, nat_tests, m)

pub ruleset few_times = (times-is, times-too-many, times-not-many)
