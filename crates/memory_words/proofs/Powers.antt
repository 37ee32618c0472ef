-- Powers of two.
use Rattle.std.proofs.Common.{◌≡◌, ◌≤◌, ◌^◌, ◌*◌, ◌+◌, ◌-◌, zero, suc, subst, ℕ, arith, ap, ◌∙◌}

pow-suc : (n : ℕ) → 2 ^ suc n ≡ 2 * 2 ^ n
pow-suc n = grind arith

pub pow-more : (n : ℕ) → 2 ^ (n + 1) ≡ 2 ^ n * 2
pow-more n = let e : n + 1 ≡ suc n = omega arith in ap (λ k. 2 ^ k) e ∙ pow-suc n ∙ omega arith

pow-grows : (k n : ℕ) → 2 ^ n ≤ 2 ^ (k + n)
pow-grows zero n = let f : n ≡ 0 + n = omega arith in let g : 2 ^ n ≤ 2 ^ n = omega arith in subst (λ m. 2 ^ n ≤ 2 ^ m) f g
pow-grows (suc k) n =
    let h = pow-grows k n in
    let f : suc (k + n) ≡ suc k + n = omega arith in
    let e = pow-suc (k + n) in
    let g : 2 ^ n ≤ 2 ^ suc (k + n) = omega arith in
    subst (λ m. 2 ^ n ≤ 2 ^ m) f g

pub pow-small : (n : ℕ) → n ≤ 64 → 2 ^ n ≤ 2 ^ 64
pow-small n h = let e : (64 - n) + n ≡ 64 = omega arith in subst (λ m. 2 ^ n ≤ 2 ^ m) e (pow-grows (64 - n) n)

pub ruleset powers = (pow-more, pow-small)
