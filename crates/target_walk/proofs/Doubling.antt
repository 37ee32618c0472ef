-- Powers of two.
use Rattle.std.proofs.Common.{◌≡◌, ◌≤◌, ◌^◌, ◌*◌, ◌+◌, suc, ℕ, arith, ap, ◌∙◌}
use Rattle.target_walk.proofs.Rooming.{pow-suc, pow-more}

pub pow-next : (n : ℕ) → 2 ^ (n + 1) ≡ 2 ^ n * 2
pow-next n = let e : n + 1 ≡ suc n = omega arith in ap (λ k. 2 ^ k) e ∙ pow-suc n ∙ omega arith

pub pow-small : (n : ℕ) → n ≤ 67 → 2 ^ n ≤ 2 ^ 67
pow-small n h = pow-more n 67 h

pub ruleset powers = (pow-next, pow-small)
