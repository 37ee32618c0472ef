-- Products that don't overflow.
use Rattle.std.proofs.Common.{◌≡◌, ◌≤◌, ◌<◌, ◌^◌, ◌*◌, ◌+◌, ◌-◌, zero, suc, drop, get_or, subst, List, [], ◌∷◌, length, ℕ, ℤ, pos, ◌*ℤ◌, arith, ap, ◌∙◌}
use Rattle.std.specs.Prelude.{unsigned_abs}
use Rattle.b4_core.specs.declared.bit.Bit4.{Bit4}
use Rattle.b4_core.specs.declared.bit.Bit4.TheVariants.{Zero, One, X, Z}
use Rattle.b4_core.specs.Vectors.{num, digit}
use Rattle.std.proofs.lemmas.List.{drop_more, length-drop}
use Rattle.std.proofs.lemmas.Int.{ints, unsigned_abs-mul}
use Rattle.std.proofs.lemmas.Nat.{mul-le}
use Rattle.eval_parts.specs.Places.{IsNear}

near-abs : (n : ℤ) → unsigned_abs n ≤ 2 ^ 100 → IsNear n
near-abs n h = record { above = grind (arith, ints); below = grind (arith, ints) }

pub product-near : (r : ℤ) (w : ℕ) → unsigned_abs r ≤ 2 ^ 70 → w ≤ 2 ^ 30 → IsNear (r *ℤ pos w)
product-near r w h g =
    let small = mul-le (unsigned_abs r) w (2 ^ 70) (2 ^ 30) h g in
    let is = unsigned_abs-mul r (pos w) in
    near-abs (r *ℤ pos w) (omega arith)

pub product-small : (n w : ℕ) → n ≤ 2 ^ 70 → w ≤ 2 ^ 30 → n * w ≤ 2 ^ 100
product-small n w h g = let small = mul-le n w (2 ^ 70) (2 ^ 30) h g in omega arith

pub ruleset products = (product-near, product-small)

pow-suc : (n : ℕ) → 2 ^ suc n ≡ 2 * 2 ^ n
pow-suc n = grind arith

pub num-below : (v : List Bit4) → num v < 2 ^ length v
num-below [] = omega arith
num-below (Zero ∷ v) = let h = num-below v in let e = pow-suc (length v) in omega arith
num-below (One ∷ v) = let h = num-below v in let e = pow-suc (length v) in omega arith
num-below (X ∷ v) = let h = num-below v in let e = pow-suc (length v) in omega arith
num-below (Z ∷ v) = let h = num-below v in let e = pow-suc (length v) in omega arith

pub next-num : (v : List Bit4) (i : ℕ) (d : Bit4) → i < length v → num (drop i v) ≡ digit (get_or v i d) + 2 * num (drop (i + 1) v)
next-num v i d h = ap num (drop_more v i d h)

pub rest-below : (v : List Bit4) (i : ℕ) → num (drop i v) < 2 ^ (length v - i)
rest-below v i = subst (λ n. num (drop i v) < 2 ^ n) (length-drop i v) (num-below (drop i v))

pub ruleset numbers = (num-below)

pub pow-more : (n : ℕ) → 2 ^ (n + 1) ≡ 2 ^ n * 2
pow-more n = let e : n + 1 ≡ suc n = omega arith in ap (λ k. 2 ^ k) e ∙ pow-suc n ∙ omega arith

pow-grows : (k n : ℕ) → 2 ^ n ≤ 2 ^ (k + n)
pow-grows zero n = let f : n ≡ 0 + n = omega arith in let g : 2 ^ n ≤ 2 ^ n = omega arith in subst (λ m. 2 ^ n ≤ 2 ^ m) f g
pow-grows (suc k) n =
    let h = pow-grows k n in
    let f : suc (k + n) ≡ suc k + n = omega arith in
    let e = pow-suc (k + n) in
    let g : 2 ^ n ≤ 2 ^ suc (k + n) = omega arith in
    subst (λ m. 2 ^ n ≤ 2 ^ m) f g

pub pow-small : (n : ℕ) → n ≤ 64 → 2 ^ n ≤ 2 ^ 64
pow-small n h = let e : (64 - n) + n ≡ 64 = omega arith in subst (λ m. 2 ^ n ≤ 2 ^ m) e (pow-grows (64 - n) n)

pub ruleset powers = (pow-more, pow-small)
