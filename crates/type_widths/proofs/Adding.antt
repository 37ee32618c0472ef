-- Sums and products of numbers, limb by limb.
use Rattle.std.proofs.Common.{◌≡◌, ◌≤◌, ℕ, ◌+◌, ◌*◌, ◌/◌, ◌%◌, List, [], ◌∷◌, ◌++◌, length, drop, max, ap, ◌∙◌, sym, arith}
use Rattle.std.proofs.Math.Nat.{mul-add, mul_comm, mul_left_comm}
use Rattle.type_widths.specs.Limbs.{limb_at, number, onto}
use Rattle.type_widths.proofs.Digits.{number-drop, number-none, number-push, onto-push}

-- what a limb of a product leaves to those above it
limb-step : (n a x t carry as' xs : ℕ) → t ≡ a + x * n + carry
    → t % 4294967296 + 4294967296 * (t / 4294967296 + as' + n * xs) ≡ carry + (a + 4294967296 * as') + n * (x + 4294967296 * xs)
limb-step n a x t carry as' xs e =
    let d = mul-add n x (4294967296 * xs) in
    let c = mul_comm n x in
    let f = mul_left_comm n 4294967296 xs in
    omega (arith, d, c, f)

pub add-step : (made a x : List ℕ) (n carry i t : ℕ) → t ≡ limb_at a i + limb_at x i * n + carry
    → onto (made ++ (t % 4294967296) ∷ []) (t / 4294967296 + number (drop (i + 1) a) + n * number (drop (i + 1) x))
    ≡ onto made (carry + number (drop i a) + n * number (drop i x))
add-step made a x n carry i t e =
    let as' = number (drop (i + 1) a) in
    let xs = number (drop (i + 1) x) in
    onto-push made (t % 4294967296) (t / 4294967296 + as' + n * xs)
    ∙ ap (onto made) (limb-step n (limb_at a i) (limb_at x i) t carry as' xs e)
    ∙ ap (λ k. onto made (carry + k + n * (limb_at x i + 4294967296 * xs))) (sym (number-drop a i))
    ∙ ap (λ k. onto made (carry + number (drop i a) + n * k)) (sym (number-drop x i))

pub add-end : (made a x : List ℕ) (n carry i : ℕ) → max (length a) (length x) ≤ i
    → number (made ++ carry ∷ []) ≡ onto made (carry + number (drop i a) + n * number (drop i x))
add-end made a x n carry i h =
    let e = number-none a i (omega arith) in
    let f = number-none x i (omega arith) in
    number-push made carry ∙ ap (onto made) (last e f)
  where
    last : number (drop i a) ≡ 0 → number (drop i x) ≡ 0 → carry ≡ carry + number (drop i a) + n * number (drop i x)
    last e f = let g : n * number (drop i x) ≡ n * 0 = ap (λ k. n * k) f in omega arith

pub ruleset adding = (add-step, add-end)

pub product : (n w : ℕ) → w + n % 4294967296 * w + n / 4294967296 * (4294967296 * w) ≡ (n + 1) * w
product n w =
    let r = n % 4294967296 in
    let q = n / 4294967296 in
    let e : n ≡ r + 4294967296 * q = omega arith in
    let f : w * n ≡ w * (r + 4294967296 * q) = ap (λ k. w * k) e in
    let g = mul-add w r (4294967296 * q) in
    let h = mul_left_comm w 4294967296 q in
    let i = mul_left_comm q 4294967296 w in
    let j = mul_comm r w in
    let k = mul_comm q w in
    let l = mul_comm (n + 1) w in
    let m = mul-add w n 1 in
    omega (arith, f, g, h, i, j, k, l, m)

pub ruleset products = (product)
