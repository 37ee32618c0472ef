-- Low bits of integers, from the numbers of their operands' bits.
use Rattle.std.proofs.Common.{◌≡◌, ℕ, zero, suc, ◌+◌, ◌-◌, ◌*◌, ◌/◌, ◌%◌, ◌^◌, ◌<◌, ◌≤◌, ◌==◌, ℤ, pos, negsuc, ◌+ℤ◌, ◌-ℤ◌, ◌*ℤ◌, neg_ℤ, unsigned_abs, Bool, true, false, cond, ◌⊎◌, inl, inr, List, length, refl, sym, ap, ◌∙◌, arith}
use Rattle.std.proofs.Math.Nat.{add-mod-mod, mod-add-div', add-mul, mul-add, mul_assoc, mul_comm}
use Rattle.std.proofs.lemmas.Bool.Decides.{nat_tests}
use Rattle.std.proofs.lemmas.Int.{ints, int_rem_euclid_is}
use Rattle.std.proofs.lemmas.Nat.{pow_pos, pow-add, shr_high}
use Rattle.std.specs.Int.{int_pow}
use Rattle.b4_core.specs.declared.bit.Bit4.{Bit4}
use Rattle.b4_core.specs.Bits.{is_one}
use Rattle.b4_core.specs.Vectors.{num, snum, number, vec, digits, top_bit}
use Rattle.b4_core.specs.Integers.{signed_number}
use Rattle.b4_core.proofs.Digits.{digits_multiple, digits_remainder, digits_word}
use Rattle.b4_core.proofs.Numbers.{num_lt}

-- z differs by a multiple of 2 to the w from a natural number, whose digits are z's low bits
pub vec_is : (w k n : ℕ) (z : ℤ) → z +ℤ pos (k * 2 ^ w) ≡ pos n → vec w z ≡ digits w n
vec_is w k n z e =
    ap (λ r. digits w (unsigned_abs r)) (int_rem_euclid_is z (pos (2 ^ w)) (2 ^ w) k n (pow_pos w) refl e) ∙ digits_remainder w n

pub vec_pos : (w n : ℕ) → vec w (pos n) ≡ digits w n
vec_pos w n = digits_remainder w n

-- a word's room is a whole number of times 2 to the w
word_room : (w : ℕ) → w ≤ 128 → (k : ℕ) × (suc k * 2 ^ w ≡ 2 ^ 128)
word_room w h =
    let some : 0 < 2 ^ (128 - w) = pow_pos (128 - w) in
    let whole : (128 - w) + w ≡ 128 = omega arith in
    let k : ℕ = 2 ^ (128 - w) - 1 in
    let e : suc (2 ^ (128 - w) - 1) ≡ 2 ^ (128 - w) = omega arith in
    (2 ^ (128 - w) - 1, ap (λ x. x * 2 ^ w) e ∙ sym (pow-add 2 (128 - w) w) ∙ ap (λ x. 2 ^ x) whole)

-- the word r is the negative of m
pub vec_neg : (w m r : ℕ) → w ≤ 128 → (r + m) % 2 ^ 128 ≡ 0 → vec w (neg_ℤ (pos m)) ≡ digits w r
vec_neg w m r h e =
    let room = word_room w h in
    let k : ℕ = (r + m) / 2 ^ 128 in
    let whole : (r + m) / 2 ^ 128 * suc room.0 * 2 ^ w ≡ r + m =
    mul_assoc ((r + m) / 2 ^ 128) (suc room.0) (2 ^ w) ∙ ap (λ x. (r + m) / 2 ^ 128 * x) room.1 ∙ omega (arith, mod-add-div' (r + m) (2 ^ 128)) in
    vec_is w ((r + m) / 2 ^ 128 * suc room.0) r (neg_ℤ (pos m)) (rw whole (omega (arith, ints)))

-- x is p, or p less 2 to the w
abbrev pub Wraps : ℕ → ℤ → ℕ → Type 0
Wraps w x p = (x ≡ pos p) ⊎ ((m : ℕ) × (x ≡ negsuc m) × (suc m + p ≡ 2 ^ w))

pub number_wraps : (signed : Bool) (v : List Bit4) → Wraps (length v) (number signed v) (num v)
number_wraps false v = inl refl
number_wraps true v = by_top (is_one (top_bit v)) refl
  where
    by_top : (t : Bool) → is_one (top_bit v) ≡ t → Wraps (length v) (snum v) (num v)
    by_top false e = inl (rw e refl)
    by_top true e =
        let small = num_lt v in
        let m : ℕ = 2 ^ length v - num v - 1 in
        let whole : suc (2 ^ length v - num v - 1) + num v ≡ 2 ^ length v = omega arith in
        inr (2 ^ length v - num v - 1, rw e (omega (arith, ints)), whole)

-- ---- what the word operations make of two operands

pub sum_wraps : (w p q : ℕ) (x y : ℤ) → Wraps w x p → Wraps w y q → vec w (x +ℤ y) ≡ digits w (p + q)
sum_wraps w p q x y (inl e) (inl f) = rw (e, f) (vec_pos w (p + q))
sum_wraps w p q x y (inl e) (inr (n, f, g)) = rw (e, f) (vec_is w 1 (p + q) (pos p +ℤ negsuc n) (omega (arith, ints)))
sum_wraps w p q x y (inr (m, e, h)) (inl f) = rw (e, f) (vec_is w 1 (p + q) (negsuc m +ℤ pos q) (omega (arith, ints)))
sum_wraps w p q x y (inr (m, e, h)) (inr (n, f, g)) = rw (e, f) (vec_is w 2 (p + q) (negsuc m +ℤ negsuc n) (omega (arith, ints)))

pub minus_wraps : (w p q : ℕ) (x y : ℤ) → w ≤ 128 → q < 2 ^ w → Wraps w x p → Wraps w y q → vec w (x -ℤ y) ≡ digits w (p + (2 ^ 128 - q))
minus_wraps w p q x y small fits (inl e) (inl f) =
    let room = word_room w small in
    let whole : suc room.0 * 2 ^ w ≡ 2 ^ 128 = room.1 in
    let more : 2 ^ w ≤ 2 ^ 128 = omega (arith, room.1) in
    rw (e, f) (vec_is w (suc room.0) (p + (2 ^ 128 - q)) (pos p -ℤ pos q) (rw whole (omega (arith, ints))))
minus_wraps w p q x y small fits (inl e) (inr (n, f, g)) =
    let room = word_room w small in
    let whole : room.0 * 2 ^ w + 2 ^ w ≡ 2 ^ 128 = omega (arith, room.1) in
    rw (e, f) (vec_is w room.0 (p + (2 ^ 128 - q)) (pos p -ℤ negsuc n) (omega (arith, ints)))
minus_wraps w p q x y small fits (inr (m, e, h)) (inl f) =
    let room = word_room w small in
    let whole : suc (suc room.0) * 2 ^ w ≡ 2 ^ w + 2 ^ 128 = omega (arith, room.1) in
    rw (e, f) (vec_is w (suc (suc room.0)) (p + (2 ^ 128 - q)) (negsuc m -ℤ pos q) (rw whole (omega (arith, ints))))
minus_wraps w p q x y small fits (inr (m, e, h)) (inr (n, f, g)) =
    let room = word_room w small in
    let whole : suc room.0 * 2 ^ w ≡ 2 ^ 128 = room.1 in
    let more : 2 ^ w ≤ 2 ^ 128 = omega (arith, room.1) in
    rw (e, f) (vec_is w (suc room.0) (p + (2 ^ 128 - q)) (negsuc m -ℤ negsuc n) (rw whole (omega (arith, ints))))

pub product_wraps : (w p q : ℕ) (x y : ℤ) → Wraps w x p → Wraps w y q → vec w (x *ℤ y) ≡ digits w (p * q)
product_wraps w p q x y (inl e) (inl f) = rw (e, f) (vec_pos w (p * q))
product_wraps w p q x y (inl e) (inr (n, f, g)) =
    let whole : p * suc n + p * q ≡ p * 2 ^ w = sym (mul-add p (suc n) q) ∙ ap (λ t. p * t) g in
    rw (e, f) (vec_is w p (p * q) (neg_ℤ (pos (p * suc n))) (rw (← whole) (omega (arith, ints))))
product_wraps w p q x y (inr (m, e, h)) (inl f) =
    let whole : suc m * q + p * q ≡ q * 2 ^ w = sym (add-mul (suc m) p q) ∙ ap (λ t. t * q) h ∙ mul_comm (2 ^ w) q in
    rw (e, f) (vec_is w q (p * q) (neg_ℤ (pos (suc m * q))) (rw (← whole) (omega (arith, ints))))
product_wraps w p q x y (inr (m, e, h)) (inr (n, f, g)) =
    let one : suc m * q + p * q ≡ q * 2 ^ w = sym (add-mul (suc m) p q) ∙ ap (λ t. t * q) h ∙ mul_comm (2 ^ w) q in
    let two : p * suc n + p * q ≡ p * 2 ^ w = sym (mul-add p (suc n) q) ∙ ap (λ t. p * t) g in
    let all : (suc m + p) * (suc n + q) ≡ 2 ^ w * 2 ^ w = ap (λ t. t * (suc n + q)) h ∙ ap (λ t. 2 ^ w * t) g in
    let whole : suc m * suc n + (p + q) * 2 ^ w ≡ p * q + 2 ^ w * 2 ^ w = omega (arith, one, two, all) in
    rw (e, f)
    (vec_is w (p + q) (p * q + 2 ^ w * 2 ^ w) (pos (suc m * suc n)) (ap pos whole) ∙ digits_multiple w (2 ^ w) (p * q))

-- ---- an integer by sign and absolute value

-- the word of ones of n bits
pub ones_word : (n : ℕ) → n ≤ 128 → (2 ^ 128 - 1) / 2 ^ (128 - n) ≡ 2 ^ n - 1
ones_word n h =
    let low : 0 < 2 ^ (128 - n) = pow_pos (128 - n) in
    let some : 0 < 2 ^ n = pow_pos n in
    let sum : n + (128 - n) ≡ 128 = omega arith in
    let split : 2 ^ n * 2 ^ (128 - n) ≡ 2 ^ 128 = sym (pow-add 2 n (128 - n)) ∙ ap (λ k. 2 ^ k) sum in
    let rest : 2 ^ (128 - n) - 1 < 2 ^ (128 - n) = omega arith in
    let less : (2 ^ n - 1) * 2 ^ (128 - n) + 2 ^ (128 - n) ≡ 2 ^ n * 2 ^ (128 - n) = shifted (2 ^ n) (2 ^ (128 - n)) some in
    let e : 2 ^ 128 - 1 ≡ (2 ^ n - 1) * 2 ^ (128 - n) + (2 ^ (128 - n) - 1) = omega arith in
    ap (λ k. k / 2 ^ (128 - n)) e ∙ shr_high (2 ^ n - 1) (128 - n) (2 ^ (128 - n) - 1) rest
  where
    shifted : (a b : ℕ) → 0 < a → (a - 1) * b + b ≡ a * b
    shifted zero b s = absurd (omega arith)
    shifted (suc a) b s = let e : suc a - 1 ≡ a = omega arith in rw e (omega arith)

pub snum_of_top : (v : List Bit4) (m : ℕ) → is_one (top_bit v) ≡ true → m + num v ≡ 2 ^ length v → neg_ℤ (pos m) ≡ snum v
snum_of_top v m top e = rw top (omega (arith, ints))

-- the low bits of a negative integer are those of its word's negative, and of another those of its word
pub low_of_negative : (b : Bool) (m r : ℕ) (z : ℤ) → b ≡ true → signed_number b m ≡ z → (r + m) % 2 ^ 128 ≡ 0 → (w : ℕ) → w ≤ 128 → digits w r ≡ vec w z
low_of_negative false m r z t e h w small = cc
low_of_negative true m r z t e h w small = sym (vec_neg w m r small h) ∙ ap (vec w) e

pub low_of_other : (b : Bool) (m : ℕ) (z : ℤ) → b ≡ false → signed_number b m ≡ z → (w : ℕ) → w ≤ 128 → digits w m ≡ vec w z
low_of_other true m z t e w small = cc
low_of_other false m z t e w small = sym (vec_pos w m) ∙ ap (vec w) e

-- ---- powers

-- an even power, or a power of an integer that isn't negative, is that of the absolute value
pub power_plain : (b : Bool) (m e : ℕ) (z : ℤ) → signed_number b m ≡ z → (b ≡ true → e % 2 ≡ 1 → ⊥) → int_pow z e ≡ pos (m ^ e)
power_plain false m e z f h = rw (← f) refl
power_plain true zero e z f h = rw (← f) refl
power_plain true (suc m) e z f h = rw (← f) (even (e % 2 == 0) refl)
  where
    even : (t : Bool) → (e % 2 == 0) ≡ t → cond t (pos (suc m ^ e)) (neg_ℤ (pos (suc m ^ e))) ≡ pos (suc m ^ e)
    even true g = refl
    even false g = absurd (h refl (grind (arith, nat_tests)))

-- an odd power of a negative integer is negative
pub power_turned : (b : Bool) (m e : ℕ) (z : ℤ) → 0 < m → b ≡ true → e % 2 ≡ 1 → signed_number b m ≡ z → int_pow z e ≡ neg_ℤ (pos (m ^ e))
power_turned false m e z s t h f = cc
power_turned true zero e z s t h f = absurd (omega arith)
power_turned true (suc m) e z s t h f = rw (← f) (odd (e % 2 == 0) refl)
  where
    odd : (t : Bool) → (e % 2 == 0) ≡ t → cond t (pos (suc m ^ e)) (neg_ℤ (pos (suc m ^ e))) ≡ neg_ℤ (pos (suc m ^ e))
    odd false g = refl
    odd true g = absurd (grind (arith, nat_tests))

pub low_of_power : (n : ℕ) (z : ℤ) → z ≡ pos n → (p : ℕ) → p ≡ n % 2 ^ 128 → (w : ℕ) → w ≤ 128 → digits w p ≡ vec w z
low_of_power n z e p f w small = rw (e, f) (digits_word w n small ∙ sym (vec_pos w n))

pub low_of_turned_power : (n r p : ℕ) (z : ℤ) → z ≡ neg_ℤ (pos n) → p ≡ n % 2 ^ 128 → (r + p) % 2 ^ 128 ≡ 0 → (w : ℕ) → w ≤ 128 → digits w r ≡ vec w z
low_of_turned_power n r p z e f h w small =
    let whole : (r + n) % 2 ^ 128 ≡ 0 = sym (add-mod-mod r n (2 ^ 128)) ∙ ap (λ x. (r + x) % 2 ^ 128) (sym f) ∙ h in
    rw e (sym (vec_neg w n r small whole))
