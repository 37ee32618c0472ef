-- The bits of a number in a width, and the number of its bits.
use Rattle.std.proofs.Common.{◌≡◌, inl, inr, ℕ, zero, suc, ◌+◌, ◌-◌, ◌*◌, ◌/◌, ◌%◌, ◌^◌, ◌≤◌, ◌==◌, ℤ, pos, negsuc, ◌+ℤ◌, Bool, true, false, List, [], ◌∷◌, length, take, refl, sym, ap, ◌∙◌, arith, true≢false}
use Rattle.std.specs.Prelude.{nat_le}
use Rattle.std.proofs.lemmas.Int.{ints}
use Rattle.std.proofs.lemmas.Nat.{pow-add}
use Rattle.std.proofs.lemmas.Bool.Decides.{nat_tests}
use Rattle.b4_core.specs.declared.bit.Bit4.{Bit4}
use Rattle.b4_core.specs.declared.bit.Bit4.TheVariants.{Zero, One, X, Z}
use Rattle.b4_core.specs.Bits.{bit_of}
use Rattle.b4_core.specs.Vectors.{known, num, snum, number, digits, vec, ext}
use Rattle.b4_core.proofs.TwosComplement.{Wraps, number_wraps, vec_is, vec_pos}
use Rattle.sv_types.proofs.OperatorLengths.{length-ext}
use Rattle.lowering_laws.proofs.Extensions.{ext-cut}
use Rattle.lowering_laws.proofs.SignedNumbers.{known-ext-signed, snum-ext, snum-by-zero, known-zero-above}
use Rattle.enum_types.specs.Bits.{as_signed}

-- known bits are the digits of their number
pub digits-num : (v : List Bit4) → known v ≡ true → digits (length v) (num v) ≡ v
digits-num [] k = refl
digits-num (Zero ∷ v) k =
    let low : (0 + 2 * num v) % 2 ≡ 0 = omega arith in
    let high : (0 + 2 * num v) / 2 ≡ num v = omega arith in
    rw (low, high) (ap (λ z. Zero ∷ z) (digits-num v k))
digits-num (One ∷ v) k =
    let low : (1 + 2 * num v) % 2 ≡ 1 = omega arith in
    let high : (1 + 2 * num v) / 2 ≡ num v = omega arith in
    rw (low, high) (ap (λ z. One ∷ z) (digits-num v k))
digits-num (X ∷ v) k = absurd (true≢false (sym k))
digits-num (Z ∷ v) k = absurd (true≢false (sym k))

take-digits : (w m n : ℕ) → w ≤ m → take w (digits m n) ≡ digits w n
take-digits zero m n h = refl
take-digits (suc w) zero n h = absurd (omega arith)
take-digits (suc w) (suc m) n h = ap (λ z. bit_of (n % 2 == 1) ∷ z) (take-digits w m (n / 2) (omega arith))

less-whole : (m k p : ℕ) → suc m + p ≡ k → negsuc m +ℤ pos k ≡ pos p
less-whole m k p e = omega (arith, ints)

-- the lowest digits of the signed number of a vector are those of its unsigned one
lowest : (w l p : ℕ) (z : ℤ) → w ≤ l → Wraps l z p → vec w z ≡ digits w p
lowest w l p z h (inl e) = rw e (vec_pos w p)
lowest w l p z h (inr (m, e, f)) =
    let whole : 2 ^ (l - w) * 2 ^ w ≡ 2 ^ l =
    let parts = pow-add 2 (l - w) w in
    let same : l - w + w ≡ l = omega arith in
    sym parts ∙ ap (λ k. 2 ^ k) same in
    rw e (vec_is w (2 ^ (l - w)) p (negsuc m) (less-whole m (2 ^ (l - w) * 2 ^ w) p (f ∙ sym whole)))

pub vec-snum : (v : List Bit4) → known v ≡ true → vec (length v) (snum v) ≡ v
vec-snum v k = lowest (length v) (length v) (num v) (snum v) (omega arith) (number_wraps true v) ∙ digits-num v k

-- a vector that is cut, or extended by its sign, has the bits of its number
pub ext-vec : (w : ℕ) (v : List Bit4) → known v ≡ true → ext w true v ≡ vec w (snum v)
ext-vec w v k = by (nat_le w (length v)) refl
  where
    by : (b : Bool) → nat_le w (length v) ≡ b → ext w true v ≡ vec w (snum v)
    by true e =
        let h : w ≤ length v = grind (arith, nat_tests) in
        ext-cut w true v h ∙ ap (take w) (sym (digits-num v k)) ∙ take-digits w (length v) (num v) h
        ∙ sym (lowest w (length v) (num v) (snum v) h (number_wraps true v))
    by false e =
        let h : length v ≤ w = grind (arith, nat_tests) in
        sym (vec-snum (ext w true v) (known-ext-signed w v h k))
        ∙ ap (λ n. vec n (snum (ext w true v))) (length-ext w true v) ∙ ap (vec w) (snum-ext w v h)

-- in a width that holds both, two vectors are equal just where their numbers are
pub same-vectors : (w : ℕ) (a b : List Bit4) → known a ≡ true → known b ≡ true → snum a ≡ snum b → ext w true a ≡ ext w true b
same-vectors w a b j k e = ext-vec w a j ∙ ap (vec w) e ∙ sym (ext-vec w b k)

pub same-numbers : (w : ℕ) (a b : List Bit4) → length a ≤ w → length b ≤ w → ext w true a ≡ ext w true b → snum a ≡ snum b
same-numbers w a b g h e = sym (snum-ext w a g) ∙ ap snum e ∙ snum-ext w b h

pub number-signed : (s : Bool) (v : List Bit4) → snum (as_signed s v) ≡ number s v
number-signed true v = refl
number-signed false v = snum-by-zero v

pub known-signed : (s : Bool) (v : List Bit4) → known (as_signed s v) ≡ known v
known-signed true v = refl
known-signed false v = known-zero-above v
