-- The number behind a number.
use Rattle.std.proofs.Common.{◌≡◌, inl, ℕ, zero, suc, ◌+◌, ◌-◌, ◌*◌, ◌/◌, ◌%◌, ◌^◌, ◌<◌, ◌≤◌, pos, ◌+ℤ◌, Bool, true, false, cond, List, [], ◌∷◌, length, Some, None, refl, sym, ap, ◌∙◌, arith, true≢false}
use Rattle.std.proofs.lemmas.Int.{ints}
use Rattle.std.proofs.Math.Nat.{pow-suc}
use Rattle.b4_core.specs.declared.bit.Bit4.{Bit4}
use Rattle.b4_core.specs.declared.bit.Bit4.TheVariants.{Zero, One, X, Z}
use Rattle.b4_core.specs.Vectors.{known, num, snum, number, digits, vec, ext}
use Rattle.b4_core.proofs.TwosComplement.{number_wraps, sum_wraps}
use Rattle.sv_types.specs.declared.types.SvType.{SvType}
use Rattle.sv_types.proofs.OperatorLengths.{length-ext}
use Rattle.lowering_laws.specs.Signed.{FitsSigned}
use Rattle.lowering_laws.proofs.SignedNumbers.{literal-signed, known-ext-signed, known-vec, snum-ext}
use Rattle.lowering_laws.proofs.SlideOffsets.{snum-fits}
use Rattle.expr_type.specs.Operands.{in_range}
use Rattle.expr_type.specs.Shapes.{sign_of}
use Rattle.expr_type.specs.Types.{least_value, most_value}
use Rattle.enum_types.specs.Bits.{as_signed, carried, value_after, value_in}
use Rattle.enum_types.proofs.Numbers.{digits-num, known-signed, number-signed}
use Rattle.enum_types.proofs.Ranges.{length-signed, some-signed}

no-carry : (v : List Bit4) → carried false v ≡ v
no-carry [] = refl
no-carry (b ∷ v) = ap (λ z. b ∷ z) (no-carry v)

carry-digits : (v : List Bit4) → known v ≡ true → carried true v ≡ digits (length v) (num v + 1)
carry-digits [] k = refl
carry-digits (Zero ∷ v) k =
    let low : (0 + 2 * num v + 1) % 2 ≡ 1 = omega arith in
    let high : (0 + 2 * num v + 1) / 2 ≡ num v = omega arith in
    rw (low, high) (ap (λ z. One ∷ z) (no-carry v ∙ sym (digits-num v k)))
carry-digits (One ∷ v) k =
    let low : (1 + 2 * num v + 1) % 2 ≡ 0 = omega arith in
    let high : (1 + 2 * num v + 1) / 2 ≡ num v + 1 = omega arith in
    rw (low, high) (ap (λ z. Zero ∷ z) (carry-digits v k))
carry-digits (X ∷ v) k = absurd (true≢false (sym k))
carry-digits (Z ∷ v) k = absurd (true≢false (sym k))

carry-vec : (v : List Bit4) → known v ≡ true → carried true v ≡ vec (length v) (snum v +ℤ pos 1)
carry-vec v k = carry-digits v k ∙ sym (sum_wraps (length v) (num v) 1 (snum v) (pos 1) (number_wraps true v) (inl refl))

-- one bit more has room for the next number
next-number : (v : List Bit4) → known v ≡ true → 0 < length v → snum (carried true (ext (length v + 1) true v)) ≡ snum v +ℤ pos 1
next-number v k h =
    let w = length v in
    let short : length v ≤ w + 1 = omega arith in
    let e = ext (w + 1) true v in
    let known-e : known e ≡ true = known-ext-signed (w + 1) v short k in
    let fits = snum-fits (w - 1) v (omega arith) k in
    let size : suc (w - 1) ≡ w = omega arith in
    let power : 2 ^ w ≡ 2 ^ (w - 1) * 2 = ap (λ n. 2 ^ n) (sym size) ∙ pow-suc 2 (w - 1) in
    let some : 1 ≤ 2 ^ (w - 1) = power-some (w - 1) in
    let room : FitsSigned w (snum v +ℤ pos 1) = record { above = omega (arith, ints, fits.above, power); below = omega (arith, ints, fits.below, power) } in
    ap snum (carry-vec e known-e) ∙ ap (λ n. snum (vec n (snum e +ℤ pos 1))) (length-ext (w + 1) true v)
    ∙ ap (λ n. snum (vec (w + 1) (n +ℤ pos 1))) (snum-ext (w + 1) v short)
    ∙ ap (λ n. snum (vec n (snum v +ℤ pos 1))) (the-suc w) ∙ literal-signed w (snum v +ℤ pos 1) room
  where
    the-suc : (n : ℕ) → n + 1 ≡ suc n
    the-suc n = omega arith

    power-some : (n : ℕ) → 1 ≤ 2 ^ n
    power-some zero = omega arith
    power-some (suc n) = (let p = pow-suc 2 n in let q = power-some n in omega arith)

next-known : (v : List Bit4) → known v ≡ true → known (carried true v) ≡ true
next-known v k = ap known (carry-vec v k) ∙ known-vec (length v) (snum v +ℤ pos 1)

pub length-carried : (c : Bool) (v : List Bit4) → length (carried c v) ≡ length v
length-carried c [] = refl
length-carried c (b ∷ v) = ap suc (length-carried _ v)

pub after-is : (t : SvType) (v n : List Bit4) → known v ≡ true → 0 < length v → n ≡ carried true (ext (length (as_signed (sign_of t) v) + 1) true (as_signed (sign_of t) v))
    → value_in t true n ≡ value_after t v
after-is t v n k h e =
    let a = as_signed (sign_of t) v in
    let ka : known a ≡ true = known-signed (sign_of t) v ∙ k in
    let kn : known n ≡ true = ap known e ∙ next-known (ext (length a + 1) true a) (known-ext-signed (length a + 1) a (omega arith) ka) in
    let counted : snum n ≡ number (sign_of t) v +ℤ pos 1 =
    ap snum e ∙ next-number a ka (some-signed (sign_of t) v h) ∙ ap (λ x. x +ℤ pos 1) (number-signed (sign_of t) v) in
    ap (λ b. in_range (least_value t) (most_value t) (cond b (Some (snum n)) None)) kn
    ∙ ap (λ x. in_range (least_value t) (most_value t) (Some x)) counted

after-long : (s : Bool) (v value wide next : List Bit4) → value ≡ as_signed s v → wide ≡ ext (length value + 1) true value → next ≡ carried true wide
    → length next ≡ length (as_signed s v) + 1
after-long s v value wide next a w n =
    ap length n ∙ length-carried true wide ∙ ap length w ∙ length-ext (length value + 1) true value ∙ ap (λ x. length x + 1) a

pub after-short : (s : Bool) (v value wide next : List Bit4) → length v ≤ 4194304 → value ≡ as_signed s v → wide ≡ ext (length value + 1) true value → next ≡ carried true wide
    → length next ≤ 4194306
after-short s v value wide next h a w n = (let l = after-long s v value wide next a w n in let m = length-signed s v in omega arith)

pub after-some : (s : Bool) (v value wide next : List Bit4) → value ≡ as_signed s v → wide ≡ ext (length value + 1) true value → next ≡ carried true wide
    → 0 < length next
after-some s v value wide next a w n = (let l = after-long s v value wide next a w n in omega arith)

pub ruleset sums = (after-is, after-short, after-some, length-signed, some-signed, length-ext, length-carried)
