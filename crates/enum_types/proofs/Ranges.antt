-- Which numbers a base holds.
use Rattle.std.proofs.Common.{◌≡◌, ◌≢◌, ℕ, suc, ◌+◌, ◌-◌, ◌^◌, ◌<◌, ◌≤◌, max, ℤ, pos, negsuc, neg_ℤ, ◌-ℤ◌, Bool, true, false, ◌&&◌, cond, List, length, length-append, [], ◌∷◌, Option, Some, None, refl, sym, ap, ◌∙◌, subst, arith, true≢false}
use Rattle.std.specs.Prelude.{int_le, ◌≤ℤ◌}
use Rattle.std.proofs.lemmas.Int.{ints}
use Rattle.std.proofs.lemmas.Bool.Decides.{nat_tests}
use Rattle.b4_core.specs.declared.bit.Bit4.{Bit4}
use Rattle.b4_core.specs.declared.bit.Bit4.TheVariants.{Zero, One, X, Z}
use Rattle.b4_core.specs.Bits.{bit_of, is_one, same4}
use Rattle.b4_core.specs.Bitwise.{same_bits}
use Rattle.b4_core.specs.Vectors.{known, num, snum, number, vec, ext}
use Rattle.b4_core.proofs.Numbers.{num_lt}
use Rattle.b4_core.proofs.TwosComplement.{vec_pos}
use Rattle.sv_types.specs.declared.types.SvType.{SvType}
use Rattle.sv_types.specs.Layouts.{width_of}
use Rattle.lowering_laws.specs.Signed.{FitsSigned}
use Rattle.lowering_laws.proofs.Numbers.{num-digits}
use Rattle.lowering_laws.proofs.SignedNumbers.{literal-signed, known-vec}
use Rattle.lowering_laws.proofs.SlideOffsets.{snum-fits}
use Rattle.sv_types.proofs.OperatorLengths.{length-ext}
use Rattle.expr_type.specs.Operands.{in_range}
use Rattle.expr_type.specs.Shapes.{sign_of}
use Rattle.expr_type.specs.Types.{least_value, most_value}
use Rattle.enum_types.specs.Bits.{as_signed, has_same_number, value_in, HasBits, BitsOf}
use Rattle.enum_types.proofs.Numbers.{ext-vec, known-signed, number-signed, same-numbers, same-vectors}

-- tests of order
pub le-true : (a b : ℤ) → a ≤ℤ b → int_le a b ≡ true
le-true (pos m) (pos n) h = (let e : m ≤ n = omega (arith, ints, h) in grind (arith, nat_tests))
le-true (pos m) (negsuc n) h = absurd (omega (arith, ints, h))
le-true (negsuc m) (pos n) h = refl
le-true (negsuc m) (negsuc n) h = (let e : n ≤ m = omega (arith, ints, h) in grind (arith, nat_tests))

pub le-tells : (a b : ℤ) → int_le a b ≡ true → a ≤ℤ b
le-tells (pos m) (pos n) h = (let e : m ≤ n = grind (arith, nat_tests) in omega (arith, ints))
le-tells (pos m) (negsuc n) h = absurd (true≢false (sym h))
le-tells (negsuc m) (pos n) h = omega (arith, ints)
le-tells (negsuc m) (negsuc n) h = (let e : n ≤ m = grind (arith, nat_tests) in omega (arith, ints))

pub there : (low high n : ℤ) → low ≤ℤ n → n ≤ℤ high → in_range low high (Some n) ≡ Some n
there low high n f g = ap (λ b. cond b (Some n) None) (ap (λ b. b && int_le n high) (le-true low n f) ∙ le-true n high g)

both-true : (a b : Bool) → (a && b) ≡ true → (a ≡ true) × (b ≡ true)
both-true true true e = (refl, refl)
both-true true false e = absurd (true≢false (sym e))
both-true false b e = absurd (true≢false (sym e))

-- the least and the largest number by sign and width
abbrev pub least : Bool → ℕ → ℤ
least s w = cond s (neg_ℤ (pos (2 ^ (w - 1)))) (pos 0)

abbrev pub largest : Bool → ℕ → ℤ
largest s w = cond s (pos (2 ^ (w - 1))) (pos (2 ^ w)) -ℤ pos 1

pub record Within (s : Bool) (w : ℕ) (n : ℤ) : Type 0 where
  pub low : least s w ≤ℤ n
  pub high : n ≤ℤ largest s w

-- a vector's number is one of them
pub within : (s : Bool) (w : ℕ) (v : List Bit4) → length v ≡ w → 0 < w → known v ≡ true → Within s w (number s v)
within true w v e h k =
    let fits = snum-fits (w - 1) v (omega arith) k in
    record { low = fits.above; high = omega (arith, ints, fits.below) }
within false w v e h k =
    let small : num v < 2 ^ w = subst (λ n. num v < 2 ^ n) e (num_lt v) in
    record { low = omega (arith, ints); high = omega (arith, ints) }

-- and each of them is the number of its bits
back : (s : Bool) (w : ℕ) (n : ℤ) → 0 < w → Within s w n → number s (vec w n) ≡ n
back true w n h i =
    let size : suc (w - 1) ≡ w = omega arith in
    let fits : FitsSigned (w - 1) n = record { above = i.low; below = omega (arith, ints, i.high) } in
    ap (λ k. snum (vec k n)) (sym size) ∙ literal-signed (w - 1) n fits
back false w (pos m) h i =
    let small : m < 2 ^ w = omega (arith, ints, i.high) in
    ap (λ (v : List Bit4). pos (num v)) (vec_pos w m) ∙ ap pos (num-digits w m small)
back false w (negsuc m) h i = absurd (omega (arith, ints, i.low))

known-cut : (w : ℕ) (v : List Bit4) → known v ≡ true → known (ext w true v) ≡ true
known-cut w v k = ap known (ext-vec w v k) ∙ known-vec w (snum v)

-- a number that is the same in the base is one of its values
fits-by : (s t : Bool) (w wide : ℕ) (v u : List Bit4) → known v ≡ true → 0 < w → u ≡ ext w true (as_signed s v)
    → length (as_signed s v) ≤ wide → length (as_signed t u) ≤ wide → ext wide true (as_signed s v) ≡ ext wide true (as_signed t u)
    → number t u ≡ number s v
fits-by s t w wide v u k h e f g same =
    sym (number-signed t u) ∙ sym (same-numbers wide (as_signed s v) (as_signed t u) f g same) ∙ number-signed s v

cut-known : (s : Bool) (w : ℕ) (v u : List Bit4) → known v ≡ true → u ≡ ext w true (as_signed s v) → known u ≡ true
cut-known s w v u k e = ap known e ∙ known-cut w (as_signed s v) (known-signed s v ∙ k)

by-range : (t : SvType) (n : ℤ) (o : Option ℤ) (u : List Bit4) → o ≡ Some n → HasBits t u n → BitsOf t (Some u) o
by-range t n o u e b = subst (λ (x : Option ℤ). BitsOf t (Some u) x) (sym e) b

pub known-value : (t : SvType) (s : Bool) (v : List Bit4) → known v ≡ true
    → value_in t s v ≡ in_range (least_value t) (most_value t) (Some (number s v))
known-value t s v k = ap (λ b. in_range (least_value t) (most_value t) (cond b (Some (number s v)) None)) k

pub fits : (t : SvType) (s : Bool) (wide : ℕ) (v u : List Bit4) → known v ≡ true → 0 < width_of t → u ≡ ext (width_of t) true (as_signed s v)
    → length (as_signed s v) ≤ wide → length (as_signed (sign_of t) u) ≤ wide
    → ext wide true (as_signed s v) ≡ ext wide true (as_signed (sign_of t) u) → BitsOf t (Some u) (value_in t s v)
fits t s wide v u k h e f g same =
    let w = width_of t in
    let equal : number (sign_of t) u ≡ number s v = fits-by s (sign_of t) w wide v u k h e f g same in
    let long : length u ≡ w = ap length e ∙ length-ext w true (as_signed s v) in
    let in_base = within (sign_of t) w u long h (cut-known s w v u k e) in
    let low : least_value t ≤ℤ number s v = subst (λ n. least (sign_of t) w ≤ℤ n) equal in_base.low in
    let high : number s v ≤ℤ most_value t = subst (λ n. n ≤ℤ largest (sign_of t) w) equal in_base.high in
    let bits : u ≡ vec w (number s v) = e ∙ ext-vec w (as_signed s v) (known-signed s v ∙ k) ∙ ap (vec w) (number-signed s v) in
    by-range t (number s v) (value_in t s v) u (known-value t s v k ∙ there (least_value t) (most_value t) (number s v) low high)
    (record { bits = bits; number = equal })

-- and one that isn't the same is none
none-by : (t : SvType) (n : ℤ) (b : Bool) → (b ≡ true → ⊥) → BitsOf t None (cond b (Some n) None)
none-by t n true f = absurd (f refl)
none-by t n false f = tt

pub misfits : (t : SvType) (s : Bool) (wide : ℕ) (v u : List Bit4) → known v ≡ true → 0 < width_of t → u ≡ ext (width_of t) true (as_signed s v)
    → ext wide true (as_signed s v) ≢ ext wide true (as_signed (sign_of t) u) → BitsOf t None (value_in t s v)
misfits t s wide v u k h e other =
    let w = width_of t in
    subst (λ (x : Option ℤ). BitsOf t None x) (sym (known-value t s v k))
    (none-by t (number s v) (int_le (least_value t) (number s v) && int_le (number s v) (most_value t))
    (λ yes.
    let tests = both-true (int_le (least_value t) (number s v)) (int_le (number s v) (most_value t)) yes in
    let i : Within (sign_of t) w (number s v) = record { low = le-tells (least_value t) (number s v) tests.0; high = le-tells (number s v) (most_value t) tests.1 } in
    let bits : u ≡ vec w (number s v) = e ∙ ext-vec w (as_signed s v) (known-signed s v ∙ k) ∙ ap (vec w) (number-signed s v) in
    let equal : number (sign_of t) u ≡ number s v = ap (number (sign_of t)) bits ∙ back (sign_of t) w (number s v) h i in
    other (same-vectors wide (as_signed s v) (as_signed (sign_of t) u) (known-signed s v ∙ k) (known-signed (sign_of t) u ∙ cut-known s w v u k e)
    (number-signed s v ∙ sym equal ∙ sym (number-signed (sign_of t) u)))))

pub unknown : (t : SvType) (s : Bool) (v : List Bit4) → known v ≡ false → BitsOf t None (value_in t s v)
unknown t s v k = subst (λ (b : Bool). BitsOf t None (in_range (least_value t) (most_value t) (cond b (Some (number s v)) None))) (sym k) tt

-- the number of the bits of a value of the base, where the base has a bit
within-by : (s : Bool) (w : ℕ) (n : ℤ) (o : Option ℤ) → o ≡ Some n → in_range (least s w) (largest s w) (Some n) ≡ o → Within s w n
within-by s w n o e f = by (int_le (least s w) n && int_le n (largest s w)) refl (f ∙ e)
  where
    by : (b : Bool) → int_le (least s w) n && int_le n (largest s w) ≡ b → cond b (Some n) None ≡ Some n → Within s w n
    by true e f =
        let tests = both-true (int_le (least s w) n) (int_le n (largest s w)) e in
        record { low = le-tells (least s w) n tests.0; high = le-tells n (largest s w) tests.1 }
    by false e f = absurd (cc)

pub value-back : (t : SvType) (m : ℤ) → in_range (least_value t) (most_value t) (Some m) ≡ Some m → 0 < width_of t → number (sign_of t) (vec (width_of t) m) ≡ m
value-back t m e h = back (sign_of t) (width_of t) m h (within-by (sign_of t) (width_of t) m (Some m) refl e)

-- the same bits are equal bits
both-bits : (a b : Bit4) → same4 a b ≡ true → a ≡ b
both-bits Zero Zero e = refl
both-bits One One e = refl
both-bits X X e = refl
both-bits Z Z e = refl
both-bits Zero One e = absurd (true≢false (sym e))
both-bits Zero X e = absurd (true≢false (sym e))
both-bits Zero Z e = absurd (true≢false (sym e))
both-bits One Zero e = absurd (true≢false (sym e))
both-bits One X e = absurd (true≢false (sym e))
both-bits One Z e = absurd (true≢false (sym e))
both-bits X Zero e = absurd (true≢false (sym e))
both-bits X One e = absurd (true≢false (sym e))
both-bits X Z e = absurd (true≢false (sym e))
both-bits Z Zero e = absurd (true≢false (sym e))
both-bits Z One e = absurd (true≢false (sym e))
both-bits Z X e = absurd (true≢false (sym e))

own-bit : (b : Bit4) → same4 b b ≡ true
own-bit Zero = refl
own-bit One = refl
own-bit X = refl
own-bit Z = refl

equal-bits : (a b : List Bit4) → length a ≡ length b → same_bits a b ≡ true → a ≡ b
equal-bits [] [] h e = refl
equal-bits [] (y ∷ ys) h e = absurd (omega (arith, h))
equal-bits (x ∷ xs) [] h e = absurd (omega (arith, h))
equal-bits (x ∷ xs) (y ∷ ys) h e =
    let parts = both-true (same4 x y) (same_bits xs ys) e in
    let tails = equal-bits xs ys (omega (arith, h)) parts.1 in
    ap (λ z. z ∷ xs) (both-bits x y parts.0) ∙ ap (λ zs. y ∷ zs) tails

own-bits : (v : List Bit4) → same_bits v v ≡ true
own-bits [] = refl
own-bits (b ∷ v) = ap (λ x. x && same_bits v v) (own-bit b) ∙ own-bits v

kept-by : (t : SvType) (s : Bool) (v u : List Bit4) → known v ≡ true → 0 < width_of t → u ≡ ext (width_of t) true (as_signed s v)
    → has_same_number (as_signed s v) (as_signed (sign_of t) u) ≡ true → BitsOf t (Some u) (value_in t s v)
kept-by t s v u k h e same =
    let a = as_signed s v in
    let b = as_signed (sign_of t) u in
    let w = max (length a) (length b) in
    fits t s w v u k h e (omega arith) (omega arith) (equal-bits (ext w true a) (ext w true b) (length-ext w true a ∙ sym (length-ext w true b)) same)

-- whether the number that is left in the base is that of the constant
pub kept : (t : SvType) (s : Bool) (v given u back : List Bit4) → known v ≡ true → 0 < width_of t → given ≡ as_signed s v → u ≡ ext (width_of t) true given
    → back ≡ as_signed (sign_of t) u → has_same_number given back ≡ true → BitsOf t (Some u) (value_in t s v)
kept t s v given u back k h g e b same =
    kept-by t s v u k h (e ∙ ap (ext (width_of t) true) g) (sym (ap (λ x. has_same_number x back) g ∙ ap (has_same_number (as_signed s v)) b) ∙ same)

lost-by : (t : SvType) (s : Bool) (v u : List Bit4) → known v ≡ true → 0 < width_of t → u ≡ ext (width_of t) true (as_signed s v)
    → has_same_number (as_signed s v) (as_signed (sign_of t) u) ≡ false → BitsOf t None (value_in t s v)
lost-by t s v u k h e other =
    let a = as_signed s v in
    let b = as_signed (sign_of t) u in
    let w = max (length a) (length b) in
    misfits t s w v u k h e (λ same. true≢false (sym (ap (same_bits (ext w true a)) (sym same) ∙ own-bits (ext w true a)) ∙ other))

pub lost : (t : SvType) (s : Bool) (v given u back : List Bit4) → known v ≡ true → 0 < width_of t → given ≡ as_signed s v → u ≡ ext (width_of t) true given
    → back ≡ as_signed (sign_of t) u → has_same_number given back ≡ false → BitsOf t None (value_in t s v)
lost t s v given u back k h g e b other =
    lost-by t s v u k h (e ∙ ap (ext (width_of t) true) g) (sym (ap (λ x. has_same_number x back) g ∙ ap (has_same_number (as_signed s v)) b) ∙ other)

-- what the case equality of vectors says
pub one-of : (b : Bool) → is_one (bit_of b) ≡ b
one-of true = refl
one-of false = refl

pub ruleset equals = (one-of, length-ext)

-- lengths
pub length-signed : (s : Bool) (v : List Bit4) → length (as_signed s v) ≤ length v + 1
length-signed true v = omega arith
length-signed false v = (let e = length-append v (Zero ∷ []) in omega arith)

pub some-signed : (s : Bool) (v : List Bit4) → 0 < length v → 0 < length (as_signed s v)
some-signed true v h = h
some-signed false v h = (let e = length-append v (Zero ∷ []) in omega arith)

pub ruleset ranges = (kept, lost, unknown, length-signed, some-signed, length-ext)
