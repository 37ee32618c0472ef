-- Numbers in the target: literals, sums and products that don't overflow.
use Rattle.std.proofs.Common.{◌≡◌, ℕ, zero, suc, ◌+◌, ◌-◌, ◌*◌, ◌/◌, ◌%◌, ◌^◌, ◌<◌, ◌≤◌, ◌==◌, Bool, true, false, ◌&&◌, length, replicate, List, [], ◌∷◌, ◌++◌, refl, arith, sym, ◌∙◌, ap, true≢false}
use Rattle.std.proofs.Math.Nat.{pow-suc}
use Rattle.std.proofs.lemmas.Bool.Decides.{nat_tests}
use Rattle.b4_core.specs.declared.bit.Bit4.{Bit4}
use Rattle.b4_core.specs.declared.bit.Bit4.TheVariants.{Zero, One, X, Z}
use Rattle.b4_core.specs.declared.operators.BinOp.TheVariants.{Add, Mul}
use Rattle.b4_core.specs.Bits.{bit_of}
use Rattle.b4_core.specs.Vectors.{known, num, digit, digits, ext}
use Rattle.b4_core.specs.Binary.{binary_value}
use Rattle.b4_core.proofs.Digits.{digits_word}
use Rattle.b4_core.proofs.Operations.{sum_is, product_is}
use Rattle.row_machine.specs.Valuation.{Valuation}
use Rattle.sv_types.proofs.OperatorLengths.{length-ext}
use Rattle.v_meaning.specs.Scopes.{Scope}
use Rattle.v_meaning.specs.Values as T
use Rattle.lowering_laws.proofs.Extensions.{ext-at, take-whole}

-- An unsigned expression that fits a width, and in a context of that width is known and has this number.
pub record HasNumber (m : T.Meaning) (w n : ℕ) (sc : Scope) (v : Valuation) : Type 0 where
  pub width : m.width sc ≤ w
  pub unsigned : m.signed ≡ false
  pub long : length (m.value w false sc v) ≡ w
  pub known_there : known (m.value w false sc v) ≡ true
  pub number : num (m.value w false sc v) ≡ n

-- binary digits
pub length-digits : (w n : ℕ) → length (digits w n) ≡ w
length-digits zero n = refl
length-digits (suc w) n = ap suc (length-digits w (n / 2))

known-bit : (b : Bool) (v : List Bit4) → known v ≡ true → known (bit_of b ∷ v) ≡ true
known-bit true v h = h
known-bit false v h = h

pub known-digits : (w n : ℕ) → known (digits w n) ≡ true
known-digits zero n = refl
known-digits (suc w) n = known-bit (n % 2 == 1) (digits w (n / 2)) (known-digits w (n / 2))

lowest-digit : (n : ℕ) (b : Bool) → (n % 2 == 1) ≡ b → digit (bit_of b) ≡ n % 2
lowest-digit n true is = grind (arith, nat_tests)
lowest-digit n false is = grind (arith, nat_tests)

pub num-digits : (w n : ℕ) → n < 2 ^ w → num (digits w n) ≡ n
num-digits zero n h = omega arith
num-digits (suc w) n h =
    let power = pow-suc 2 w in
    let rest = num-digits w (n / 2) (omega arith) in
    let low = lowest-digit n (n % 2 == 1) refl in
    omega arith

-- zeros on top
num-zeros : (k : ℕ) → num (replicate k Zero) ≡ 0
num-zeros zero = refl
num-zeros (suc k) = (let rest = num-zeros k in omega arith)

known-zeros : (k : ℕ) → known (replicate k Zero) ≡ true
known-zeros zero = refl
known-zeros (suc k) = known-zeros k

num-above : (v : List Bit4) (k : ℕ) → num (v ++ replicate k Zero) ≡ num v
num-above [] k = num-zeros k
num-above (b ∷ v) k = (let rest = num-above v k in omega arith)

known-above : (v : List Bit4) (k : ℕ) → known (v ++ replicate k Zero) ≡ known v
known-above [] k = known-zeros k
known-above (Zero ∷ v) k = known-above v k
known-above (One ∷ v) k = known-above v k
known-above (X ∷ v) k = refl
known-above (Z ∷ v) k = refl

pub num-ext : (w : ℕ) (v : List Bit4) → length v ≤ w → num (ext w false v) ≡ num v
num-ext w v h = ap (λ x. num (x ++ replicate (w - length v) Zero)) (take-whole w v h) ∙ num-above v (w - length v)

pub known-ext : (w : ℕ) (v : List Bit4) → length v ≤ w → known (ext w false v) ≡ known v
known-ext w v h = ap (λ x. known (x ++ replicate (w - length v) Zero)) (take-whole w v h) ∙ known-above v (w - length v)

-- a literal of so many bits
pub literal-number : (w n : ℕ) (sc : Scope) (v : Valuation) → n < 2 ^ w → HasNumber (T.literal (digits w n)) w n sc v
unfolding T.literal
literal-number w n sc v few =
    let long = length-digits w n in
    let is = ext-at w false (digits w n) long in
    record {
      width = omega arith;
      unsigned = refl;
      long = ap length is ∙ long;
      known_there = ap known is ∙ known-digits w n;
      number = ap num is ∙ num-digits w n few;
    }

-- both are known
both-known : (a b : Bool) → a ≡ true → b ≡ true → (a && b) ≡ true
both-known true true h g = refl
both-known true false h g = g
both-known false b h g = h

sum-digits : (w : ℕ) (a b : List Bit4) → length a ≡ w → length b ≡ w → w ≤ 128 → known a ≡ true → known b ≡ true → binary_value Add false a b ≡ digits w (num a + num b)
sum-digits w a b la lb narrow ka kb =
    sym (sum_is a b (num a) (num b) (la ∙ sym lb) (omega arith) (both-known (known a) (known b) ka kb, refl, refl) false)
    ∙ digits_word (length a) (num a + num b) (omega arith) ∙ ap (λ k. digits k (num a + num b)) la

product-digits : (w : ℕ) (a b : List Bit4) → length a ≡ w → length b ≡ w → w ≤ 128 → known a ≡ true → known b ≡ true → binary_value Mul false a b ≡ digits w (num a * num b)
product-digits w a b la lb narrow ka kb =
    sym (product_is a b (num a) (num b) (la ∙ sym lb) (omega arith) (both-known (known a) (known b) ka kb, refl, refl) false)
    ∙ digits_word (length a) (num a * num b) (omega arith) ∙ ap (λ k. digits k (num a * num b)) la

-- what has these digits has their number
from-digits : (m : T.Meaning) (w n : ℕ) (sc : Scope) (v : Valuation) → m.width sc ≤ w → m.signed ≡ false → n < 2 ^ w → m.value w false sc v ≡ digits w n → HasNumber m w n sc v
from-digits m w n sc v width unsigned few is = record {
  width = width;
  unsigned = unsigned;
  long = ap length is ∙ length-digits w n;
  known_there = ap known is ∙ known-digits w n;
  number = ap num is ∙ num-digits w n few;
}

unsigned-both : (a b : Bool) → a ≡ false → (a && b) ≡ false
unsigned-both true b h = absurd (true≢false h)
unsigned-both false b h = refl

pub sum-number : (m k : T.Meaning) (w a b : ℕ) (sc : Scope) (v : Valuation) → w ≤ 128 → a + b < 2 ^ w → HasNumber m w a sc v → HasNumber k w b sc v
    → HasNumber (T.binary Add m k) w (a + b) sc v
unfolding T.binary
sum-number m k w a b sc v narrow few h g =
    let x = h.width in
    let y = g.width in
    from-digits (T.binary Add m k) w (a + b) sc v (omega arith) (unsigned-both m.signed k.signed h.unsigned) few
    (sum-digits w (m.value w false sc v) (k.value w false sc v) h.long g.long narrow h.known_there g.known_there ∙ (λ i. digits w (h.number i + g.number i)))

pub product-number : (m k : T.Meaning) (w a b : ℕ) (sc : Scope) (v : Valuation) → w ≤ 128 → a * b < 2 ^ w → HasNumber m w a sc v → HasNumber k w b sc v
    → HasNumber (T.binary Mul m k) w (a * b) sc v
unfolding T.binary
product-number m k w a b sc v narrow few h g =
    let x = h.width in
    let y = g.width in
    from-digits (T.binary Mul m k) w (a * b) sc v (omega arith) (unsigned-both m.signed k.signed h.unsigned) few
    (product-digits w (m.value w false sc v) (k.value w false sc v) h.long g.long narrow h.known_there g.known_there ∙ (λ i. digits w (h.number i * g.number i)))

-- an operand in braces is unsigned, and is extended by 0
pub braced-number : (m : T.Meaning) (w : ℕ) (sc : Scope) (v : Valuation) → m.width sc ≤ w → length (T.alone m sc v) ≡ m.width sc → known (T.alone m sc v) ≡ true
    → HasNumber (T.concatenation (m ∷ [])) w (num (T.alone m sc v)) sc v
unfolding T.concatenation
braced-number m w sc v narrow long there = record {
  width = omega arith;
  unsigned = refl;
  long = length-ext w false (T.alone m sc v);
  known_there = known-ext w (T.alone m sc v) (omega arith) ∙ there;
  number = num-ext w (T.alone m sc v) (omega arith);
}

-- alone, where it is as wide as its context
pub number-alone : (m : T.Meaning) (w n : ℕ) (sc : Scope) (v : Valuation) → m.width sc ≡ w → HasNumber m w n sc v → T.alone m sc v ≡ m.value w false sc v
number-alone m w n sc v is h = λ i. m.value (is i) (h.unsigned i) sc v
