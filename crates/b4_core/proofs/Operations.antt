-- The operators on vectors, from the operations on their words.
use Rattle.std.proofs.Common.{◌≡◌, ◌≢◌, ℕ, zero, suc, ◌+◌, ◌-◌, ◌*◌, ◌%◌, ◌^◌, ◌<◌, ◌≤◌, ℤ, pos, negsuc, ◌+ℤ◌, ◌-ℤ◌, ◌*ℤ◌, unsigned_abs, Bool, true, ◌&&◌, inl, inr, List, length, refl, sym, ap, ◌∙◌, subst, arith}
use Rattle.std.proofs.Math.Nat.{pow-zero, pow-suc, mul-one}
use Rattle.std.specs.Int.{int_pow}
use Rattle.std.specs.Prelude.{Result, Vec, IfOk}
use Rattle.std.proofs.lemmas.Result.{IfOk-weaker}
use Rattle.b4_core.specs.declared.bit.Bit4.{Bit4}
use Rattle.b4_core.specs.Vectors.{known, num, number, vec, digits}
use Rattle.b4_core.specs.Binary.{arithmetic}
use Rattle.b4_core.specs.Unary.{unary_value}
use Rattle.b4_core.specs.declared.operators.UnOp.TheVariants.{Neg}
use Rattle.b4_core.specs.Power.{inverse_power}
use Rattle.b4_core.proofs.Digits.{digits_word}
use Rattle.b4_core.proofs.Numbers.{num_lt}
use Rattle.b4_core.proofs.TwosComplement.{Wraps, number_wraps, sum_wraps, minus_wraps, product_wraps, vec_neg}

-- b wraps at the length of a, which is its own
wraps_at : (a b : List Bit4) (signed : Bool) → length a ≡ length b → Wraps (length a) (number signed b) (num b)
wraps_at a b signed same = let P : ℕ → Type 0 = λ w. Wraps w (number signed b) (num b) in subst P (sym same) (number_wraps signed b)

pub negative_is : (v : List Bit4) (x r : ℕ) → length v ≤ 128 → (known v ≡ true) × (x ≡ num v) → (r + x) % 2 ^ 128 ≡ 0 → digits (length v) r ≡ unary_value Neg v
negative_is v x r narrow read e =
    rw (read.0, ← read.1) (sym (vec_neg (length v) x r narrow e))

pub sum_is : (a b : List Bit4) (x y : ℕ) → length a ≡ length b → length a ≤ 128 → ((known a && known b) ≡ true) × (x ≡ num a) × (y ≡ num b) → (signed : Bool) → digits (length a) ((x + y) % 2 ^ 128) ≡ arithmetic (λ x y. x +ℤ y) signed a b
sum_is a b x y same narrow read signed =
    rw (read.0, read.1, read.2) (digits_word (length a) (num a + num b) narrow ∙ sym (sum_wraps (length a) (num a) (num b) (number signed a) (number signed b) (number_wraps signed a) (wraps_at a b signed same)))

pub minus_is : (a b : List Bit4) (x y : ℕ) → length a ≡ length b → length a ≤ 128 → ((known a && known b) ≡ true) × (x ≡ num a) × (y ≡ num b) → (signed : Bool) → digits (length a) ((x + (2 ^ 128 - y)) % 2 ^ 128) ≡ arithmetic (λ x y. x -ℤ y) signed a b
minus_is a b x y same narrow read signed =
    let fits : num b < 2 ^ length a = rw same (num_lt b) in
    rw (read.0, read.1, read.2) (digits_word (length a) (num a + (2 ^ 128 - num b)) narrow ∙ sym (minus_wraps (length a) (num a) (num b) (number signed a) (number signed b) narrow fits (number_wraps signed a) (wraps_at a b signed same)))

pub product_is : (a b : List Bit4) (x y : ℕ) → length a ≡ length b → length a ≤ 128 → ((known a && known b) ≡ true) × (x ≡ num a) × (y ≡ num b) → (signed : Bool) → digits (length a) ((x * y) % 2 ^ 128) ≡ arithmetic (λ x y. x *ℤ y) signed a b
product_is a b x y same narrow read signed =
    rw (read.0, read.1, read.2) (digits_word (length a) (num a * num b) narrow ∙ sym (product_wraps (length a) (num a) (num b) (number signed a) (number signed b) (number_wraps signed a) (wraps_at a b signed same)))

-- a divisor that isn't zero as a word isn't zero as a number
pub not_zero : (signed : Bool) (v : List Bit4) → num v ≢ 0 → number signed v ≢ pos 0
not_zero signed v some e = by_sign (number_wraps signed v)
  where
    by_sign : Wraps (length v) (number signed v) (num v) → ⊥
    by_sign (inl f) = some (cc (e, f))
    by_sign (inr (m, f, g)) = cc (e, f)

one_pow : (n : ℕ) → 1 ^ n ≡ 1
one_pow zero = pow-zero 1
one_pow (suc n) = pow-suc 1 n ∙ mul-one (1 ^ n) ∙ one_pow n

-- 1 and -1 are their own inverses
pub inverse_of_unit : (w n : ℕ) (z : ℤ) → unsigned_abs z ≡ 1 → vec w (int_pow z n) ≡ inverse_power w z n
inverse_of_unit w n (pos zero) e = absurd (omega arith)
inverse_of_unit w n (pos (suc zero)) e = ap (λ k. vec w (pos k)) (one_pow n)
inverse_of_unit w n (pos (suc (suc m))) e = absurd (omega arith)
inverse_of_unit w n (negsuc zero) e = refl
inverse_of_unit w n (negsuc (suc m)) e = absurd (omega arith)

-- ---- what a call that gives bits gives, in other words

pub same_items : {E A : Type 0} (r : Result (Vec Bit4 A) E) (v w : List Bit4) → v ≡ w → IfOk r (λ b. b.items ≡ v) → IfOk r (λ b. b.items ≡ w)
same_items r v w e h = IfOk-weaker r (λ b. b.items ≡ v) (λ b. b.items ≡ w) (λ b f. f ∙ e) h

pub same_items_for_all : {E A : Type 0} (r : Result (Vec Bit4 A) E) (v : List Bit4) (w : Bool → List Bit4) → ((s : Bool) → v ≡ w s) → IfOk r (λ b. b.items ≡ v) → IfOk r (λ b. (s : Bool) → b.items ≡ w s)
same_items_for_all r v w e h = IfOk-weaker r (λ b. b.items ≡ v) (λ b. (s : Bool) → b.items ≡ w s) (λ b f s. f ∙ e s) h
