-- Sets of numbers as the ones of a number's bits.
use Rattle.std.proofs.Common.{◌≡◌, ℕ, ◌<◌, ◌^◌, ◌==◌, Bool, true, max, min, eqb-true, sym, ap, ◌∙◌, arith}
use Rattle.std.specs.Int.Bits.{bit_and, bit_or}
use Rattle.std.specs.Int.{bit_at}
use Rattle.std.proofs.lemmas.Nat.Bits.{bit_at_or, bit_at_and, bit_at-pow_same, bit_at-zero}

abbrev pub IsIn : ℕ → ℕ → Type 0
IsIn a s = bit_at s a ≡ 1

abbrev pub has : ℕ → ℕ → Bool
has s a = bit_at s a == 1

-- each member of `s` is one of `t`
abbrev pub are_within : ℕ → ℕ → Bool
are_within s t = bit_or s t == t

abbrev pub disjoint : ℕ → ℕ → Bool
disjoint s t = bit_and s t == 0

bit-small : (s a : ℕ) → bit_at s a < 2
bit-small s a = omega arith

largest-left : (x y z : ℕ) → z ≡ max x y → x ≡ 1 → y < 2 → z ≡ 1
largest-left x y z e h k = omega arith

least-both : (x y z : ℕ) → z ≡ min x y → x ≡ 1 → y ≡ 1 → z ≡ 1
least-both x y z e h k = omega arith

pub in-left : (s t a : ℕ) → IsIn a s → IsIn a (bit_or s t)
in-left s t a h = largest-left (bit_at s a) (bit_at t a) (bit_at (bit_or s t) a) (bit_at_or s t a) h (bit-small t a)

largest-right : (x y z : ℕ) → z ≡ max x y → y ≡ 1 → x < 2 → z ≡ 1
largest-right x y z e h k = omega arith

pub in-right : (s t a : ℕ) → IsIn a t → IsIn a (bit_or s t)
in-right s t a h = largest-right (bit_at s a) (bit_at t a) (bit_at (bit_or s t) a) (bit_at_or s t a) h (bit-small s a)

pub in-own : (a : ℕ) → IsIn a (2 ^ a)
in-own a = bit_at-pow_same a

pub in-within : (s t a : ℕ) → are_within s t ≡ true → IsIn a s → IsIn a t
in-within s t a e h = sym (ap (λ n. bit_at n a) (eqb-true (bit_or s t) t e)) ∙ in-left s t a h

none-in : (a : ℕ) → IsIn a 0 → ⊥
none-in a h = let z = bit_at-zero a in absurd (omega arith)

pub apart : (s t a : ℕ) → disjoint s t ≡ true → IsIn a s → IsIn a t → ⊥
apart s t a e h k =
    none-in a
    (sym (ap (λ n. bit_at n a) (eqb-true (bit_and s t) 0 e))
    ∙ least-both (bit_at s a) (bit_at t a) (bit_at (bit_and s t) a) (bit_at_and s t a) h k)
