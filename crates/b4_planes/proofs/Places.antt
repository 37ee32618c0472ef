-- Functions of words that go bit by bit.
use Rattle.std.proofs.Common.{◌≡◌, ℕ, zero, suc, ◌/◌, ◌%◌, ◌<◌, ◌==◌, Bool, true, false, not, ◌&&◌, ◌||◌, refl, ap, ◌∙◌, arith}
use Rattle.std.specs.Int.Bits.{bit_and, bit_or, bit_xor}
use Rattle.std.proofs.lemmas.Nat.{and_mod, or_mod, xor_mod, and_shr, or_shr, xor_shr}
use Rattle.b4_planes.specs.Planes.{odd}
use Rattle.b4_planes.specs.Words.{and_value, and_unknown, or_value, or_unknown, xor_value, xor_unknown, merge_value, merge_unknown, one_of}

-- f goes bit by bit, and does t to each bit
pub record Places (f : ℕ → ℕ → ℕ → ℕ → ℕ) (t : Bool → Bool → Bool → Bool → Bool) : Type 0 where
  pub low : (a u b v : ℕ) → odd (f a u b v) ≡ t (odd a) (odd u) (odd b) (odd v)
  pub high : (a u b v : ℕ) → f a u b v / 2 ≡ f (a / 2) (u / 2) (b / 2) (v / 2)

abbrev pub differ : Bool → Bool → Bool
differ false q = q
differ true q = not q

-- what holds of 0 and 1 holds of the remainders by 2
pub remainders : (P : ℕ → ℕ → Type 0) → P 0 0 → P 0 1 → P 1 0 → P 1 1 → (a b : ℕ) → P (a % 2) (b % 2)
remainders P p q r s a b = by_size (a % 2) (b % 2) (omega arith) (omega arith)
  where
    by_size : (m n : ℕ) → m < 2 → n < 2 → P m n
    by_size zero zero h k = p
    by_size zero (suc zero) h k = q
    by_size (suc zero) zero h k = r
    by_size (suc zero) (suc zero) h k = s
    by_size m (suc (suc n)) h k = absurd (omega arith)
    by_size (suc (suc m)) n h k = absurd (omega arith)

pub odd-and : (a b : ℕ) → odd (bit_and a b) ≡ odd a && odd b
unfolding odd
odd-and a b =
    ap (λ n. n == 1) (and_mod a b 1) ∙ remainders (λ m n. (bit_and m n == 1) ≡ ((m == 1) && (n == 1))) refl refl refl refl a b

pub odd-or : (a b : ℕ) → odd (bit_or a b) ≡ odd a || odd b
unfolding odd
odd-or a b =
    ap (λ n. n == 1) (or_mod a b 1) ∙ remainders (λ m n. (bit_or m n == 1) ≡ ((m == 1) || (n == 1))) refl refl refl refl a b

pub odd-xor : (a b : ℕ) → odd (bit_xor a b) ≡ differ (odd a) (odd b)
unfolding odd
odd-xor a b =
    ap (λ n. n == 1) (xor_mod a b 1) ∙ remainders (λ m n. (bit_xor m n == 1) ≡ (differ (m == 1) (n == 1))) refl refl refl refl a b

pub half-and : (a b : ℕ) → bit_and a b / 2 ≡ bit_and (a / 2) (b / 2)
half-and a b = and_shr a b 1

pub half-or : (a b : ℕ) → bit_or a b / 2 ≡ bit_or (a / 2) (b / 2)
half-or a b = or_shr a b 1

pub half-xor : (a b : ℕ) → bit_xor a b / 2 ≡ bit_xor (a / 2) (b / 2)
half-xor a b = xor_shr a b 1

-- ---- the kernels

pub places_and_value : Places and_value (λ p q r s. (p || q) && (r || s))
places_and_value = record { low = λ a u b v. simp (odd-and, odd-or); high = λ a u b v. simp (half-and, half-or) }

pub places_and_unknown : Places and_unknown (λ p q r s. ((p || q) && (r || s)) && (q || s))
places_and_unknown = record { low = λ a u b v. simp (odd-and, odd-or); high = λ a u b v. simp (half-and, half-or) }

pub places_or_value : Places or_value (λ p q r s. (p || q) || (r || s))
places_or_value = record { low = λ a u b v. simp odd-or; high = λ a u b v. simp half-or }

abbrev pub one_bit : Bool → Bool → Bool
one_bit p q = differ (p || q) q

pub places_or_unknown : Places or_unknown (λ p q r s. one_bit (q || s) (one_bit p q || one_bit r s))
places_or_unknown = record { low = λ a u b v. simp (odd-or, odd-xor); high = λ a u b v. simp (half-or, half-xor) }

pub places_xor_value : Places xor_value (λ p q r s. differ p r || (q || s))
places_xor_value = record { low = λ a u b v. simp (odd-or, odd-xor); high = λ a u b v. simp (half-or, half-xor) }

pub places_xor_unknown : Places xor_unknown (λ p q r s. q || s)
places_xor_unknown = record { low = λ a u b v. odd-or u v; high = λ a u b v. half-or u v }

pub places_merge_value : Places merge_value (λ p q r s. (p && r) || (differ p r || (q || s)))
places_merge_value = record { low = λ a u b v. simp (odd-and, odd-or, odd-xor); high = λ a u b v. simp (half-and, half-or, half-xor) }

pub places_merge_unknown : Places merge_unknown (λ p q r s. differ p r || (q || s))
places_merge_unknown = record { low = λ a u b v. simp (odd-or, odd-xor); high = λ a u b v. simp (half-or, half-xor) }

pub places_one : Places (λ a u b v. one_of a u) (λ p q r s. one_bit p q)
places_one = record { low = λ a u b v. simp (odd-or, odd-xor); high = λ a u b v. simp (half-or, half-xor) }

pub places_zero : Places (λ a u b v. 0) (λ p q r s. false)
unfolding odd
places_zero = record { low = λ a u b v. refl; high = λ a u b v. refl }
