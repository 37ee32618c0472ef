-- Numbers of negated bits.
use Rattle.std.proofs.Common.{◌≡◌, ℕ, suc, ◌+◌, ◌*◌, ◌^◌, ◌<◌, Bool, true, false, ◌&&◌, if◌then◌else◌, pos, negsuc, List, [], ◌∷◌, length, drop, map, get_or, refl, arith, ap, ◌∙◌}
use Rattle.std.specs.Prelude.{◌-ℤ◌}
use Rattle.std.proofs.lemmas.Int.{ints}
use Rattle.std.proofs.lemmas.List.{drop_more}
use Rattle.std.proofs.Math.ListN.{drop_of_length-le}
use Rattle.b4_core.specs.declared.bit.Bit4.{Bit4}
use Rattle.b4_core.specs.declared.bit.Bit4.TheVariants.{Zero, One, X, Z}
use Rattle.b4_core.specs.Bits.{is_one}
use Rattle.b4_core.specs.Vectors.{known, num, digit, top_bit, number}
use Rattle.v_eval.specs.Indices.{flipped}

pub next-flip : (n : Bool) (v : List Bit4) (i : ℕ) (d : Bit4) → i < length v → num (map (flipped n) (drop i v)) ≡ digit (flipped n (get_or v i d)) + 2 * num (map (flipped n) (drop (i + 1) v))
next-flip n v i d h = ap (λ xs. num (map (flipped n) xs)) (drop_more v i d h)

pub none-left : (n : Bool) (v : List Bit4) → num (map (flipped n) (drop (length v) v)) ≡ 0
none-left n v = ap (λ xs. num (map (flipped n) xs)) (drop_of_length-le v (omega arith))

pub ruleset flips = (next-flip)

pub same-bits : (v : List Bit4) → map (flipped false) v ≡ v
same-bits [] = refl
same-bits (b ∷ v) = ap (λ xs. b ∷ xs) (same-bits v)

pow-suc : (n : ℕ) → 2 ^ suc n ≡ 2 * 2 ^ n
pow-suc n = grind arith

-- a vector and its negation count up to the last number
pub both-numbers : (v : List Bit4) → known v ≡ true → num (map (flipped true) v) + num v + 1 ≡ 2 ^ length v
both-numbers [] k = refl
both-numbers (Zero ∷ v) k = let h = both-numbers v k in omega (arith, h, pow-suc (length v))
both-numbers (One ∷ v) k = let h = both-numbers v k in omega (arith, h, pow-suc (length v))
both-numbers (X ∷ v) k = absurd (cc)
both-numbers (Z ∷ v) k = absurd (cc)

below : (a b c : ℕ) → a + b + 1 ≡ c → pos b -ℤ pos c ≡ negsuc a
below a b c h = omega (arith, ints)

-- the number of a vector whose top bit is 1
pub negative : (v : List Bit4) → known v ≡ true → is_one (top_bit v) ≡ true → number true v ≡ negsuc (num (map (flipped true) v))
negative v k h = ap (λ b. if b then pos (num v) -ℤ pos (2 ^ length v) else pos (num v)) h ∙ below (num (map (flipped true) v)) (num v) (2 ^ length v) (both-numbers v k)

pub positive : (s : Bool) (v : List Bit4) → (s && is_one (top_bit v)) ≡ false → number s v ≡ pos (num v)
positive false v h = refl
positive true v h = ap (λ b. if b then pos (num v) -ℤ pos (2 ^ length v) else pos (num v)) h

pub ruleset numbers = (negative, positive, same-bits)
