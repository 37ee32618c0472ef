-- Numbers that are read from the top of a vector.
use Rattle.std.proofs.Common.{◌≡◌, ℕ, zero, suc, ◌+◌, ◌*◌, ◌^◌, ◌<◌, ◌≤◌, ◌-◌, Bool, true, false, cond, ℤ, pos, neg_ℤ, ◌+ℤ◌, ◌-ℤ◌, ◌<ℤ◌, List, [], ◌∷◌, length, drop, get_or, inl, inr, Option, Some, None, refl, arith, ap, sym, ◌∙◌, subst}
use Rattle.std.specs.Prelude.{if◌then◌else◌}
use Rattle.std.proofs.lemmas.Int.{ints}
use Rattle.std.proofs.lemmas.List.{drop_more}
use Rattle.std.proofs.Math.Pow.{pow_mono}
use Rattle.b4_core.specs.declared.bit.Bit4.{Bit4}
use Rattle.b4_core.specs.declared.bit.Bit4.TheVariants.{Zero, One, X, Z}
use Rattle.b4_core.specs.Bits.{is_one}
use Rattle.b4_core.specs.Vectors.{digit, known, num, number, top_bit}
use Rattle.const_eval.specs.Numbers.{IsNearBy, IsNearIf, number_if_known, start, from_top}

plain : (v : List Bit4) → from_top (pos 0) v ≡ pos (num v)
plain [] = refl
plain (b ∷ v) = let h = plain v in omega (arith, ints)

pow-suc : (n : ℕ) → 2 ^ suc n ≡ 2 * 2 ^ n
pow-suc n = grind arith

negative : (v : List Bit4) → from_top (neg_ℤ (pos 1)) v ≡ pos (num v) -ℤ pos (2 ^ length v)
negative [] = omega (arith, ints)
negative (b ∷ v) = let h = negative v in let e = pow-suc (length v) in omega (arith, ints)

by-top : (v : List Bit4) (b : Bool) → from_top (cond b (neg_ℤ (pos 1)) (pos 0)) v ≡ (if b then pos (num v) -ℤ pos (2 ^ length v) else pos (num v))
by-top v true = negative v
by-top v false = plain v

pub number-is : (signed : Bool) (v : List Bit4) → from_top (start signed v) v ≡ number signed v
number-is true v = by-top v (is_one (top_bit v))
number-is false v = plain v

pub next-top : (t : ℤ) (v : List Bit4) (i : ℕ) (d : Bit4) → i < length v → from_top t (drop i v) ≡ from_top t (drop (i + 1) v) +ℤ from_top t (drop (i + 1) v) +ℤ pos (digit (get_or v i d))
next-top t v i d h = ap (from_top t) (drop_more v i d h)

digit-small : (b : Bit4) → digit b < 2
digit-small Zero = omega arith
digit-small One = omega arith
digit-small X = omega arith
digit-small Z = omega arith

-- what is far from 0 at the top stays so
pub far-above : (m : ℕ) (t : ℤ) (i : ℕ) (v : List Bit4) → pos m <ℤ from_top t (drop i v) → pos m <ℤ from_top t v
far-above m t zero v h = h
far-above m t (suc i) [] h = h
far-above m t (suc i) (b ∷ v) h = let g = far-above m t i v h in omega (arith, ints)

pub far-below : (m : ℕ) (t : ℤ) (i : ℕ) (v : List Bit4) → from_top t (drop i v) <ℤ neg_ℤ (pos m) → from_top t v <ℤ neg_ℤ (pos m)
far-below m t zero v h = h
far-below m t (suc i) [] h = h
far-below m t (suc i) (b ∷ v) h = let g = far-below m t i v h in let d = digit-small b in omega (arith, ints)

pub far-from : (t : ℤ) (i : ℕ) (v : List Bit4) → IsNearIf false (from_top t (drop i v)) → IsNearIf false (from_top t v)
far-from t i v (inl h) = inl (far-below (2 ^ 64) t i v h)
far-from t i v (inr h) = inr (far-above (2 ^ 64) t i v h)

-- the turns of the reading
pub far-number : (signed : Bool) (i : ℕ) (v : List Bit4) (n : ℤ) → n ≡ from_top (start signed v) (drop i v) → IsNearIf false n → IsNearBy None (number signed v)
far-number signed i v n is far =
    subst (IsNearIf false) (number-is signed v) (far-from (start signed v) i v (subst (IsNearIf false) is far))

pub turn : (signed : Bool) (v : List Bit4) (i : ℕ) (d : Bit4) (n m : ℤ) → 0 < i → i ≤ length v → n ≡ from_top (start signed v) (drop i v) → m ≡ n +ℤ n +ℤ pos (digit (get_or v (i - 1) d)) → m ≡ from_top (start signed v) (drop (i - 1) v)
turn signed v i d n m some low is next =
    let same : (i - 1) + 1 ≡ i = omega arith in
    let at : n ≡ from_top (start signed v) (drop (i - 1 + 1) v) = is ∙ ap (λ k. from_top (start signed v) (drop k v)) (sym same) in
    next ∙ ap (λ x. x +ℤ x +ℤ pos (digit (get_or v (i - 1) d))) at ∙ sym (next-top (start signed v) v (i - 1) d (omega arith))

-- a number of at most 64 bits isn't far from 0
num-short : (v : List Bit4) → num v < 2 ^ length v
num-short [] = omega arith
num-short (b ∷ v) = let h = num-short v in let d = digit-small b in let e = pow-suc (length v) in omega arith

near-by : (v : List Bit4) (b : Bool) → length v ≤ 64 → IsNearIf true (if b then pos (num v) -ℤ pos (2 ^ length v) else pos (num v))
near-by v true h =
    let a = num-short v in
    let p : 2 ^ length v ≤ 2 ^ 64 = pow_mono h in
    record { above = omega (arith, ints); below = omega (arith, ints) }
near-by v false h =
    let a = num-short v in
    let p : 2 ^ length v ≤ 2 ^ 64 = pow_mono h in
    record { above = omega (arith, ints); below = omega (arith, ints) }

short-near : (signed : Bool) (v : List Bit4) → length v ≤ 64 → IsNearIf true (number signed v)
short-near true v h = near-by v (is_one (top_bit v)) h
short-near false v h = near-by v false h

near-not-far : (n : ℤ) → IsNearIf true n → IsNearBy None n → ⊥
near-not-far n near (inl low) = let a = near.above in omega (arith, ints)
near-not-far n near (inr high) = let b = near.below in omega (arith, ints)

pub short-number : (r : Option ℤ) (signed : Bool) (v : List Bit4) → length v ≤ 64 → known v ≡ true → IsNearBy r (number signed v) → r ≡ number_if_known signed v
short-number None signed v short is n = absurd (near-not-far (number signed v) (short-near signed v short) n)
short-number (Some m) signed v short is n = ap (λ (k : ℤ). Some k) n ∙ sym (ap (λ b. cond b (Some (number signed v)) None) is)

pub ruleset shorts = (short-number)

pub ruleset tops = (number-is)
