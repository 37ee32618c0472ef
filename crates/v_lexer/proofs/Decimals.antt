-- The number that digits write, as far as it is told apart.
use Rattle.std.proofs.Common.{◌≡◌, ◌≤◌, ◌<◌, ◌⊎◌, ℕ, ◌+◌, ◌-◌, ◌*◌, min, nat_lt, nat_le, Bool, true, false, ◌&&◌, cond, List, [], ◌∷◌, length, drop, refl, sym, ap, ◌∙◌, inl, inr, arith, add-one, drop-cons, get_or}
use Rattle.std.proofs.lemmas.Bool.{ltb-true, ltb-false, leb-true, le-ltb, lt-ltb}
use Rattle.std.proofs.lemmas.List.Folds.{list_all_at}
use Rattle.std.specs.List.{list_all}
use Rattle.std.specs.Str.Parse.{digits_value_after}
use Rattle.std.specs.Char.{digit_value}
use Rattle.v_tree.specs.Tokens.{is_digit}

pub at_least : (n : ℕ) (ds : List ℕ) → n ≤ digits_value_after 10 n ds
at_least n [] = omega arith
at_least n (c ∷ ds) = let more = at_least (n * 10 + digit_value c) ds in omega (arith, more)

pub small_or_great : (n : ℕ) → (n ≤ 4294967296) ⊎ (4294967296 < n)
small_or_great n = by_test (nat_lt 4294967296 n) refl
  where
    by_test : (b : Bool) → nat_lt 4294967296 n ≡ b → (n ≤ 4294967296) ⊎ (4294967296 < n)
    by_test true e = inr (ltb-true 4294967296 n e)
    by_test false e = inl (ltb-false 4294967296 n e)

-- a number that is cut at the most goes on as the whole one, as far as it is told apart
pub capped : (n : ℕ) (ds : List ℕ) → min (digits_value_after 10 (min n 4294967296) ds) 4294967296 ≡ min (digits_value_after 10 n ds) 4294967296
capped n ds = by_size (small_or_great n)
  where
    by_size : (n ≤ 4294967296) ⊎ (4294967296 < n) → min (digits_value_after 10 (min n 4294967296) ds) 4294967296 ≡ min (digits_value_after 10 n ds) 4294967296
    by_size (inl h) = let e : min n 4294967296 ≡ n = omega (arith, h) in ap (λ k. min (digits_value_after 10 k ds) 4294967296) e
    by_size (inr h) =
        let one = at_least (min n 4294967296) ds in
        let two = at_least n ds in
        omega (arith, one, two, h)

apart : false ≡ true → ⊥
apart e = cc

both_true : (a b : Bool) → (a && b) ≡ true → (a ≡ true) × (b ≡ true)
both_true true b e = (refl, e)
both_true false b e = absurd (apart e)

-- a digit's value
pub digit-is : (c : ℕ) → is_digit c ≡ true → digit_value c ≡ c - 48
digit-is c e =
    let both = both_true (nat_le 48 c) (nat_le c 57) e in
    let low = leb-true 48 c both.0 in
    let high = leb-true c 57 both.1 in
    let l : nat_lt c 48 ≡ false = le-ltb c 48 low in
    let h : c < 58 = omega (arith, high) in
    let m : nat_lt c 58 ≡ true = lt-ltb c 58 h in
    ap (λ x. cond x 36 (cond (nat_lt c 58) (c - 48) (cond (nat_lt c 65) 36 (cond (nat_lt c 91) (c - 55) (cond (nat_lt c 97) 36 (cond (nat_lt c 123) (c - 87) 36)))))) l
    ∙ ap (λ x. cond x (c - 48) (cond (nat_lt c 65) 36 (cond (nat_lt c 91) (c - 55) (cond (nat_lt c 97) 36 (cond (nat_lt c 123) (c - 87) 36))))) m

-- each of these bytes is a digit
pub digit-at : (ds : List ℕ) (i : ℕ) → list_all is_digit ds ≡ true → i < length ds → is_digit (get_or ds i 0) ≡ true
digit-at ds i all within = by_test (is_digit (get_or ds i 0)) refl
  where
    by_test : (b : Bool) → is_digit (get_or ds i 0) ≡ b → b ≡ true
    by_test true e = refl
    by_test false e = absurd (apart (sym (list_all_at is_digit ds i 0 within e) ∙ all))

-- a step of the loop
pub digit-goes : (digits : List ℕ) (at value digit : ℕ) (whole : ℕ) → at < length digits → is_digit (get_or digits at 0) ≡ true → digit ≡ get_or digits at 0 - 48
    → min (digits_value_after 10 value (drop at digits)) 4294967296 ≡ whole
    → min (digits_value_after 10 (min (value * 10 + digit) 4294967296) (drop (at + 1) digits)) 4294967296 ≡ whole
digit-goes digits at value digit whole within is same so_far =
    let next : drop at digits ≡ get_or digits at 0 ∷ drop (at + 1) digits = rw (add-one, drop-cons digits at 0 within) in
    let d : digit ≡ digit_value (get_or digits at 0) = same ∙ sym (digit-is (get_or digits at 0) is) in
    capped (value * 10 + digit) (drop (at + 1) digits)
    ∙ ap (λ k. min (digits_value_after 10 (value * 10 + k) (drop (at + 1) digits)) 4294967296) d
    ∙ sym (ap (λ ds. min (digits_value_after 10 value ds) 4294967296) next) ∙ so_far
