-- Laws of numbers of tokens and of widths that saturate, and of the first of tokens.
use Rattle.std.proofs.Common.{◌≡◌, ◌≤◌, ℕ, zero, suc, ◌+◌, ◌*◌, Bool, true, false, ◌||◌, List, [], ◌∷◌, ◌++◌, Option, Some, None, refl, sym, ap, ◌∙◌, min, max, nat_lt, arith}
use Rattle.std.proofs.lemmas.Bool.{ltb-true, ltb-false}
use Rattle.std.proofs.lemmas.Bool.Decides.{nat_tests}
use Rattle.v_tree.specs.ExprRules.{only_if}
use Rattle.v_expr_rules.specs.Seen.{wide_bits, plus, bits_plus, bits_times, bits_capped, earlier, mark, is_wide}
use Rattle.v_expr_rules.specs.Least.{least, cap, capped, first}

pub plus-cap : (a b : ℕ) → plus (cap a) (cap b) ≡ cap (a + b)
unfolding plus
plus-cap a b = omega arith

pub bits_plus-capped : (a b : ℕ) → bits_plus (bits_capped a) (bits_capped b) ≡ bits_capped (a + b)
unfolding bits_plus bits_capped
bits_plus-capped a b = omega arith

pub max-capped : (a b : ℕ) → max (bits_capped a) (bits_capped b) ≡ bits_capped (max a b)
unfolding bits_capped
max-capped a b = omega arith

pub is_wide-capped : (a : ℕ) → is_wide (bits_capped a) ≡ is_wide a
unfolding bits_capped
is_wide-capped a = grind (arith, nat_tests)

pub is_wide-max : (a b : ℕ) → is_wide (max a b) ≡ (is_wide a || is_wide b)
is_wide-max a b = grind (arith, nat_tests)

pub earlier-none : (a : Option ℕ) → earlier a None ≡ a
unfolding earlier
earlier-none None = refl
earlier-none (Some a) = refl

pub none-earlier : (a : Option ℕ) → earlier None a ≡ a
unfolding earlier
none-earlier a = refl

min-assoc : (a b c : ℕ) → min (min a b) c ≡ min a (min b c)
min-assoc a b c = omega arith

pub earlier-assoc : (a b c : Option ℕ) → earlier (earlier a b) c ≡ earlier a (earlier b c)
unfolding earlier
earlier-assoc None b c = refl
earlier-assoc (Some a) None c = refl
earlier-assoc (Some a) (Some b) None = refl
earlier-assoc (Some a) (Some b) (Some c) = ap Some (min-assoc a b c)

min-comm : (a b : ℕ) → min a b ≡ min b a
min-comm a b = omega arith

pub earlier-comm : (a b : Option ℕ) → earlier a b ≡ earlier b a
unfolding earlier
earlier-comm None None = refl
earlier-comm None (Some b) = refl
earlier-comm (Some a) None = refl
earlier-comm (Some a) (Some b) = ap Some (min-comm a b)

cap-min : (a b : ℕ) → cap (min a b) ≡ min (cap a) (cap b)
cap-min a b = omega arith

pub capped-earlier : (a b : Option ℕ) → capped (earlier a b) ≡ earlier (capped a) (capped b)
unfolding earlier
capped-earlier None b = refl
capped-earlier (Some a) None = refl
capped-earlier (Some a) (Some b) = ap Some (cap-min a b)

least-append : (xs ys : List ℕ) → least (xs ++ ys) ≡ earlier (least xs) (least ys)
least-append [] ys = sym (none-earlier (least ys))
least-append (x ∷ xs) ys = ap (earlier (Some x)) (least-append xs ys) ∙ sym (earlier-assoc (Some x) (least xs) (least ys))

pub first-append : (xs ys : List ℕ) → first (xs ++ ys) ≡ earlier (first xs) (first ys)
first-append xs ys = ap capped (least-append xs ys) ∙ capped-earlier (least xs) (least ys)

pub first-one : (t : ℕ) → first (t ∷ []) ≡ Some (cap t)
first-one t = ap capped (earlier-none (Some t))

pub first-if : (b : Bool) (t : ℕ) → first (only_if b t) ≡ mark b (cap t)
first-if true t = first-one t
first-if false t = refl

-- a greater product
least_product : (c m : ℕ) → m ≤ m + c * m
least_product c m = omega arith

times_by : (c a : ℕ) (b : Bool) → nat_lt a wide_bits ≡ b → bits_times (suc c) (bits_capped a) ≡ bits_capped (suc c * a)
unfolding bits_times bits_capped
times_by c a true e =
    let low = ltb-true a wide_bits e in
    let same : min a wide_bits ≡ a = omega (arith, low) in ap (λ m. min (suc c * m) wide_bits) same
times_by c a false e =
    let high = ltb-false a wide_bits e in
    let same : min a wide_bits ≡ wide_bits = omega (arith, high) in
    let left : min (suc c * wide_bits) wide_bits ≡ wide_bits = omega (arith, least_product c wide_bits) in
    let right : min (suc c * a) wide_bits ≡ wide_bits = omega (arith, high, least_product c a) in
    ap (λ m. min (suc c * m) wide_bits) same ∙ left ∙ sym right

zero_times : (a : ℕ) → bits_times 0 (bits_capped a) ≡ bits_capped (0 * a)
unfolding bits_times bits_capped
zero_times a = omega arith

pub bits_times-capped : (count a : ℕ) → bits_times count (bits_capped a) ≡ bits_capped (count * a)
bits_times-capped zero a = zero_times a
bits_times-capped (suc c) a = times_by c a (nat_lt a wide_bits) refl
