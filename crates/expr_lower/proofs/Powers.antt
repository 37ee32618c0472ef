-- A known operand is at most a power of two: by order, or by what is above the power and by the power itself.
use Rattle.std.proofs.Common.{◌≡◌, ◌⊎◌, inl, inr, ℕ, zero, suc, ◌+◌, ◌-◌, ◌*◌, ◌<◌, ◌≤◌, ◌^◌, ◌==◌, min, max, Bool, true, false, ◌&&◌, if◌then◌else◌, pos, length, length-append, length-drop, replicate, take, drop, List, [], ◌∷◌, ◌++◌, append-nil, refl, arith, sym, ◌∙◌, subst, ap}
use Rattle.std.specs.Prelude.{nat_le, nat_lt, int_le, fold}
use Rattle.std.proofs.Math.Nat.{mul_assoc, pow-succ', pow-le-pow_right}
use Rattle.std.proofs.lemmas.Bool.{false≢true}
use Rattle.std.proofs.lemmas.Bool.Decides.{nat_tests}
use Rattle.std.proofs.lemmas.List.{take-replicate}
use Rattle.b4_core.specs.declared.bit.Bit4.{Bit4}
use Rattle.b4_core.specs.declared.bit.Bit4.TheVariants.{Zero, One, X, Z}
use Rattle.b4_core.specs.declared.operators.EqOp.TheVariants.{Logic}
use Rattle.b4_core.specs.declared.operators.OrdOp.TheVariants.{LessEqual}
use Rattle.b4_core.specs.declared.operators.ShiftOp.TheVariants.{Left, Right}
use Rattle.b4_core.specs.Bits.{bit_of, and4, or4, xnor4}
use Rattle.b4_core.specs.Bitwise.{truth_of}
use Rattle.b4_core.specs.Compare.{order_value, equality}
use Rattle.b4_core.specs.Shift.{shift_up, shift_down, shift_value}
use Rattle.b4_core.specs.Vectors.{known, unknown, num, digit, digits, bitwise, ext}
use Rattle.row_machine.specs.Valuation.{Valuation, Member}
use Rattle.sv_types.proofs.OperatorLengths.{length-ext}
use Rattle.v_meaning.specs.Scopes.{Scope}
use Rattle.v_meaning.specs.Values as T
use Rattle.lowering_laws.specs.Same.{HasBits}
use Rattle.lowering_laws.proofs.Constants.{length-fill}
use Rattle.lowering_laws.proofs.Extensions.{ext-at}
use Rattle.lowering_laws.proofs.Numbers.{known-digits, num-digits, num-ext, known-ext}
use Rattle.expr_lower.specs.Logarithms.{power, at_most_power, below_power, equals_power, IsAtMost}

-- one, moved up
zeros-known : (k : ℕ) → known (replicate k Zero) ≡ true
zeros-known zero = refl
zeros-known (suc k) = zeros-known k

zeros-num : (k : ℕ) → num (replicate k Zero) ≡ 0
zeros-num zero = refl
zeros-num (suc k) = (let rest = zeros-num k in omega arith)

moved-known : (k : ℕ) (v : List Bit4) → known v ≡ true → known (replicate k Zero ++ v) ≡ true
moved-known zero v h = h
moved-known (suc k) v h = moved-known k v h

moved-num : (k : ℕ) (v : List Bit4) → num (replicate k Zero ++ v) ≡ 2 ^ k * num v
moved-num zero v = omega arith
moved-num (suc k) v =
    let twice : 0 + 2 * num (replicate k Zero ++ v) ≡ 2 * num (replicate k Zero ++ v) = omega arith in
    twice ∙ ap (λ n. 2 * n) (moved-num k v) ∙ sym (mul_assoc 2 (2 ^ k) (num v)) ∙ ap (λ p. p * num v) (sym (pow-succ' 2 k))

take-none : (w : ℕ) → take {A = Bit4} w [] ≡ []
take-none zero = refl
take-none (suc w) = refl

low-one : (j w : ℕ) → j < w → take (suc j) (ext w false (One ∷ [])) ≡ One ∷ replicate j Zero
low-one j zero h = absurd (omega arith)
low-one j (suc w) h =
    let left : suc w - 1 ≡ w = omega arith in
    ap (λ n. take (suc j) ((One ∷ take w []) ++ replicate n Zero)) left ∙ ap (λ l. take (suc j) ((One ∷ l) ++ replicate w Zero)) (take-none w) ∙ ap (λ l. One ∷ l) (take-replicate j w Zero (omega arith))

moved-one : (w k : ℕ) → k < w → shift_up k (ext w false (One ∷ [])) ≡ replicate k Zero ++ (One ∷ replicate (w - suc k) Zero)
moved-one w k h =
    let v = ext w false (One ∷ []) in
    let least : min k w ≡ k = omega arith in
    let rest : w - k ≡ suc (w - suc k) = omega arith in
    ap (λ n. replicate (min k n) Zero ++ take (n - min k n) v) (length-ext w false (One ∷ [])) ∙ ap (λ m. replicate m Zero ++ take (w - m) v) least ∙ ap (λ n. replicate k Zero ++ take n v) rest
    ∙ ap (λ l. replicate k Zero ++ l) (low-one (w - suc k) w (omega arith))

one-num : (j : ℕ) → num (One ∷ replicate j Zero) ≡ 1
one-num j = (let rest = zeros-num j in omega arith)

power-num : (w k : ℕ) → k < w → num (shift_up k (ext w false (One ∷ []))) ≡ 2 ^ k
power-num w k h = ap num (moved-one w k h) ∙ moved-num k (One ∷ replicate (w - suc k) Zero) ∙ ap (λ n. 2 ^ k * n) (one-num (w - suc k)) ∙ omega arith

power-known : (w k : ℕ) → k < w → known (shift_up k (ext w false (One ∷ []))) ≡ true
power-known w k h = ap known (moved-one w k h) ∙ moved-known k (One ∷ replicate (w - suc k) Zero) (zeros-known (w - suc k))

power-long : (w k : ℕ) → k < w → length (shift_up k (ext w false (One ∷ []))) ≡ w
power-long w k h =
    let below = length-fill k Zero in
    let above = length-fill (w - suc k) Zero in
    ap length (moved-one w k h) ∙ length-append (replicate k Zero) (One ∷ replicate (w - suc k) Zero) ∙ omega arith

-- a comparison with a power of two
power-value : (w k : ℕ) (sc : Scope) (v : Valuation) → k < 2 ^ 32 → (power k).value w false sc v ≡ shift_up k (ext w false (One ∷ []))
unfolding T.shift T.literal
power-value w k sc v small =
    let own = ext-at (length (digits 32 k)) false (digits 32 k) refl in
    (λ i. shift_value Left false (ext w false (One ∷ [])) (own i))
    ∙ (λ i. if known-digits 32 k i then shift_up (num-digits 32 k small i) (ext w false (One ∷ [])) else unknown (length (ext w false (One ∷ []))))

power-width : (k : ℕ) (sc : Scope) → (power k).width sc ≡ 1
unfolding T.shift T.literal
power-width k sc = refl

power-plain : (k : ℕ) → (power k).signed ≡ false
unfolding T.shift T.literal
power-plain k = refl

pub bit-truth : (b : Bool) → truth_of (ext 1 false (bit_of b ∷ [])) ≡ bit_of b
bit-truth true = refl
bit-truth false = refl

int-test : (x y : ℕ) → int_le (pos x) (pos y) ≡ nat_le x y
int-test x y = grind (arith, nat_tests)

compared : (c d : List Bit4) (n : ℕ) → known c ≡ true → known d ≡ true → num d ≡ n → order_value LessEqual false c d ≡ bit_of (nat_le (num c) n)
compared c d n h g is = (λ i. if h i && g i then bit_of (int_le (pos (num c)) (pos (is i))) else X) ∙ ap bit_of (int-test (num c) n)

and-plain : (b c : Bool) → b ≡ false → (b && c) ≡ false
and-plain b c h = ap (λ d. d && c) h

order-truth : (y : T.Meaning) (w k : ℕ) (c : List Bit4) (sc : Scope) (v : Valuation) → HasBits y c sc v → length c ≡ w → known c ≡ true → k < w → k < 2 ^ 32
    → T.truth (at_most_power y k) sc v ≡ bit_of (nat_le (num c) (2 ^ k))
unfolding T.order
order-truth y w k c sc v h is knows less small =
    let width = h.width in
    let one = power-width k sc in
    let larger : max (y.width sc) ((power k).width sc) ≡ w = omega arith in
    let sign = and-plain y.signed (power k).signed h.unsigned in
    (λ i. truth_of (ext 1 false (order_value LessEqual (sign i) (y.value (larger i) (sign i) sc v) ((power k).value (larger i) (sign i) sc v) ∷ [])))
    ∙ (λ i. truth_of (ext 1 false (order_value LessEqual false ((h.value w false ∙ ext-at w false c is) i) (power-value w k sc v small i) ∷ [])))
    ∙ ap (λ b. truth_of (ext 1 false (b ∷ []))) (compared c (shift_up k (ext w false (One ∷ []))) (2 ^ k) knows (power-known w k less) (power-num w k less))
    ∙ bit-truth (nat_le (num c) (2 ^ k))

-- a number is below a power of two where nothing is left of it above
digit-small : (b : Bit4) → digit b ≤ 1
digit-small Zero = omega arith
digit-small One = omega arith
digit-small X = omega arith
digit-small Z = omega arith

left-test : (d n p m : ℕ) → d ≤ 1 → m ≡ 2 * p → nat_lt n p ≡ nat_lt (d + 2 * n) m
left-test d n p m h is = grind (arith, nat_tests)

none-left : (k : ℕ) (c : List Bit4) → (num (drop k c) == 0) ≡ nat_lt (num c) (2 ^ k)
none-left zero c = grind (arith, nat_tests)
none-left (suc k) [] = (let least : 0 ≤ suc k = omega arith in let some : 2 ^ 0 ≤ 2 ^ suc k = pow-le-pow_right {n = 2} (omega arith) least in grind (arith, nat_tests))
none-left (suc k) (b ∷ c) = none-left k c ∙ left-test (digit b) (num c) (2 ^ k) (2 ^ suc k) (digit-small b) (pow-succ' 2 k)

num-filled : (c : List Bit4) (k : ℕ) → num (c ++ replicate k Zero) ≡ num c
num-filled [] k = zeros-num k
num-filled (b ∷ c) k = (let rest = num-filled c k in omega arith)

known-filled : (c : List Bit4) (k : ℕ) → known c ≡ true → known (c ++ replicate k Zero) ≡ true
known-filled [] k h = zeros-known k
known-filled (Zero ∷ c) k h = known-filled c k h
known-filled (One ∷ c) k h = known-filled c k h
known-filled (X ∷ c) k h = h
known-filled (Z ∷ c) k h = h

known-drop : (k : ℕ) (c : List Bit4) → known c ≡ true → known (drop k c) ≡ true
known-drop zero c h = h
known-drop (suc k) [] h = h
known-drop (suc k) (Zero ∷ c) h = known-drop k c h
known-drop (suc k) (One ∷ c) h = known-drop k c h
known-drop (suc k) (X ∷ c) h = absurd (false≢true h)
known-drop (suc k) (Z ∷ c) h = absurd (false≢true h)

-- known vectors of one length are equal as their numbers are
all-zero : (v : List Bit4) → fold and4 Zero v ≡ Zero
all-zero [] = refl
all-zero (b ∷ v) = all-zero v

same-low : (d n m : ℕ) → (n == m) ≡ (d + 2 * n == d + 2 * m)
same-low d n m = grind (arith, nat_tests)

low-differs : (n m : ℕ) → ((0 + 2 * n == 1 + 2 * m) ≡ false) × ((1 + 2 * n == 0 + 2 * m) ≡ false)
low-differs n m = (grind (arith, nat_tests), grind (arith, nat_tests))

equal-known : (a b : List Bit4) → known a ≡ true → known b ≡ true → length a ≡ length b → equality Logic a b ≡ bit_of (num a == num b)
equal-known [] [] h g l = refl
equal-known [] (y ∷ b) h g l = absurd (omega arith)
equal-known (x ∷ a) [] h g l = absurd (omega arith)
equal-known (X ∷ a) (y ∷ b) h g l = absurd (false≢true h)
equal-known (Z ∷ a) (y ∷ b) h g l = absurd (false≢true h)
equal-known (Zero ∷ a) (X ∷ b) h g l = absurd (false≢true g)
equal-known (Zero ∷ a) (Z ∷ b) h g l = absurd (false≢true g)
equal-known (One ∷ a) (X ∷ b) h g l = absurd (false≢true g)
equal-known (One ∷ a) (Z ∷ b) h g l = absurd (false≢true g)
equal-known (Zero ∷ a) (Zero ∷ b) h g l = equal-known a b h g (omega arith) ∙ ap bit_of (same-low 0 (num a) (num b))
equal-known (One ∷ a) (One ∷ b) h g l = equal-known a b h g (omega arith) ∙ ap bit_of (same-low 1 (num a) (num b))
equal-known (Zero ∷ a) (One ∷ b) h g l = all-zero (bitwise xnor4 a b) ∙ sym (ap bit_of (low-differs (num a) (num b)).0)
equal-known (One ∷ a) (Zero ∷ b) h g l = all-zero (bitwise xnor4 a b) ∙ sym (ap bit_of (low-differs (num a) (num b)).1)

-- the quotient by a power of two
quotient-value : (y : T.Meaning) (w k : ℕ) (c : List Bit4) (sc : Scope) (v : Valuation) → HasBits y c sc v → length c ≡ w → k < 2 ^ 32
    → (T.shift Right y (T.literal (digits 32 k))).value w false sc v ≡ shift_down Zero k c
unfolding T.shift T.literal
quotient-value y w k c sc v h is small =
    let own = ext-at (length (digits 32 k)) false (digits 32 k) refl in
    (λ i. shift_value Right false ((h.value w false ∙ ext-at w false c is) i) (own i))
    ∙ (λ i. if known-digits 32 k i then shift_down Zero (num-digits 32 k small i) c else unknown (length c))

shifted-down : (w k : ℕ) (c : List Bit4) → length c ≡ w → k < w → shift_down Zero k c ≡ drop k c ++ replicate k Zero
shifted-down w k c is less =
    let least : min k (length c) ≡ k = omega arith in
    ap (λ m. drop m c ++ replicate m Zero) least

shifted-long : (w k : ℕ) (c : List Bit4) → length c ≡ w → k < w → length (drop k c ++ replicate k Zero) ≡ w
shifted-long w k c is less = (let one = length-drop k c in let two = length-fill k Zero in length-append (drop k c) (replicate k Zero) ∙ omega arith)

quotient-width : (y z : T.Meaning) (sc : Scope) → (T.shift Right y z).width sc ≡ y.width sc
unfolding T.shift
quotient-width y z sc = refl

quotient-plain : (y z : T.Meaning) → (T.shift Right y z).signed ≡ y.signed
unfolding T.shift
quotient-plain y z = refl

zero-value : (w : ℕ) (sc : Scope) (v : Valuation) → (T.literal (Zero ∷ [])).value w false sc v ≡ ext w false (Zero ∷ [])
unfolding T.literal
zero-value w sc v = refl

bit-width : (b : Bit4) (sc : Scope) → (T.literal (b ∷ [])).width sc ≡ 1
unfolding T.literal
bit-width b sc = refl

-- an equality of operands that are known at the larger of both widths
equality-truth : (l r : T.Meaning) (w n m : ℕ) (a b : List Bit4) (sc : Scope) (v : Valuation) → max (l.width sc) (r.width sc) ≡ w → l.signed ≡ false → l.value w false sc v ≡ a → r.value w false sc v ≡ b
    → known a ≡ true → known b ≡ true → length a ≡ length b → num a ≡ n → num b ≡ m → T.truth (T.equal Logic l r) sc v ≡ bit_of (n == m)
unfolding T.equal
equality-truth l r w n m a b sc v larger plain left right kl kr long first second =
    let sign = and-plain l.signed r.signed plain in
    (λ i. truth_of (ext 1 false (equality Logic (l.value (larger i) (sign i) sc v) (r.value (larger i) (sign i) sc v) ∷ [])))
    ∙ (λ i. truth_of (ext 1 false (equality Logic (left i) (right i) ∷ [])))
    ∙ ap (λ d. truth_of (ext 1 false (d ∷ []))) (equal-known a b kl kr long ∙ (λ i. bit_of (first i == second i)))
    ∙ bit-truth (n == m)

below-truth : (y : T.Meaning) (w k : ℕ) (c : List Bit4) (sc : Scope) (v : Valuation) → HasBits y c sc v → length c ≡ w → known c ≡ true → k < w → k < 2 ^ 32
    → T.truth (below_power y k) sc v ≡ bit_of (nat_lt (num c) (2 ^ k))
below-truth y w k c sc v h is knows less small =
    let by = T.literal (digits 32 k) in
    let width = h.width in
    let same = quotient-width y by sc in
    let one = bit-width Zero sc in
    equality-truth (T.shift Right y by) (T.literal (Zero ∷ [])) w (num (drop k c)) 0 (drop k c ++ replicate k Zero) (ext w false (Zero ∷ [])) sc v (omega arith) (quotient-plain y by ∙ h.unsigned)
    (quotient-value y w k c sc v h is small ∙ shifted-down w k c is less) (zero-value w sc v) (known-filled (drop k c) k (known-drop k c knows)) (known-ext w (Zero ∷ []) (omega arith))
    (shifted-long w k c is less ∙ sym (length-ext w false (Zero ∷ []))) (num-filled (drop k c) k) (num-ext w (Zero ∷ []) (omega arith))
    ∙ ap bit_of (none-left k c)

equals-truth : (y : T.Meaning) (w k : ℕ) (c : List Bit4) (sc : Scope) (v : Valuation) → HasBits y c sc v → length c ≡ w → known c ≡ true → k < w → k < 2 ^ 32
    → T.truth (equals_power y k) sc v ≡ bit_of (num c == 2 ^ k)
equals-truth y w k c sc v h is knows less small =
    let width = h.width in
    let one = power-width k sc in
    equality-truth y (power k) w (num c) (2 ^ k) c (shift_up k (ext w false (One ∷ []))) sc v (omega arith) h.unsigned (h.value w false ∙ ext-at w false c is) (power-value w k sc v small) knows (power-known w k less)
    (is ∙ sym (power-long w k less)) refl (power-num w k less)

either-test : (n p : ℕ) → or4 (bit_of (nat_lt n p)) (bit_of (n == p)) ≡ bit_of (nat_le n p)
either-test n p = by (nat_lt n p) (n == p) refl refl
  where
    by : (a b : Bool) → nat_lt n p ≡ a → (n == p) ≡ b → or4 (bit_of (nat_lt n p)) (bit_of (n == p)) ≡ bit_of (nat_le n p)
    by true b h g = (let at_most : nat_le n p ≡ true = grind (arith, nat_tests) in ap (λ d. or4 (bit_of d) (bit_of (n == p))) h ∙ sym (ap bit_of at_most))
    by false true h g = (let at_most : nat_le n p ≡ true = grind (arith, nat_tests) in (λ i. or4 (bit_of (h i)) (bit_of (g i))) ∙ sym (ap bit_of at_most))
    by false false h g = (let above : nat_le n p ≡ false = grind (arith, nat_tests) in (λ i. or4 (bit_of (h i)) (bit_of (g i))) ∙ sym (ap bit_of above))

wide-truth : (y : T.Meaning) (w k : ℕ) (c : List Bit4) (sc : Scope) (v : Valuation) → HasBits y c sc v → length c ≡ w → known c ≡ true → k < w → k < 2 ^ 32
    → T.truth (T.either (below_power y k) (equals_power y k)) sc v ≡ bit_of (nat_le (num c) (2 ^ k))
unfolding T.either
wide-truth y w k c sc v h is knows less small =
    (λ i. truth_of (ext 1 false (or4 (below-truth y w k c sc v h is knows less small i) (equals-truth y w k c sc v h is knows less small i) ∷ [])))
    ∙ ap (λ d. truth_of (ext 1 false (d ∷ []))) (either-test (num c) (2 ^ k))
    ∙ bit-truth (nat_le (num c) (2 ^ k))

-- names
pub in-one : (xs ys : List ℕ) (q : ℕ) → Member (xs ++ ys) q → Member xs q ⊎ Member ys q
in-one [] ys q h = inr h
in-one (x ∷ xs) ys q (inl e) = inl (inl e)
in-one (x ∷ xs) ys q (inr h) = elim (in-one xs ys q h) [ inl k ↦ inl (inr k) | inr k ↦ inr k ]

order-named : (y : T.Meaning) (k : ℕ) (sc : Scope) → (at_most_power y k).names sc ≡ y.names sc
unfolding T.order T.shift T.literal
order-named y k sc = append-nil (y.names sc)

wide-named : (y : T.Meaning) (k : ℕ) (sc : Scope) → (T.either (below_power y k) (equals_power y k)).names sc ≡ y.names sc ++ y.names sc
unfolding T.either T.equal T.shift T.literal
wide-named y k sc = (λ i. (append-nil (append-nil (y.names sc) i) i) ++ (append-nil (append-nil (y.names sc) i) i))

twice : (xs : List ℕ) (q : ℕ) → Member (xs ++ xs) q → Member xs q
twice xs q h = elim (in-one xs xs q h) [ inl k ↦ k | inr k ↦ k ]

pub by-order : (y : T.Meaning) (w k : ℕ) (r : T.Meaning) → k < w → k < 2 ^ 32 → r ≡ at_most_power y k → IsAtMost y w k r
by-order y w k r less small is = record {
  test = λ c sc v h long knows. ap (λ (m : T.Meaning). T.truth m sc v) is ∙ order-truth y w k c sc v h long knows less small;
  names = λ sc q h. subst (λ l. Member l q) (ap (λ (m : T.Meaning). m.names sc) is ∙ order-named y k sc) h;
}

pub without-order : (y : T.Meaning) (w k : ℕ) (r : T.Meaning) → k < w → k < 2 ^ 32 → r ≡ T.either (below_power y k) (equals_power y k) → IsAtMost y w k r
without-order y w k r less small is = record {
  test = λ c sc v h long knows. ap (λ (m : T.Meaning). T.truth m sc v) is ∙ wide-truth y w k c sc v h long knows less small;
  names = λ sc q h. twice (y.names sc) q (subst (λ l. Member l q) (ap (λ (m : T.Meaning). m.names sc) is ∙ wide-named y k sc) h);
}
