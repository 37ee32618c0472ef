-- `$clog2` of what isn't a constant: comparisons with the powers of two, one after the other.
use Rattle.std.proofs.Common.{◌≡◌, ℕ, zero, suc, ◌+◌, ◌<◌, ◌≤◌, ◌^◌, max, Bool, true, false, ◌&&◌, cond, if◌then◌else◌, pos, length, List, [], ◌∷◌, refl, arith, sym, ◌∙◌, subst, ap}
use Rattle.std.specs.Prelude.{nat_le, int_le, not, fold}
use Rattle.std.proofs.Math.Pow.{pow-lt}
use Rattle.std.proofs.lemmas.Bool.Decides.{nat_tests}
use Rattle.b4_core.specs.declared.bit.Bit4.{Bit4}
use Rattle.b4_core.specs.declared.bit.Bit4.TheVariants.{Zero, One, X, Z}
use Rattle.b4_core.specs.declared.operators.EqOp.TheVariants.{Case}
use Rattle.b4_core.specs.declared.operators.OrdOp.TheVariants.{LessEqual}
use Rattle.b4_core.specs.declared.operators.RedOp.TheVariants.{Xor}
use Rattle.b4_core.specs.Bits.{bit_of, xor4}
use Rattle.b4_core.specs.Bitwise.{truth_of, parity4}
use Rattle.b4_core.specs.Compare.{order_value, equality}
use Rattle.b4_core.specs.Vectors.{known, unknown, num, digits, vec, ext}
use Rattle.row_machine.specs.Valuation.{Valuation}
use Rattle.sv_types.specs.Layouts.{Layout}
use Rattle.sv_types.specs.Surroundings.{Around}
use Rattle.sv_types.specs.Meanings as S
use Rattle.sv_types.specs.Operators as O
use Rattle.sv_types.specs.Operators.{log_from, clog2_of}
use Rattle.sv_types.proofs.OperatorLengths.{length-vec, length-unknown}
use Rattle.v_meaning.specs.Scopes.{Scope}
use Rattle.v_meaning.specs.Values as T
use Rattle.lowering_laws.specs.Same.{Same, SameAlone, HasBits}
use Rattle.lowering_laws.proofs.Constants.{signed-same, bits-alone}
use Rattle.lowering_laws.proofs.Contexts.{typed-four, alone-width, alone-value}
use Rattle.lowering_laws.proofs.Extensions.{ext-at}
use Rattle.lowering_laws.proofs.Numbers.{known-digits, num-digits, length-digits}
use Rattle.lowering_laws.proofs.Pieces.{literal-bits}

-- the k-th comparison and those behind it, of an operand of w bits
abbrev pub steps_from : T.Meaning → ℕ → ℕ → ℕ → T.Meaning
steps_from y w zero k = T.literal (vec 32 (pos k))
steps_from y w (suc n) k = T.choose (T.order LessEqual y (T.literal (digits w (2 ^ k)))) (T.literal (vec 32 (pos k))) (steps_from y w n (suc k))

-- all of them, and x where the operand isn't known
abbrev pub logarithm : T.Meaning → ℕ → T.Meaning
logarithm y w = T.choose (T.equal Case (T.reduce Xor y) (T.literal (X ∷ []))) (T.literal (unknown 32)) (steps_from y w w 0)

-- a choice by a condition that is 1 or 0
definite : (b : Bool) (t : Bit4) (p q : List Bit4) → t ≡ bit_of b → T.chosen t p q ≡ cond b p q
definite true t p q h = ap (λ c. T.chosen c p q) h
definite false t p q h = ap (λ c. T.chosen c p q) h

pick-bits : (b : Bool) (p q : List Bit4) (n : ℕ) → length p ≡ n → length q ≡ n → length (cond b p q) ≡ n
pick-bits true p q n h g = h
pick-bits false p q n h g = g

choose-bits : (on m k : T.Meaning) (b : Bool) (p q : List Bit4) (sc : Scope) (v : Valuation) → T.truth on sc v ≡ bit_of b → HasBits m p sc v → HasBits k q sc v → length p ≡ length q
    → HasBits (T.choose on m k) (cond b p q) sc v
unfolding T.choose
choose-bits on m k b p q sc v truth h g same =
    let m_width = h.width in
    let k_width = g.width in
    let long = pick-bits b p q (length p) refl (sym same) in
    record {
      width = omega arith;
      unsigned = ap (λ s. s && k.signed) h.unsigned;
      value = λ w s. (λ i. T.chosen (truth i) (h.value w s i) (g.value w s i)) ∙ by b (ext w s p) (ext w s q) ∙ move b w s p q;
    }
  where
    by : (c : Bool) (x y : List Bit4) → T.chosen (bit_of c) x y ≡ cond c x y
    by true x y = refl
    by false x y = refl

    move : (c : Bool) (w : ℕ) (s : Bool) (x y : List Bit4) → cond c (ext w s x) (ext w s y) ≡ ext w s (cond c x y)
    move true w s x y = refl
    move false w s x y = refl

bit-truth : (b : Bool) → truth_of (ext 1 false (bit_of b ∷ [])) ≡ bit_of b
bit-truth true = refl
bit-truth false = refl

-- a comparison with a power of two
power-order : (w k : ℕ) (c : List Bit4) → known c ≡ true → 2 ^ k < 2 ^ w → order_value LessEqual false c (digits w (2 ^ k)) ≡ bit_of (nat_le (num c) (2 ^ k))
power-order w k c knows small =
    (λ i. if knows i && known-digits w (2 ^ k) i then bit_of (int_le (pos (num c)) (pos (num-digits w (2 ^ k) small i))) else X) ∙ ap bit_of (test (num c) (2 ^ k))
  where
    test : (x y : ℕ) → int_le (pos x) (pos y) ≡ nat_le x y
    test x y = grind (arith, nat_tests)

order-truth : (y : T.Meaning) (w k : ℕ) (c : List Bit4) (sc : Scope) (v : Valuation) → HasBits y c sc v → length c ≡ w → known c ≡ true → 2 ^ k < 2 ^ w
    → T.truth (T.order LessEqual y (T.literal (digits w (2 ^ k)))) sc v ≡ bit_of (nat_le (num c) (2 ^ k))
unfolding T.order T.literal
order-truth y w k c sc v h is knows small =
    let long = length-digits w (2 ^ k) in
    let width = h.width in
    let larger : max (y.width sc) (length (digits w (2 ^ k))) ≡ w = omega arith in
    let sign : (y.signed && false) ≡ false = ap (λ b. b && false) h.unsigned in
    (λ i. truth_of (ext 1 false (order_value LessEqual (sign i) (y.value (larger i) (sign i) sc v) (ext (larger i) (sign i) (digits w (2 ^ k))) ∷ [])))
    ∙ (λ i. truth_of (ext 1 false (order_value LessEqual false ((h.value w false ∙ ext-at w false c is) i) (ext-at w false (digits w (2 ^ k)) long i) ∷ [])))
    ∙ ap (λ b. truth_of (ext 1 false (b ∷ []))) (power-order w k c knows small)
    ∙ bit-truth (nat_le (num c) (2 ^ k))

log-next : (n k x : ℕ) → cond (nat_le x (2 ^ k)) (vec 32 (pos k)) (vec 32 (pos (log_from n (suc k) x))) ≡ vec 32 (pos (log_from (suc n) k x))
log-next n k x = by (nat_le x (2 ^ k)) refl
  where
    by : (b : Bool) → nat_le x (2 ^ k) ≡ b → cond (nat_le x (2 ^ k)) (vec 32 (pos k)) (vec 32 (pos (log_from n (suc k) x))) ≡ vec 32 (pos (log_from (suc n) k x))
    by true h = ap (λ b. cond b (vec 32 (pos k)) (vec 32 (pos (log_from n (suc k) x)))) h ∙ sym (ap (λ b. vec 32 (pos (cond b k (log_from n (suc k) x)))) h)
    by false h = ap (λ b. cond b (vec 32 (pos k)) (vec 32 (pos (log_from n (suc k) x)))) h ∙ sym (ap (λ b. vec 32 (pos (cond b k (log_from n (suc k) x)))) h)

steps-bits : (y : T.Meaning) (w n k : ℕ) (c : List Bit4) (sc : Scope) (v : Valuation) → HasBits y c sc v → length c ≡ w → known c ≡ true → n + k ≤ w
    → HasBits (steps_from y w n k) (vec 32 (pos (log_from n k (num c)))) sc v
steps-bits y w zero k c sc v h is knows few = literal-bits (vec 32 (pos k)) sc v
steps-bits y w (suc n) k c sc v h is knows few =
    let less : k < w = omega arith in
    let rest = steps-bits y w n (suc k) c sc v h is knows (omega arith) in
    subst (λ u. HasBits (steps_from y w (suc n) k) u sc v) (log-next n k (num c))
    (choose-bits (T.order LessEqual y (T.literal (digits w (2 ^ k)))) (T.literal (vec 32 (pos k))) (steps_from y w n (suc k)) (nat_le (num c) (2 ^ k)) (vec 32 (pos k)) (vec 32 (pos (log_from n (suc k) (num c)))) sc v
    (order-truth y w k c sc v h is knows (pow-lt less)) (literal-bits (vec 32 (pos k)) sc v) rest
    (length-vec 32 (pos k) ∙ sym (length-vec 32 (pos (log_from n (suc k) (num c))))))

-- the parity of what isn't known is x
parity-lost : (v : List Bit4) → fold xor4 X v ≡ X
parity-lost [] = refl
parity-lost (b ∷ v) = parity-lost v

parity-is : (b : Bool) (v : List Bit4) → equality Case (fold xor4 (bit_of b) v ∷ []) (X ∷ []) ≡ bit_of (not (known v))
parity-is true [] = refl
parity-is false [] = refl
parity-is true (Zero ∷ v) = parity-is true v
parity-is false (Zero ∷ v) = parity-is false v
parity-is true (One ∷ v) = parity-is false v
parity-is false (One ∷ v) = parity-is true v
parity-is true (X ∷ v) = ap (λ b. equality Case (b ∷ []) (X ∷ [])) (parity-lost v)
parity-is false (X ∷ v) = ap (λ b. equality Case (b ∷ []) (X ∷ [])) (parity-lost v)
parity-is true (Z ∷ v) = ap (λ b. equality Case (b ∷ []) (X ∷ [])) (parity-lost v)
parity-is false (Z ∷ v) = ap (λ b. equality Case (b ∷ []) (X ∷ [])) (parity-lost v)

lost-truth : (y : T.Meaning) (c : List Bit4) (sc : Scope) (v : Valuation) → HasBits y c sc v → T.truth (T.equal Case (T.reduce Xor y) (T.literal (X ∷ []))) sc v ≡ bit_of (not (known c))
unfolding T.equal T.reduce T.literal
lost-truth y c sc v h =
    let own = bits-alone y c sc v h in
    (λ i. truth_of (ext 1 false (equality Case (ext 1 false (parity4 (own i) ∷ [])) (ext 1 false (X ∷ [])) ∷ [])))
    ∙ (λ i. truth_of (ext 1 false (equality Case (ext-at 1 false (parity4 c ∷ []) refl i) (ext-at 1 false (X ∷ []) refl i) ∷ [])))
    ∙ ap (λ b. truth_of (ext 1 false (b ∷ []))) (parity-is false c) ∙ bit-truth (not (known c))

-- the width and the sign of the comparisons, whatever the operand is
steps-shape : (y : T.Meaning) (w n k : ℕ) (sc : Scope) (v : Valuation) → ((steps_from y w n k).width sc ≡ 32) × ((steps_from y w n k).signed ≡ false)
unfolding T.choose T.literal
steps-shape y w zero k sc v = (length-vec 32 (pos k), refl)
steps-shape y w (suc n) k sc v = (let rest = steps-shape y w n (suc k) sc v in let one = length-vec 32 (pos k) in let more = rest.0 in (omega arith, refl))

first-bits : (on m k : T.Meaning) (p : List Bit4) (sc : Scope) (v : Valuation) → T.truth on sc v ≡ One → HasBits m p sc v → k.width sc ≡ 32 → k.signed ≡ false → length p ≡ 32
    → HasBits (T.choose on m k) p sc v
unfolding T.choose
first-bits on m k p sc v truth h wide plain long =
    let width = h.width in
    record {
      width = omega arith;
      unsigned = ap (λ s. s && k.signed) h.unsigned;
      value = λ w s. ap (λ t. T.chosen t (m.value w s sc v) (k.value w s sc v)) truth ∙ h.value w s;
    }

braced-has : (e : S.Meaning) (a : Around) (m : T.Meaning) (sc : Scope) (v : Valuation) → SameAlone e a m sc v → length (S.alone e a) ≡ S.wide e → HasBits (T.concatenation (m ∷ [])) (S.alone e a) sc v
unfolding T.concatenation
braced-has e a m sc v h long =
    let width = alone-width e a m sc v h in
    record { width = omega arith; unsigned = refl; value = λ w s. ap (ext w s) (alone-value e a m sc v h) }

length-clog2 : (c : List Bit4) → length (clog2_of c) ≡ 32
length-clog2 c = by (known c)
  where
    by : (b : Bool) → length (cond b (vec 32 (pos (log_from (length c) 0 (num c)))) (unknown 32)) ≡ 32
    by true = length-vec 32 (pos (log_from (length c) 0 (num c)))
    by false = length-unknown 32

logarithm-bits : (y : T.Meaning) (w : ℕ) (c : List Bit4) (sc : Scope) (v : Valuation) → HasBits y c sc v → length c ≡ w → HasBits (logarithm y w) (clog2_of c) sc v
logarithm-bits y w c sc v h is = by (known c) refl
  where
    lit : HasBits (T.literal (unknown 32)) (unknown 32) sc v
    lit = literal-bits (unknown 32) sc v

    same-length : (q : List Bit4) → length q ≡ 32 → length (unknown 32) ≡ length q
    same-length q long = length-unknown 32 ∙ sym long

    by : (b : Bool) → known c ≡ b → HasBits (logarithm y w) (clog2_of c) sc v
    by true k =
        let all = steps-bits y w w 0 c sc v h is k (omega arith) in
        let truth = lost-truth y c sc v h ∙ ap (λ b. bit_of (not b)) k in
        subst (λ u. HasBits (logarithm y w) u sc v) (ap (λ n. vec 32 (pos (log_from n 0 (num c)))) (sym is) ∙ sym (ap (λ b. cond b (vec 32 (pos (log_from (length c) 0 (num c)))) (unknown 32)) k))
        (choose-bits (T.equal Case (T.reduce Xor y) (T.literal (X ∷ []))) (T.literal (unknown 32)) (steps_from y w w 0) false (unknown 32) (vec 32 (pos (log_from w 0 (num c)))) sc v truth lit all
        (same-length (vec 32 (pos (log_from w 0 (num c)))) (length-vec 32 (pos (log_from w 0 (num c))))))
    by false k =
        let truth = lost-truth y c sc v h ∙ ap (λ b. bit_of (not b)) k in
        let all = steps-shape y w w 0 sc v in
        subst (λ u. HasBits (logarithm y w) u sc v) (sym (ap (λ b. cond b (vec 32 (pos (log_from (length c) 0 (num c)))) (unknown 32)) k))
        (first-bits (T.equal Case (T.reduce Xor y) (T.literal (X ∷ []))) (T.literal (unknown 32)) (steps_from y w w 0) (unknown 32) sc v truth lit all.0 all.1 (length-unknown 32))

-- `$clog2` of an operand that is lowered alone; in braces it is unsigned
pub clog2-same : (of : Layout) (at : ℕ) (e : S.Meaning) (w : ℕ) (s : Bool) (a : Around) (m : T.Meaning) (sc : Scope) (v : Valuation)
    → (O.clog2 of at e).misfits ≡ 0 → SameAlone e a m sc v → length (S.alone e a) ≡ S.wide e
    → Same (O.clog2 of at e) w s a (T.signing (S.signed (O.clog2 of at e)) (logarithm (T.concatenation (m ∷ [])) (S.wide e))) sc v
unfolding O.clog2
clog2-same of at e w s a m sc v fits h long =
    let t = typed-four of 32 true _ _ fits in
    let width = t.width in
    let braced = braced-has e a m sc v h long in
    let all = logarithm-bits (T.concatenation (m ∷ [])) (S.wide e) (S.alone e a) sc v braced long in
    let size = length-clog2 (S.alone e a) in
    signed-same (O.clog2 of at e) (clog2_of (S.alone e a)) w s a (logarithm (T.concatenation (m ∷ [])) (S.wide e)) sc v all (omega arith) (omega arith) refl
