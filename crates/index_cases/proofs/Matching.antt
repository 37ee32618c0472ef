-- The condition that a lowered index has some bits, and the bits of a number.
use Rattle.std.proofs.Common.{◌≡◌, inl, inr, ℕ, suc, ◌+◌, ◌-◌, ◌*◌, ◌/◌, ◌%◌, ◌^◌, ◌≤◌, max, ℤ, pos, negsuc, ◌+ℤ◌, Bool, true, false, ◌&&◌, List, [], ◌∷◌, length, cond, Some, None, refl, sym, ap, ◌∙◌, arith, true≢false}
use Rattle.std.proofs.lemmas.Int.{ints}
use Rattle.std.proofs.lemmas.Nat.{pow-add}
use Rattle.b4_core.specs.declared.bit.Bit4.{Bit4}
use Rattle.b4_core.specs.declared.bit.Bit4.TheVariants.{Zero, One, X, Z}
use Rattle.b4_core.specs.declared.operators.EqOp.TheVariants.{Case}
use Rattle.b4_core.specs.Bits.{bit_of, is_one, same4}
use Rattle.b4_core.specs.Bitwise.{same_bits}
use Rattle.b4_core.specs.Compare.{equality}
use Rattle.b4_core.specs.Vectors.{known, num, number, digits, vec}
use Rattle.b4_core.proofs.TwosComplement.{Wraps, number_wraps, vec_is, vec_pos}
use Rattle.row_machine.specs.Valuation.{Valuation}
use Rattle.v_meaning.specs.Scopes.{Scope}
use Rattle.v_meaning.specs.Values as T
use Rattle.lowering_laws.proofs.AnyRank.{braced-bits}
use Rattle.lowering_laws.proofs.Extensions.{ext-at}
use Rattle.lowering_laws.proofs.Offsets.{truth-one, and-cases}
use Rattle.index_cases.specs.Cases.{matching}

-- known bits are those of their number
digits-num : (v : List Bit4) → known v ≡ true → digits (length v) (num v) ≡ v
digits-num [] k = refl
digits-num (Zero ∷ v) k =
    let low : (0 + 2 * num v) % 2 ≡ 0 = omega arith in
    let high : (0 + 2 * num v) / 2 ≡ num v = omega arith in
    rw (low, high) (ap (λ z. Zero ∷ z) (digits-num v k))
digits-num (One ∷ v) k =
    let low : (1 + 2 * num v) % 2 ≡ 1 = omega arith in
    let high : (1 + 2 * num v) / 2 ≡ num v = omega arith in
    rw (low, high) (ap (λ z. One ∷ z) (digits-num v k))
digits-num (X ∷ v) k = absurd (true≢false (sym k))
digits-num (Z ∷ v) k = absurd (true≢false (sym k))

less-whole : (m k p : ℕ) → suc m + p ≡ k → negsuc m +ℤ pos k ≡ pos p
less-whole m k p e = omega (arith, ints)

lowest : (w l p : ℕ) (z : ℤ) → w ≤ l → Wraps l z p → vec w z ≡ digits w p
lowest w l p z h (inl e) = rw e (vec_pos w p)
lowest w l p z h (inr (m, e, f)) =
    let whole : 2 ^ (l - w) * 2 ^ w ≡ 2 ^ l =
    let parts = pow-add 2 (l - w) w in
    let same : l - w + w ≡ l = omega arith in
    sym parts ∙ ap (λ k. 2 ^ k) same in
    rw e (vec_is w (2 ^ (l - w)) p (negsuc m) (less-whole m (2 ^ (l - w) * 2 ^ w) p (f ∙ sym whole)))

pub vec-number : (s : Bool) (v : List Bit4) → known v ≡ true → vec (length v) (number s v) ≡ v
vec-number s v k = lowest (length v) (length v) (num v) (number s v) (omega arith) (number_wraps s v) ∙ digits-num v k

-- an index with a number has its bits
pub bits-of-number : (s : Bool) (u : List Bit4) (w : ℕ) (k : ℤ) → length u ≡ w → cond (known u) (Some (number s u)) None ≡ Some k → vec w k ≡ u
bits-of-number s u w k long is = by (known u) refl is
  where
    none-some : (x : ℤ) → None ≡ Some x → ⊥
    none-some x e = cc

    some-same : (x y : ℤ) → Some x ≡ Some y → x ≡ y
    some-same x y e = cc

    by : (b : Bool) → known u ≡ b → cond b (Some (number s u)) None ≡ Some k → vec w k ≡ u
    by true known_u e = ap (λ n. vec n k) (sym long) ∙ ap (vec (length u)) (sym (some-same (number s u) k e)) ∙ vec-number s u known_u
    by false known_u e = absurd (none-some k e)

-- equal vectors
same-bit : (a b : Bit4) → same4 a b ≡ true → a ≡ b
same-bit Zero Zero h = refl
same-bit Zero One h = absurd (true≢false (sym h))
same-bit Zero X h = absurd (true≢false (sym h))
same-bit Zero Z h = absurd (true≢false (sym h))
same-bit One Zero h = absurd (true≢false (sym h))
same-bit One One h = refl
same-bit One X h = absurd (true≢false (sym h))
same-bit One Z h = absurd (true≢false (sym h))
same-bit X Zero h = absurd (true≢false (sym h))
same-bit X One h = absurd (true≢false (sym h))
same-bit X X h = refl
same-bit X Z h = absurd (true≢false (sym h))
same-bit Z Zero h = absurd (true≢false (sym h))
same-bit Z One h = absurd (true≢false (sym h))
same-bit Z X h = absurd (true≢false (sym h))
same-bit Z Z h = refl

bit-itself : (a : Bit4) → same4 a a ≡ true
bit-itself Zero = refl
bit-itself One = refl
bit-itself X = refl
bit-itself Z = refl

bits-same : (a b : List Bit4) → length a ≡ length b → same_bits a b ≡ true → a ≡ b
bits-same [] [] e h = refl
bits-same [] (y ∷ b) e h = absurd (omega arith)
bits-same (x ∷ a) [] e h = absurd (omega arith)
bits-same (x ∷ a) (y ∷ b) e h =
    let parts = and-cases (same4 x y) (same_bits a b) h in
    λ i. same-bit x y parts.0 i ∷ bits-same a b (omega arith) parts.1 i

bits-itself : (a : List Bit4) → same_bits a a ≡ true
bits-itself [] = refl
bits-itself (x ∷ a) = λ i. bit-itself x i && bits-itself a i

one-of : (b : Bool) → is_one (bit_of b) ≡ b
one-of true = refl
one-of false = refl

-- the condition that something has these bits
literal-width : (bits : List Bit4) (sc : Scope) → (T.literal bits).width sc ≡ length bits
unfolding T.literal
literal-width bits sc = refl

literal-value : (bits : List Bit4) (w : ℕ) (sc : Scope) (v : Valuation) → length bits ≡ w → (T.literal bits).value w false sc v ≡ bits
unfolding T.literal
literal-value bits w sc v long = ext-at w false bits long

equal-truth : (l r : T.Meaning) (sc : Scope) (v : Valuation) → l.signed ≡ false → is_one (T.truth (T.equal Case l r) sc v) ≡ is_one (equality Case (l.value (max (l.width sc) (r.width sc)) false sc v) (r.value (max (l.width sc) (r.width sc)) false sc v))
unfolding T.equal
equal-truth l r sc v unsigned =
    truth-one _
    ∙ (λ i. is_one (equality Case (l.value (max (l.width sc) (r.width sc)) (unsigned i && r.signed) sc v) (r.value (max (l.width sc) (r.width sc)) (unsigned i && r.signed) sc v)))

pub matches : (e : T.Meaning) (u bits : List Bit4) (w : ℕ) (sc : Scope) (v : Valuation) → e.width sc ≡ w → T.alone e sc v ≡ u → length u ≡ w → length bits ≡ w
    → is_one (T.truth (matching e bits) sc v) ≡ same_bits u bits
matches e u bits w sc v width is long size =
    let b = braced-bits e w u sc v width is long in
    let few = literal-width bits sc in
    let b_wide = b.0 in
    let larger : max ((T.concatenation (e ∷ [])).width sc) ((T.literal bits).width sc) ≡ w = omega arith in
    equal-truth (T.concatenation (e ∷ [])) (T.literal bits) sc v b.1
    ∙ (λ i. is_one (equality Case ((T.concatenation (e ∷ [])).value (larger i) false sc v) ((T.literal bits).value (larger i) false sc v)))
    ∙ (λ i. is_one (equality Case (b.2 i) (literal-value bits w sc v size i)))
    ∙ one-of (same_bits u bits)

pub matched : (e : T.Meaning) (u bits : List Bit4) (w : ℕ) (sc : Scope) (v : Valuation) → e.width sc ≡ w → T.alone e sc v ≡ u → length u ≡ w → length bits ≡ w
    → is_one (T.truth (matching e bits) sc v) ≡ true → u ≡ bits
matched e u bits w sc v width is long size h = bits-same u bits (long ∙ sym size) (sym (matches e u bits w sc v width is long size) ∙ h)

pub matches-own : (e : T.Meaning) (u bits : List Bit4) (w : ℕ) (sc : Scope) (v : Valuation) → e.width sc ≡ w → T.alone e sc v ≡ u → length u ≡ w → bits ≡ u
    → is_one (T.truth (matching e bits) sc v) ≡ true
matches-own e u bits w sc v width is long same =
    matches e u bits w sc v width is long (ap length same ∙ long) ∙ ap (same_bits u) same ∙ bits-itself u
