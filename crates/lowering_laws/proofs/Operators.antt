-- Operators stand for operators.
use Rattle.std.proofs.Common.{◌≡◌, ℕ, max, Bool, true, false, List, [], ◌∷◌, refl, arith, sym, ◌∙◌, ap}
use Rattle.std.specs.Prelude.{◌&&◌}
use Rattle.b4_core.specs.declared.bit.Bit4.{Bit4}
use Rattle.b4_core.specs.declared.bit.Bit4.TheVariants.{Zero, One, X, Z}
use Rattle.b4_core.specs.declared.operators.UnOp.{UnOp}
use Rattle.b4_core.specs.declared.operators.BinOp.{BinOp}
use Rattle.b4_core.specs.declared.operators.RedOp.{RedOp}
use Rattle.b4_core.specs.declared.operators.ShiftOp.{ShiftOp}
use Rattle.b4_core.specs.declared.operators.OrdOp.{OrdOp}
use Rattle.b4_core.specs.declared.operators.EqOp.{EqOp}
use Rattle.b4_core.specs.Bits.{and4, or4, not4}
use Rattle.b4_core.specs.Vectors.{ext}
use Rattle.b4_core.specs.Bitwise.{truth_of}
use Rattle.b4_core.specs.Unary.{unary_value}
use Rattle.b4_core.specs.Binary.{binary_value}
use Rattle.b4_core.specs.Shift.{shift_value}
use Rattle.b4_core.specs.Power.{power_value}
use Rattle.b4_core.specs.Reduce.{reduction}
use Rattle.b4_core.specs.Compare.{order_value, equality}
use Rattle.row_machine.specs.Valuation.{Valuation}
use Rattle.sv_types.specs.Layouts.{Layout}
use Rattle.sv_types.specs.Surroundings.{Around}
use Rattle.sv_types.specs.Meanings as S
use Rattle.sv_types.specs.Operators as O
use Rattle.v_meaning.specs.Scopes.{Scope}
use Rattle.v_meaning.specs.Values as T
use Rattle.lowering_laws.specs.Same.{Same, SameAlone}
use Rattle.lowering_laws.proofs.Contexts.{typed, typed-four, alone-value, larger-width}

pub unary-same : (of : Layout) (at : ℕ) (op : UnOp) (e : S.Meaning) (w : ℕ) (s : Bool) (a : Around) (m : T.Meaning) (sc : Scope) (v : Valuation)
    → (O.unary of at op e).misfits ≡ 0 → Same e w s a m sc v → Same (O.unary of at op e) w s a (T.unary op m) sc v
unfolding O.unary T.unary
unary-same of at op e w s a m sc v fits h =
    let t = typed-four of (S.wide e) (S.signed e) _ _ fits in
    let width = t.width in
    let least = h.least in
    let most = h.most in
    record {
      least = omega arith;
      most = omega arith;
      sign = h.sign ∙ sym t.sign;
      value = ap (unary_value op) h.value;
    }

pub binary-same : (of : Layout) (at : ℕ) (op : BinOp) (l r : S.Meaning) (w : ℕ) (s : Bool) (a : Around) (m n : T.Meaning) (sc : Scope) (v : Valuation)
    → (O.binary of at op l r).misfits ≡ 0 → Same l w s a m sc v → Same r w s a n sc v → Same (O.binary of at op l r) w s a (T.binary op m n) sc v
unfolding O.binary T.binary
binary-same of at op l r w s a m n sc v fits h g =
    let t = typed-four of (max (S.wide l) (S.wide r)) (S.signed l && S.signed r) _ _ fits in
    let width = t.width in
    let l0 = h.least in
    let l1 = h.most in
    let r0 = g.least in
    let r1 = g.most in
    record {
      least = omega arith;
      most = omega arith;
      sign = (λ i. h.sign i && g.sign i) ∙ sym t.sign;
      value = λ i. binary_value op s (h.value i) (g.value i);
    }

pub shift-same : (of : Layout) (at : ℕ) (op : ShiftOp) (l r : S.Meaning) (w : ℕ) (s : Bool) (a : Around) (m n : T.Meaning) (sc : Scope) (v : Valuation)
    → (O.shift of at op l r).misfits ≡ 0 → Same l w s a m sc v → SameAlone r a n sc v → Same (O.shift of at op l r) w s a (T.shift op m n) sc v
unfolding O.shift T.shift
shift-same of at op l r w s a m n sc v fits h g =
    let t = typed-four of (S.wide l) (S.signed l) _ _ fits in
    let width = t.width in
    let least = h.least in
    let most = h.most in
    record {
      least = omega arith;
      most = omega arith;
      sign = h.sign ∙ sym t.sign;
      value = λ i. shift_value op s (h.value i) (alone-value r a n sc v g i);
    }

pub power-same : (of : Layout) (at : ℕ) (l r : S.Meaning) (w : ℕ) (s : Bool) (a : Around) (m n : T.Meaning) (sc : Scope) (v : Valuation)
    → (O.power of at l r).misfits ≡ 0 → Same l w s a m sc v → SameAlone r a n sc v → Same (O.power of at l r) w s a (T.power m n) sc v
unfolding O.power T.power
power-same of at l r w s a m n sc v fits h g =
    let t = typed-four of (S.wide l) (S.signed l) _ _ fits in
    let width = t.width in
    let least = h.least in
    let most = h.most in
    record {
      least = omega arith;
      most = omega arith;
      sign = h.sign ∙ sym t.sign;
      value = λ i. power_value s (g.sign i) (h.value i) (alone-value r a n sc v g i);
    }

-- what gives one bit
module _ (of : Layout) (at : ℕ) (own : ℕ → ℕ) (operands : List S.Operand) (b : Around → Bit4) (targets : List T.Meaning) (c : Scope → Valuation → Bit4) where
  pub bit-same : (w : ℕ) (s : Bool) (a : Around) (sc : Scope) (v : Valuation) → (O.one_bit of at own operands b).misfits ≡ 0 → c sc v ≡ b a
      → Same (O.one_bit of at own operands b) w s a (T.one_bit targets c) sc v
  bit-same w s a sc v fits is =
      let t = typed-four of 1 false _ _ fits in
      let width = t.width in
      record {
        least = omega arith;
        most = omega arith;
        sign = sym t.sign;
        value = ap (λ x. ext w s (x ∷ [])) is;
      }

pub truth-same : (e : S.Meaning) (a : Around) (m : T.Meaning) (sc : Scope) (v : Valuation) → SameAlone e a m sc v → T.truth m sc v ≡ O.truth e a
truth-same e a m sc v h = ap truth_of (alone-value e a m sc v h)

pub reduce-same : (of : Layout) (at : ℕ) (op : RedOp) (e : S.Meaning) (w : ℕ) (s : Bool) (a : Around) (m : T.Meaning) (sc : Scope) (v : Valuation)
    → (O.reduce of at op e).misfits ≡ 0 → SameAlone e a m sc v → Same (O.reduce of at op e) w s a (T.reduce op m) sc v
unfolding O.reduce T.reduce
reduce-same of at op e w s a m sc v fits h = bit-same of at _ (S.by_itself e ∷ []) _ (m ∷ []) _ w s a sc v fits (ap (reduction op) (alone-value e a m sc v h))

pub negate-same : (of : Layout) (at : ℕ) (e : S.Meaning) (w : ℕ) (s : Bool) (a : Around) (m : T.Meaning) (sc : Scope) (v : Valuation)
    → (O.negate of at e).misfits ≡ 0 → SameAlone e a m sc v → Same (O.negate of at e) w s a (T.negate m) sc v
unfolding O.negate T.negate
negate-same of at e w s a m sc v fits h = bit-same of at _ (S.by_itself e ∷ []) _ (m ∷ []) _ w s a sc v fits (ap not4 (truth-same e a m sc v h))

pub both-same : (of : Layout) (at : ℕ) (l r : S.Meaning) (w : ℕ) (s : Bool) (a : Around) (m n : T.Meaning) (sc : Scope) (v : Valuation)
    → (O.both of at l r).misfits ≡ 0 → SameAlone l a m sc v → SameAlone r a n sc v → Same (O.both of at l r) w s a (T.both m n) sc v
unfolding O.both T.both
both-same of at l r w s a m n sc v fits h g = bit-same of at _ (S.by_itself l ∷ S.by_itself r ∷ []) _ (m ∷ n ∷ []) _ w s a sc v fits (λ i. and4 (truth-same l a m sc v h i) (truth-same r a n sc v g i))

pub either-same : (of : Layout) (at : ℕ) (l r : S.Meaning) (w : ℕ) (s : Bool) (a : Around) (m n : T.Meaning) (sc : Scope) (v : Valuation)
    → (O.either of at l r).misfits ≡ 0 → SameAlone l a m sc v → SameAlone r a n sc v → Same (O.either of at l r) w s a (T.either m n) sc v
unfolding O.either T.either
either-same of at l r w s a m n sc v fits h g = bit-same of at _ (S.by_itself l ∷ S.by_itself r ∷ []) _ (m ∷ n ∷ []) _ w s a sc v fits (λ i. or4 (truth-same l a m sc v h i) (truth-same r a n sc v g i))

-- comparisons: both operands are lowered at the larger of their widths, with a sign only if both have one
abbrev pub SameCompared : S.Meaning → S.Meaning → S.Meaning → Around → T.Meaning → Scope → Valuation → Type 0
SameCompared l r e a m sc v = Same e (O.both_wide l r) (O.both_signed l r) a m sc v

pub compared-value : (l r e : S.Meaning) (a : Around) (m n k : T.Meaning) (sc : Scope) (v : Valuation)
    → SameCompared l r l a m sc v → SameCompared l r r a n sc v → SameCompared l r e a k sc v
    → k.value (T.larger m n sc) (m.signed && n.signed) sc v ≡ e.value (O.both_wide l r) (O.both_signed l r) a
compared-value l r e a m n k sc v h g f =
    (λ i. k.value (larger-width l r (O.both_signed l r) a m n sc v h g i) (h.sign i && g.sign i) sc v) ∙ f.value

pub order-same : (of : Layout) (at : ℕ) (op : OrdOp) (l r : S.Meaning) (w : ℕ) (s : Bool) (a : Around) (m n : T.Meaning) (sc : Scope) (v : Valuation)
    → (O.order of at op l r).misfits ≡ 0 → SameCompared l r l a m sc v → SameCompared l r r a n sc v → Same (O.order of at op l r) w s a (T.order op m n) sc v
unfolding O.order T.order
order-same of at op l r w s a m n sc v fits h g =
    bit-same of at _ (O.compared l r) _ (m ∷ n ∷ []) _ w s a sc v fits
    (λ i. order_value op (h.sign i && g.sign i) (compared-value l r l a m n m sc v h g h i) (compared-value l r r a m n n sc v h g g i))

equals-same : (op : EqOp) (l r : S.Meaning) (a : Around) (m n : T.Meaning) (sc : Scope) (v : Valuation)
    → SameCompared l r l a m sc v → SameCompared l r r a n sc v → T.compared op m n sc v ≡ O.equals op l r a
equals-same op l r a m n sc v h g = λ i. equality op (compared-value l r l a m n m sc v h g h i) (compared-value l r r a m n n sc v h g g i)

pub equal-same : (of : Layout) (at : ℕ) (op : EqOp) (l r : S.Meaning) (w : ℕ) (s : Bool) (a : Around) (m n : T.Meaning) (sc : Scope) (v : Valuation)
    → (O.equal of at op false l r).misfits ≡ 0 → SameCompared l r l a m sc v → SameCompared l r r a n sc v
    → Same (O.equal of at op false l r) w s a (T.equal op m n) sc v
unfolding O.equal T.equal
equal-same of at op l r w s a m n sc v fits h g = bit-same of at _ (O.compared l r) _ (m ∷ n ∷ []) _ w s a sc v fits (equals-same op l r a m n sc v h g)

pub unequal-same : (of : Layout) (at : ℕ) (op : EqOp) (l r : S.Meaning) (w : ℕ) (s : Bool) (a : Around) (m n : T.Meaning) (sc : Scope) (v : Valuation)
    → (O.equal of at op true l r).misfits ≡ 0 → SameCompared l r l a m sc v → SameCompared l r r a n sc v
    → Same (O.equal of at op true l r) w s a (T.unequal op m n) sc v
unfolding O.equal T.unequal
unequal-same of at op l r w s a m n sc v fits h g = bit-same of at _ (O.compared l r) _ (m ∷ n ∷ []) _ w s a sc v fits (ap not4 (equals-same op l r a m n sc v h g))

-- `?:`
chosen-same : (b : Bit4) (x y : List Bit4) → T.chosen b x y ≡ O.chosen b x y
chosen-same One x y = refl
chosen-same Zero x y = refl
chosen-same X x y = refl
chosen-same Z x y = refl

pub choose-same : (of : Layout) (at : ℕ) (on l r : S.Meaning) (w : ℕ) (s : Bool) (a : Around) (k m n : T.Meaning) (sc : Scope) (v : Valuation)
    → (O.choose of at on l r).misfits ≡ 0 → SameAlone on a k sc v → Same l w s a m sc v → Same r w s a n sc v
    → Same (O.choose of at on l r) w s a (T.choose k m n) sc v
unfolding O.choose T.choose
choose-same of at on l r w s a k m n sc v fits f h g =
    let t = typed of (max (S.wide l) (S.wide r)) (S.signed l && S.signed r) _ fits in
    let width = t.width in
    let l0 = h.least in
    let l1 = h.most in
    let r0 = g.least in
    let r1 = g.most in
    record {
      least = omega arith;
      most = omega arith;
      sign = (λ i. h.sign i && g.sign i) ∙ sym t.sign;
      value = chosen-same (T.truth k sc v) (m.value w s sc v) (n.value w s sc v) ∙ (λ i. O.chosen (truth-same on a k sc v f i) (h.value i) (g.value i));
    }
