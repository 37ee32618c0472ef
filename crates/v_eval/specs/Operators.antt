-- What operators mean, by kinds, and at what their operands are valued (IEEE 1364-2005 table 5-22).
use Rattle.std.specs.Prelude.{◌≡◌, ⊤, ℕ, max, Bool, true, false, ◌&&◌, List, [], ◌∷◌}
use Rattle.b4_core.specs.declared.bit.Bit4.{Bit4}
use Rattle.b4_core.specs.declared.bit.Bit4.TheVariants.{X}
use Rattle.b4_core.specs.declared.operators.UnOp.{UnOp}
use Rattle.b4_core.specs.declared.operators.UnOp.TheVariants as U
use Rattle.b4_core.specs.declared.operators.BinOp.{BinOp}
use Rattle.b4_core.specs.declared.operators.BinOp.TheVariants as B
use Rattle.b4_core.specs.declared.operators.EqOp.{EqOp}
use Rattle.b4_core.specs.declared.operators.EqOp.TheVariants as E
use Rattle.b4_core.specs.declared.operators.RedOp.TheVariants as R
use Rattle.b4_core.specs.declared.operators.ShiftOp.TheVariants as S
use Rattle.b4_core.specs.declared.operators.OrdOp.TheVariants as O
use Rattle.v_tree.specs.declared.operators.VBinaryOp.{VBinaryOp}
use Rattle.v_tree.specs.declared.operators.VBinaryOp.TheVariants as Y
use Rattle.v_tree.specs.declared.operators.VUnaryOp.{VUnaryOp}
use Rattle.v_tree.specs.declared.operators.VUnaryOp.TheVariants as W
use Rattle.b4_core.specs.Bits.{and4, or4, not4}
use Rattle.b4_core.specs.Vectors.{ext}
use Rattle.b4_core.specs.Bitwise.{truth_of}
use Rattle.b4_core.specs.Unary.{unary_value}
use Rattle.b4_core.specs.Binary.{binary_value}
use Rattle.b4_core.specs.Shift.{shift_value}
use Rattle.b4_core.specs.Power.{power_value}
use Rattle.b4_core.specs.Reduce.{reduction}
use Rattle.b4_core.specs.Compare.{order_value, equality}
use Rattle.v_meaning.specs.Values as V
use Rattle.v_meaning.specs.Values.{Meaning}
use Rattle.v_eval.specs.declared.operators.Context.{Context}
use Rattle.v_eval.specs.declared.operators.Prefix.{Prefix}
use Rattle.v_eval.specs.declared.operators.Prefix.TheVariants as P
use Rattle.v_eval.specs.declared.operators.Infix.{Infix}
use Rattle.v_eval.specs.declared.operators.Infix.TheVariants as I

-- what an operator does
abbrev pub prefix_of : VUnaryOp → Prefix
prefix_of W.Not = P.Vector U.Not
prefix_of W.LogicalNot = P.Negation
prefix_of W.Neg = P.Vector U.Neg
prefix_of W.And = P.Reduction R.And
prefix_of W.Nand = P.Reduction R.Nand
prefix_of W.Or = P.Reduction R.Or
prefix_of W.Nor = P.Reduction R.Nor
prefix_of W.Xor = P.Reduction R.Xor
prefix_of W.Xnor = P.Reduction R.Xnor

abbrev pub infix_of : VBinaryOp → Infix
infix_of Y.Add = I.Vector B.Add
infix_of Y.Sub = I.Vector B.Sub
infix_of Y.Mul = I.Vector B.Mul
infix_of Y.Div = I.Vector B.Div
infix_of Y.Rem = I.Vector B.Rem
infix_of Y.Power = I.Power
infix_of Y.ShiftLeft = I.Shift S.Left
infix_of Y.ShiftRight = I.Shift S.Right
infix_of Y.ArithmeticLeft = I.Shift S.Left
infix_of Y.ArithmeticRight = I.Shift S.Arith
infix_of Y.Less = I.Order O.Less
infix_of Y.LessEqual = I.Order O.LessEqual
infix_of Y.Greater = I.Order O.Greater
infix_of Y.GreaterEqual = I.Order O.GreaterEqual
infix_of Y.Equal = I.Equality E.Logic false
infix_of Y.NotEqual = I.Equality E.Logic true
infix_of Y.CaseEqual = I.Equality E.Case false
infix_of Y.CaseNotEqual = I.Equality E.Case true
infix_of Y.And = I.Vector B.And
infix_of Y.Or = I.Vector B.Or
infix_of Y.Xor = I.Vector B.Xor
infix_of Y.Xnor = I.Vector B.Xnor
infix_of Y.LogicalAnd = I.Both
infix_of Y.LogicalOr = I.Either

abbrev pub prefix_meaning : Prefix → Meaning → Meaning
prefix_meaning (P.Vector op) = V.unary op
prefix_meaning (P.Reduction op) = V.reduce op
prefix_meaning P.Negation = V.negate

abbrev pub equality_meaning : Bool → EqOp → Meaning → Meaning → Meaning
equality_meaning false op = V.equal op
equality_meaning true op = V.unequal op

abbrev pub infix_meaning : Infix → Meaning → Meaning → Meaning
infix_meaning (I.Vector op) = V.binary op
infix_meaning (I.Shift op) = V.shift op
infix_meaning I.Power = V.power
infix_meaning (I.Order op) = V.order op
infix_meaning (I.Equality op negated) = equality_meaning negated op
infix_meaning I.Both = V.both
infix_meaning I.Either = V.either

-- one unsigned bit
abbrev pub single : Context
single = record { width = 1; signed = false }

-- an operand before which an operator stands
abbrev pub prefix_own : Prefix → Context → Context
prefix_own (P.Vector op) a = a
prefix_own (P.Reduction op) a = single
prefix_own P.Negation a = single

abbrev pub prefix_context : Prefix → Context → Context → Context
prefix_context (P.Vector op) at a = at
prefix_context (P.Reduction op) at a = a
prefix_context P.Negation at a = a

abbrev pub in_context : Context → Bit4 → List Bit4
in_context at b = ext at.width at.signed (b ∷ [])

abbrev pub prefix_value : Prefix → Context → List Bit4 → List Bit4
prefix_value (P.Vector op) at v = unary_value op v
prefix_value (P.Reduction op) at v = in_context at (reduction op v)
prefix_value P.Negation at v = in_context at (not4 (truth_of v))

-- on how many bits it does arithmetic
abbrev pub unary_most : UnOp → ℕ → ℕ
unary_most U.Not w = 0
unary_most U.Neg w = w

abbrev pub prefix_most : Prefix → ℕ → ℕ
prefix_most (P.Vector op) w = unary_most op w
prefix_most (P.Reduction op) w = 0
prefix_most P.Negation w = 0

-- both operands at the larger width, and signed where both are
abbrev pub larger : Context → Context → Context
larger l r = record { width = max l.width r.width; signed = l.signed && r.signed }

abbrev pub infix_own : Infix → Context → Context → Context
infix_own (I.Vector op) l r = larger l r
infix_own (I.Shift op) l r = l
infix_own I.Power l r = l
infix_own (I.Order op) l r = single
infix_own (I.Equality op negated) l r = single
infix_own I.Both l r = single
infix_own I.Either l r = single

abbrev pub left_context : Infix → Context → Context → Context → Context
left_context (I.Vector op) at l r = at
left_context (I.Shift op) at l r = at
left_context I.Power at l r = at
left_context (I.Order op) at l r = larger l r
left_context (I.Equality op negated) at l r = larger l r
left_context I.Both at l r = l
left_context I.Either at l r = l

abbrev pub right_context : Infix → Context → Context → Context → Context
right_context (I.Vector op) at l r = at
right_context (I.Shift op) at l r = r
right_context I.Power at l r = r
right_context (I.Order op) at l r = larger l r
right_context (I.Equality op negated) at l r = larger l r
right_context I.Both at l r = r
right_context I.Either at l r = r

abbrev pub negated_if : Bool → Bit4 → Bit4
negated_if true b = not4 b
negated_if false b = b

-- the bit that a comparison or a logical operator gives
abbrev pub infix_bit : Infix → Context → Context → List Bit4 → List Bit4 → Bit4
infix_bit (I.Vector op) l r a b = X
infix_bit (I.Shift op) l r a b = X
infix_bit I.Power l r a b = X
infix_bit (I.Order op) l r a b = order_value op (l.signed && r.signed) a b
infix_bit (I.Equality op negated) l r a b = negated_if negated (equality op a b)
infix_bit I.Both l r a b = and4 (truth_of a) (truth_of b)
infix_bit I.Either l r a b = or4 (truth_of a) (truth_of b)

abbrev pub infix_value : Infix → Context → Context → Context → List Bit4 → List Bit4 → List Bit4
infix_value (I.Vector op) at l r a b = binary_value op at.signed a b
infix_value (I.Shift op) at l r a b = shift_value op at.signed a b
infix_value I.Power at l r a b = power_value at.signed r.signed a b
infix_value (I.Order op) at l r a b = in_context at (order_value op (l.signed && r.signed) a b)
infix_value (I.Equality op negated) at l r a b = in_context at (negated_if negated (equality op a b))
infix_value I.Both at l r a b = in_context at (and4 (truth_of a) (truth_of b))
infix_value I.Either at l r a b = in_context at (or4 (truth_of a) (truth_of b))

-- where both operands have one length
abbrev pub Alike : Infix → ℕ → ℕ → Type 0
Alike (I.Vector op) m n = m ≡ n
Alike (I.Shift op) m n = ⊤
Alike I.Power m n = ⊤
Alike (I.Order op) m n = m ≡ n
Alike (I.Equality op negated) m n = m ≡ n
Alike I.Both m n = ⊤
Alike I.Either m n = ⊤

-- on how many bits it does arithmetic or compares by order
abbrev pub binary_most : BinOp → ℕ → ℕ
binary_most B.And w = 0
binary_most B.Or w = 0
binary_most B.Xor w = 0
binary_most B.Xnor w = 0
binary_most B.Add w = w
binary_most B.Sub w = w
binary_most B.Mul w = w
binary_most B.Div w = w
binary_most B.Rem w = w

abbrev pub infix_most : Infix → ℕ → ℕ → ℕ
infix_most (I.Vector op) m n = binary_most op m
infix_most (I.Shift op) m n = 0
infix_most I.Power m n = max m n
infix_most (I.Order op) m n = m
infix_most (I.Equality op negated) m n = 0
infix_most I.Both m n = 0
infix_most I.Either m n = 0

-- the widths alone, and those at which operands are valued
abbrev pub prefix_width : Prefix → ℕ → ℕ
prefix_width (P.Vector op) a = a
prefix_width (P.Reduction op) a = 1
prefix_width P.Negation a = 1

abbrev pub operand_width : Prefix → ℕ → ℕ → ℕ
operand_width (P.Vector op) w a = w
operand_width (P.Reduction op) w a = a
operand_width P.Negation w a = a

abbrev pub infix_width : Infix → ℕ → ℕ → ℕ
infix_width (I.Vector op) l r = max l r
infix_width (I.Shift op) l r = l
infix_width I.Power l r = l
infix_width (I.Order op) l r = 1
infix_width (I.Equality op negated) l r = 1
infix_width I.Both l r = 1
infix_width I.Either l r = 1

abbrev pub left_width : Infix → ℕ → ℕ → ℕ → ℕ
left_width (I.Vector op) w l r = w
left_width (I.Shift op) w l r = w
left_width I.Power w l r = w
left_width (I.Order op) w l r = max l r
left_width (I.Equality op negated) w l r = max l r
left_width I.Both w l r = l
left_width I.Either w l r = l

abbrev pub right_width : Infix → ℕ → ℕ → ℕ → ℕ
right_width (I.Vector op) w l r = w
right_width (I.Shift op) w l r = r
right_width I.Power w l r = r
right_width (I.Order op) w l r = max l r
right_width (I.Equality op negated) w l r = max l r
right_width I.Both w l r = r
right_width I.Either w l r = r
