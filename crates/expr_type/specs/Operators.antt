-- Operators (IEEE 1800-2017 clauses 11.4 and 11.6): the width and sign of an operator by table 11-21, and the rules on its
-- operands.
use Rattle.std.specs.Prelude.{ℕ, ◌*◌, max, Bool, true, false, ◌&&◌, ◌||◌, nat_lt, cond, List, [], ◌∷◌, ◌++◌, map, flat_map, Some, None, Ok}
use Rattle.std.specs.List.{list_any}
use Rattle.b4_core.specs.declared.operators.UnOp.TheVariants as U
use Rattle.b4_core.specs.declared.operators.BinOp.{BinOp}
use Rattle.b4_core.specs.declared.operators.BinOp.TheVariants as B
use Rattle.b4_core.specs.declared.operators.RedOp.{RedOp}
use Rattle.b4_core.specs.declared.operators.RedOp.TheVariants as R
use Rattle.b4_core.specs.declared.operators.ShiftOp.{ShiftOp}
use Rattle.b4_core.specs.declared.operators.ShiftOp.TheVariants as S
use Rattle.b4_core.specs.declared.operators.OrdOp.{OrdOp}
use Rattle.b4_core.specs.declared.operators.OrdOp.TheVariants as O
use Rattle.b4_core.specs.declared.operators.EqOp.{EqOp}
use Rattle.b4_core.specs.declared.operators.EqOp.TheVariants as Q
use Rattle.sv_tree.specs.declared.operators.BinaryOperator.{BinaryOperator}
use Rattle.sv_tree.specs.declared.operators.BinaryOperator.TheVariants as N
use Rattle.sv_tree.specs.declared.operators.UnaryOperator.{UnaryOperator}
use Rattle.sv_tree.specs.declared.operators.UnaryOperator.TheVariants as M
use Rattle.sv_types.specs.declared.expression.Choice.{Choice}
use Rattle.sv_types.specs.declared.expression.Choice.TheVariants as C
use Rattle.sv_types.specs.declared.expression.Expr.{Expr}
use Rattle.sv_types.specs.declared.expression.Form.{Form}
use Rattle.sv_types.specs.declared.expression.Form.TheVariants as F
use Rattle.sv_types.specs.declared.types.SvType.{SvType}
use Rattle.sv_types.specs.Layouts.{width_of}
use Rattle.sv_types.specs.Meanings.{most, total}
use Rattle.expr_type.specs.declared.kinds.BinaryKind.{BinaryKind}
use Rattle.expr_type.specs.declared.kinds.BinaryKind.TheVariants as K
use Rattle.expr_type.specs.declared.kinds.UnaryKind.{UnaryKind}
use Rattle.expr_type.specs.declared.kinds.UnaryKind.TheVariants as J
use Rattle.expr_type.specs.declared.operand.Valued.{Valued}
use Rattle.expr_type.specs.Typings.{Checked, refused, unless, at_all}
use Rattle.expr_type.specs.Shapes.{most_bits, most_arithmetic, sign_of, one_bit, vector, is_unpacked, enum_of, is_same_enum}
use Rattle.expr_type.specs.Names.{Source, position, spot}
use Rattle.expr_type.specs.Operands.{too_wide, width}

-- an expression by its first token, its type and its form
abbrev pub expr_at : Source → ℕ → SvType → Form → Expr
expr_at k first of form = record { of = of; spot = spot k first; form = form }

abbrev pub valued : Source → ℕ → SvType → Form → List ℕ → Valued
valued k first of form operators = record { first = first; begins = first; is_unsized = false; expr = expr_at k first of form; arithmetic = operators }

-- an expression whose operands are valued alone
abbrev pub by_itself : Source → ℕ → SvType → Form → Valued
by_itself k first of form = valued k first of form []

-- one whose operands take the context: in one of its own width no arithmetic may be too wide (E502)
abbrev pub in_context : Source → ℕ → SvType → Form → List ℕ → Checked Valued
in_context k first of form operators = unless (at_all k.instance 502 (too_wide (width_of of) operators)) (valued k first of form operators)

-- an operator that does arithmetic
abbrev pub over : ℕ → ℕ → List ℕ
over at w = cond (nat_lt most_arithmetic w) (at ∷ []) []

-- no operand is unpacked (E508)
abbrev pub taking : {A : Type 0} → Source → ℕ → List Valued → Checked A → Checked A
taking k at vs other = refused (list_any (λ (v : Valued). is_unpacked v.expr.of) vs) (position k at) 508 other

abbrev pub is_signed : Valued → Bool
is_signed v = sign_of v.expr.of

abbrev pub both_wide : Valued → Valued → ℕ
both_wide l r = max (width l) (width r)

abbrev pub both_signed : Valued → Valued → Bool
both_signed l r = is_signed l && is_signed r

abbrev pub both_type : Valued → Valued → SvType
both_type l r = vector (both_wide l r) (both_signed l r)

abbrev pub same_type : Valued → SvType
same_type v = vector (width v) (is_signed v)

-- Operators on bits, by numbers, on truth values, and of comparison. Both operands of a comparison have the larger width.
abbrev pub bitwise : BinOp → Source → Valued → Valued → Checked Valued
bitwise op k l r = in_context k l.begins (both_type l r) (F.Binary op l.expr r.expr) (l.arithmetic ++ r.arithmetic)

abbrev pub arithmetic : BinOp → Source → ℕ → Valued → Valued → Checked Valued
arithmetic op k at l r =
    in_context k l.begins (both_type l r) (F.Binary op l.expr r.expr) (l.arithmetic ++ at ∷ r.arithmetic)

abbrev pub logical : (Expr → Expr → Form) → Source → Valued → Valued → Checked Valued
logical form k l r = Ok (by_itself k l.begins one_bit (form l.expr r.expr))

abbrev pub equality : EqOp → Bool → Source → Valued → Valued → Checked Valued
equality op negated k l r =
    let w = both_wide l r in
    unless (at_all k.instance 502 (too_wide w (l.arithmetic ++ r.arithmetic))) (by_itself k l.begins one_bit (F.Equal op negated l.expr r.expr))

abbrev pub order : OrdOp → Source → ℕ → Valued → Valued → Checked Valued
order op k at l r =
    let w = both_wide l r in
    unless (at_all k.instance 502 (too_wide w (l.arithmetic ++ at ∷ r.arithmetic))) (by_itself k l.begins one_bit (F.Order op l.expr r.expr))

-- the right operand of a shift and of a power is valued alone
abbrev pub shift : ShiftOp → Source → Valued → Valued → Checked Valued
shift op k l r = in_context k l.begins (same_type l) (F.Shift op l.expr r.expr) l.arithmetic

abbrev pub power : Source → ℕ → Valued → Valued → Checked Valued
power k at l r =
    unless (at_all k.instance 502 (too_wide (width l) l.arithmetic ++ over at (both_wide l r)))
    (valued k l.begins (same_type l) (F.Power l.expr r.expr) (l.arithmetic ++ at ∷ []))

-- The rows of table 11-21 by which operators between two operands are typed.
abbrev pub binary_kind : BinaryOperator → BinaryKind
binary_kind N.LogicalOr = K.Either
binary_kind N.LogicalAnd = K.Both
binary_kind N.Or = K.Bitwise B.Or
binary_kind N.Xor = K.Bitwise B.Xor
binary_kind N.Xnor = K.Bitwise B.Xnor
binary_kind N.And = K.Bitwise B.And
binary_kind N.Equal = K.Equality Q.Logic false
binary_kind N.NotEqual = K.Equality Q.Logic true
binary_kind N.CaseEqual = K.Equality Q.Case false
binary_kind N.CaseNotEqual = K.Equality Q.Case true
binary_kind N.WildcardEqual = K.Equality Q.Wild false
binary_kind N.WildcardNotEqual = K.Equality Q.Wild true
binary_kind N.Less = K.Order O.Less
binary_kind N.LessOrEqual = K.Order O.LessEqual
binary_kind N.Greater = K.Order O.Greater
binary_kind N.GreaterOrEqual = K.Order O.GreaterEqual
binary_kind N.ShiftLeft = K.Shift S.Left
binary_kind N.ShiftRight = K.Shift S.Right
binary_kind N.ArithmeticShiftLeft = K.Shift S.Left
binary_kind N.ArithmeticShiftRight = K.Shift S.Arith
binary_kind N.Add = K.Arithmetic B.Add
binary_kind N.Subtract = K.Arithmetic B.Sub
binary_kind N.Multiply = K.Arithmetic B.Mul
binary_kind N.Divide = K.Arithmetic B.Div
binary_kind N.Remainder = K.Arithmetic B.Rem
binary_kind N.Power = K.Power

abbrev pub by_kind : BinaryKind → Source → ℕ → Valued → Valued → Checked Valued
by_kind K.Either k at l r = logical F.Either k l r
by_kind K.Both k at l r = logical F.Both k l r
by_kind (K.Bitwise op) k at l r = bitwise op k l r
by_kind (K.Arithmetic op) k at l r = arithmetic op k at l r
by_kind (K.Equality op negated) k at l r = equality op negated k l r
by_kind (K.Order op) k at l r = order op k at l r
by_kind (K.Shift op) k at l r = shift op k l r
by_kind K.Power k at l r = power k at l r

abbrev pub binary_of : BinaryOperator → Source → ℕ → Valued → Valued → Checked Valued
binary_of op k at l r = taking k at (l ∷ r ∷ []) (by_kind (binary_kind op) k at l r)

-- Operators before an operand. `+` gives its operand; of an enum it gives the vector of its bits.
abbrev pub bits_alone : Source → ℕ → Valued → Valued
bits_alone k at v = by_itself k at (same_type v) (F.Cast v.expr)

abbrev pub plus : Source → ℕ → Valued → Checked Valued
plus k at v = elim (enum_of v.expr.of) [
  | None ↦ Ok (record v { first = at; begins = at; is_unsized = false })
  | Some n ↦ Ok (bits_alone k at v)
]

abbrev pub reduction : RedOp → Source → ℕ → Valued → Checked Valued
reduction op k at v = Ok (by_itself k at one_bit (F.Reduce op v.expr))

abbrev pub minus : Source → ℕ → Valued → Checked Valued
minus k at v = in_context k at (same_type v) (F.Unary U.Neg v.expr) (at ∷ v.arithmetic)

abbrev pub negation : Source → ℕ → Valued → Checked Valued
negation k at v = Ok (by_itself k at one_bit (F.Negate v.expr))

abbrev pub inversion : Source → ℕ → Valued → Checked Valued
inversion k at v = in_context k at (same_type v) (F.Unary U.Not v.expr) v.arithmetic

abbrev pub unary_kind : UnaryOperator → UnaryKind
unary_kind M.Plus = J.Plus
unary_kind M.Minus = J.Minus
unary_kind M.Not = J.Negation
unary_kind M.Invert = J.Inversion
unary_kind M.ReduceAnd = J.Reduction R.And
unary_kind M.ReduceNand = J.Reduction R.Nand
unary_kind M.ReduceOr = J.Reduction R.Or
unary_kind M.ReduceNor = J.Reduction R.Nor
unary_kind M.ReduceXor = J.Reduction R.Xor
unary_kind M.ReduceXnor = J.Reduction R.Xnor

abbrev pub by_prefix : UnaryKind → Source → ℕ → Valued → Checked Valued
by_prefix J.Plus = plus
by_prefix J.Minus = minus
by_prefix J.Negation = negation
by_prefix J.Inversion = inversion
by_prefix (J.Reduction op) = reduction op

abbrev pub unary_of : UnaryOperator → Source → ℕ → Valued → Checked Valued
unary_of op k at v = taking k at (v ∷ []) (by_prefix (unary_kind op) k at v)

-- `?:`. Arms of one enum give that enum; unpacked arms break E504.
abbrev pub chosen_type : Valued → Valued → SvType
chosen_type l r = cond (is_same_enum l.expr.of r.expr.of) l.expr.of (both_type l r)

abbrev pub choice_of : Source → ℕ → Valued → Valued → Valued → Checked Valued
choice_of k at on l r =
    refused (is_unpacked l.expr.of || is_unpacked r.expr.of) (position k at) 504
    (taking k at (on ∷ []) (in_context k on.begins (chosen_type l r) (F.Choose on.expr l.expr r.expr) (l.arithmetic ++ r.arithmetic)))

-- Concatenations. A part is no number without a size (E501).
abbrev pub is_part : Source → Valued → Checked Valued
is_part k v = refused v.is_unsized (position k v.first) 501 (refused (is_unpacked v.expr.of) (position k v.first) 508 (Ok v))

abbrev pub exprs : List Valued → List Expr
exprs vs = map (λ (v : Valued). v.expr) vs

abbrev pub all_bits : List Expr → ℕ
all_bits es = total (map (λ (e : Expr). width_of e.of) es)

-- at most 65,536 bits (E701)
abbrev pub not_too_long : {A : Type 0} → Source → ℕ → ℕ → Checked A → Checked A
not_too_long k at w other = refused (nat_lt most_bits w) (position k at) 701 other

abbrev pub concat_of : Source → ℕ → List Expr → Checked Valued
concat_of k opening es =
    let w = all_bits es in
    not_too_long k opening w (Ok (by_itself k opening (vector w false) (F.Concat es)))

abbrev pub repeat_of : Source → ℕ → ℕ → List Expr → Checked Valued
repeat_of k opening n es =
    let w = n * all_bits es in
    not_too_long k opening w (Ok (by_itself k opening (vector w false) (F.Repeat n es)))

-- `inside` compares with each item by itself: with a value by ==?, with the bounds of a range by >= and <=.
pub data Alternative : Type 0 where
  Only : Valued → Alternative
  From : Valued → Valued → Alternative

abbrev pub in_alternative : Alternative → List Valued
in_alternative (Only v) = v ∷ []
in_alternative (From low high) = low ∷ high ∷ []

abbrev pub choice : Alternative → Choice
choice (Only v) = C.Value v.expr
choice (From low high) = C.Range low.expr high.expr

-- the widths of the comparisons, and of those by order
abbrev pub compared : Valued → Alternative → ℕ
compared v a = max (width v) (most (map width (in_alternative a)))

abbrev pub ordered : Valued → Alternative → ℕ
ordered v (Only u) = 0
ordered v (From low high) = compared v (From low high)

abbrev pub wide_in : Valued → Alternative → List ℕ
wide_in v a = flat_map (λ (u : Valued). too_wide (both_wide v u) u.arithmetic) (in_alternative a)

abbrev pub inside_of : Source → ℕ → Valued → List Alternative → Checked Valued
inside_of k at v as' =
    taking k at (v ∷ flat_map in_alternative as')
    (unless
    (at_all k.instance 502
    (too_wide (most (map (compared v) as')) v.arithmetic ++ (over at (most (map (ordered v) as')) ++ flat_map (wide_in v) as')))
    (by_itself k v.begins one_bit (F.Inside v.expr (map choice as'))))
