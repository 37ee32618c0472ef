-- The words and operators, by the rows that they were read by.
use Rattle.std.specs.Prelude.{ℕ, ◌==◌, Option, if◌then◌else◌, Some, None}
use Rattle.ll_engine.specs.declared.tree.Tree.{Tree}
use Rattle.sv_tree.specs.declared.names.QualifiedName.{QualifiedName}
use Rattle.sv_tree.specs.declared.names.Signing.{Signing}
use Rattle.sv_tree.specs.declared.names.Signing.TheVariants.{Signed, Unsigned}
use Rattle.sv_tree.specs.declared.operators.BinaryOperator.{BinaryOperator}
use Rattle.sv_tree.specs.declared.operators.BinaryOperator.TheVariants as B
use Rattle.sv_tree.specs.declared.operators.PartOperator.{PartOperator}
use Rattle.sv_tree.specs.declared.operators.PartOperator.TheVariants as P
use Rattle.sv_tree.specs.declared.operators.StreamOperator.{StreamOperator}
use Rattle.sv_tree.specs.declared.operators.StreamOperator.TheVariants as S
use Rattle.sv_tree.specs.declared.operators.UnaryOperator.{UnaryOperator}
use Rattle.sv_tree.specs.declared.operators.UnaryOperator.TheVariants as U
use Rattle.sv_tree.specs.declared.types.Aggregate.{Aggregate}
use Rattle.sv_tree.specs.declared.types.Aggregate.TheVariants.{Struct, Union}
use Rattle.sv_tree.specs.declared.types.KeywordType.{KeywordType}
use Rattle.sv_tree.specs.declared.types.TypeKeyword.{TypeKeyword}
use Rattle.sv_tree.specs.declared.types.TypeKeyword.TheVariants as K
use Rattle.expr_build.specs.declared.rows.TheConstants as R
use Rattle.expr_build.specs.Nodes.{kid, token, row_of, optional, is_blank}

abbrev pub signing_of : Tree → Signing
signing_of t = if row_of t == R.SIGNED then Signed (token 0 t) else Unsigned (token 0 t)

abbrev pub optional_signing_of : Tree → Option Signing
optional_signing_of t = optional (λ some. signing_of (kid 0 some)) t

abbrev pub type_keyword_by : ℕ → TypeKeyword
type_keyword_by row =
    if row == R.BIT then K.Bit
    else (if row == R.LOGIC then K.Logic
    else (if row == R.REG then K.Reg
    else (if row == R.BYTE then K.Byte
    else (if row == R.SHORTINT then K.Shortint
    else (if row == R.INT then K.Int
    else (if row == R.LONGINT then K.Longint
    else K.Integer))))))

abbrev pub keyword_type_of : Tree → KeywordType
keyword_type_of t = record { keyword = type_keyword_by (row_of (kid 0 t)); at = token 0 (kid 0 t); signing = optional_signing_of (kid 1 t) }

abbrev pub aggregate_of : Tree → Aggregate
aggregate_of t = if row_of t == R.STRUCT then Struct (token 0 t) else Union (token 0 t)

-- a name with the package before it, from `package`, or the name, and what stands behind
abbrev pub qualified_of : ℕ → Tree → QualifiedName
qualified_of first rest =
    if is_blank rest then record { scope = None; name = first }
    else record { scope = Some (record { «package» = first; colons = token 0 rest }); name = token 1 rest }

abbrev pub unary_operator_by : ℕ → UnaryOperator
unary_operator_by row =
    if row == R.UNARY_PLUS then U.Plus
    else (if row == R.UNARY_MINUS then U.Minus
    else (if row == R.UNARY_NOT then U.Not
    else (if row == R.UNARY_INVERT then U.Invert
    else (if row == R.UNARY_AND then U.ReduceAnd
    else (if row == R.UNARY_NAND then U.ReduceNand
    else (if row == R.UNARY_OR then U.ReduceOr
    else (if row == R.UNARY_NOR then U.ReduceNor
    else (if row == R.UNARY_XOR then U.ReduceXor
    else U.ReduceXnor))))))))

-- the operators between two operands
abbrev pub arithmetic_operator_by : ℕ → BinaryOperator
arithmetic_operator_by row =
    if row == R.ADD then B.Add
    else (if row == R.SUBTRACT then B.Subtract
    else (if row == R.MULTIPLY then B.Multiply
    else (if row == R.DIVIDE then B.Divide
    else (if row == R.REMAINDER then B.Remainder
    else B.Power))))

abbrev pub shift_operator_by : ℕ → BinaryOperator
shift_operator_by row =
    if row == R.SHIFT_LEFT then B.ShiftLeft
    else (if row == R.SHIFT_RIGHT then B.ShiftRight
    else (if row == R.ARITHMETIC_SHIFT_LEFT then B.ArithmeticShiftLeft
    else (if row == R.ARITHMETIC_SHIFT_RIGHT then B.ArithmeticShiftRight
    else arithmetic_operator_by row)))

abbrev pub order_operator_by : ℕ → BinaryOperator
order_operator_by row =
    if row == R.LESS then B.Less
    else (if row == R.LESS_OR_EQUAL then B.LessOrEqual
    else (if row == R.GREATER then B.Greater
    else (if row == R.GREATER_OR_EQUAL then B.GreaterOrEqual
    else shift_operator_by row)))

abbrev pub equality_operator_by : ℕ → BinaryOperator
equality_operator_by row =
    if row == R.EQUAL then B.Equal
    else (if row == R.NOT_EQUAL then B.NotEqual
    else (if row == R.CASE_EQUAL then B.CaseEqual
    else (if row == R.CASE_NOT_EQUAL then B.CaseNotEqual
    else (if row == R.WILDCARD_EQUAL then B.WildcardEqual
    else (if row == R.WILDCARD_NOT_EQUAL then B.WildcardNotEqual
    else order_operator_by row)))))

abbrev pub binary_operator_by : ℕ → BinaryOperator
binary_operator_by row =
    if row == R.LOGICAL_OR then B.LogicalOr
    else (if row == R.LOGICAL_AND then B.LogicalAnd
    else (if row == R.BITWISE_OR then B.Or
    else (if row == R.BITWISE_XOR then B.Xor
    else (if row == R.BITWISE_XNOR then B.Xnor
    else (if row == R.OTHER_BITWISE_XNOR then B.Xnor
    else (if row == R.BITWISE_AND then B.And
    else equality_operator_by row))))))

abbrev pub part_operator_by : ℕ → PartOperator
part_operator_by row = if row == R.PART_RANGE then P.Range else (if row == R.PART_UP then P.Up else P.Down)

abbrev pub stream_operator_by : ℕ → StreamOperator
stream_operator_by row = if row == R.STREAM_LEFT then S.Left else S.Right
