-- Widths and values of source expressions. All operands are unsigned (IEEE 1800-2017 clauses 11.6 and 11.8).
use Rattle.std.specs.Prelude.{ℕ, max, Bool, true, false, List, length}
use Rattle.b4_core.specs.declared.bit.Bit4.{Bit4}
use Rattle.b4_core.specs.declared.operators.UnOp.TheVariants.{Not}
use Rattle.b4_core.specs.Vectors.{ext}
use Rattle.b4_core.specs.Unary.{unary_value}
use Rattle.b4_core.specs.Binary.{binary_value}
use Rattle.sv_core.specs.declared.design.Primary.{Primary}
use Rattle.sv_core.specs.declared.design.Primary.TheVariants.{Signal, Literal}
use Rattle.sv_core.specs.declared.design.Operand.{Operand}
use Rattle.sv_core.specs.declared.design.Expr.{Expr}
use Rattle.sv_core.specs.declared.design.Expr.TheVariants.{Single, Binary}

-- the width of an operand alone, by the widths of the signals
abbrev pub primary_width : (ℕ → ℕ) → Primary → ℕ
primary_width widths (Signal n) = widths n
primary_width widths (Literal bits) = length bits

-- the width of an expression alone: the larger of its operands' (clause 11.6.1, table 11-21)
abbrev pub width_alone : (ℕ → ℕ) → Expr → ℕ
width_alone widths (Single a) = primary_width widths a.primary
width_alone widths (Binary op a b) = max (primary_width widths a.primary) (primary_width widths b.primary)

-- what a primary holds, extended or cut to the width of its context (clause 11.6.2)
abbrev pub primary_value : (ℕ → List Bit4) → ℕ → Primary → List Bit4
primary_value held w (Signal n) = ext w false (held n)
primary_value held w (Literal bits) = ext w false bits

-- negated where `~` stands before it (clause 11.4.8)
abbrev pub inverted_if : Bool → List Bit4 → List Bit4
inverted_if true bits = unary_value Not bits
inverted_if false bits = bits

abbrev pub operand_value : (ℕ → List Bit4) → ℕ → Operand → List Bit4
operand_value held w a = inverted_if a.inverted (primary_value held w a.primary)

-- the value of an expression at the width of its context, by what the signals hold
abbrev pub value_at : (ℕ → List Bit4) → ℕ → Expr → List Bit4
value_at held w (Single a) = operand_value held w a
value_at held w (Binary op a b) = binary_value op false (operand_value held w a) (operand_value held w b)
