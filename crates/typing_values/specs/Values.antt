-- Operands that are values, and what is asked of them where they stand.
use Rattle.std.specs.Prelude.{Result, Ok, Err}
use Rattle.sv_tree.specs.declared.expressions.Expr.{Expr}
use Rattle.operand_types.specs.declared.operands.Operands.{Operands}
use Rattle.operand_types.specs.Allowed.{IsNarrow}
use Rattle.expr_type.specs.declared.halt.Halt.{Halt}
use Rattle.expr_type.specs.declared.halt.Halt.TheVariants as H
use Rattle.expr_type.specs.declared.operand.Valued.{Valued}
use Rattle.expr_type.specs.Expressions.{meaning, part}
use Rattle.expr_type.specs.Forms.{streamed_part}
use Rattle.expr_type.specs.Names.{Context}
use Rattle.expr_type.specs.Operands.{Operand, bits_in, unstreamed, value}
use Rattle.expr_type.specs.Selects.{index_in}
use Rattle.expr_type.specs.Typings.{Typing, beside}

abbrev pub value_of : Context → Expr → Typing Valued
value_of k e = value k.source ((meaning e).typed k)

abbrev pub two_of : Context → Expr → Expr → Typing (Valued × Valued)
two_of k l r = beside (value_of k l) (value_of k r)

abbrev pub bits_of : Context → Expr → Typing Valued
bits_of k e = bits_in k.source ((meaning e).typed k)

abbrev pub index_of : Context → Expr → Typing Valued
index_of k e = index_in k.source ((meaning e).typed k)

abbrev pub part_of : Context → Expr → Typing Valued
part_of k e = part k (meaning e)

abbrev pub streamed_of : Context → Expr → Typing Valued
streamed_of k e = streamed_part k.source ((meaning e).typed k)

abbrev pub unstreamed_of : Context → Expr → Typing Operand
unstreamed_of k e = unstreamed k.source ((meaning e).typed k)

-- two values as the code has them
abbrev pub as_pair : Result Operands Halt → Result (Valued × Valued) Halt
as_pair (Ok p) = Ok (p.left, p.right)
as_pair (Err h) = Err h

pub record ArePairNarrow (p : Operands) : Type 0 where
  pub left : IsNarrow p.left
  pub right : IsNarrow p.right

-- what stops behind a part that breaks nothing and isn't whole
abbrev pub behind : {A : Type 0} → Result A Halt → Halt
behind (Ok a) = H.Quiet
behind (Err h) = h
