-- Constants and constant numbers.
use Rattle.std.specs.Prelude.{ℕ, ℤ, ◌≤ℤ◌, List}
use Rattle.sv_tree.specs.declared.expressions.Expr.{Expr}
use Rattle.sv_types.specs.declared.statement.Function.{Function}
use Rattle.sv_types.specs.Expressions as T
use Rattle.eval_parts.specs.Limits.{FitsAlone}
use Rattle.typing_fits.specs.EvalForms.{formals_in}
use Rattle.expr_type.specs.declared.operand.Number.{Number}
use Rattle.expr_type.specs.declared.operand.Valued.{Valued}
use Rattle.expr_type.specs.Expressions.{count, meaning}
use Rattle.expr_type.specs.Names.{Context, Source}
use Rattle.expr_type.specs.Operands.{Operand, constant_in, is_constant_value, is_number_in, number_within}
use Rattle.expr_type.specs.Selects.{bound_in, width_in}
use Rattle.expr_type.specs.Typings.{Checked, Typing, where_whole}

abbrev pub constant_of : Context → Expr → Typing Valued
constant_of k e = constant_in k.source ((meaning e).typed k)

abbrev pub number_of : Context → ℤ → ℤ → Expr → Typing Number
number_of k low high e = number_within k.source low high ((meaning e).typed k)

abbrev pub bound_of : Context → Expr → Typing Number
bound_of k e = bound_in k.source ((meaning e).typed k)

abbrev pub width_of : Context → Expr → Typing Number
width_of k e = width_in k.source ((meaning e).typed k)

abbrev pub count_of : Context → Expr → Typing ℕ
count_of k e = count k (meaning e)

-- the number of an operand that is typed already
abbrev pub operand_number : Source → ℤ → ℤ → Operand → List Function → Checked Number
operand_number k low high o fs = where_whole (is_constant_value k o) (λ v. is_number_in k low high v fs)

-- a value that may be valued as a constant
abbrev pub CanBeValued : List Function → Valued → Type 0
CanBeValued fs v = FitsAlone (T.meaning v.expr) (formals_in fs)

pub record IsWithin (low high n : ℤ) : Type 0 where
  pub least : low ≤ℤ n
  pub most : n ≤ℤ high

abbrev pub NumberIsWithin : ℤ → ℤ → Number → Type 0
NumberIsWithin low high n = IsWithin low high n.number
