-- Casts to types.
use Rattle.std.specs.Prelude.{ℕ, Ok}
use Rattle.sv_types.specs.declared.expression.Expr.{Expr}
use Rattle.sv_types.specs.declared.types.SvType.{SvType}
use Rattle.sv_types.specs.Layouts.{width_of}
use Rattle.expr_type.specs.declared.operand.Valued.{Valued}
use Rattle.expr_type.specs.Forms.{cast_expr}
use Rattle.expr_type.specs.Names.{Source}
use Rattle.expr_type.specs.Operators.{not_too_long}
use Rattle.expr_type.specs.Typings.{Checked}

-- what a pattern of a type gives, as a cast to it
abbrev pub cast_of : Source → ℕ → ℕ → SvType → Expr → Checked Valued
cast_of k first tick t e = not_too_long k tick (width_of t) (Ok (cast_expr k first t e))
