-- The first value of a loop's variable.
use Rattle.std.specs.Prelude.{⊤, ℕ, false, pos, Ok}
use Rattle.b4_core.specs.Vectors.{vec}
use Rattle.sv_types.specs.declared.expression.Expr.{Expr}
use Rattle.sv_types.specs.declared.expression.Form.TheVariants as F
use Rattle.sv_types.specs.declared.types.SvType.{SvType}
use Rattle.expr_type.specs.Forms.{cast_expr}
use Rattle.expr_type.specs.Names.{Context, Source}
use Rattle.expr_type.specs.Typings.{Checked, where_whole}
use Rattle.expr_type.specs.Operators.{expr_at}
use Rattle.expr_type.specs.Shapes.{sign_of, vector}
use Rattle.expr_type.specs.Statements.{always}
use Rattle.operand_types.specs.Allowed.{IsNarrow}
use Rattle.pattern_types.specs.declared.operand.Operand.{Operand-F, out-Operand}
use Rattle.pattern_types.specs.declared.operand.Operand as O

-- a value that is no pattern and no stream has at most 2^22 bits
abbrev pub NarrowPlain : O.Operand → Type 0
NarrowPlain v = elim (out-Operand v) as (λ w. Type 0) [ Operand-F.Plain u ↦ IsNarrow u | Operand-F.Pattern tick times items ↦ ⊤ | Operand-F.Stream u ↦ ⊤ ]

-- a value as the arm of a `?:` of so many bits that is always taken
abbrev pub chosen_of : Context → ℕ → ℕ → Expr → Expr
chosen_of k at w e =
    let t = vector w (sign_of e.of) in
    expr_at k.source at t (F.Choose (always k at) e (expr_at k.source at t (F.Literal (vec w (pos 0)) false)))

-- what a pattern gives, as a cast to its type
abbrev pub pattern_cast : Source → SvType → ℕ → Checked Expr → Checked Expr
pattern_cast k t tick x = where_whole x (λ e. Ok (cast_expr k tick t e).expr)
