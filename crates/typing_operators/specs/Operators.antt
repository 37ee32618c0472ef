-- Operators over expressions.
use Rattle.std.specs.Prelude.{ℕ, Result, Ok, Err}
use Rattle.sv_tree.specs.declared.expressions.Expr.{Expr}
use Rattle.sv_tree.specs.declared.operators.BinaryOperator.{BinaryOperator}
use Rattle.sv_tree.specs.declared.operators.UnaryOperator.{UnaryOperator}
use Rattle.expr_type.specs.declared.operand.Valued.{Valued}
use Rattle.expr_type.specs.Names.{Context}
use Rattle.expr_type.specs.Expressions.{Arms, arms}
use Rattle.operand_types.specs.declared.operands.Operands.{Operands}
use Rattle.expr_type.specs.declared.halt.Halt.{Halt}
use Rattle.expr_type.specs.Operators.{binary_of, choice_of, unary_of}
use Rattle.expr_type.specs.Typings.{Typing, beside, both, checked, rule}
use Rattle.typing_values.specs.Values.{ArePairNarrow, value_of}
use Rattle.typing_operators.specs.declared.operators.Tested.{Tested}

abbrev pub binary : Context → BinaryOperator → ℕ → Expr → Expr → Typing Valued
binary k op at l r = both (value_of k l) (value_of k r) (λ a b. rule (binary_of op k.source at a b))

abbrev pub unary : Context → UnaryOperator → ℕ → Expr → Typing Valued
unary k op at e = checked (value_of k e) (λ v. rule (unary_of op k.source at v))

-- the arms of `?:` as the code has them
abbrev pub both_arms : Operands → Arms
both_arms p = record { first = p.left; second = p.right }

abbrev pub as_arms : Result Operands Halt → Result Arms Halt
as_arms (Ok p) = Ok (both_arms p)
as_arms (Err h) = Err h

abbrev pub arms_of : Context → Expr → Expr → Typing Arms
arms_of k first second = both (value_of k first) (value_of k second) arms

abbrev pub as_tested : Result Tested Halt → Result (Valued × Arms) Halt
as_tested (Ok t) = Ok (t.on, both_arms t.arms)
as_tested (Err h) = Err h

abbrev pub tested_of : Context → Expr → Expr → Expr → Typing (Valued × Arms)
tested_of k test first second = beside (value_of k test) (arms_of k first second)

abbrev pub AreArmsNarrow : Tested → Type 0
AreArmsNarrow t = ArePairNarrow t.arms

abbrev pub conditional : Context → ℕ → Expr → Expr → Expr → Typing Valued
conditional k at test first second =
    both (value_of k test) (both (value_of k first) (value_of k second) arms) (λ on a. rule (choice_of k.source at on a.first a.second))
