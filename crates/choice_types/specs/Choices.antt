-- The rules on what stands in `?:`.
use Rattle.std.specs.Prelude.{ℕ, ◌||◌, [], ◌∷◌, ◌++◌, Ok}
use Rattle.expr_type.specs.declared.operand.Valued.{Valued}
use Rattle.expr_type.specs.Names.{Source, position}
use Rattle.expr_type.specs.Operators.{chosen_type, in_context, taking}
use Rattle.sv_types.specs.declared.expression.Form.TheVariants as F
use Rattle.expr_type.specs.Shapes.{is_unpacked}
use Rattle.expr_type.specs.Typings.{Checked, refused}

-- E504 on the arms, then E508 on the condition
abbrev pub choice_rule : Source → ℕ → Valued → Valued → Valued → Checked (Unit {0})
choice_rule k at on l r =
    refused (is_unpacked l.expr.of || is_unpacked r.expr.of) (position k at) 504 (taking k at (on ∷ []) (Ok tt))

-- what it is where neither is broken
abbrev pub made : Source → Valued → Valued → Valued → Checked Valued
made k on l r = in_context k on.begins (chosen_type l r) (F.Choose on.expr l.expr r.expr) (l.arithmetic ++ r.arithmetic)
