-- Actuals that are assigned to, over whole texts: the definitions of `expr_type`.
use Rattle.std.specs.Prelude.{ℕ, Bool, true, false, List, map, Option, Some, None}
use Rattle.sv_tree.specs.declared.expressions.Expr.{Expr}
use Rattle.sv_types.specs.declared.expression.Expr as T
use Rattle.expr_type.specs.Breaks.{At, Quiet}
use Rattle.expr_type.specs.declared.operand.Valued.{Valued}
use Rattle.expr_type.specs.Expressions.{meaning}
use Rattle.expr_type.specs.Names.{Context, Source, position}
use Rattle.expr_type.specs.Operands.{first_of}
use Rattle.expr_type.specs.Operators.{concat_of, exprs}
use Rattle.expr_type.specs.Statements.{Actual}
use Rattle.expr_type.specs.TargetNames.{packed_target}
use Rattle.expr_type.specs.Typings.{Typing, all, broken, checked, rule, whole}
use Rattle.typing_operators.specs.Lists.{expr_of}
use Rattle.typing_walks.specs.Written as written

-- whether an expression is in the form of a target
abbrev pub is_there : {A : Type 0} → Option A → Bool
is_there None = false
is_there (Some x) = true

abbrev pub is_target : Context → Expr → Bool
is_target k e = is_there ((meaning e).as_target k)

abbrev pub are_targets : Context → List Expr → Bool
are_targets k es = written.all (map (is_target k) es)

-- what is in that form, as a target
abbrev pub or_quiet : Option (Typing Valued) → Typing Valued
or_quiet None = broken Quiet
or_quiet (Some x) = x

abbrev pub target_of : Context → Expr → Typing Valued
target_of k e = or_quiet ((meaning e).as_target k)

-- the parts of a concatenation by their expressions
abbrev pub part_by : Source → Typing Valued → Typing T.Expr
part_by k x = expr_of (packed_target k x)

abbrev pub part_of : Context → Expr → Typing T.Expr
part_of k e = part_by k.source (target_of k e)

abbrev pub packed_of : Context → List Expr → Typing (List Valued)
packed_of k es = all (map (packed_target k.source) (map (target_of k) es))

abbrev pub parts_of : Context → List Expr → Typing (List T.Expr)
parts_of k es = checked (packed_of k es) (λ vs. whole (exprs vs))

abbrev pub joined : Source → ℕ → Typing (List T.Expr) → Typing Valued
joined k opening x = checked x (λ es. rule (concat_of k opening es))

-- what isn't in that form is looked at as a value, and broken at its first token
abbrev pub refused_of : Context → Expr → Typing Valued
refused_of k e = checked ((meaning e).typed k) (λ o. broken (At (position k.source (first_of o)) 501))

-- a target as an actual
abbrev pub actual_of : Valued → Actual
actual_of v = record { value = None; target = Some v }

-- expressions as they are
abbrev pub as_itself : T.Expr → T.Expr
as_itself e = e
