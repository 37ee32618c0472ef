-- Targets as parts of concatenations.
use Rattle.std.proofs.Common.{List, refl}
use Rattle.std.specs.Prelude.{Ok, Err}
use Rattle.sv_types.specs.declared.expression.Expr as T
use Rattle.sv_types.specs.declared.statement.Function.{Function}
use Rattle.expr_type.specs.declared.halt.Halt.{Halt}
use Rattle.expr_type.specs.declared.operand.Valued.{Valued}
use Rattle.expr_type.specs.Answers.{Gives}
use Rattle.expr_type.specs.Names.{Source}
use Rattle.expr_type.specs.TargetNames.{is_packed_target, packed_target}
use Rattle.expr_type.specs.Typings.{Typing, rule, whole}
use Rattle.typing_steps.specs.Steps.{TypesTo}
use Rattle.typing_steps.proofs.Combining.{checked-fine, checked-stops, rule-types}
use Rattle.typing_actions.specs.Actuals.{part_by}

abbrev whole_expr : Valued → Typing T.Expr
whole_expr v = whole v.expr

pub part-fine : (k : Source) (x : Typing Valued) (fs gs : List Function) (v u : Valued) → Gives (Ok u) (is_packed_target k v) → TypesTo (Ok v) (x fs) gs → TypesTo (Ok u.expr) (part_by k x fs) gs
part-fine k x fs gs v u g p =
    checked-fine (packed_target k x) whole_expr fs gs gs u (Ok u.expr)
    (checked-fine x (λ w. rule (is_packed_target k w)) fs gs gs v (Ok u) p (rule-types (Ok u) (is_packed_target k v) gs g)) refl

pub part-breaks : (k : Source) (x : Typing Valued) (fs gs : List Function) (v : Valued) (h : Halt) → Gives {A = Valued} (Err h) (is_packed_target k v) → TypesTo (Ok v) (x fs) gs → TypesTo {A = T.Expr} (Err h) (part_by k x fs) gs
part-breaks k x fs gs v h g p =
    checked-stops (packed_target k x) whole_expr fs gs h
    (checked-fine x (λ w. rule (is_packed_target k w)) fs gs gs v (Err h) p (rule-types (Err h) (is_packed_target k v) gs g))

pub part-stops : (k : Source) (x : Typing Valued) (fs gs : List Function) (h : Halt) → TypesTo {A = Valued} (Err h) (x fs) gs → TypesTo {A = T.Expr} (Err h) (part_by k x fs) gs
part-stops k x fs gs h p = checked-stops (packed_target k x) whole_expr fs gs h (checked-stops x (λ w. rule (is_packed_target k w)) fs gs h p)

pub ruleset parts = (part-fine, part-breaks, part-stops)

pub ruleset joins = (checked-fine, checked-stops, rule-types)
