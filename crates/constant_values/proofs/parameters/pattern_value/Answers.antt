use Rattle.std.proofs.Common.{refl, subst}
use Rattle.std.specs.Prelude.{Result, Ok}
use Rattle.sv_types.specs.declared.expression.Expr.{Expr}
use Rattle.expr_type.specs.declared.halt.Halt.{Halt}
use Rattle.expr_type.specs.Answers.{source}
use Rattle.constant_values.specs.Parameters.{AllGiven}
use Rattle.constant_values.proofs.Giving.{pattern-stops, pattern-then}
use Rattle.constant_values.proofs.parameters.pattern_value.Goals as goal

pub value_as-requires-clause-given : goal.value_as-requires-clause-given
value_as-requires-clause-given c = subst (λ (r : Result Expr Halt). AllGiven r c.args.t.now c.args.functions.now) c.in-Ok.is c.requires.given

pub returns-in-Err : goal.returns-in-Err
returns-in-Err c = λ m g. pattern-stops (source c.args.text) c.args.of c.args.tick c.args.t.now c.args.functions.now c.args.made m c.in-Err.halt c.in-Err.is g

pub returns-in-Ok : goal.returns-in-Ok
returns-in-Ok c = λ m g.
    pattern-then (source c.args.text) c.args.of c.args.tick c.args.t.now c.args.functions.now c.args.made m c.in-Ok.e c.value_as.result c.in-Ok.is g (c.value_as.ensures (Ok c.in-Ok.e) tt refl)
