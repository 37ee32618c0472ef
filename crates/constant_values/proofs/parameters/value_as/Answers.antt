use Rattle.std.specs.Prelude.{Ok, Err}
use Rattle.expr_type.specs.Answers.{source}
use Rattle.expr_type.specs.Operands.{is_constant}
use Rattle.constant_values.specs.Parameters.{short}
use Rattle.constant_values.proofs.Giving.{free-given, free-plain, stands-then, where-stops}
use Rattle.constant_values.proofs.parameters.value_as.Goals as goal

pub limited-requires-clause-given : goal.limited-requires-clause-given
limited-requires-clause-given c = free-given c.args.functions.now c.args.e.now c.args.t.now c.args.other c.in-Ok.ensures c.requires.given

pub limited-requires-clause-plain : goal.limited-requires-clause-plain
limited-requires-clause-plain c = free-plain c.args.functions.now c.args.e.now c.args.other c.in-Ok.ensures

pub returns-in-Err : goal.returns-in-Err
returns-in-Err c = λ m here a.
    where-stops (is_constant (source c.args.text) c.args.first c.args.functions.now c.args.e.now m) (short (source c.args.text) c.args.of c.args.t.now c.args.functions.now) c.in-Err.halt
    (c.in-Err.ensures m here a)

pub returns-in-Ok : goal.returns-in-Ok
returns-in-Ok c = λ m here a.
    stands-then (source c.args.text) c.args.of c.args.first c.args.t.now c.args.functions.now c.args.e.now c.args.other m c.limited.result c.in-Ok.ensures a c.limited.ensures
