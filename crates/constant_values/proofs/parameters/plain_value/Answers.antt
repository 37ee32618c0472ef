use Rattle.expr_type.specs.Answers.{source}
use Rattle.expr_type.specs.Operands.{is_given}
use Rattle.constant_values.proofs.Giving.{plain-here, plain-if}
use Rattle.constant_values.proofs.parameters.plain_value.Goals as goal

pub value_as-requires-clause-given : goal.value_as-requires-clause-given
value_as-requires-clause-given c = plain-if (source c.args.text) c.args.t.now c.args.v.now c.args.functions.now c.may_give-other.result c.requires.sound c.may_give-other.ensures

pub returns : goal.returns
returns c = c.value_as.ensures (is_given (source c.args.text) c.args.t.now c.args.v.now) (plain-here (source c.args.text) c.args.t.now c.args.v.now) c.may_give-other.ensures
