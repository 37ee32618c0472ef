use Rattle.expr_type.specs.Answers.{source}
use Rattle.typing_actions.proofs.Calling.{target-given, value-given}
use Rattle.typing_actions.proofs.passing.actual_expr.Goals as goal

pub returns-in-Value : goal.returns-in-Value
returns-in-Value c = λ k s. value-given k (source c.args.text) c.args.formal.now c.args.actual c.in-Value.o c.passed.result s c.in-Value.is c.passed.ensures

pub returns-in-Target : goal.returns-in-Target
returns-in-Target c = λ k s. target-given k c.args.formal.now c.args.actual c.in-Target.v c.is_inout.result c.takes_result.result c.in-Target.is c.is_inout.ensures (c.takes_result.ensures k)
