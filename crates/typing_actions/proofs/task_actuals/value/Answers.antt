use Rattle.expr_type.specs.Answers.{source}
use Rattle.expr_type.specs.Expressions.{meaning}
use Rattle.typing_values.proofs.Operands.{unstreamed-types}
use Rattle.typing_actions.proofs.task_actuals.value.Goals as goal

pub returns-clause-value : goal.returns-clause-value
returns-clause-value g c =
    let k = g.S.Names.context c.args.names.now in
    unstreamed-types (source c.text.result) k.source ((meaning c.args.e.now).typed k) c.args.known.now.functions c.operand.new.known.functions c.operand.result c.not_streamed.result c.in_ok-o.o c.text.ensures c.in_ok-o.was
    c.operand.ensures.value c.not_streamed.ensures.value
