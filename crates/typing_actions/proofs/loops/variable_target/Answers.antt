use Rattle.expr_type.specs.Answers.{source}
use Rattle.typing_actions.proofs.Variables.{variable-narrow, variable-types}
use Rattle.typing_actions.proofs.loops.variable_target.Goals as goal

pub returns-clause-value : goal.returns-clause-value
returns-clause-value g c =
    variable-types (g.S.Names.context c.args.names.now) (source c.text.result) c.args.local.now c.args.name c.in_ok-of.of c.in_ok-by_itself.field-0 c.text.ensures c.in_ok-of.ensures c.in_ok-by_itself.ensures.value

pub returns-clause-narrow : goal.returns-clause-narrow
returns-clause-narrow g c = variable-narrow c.args.local.now c.in_ok-of.of c.in_ok-by_itself.field-0 c.requires.narrow c.in_ok-of.ensures c.in_ok-by_itself.ensures.of
