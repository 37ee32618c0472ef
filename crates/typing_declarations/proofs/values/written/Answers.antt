use Rattle.expr_type.specs.Answers.{source}
use Rattle.typing_values.proofs.Constants.{ready-runs}
use Rattle.typing_declarations.proofs.Valuing.{written-given}
use Rattle.typing_declarations.proofs.values.written.Goals as goal

pub written_value-requires-clause-functions : goal.written_value-requires-clause-functions
written_value-requires-clause-functions g c = ready-runs c.constant.new.known c.constant.ensures.ready

pub returns-clause-value : goal.returns-clause-value
returns-clause-value g c =
    written-given (g.S.Names.context c.args.names.now) (source c.text.result) c.args.base.now c.args.met.now c.args.at c.args.e.now c.in_ok-v.v c.written_value.result c.args.known.now.functions
    c.constant.new.known.functions c.text.ensures c.requires.met c.in_ok-v.ensures.value c.written_value.ensures
