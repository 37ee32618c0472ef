use Rattle.pattern_types.specs.Meaning.{operand_of}
use Rattle.typing_actions.proofs.Refusing.{refuses}
use Rattle.typing_actions.proofs.actuals.refused.Goals as goal

pub returns-clause-value : goal.returns-clause-value
returns-clause-value g c =
    let k = g.S.Names.context c.args.names.now in
    refuses k c.args.e.now c.args.known.now.functions c.operand.new.known.functions (operand_of k.source c.in_ok-o.o) c.no_target.result (c.no_target.ensures k.source) c.in_ok-o.ensures.value
