use Rattle.typing_fits.proofs.Full.{and-right}
use Rattle.typing_walks.specs.Written.{is_written}
use Rattle.typing_walks.specs.WrittenTypes.{type_written}
use Rattle.pattern_types.specs.Meaning.{operand_of}
use Rattle.typing_declarations.proofs.Starting.{first-types}
use Rattle.typing_declarations.proofs.loop_variables.first_value.Goals as goal

pub operand-requires-clause-written : goal.operand-requires-clause-written
operand-requires-clause-written g c = and-right (type_written c.args.start.now.of) (is_written c.args.start.now.value) c.requires.written

pub returns-clause-value : goal.returns-clause-value
returns-clause-value g c =
    let k = g.S.Names.context c.args.names.now in
    first-types k c.args.start.now c.args.of.now c.args.known.now.functions c.operand.new.known.functions (operand_of k.source c.in_ok-o.o) c.given_first.result c.in_ok-o.ensures.value c.given_first.ensures
