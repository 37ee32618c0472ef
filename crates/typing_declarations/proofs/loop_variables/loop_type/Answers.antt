use Rattle.typing_fits.proofs.Full.{and-left}
use Rattle.typing_walks.specs.Written.{is_written}
use Rattle.typing_walks.specs.WrittenTypes.{type_written}
use Rattle.typing_declarations.proofs.loop_variables.loop_type.Goals as goal

pub typed_text-requires-clause-written : goal.typed_text-requires-clause-written
typed_text-requires-clause-written g c = and-left (type_written c.args.start.now.of) (is_written c.args.start.now.value) c.requires.written
