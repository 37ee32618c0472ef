use Rattle.routine_fits.proofs.Functions.{all-run}
use Rattle.typing_declarations.proofs.constants.written_value.Goals as goal

pub parameter_value-requires-clause-functions : goal.parameter_value-requires-clause-functions
parameter_value-requires-clause-functions c = all-run c.args.known.now.functions c.requires.ready.sound

pub ranged_value-requires-clause-functions : goal.ranged_value-requires-clause-functions
ranged_value-requires-clause-functions c = all-run c.args.known.now.functions c.requires.ready.sound

pub ranged_value-requires-in-OfValue-Some-Unsigned-clause-functions : goal.ranged_value-requires-in-OfValue-Some-Unsigned-clause-functions
ranged_value-requires-in-OfValue-Some-Unsigned-clause-functions c = all-run c.args.known.now.functions c.requires.ready.sound

pub parameter_value-requires-in-OfType-clause-functions : goal.parameter_value-requires-in-OfType-clause-functions
parameter_value-requires-in-OfType-clause-functions c = all-run c.args.known.now.functions c.requires.ready.sound
