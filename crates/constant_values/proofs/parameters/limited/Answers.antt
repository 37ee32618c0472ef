use Rattle.constant_values.proofs.Giving.{alone-fit, given-fit}
use Rattle.constant_values.proofs.parameters.limited.Goals as goal

pub runs_on-requires-clause-fits : goal.runs_on-requires-clause-fits
runs_on-requires-clause-fits c = alone-fit c.args.e.now c.args.t.now c.args.functions.now c.requires.given

pub valued-requires-clause-fits : goal.valued-requires-clause-fits
valued-requires-clause-fits c = given-fit c.args.e.now c.args.t.now c.args.functions.now c.requires.given
