use Rattle.eval_forms.specs.Callees.{formals_in}
use Rattle.eval_runs.proofs.Knots.{all-fit}
use Rattle.target_lower.proofs.Constant.{free-number}
use Rattle.target_lower.proofs.indices.free_number.Goals as goal

pub known_index-requires-clause-functions : goal.known_index-requires-clause-functions
known_index-requires-clause-functions c = all-fit c.args.functions.now (formals_in c.args.functions.now) c.requires.functions

pub returns : goal.returns
returns c = free-number c.args.functions.now c.args.i.now c.known_index.result c.known_index.ensures.known c.known_index.ensures.small
