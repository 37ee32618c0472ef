use Rattle.action_breaks.proofs.Tokened.{misuse-law}
use Rattle.action_breaks.proofs.misuse.misuse_of.Goals as goal

pub returns : goal.returns
returns c = misuse-law c.args.functions.now c.args.body.now c.add_stmt.result c.add_stmt.ensures
