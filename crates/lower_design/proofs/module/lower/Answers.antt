use Rattle.std.proofs.Common.{rules}
use Rattle.lower_design.proofs.Right.{lowers}
use Rattle.lower_design.proofs.module.lower.Goals as goal

pub returns : goal.returns
returns c = search (rules, lowers c.args.d.now c.requires)
