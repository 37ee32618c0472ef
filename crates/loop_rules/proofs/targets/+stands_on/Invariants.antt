use Rattle.eval_parts.proofs.Nodes.{nodes}
use Rattle.loop_rules.proofs.targets.+stands_on.Given as goal

abbrev pub decreases-stands_on : goal.decreases-stands_on
decreases-stands_on l = nodes l.e.now
