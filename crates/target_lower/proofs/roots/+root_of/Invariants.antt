use Rattle.eval_parts.proofs.Nodes.{nodes}
use Rattle.target_lower.proofs.roots.+root_of.Given as goal

abbrev pub decreases-root_of : goal.decreases-root_of
decreases-root_of l = nodes l.e.now
