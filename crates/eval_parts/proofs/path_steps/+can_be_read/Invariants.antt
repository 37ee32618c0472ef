use Rattle.eval_parts.proofs.Nodes.{nodes}
use Rattle.eval_parts.proofs.path_steps.+can_be_read.Given as goal

abbrev pub decreases-can_be_read : goal.decreases-can_be_read
decreases-can_be_read l = nodes l.e.now
