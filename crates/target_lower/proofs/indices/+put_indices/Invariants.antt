use Rattle.eval_parts.proofs.Nodes.{nodes}
use Rattle.target_lower.proofs.indices.+put_indices.Given as goal

abbrev pub decreases-put_indices : goal.decreases-put_indices
decreases-put_indices l = nodes l.e.now
