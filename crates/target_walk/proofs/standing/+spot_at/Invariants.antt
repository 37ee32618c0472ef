use Rattle.eval_parts.proofs.Nodes.{nodes}
use Rattle.target_walk.proofs.standing.+spot_at.Given as goal

abbrev pub decreases-spot_at : goal.decreases-spot_at
decreases-spot_at l = nodes l.e.now
