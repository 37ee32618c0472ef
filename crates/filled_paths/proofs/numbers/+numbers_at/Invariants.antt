use Rattle.eval_parts.proofs.Nodes.{nodes}
use Rattle.filled_paths.proofs.numbers.+numbers_at.Given as goal

abbrev pub decreases-numbers_at : goal.decreases-numbers_at
decreases-numbers_at l = nodes l.e.now
