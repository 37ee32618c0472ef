use Rattle.std.proofs.Common.{◌+◌, ◌*◌}
use Rattle.eval_parts.proofs.Nodes.{nodes}
use Rattle.path_walk.proofs.paths.+follow.Given as goal

abbrev pub decreases-follow : goal.decreases-follow
decreases-follow l = 2 * nodes l.e.now

abbrev pub decreases-element : goal.decreases-element
decreases-element l = 2 * nodes l.from.now + 1

abbrev pub decreases-slid : goal.decreases-slid
decreases-slid l = 2 * nodes l.from.now + 1
