use Rattle.eval_parts.proofs.Nodes.{nodes}
use Rattle.target_walk.proofs.room.+indices_room.Given as goal

abbrev pub decreases-indices_room : goal.decreases-indices_room
decreases-indices_room l = nodes l.e.now
