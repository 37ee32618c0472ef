use Rattle.std.proofs.Common.{◌+◌, ◌*◌}
use Rattle.typing_stmts.proofs.needed.+routine.Given as goal

abbrev pub decreases-routine : goal.decreases-routine
decreases-routine l = 4 * l.depth

abbrev pub decreases-needed : goal.decreases-needed
decreases-needed l = 4 * l.below + 3

abbrev pub decreases-unknown : goal.decreases-unknown
decreases-unknown l = 4 * l.below + 2

abbrev pub decreases-unknown-needs : goal.decreases-unknown-needs
decreases-unknown-needs l = 4 * l.below + 1
