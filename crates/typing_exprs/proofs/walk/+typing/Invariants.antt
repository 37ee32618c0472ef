use Rattle.std.proofs.Common.{◌+◌, ◌*◌}
use Rattle.typing_operators.specs.Children.{nodes}
use Rattle.typing_exprs.proofs.walk.+typing.Given as goal

abbrev pub decreases-operand-typed : goal.decreases-operand-typed
decreases-operand-typed g l = 3 * nodes l.e.now + 1

abbrev pub decreases-part : goal.decreases-part
decreases-part g l = 3 * nodes l.whole.now

abbrev pub decreases-operand : goal.decreases-operand
decreases-operand g l = 3 * nodes l.e.now + 2
