use Rattle.std.proofs.Common.{◌+◌, ◌*◌}
use Rattle.v_exec.proofs.functions.+call_function+fn-call_function-call.Given as goal

abbrev pub decreases-call : goal.decreases-call
decreases-call l = 2 * l.below + 1

abbrev pub decreases-call_function : goal.decreases-call_function
decreases-call_function l = 2 * l.depth
