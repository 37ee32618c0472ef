use Rattle.std.proofs.Common.{◌+◌, ◌*◌}
use Rattle.eval_runs.proofs.functions.+fn-run_call-calls+run_call.Given as goal

abbrev pub decreases-calls : goal.decreases-calls
decreases-calls l = 2 * l.below + 1

abbrev pub decreases-run_call : goal.decreases-run_call
decreases-run_call l = 2 * l.depth
