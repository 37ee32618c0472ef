use Rattle.std.proofs.Common.{◌≡◌, ℕ, ◌<◌, slice_get, Some}
use Rattle.round_runner_tests.proofs.netlist.inputs_fit.Given as goal

abbrev pub invariant-loop-n : goal.invariant-loop-n
invariant-loop-n l = (k n : ℕ) → k < l.n-index → slice_get l.inputs k ≡ Some n → n < l.size
