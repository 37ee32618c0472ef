use Rattle.std.proofs.Common.{◌≡◌, ℕ, ◌<◌, slice_get, Some}
use Rattle.round_runner_tests.specs.declared.netlist.Gate.{Gate}
use Rattle.round_runner_tests.proofs.netlist.gates_fit.Given as goal

abbrev pub invariant-loop-gate : goal.invariant-loop-gate
invariant-loop-gate l = (k : ℕ) (g : Gate) → k < l.gate-index → slice_get l.gates k ≡ Some g → g.to < l.size
