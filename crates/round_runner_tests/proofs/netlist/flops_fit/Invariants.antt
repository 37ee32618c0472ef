use Rattle.std.proofs.Common.{◌≡◌, ℕ, ◌<◌, slice_get, Some}
use Rattle.round_runner_tests.specs.declared.netlist.Flop.{Flop}
use Rattle.round_runner_tests.proofs.netlist.flops_fit.Given as goal

abbrev pub invariant-loop-flop : goal.invariant-loop-flop
invariant-loop-flop l = (k : ℕ) (f : Flop) → k < l.flop-index → slice_get l.flops k ≡ Some f → f.to < l.size
