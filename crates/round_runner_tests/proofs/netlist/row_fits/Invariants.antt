use Rattle.std.proofs.Common.{◌≡◌, ℕ, ◌<◌, List, length, slice_get, Some}
use Rattle.b4_core.specs.declared.bit.Bit4.{Bit4}
use Rattle.round_runner_tests.proofs.netlist.row_fits.Given as goal

abbrev pub invariant-loop-vector : goal.invariant-loop-vector
invariant-loop-vector l = (k : ℕ) (v : List Bit4) → k < l.vector-index → slice_get l.row k ≡ Some v → length v ≡ 1
