use Rattle.std.proofs.Common.{◌≡◌, take}
use Rattle.round_runner_tests.specs.Netlists.{vectors}
use Rattle.round_runner_tests.proofs.netlist.vectors.Given as goal

abbrev pub invariant-loop-bit : goal.invariant-loop-bit
invariant-loop-bit l = l.all.items ≡ vectors (take l.bit-index l.bits)
