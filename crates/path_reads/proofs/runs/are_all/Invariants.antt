use Rattle.std.proofs.Common.{drop}
use Rattle.path_flatten.specs.Storing.{AllAre}
use Rattle.path_reads.proofs.runs.are_all.Given as goal

abbrev pub invariant-loop-bit : goal.invariant-loop-bit
invariant-loop-bit l = AllAre l.b (drop l.bit-index l.bits) → AllAre l.b l.bits
