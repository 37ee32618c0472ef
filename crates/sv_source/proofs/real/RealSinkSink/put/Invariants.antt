use Rattle.std.proofs.Common.{length, ◌≤◌, ◌≡◌}
use Rattle.sv_source.proofs.Streams.{Writing}
use Rattle.sv_source.proofs.real.RealSinkSink.put.Given as goal

abbrev pub invariant-loop-rest : goal.invariant-loop-rest
invariant-loop-rest g l = record {
  within : length l.rest ≤ length l.piece;
  level : l.self.faults ≡ l.initial.self.faults;
  written : Writing (g.W.Write.contents l.initial.self.stream) (g.W.Write.contents l.self.stream) l.piece l.rest;
}

abbrev pub decreases-loop-rest : goal.decreases-loop-rest
decreases-loop-rest g l = length l.rest
