use Rattle.std.proofs.Common.{length}
use Rattle.sv_source.proofs.Sending.{Sent}
use Rattle.sv_source.proofs.pieces.put_all.Given as goal

abbrev pub invariant-loop-rest : goal.invariant-loop-rest
invariant-loop-rest g l =
    Sent (g.S.Sink.written l.initial.sink) (g.S.Sink.written l.sink) (g.S.Sink.faults l.initial.sink) (g.S.Sink.faults l.sink)
    (g.S.Sink.spare l.initial.sink) (g.S.Sink.spare l.sink) l.bytes l.rest

abbrev pub decreases-loop-rest : goal.decreases-loop-rest
decreases-loop-rest g l = length l.rest
