use Rattle.std.proofs.Common.{drop}
use Rattle.std.specs.List.{flat_map}
use Rattle.sv_source.proofs.Sending.{Sent}
use Rattle.sv_source.proofs.pieces.put_parts.Given as goal

abbrev pub invariant-loop-part : goal.invariant-loop-part
invariant-loop-part g l =
    Sent (g.S.Sink.written l.initial.sink) (g.S.Sink.written l.sink) (g.S.Sink.faults l.initial.sink) (g.S.Sink.faults l.sink)
    (g.S.Sink.spare l.initial.sink) (g.S.Sink.spare l.sink) (flat_map (λ part. part.now) l.parts) (flat_map (λ part. part.now) (drop l.part-index l.parts))
