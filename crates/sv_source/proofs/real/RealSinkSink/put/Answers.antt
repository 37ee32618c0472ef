use Rattle.std.proofs.Common.{arith}
use Rattle.std.proofs.lemmas.Grind.{common_steps}
use Rattle.sv_source.proofs.Streams.{writing_more}
use Rattle.sv_source.proofs.real.RealSinkSink.put.Goals as goal

pub loop-rest-preserved : goal.loop-rest-preserved
loop-rest-preserved g c = record {
  within = grind (arith, common_steps);
  level = c.loop-rest.invariant.level;
  written = writing_more _ _ _ _ _ _ c.in-Ok.count (grind (arith, common_steps)) c.loop-rest.invariant.written c.in-Ok.ensures.bytes;
}
