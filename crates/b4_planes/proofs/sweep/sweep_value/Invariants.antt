use Rattle.std.proofs.Common.{length, ◌-◌, ◌≤◌}
use Rattle.std.specs.Simd.Lanes.{zip2}
use Rattle.b4_planes.proofs.Swept.{Swept}
use Rattle.b4_planes.proofs.sweep.sweep_value.Given as goal

abbrev pub invariant-chunks : goal.invariant-chunks
invariant-chunks g l = record {
  within : l.at ≤ length l.initial.a;
  values : Swept l.at (zip2 g.K.ValueKernel.value l.initial.a l.u) l.initial.a l.a;
}

abbrev pub decreases-chunks : goal.decreases-chunks
decreases-chunks g l = length l.initial.a - l.at

abbrev pub invariant-rest : goal.invariant-rest
invariant-rest g l = record {
  within : l.at ≤ length l.fn.a;
  values : Swept l.at (zip2 g.K.ValueKernel.value l.fn.a l.u) l.fn.a l.a;
}

abbrev pub decreases-rest : goal.decreases-rest
decreases-rest g l = length l.initial.a - l.at
