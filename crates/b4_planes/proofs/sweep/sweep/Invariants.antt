use Rattle.std.proofs.Common.{length, ◌-◌, ◌≤◌}
use Rattle.b4_planes.specs.Words.{words4}
use Rattle.b4_planes.proofs.Swept.{Swept}
use Rattle.b4_planes.proofs.sweep.sweep.Given as goal

abbrev pub invariant-chunks : goal.invariant-chunks
invariant-chunks g l = record {
  within : l.at ≤ length l.initial.a;
  values : Swept l.at (words4 g.K.Kernel.value l.initial.a l.initial.u l.b l.v) l.initial.a l.a;
  unknowns : Swept l.at (words4 g.K.Kernel.unknown l.initial.a l.initial.u l.b l.v) l.initial.u l.u;
}

abbrev pub decreases-chunks : goal.decreases-chunks
decreases-chunks g l = length l.initial.a - l.at

abbrev pub invariant-rest : goal.invariant-rest
invariant-rest g l = record {
  within : l.at ≤ length l.fn.a;
  values : Swept l.at (words4 g.K.Kernel.value l.fn.a l.fn.u l.b l.v) l.fn.a l.a;
  unknowns : Swept l.at (words4 g.K.Kernel.unknown l.fn.a l.fn.u l.b l.v) l.fn.u l.u;
}

abbrev pub decreases-rest : goal.decreases-rest
decreases-rest g l = length l.initial.a - l.at
