use Rattle.std.proofs.Common.{◌≡◌, length}
use Rattle.sv_preproc.specs.Code.{whole}
use Rattle.sv_preproc.specs.Left.{heft, Ready}
use Rattle.sv_preproc.proofs.Reaching.{ReachesFrom}
use Rattle.sv_preproc.proofs.expansion.expand.Given as goal

abbrev pub invariant-loop-state : goal.invariant-loop-state
invariant-loop-state g l = record {
  ready : Ready (length l.set.files) (whole l.state);
  same : g.F.Files.contents l.files ≡ g.F.Files.contents l.initial.files;
  level : g.F.Files.faults l.files ≡ g.F.Files.faults l.initial.files;
  reaches : ReachesFrom l.set (g.F.Files.contents l.initial.files) (whole l.state);
}

abbrev pub decreases-loop-state : goal.decreases-loop-state
decreases-loop-state g l = heft (length l.set.files) (whole l.state)
