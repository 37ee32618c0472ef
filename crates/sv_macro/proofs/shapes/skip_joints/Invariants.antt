use Rattle.std.proofs.Common.{◌≡◌, length}
use Rattle.sv_macro.specs.Shapes.{behind_joints}
use Rattle.sv_macro.proofs.shapes.skip_joints.Given as goal

abbrev pub invariant-loop-coming : goal.invariant-loop-coming
invariant-loop-coming l = behind_joints l.coming ≡ behind_joints l.initial.coming

abbrev pub decreases-loop-coming : goal.decreases-loop-coming
decreases-loop-coming l = length l.coming
