use Rattle.std.proofs.Common.{◌≡◌, length}
use Rattle.sv_macro.specs.Shapes.{behind_shapes}
use Rattle.sv_macro.proofs.shapes.take_shapes.Given as goal

abbrev pub invariant-loop-rest : goal.invariant-loop-rest
invariant-loop-rest l = behind_shapes l.rest l.coming ≡ behind_shapes l.shapes l.initial.coming

abbrev pub decreases-loop-rest : goal.decreases-loop-rest
decreases-loop-rest l = length l.rest
