use Rattle.std.proofs.Common.{◌≡◌, length}
use Rattle.sv_macro.specs.Lines.{behind_lines}
use Rattle.sv_macro.proofs.lines.skip_lines.Given as goal

abbrev pub invariant-loop-coming : goal.invariant-loop-coming
invariant-loop-coming l = behind_lines l.coming ≡ behind_lines l.initial.coming

abbrev pub decreases-loop-coming : goal.decreases-loop-coming
decreases-loop-coming l = length l.coming
