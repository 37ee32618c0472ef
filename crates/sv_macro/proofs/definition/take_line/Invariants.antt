use Rattle.std.proofs.Common.{◌≡◌, ◌++◌, length}
use Rattle.sv_macro.specs.Definitions.{line_of, behind_line}
use Rattle.sv_macro.proofs.definition.take_line.Given as goal

abbrev pub invariant-loop-coming : goal.invariant-loop-coming
invariant-loop-coming l = (l.line ++ line_of l.coming ≡ line_of l.initial.coming) × (behind_line l.coming ≡ behind_line l.initial.coming)

abbrev pub decreases-loop-coming : goal.decreases-loop-coming
decreases-loop-coming l = length l.coming
