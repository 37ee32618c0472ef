use Rattle.std.proofs.Common.{◌≡◌, ◌+◌}
use Rattle.sv_types.specs.Layouts.{layout, width_of}
use Rattle.sv_types.specs.Operators.{parts_of}
use Rattle.eval_parts.specs.Targets.{marks_of_parts}
use Rattle.form_lower.specs.Places.{bits_of_first}
use Rattle.form_lower.proofs.places.is_whole.Given as goal

abbrev pub invariant-loop-i : goal.invariant-loop-i
invariant-loop-i l = l.rest + bits_of_first l.i (marks_of_parts (parts_of (layout l.fn.of))) ≡ width_of l.fn.of
