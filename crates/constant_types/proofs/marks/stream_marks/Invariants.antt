use Rattle.std.proofs.Common.{◌≡◌, [], drop}
use Rattle.expr_type.specs.Uses.{marks_behind}
use Rattle.constant_types.proofs.marks.stream_marks.Given as goal

abbrev pub invariant-loop-function : goal.invariant-loop-function
invariant-loop-function l = marks_behind l.marks (drop l.function-index l.functions) ≡ marks_behind [] l.functions
