use Rattle.std.proofs.Common.{length}
use Rattle.eval_parts.specs.Targets.{marks_of}
use Rattle.form_lower.specs.Places.{are_joined}
use Rattle.form_lower.proofs.Placing.{IsDone}
use Rattle.form_lower.proofs.places.all_placed.Given as goal

abbrev pub invariant-loop-part : goal.invariant-loop-part
invariant-loop-part l = IsDone (are_joined l.places) (marks_of l.places) l.items l.fn.parts l.rest l.initial.helpers l.helpers l.made

abbrev pub decreases-loop-part : goal.decreases-loop-part
decreases-loop-part l = length l.rest
