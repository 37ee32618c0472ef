use Rattle.std.proofs.Common.{arith}
use Rattle.sv_types.specs.Layouts.{layout}
use Rattle.sv_types.specs.Operators.{parts_of}
use Rattle.eval_parts.specs.Targets.{marks_of_parts}
use Rattle.form_lower.proofs.Placing.{first-more}
use Rattle.form_lower.proofs.places.is_whole.Goals as goal

pub loop-i-preserved : goal.loop-i-preserved
loop-i-preserved c =
    let more = first-more c.loop-i.i (marks_of_parts (parts_of (layout c.args.of.now))) _ c.in-Some.ensures.0 in
    omega (arith, more)
