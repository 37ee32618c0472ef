-- What is known of the parts of statements, or why it isn't.
use Rattle.std.specs.Prelude.{Bool, true, false, List, Result, Ok, Err}
use Rattle.sv_types.specs.declared.expression.Expr.{Expr}
use Rattle.sv_types.specs.Surroundings.{Use, Write}
use Rattle.sv_types.specs.Flows as F
use Rattle.sv_types.specs.Flows.{Flow}
use Rattle.flow_sets.specs.declared.found.Found.{Found}
use Rattle.flow_sets.specs.Ends.{AreKnown}
use Rattle.flow_sets.specs.Flows.{IsFlow}
use Rattle.expr_flows.specs.declared.fails.FlowFail.{FlowFail}
use Rattle.expr_flows.specs.declared.known.Known.{Known}
use Rattle.expr_flows.specs.Targets.{TargetsFail}

-- what is known of a part with these expressions, or that one of them holds a constant index whose value takes too long
abbrev pub FlowGives : Result Found FlowFail → Known → List Expr → Flow → Type 0
FlowGives (Ok r) k es f = AreKnown r.ends × IsFlow r f
FlowGives (Err x) k es f = TargetsFail x k es

-- reads, and then writes, now or later
abbrev pub written : Bool → List Use → List Write → Flow
written false us ws = F.and_then (F.reading us) (F.writing ws)
written true us ws = F.and_then (F.reading us) (F.writing_later ws)
