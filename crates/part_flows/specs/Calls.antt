-- What inputs and outputs of calls read and write.
use Rattle.std.specs.Prelude.{List, [], Result, Ok, Err, map}
use Rattle.bit_sets.specs.declared.span.Use.{Use}
use Rattle.sv_types.specs.declared.expression.Expr.{Expr}
use Rattle.sv_types.specs.declared.statement.Way.{Way}
use Rattle.sv_types.specs.Surroundings.{Parameter}
use Rattle.sv_types.specs.Flows as F
use Rattle.sv_types.specs.Flows.{Flow, reads_in, all_read_in}
use Rattle.flow_sets.specs.declared.found.Found.{Found}
use Rattle.flow_sets.specs.Ends.{AreKnown}
use Rattle.flow_sets.specs.Flows.{IsFlow}
use Rattle.sv_types.specs.Expressions.{meaning}
use Rattle.expr_flows.specs.declared.fails.FlowFail.{FlowFail}
use Rattle.expr_flows.specs.declared.known.Known.{Known}
use Rattle.expr_flows.specs.Known.{sight}
use Rattle.expr_flows.specs.Reads.{ReadFails}
use Rattle.expr_flows.specs.Targets.{TargetsFail}
use Rattle.expr_flows.specs.Traces.{Adds}

abbrev pub InputGives : {T : Type 0} → Result T FlowFail → Known → Way → Expr → List Use → List Use → Type 0
InputGives (Ok u) k way e old new = Adds old new (reads_in way (meaning e) (sight k))
InputGives (Err f) k way e old new = ReadFails f k e

abbrev pub InputsGive : Result (List Use) FlowFail → Known → List Parameter → List Expr → Type 0
InputsGive (Ok us) k ps es = Adds [] us (all_read_in ps (map meaning es) (sight k))
InputsGive (Err f) k ps es = TargetsFail f k es

-- an actual that is taken out
abbrev pub OutputGives : Result Found FlowFail → Known → Expr → Flow → Type 0
OutputGives (Ok r) k e f = AreKnown r.ends × IsFlow r f
OutputGives (Err x) k e f = ReadFails x k e

-- and one that is taken out behind what is known
abbrev pub FurtherGives : Result Found FlowFail → Known → Found → Way → Expr → Type 0
FurtherGives (Ok r) k before way e = AreKnown r.ends × ((f : Flow) → IsFlow before f → IsFlow r (F.and_then f (F.writes_out way (meaning e) (sight k))))
FurtherGives (Err x) k before way e = ReadFails x k e
