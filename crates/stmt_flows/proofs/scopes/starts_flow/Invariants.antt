use Rattle.std.proofs.Common.{◌≤◌, drop, length}
use Rattle.sv_types.specs.Flows as F
use Rattle.sv_types.specs.Statements.{scope_flow}
use Rattle.flow_sets.specs.Ends.{AreKnown}
use Rattle.flow_sets.specs.Flows.{IsFlow}
use Rattle.expr_flows.specs.Known.{sight}
use Rattle.stmt_flows.proofs.scopes.starts_flow.Given as goal

abbrev pub invariant-loop-i : goal.invariant-loop-i
invariant-loop-i l = record {
  within : l.i ≤ length l.locals;
  known : AreKnown l.found.ends;
  flow : (f : F.Flows) → IsFlow l.fn.body (f (sight l.known)) → IsFlow l.found (scope_flow (drop l.i l.locals) f (sight l.known));
}

abbrev pub decreases-loop-i : goal.decreases-loop-i
decreases-loop-i l = l.i
