-- What is known of a statement with expressions of its own, once what is known of its parts is.
use Rattle.std.specs.Prelude.{List, Result, Ok, Err}
use Rattle.sv_types.specs.declared.expression.Expr.{Expr}
use Rattle.sv_types.specs.declared.statement.Local.{Local}
use Rattle.sv_types.specs.Flows.{Flow}
use Rattle.flow_sets.specs.declared.found.Found.{Found}
use Rattle.flow_sets.specs.Ends.{AreKnown}
use Rattle.flow_sets.specs.Flows.{IsFlow}
use Rattle.expr_flows.specs.declared.known.Known.{Known}
use Rattle.expr_flows.specs.Known.{sight}
use Rattle.stmt_flows.specs.declared.fails.StmtFail.{StmtFail}
use Rattle.stmt_flows.specs.Fails.{Fails}
use Rattle.stmt_flows.specs.Full.{written_starts}
use Rattle.stmt_flows.specs.Long.{SomeHoldLong}

abbrev pub OwnGives : Result Found StmtFail → Known → List Expr → Flow → Type 0
OwnGives (Ok r) k es f = AreKnown r.ends × IsFlow r f
OwnGives (Err x) k es f = Fails x (SomeHoldLong (sight k) es)

abbrev pub ScopeGives : Result Found StmtFail → Known → List Local → Flow → Type 0
ScopeGives r k ls f = OwnGives r k (written_starts ls) f
