-- Statements in which no call of a task or void function passes more than it has formals.
use Rattle.std.specs.Prelude.{ℕ, nat_le, Bool, true, ◌&&◌, List, length, map, Option, Some, None}
use Rattle.sv_types.specs.declared.statement.Stmt.{Stmt, Stmt-F, fold-Stmt}
use Rattle.sv_types.specs.declared.statement.CaseItem.{CaseItem, CaseItem-F, fold-CaseItem}
use Rattle.sv_types.specs.Surroundings.{Parameter}
use Rattle.expr_flows.specs.Full.{every}
use Rattle.stmt_flows.specs.Full.{or_true}

abbrev pub few_step : (ℕ → List Parameter) → Stmt-F Bool Bool → Bool
few_step fs (Stmt-F.Block locals body) = every body
few_step fs (Stmt-F.If on body other) = body && or_true other
few_step fs (Stmt-F.Case kind on items other) = every items && or_true other
few_step fs (Stmt-F.Loop n first test step body spot) = body
few_step fs (Stmt-F.Assign to value later spot) = true
few_step fs (Stmt-F.Call f actuals spot) = nat_le (length actuals) (length (fs f))
few_step fs (Stmt-F.Made locals before body) = every before && or_true body
few_step fs Stmt-F.Break = true
few_step fs Stmt-F.Continue = true
few_step fs Stmt-F.Return = true

abbrev pub few_item : CaseItem-F Bool Bool → Bool
few_item i = i.body

abbrev pub passes_few : (ℕ → List Parameter) → Stmt → Bool
passes_few fs = fold-Stmt Bool Bool (few_step fs) few_item

abbrev pub item_passes_few : (ℕ → List Parameter) → CaseItem → Bool
item_passes_few fs = fold-CaseItem Bool Bool (few_step fs) few_item

-- statements in order, and one that may be left out
abbrev pub all_pass_few : (ℕ → List Parameter) → List Stmt → Bool
all_pass_few fs ss = every (map (passes_few fs) ss)

abbrev pub perhaps_passes_few : (ℕ → List Parameter) → Option Stmt → Bool
perhaps_passes_few fs None = true
perhaps_passes_few fs (Some s) = passes_few fs s
