-- How many statements there are in a statement.
use Rattle.std.proofs.Common.{◌≡◌, ℕ, suc, ◌+◌, List, map, Option, Some, None, rules}
use Rattle.sv_types.specs.declared.expression.Expr.{Expr}
use Rattle.sv_types.specs.declared.statement.CaseKind.{CaseKind}
use Rattle.sv_types.specs.declared.statement.Local.{Local}
use Rattle.sv_types.specs.declared.statement.Stmt.{Stmt, Stmt-F, fold-Stmt, the_lemmas}
use Rattle.sv_types.specs.declared.statement.Stmt.TheVariants as V
use Rattle.sv_types.specs.declared.statement.CaseItem.{CaseItem, CaseItem-F, fold-CaseItem}
use Rattle.sv_source.specs.declared.token.Spot.{Spot}
use Rattle.sv_types.specs.Meanings.{total}
use Rattle.eval_stmts.specs.Limits.{or_zero}

abbrev node_step : Stmt-F ℕ ℕ → ℕ
node_step (Stmt-F.Block locals body) = suc (total body)
node_step (Stmt-F.If on body other) = suc (body + or_zero other)
node_step (Stmt-F.Case kind on items other) = suc (total items + or_zero other)
node_step (Stmt-F.Loop n first test step body spot) = suc body
node_step (Stmt-F.Assign to value later spot) = 1
node_step (Stmt-F.Call f actuals spot) = 1
node_step (Stmt-F.Made locals before body) = suc (total before + or_zero body)
node_step Stmt-F.Break = 1
node_step Stmt-F.Continue = 1
node_step Stmt-F.Return = 1

abbrev item_step : CaseItem-F ℕ ℕ → ℕ
item_step i = i.body

abbrev pub nodes : Stmt → ℕ
nodes = fold-Stmt ℕ ℕ node_step item_step

abbrev pub item_nodes : CaseItem → ℕ
item_nodes = fold-CaseItem ℕ ℕ node_step item_step

abbrev pub perhaps_nodes : Option Stmt → ℕ
perhaps_nodes None = 0
perhaps_nodes (Some s) = nodes s

pub nodes-Block : (ls : List Local) (ss : List Stmt) → nodes (V.Block ls ss) ≡ suc (total (map nodes ss))
nodes-Block ls ss = search (rules, the_lemmas)

pub nodes-If : (on : Expr) (body : Stmt) (other : Option Stmt) → nodes (V.If on body other) ≡ suc (nodes body + perhaps_nodes other)
nodes-If on body None = search (rules, the_lemmas)
nodes-If on body (Some s) = search (rules, the_lemmas)

pub nodes-Case : (kind : CaseKind) (on : Expr) (is : List CaseItem) (other : Option Stmt) → nodes (V.Case kind on is other) ≡ suc (total (map item_nodes is) + perhaps_nodes other)
nodes-Case kind on is None = search (rules, the_lemmas)
nodes-Case kind on is (Some s) = search (rules, the_lemmas)

pub nodes-Loop : (n : ℕ) (first test step : Expr) (body : Stmt) (spot : Spot) → nodes (V.Loop n first test step body spot) ≡ suc (nodes body)
nodes-Loop n first test step body spot = search (rules, the_lemmas)

pub nodes-Made : (ls : List Local) (before : List Stmt) (body : Option Stmt) → nodes (V.Made ls before body) ≡ suc (total (map nodes before) + perhaps_nodes body)
nodes-Made ls before None = search (rules, the_lemmas)
nodes-Made ls before (Some s) = search (rules, the_lemmas)

pub item-nodes : (i : CaseItem) → item_nodes i ≡ nodes i.body
item-nodes i = search (rules, the_lemmas)
