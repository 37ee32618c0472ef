-- Statements in which no call passes more than there are formals.
use Rattle.std.specs.Prelude.{ℕ, Bool, true, ◌&&◌, List, [], ◌∷◌, flat_map, map, Option, Some, None}
use Rattle.sv_types.specs.declared.expression.Expr.{Expr}
use Rattle.sv_types.specs.declared.statement.Local.{Local}
use Rattle.sv_types.specs.declared.statement.Stmt.{Stmt, Stmt-F, fold-Stmt}
use Rattle.sv_types.specs.declared.statement.CaseItem.{CaseItem, CaseItem-F, fold-CaseItem}
use Rattle.sv_types.specs.Surroundings.{Parameter}
use Rattle.expr_flows.specs.Full.{all_full, every}

-- what locals start with, where that is written
abbrev pub written_start : Local → List Expr
written_start l = elim l.initial [ None ↦ [] | Some e ↦ e ∷ [] ]

abbrev pub written_starts : List Local → List Expr
written_starts ls = flat_map written_start ls

abbrev pub or_true : Option Bool → Bool
or_true None = true
or_true (Some b) = b

abbrev pub full_step : (ℕ → List Parameter) → Stmt-F Bool Bool → Bool
full_step fs (Stmt-F.Block locals body) = all_full fs (written_starts locals) && every body
full_step fs (Stmt-F.If on body other) = all_full fs (on ∷ []) && (body && or_true other)
full_step fs (Stmt-F.Case kind on items other) = all_full fs (on ∷ []) && (every items && or_true other)
full_step fs (Stmt-F.Loop n first test step body spot) = all_full fs (first ∷ test ∷ step ∷ []) && body
full_step fs (Stmt-F.Assign to value later spot) = all_full fs (value ∷ to)
full_step fs (Stmt-F.Call f actuals spot) = all_full fs actuals
full_step fs (Stmt-F.Made locals before body) = all_full fs (written_starts locals) && (every before && or_true body)
full_step fs Stmt-F.Break = true
full_step fs Stmt-F.Continue = true
full_step fs Stmt-F.Return = true

abbrev pub full_item : (ℕ → List Parameter) → CaseItem-F Bool Bool → Bool
full_item fs i = all_full fs i.values && i.body

abbrev pub stmt_full : (ℕ → List Parameter) → Stmt → Bool
stmt_full fs = fold-Stmt Bool Bool (full_step fs) (full_item fs)

abbrev pub item_full : (ℕ → List Parameter) → CaseItem → Bool
item_full fs = fold-CaseItem Bool Bool (full_step fs) (full_item fs)

-- a statement that may be left out, statements in order, and the items of a `case`
abbrev pub perhaps_full : (ℕ → List Parameter) → Option Stmt → Bool
perhaps_full fs None = true
perhaps_full fs (Some s) = stmt_full fs s

abbrev pub stmts_full : (ℕ → List Parameter) → List Stmt → Bool
stmts_full fs ss = every (map (stmt_full fs) ss)

abbrev pub items_full : (ℕ → List Parameter) → List CaseItem → Bool
items_full fs is = every (map (item_full fs) is)
