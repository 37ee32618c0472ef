-- Which statements name signals and locals with all their bits, one level at a time.
use Rattle.std.proofs.Common.{◌≡◌, ℕ, Bool, true, ◌&&◌, List, map, Option, Some, None, rules}
use Rattle.std.specs.List.{list_all}
use Rattle.sv_source.specs.declared.token.Spot.{Spot}
use Rattle.sv_types.specs.declared.expression.Expr.{Expr}
use Rattle.sv_types.specs.declared.statement.CaseKind.{CaseKind}
use Rattle.sv_types.specs.declared.statement.Local.{Local}
use Rattle.sv_types.specs.declared.statement.Stmt.{Stmt, the_lemmas}
use Rattle.sv_types.specs.declared.statement.Stmt.TheVariants as V
use Rattle.sv_types.specs.declared.statement.CaseItem.{CaseItem, fold-CaseItem}
use Rattle.sv_types.specs.Surroundings.{local_number}
use Rattle.sv_types.specs.Meanings.{wide}
use Rattle.sv_types.specs.Expressions.{meaning}
use Rattle.flow_laws.specs.Statements.{has_width}
use Rattle.break_laws.specs.Widths.{Widths, every, expr_fits, all_fit, local_fits, stmt_fits, stmt_step, item_step}

module _ (widths : Widths) where
  abbrev pub item_fits : CaseItem → Bool
  item_fits = fold-CaseItem Bool Bool (stmt_step widths) (item_step widths)

  abbrev pub perhaps_fits : Option Stmt → Bool
  perhaps_fits None = true
  perhaps_fits (Some s) = stmt_fits widths s

  pub fits-Block : (ls : List Local) (ss : List Stmt) → stmt_fits widths (V.Block ls ss) ≡ (list_all (local_fits widths) ls && every (map (stmt_fits widths) ss))
  fits-Block ls ss = search (rules, the_lemmas)

  pub fits-If : (on : Expr) (body : Stmt) (other : Option Stmt) → stmt_fits widths (V.If on body other) ≡ (expr_fits widths on && (stmt_fits widths body && perhaps_fits other))
  fits-If on body None = search (rules, the_lemmas)
  fits-If on body (Some s) = search (rules, the_lemmas)

  pub fits-Case : (kind : CaseKind) (on : Expr) (is : List CaseItem) (other : Option Stmt) → stmt_fits widths (V.Case kind on is other) ≡ (expr_fits widths on && (every (map item_fits is) && perhaps_fits other))
  fits-Case kind on is None = search (rules, the_lemmas)
  fits-Case kind on is (Some s) = search (rules, the_lemmas)

  pub fits-Loop : (n : ℕ) (first test step : Expr) (body : Stmt) (spot : Spot)
      → stmt_fits widths (V.Loop n first test step body spot)
      ≡ (has_width (widths (local_number n)) (wide (meaning first)) && (expr_fits widths first && (expr_fits widths test && (expr_fits widths step && stmt_fits widths body))))
  fits-Loop n first test step body spot = search (rules, the_lemmas)

  pub fits-Assign : (to : List Expr) (value : Expr) (later : Bool) (spot : Spot) → stmt_fits widths (V.Assign to value later spot) ≡ (all_fit widths to && expr_fits widths value)
  fits-Assign to value later spot = search (rules, the_lemmas)

  pub fits-Call : (f : ℕ) (es : List Expr) (spot : Spot) → stmt_fits widths (V.Call f es spot) ≡ all_fit widths es
  fits-Call f es spot = search (rules, the_lemmas)

  pub fits-Made : (ls : List Local) (ss : List Stmt) (body : Option Stmt)
      → stmt_fits widths (V.Made ls ss body) ≡ (list_all (local_fits widths) ls && (every (map (stmt_fits widths) ss) && perhaps_fits body))
  fits-Made ls ss None = search (rules, the_lemmas)
  fits-Made ls ss (Some s) = search (rules, the_lemmas)

  pub fits-item : (i : CaseItem) → item_fits i ≡ (all_fit widths i.values && stmt_fits widths i.body)
  fits-item i = search (rules, the_lemmas)
