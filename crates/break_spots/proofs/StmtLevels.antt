-- The walk over statements, one level at a time.
use Rattle.std.proofs.Common.{◌≡◌, ℕ, Bool, List, map, Option, Some, None, rules}
use Rattle.sv_source.specs.declared.token.Spot.{Spot}
use Rattle.sv_types.specs.declared.expression.Expr.{Expr}
use Rattle.sv_types.specs.declared.statement.CaseKind.{CaseKind}
use Rattle.sv_types.specs.declared.statement.Local.{Local}
use Rattle.sv_types.specs.declared.statement.Stmt.{Stmt, the_lemmas}
use Rattle.sv_types.specs.declared.statement.Stmt.TheVariants as V
use Rattle.sv_types.specs.declared.statement.CaseItem.{CaseItem}
use Rattle.break_spots.specs.Walk.{Walk, both, in_turn, if_written, look, stay, expr_walk, exprs_walk, initial_walk, item_walk, stmt_walk}

module _ (at : ℕ) where
  abbrev pub perhaps : Option Stmt → Option Walk
  perhaps None = None
  perhaps (Some s) = Some (stmt_walk at s)

  pub walk-Block : (ls : List Local) (ss : List Stmt) → stmt_walk at (V.Block ls ss) ≡ both (in_turn (map (initial_walk at) ls)) (in_turn (map (stmt_walk at) ss))
  walk-Block ls ss = search (rules, the_lemmas)

  pub walk-If : (on : Expr) (body : Stmt) (other : Option Stmt) → stmt_walk at (V.If on body other) ≡ both (expr_walk at on) (both (stmt_walk at body) (if_written (perhaps other)))
  walk-If on body None = search (rules, the_lemmas)
  walk-If on body (Some s) = search (rules, the_lemmas)

  pub walk-Case : (kind : CaseKind) (on : Expr) (is : List CaseItem) (other : Option Stmt)
      → stmt_walk at (V.Case kind on is other) ≡ both (expr_walk at on) (both (in_turn (map (item_walk at) is)) (if_written (perhaps other)))
  walk-Case kind on is None = search (rules, the_lemmas)
  walk-Case kind on is (Some s) = search (rules, the_lemmas)

  pub walk-Loop : (n : ℕ) (first test step : Expr) (body : Stmt) (spot : Spot)
      → stmt_walk at (V.Loop n first test step body spot) ≡ both (look at spot) (both (both (expr_walk at first) (both (expr_walk at test) (expr_walk at step))) (stmt_walk at body))
  walk-Loop n first test step body spot = search (rules, the_lemmas)

  pub walk-Assign : (to : List Expr) (value : Expr) (later : Bool) (spot : Spot)
      → stmt_walk at (V.Assign to value later spot) ≡ both (look at spot) (both (exprs_walk at to) (expr_walk at value))
  walk-Assign to value later spot = search (rules, the_lemmas)

  pub walk-Call : (f : ℕ) (es : List Expr) (spot : Spot) → stmt_walk at (V.Call f es spot) ≡ both (look at spot) (exprs_walk at es)
  walk-Call f es spot = search (rules, the_lemmas)

  pub walk-Made : (ls : List Local) (before : List Stmt) (body : Option Stmt)
      → stmt_walk at (V.Made ls before body) ≡ both (in_turn (map (initial_walk at) ls)) (both (in_turn (map (stmt_walk at) before)) (if_written (perhaps body)))
  walk-Made ls before None = search (rules, the_lemmas)
  walk-Made ls before (Some s) = search (rules, the_lemmas)

  pub walk-Break : stmt_walk at V.Break ≡ stay
  walk-Break = search (rules, the_lemmas)

  pub walk-Continue : stmt_walk at V.Continue ≡ stay
  walk-Continue = search (rules, the_lemmas)

  pub walk-Return : stmt_walk at V.Return ≡ stay
  walk-Return = search (rules, the_lemmas)

  pub walk-item : (i : CaseItem) → item_walk at i ≡ both (exprs_walk at i.values) (stmt_walk at i.body)
  walk-item i = search (rules, the_lemmas)
