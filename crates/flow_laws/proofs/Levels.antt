-- Which statements have the variables of loops, one level at a time.
use Rattle.std.proofs.Common.{◌≡◌, ℕ, Bool, true, ◌&&◌, List, map, Option, Some, None, rules}
use Rattle.std.specs.List.{list_all}
use Rattle.sv_source.specs.declared.token.Spot.{Spot}
use Rattle.sv_types.specs.declared.expression.Expr.{Expr}
use Rattle.sv_types.specs.declared.statement.CaseKind.{CaseKind}
use Rattle.sv_types.specs.declared.statement.Local.{Local}
use Rattle.sv_types.specs.declared.statement.Stmt.{Stmt, the_lemmas}
use Rattle.sv_types.specs.declared.statement.Stmt.TheVariants as V
use Rattle.sv_types.specs.declared.statement.CaseItem.{CaseItem, fold-CaseItem}
use Rattle.sv_types.specs.Surroundings.{local_number}
use Rattle.sv_types.specs.Meanings.{wide}
use Rattle.sv_types.specs.Expressions.{meaning}
use Rattle.flow_laws.specs.Runs.{Variables}
use Rattle.flow_laws.specs.Statements.{has_variables, has_width, is_plain, stmt_step, item_step}

module _ (vars : Variables) where
  abbrev pub item_has : CaseItem → Bool
  item_has = fold-CaseItem Bool Bool (stmt_step vars) item_step

  abbrev pub perhaps_has : Option Stmt → Bool
  perhaps_has None = true
  perhaps_has (Some s) = has_variables vars s

  pub has-Block : (ls : List Local) (ss : List Stmt) → has_variables vars (V.Block ls ss) ≡ (list_all (is_plain vars) ls && list_all (λ b. b) (map (has_variables vars) ss))
  has-Block ls ss = search (rules, the_lemmas)

  pub has-If : (on : Expr) (body : Stmt) (other : Option Stmt) → has_variables vars (V.If on body other) ≡ (has_variables vars body && perhaps_has other)
  has-If on body None = search (rules, the_lemmas)
  has-If on body (Some s) = search (rules, the_lemmas)

  pub has-Case : (kind : CaseKind) (on : Expr) (is : List CaseItem) (other : Option Stmt) → has_variables vars (V.Case kind on is other) ≡ (list_all (λ b. b) (map item_has is) && perhaps_has other)
  has-Case kind on is None = search (rules, the_lemmas)
  has-Case kind on is (Some s) = search (rules, the_lemmas)

  pub has-Loop : (n : ℕ) (first test step : Expr) (body : Stmt) (spot : Spot)
      → has_variables vars (V.Loop n first test step body spot) ≡ (has_width (vars (local_number n)) (wide (meaning first)) && has_variables vars body)
  has-Loop n first test step body spot = search (rules, the_lemmas)

  pub has-Made : (ls : List Local) (ss : List Stmt) (body : Option Stmt)
      → has_variables vars (V.Made ls ss body) ≡ (list_all (is_plain vars) ls && (list_all (λ b. b) (map (has_variables vars) ss) && perhaps_has body))
  has-Made ls ss None = search (rules, the_lemmas)
  has-Made ls ss (Some s) = search (rules, the_lemmas)

  pub has-item : (i : CaseItem) → item_has i ≡ has_variables vars i.body
  has-item i = search (rules, the_lemmas)
