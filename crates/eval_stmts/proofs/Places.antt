-- The greatest places of statements, one level at a time.
use Rattle.std.proofs.Common.{◌≡◌, ℕ, max, Bool, List, map, Option, Some, None, rules}
use Rattle.sv_types.specs.declared.expression.Expr.{Expr}
use Rattle.sv_types.specs.declared.statement.CaseKind.{CaseKind}
use Rattle.sv_types.specs.declared.statement.Local.{Local}
use Rattle.sv_types.specs.declared.statement.Stmt.{Stmt, the_lemmas}
use Rattle.sv_types.specs.declared.statement.Stmt.TheVariants as V
use Rattle.sv_types.specs.declared.statement.CaseItem.{CaseItem, fold-CaseItem}
use Rattle.sv_source.specs.declared.token.Spot.{Spot}
use Rattle.sv_types.specs.Meanings.{most}
use Rattle.sv_types.specs.Operators.{width_of_all}
use Rattle.sv_types.specs.Expressions.{meaning}
use Rattle.eval_stmts.specs.Limits.{width_of_locals, place_step, item_step, widest_place}

abbrev pub item_place : CaseItem → ℕ
item_place = fold-CaseItem ℕ ℕ place_step item_step

abbrev pub perhaps_place : Option Stmt → ℕ
perhaps_place None = 0
perhaps_place (Some s) = widest_place s

pub place-Block : (ls : List Local) (ss : List Stmt) → widest_place (V.Block ls ss) ≡ max (width_of_locals ls) (most (map widest_place ss))
place-Block ls ss = search (rules, the_lemmas)

pub place-If : (on : Expr) (body : Stmt) (other : Option Stmt) → widest_place (V.If on body other) ≡ max (widest_place body) (perhaps_place other)
place-If on body None = search (rules, the_lemmas)
place-If on body (Some s) = search (rules, the_lemmas)

pub place-Case : (kind : CaseKind) (on : Expr) (is : List CaseItem) (other : Option Stmt) → widest_place (V.Case kind on is other) ≡ max (most (map item_place is)) (perhaps_place other)
place-Case kind on is None = search (rules, the_lemmas)
place-Case kind on is (Some s) = search (rules, the_lemmas)

pub place-Loop : (n : ℕ) (first test step : Expr) (body : Stmt) (spot : Spot) → widest_place (V.Loop n first test step body spot) ≡ widest_place body
place-Loop n first test step body spot = search (rules, the_lemmas)

pub place-Assign : (to : List Expr) (value : Expr) (later : Bool) (spot : Spot) → widest_place (V.Assign to value later spot) ≡ width_of_all (map meaning to)
place-Assign to value later spot = search (rules, the_lemmas)

pub place-Made : (ls : List Local) (before : List Stmt) (body : Option Stmt) → widest_place (V.Made ls before body) ≡ max (width_of_locals ls) (max (most (map widest_place before)) (perhaps_place body))
place-Made ls before None = search (rules, the_lemmas)
place-Made ls before (Some s) = search (rules, the_lemmas)

pub item-place : (i : CaseItem) → item_place i ≡ widest_place i.body
item-place i = search (rules, the_lemmas)
