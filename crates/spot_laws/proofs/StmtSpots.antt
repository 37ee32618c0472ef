-- The tokens of statements, one level at a time.
use Rattle.std.proofs.Common.{◌≡◌, ℕ, Bool, List, [], ◌∷◌, ◌++◌, map, Option, Some, None, rules}
use Rattle.sv_source.specs.declared.token.Spot.{Spot}
use Rattle.sv_types.specs.declared.expression.Expr.{Expr}
use Rattle.sv_types.specs.declared.statement.CaseKind.{CaseKind}
use Rattle.sv_types.specs.declared.statement.Local.{Local}
use Rattle.sv_types.specs.declared.statement.Stmt.{Stmt, the_lemmas}
use Rattle.sv_types.specs.declared.statement.Stmt.TheVariants as V
use Rattle.sv_types.specs.declared.statement.CaseItem.{CaseItem, fold-CaseItem}
use Rattle.design_breaks.specs.Unrolling.{starts_of}
use Rattle.design_breaks.specs.Spots.{Spots, all, or_none, stmt_step, item_step, expr_spots, exprs_spots, stmt_spots}

abbrev pub item_spots : CaseItem → Spots
item_spots = fold-CaseItem Spots Spots stmt_step item_step

abbrev pub perhaps : Option Stmt → Option Spots
perhaps None = None
perhaps (Some s) = Some (stmt_spots s)

pub spots-Block : (ls : List Local) (ss : List Stmt) → stmt_spots (V.Block ls ss) ≡ exprs_spots (starts_of ls) ++ all (map stmt_spots ss)
spots-Block ls ss = search (rules, the_lemmas)

pub spots-If : (on : Expr) (body : Stmt) (other : Option Stmt) → stmt_spots (V.If on body other) ≡ expr_spots on ++ (stmt_spots body ++ or_none (perhaps other))
spots-If on body None = search (rules, the_lemmas)
spots-If on body (Some s) = search (rules, the_lemmas)

pub spots-Case : (kind : CaseKind) (on : Expr) (is : List CaseItem) (other : Option Stmt)
    → stmt_spots (V.Case kind on is other) ≡ expr_spots on ++ (all (map item_spots is) ++ or_none (perhaps other))
spots-Case kind on is None = search (rules, the_lemmas)
spots-Case kind on is (Some s) = search (rules, the_lemmas)

pub spots-Loop : (n : ℕ) (first test step : Expr) (body : Stmt) (spot : Spot)
    → stmt_spots (V.Loop n first test step body spot) ≡ spot ∷ (exprs_spots (first ∷ test ∷ step ∷ []) ++ stmt_spots body)
spots-Loop n first test step body spot = search (rules, the_lemmas)

pub spots-Assign : (to : List Expr) (value : Expr) (later : Bool) (spot : Spot) → stmt_spots (V.Assign to value later spot) ≡ spot ∷ exprs_spots (to ++ value ∷ [])
spots-Assign to value later spot = search (rules, the_lemmas)

pub spots-Call : (f : ℕ) (es : List Expr) (spot : Spot) → stmt_spots (V.Call f es spot) ≡ spot ∷ exprs_spots es
spots-Call f es spot = search (rules, the_lemmas)

pub spots-Made : (ls : List Local) (before : List Stmt) (body : Option Stmt)
    → stmt_spots (V.Made ls before body) ≡ exprs_spots (starts_of ls) ++ (all (map stmt_spots before) ++ or_none (perhaps body))
spots-Made ls before None = search (rules, the_lemmas)
spots-Made ls before (Some s) = search (rules, the_lemmas)

pub spots-Break : stmt_spots V.Break ≡ []
spots-Break = search (rules, the_lemmas)

pub spots-Continue : stmt_spots V.Continue ≡ []
spots-Continue = search (rules, the_lemmas)

pub spots-Return : stmt_spots V.Return ≡ []
spots-Return = search (rules, the_lemmas)

pub spots-of-item : (i : CaseItem) → item_spots i ≡ exprs_spots i.values ++ stmt_spots i.body
spots-of-item i = search (rules, the_lemmas)
