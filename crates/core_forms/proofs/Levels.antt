-- Statements, one level at a time: their core form and their expressions.
use Rattle.std.proofs.Common.{◌≡◌, ℕ, Bool, List, [], ◌∷◌, ◌++◌, map, Option, Some, None, ap, ◌∙◌, rules}
use Rattle.std.specs.Option.{option_map}
use Rattle.sv_source.specs.declared.token.Spot.{Spot}
use Rattle.sv_types.specs.declared.expression.Expr.{Expr}
use Rattle.sv_types.specs.declared.statement.CaseKind.{CaseKind}
use Rattle.sv_types.specs.declared.statement.Local.{Local}
use Rattle.sv_types.specs.declared.statement.Stmt.{Stmt, the_lemmas}
use Rattle.sv_types.specs.declared.statement.Stmt.TheVariants as V
use Rattle.sv_types.specs.declared.statement.CaseItem.{CaseItem}
use Rattle.sv_core.specs.declared.design.Stmt.{Stmt as Core}
use Rattle.core_forms.specs.Forms.{then_two, each, expr_of, target_of, block_of, other_of, if_of, assign_with, stmt_of}
use Rattle.core_forms.specs.Typing.{all_of, none_or, exprs_in}
use Rattle.core_forms.proofs.Gathering.{each-map}

pub of-Block : (ls : List Local) (ss : List Stmt) → stmt_of (V.Block ls ss) ≡ block_of ls (each (λ s. s) (map stmt_of ss))
of-Block ls ss = search (rules, the_lemmas)

pub of-If : (on : Expr) (body : Stmt) (other : Option Stmt) → stmt_of (V.If on body other) ≡ if_of (expr_of on) (stmt_of body) (other_of (option_map stmt_of other))
of-If on body None = search (rules, the_lemmas)
of-If on body (Some s) = search (rules, the_lemmas)

pub of-Case : (kind : CaseKind) (on : Expr) (is : List CaseItem) (other : Option Stmt) → stmt_of (V.Case kind on is other) ≡ None
of-Case kind on is None = search (rules, the_lemmas)
of-Case kind on is (Some s) = search (rules, the_lemmas)

pub of-Loop : (n : ℕ) (first test step : Expr) (body : Stmt) (spot : Spot) → stmt_of (V.Loop n first test step body spot) ≡ None
of-Loop n first test step body spot = search (rules, the_lemmas)

pub of-Assign : (to : List Expr) (value : Expr) (later : Bool) (spot : Spot) → stmt_of (V.Assign to value later spot) ≡ then_two (assign_with later) (target_of to) (expr_of value)
of-Assign to value later spot = search (rules, the_lemmas)

pub of-Call : (f : ℕ) (es : List Expr) (spot : Spot) → stmt_of (V.Call f es spot) ≡ None
of-Call f es spot = search (rules, the_lemmas)

pub of-Made : (ls : List Local) (before : List Stmt) (body : Option Stmt) → stmt_of (V.Made ls before body) ≡ None
of-Made ls before None = search (rules, the_lemmas)
of-Made ls before (Some s) = search (rules, the_lemmas)

pub of-Break : stmt_of V.Break ≡ None
of-Break = search (rules, the_lemmas)

pub of-Continue : stmt_of V.Continue ≡ None
of-Continue = search (rules, the_lemmas)

pub of-Return : stmt_of V.Return ≡ None
of-Return = search (rules, the_lemmas)

pub of-block : (ls : List Local) (ss : List Stmt) → stmt_of (V.Block ls ss) ≡ block_of ls (each stmt_of ss)
of-block ls ss = of-Block ls ss ∙ ap (block_of ls) (each-map (λ s. s) stmt_of ss)

pub ruleset levels = (of-block, of-If, of-Case, of-Loop, of-Assign, of-Call, of-Made, of-Break, of-Continue, of-Return)

-- the expressions of a statement
pub in-Block : (ls : List Local) (ss : List Stmt) → exprs_in (V.Block ls ss) ≡ all_of (map exprs_in ss)
in-Block ls ss = search (rules, the_lemmas)

pub in-If : (on : Expr) (body : Stmt) (other : Option Stmt) → exprs_in (V.If on body other) ≡ on ∷ (exprs_in body ++ none_or (option_map exprs_in other))
in-If on body None = search (rules, the_lemmas)
in-If on body (Some s) = search (rules, the_lemmas)

pub in-Assign : (to : List Expr) (value : Expr) (later : Bool) (spot : Spot) → exprs_in (V.Assign to value later spot) ≡ value ∷ to
in-Assign to value later spot = search (rules, the_lemmas)
