-- What statements do, one level at a time.
use Rattle.std.proofs.Common.{◌≡◌, ℕ, Bool, List, map, Option, Some, None, rules}
use Rattle.sv_types.specs.declared.expression.Expr.{Expr}
use Rattle.sv_types.specs.declared.statement.CaseKind.{CaseKind}
use Rattle.sv_types.specs.declared.statement.Local.{Local}
use Rattle.sv_types.specs.declared.statement.Stmt.{Stmt, the_lemmas}
use Rattle.sv_types.specs.declared.statement.Stmt.TheVariants as V
use Rattle.sv_types.specs.declared.statement.CaseItem.{CaseItem, fold-CaseItem}
use Rattle.sv_source.specs.declared.token.Spot.{Spot}
use Rattle.sv_types.specs.Expressions.{meaning}
use Rattle.sv_types.specs.Statements.{Doing, Item, doing, stmt_step, item_step, counted, scope, branching, selecting, looping, assigning, calling, made, jumping}
use Rattle.sv_types.specs.declared.statement.Outcome.TheVariants as O

-- the item of a `case` as its statement sees it
abbrev pub item_of : CaseItem → Item
item_of = fold-CaseItem Doing Item stmt_step item_step

-- a statement that may be left out
abbrev pub perhaps : Option Stmt → Option Doing
perhaps None = None
perhaps (Some s) = Some (doing s)

pub doing-Block : (ls : List Local) (ss : List Stmt) → doing (V.Block ls ss) ≡ counted (scope ls (map doing ss))
doing-Block ls ss = search (rules, the_lemmas)

pub doing-If : (on : Expr) (body : Stmt) (other : Option Stmt) → doing (V.If on body other) ≡ counted (branching (meaning on) (doing body) (perhaps other))
doing-If on body None = search (rules, the_lemmas)
doing-If on body (Some s) = search (rules, the_lemmas)

pub doing-Case : (kind : CaseKind) (on : Expr) (is : List CaseItem) (other : Option Stmt)
    → doing (V.Case kind on is other) ≡ counted (selecting kind (meaning on) (map item_of is) (perhaps other))
doing-Case kind on is None = search (rules, the_lemmas)
doing-Case kind on is (Some s) = search (rules, the_lemmas)

pub doing-Loop : (n : ℕ) (first test step : Expr) (body : Stmt) (spot : Spot)
    → doing (V.Loop n first test step body spot) ≡ looping n (meaning first) (meaning test) (meaning step) (doing body)
doing-Loop n first test step body spot = search (rules, the_lemmas)

pub doing-Assign : (to : List Expr) (value : Expr) (later : Bool) (spot : Spot)
    → doing (V.Assign to value later spot) ≡ counted (assigning (map meaning to) (meaning value) later)
doing-Assign to value later spot = search (rules, the_lemmas)

pub doing-Call : (f : ℕ) (es : List Expr) (spot : Spot) → doing (V.Call f es spot) ≡ counted (calling f (map meaning es))
doing-Call f es spot = search (rules, the_lemmas)

pub doing-Made : (ls : List Local) (before : List Stmt) (body : Option Stmt) → doing (V.Made ls before body) ≡ made ls (map doing before) (perhaps body)
doing-Made ls before None = search (rules, the_lemmas)
doing-Made ls before (Some s) = search (rules, the_lemmas)

pub doing-Break : doing V.Break ≡ counted (jumping O.Break)
doing-Break = search (rules, the_lemmas)

pub doing-Continue : doing V.Continue ≡ counted (jumping O.Continue)
doing-Continue = search (rules, the_lemmas)

pub doing-Return : doing V.Return ≡ counted (jumping O.Return)
doing-Return = search (rules, the_lemmas)

pub item-of : (i : CaseItem) → item_of i ≡ record { values = map meaning i.values; does = doing i.body }
item-of i = search (rules, the_lemmas)
