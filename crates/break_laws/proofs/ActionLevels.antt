-- What statements say, one level at a time.
use Rattle.std.proofs.Common.{◌≡◌, ℕ, Bool, List, [], ◌∷◌, ◌++◌, map, Option, Some, None, rules}
use Rattle.sv_source.specs.declared.token.Spot.{Spot}
use Rattle.sv_types.specs.declared.expression.Expr.{Expr}
use Rattle.sv_types.specs.declared.statement.CaseKind.{CaseKind}
use Rattle.sv_types.specs.declared.statement.Local.{Local}
use Rattle.sv_types.specs.declared.statement.Stmt.{Stmt, the_lemmas}
use Rattle.sv_types.specs.declared.statement.Stmt.TheVariants as V
use Rattle.sv_types.specs.declared.statement.CaseItem.{CaseItem, fold-CaseItem}
use Rattle.design_breaks.specs.Unrolling.{Control, starts_of}
use Rattle.design_breaks.specs.Actions.{Actions, Item, actions, stmt_step, item_step, saying, counted, together, none_or, item_values, item_bodies, assigning, calling, looping, made}

-- the item of a `case`
abbrev pub item_actions : CaseItem → Item
item_actions = fold-CaseItem Actions Item stmt_step item_step

-- a statement that may be left out
abbrev pub perhaps : Option Stmt → Option Actions
perhaps None = None
perhaps (Some s) = Some (actions s)

abbrev pub control_of : ℕ → Expr → Expr → Expr → Spot → Control
control_of n first test step spot = record { at = spot.at; variable = n; first = first; test = test; step = step }

pub actions-Block : (ls : List Local) (ss : List Stmt) → actions (V.Block ls ss) ≡ counted (together (starts_of ls) (map actions ss))
actions-Block ls ss = search (rules, the_lemmas)

pub actions-If : (on : Expr) (body : Stmt) (other : Option Stmt) → actions (V.If on body other) ≡ counted (together (on ∷ []) (actions body ∷ none_or (perhaps other)))
actions-If on body None = search (rules, the_lemmas)
actions-If on body (Some s) = search (rules, the_lemmas)

pub actions-Case : (kind : CaseKind) (on : Expr) (is : List CaseItem) (other : Option Stmt)
    → actions (V.Case kind on is other) ≡ counted (together (on ∷ item_values (map item_actions is)) (item_bodies (map item_actions is) ++ none_or (perhaps other)))
actions-Case kind on is None = search (rules, the_lemmas)
actions-Case kind on is (Some s) = search (rules, the_lemmas)

pub actions-Loop : (n : ℕ) (first test step : Expr) (body : Stmt) (spot : Spot)
    → actions (V.Loop n first test step body spot) ≡ looping (control_of n first test step spot) (actions body)
actions-Loop n first test step body spot = search (rules, the_lemmas)

pub actions-Assign : (to : List Expr) (value : Expr) (later : Bool) (spot : Spot) → actions (V.Assign to value later spot) ≡ counted (assigning to value later spot.at)
actions-Assign to value later spot = search (rules, the_lemmas)

pub actions-Call : (f : ℕ) (es : List Expr) (spot : Spot) → actions (V.Call f es spot) ≡ counted (calling f es)
actions-Call f es spot = search (rules, the_lemmas)

pub actions-Made : (ls : List Local) (before : List Stmt) (body : Option Stmt)
    → actions (V.Made ls before body) ≡ made ls (map actions before) (perhaps body)
actions-Made ls before None = search (rules, the_lemmas)
actions-Made ls before (Some s) = search (rules, the_lemmas)

pub actions-Break : actions V.Break ≡ counted (saying [])
actions-Break = search (rules, the_lemmas)

pub actions-Continue : actions V.Continue ≡ counted (saying [])
actions-Continue = search (rules, the_lemmas)

pub actions-Return : actions V.Return ≡ counted (saying [])
actions-Return = search (rules, the_lemmas)

pub actions-of-item : (i : CaseItem) → item_actions i ≡ record { values = i.values; body = actions i.body }
actions-of-item i = search (rules, the_lemmas)
