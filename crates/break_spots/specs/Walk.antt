-- The first spot at a token, looked for from left to right.
use Rattle.std.specs.Prelude.{ℕ, Bool, ◌==◌, cond, List, [], ◌∷◌, map, Option, Some, None}
use Rattle.sv_source.specs.declared.token.Spot.{Spot}
use Rattle.sv_source.specs.declared.refusal.Refusal.{Refusal}
use Rattle.sv_types.specs.declared.expression.Expr.{Expr, Expr-F, fold-Expr}
use Rattle.sv_types.specs.declared.expression.Form.{Form-F}
use Rattle.sv_types.specs.declared.expression.Choice.{Choice, Choice-F, fold-Choice}
use Rattle.sv_types.specs.declared.statement.CaseItem.{CaseItem, CaseItem-F, fold-CaseItem}
use Rattle.sv_types.specs.declared.statement.Formal.{Formal}
use Rattle.sv_types.specs.declared.statement.Function.{Function}
use Rattle.sv_types.specs.declared.statement.FunctionKind.{FunctionKind}
use Rattle.sv_types.specs.declared.statement.FunctionKind.TheVariants.{Plain, Routine, Made}
use Rattle.sv_types.specs.declared.statement.Local.{Local}
use Rattle.sv_types.specs.declared.statement.Stmt.{Stmt, Stmt-F, fold-Stmt}
use Rattle.sv_types.specs.declared.design.EdgeOn.{EdgeOn}
use Rattle.sv_types.specs.declared.design.Process.{Process}
use Rattle.sv_types.specs.declared.design.ProcessKind.{ProcessKind}
use Rattle.sv_types.specs.declared.design.ProcessKind.TheVariants.{Continuous, Link, Comb, Latch, Star, Edges}
use Rattle.sv_types.specs.declared.design.Signal.{Signal}
use Rattle.sv_types.specs.declared.design.Design.{Design}

-- what was found before, and is found after some part of the text
abbrev pub Walk : Type 0
Walk = Option Spot → Option Spot

module _ (at : ℕ) where
  abbrev pub look : Spot → Walk
  look s None = cond (s.at == at) (Some s) None
  look s (Some t) = Some t

abbrev pub stay : Walk
stay u = u

abbrev pub both : Walk → Walk → Walk
both f g u = g (f u)

abbrev pub in_turn : List Walk → Walk
in_turn [] u = u
in_turn (w ∷ ws) u = in_turn ws (w u)

abbrev pub if_written : Option Walk → Walk
if_written None u = u
if_written (Some w) u = w u

abbrev pub if_so : Bool → Walk → Walk
if_so b w u = cond b (w u) u

abbrev pub choice_step : Choice-F Walk Walk Walk → Walk
choice_step (Choice-F.Value e) = e
choice_step (Choice-F.Range low high) = both low high

abbrev pub form_step : Form-F Walk Walk Walk → Walk
form_step (Form-F.Literal v goes_on) = stay
form_step (Form-F.Fill b) = stay
form_step (Form-F.Constant v) = stay
form_step (Form-F.Signal n) = stay
form_step (Form-F.Local n) = stay
form_step (Form-F.Member from k) = from
form_step (Form-F.Index from i) = both from i
form_step (Form-F.Part from left right) = from
form_step (Form-F.Slide from i n up) = both from i
form_step (Form-F.Unary op e) = e
form_step (Form-F.Reduce op e) = e
form_step (Form-F.Negate e) = e
form_step (Form-F.Binary op l r) = both l r
form_step (Form-F.Shift op l r) = both l r
form_step (Form-F.Power l r) = both l r
form_step (Form-F.Order op l r) = both l r
form_step (Form-F.Equal op negated l r) = both l r
form_step (Form-F.Both l r) = both l r
form_step (Form-F.Either l r) = both l r
form_step (Form-F.Choose on l r) = both on (both l r)
form_step (Form-F.Concat es) = in_turn es
form_step (Form-F.Repeat n es) = in_turn es
form_step (Form-F.Inside e cs) = both e (in_turn cs)
form_step (Form-F.Cast e) = e
form_step (Form-F.Clog2 e) = e
form_step (Form-F.Pattern es) = in_turn es
form_step (Form-F.Call f es) = in_turn es
form_step (Form-F.Stream reversed n es) = in_turn es

module _ (at : ℕ) where
  abbrev pub expr_step : Expr-F Walk Walk Walk → Walk
  expr_step e = both (look at e.spot) e.form

  abbrev pub expr_walk : Expr → Walk
  expr_walk = fold-Expr Walk Walk Walk choice_step form_step expr_step

  abbrev pub choice_walk : Choice → Walk
  choice_walk = fold-Choice Walk Walk Walk choice_step form_step expr_step

  abbrev pub exprs_walk : List Expr → Walk
  exprs_walk es = in_turn (map expr_walk es)

  -- statements
  abbrev pub initial_walk : Local → Walk
  initial_walk l u = elim l.initial [ None ↦ u | Some e ↦ expr_walk e u ]

  abbrev pub item_step : CaseItem-F Walk Walk → Walk
  item_step i u = i.body (exprs_walk i.values u)

  abbrev pub stmt_step : Stmt-F Walk Walk → Walk
  stmt_step (Stmt-F.Block locals body) u = in_turn body (in_turn (map initial_walk locals) u)
  stmt_step (Stmt-F.If on body other) u = if_written other (body (expr_walk on u))
  stmt_step (Stmt-F.Case kind on items other) u = if_written other (in_turn items (expr_walk on u))
  stmt_step (Stmt-F.Loop n first test step body spot) u = body (expr_walk step (expr_walk test (expr_walk first (look at spot u))))
  stmt_step (Stmt-F.Assign to value later spot) u = expr_walk value (exprs_walk to (look at spot u))
  stmt_step (Stmt-F.Call f actuals spot) u = exprs_walk actuals (look at spot u)
  stmt_step (Stmt-F.Made locals before body) u = if_written body (in_turn before (in_turn (map initial_walk locals) u))
  stmt_step Stmt-F.Break u = u
  stmt_step Stmt-F.Continue u = u
  stmt_step Stmt-F.Return u = u

  abbrev pub stmt_walk : Stmt → Walk
  stmt_walk = fold-Stmt Walk Walk stmt_step item_step

  abbrev pub item_walk : CaseItem → Walk
  item_walk = fold-CaseItem Walk Walk stmt_step item_step

  -- processes, functions and signals
  abbrev pub edges_walk : List EdgeOn → Walk
  edges_walk es = in_turn (map (λ (e : EdgeOn). look at e.spot) es)

  abbrev pub kind_walk : ProcessKind → Walk
  kind_walk Continuous u = u
  kind_walk (Link port) u = u
  kind_walk Comb u = u
  kind_walk Latch u = u
  kind_walk Star u = u
  kind_walk (Edges es) u = edges_walk es u

  abbrev pub process_walk : Process → Walk
  process_walk p u = stmt_walk p.body (kind_walk p.kind (look at p.spot u))

  abbrev pub spots_walk : List Spot → Walk
  spots_walk ss = in_turn (map (look at) ss)

  abbrev pub result_walk : FunctionKind → Walk
  result_walk Plain u = u
  result_walk Routine u = u
  result_walk (Made spots) u = spots_walk spots u

  abbrev pub formals_walk : List Formal → Walk
  formals_walk ps = in_turn (map (λ (p : Formal). look at p.spot) ps)

  abbrev pub function_walk : Function → Walk
  function_walk f u = stmt_walk f.body (formals_walk f.formals (result_walk f.kind (look at f.spot u)))

  -- those of an instance
  module _ (instance : ℕ) where
    abbrev pub process_here : Process → Walk
    process_here p = if_so (instance == p.instance) (process_walk p)

    abbrev pub function_here : Function → Walk
    function_here f = if_so (instance == f.instance) (function_walk f)

    abbrev pub signal_here : Signal → Walk
    signal_here s = if_so (instance == s.instance) (look at s.spot)

    abbrev pub design_walk : Design → Walk
    design_walk d u = in_turn (map signal_here d.signals) (in_turn (map function_here d.functions) (in_turn (map process_here d.processes) u))

-- the refusal of a rule at a spot
abbrev pub refusal_at : ℕ → Spot → Refusal
refusal_at rule s = record { rule = rule; place = s.place; word = s.word }
