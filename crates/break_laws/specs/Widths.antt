-- Typed trees that name each signal and local with as many bits as it has.
use Rattle.std.specs.Prelude.{ℕ, Bool, true, false, ◌&&◌, nat_lt, List, Option, Some, None}
use Rattle.std.specs.List.{list_all}
use Rattle.row_machine.specs.Valuation.{Place}
use Rattle.sv_types.specs.declared.expression.Expr.{Expr, Expr-F, fold-Expr}
use Rattle.sv_types.specs.declared.expression.Form.{Form-F}
use Rattle.sv_types.specs.declared.expression.Choice.{Choice-F}
use Rattle.sv_types.specs.declared.statement.Local.{Local}
use Rattle.sv_types.specs.declared.statement.Stmt.{Stmt, Stmt-F, fold-Stmt}
use Rattle.sv_types.specs.declared.statement.CaseItem.{CaseItem-F}
use Rattle.sv_types.specs.Layouts.{width_of}
use Rattle.sv_types.specs.Surroundings.{local_number}
use Rattle.sv_types.specs.Meanings.{wide}
use Rattle.sv_types.specs.Expressions.{meaning}
use Rattle.flow_laws.specs.Statements.{has_width, or_true}

-- how many bits each signal and local has, by their one numbering
abbrev pub Widths : Type 0
Widths = ℕ → Option ℕ

abbrev pub is_below : Option ℕ → ℕ → Bool
is_below None bit = false
is_below (Some w) bit = nat_lt bit w

-- a bit that its signal or local has
abbrev pub is_there : Widths → Place → Bool
is_there widths q = is_below (widths q.signal) q.bit

abbrev pub every : List Bool → Bool
every bs = list_all (λ b. b) bs

module _ (widths : Widths) where
  abbrev pub choice_step : Choice-F Bool (ℕ → Bool) Bool → Bool
  choice_step (Choice-F.Value e) = e
  choice_step (Choice-F.Range low high) = low && high

  -- of an expression with so many bits
  abbrev pub form_step : Form-F Bool (ℕ → Bool) Bool → ℕ → Bool
  form_step (Form-F.Literal v goes_on) w = true
  form_step (Form-F.Fill b) w = true
  form_step (Form-F.Constant v) w = true
  form_step (Form-F.Signal n) w = has_width (widths n) w
  form_step (Form-F.Local n) w = has_width (widths (local_number n)) w
  form_step (Form-F.Member from k) w = from
  form_step (Form-F.Index from i) w = from && i
  form_step (Form-F.Part from left right) w = from
  form_step (Form-F.Slide from i n up) w = from && i
  form_step (Form-F.Unary op e) w = e
  form_step (Form-F.Reduce op e) w = e
  form_step (Form-F.Negate e) w = e
  form_step (Form-F.Binary op l r) w = l && r
  form_step (Form-F.Shift op l r) w = l && r
  form_step (Form-F.Power l r) w = l && r
  form_step (Form-F.Order op l r) w = l && r
  form_step (Form-F.Equal op negated l r) w = l && r
  form_step (Form-F.Both l r) w = l && r
  form_step (Form-F.Either l r) w = l && r
  form_step (Form-F.Choose on l r) w = on && (l && r)
  form_step (Form-F.Concat es) w = every es
  form_step (Form-F.Repeat n es) w = every es
  form_step (Form-F.Inside e cs) w = e && every cs
  form_step (Form-F.Cast e) w = e
  form_step (Form-F.Clog2 e) w = e
  form_step (Form-F.Pattern es) w = every es
  form_step (Form-F.Call f es) w = every es
  form_step (Form-F.Stream reversed n es) w = every es

  abbrev pub expr_step : Expr-F Bool (ℕ → Bool) Bool → Bool
  expr_step e = e.form (width_of e.of)

  -- each signal or local that an expression names stands there with all its bits
  abbrev pub expr_fits : Expr → Bool
  expr_fits = fold-Expr Bool (ℕ → Bool) Bool choice_step form_step expr_step

  abbrev pub all_fit : List Expr → Bool
  all_fit es = list_all expr_fits es

  abbrev pub initial_fits : Option Expr → Bool
  initial_fits None = true
  initial_fits (Some e) = expr_fits e

  abbrev pub local_fits : Local → Bool
  local_fits l = has_width (widths (local_number l.number)) (width_of l.of) && initial_fits l.initial

  abbrev pub item_step : CaseItem-F Bool Bool → Bool
  item_step i = all_fit i.values && i.body

  abbrev pub stmt_step : Stmt-F Bool Bool → Bool
  stmt_step (Stmt-F.Block locals body) = list_all local_fits locals && every body
  stmt_step (Stmt-F.If on body other) = expr_fits on && (body && or_true other)
  stmt_step (Stmt-F.Case kind on items other) = expr_fits on && (every items && or_true other)
  stmt_step (Stmt-F.Loop n first test step body spot) =
      has_width (widths (local_number n)) (wide (meaning first)) && (expr_fits first && (expr_fits test && (expr_fits step && body)))
  stmt_step (Stmt-F.Assign to value later spot) = all_fit to && expr_fits value
  stmt_step (Stmt-F.Call f actuals spot) = all_fit actuals
  stmt_step (Stmt-F.Made locals before body) = list_all local_fits locals && (every before && or_true body)
  stmt_step Stmt-F.Break = true
  stmt_step Stmt-F.Continue = true
  stmt_step Stmt-F.Return = true

  -- so does each that a statement names, its locals and the variables of its loops among them
  abbrev pub stmt_fits : Stmt → Bool
  stmt_fits = fold-Stmt Bool Bool stmt_step item_step
