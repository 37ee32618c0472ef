-- Signals and locals that targets name.
use Rattle.std.specs.Prelude.{ℕ, true, false, cond, List, [], ◌∷◌, map}
use Rattle.sv_types.specs.declared.expression.Expr.{Expr, Expr-F, fold-Expr}
use Rattle.sv_types.specs.declared.expression.Form.{Form-F}
use Rattle.sv_types.specs.declared.expression.Choice.{Choice-F}
use Rattle.sv_types.specs.Surroundings.{is_signal, local_number}
use Rattle.action_breaks.specs.declared.bases.Bases.{Bases}

abbrev pub Part : Type 0
Part = Bases → Bases

abbrev pub with_number : ℕ → Part
with_number n u = cond (is_signal n) (record { signal = true; local = u.local }) (record { signal = u.signal; local = true })

-- what an expression stands on as a select path, and what it names as a target
pub record Standing : Type 0 where
  pub path : Part
  pub all : Part

abbrev pub nowhere : Standing
nowhere = record { path = λ u. u; all = λ u. u }

abbrev pub at_number : ℕ → Standing
at_number n = record { path = with_number n; all = with_number n }

abbrev pub on : Standing → Standing
on s = record { path = s.path; all = s.path }

abbrev pub in_turn : List Standing → Part
in_turn [] u = u
in_turn (s ∷ ss) u = in_turn ss (s.all u)

abbrev pub parts : List Standing → Standing
parts ss = record { path = λ u. u; all = in_turn ss }

abbrev pub choice_step : Choice-F Standing Standing Standing → Standing
choice_step (Choice-F.Value s) = nowhere
choice_step (Choice-F.Range low high) = nowhere

abbrev pub form_step : Form-F Standing Standing Standing → Standing
form_step (Form-F.Literal v goes_on) = nowhere
form_step (Form-F.Fill b) = nowhere
form_step (Form-F.Constant v) = nowhere
form_step (Form-F.Signal n) = at_number n
form_step (Form-F.Local n) = at_number (local_number n)
form_step (Form-F.Member from k) = on from
form_step (Form-F.Index from i) = on from
form_step (Form-F.Part from left right) = on from
form_step (Form-F.Slide from i n up) = on from
form_step (Form-F.Unary op s) = nowhere
form_step (Form-F.Reduce op s) = nowhere
form_step (Form-F.Negate s) = nowhere
form_step (Form-F.Binary op l r) = nowhere
form_step (Form-F.Shift op l r) = nowhere
form_step (Form-F.Power l r) = nowhere
form_step (Form-F.Order op l r) = nowhere
form_step (Form-F.Equal op negated l r) = nowhere
form_step (Form-F.Both l r) = nowhere
form_step (Form-F.Either l r) = nowhere
form_step (Form-F.Choose c l r) = nowhere
form_step (Form-F.Concat ss) = parts ss
form_step (Form-F.Repeat n ss) = nowhere
form_step (Form-F.Inside s cs) = nowhere
form_step (Form-F.Cast s) = nowhere
form_step (Form-F.Clog2 s) = nowhere
form_step (Form-F.Pattern ss) = nowhere
form_step (Form-F.Call f ss) = nowhere
form_step (Form-F.Stream reversed n ss) = parts ss

abbrev pub expr_step : Expr-F Standing Standing Standing → Standing
expr_step e = e.form

abbrev pub stands : Expr → Standing
stands = fold-Expr Standing Standing Standing choice_step form_step expr_step

abbrev pub none : Bases
none = record { signal = false; local = false }

abbrev pub bases_of : List Expr → Bases
bases_of es = in_turn (map stands es) none

abbrev pub target_bases : Expr → Bases
target_bases e = (stands e).all none
