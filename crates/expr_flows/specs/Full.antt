-- Calls that pass as much as there are formals.
use Rattle.std.specs.Prelude.{ℕ, nat_le, Bool, true, ◌&&◌, List, length}
use Rattle.std.specs.List.{list_all}
use Rattle.sv_types.specs.declared.expression.Expr.{Expr, Expr-F, fold-Expr}
use Rattle.sv_types.specs.declared.expression.Form.{Form-F}
use Rattle.sv_types.specs.declared.expression.Choice.{Choice-F}
use Rattle.sv_types.specs.Surroundings.{Parameter}

abbrev pub every : List Bool → Bool
every bs = list_all (λ b. b) bs

abbrev pub choice_step : Choice-F Bool Bool Bool → Bool
choice_step (Choice-F.Value e) = e
choice_step (Choice-F.Range low high) = low && high

abbrev pub form_step : (ℕ → List Parameter) → Form-F Bool Bool Bool → Bool
form_step fs (Form-F.Literal v goes_on) = true
form_step fs (Form-F.Fill b) = true
form_step fs (Form-F.Constant v) = true
form_step fs (Form-F.Signal n) = true
form_step fs (Form-F.Local n) = true
form_step fs (Form-F.Member from k) = from
form_step fs (Form-F.Index from i) = from && i
form_step fs (Form-F.Part from left right) = from
form_step fs (Form-F.Slide from i n up) = from && i
form_step fs (Form-F.Unary op x) = x
form_step fs (Form-F.Reduce op x) = x
form_step fs (Form-F.Negate x) = x
form_step fs (Form-F.Binary op x y) = x && y
form_step fs (Form-F.Shift op x y) = x && y
form_step fs (Form-F.Power x y) = x && y
form_step fs (Form-F.Order op x y) = x && y
form_step fs (Form-F.Equal op negated x y) = x && y
form_step fs (Form-F.Both x y) = x && y
form_step fs (Form-F.Either x y) = x && y
form_step fs (Form-F.Choose z x y) = z && (x && y)
form_step fs (Form-F.Concat es) = every es
form_step fs (Form-F.Repeat n es) = every es
form_step fs (Form-F.Inside x cs) = x && every cs
form_step fs (Form-F.Cast x) = x
form_step fs (Form-F.Clog2 x) = x
form_step fs (Form-F.Pattern es) = every es
form_step fs (Form-F.Call f es) = nat_le (length es) (length (fs f)) && every es
form_step fs (Form-F.Stream reversed n es) = every es

abbrev pub expr_step : Expr-F Bool Bool Bool → Bool
expr_step e = e.form

-- no call in it passes more than there are formals
abbrev pub is_full : (ℕ → List Parameter) → Expr → Bool
is_full fs = fold-Expr Bool Bool Bool choice_step (form_step fs) expr_step

abbrev pub all_full : (ℕ → List Parameter) → List Expr → Bool
all_full fs es = list_all (is_full fs) es
