-- What typed expressions mean, form by form.
use Rattle.std.specs.Prelude.{ℕ}
use Rattle.sv_types.specs.declared.expression.Expr.{Expr, Expr-F, fold-Expr}
use Rattle.sv_types.specs.declared.expression.Form.{Form-F}
use Rattle.sv_types.specs.declared.expression.Choice.{Choice-F}
use Rattle.sv_types.specs.Layouts.{Layout, layout}
use Rattle.sv_types.specs.Meanings.{Meaning}
use Rattle.sv_types.specs.Paths as P
use Rattle.sv_types.specs.Operators as O
use Rattle.sv_types.specs.Operators.{Alternative}

abbrev pub choice_step : Choice-F Alternative (Layout → ℕ → Meaning) Meaning → Alternative
choice_step (Choice-F.Value m) = Alternative.Only m
choice_step (Choice-F.Range low high) = Alternative.From low high

abbrev pub form_step : Form-F Alternative (Layout → ℕ → Meaning) Meaning → Layout → ℕ → Meaning
form_step (Form-F.Literal v goes_on) of at = O.literal of at goes_on v
form_step (Form-F.Fill b) of at = O.fill of at b
form_step (Form-F.Constant v) of at = O.constant of at v
form_step (Form-F.Signal n) of at = P.signal of at n
form_step (Form-F.Local n) of at = P.local of at n
form_step (Form-F.Member from k) of at = P.member of at from k
form_step (Form-F.Index from i) of at = P.index of at from i
form_step (Form-F.Part from left right) of at = P.part_select of at from left right
form_step (Form-F.Slide from i n up) of at = P.sliding of at from i n up
form_step (Form-F.Unary op m) of at = O.unary of at op m
form_step (Form-F.Reduce op m) of at = O.reduce of at op m
form_step (Form-F.Negate m) of at = O.negate of at m
form_step (Form-F.Binary op l r) of at = O.binary of at op l r
form_step (Form-F.Shift op l r) of at = O.shift of at op l r
form_step (Form-F.Power l r) of at = O.power of at l r
form_step (Form-F.Order op l r) of at = O.order of at op l r
form_step (Form-F.Equal op negated l r) of at = O.equal of at op negated l r
form_step (Form-F.Both l r) of at = O.both of at l r
form_step (Form-F.Either l r) of at = O.either of at l r
form_step (Form-F.Choose on l r) of at = O.choose of at on l r
form_step (Form-F.Concat ms) of at = O.concat of at ms
form_step (Form-F.Repeat n ms) of at = O.repeat of at n ms
form_step (Form-F.Inside m cs) of at = O.inside of at m cs
form_step (Form-F.Cast m) of at = O.cast of at m
form_step (Form-F.Clog2 m) of at = O.clog2 of at m
form_step (Form-F.Pattern ms) of at = O.pattern of at ms
form_step (Form-F.Call f ms) of at = O.call of at f ms
form_step (Form-F.Stream reversed n ms) of at = O.stream of at reversed n ms

abbrev pub expr_step : Expr-F Alternative (Layout → ℕ → Meaning) Meaning → Meaning
expr_step e = e.form (layout e.of) e.spot.at

abbrev pub meaning : Expr → Meaning
meaning = fold-Expr Alternative (Layout → ℕ → Meaning) Meaning choice_step form_step expr_step
