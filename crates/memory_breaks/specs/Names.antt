-- The signals that expressions name, marked.
use Rattle.std.specs.Prelude.{ℕ, ◌-◌, ◌==◌, cond, List, [], ◌∷◌, length}
use Rattle.sv_types.specs.declared.types.SvType.{SvType}
use Rattle.sv_types.specs.declared.expression.Expr.{Expr, Expr-F, fold-Expr}
use Rattle.sv_types.specs.declared.expression.Form.{Form-F}
use Rattle.sv_types.specs.declared.expression.Choice.{Choice, Choice-F, fold-Choice}
use Rattle.sv_types.specs.Layouts.{layout}
use Rattle.sv_types.specs.Operators.{parts_of}
use Rattle.memory_breaks.specs.declared.names.Sense.{Sense}
use Rattle.memory_breaks.specs.declared.names.Sense.TheVariants.{Named, Selected, Inner}
use Rattle.memory_breaks.specs.Marks.{Part, marked}

abbrev pub named : Sense
named = Named

abbrev pub of_path : Sense → Sense
of_path Named = Selected
of_path Selected = Selected
of_path Inner = Inner

abbrev pub of_parts : Sense → Sense
of_parts Named = Named
of_parts Selected = Inner
of_parts Inner = Inner

-- what an expression marks
abbrev pub Walk : Type 0
Walk = Sense → Part

abbrev pub nothing : Walk
nothing s u = u

abbrev pub signal : ℕ → Walk
signal n Named u = marked n u
signal n Selected u = marked n u
signal n Inner u = u

abbrev pub from : Walk → Walk
from w s u = w (of_path s) u

abbrev pub operand : Walk → Walk
operand w s u = w Named u

abbrev pub indexed : Walk → Walk → Walk
indexed w i s u = i Named (w (of_path s) u)

abbrev pub both : Walk → Walk → Walk
both a b s u = b Named (a Named u)

abbrev pub three : Walk → Walk → Walk → Walk
three a b c s u = c Named (b Named (a Named u))

abbrev pub in_turn : List Walk → Walk
in_turn [] s u = u
in_turn (w ∷ ws) s u = in_turn ws s (w s u)

-- the first so many of them
abbrev pub first : ℕ → List Walk → Part
first n [] u = u
first n (w ∷ ws) u = cond (n == 0) u (first (n - 1) ws (w Named u))

abbrev pub member_count : ℕ → ℕ
member_count n = cond (n == 0) 2 n

abbrev pub choice_step : Choice-F Walk (SvType → Walk) Walk → Walk
choice_step (Choice-F.Value w) = operand w
choice_step (Choice-F.Range low high) = both low high

abbrev pub form_step : Form-F Walk (SvType → Walk) Walk → SvType → Walk
form_step (Form-F.Literal v goes_on) of = nothing
form_step (Form-F.Fill b) of = nothing
form_step (Form-F.Constant v) of = nothing
form_step (Form-F.Signal n) of = signal n
form_step (Form-F.Local n) of = nothing
form_step (Form-F.Member w k) of = from w
form_step (Form-F.Index w i) of = indexed w i
form_step (Form-F.Part w left right) of = from w
form_step (Form-F.Slide w i n up) of = indexed w i
form_step (Form-F.Unary op w) of = operand w
form_step (Form-F.Reduce op w) of = operand w
form_step (Form-F.Negate w) of = operand w
form_step (Form-F.Binary op l r) of = both l r
form_step (Form-F.Shift op l r) of = both l r
form_step (Form-F.Power l r) of = both l r
form_step (Form-F.Order op l r) of = both l r
form_step (Form-F.Equal op negated l r) of = both l r
form_step (Form-F.Both l r) of = both l r
form_step (Form-F.Either l r) of = both l r
form_step (Form-F.Choose on l r) of = three on l r
form_step (Form-F.Concat ws) of = λ s u. in_turn ws (of_parts s) u
form_step (Form-F.Repeat n ws) of = λ s u. in_turn ws Named u
form_step (Form-F.Inside w cs) of = λ s u. in_turn cs Named (w Named u)
form_step (Form-F.Cast w) of = operand w
form_step (Form-F.Clog2 w) of = operand w
form_step (Form-F.Pattern ws) of = λ s u. first (length (parts_of (layout of))) ws u
form_step (Form-F.Call f ws) of = λ s u. in_turn ws Named u
form_step (Form-F.Stream reversed n ws) of = λ s u. in_turn ws (of_parts s) u

abbrev pub expr_step : Expr-F Walk (SvType → Walk) Walk → Walk
expr_step e = e.form e.of

abbrev pub walk : Expr → Walk
walk = fold-Expr Walk (SvType → Walk) Walk choice_step form_step expr_step

abbrev pub choice_walk : Choice → Walk
choice_walk = fold-Choice Walk (SvType → Walk) Walk choice_step form_step expr_step
