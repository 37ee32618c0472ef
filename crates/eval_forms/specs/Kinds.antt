-- Expressions that are neither select paths nor calls.
use Rattle.std.specs.Prelude.{◌≡◌, ℕ, true, false, Bool, List, Option, Some, None}
use Rattle.sv_types.specs.declared.expression.Expr.{Expr}
use Rattle.sv_types.specs.declared.expression.Choice.{Choice}
use Rattle.sv_types.specs.declared.expression.Form.{Form, Form-F, out-Form}
use Rattle.sv_types.specs.declared.expression.Form.TheVariants as V
use Rattle.eval_parts.specs.Steps.{is_path}

-- whether a form is a call
abbrev pub is_call : Form-F Choice Form Expr → Bool
is_call (Form-F.Literal v goes_on) = false
is_call (Form-F.Fill b) = false
is_call (Form-F.Constant v) = false
is_call (Form-F.Signal n) = false
is_call (Form-F.Local n) = false
is_call (Form-F.Member x k) = false
is_call (Form-F.Index x y) = false
is_call (Form-F.Part x left right) = false
is_call (Form-F.Slide x y n up) = false
is_call (Form-F.Unary op x) = false
is_call (Form-F.Reduce op x) = false
is_call (Form-F.Negate x) = false
is_call (Form-F.Binary op x y) = false
is_call (Form-F.Shift op x y) = false
is_call (Form-F.Power x y) = false
is_call (Form-F.Order op x y) = false
is_call (Form-F.Equal op negated x y) = false
is_call (Form-F.Both x y) = false
is_call (Form-F.Either x y) = false
is_call (Form-F.Choose z x y) = false
is_call (Form-F.Concat es) = false
is_call (Form-F.Repeat n es) = false
is_call (Form-F.Inside x cs) = false
is_call (Form-F.Cast x) = false
is_call (Form-F.Clog2 x) = false
is_call (Form-F.Pattern es) = false
is_call (Form-F.Call f es) = true
is_call (Form-F.Stream reversed n es) = false

pub record IsOperator (e : Expr) : Type 0 where
  pub no_path : is_path (out-Form e.form) ≡ false
  pub no_call : is_call (out-Form e.form) ≡ false

-- the place of the function that an expression calls, if it is a call
abbrev pub IsCallOf : Option ℕ → Expr → Type 0
IsCallOf None e = is_call (out-Form e.form) ≡ false
IsCallOf (Some f) e = (es : List Expr) × (e.form ≡ V.Call f es)
