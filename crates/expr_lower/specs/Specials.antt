-- Forms that have no operator of the target language.
use Rattle.std.specs.Prelude.{◌≡◌, Bool, true, false, Option, Some, None}
use Rattle.b4_core.specs.declared.operators.EqOp.{EqOp}
use Rattle.b4_core.specs.declared.operators.EqOp.TheVariants.{Logic, Case, Wild}
use Rattle.sv_types.specs.declared.expression.Expr.{Expr}
use Rattle.sv_types.specs.declared.expression.Choice.{Choice}
use Rattle.sv_types.specs.declared.expression.Form.{Form, Form-F, out-Form}
use Rattle.sv_types.specs.declared.expression.Form.TheVariants as V
use Rattle.expr_lower.specs.declared.specials.Special.{Special}
use Rattle.expr_lower.specs.declared.specials.Special.TheVariants as X

abbrev pub is_wild : EqOp → Bool
is_wild Logic = false
is_wild Case = false
is_wild Wild = true

-- whether a form has no operator of the target language
abbrev pub is_special : Form-F Choice Form Expr → Bool
is_special (Form-F.Literal v goes_on) = false
is_special (Form-F.Fill b) = false
is_special (Form-F.Constant v) = false
is_special (Form-F.Signal n) = false
is_special (Form-F.Local n) = false
is_special (Form-F.Member x k) = false
is_special (Form-F.Index x y) = false
is_special (Form-F.Part x left right) = false
is_special (Form-F.Slide x y n up) = false
is_special (Form-F.Unary op x) = false
is_special (Form-F.Reduce op x) = false
is_special (Form-F.Negate x) = false
is_special (Form-F.Binary op x y) = false
is_special (Form-F.Shift op x y) = false
is_special (Form-F.Power x y) = false
is_special (Form-F.Order op x y) = false
is_special (Form-F.Equal op negated x y) = is_wild op
is_special (Form-F.Both x y) = false
is_special (Form-F.Either x y) = false
is_special (Form-F.Choose z x y) = false
is_special (Form-F.Concat es) = false
is_special (Form-F.Repeat n es) = false
is_special (Form-F.Inside x cs) = true
is_special (Form-F.Cast x) = true
is_special (Form-F.Clog2 x) = true
is_special (Form-F.Pattern es) = true
is_special (Form-F.Call f es) = true
is_special (Form-F.Stream reversed n es) = false

-- the form
abbrev pub IsSpecial : Special → Expr → Type 0
IsSpecial (X.Wild negated left right) e = e.form ≡ V.Equal Wild negated left.now right.now
IsSpecial (X.Inside x cs) e = e.form ≡ V.Inside x.now cs.now
IsSpecial (X.Cast x) e = e.form ≡ V.Cast x.now
IsSpecial (X.Clog2 x) e = e.form ≡ V.Clog2 x.now
IsSpecial (X.Pattern es) e = e.form ≡ V.Pattern es.now
IsSpecial (X.Call f es) e = e.form ≡ V.Call f es.now

abbrev pub IsSpecialOf : Option Special → Expr → Type 0
IsSpecialOf None e = is_special (out-Form e.form) ≡ false
IsSpecialOf (Some s) e = IsSpecial s e

-- so it is for each equality with this operator
abbrev pub IsWildOf : Option Special → EqOp → Bool → Expr → Expr → Type 0
IsWildOf r op negated x y = (e : Expr) → e.form ≡ V.Equal op negated x y → IsSpecialOf r e
