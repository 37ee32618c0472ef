-- The last step of a select path, and what stands for itself.
use Rattle.std.specs.Prelude.{◌≡◌, ⊤, ℕ, Bool, true, false, cond, List, Option, Some, None, is_some}
use Rattle.b4_core.specs.declared.bit.Bit4.{Bit4}
use Rattle.sv_types.specs.declared.expression.Expr.{Expr}
use Rattle.sv_types.specs.declared.expression.Choice.{Choice}
use Rattle.sv_types.specs.declared.expression.Form.{Form, Form-F, out-Form}
use Rattle.sv_types.specs.declared.expression.Form.TheVariants as V
use Rattle.sv_types.specs.Windows.{whole}
use Rattle.sv_types.specs.Surroundings.{Around, is_signal}
use Rattle.sv_types.specs.Meanings.{Meaning, wide, alone}
use Rattle.sv_types.specs.Expressions.{meaning}
use Rattle.eval_parts.specs.declared.path_steps.Step.{Step}
use Rattle.eval_parts.specs.declared.path_steps.Step.TheVariants as S
use Rattle.eval_parts.specs.Surroundings.{slot}

abbrev pub IsStep : Step → Expr → Type 0
IsStep (S.Signal n) e = e.form ≡ V.Signal n
IsStep (S.Local n) e = e.form ≡ V.Local n
IsStep (S.Member from k) e = e.form ≡ V.Member from.now k
IsStep (S.Index from i) e = e.form ≡ V.Index from.now i.now
IsStep (S.Part from left right) e = e.form ≡ V.Part from.now left right
IsStep (S.Slide from i n up) e = e.form ≡ V.Slide from.now i.now n up

-- an expression that is no path stands on its value
pub record IsValued (m : Meaning) : Type 0 where
  pub root : m.root ≡ None
  pub base : (a : Around) → m.base a ≡ alone m a
  pub window : (a : Around) → m.window a ≡ whole (wide m)

abbrev pub IsStepOf : Option Step → Expr → Type 0
IsStepOf None e = IsValued (meaning e)
IsStepOf (Some s) e = IsStep s e

-- whether a slot holds bits
abbrev pub is_held : List (Option (List Bit4)) → ℕ → Bool
is_held slots n = is_some (slot slots n)

-- whether what a path stands on can be read: a signal is to be held
abbrev pub can_read : Option ℕ → (ℕ → Bool) → Bool
can_read None holds = true
can_read (Some n) holds = cond (is_signal n) (holds n) true

-- whether a form is a select path
abbrev pub is_path : Form-F Choice Form Expr → Bool
is_path (Form-F.Literal v goes_on) = false
is_path (Form-F.Fill b) = false
is_path (Form-F.Constant v) = false
is_path (Form-F.Signal n) = true
is_path (Form-F.Local n) = true
is_path (Form-F.Member x k) = true
is_path (Form-F.Index x y) = true
is_path (Form-F.Part x left right) = true
is_path (Form-F.Slide x y n up) = true
is_path (Form-F.Unary op x) = false
is_path (Form-F.Reduce op x) = false
is_path (Form-F.Negate x) = false
is_path (Form-F.Binary op x y) = false
is_path (Form-F.Shift op x y) = false
is_path (Form-F.Power x y) = false
is_path (Form-F.Order op x y) = false
is_path (Form-F.Equal op negated x y) = false
is_path (Form-F.Both x y) = false
is_path (Form-F.Either x y) = false
is_path (Form-F.Choose z x y) = false
is_path (Form-F.Concat es) = false
is_path (Form-F.Repeat n es) = false
is_path (Form-F.Inside x cs) = false
is_path (Form-F.Cast x) = false
is_path (Form-F.Clog2 x) = false
is_path (Form-F.Pattern es) = false
is_path (Form-F.Call f es) = false
is_path (Form-F.Stream reversed n es) = false

-- an expression that has no last step is no select path
abbrev pub IsPlain : Option Step → Expr → Type 0
IsPlain None e = is_path (out-Form e.form) ≡ false
IsPlain (Some s) e = ⊤
