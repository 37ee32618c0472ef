-- What expressions mean, one level at a time.
use Rattle.std.proofs.Common.{◌≡◌, ℕ, Bool, ℤ, List, map, rules}
use Rattle.b4_core.specs.declared.bit.Bit4.{Bit4}
use Rattle.b4_core.specs.declared.operators.UnOp.{UnOp}
use Rattle.b4_core.specs.declared.operators.BinOp.{BinOp}
use Rattle.b4_core.specs.declared.operators.RedOp.{RedOp}
use Rattle.b4_core.specs.declared.operators.ShiftOp.{ShiftOp}
use Rattle.b4_core.specs.declared.operators.OrdOp.{OrdOp}
use Rattle.b4_core.specs.declared.operators.EqOp.{EqOp}
use Rattle.sv_types.specs.declared.types.Value.{Value}
use Rattle.sv_types.specs.declared.expression.Expr.{Expr}
use Rattle.sv_types.specs.declared.expression.Form.{Form, Form-F, fold-Form, the_lemmas}
use Rattle.sv_types.specs.declared.expression.Form.TheVariants as V
use Rattle.sv_types.specs.declared.expression.Choice.{Choice, fold-Choice}
use Rattle.sv_types.specs.declared.expression.Choice.TheVariants as C
use Rattle.sv_types.specs.Layouts.{Layout, layout}
use Rattle.sv_types.specs.Meanings.{Meaning}
use Rattle.sv_types.specs.Operators.{Alternative}
use Rattle.sv_types.specs.Expressions.{meaning, choice_step, form_step, expr_step}

-- the meaning of a form, for a type and a token
abbrev pub form_meaning : Form → Layout → ℕ → Meaning
form_meaning = fold-Form Alternative (Layout → ℕ → Meaning) Meaning choice_step form_step expr_step

abbrev pub alternative : Choice → Alternative
alternative = fold-Choice Alternative (Layout → ℕ → Meaning) Meaning choice_step form_step expr_step

pub meaning-form : (e : Expr) → meaning e ≡ form_meaning e.form (layout e.of) e.spot.at
meaning-form e = search (rules, the_lemmas)

pub only : (e : Expr) → alternative (C.Value e) ≡ Alternative.Only (meaning e)
only e = search (rules, the_lemmas)

pub from-to : (a b : Expr) → alternative (C.Range a b) ≡ Alternative.From (meaning a) (meaning b)
from-to a b = search (rules, the_lemmas)

pub form-Literal : (v : List Bit4) (goes_on : Bool) → form_meaning (V.Literal v goes_on) ≡ form_step (Form-F.Literal v goes_on)
form-Literal v goes_on = search (rules, the_lemmas)

pub form-Fill : (b : Bit4) → form_meaning (V.Fill b) ≡ form_step (Form-F.Fill b)
form-Fill b = search (rules, the_lemmas)

pub form-Constant : (v : Value) → form_meaning (V.Constant v) ≡ form_step (Form-F.Constant v)
form-Constant v = search (rules, the_lemmas)

pub form-Signal : (n : ℕ) → form_meaning (V.Signal n) ≡ form_step (Form-F.Signal n)
form-Signal n = search (rules, the_lemmas)

pub form-Local : (n : ℕ) → form_meaning (V.Local n) ≡ form_step (Form-F.Local n)
form-Local n = search (rules, the_lemmas)

pub form-Member : (e : Expr) (k : ℕ) → form_meaning (V.Member e k) ≡ form_step (Form-F.Member (meaning e) k)
form-Member e k = search (rules, the_lemmas)

pub form-Index : (e i : Expr) → form_meaning (V.Index e i) ≡ form_step (Form-F.Index (meaning e) (meaning i))
form-Index e i = search (rules, the_lemmas)

pub form-Part : (e : Expr) (left right : ℤ) → form_meaning (V.Part e left right) ≡ form_step (Form-F.Part (meaning e) left right)
form-Part e left right = search (rules, the_lemmas)

pub form-Slide : (e i : Expr) (n : ℕ) (up : Bool) → form_meaning (V.Slide e i n up) ≡ form_step (Form-F.Slide (meaning e) (meaning i) n up)
form-Slide e i n up = search (rules, the_lemmas)

pub form-Unary : (op : UnOp) (e : Expr) → form_meaning (V.Unary op e) ≡ form_step (Form-F.Unary op (meaning e))
form-Unary op e = search (rules, the_lemmas)

pub form-Reduce : (op : RedOp) (e : Expr) → form_meaning (V.Reduce op e) ≡ form_step (Form-F.Reduce op (meaning e))
form-Reduce op e = search (rules, the_lemmas)

pub form-Negate : (e : Expr) → form_meaning (V.Negate e) ≡ form_step (Form-F.Negate (meaning e))
form-Negate e = search (rules, the_lemmas)

pub form-Binary : (op : BinOp) (a b : Expr) → form_meaning (V.Binary op a b) ≡ form_step (Form-F.Binary op (meaning a) (meaning b))
form-Binary op a b = search (rules, the_lemmas)

pub form-Shift : (op : ShiftOp) (a b : Expr) → form_meaning (V.Shift op a b) ≡ form_step (Form-F.Shift op (meaning a) (meaning b))
form-Shift op a b = search (rules, the_lemmas)

pub form-Power : (a b : Expr) → form_meaning (V.Power a b) ≡ form_step (Form-F.Power (meaning a) (meaning b))
form-Power a b = search (rules, the_lemmas)

pub form-Order : (op : OrdOp) (a b : Expr) → form_meaning (V.Order op a b) ≡ form_step (Form-F.Order op (meaning a) (meaning b))
form-Order op a b = search (rules, the_lemmas)

pub form-Equal : (op : EqOp) (negated : Bool) (a b : Expr) → form_meaning (V.Equal op negated a b) ≡ form_step (Form-F.Equal op negated (meaning a) (meaning b))
form-Equal op negated a b = search (rules, the_lemmas)

pub form-Both : (a b : Expr) → form_meaning (V.Both a b) ≡ form_step (Form-F.Both (meaning a) (meaning b))
form-Both a b = search (rules, the_lemmas)

pub form-Either : (a b : Expr) → form_meaning (V.Either a b) ≡ form_step (Form-F.Either (meaning a) (meaning b))
form-Either a b = search (rules, the_lemmas)

pub form-Choose : (on a b : Expr) → form_meaning (V.Choose on a b) ≡ form_step (Form-F.Choose (meaning on) (meaning a) (meaning b))
form-Choose on a b = search (rules, the_lemmas)

pub form-Concat : (es : List Expr) → form_meaning (V.Concat es) ≡ form_step (Form-F.Concat (map meaning es))
form-Concat es = search (rules, the_lemmas)

pub form-Repeat : (n : ℕ) (es : List Expr) → form_meaning (V.Repeat n es) ≡ form_step (Form-F.Repeat n (map meaning es))
form-Repeat n es = search (rules, the_lemmas)

pub form-Inside : (e : Expr) (cs : List Choice) → form_meaning (V.Inside e cs) ≡ form_step (Form-F.Inside (meaning e) (map alternative cs))
form-Inside e cs = search (rules, the_lemmas)

pub form-Cast : (e : Expr) → form_meaning (V.Cast e) ≡ form_step (Form-F.Cast (meaning e))
form-Cast e = search (rules, the_lemmas)

pub form-Clog2 : (e : Expr) → form_meaning (V.Clog2 e) ≡ form_step (Form-F.Clog2 (meaning e))
form-Clog2 e = search (rules, the_lemmas)

pub form-Pattern : (es : List Expr) → form_meaning (V.Pattern es) ≡ form_step (Form-F.Pattern (map meaning es))
form-Pattern es = search (rules, the_lemmas)

pub form-Call : (f : ℕ) (es : List Expr) → form_meaning (V.Call f es) ≡ form_step (Form-F.Call f (map meaning es))
form-Call f es = search (rules, the_lemmas)

pub form-Stream : (reversed : Bool) (n : ℕ) (es : List Expr) → form_meaning (V.Stream reversed n es) ≡ form_step (Form-F.Stream reversed n (map meaning es))
form-Stream reversed n es = search (rules, the_lemmas)
