-- Forms that are no select paths.
use Rattle.std.proofs.Common.{◌≡◌, ℕ, Bool, false, List, ap, ◌∙◌, rules, refl}
use Rattle.b4_core.specs.declared.bit.Bit4.{Bit4}
use Rattle.b4_core.specs.declared.operators.UnOp.{UnOp}
use Rattle.b4_core.specs.declared.operators.BinOp.{BinOp}
use Rattle.b4_core.specs.declared.operators.RedOp.{RedOp}
use Rattle.b4_core.specs.declared.operators.ShiftOp.{ShiftOp}
use Rattle.b4_core.specs.declared.operators.OrdOp.{OrdOp}
use Rattle.b4_core.specs.declared.operators.EqOp.{EqOp}
use Rattle.sv_types.specs.declared.types.Value.{Value}
use Rattle.sv_types.specs.declared.expression.Expr.{Expr}
use Rattle.sv_types.specs.declared.expression.Choice.{Choice}
use Rattle.sv_types.specs.declared.expression.Form.{Form, Form-F, out-Form, the_lemmas}
use Rattle.sv_types.specs.declared.expression.Form.TheVariants as V
use Rattle.eval_parts.specs.Steps.{is_path}

by-form : (e : Expr) (f : Form) (y : Form-F Choice Form Expr) → e.form ≡ f → out-Form f ≡ y → is_path (out-Form e.form) ≡ is_path y
by-form e f y is out = ap (λ g. is_path (out-Form g)) is ∙ ap is_path out

out-Literal : (v : List Bit4) (goes_on : Bool) → out-Form (V.Literal v goes_on) ≡ Form-F.Literal v goes_on
out-Literal v goes_on = search (rules, the_lemmas)

pub plain-Literal : (e : Expr) (v : List Bit4) (goes_on : Bool) → e.form ≡ V.Literal v goes_on → is_path (out-Form e.form) ≡ false
plain-Literal e v goes_on is = by-form e (V.Literal v goes_on) (Form-F.Literal v goes_on) is (out-Literal v goes_on)

out-Fill : (b : Bit4) → out-Form (V.Fill b) ≡ Form-F.Fill b
out-Fill b = search (rules, the_lemmas)

pub plain-Fill : (e : Expr) (b : Bit4) → e.form ≡ V.Fill b → is_path (out-Form e.form) ≡ false
plain-Fill e b is = by-form e (V.Fill b) (Form-F.Fill b) is (out-Fill b)

out-Constant : (v : Value) → out-Form (V.Constant v) ≡ Form-F.Constant v
out-Constant v = search (rules, the_lemmas)

pub plain-Constant : (e : Expr) (v : Value) → e.form ≡ V.Constant v → is_path (out-Form e.form) ≡ false
plain-Constant e v is = by-form e (V.Constant v) (Form-F.Constant v) is (out-Constant v)

out-Unary : (op : UnOp) (x : Expr) → out-Form (V.Unary op x) ≡ Form-F.Unary op x
out-Unary op x = search (rules, the_lemmas)

pub plain-Unary : (e : Expr) (op : UnOp) (x : Expr) → e.form ≡ V.Unary op x → is_path (out-Form e.form) ≡ false
plain-Unary e op x is = by-form e (V.Unary op x) (Form-F.Unary op x) is (out-Unary op x)

out-Reduce : (op : RedOp) (x : Expr) → out-Form (V.Reduce op x) ≡ Form-F.Reduce op x
out-Reduce op x = search (rules, the_lemmas)

pub plain-Reduce : (e : Expr) (op : RedOp) (x : Expr) → e.form ≡ V.Reduce op x → is_path (out-Form e.form) ≡ false
plain-Reduce e op x is = by-form e (V.Reduce op x) (Form-F.Reduce op x) is (out-Reduce op x)

out-Negate : (x : Expr) → out-Form (V.Negate x) ≡ Form-F.Negate x
out-Negate x = search (rules, the_lemmas)

pub plain-Negate : (e : Expr) (x : Expr) → e.form ≡ V.Negate x → is_path (out-Form e.form) ≡ false
plain-Negate e x is = by-form e (V.Negate x) (Form-F.Negate x) is (out-Negate x)

out-Binary : (op : BinOp) (x : Expr) (y : Expr) → out-Form (V.Binary op x y) ≡ Form-F.Binary op x y
out-Binary op x y = search (rules, the_lemmas)

pub plain-Binary : (e : Expr) (op : BinOp) (x : Expr) (y : Expr) → e.form ≡ V.Binary op x y → is_path (out-Form e.form) ≡ false
plain-Binary e op x y is = by-form e (V.Binary op x y) (Form-F.Binary op x y) is (out-Binary op x y)

out-Shift : (op : ShiftOp) (x : Expr) (y : Expr) → out-Form (V.Shift op x y) ≡ Form-F.Shift op x y
out-Shift op x y = search (rules, the_lemmas)

pub plain-Shift : (e : Expr) (op : ShiftOp) (x : Expr) (y : Expr) → e.form ≡ V.Shift op x y → is_path (out-Form e.form) ≡ false
plain-Shift e op x y is = by-form e (V.Shift op x y) (Form-F.Shift op x y) is (out-Shift op x y)

out-Power : (x : Expr) (y : Expr) → out-Form (V.Power x y) ≡ Form-F.Power x y
out-Power x y = search (rules, the_lemmas)

pub plain-Power : (e : Expr) (x : Expr) (y : Expr) → e.form ≡ V.Power x y → is_path (out-Form e.form) ≡ false
plain-Power e x y is = by-form e (V.Power x y) (Form-F.Power x y) is (out-Power x y)

out-Order : (op : OrdOp) (x : Expr) (y : Expr) → out-Form (V.Order op x y) ≡ Form-F.Order op x y
out-Order op x y = search (rules, the_lemmas)

pub plain-Order : (e : Expr) (op : OrdOp) (x : Expr) (y : Expr) → e.form ≡ V.Order op x y → is_path (out-Form e.form) ≡ false
plain-Order e op x y is = by-form e (V.Order op x y) (Form-F.Order op x y) is (out-Order op x y)

out-Equal : (op : EqOp) (negated : Bool) (x : Expr) (y : Expr) → out-Form (V.Equal op negated x y) ≡ Form-F.Equal op negated x y
out-Equal op negated x y = search (rules, the_lemmas)

pub plain-Equal : (e : Expr) (op : EqOp) (negated : Bool) (x : Expr) (y : Expr) → e.form ≡ V.Equal op negated x y → is_path (out-Form e.form) ≡ false
plain-Equal e op negated x y is = by-form e (V.Equal op negated x y) (Form-F.Equal op negated x y) is (out-Equal op negated x y)

out-Both : (x : Expr) (y : Expr) → out-Form (V.Both x y) ≡ Form-F.Both x y
out-Both x y = search (rules, the_lemmas)

pub plain-Both : (e : Expr) (x : Expr) (y : Expr) → e.form ≡ V.Both x y → is_path (out-Form e.form) ≡ false
plain-Both e x y is = by-form e (V.Both x y) (Form-F.Both x y) is (out-Both x y)

out-Either : (x : Expr) (y : Expr) → out-Form (V.Either x y) ≡ Form-F.Either x y
out-Either x y = search (rules, the_lemmas)

pub plain-Either : (e : Expr) (x : Expr) (y : Expr) → e.form ≡ V.Either x y → is_path (out-Form e.form) ≡ false
plain-Either e x y is = by-form e (V.Either x y) (Form-F.Either x y) is (out-Either x y)

out-Choose : (z : Expr) (x : Expr) (y : Expr) → out-Form (V.Choose z x y) ≡ Form-F.Choose z x y
out-Choose z x y = search (rules, the_lemmas)

pub plain-Choose : (e : Expr) (z : Expr) (x : Expr) (y : Expr) → e.form ≡ V.Choose z x y → is_path (out-Form e.form) ≡ false
plain-Choose e z x y is = by-form e (V.Choose z x y) (Form-F.Choose z x y) is (out-Choose z x y)

out-Concat : (es : List Expr) → out-Form (V.Concat es) ≡ Form-F.Concat es
out-Concat es = search (rules, the_lemmas)

pub plain-Concat : (e : Expr) (es : List Expr) → e.form ≡ V.Concat es → is_path (out-Form e.form) ≡ false
plain-Concat e es is = by-form e (V.Concat es) (Form-F.Concat es) is (out-Concat es)

out-Repeat : (n : ℕ) (es : List Expr) → out-Form (V.Repeat n es) ≡ Form-F.Repeat n es
out-Repeat n es = search (rules, the_lemmas)

pub plain-Repeat : (e : Expr) (n : ℕ) (es : List Expr) → e.form ≡ V.Repeat n es → is_path (out-Form e.form) ≡ false
plain-Repeat e n es is = by-form e (V.Repeat n es) (Form-F.Repeat n es) is (out-Repeat n es)

out-Inside : (x : Expr) (cs : List Choice) → out-Form (V.Inside x cs) ≡ Form-F.Inside x cs
out-Inside x cs = search (rules, the_lemmas)

pub plain-Inside : (e : Expr) (x : Expr) (cs : List Choice) → e.form ≡ V.Inside x cs → is_path (out-Form e.form) ≡ false
plain-Inside e x cs is = by-form e (V.Inside x cs) (Form-F.Inside x cs) is (out-Inside x cs)

out-Cast : (x : Expr) → out-Form (V.Cast x) ≡ Form-F.Cast x
out-Cast x = search (rules, the_lemmas)

pub plain-Cast : (e : Expr) (x : Expr) → e.form ≡ V.Cast x → is_path (out-Form e.form) ≡ false
plain-Cast e x is = by-form e (V.Cast x) (Form-F.Cast x) is (out-Cast x)

out-Clog2 : (x : Expr) → out-Form (V.Clog2 x) ≡ Form-F.Clog2 x
out-Clog2 x = search (rules, the_lemmas)

pub plain-Clog2 : (e : Expr) (x : Expr) → e.form ≡ V.Clog2 x → is_path (out-Form e.form) ≡ false
plain-Clog2 e x is = by-form e (V.Clog2 x) (Form-F.Clog2 x) is (out-Clog2 x)

out-Pattern : (es : List Expr) → out-Form (V.Pattern es) ≡ Form-F.Pattern es
out-Pattern es = search (rules, the_lemmas)

pub plain-Pattern : (e : Expr) (es : List Expr) → e.form ≡ V.Pattern es → is_path (out-Form e.form) ≡ false
plain-Pattern e es is = by-form e (V.Pattern es) (Form-F.Pattern es) is (out-Pattern es)

out-Call : (f : ℕ) (es : List Expr) → out-Form (V.Call f es) ≡ Form-F.Call f es
out-Call f es = search (rules, the_lemmas)

pub plain-Call : (e : Expr) (f : ℕ) (es : List Expr) → e.form ≡ V.Call f es → is_path (out-Form e.form) ≡ false
plain-Call e f es is = by-form e (V.Call f es) (Form-F.Call f es) is (out-Call f es)

out-Stream : (reversed : Bool) (n : ℕ) (es : List Expr) → out-Form (V.Stream reversed n es) ≡ Form-F.Stream reversed n es
out-Stream reversed n es = search (rules, the_lemmas)

pub plain-Stream : (e : Expr) (reversed : Bool) (n : ℕ) (es : List Expr) → e.form ≡ V.Stream reversed n es → is_path (out-Form e.form) ≡ false
plain-Stream e reversed n es is = by-form e (V.Stream reversed n es) (Form-F.Stream reversed n es) is (out-Stream reversed n es)

pub ruleset plain = (plain-Literal, plain-Fill, plain-Constant, plain-Unary, plain-Reduce, plain-Negate, plain-Binary, plain-Shift, plain-Power, plain-Order, plain-Equal, plain-Both, plain-Either, plain-Choose, plain-Concat, plain-Repeat, plain-Inside, plain-Cast, plain-Clog2, plain-Pattern, plain-Call, plain-Stream)
