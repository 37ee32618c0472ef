-- Forms that are no calls.
use Rattle.std.proofs.Common.{◌≡◌, ℕ, ℤ, Bool, false, List, ap, ◌∙◌, rules, refl}
use Rattle.b4_core.specs.declared.bit.Bit4.{Bit4}
use Rattle.b4_core.specs.declared.operators.UnOp.{UnOp}
use Rattle.b4_core.specs.declared.operators.BinOp.{BinOp}
use Rattle.b4_core.specs.declared.operators.RedOp.{RedOp}
use Rattle.b4_core.specs.declared.operators.ShiftOp.{ShiftOp}
use Rattle.b4_core.specs.declared.operators.OrdOp.{OrdOp}
use Rattle.b4_core.specs.declared.operators.EqOp.{EqOp}
use Rattle.sv_types.specs.declared.types.Value.{Value}
use Rattle.sv_types.specs.declared.expression.Expr.{Expr}
use Rattle.sv_types.specs.declared.expression.Choice.{Choice}
use Rattle.sv_types.specs.declared.expression.Form.{Form, Form-F, out-Form, the_lemmas}
use Rattle.sv_types.specs.declared.expression.Form.TheVariants as V
use Rattle.eval_forms.specs.Kinds.{is_call, IsCallOf}

by-form : (e : Expr) (f : Form) (y : Form-F Choice Form Expr) → e.form ≡ f → out-Form f ≡ y → is_call (out-Form e.form) ≡ is_call y
by-form e f y is out = ap (λ g. is_call (out-Form g)) is ∙ ap is_call out

out-Literal : (v : List Bit4) (goes_on : Bool) → out-Form (V.Literal v goes_on) ≡ Form-F.Literal v goes_on
out-Literal v goes_on = search (rules, the_lemmas)

pub uncalled-Literal : (e : Expr) (v : List Bit4) (goes_on : Bool) → e.form ≡ V.Literal v goes_on → is_call (out-Form e.form) ≡ false
uncalled-Literal e v goes_on is = by-form e (V.Literal v goes_on) (Form-F.Literal v goes_on) is (out-Literal v goes_on)

out-Fill : (b : Bit4) → out-Form (V.Fill b) ≡ Form-F.Fill b
out-Fill b = search (rules, the_lemmas)

pub uncalled-Fill : (e : Expr) (b : Bit4) → e.form ≡ V.Fill b → is_call (out-Form e.form) ≡ false
uncalled-Fill e b is = by-form e (V.Fill b) (Form-F.Fill b) is (out-Fill b)

out-Constant : (v : Value) → out-Form (V.Constant v) ≡ Form-F.Constant v
out-Constant v = search (rules, the_lemmas)

pub uncalled-Constant : (e : Expr) (v : Value) → e.form ≡ V.Constant v → is_call (out-Form e.form) ≡ false
uncalled-Constant e v is = by-form e (V.Constant v) (Form-F.Constant v) is (out-Constant v)

out-Signal : (n : ℕ) → out-Form (V.Signal n) ≡ Form-F.Signal n
out-Signal n = search (rules, the_lemmas)

pub uncalled-Signal : (e : Expr) (n : ℕ) → e.form ≡ V.Signal n → is_call (out-Form e.form) ≡ false
uncalled-Signal e n is = by-form e (V.Signal n) (Form-F.Signal n) is (out-Signal n)

out-Local : (n : ℕ) → out-Form (V.Local n) ≡ Form-F.Local n
out-Local n = search (rules, the_lemmas)

pub uncalled-Local : (e : Expr) (n : ℕ) → e.form ≡ V.Local n → is_call (out-Form e.form) ≡ false
uncalled-Local e n is = by-form e (V.Local n) (Form-F.Local n) is (out-Local n)

out-Member : (x : Expr) (k : ℕ) → out-Form (V.Member x k) ≡ Form-F.Member x k
out-Member x k = search (rules, the_lemmas)

pub uncalled-Member : (e : Expr) (x : Expr) (k : ℕ) → e.form ≡ V.Member x k → is_call (out-Form e.form) ≡ false
uncalled-Member e x k is = by-form e (V.Member x k) (Form-F.Member x k) is (out-Member x k)

out-Index : (x : Expr) (y : Expr) → out-Form (V.Index x y) ≡ Form-F.Index x y
out-Index x y = search (rules, the_lemmas)

pub uncalled-Index : (e : Expr) (x : Expr) (y : Expr) → e.form ≡ V.Index x y → is_call (out-Form e.form) ≡ false
uncalled-Index e x y is = by-form e (V.Index x y) (Form-F.Index x y) is (out-Index x y)

out-Part : (x : Expr) (left : ℤ) (right : ℤ) → out-Form (V.Part x left right) ≡ Form-F.Part x left right
out-Part x left right = search (rules, the_lemmas)

pub uncalled-Part : (e : Expr) (x : Expr) (left : ℤ) (right : ℤ) → e.form ≡ V.Part x left right → is_call (out-Form e.form) ≡ false
uncalled-Part e x left right is = by-form e (V.Part x left right) (Form-F.Part x left right) is (out-Part x left right)

out-Slide : (x : Expr) (y : Expr) (n : ℕ) (up : Bool) → out-Form (V.Slide x y n up) ≡ Form-F.Slide x y n up
out-Slide x y n up = search (rules, the_lemmas)

pub uncalled-Slide : (e : Expr) (x : Expr) (y : Expr) (n : ℕ) (up : Bool) → e.form ≡ V.Slide x y n up → is_call (out-Form e.form) ≡ false
uncalled-Slide e x y n up is = by-form e (V.Slide x y n up) (Form-F.Slide x y n up) is (out-Slide x y n up)

out-Unary : (op : UnOp) (x : Expr) → out-Form (V.Unary op x) ≡ Form-F.Unary op x
out-Unary op x = search (rules, the_lemmas)

pub uncalled-Unary : (e : Expr) (op : UnOp) (x : Expr) → e.form ≡ V.Unary op x → is_call (out-Form e.form) ≡ false
uncalled-Unary e op x is = by-form e (V.Unary op x) (Form-F.Unary op x) is (out-Unary op x)

out-Reduce : (op : RedOp) (x : Expr) → out-Form (V.Reduce op x) ≡ Form-F.Reduce op x
out-Reduce op x = search (rules, the_lemmas)

pub uncalled-Reduce : (e : Expr) (op : RedOp) (x : Expr) → e.form ≡ V.Reduce op x → is_call (out-Form e.form) ≡ false
uncalled-Reduce e op x is = by-form e (V.Reduce op x) (Form-F.Reduce op x) is (out-Reduce op x)

out-Negate : (x : Expr) → out-Form (V.Negate x) ≡ Form-F.Negate x
out-Negate x = search (rules, the_lemmas)

pub uncalled-Negate : (e : Expr) (x : Expr) → e.form ≡ V.Negate x → is_call (out-Form e.form) ≡ false
uncalled-Negate e x is = by-form e (V.Negate x) (Form-F.Negate x) is (out-Negate x)

out-Binary : (op : BinOp) (x : Expr) (y : Expr) → out-Form (V.Binary op x y) ≡ Form-F.Binary op x y
out-Binary op x y = search (rules, the_lemmas)

pub uncalled-Binary : (e : Expr) (op : BinOp) (x : Expr) (y : Expr) → e.form ≡ V.Binary op x y → is_call (out-Form e.form) ≡ false
uncalled-Binary e op x y is = by-form e (V.Binary op x y) (Form-F.Binary op x y) is (out-Binary op x y)

out-Shift : (op : ShiftOp) (x : Expr) (y : Expr) → out-Form (V.Shift op x y) ≡ Form-F.Shift op x y
out-Shift op x y = search (rules, the_lemmas)

pub uncalled-Shift : (e : Expr) (op : ShiftOp) (x : Expr) (y : Expr) → e.form ≡ V.Shift op x y → is_call (out-Form e.form) ≡ false
uncalled-Shift e op x y is = by-form e (V.Shift op x y) (Form-F.Shift op x y) is (out-Shift op x y)

out-Power : (x : Expr) (y : Expr) → out-Form (V.Power x y) ≡ Form-F.Power x y
out-Power x y = search (rules, the_lemmas)

pub uncalled-Power : (e : Expr) (x : Expr) (y : Expr) → e.form ≡ V.Power x y → is_call (out-Form e.form) ≡ false
uncalled-Power e x y is = by-form e (V.Power x y) (Form-F.Power x y) is (out-Power x y)

out-Order : (op : OrdOp) (x : Expr) (y : Expr) → out-Form (V.Order op x y) ≡ Form-F.Order op x y
out-Order op x y = search (rules, the_lemmas)

pub uncalled-Order : (e : Expr) (op : OrdOp) (x : Expr) (y : Expr) → e.form ≡ V.Order op x y → is_call (out-Form e.form) ≡ false
uncalled-Order e op x y is = by-form e (V.Order op x y) (Form-F.Order op x y) is (out-Order op x y)

out-Equal : (op : EqOp) (negated : Bool) (x : Expr) (y : Expr) → out-Form (V.Equal op negated x y) ≡ Form-F.Equal op negated x y
out-Equal op negated x y = search (rules, the_lemmas)

pub uncalled-Equal : (e : Expr) (op : EqOp) (negated : Bool) (x : Expr) (y : Expr) → e.form ≡ V.Equal op negated x y → is_call (out-Form e.form) ≡ false
uncalled-Equal e op negated x y is = by-form e (V.Equal op negated x y) (Form-F.Equal op negated x y) is (out-Equal op negated x y)

out-Both : (x : Expr) (y : Expr) → out-Form (V.Both x y) ≡ Form-F.Both x y
out-Both x y = search (rules, the_lemmas)

pub uncalled-Both : (e : Expr) (x : Expr) (y : Expr) → e.form ≡ V.Both x y → is_call (out-Form e.form) ≡ false
uncalled-Both e x y is = by-form e (V.Both x y) (Form-F.Both x y) is (out-Both x y)

out-Either : (x : Expr) (y : Expr) → out-Form (V.Either x y) ≡ Form-F.Either x y
out-Either x y = search (rules, the_lemmas)

pub uncalled-Either : (e : Expr) (x : Expr) (y : Expr) → e.form ≡ V.Either x y → is_call (out-Form e.form) ≡ false
uncalled-Either e x y is = by-form e (V.Either x y) (Form-F.Either x y) is (out-Either x y)

out-Choose : (z : Expr) (x : Expr) (y : Expr) → out-Form (V.Choose z x y) ≡ Form-F.Choose z x y
out-Choose z x y = search (rules, the_lemmas)

pub uncalled-Choose : (e : Expr) (z : Expr) (x : Expr) (y : Expr) → e.form ≡ V.Choose z x y → is_call (out-Form e.form) ≡ false
uncalled-Choose e z x y is = by-form e (V.Choose z x y) (Form-F.Choose z x y) is (out-Choose z x y)

out-Concat : (es : List Expr) → out-Form (V.Concat es) ≡ Form-F.Concat es
out-Concat es = search (rules, the_lemmas)

pub uncalled-Concat : (e : Expr) (es : List Expr) → e.form ≡ V.Concat es → is_call (out-Form e.form) ≡ false
uncalled-Concat e es is = by-form e (V.Concat es) (Form-F.Concat es) is (out-Concat es)

out-Repeat : (n : ℕ) (es : List Expr) → out-Form (V.Repeat n es) ≡ Form-F.Repeat n es
out-Repeat n es = search (rules, the_lemmas)

pub uncalled-Repeat : (e : Expr) (n : ℕ) (es : List Expr) → e.form ≡ V.Repeat n es → is_call (out-Form e.form) ≡ false
uncalled-Repeat e n es is = by-form e (V.Repeat n es) (Form-F.Repeat n es) is (out-Repeat n es)

out-Inside : (x : Expr) (cs : List Choice) → out-Form (V.Inside x cs) ≡ Form-F.Inside x cs
out-Inside x cs = search (rules, the_lemmas)

pub uncalled-Inside : (e : Expr) (x : Expr) (cs : List Choice) → e.form ≡ V.Inside x cs → is_call (out-Form e.form) ≡ false
uncalled-Inside e x cs is = by-form e (V.Inside x cs) (Form-F.Inside x cs) is (out-Inside x cs)

out-Cast : (x : Expr) → out-Form (V.Cast x) ≡ Form-F.Cast x
out-Cast x = search (rules, the_lemmas)

pub uncalled-Cast : (e : Expr) (x : Expr) → e.form ≡ V.Cast x → is_call (out-Form e.form) ≡ false
uncalled-Cast e x is = by-form e (V.Cast x) (Form-F.Cast x) is (out-Cast x)

out-Clog2 : (x : Expr) → out-Form (V.Clog2 x) ≡ Form-F.Clog2 x
out-Clog2 x = search (rules, the_lemmas)

pub uncalled-Clog2 : (e : Expr) (x : Expr) → e.form ≡ V.Clog2 x → is_call (out-Form e.form) ≡ false
uncalled-Clog2 e x is = by-form e (V.Clog2 x) (Form-F.Clog2 x) is (out-Clog2 x)

out-Pattern : (es : List Expr) → out-Form (V.Pattern es) ≡ Form-F.Pattern es
out-Pattern es = search (rules, the_lemmas)

pub uncalled-Pattern : (e : Expr) (es : List Expr) → e.form ≡ V.Pattern es → is_call (out-Form e.form) ≡ false
uncalled-Pattern e es is = by-form e (V.Pattern es) (Form-F.Pattern es) is (out-Pattern es)

out-Stream : (reversed : Bool) (n : ℕ) (es : List Expr) → out-Form (V.Stream reversed n es) ≡ Form-F.Stream reversed n es
out-Stream reversed n es = search (rules, the_lemmas)

pub uncalled-Stream : (e : Expr) (reversed : Bool) (n : ℕ) (es : List Expr) → e.form ≡ V.Stream reversed n es → is_call (out-Form e.form) ≡ false
uncalled-Stream e reversed n es is = by-form e (V.Stream reversed n es) (Form-F.Stream reversed n es) is (out-Stream reversed n es)

pub ruleset uncalled = (uncalled-Literal, uncalled-Fill, uncalled-Constant, uncalled-Signal, uncalled-Local, uncalled-Member, uncalled-Index, uncalled-Part, uncalled-Slide, uncalled-Unary, uncalled-Reduce, uncalled-Negate, uncalled-Binary, uncalled-Shift, uncalled-Power, uncalled-Order, uncalled-Equal, uncalled-Both, uncalled-Either, uncalled-Choose, uncalled-Concat, uncalled-Repeat, uncalled-Inside, uncalled-Cast, uncalled-Clog2, uncalled-Pattern, uncalled-Stream)
