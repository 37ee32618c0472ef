-- Which forms have operators of the target language.
use Rattle.std.proofs.Common.{◌≡◌, ℕ, Bool, false, ℤ, List, rules, refl, ap, ◌∙◌}
use Rattle.b4_core.specs.declared.bit.Bit4.{Bit4}
use Rattle.b4_core.specs.declared.operators.UnOp.{UnOp}
use Rattle.b4_core.specs.declared.operators.BinOp.{BinOp}
use Rattle.b4_core.specs.declared.operators.RedOp.{RedOp}
use Rattle.b4_core.specs.declared.operators.ShiftOp.{ShiftOp}
use Rattle.b4_core.specs.declared.operators.OrdOp.{OrdOp}
use Rattle.b4_core.specs.declared.operators.EqOp.{EqOp}
use Rattle.sv_types.specs.declared.types.Value.{Value}
use Rattle.sv_types.specs.declared.expression.Expr.{Expr}
use Rattle.sv_types.specs.declared.expression.Choice.{Choice}
use Rattle.sv_types.specs.declared.expression.Form.{Form, Form-F, out-Form, the_lemmas}
use Rattle.sv_types.specs.declared.expression.Form.TheVariants as V
use Rattle.expr_lower.specs.Specials.{is_wild, is_special}

by-form : (e : Expr) (f : Form) (y : Form-F Choice Form Expr) → e.form ≡ f → out-Form f ≡ y → is_special y ≡ false → is_special (out-Form e.form) ≡ false
by-form e f y is out plain = ap (λ g. is_special (out-Form g)) is ∙ ap is_special out ∙ plain

out-Equal : (op : EqOp) (negated : Bool) (x y : Expr) → out-Form (V.Equal op negated x y) ≡ Form-F.Equal op negated x y
out-Equal op negated x y = search (rules, the_lemmas)

pub plain-Equal : (e : Expr) (op : EqOp) (negated : Bool) (x y : Expr) → is_wild op ≡ false → e.form ≡ V.Equal op negated x y → is_special (out-Form e.form) ≡ false
plain-Equal e op negated x y tame is = by-form e (V.Equal op negated x y) (Form-F.Equal op negated x y) is (out-Equal op negated x y) tame

out-Literal : (v : List Bit4) (goes_on : Bool) → out-Form (V.Literal v goes_on) ≡ Form-F.Literal v goes_on
out-Literal v goes_on = search (rules, the_lemmas)

pub plain-Literal : (e : Expr) (v : List Bit4) (goes_on : Bool) → e.form ≡ V.Literal v goes_on → is_special (out-Form e.form) ≡ false
plain-Literal e v goes_on is = by-form e (V.Literal v goes_on) (Form-F.Literal v goes_on) is (out-Literal v goes_on) refl

out-Fill : (b : Bit4) → out-Form (V.Fill b) ≡ Form-F.Fill b
out-Fill b = search (rules, the_lemmas)

pub plain-Fill : (e : Expr) (b : Bit4) → e.form ≡ V.Fill b → is_special (out-Form e.form) ≡ false
plain-Fill e b is = by-form e (V.Fill b) (Form-F.Fill b) is (out-Fill b) refl

out-Constant : (v : Value) → out-Form (V.Constant v) ≡ Form-F.Constant v
out-Constant v = search (rules, the_lemmas)

pub plain-Constant : (e : Expr) (v : Value) → e.form ≡ V.Constant v → is_special (out-Form e.form) ≡ false
plain-Constant e v is = by-form e (V.Constant v) (Form-F.Constant v) is (out-Constant v) refl

out-Signal : (n : ℕ) → out-Form (V.Signal n) ≡ Form-F.Signal n
out-Signal n = search (rules, the_lemmas)

pub plain-Signal : (e : Expr) (n : ℕ) → e.form ≡ V.Signal n → is_special (out-Form e.form) ≡ false
plain-Signal e n is = by-form e (V.Signal n) (Form-F.Signal n) is (out-Signal n) refl

out-Local : (n : ℕ) → out-Form (V.Local n) ≡ Form-F.Local n
out-Local n = search (rules, the_lemmas)

pub plain-Local : (e : Expr) (n : ℕ) → e.form ≡ V.Local n → is_special (out-Form e.form) ≡ false
plain-Local e n is = by-form e (V.Local n) (Form-F.Local n) is (out-Local n) refl

out-Member : (x : Expr) (k : ℕ) → out-Form (V.Member x k) ≡ Form-F.Member x k
out-Member x k = search (rules, the_lemmas)

pub plain-Member : (e : Expr) (x : Expr) (k : ℕ) → e.form ≡ V.Member x k → is_special (out-Form e.form) ≡ false
plain-Member e x k is = by-form e (V.Member x k) (Form-F.Member x k) is (out-Member x k) refl

out-Index : (x y : Expr) → out-Form (V.Index x y) ≡ Form-F.Index x y
out-Index x y = search (rules, the_lemmas)

pub plain-Index : (e : Expr) (x y : Expr) → e.form ≡ V.Index x y → is_special (out-Form e.form) ≡ false
plain-Index e x y is = by-form e (V.Index x y) (Form-F.Index x y) is (out-Index x y) refl

out-Part : (x : Expr) (left right : ℤ) → out-Form (V.Part x left right) ≡ Form-F.Part x left right
out-Part x left right = search (rules, the_lemmas)

pub plain-Part : (e : Expr) (x : Expr) (left right : ℤ) → e.form ≡ V.Part x left right → is_special (out-Form e.form) ≡ false
plain-Part e x left right is = by-form e (V.Part x left right) (Form-F.Part x left right) is (out-Part x left right) refl

out-Slide : (x y : Expr) (n : ℕ) (up : Bool) → out-Form (V.Slide x y n up) ≡ Form-F.Slide x y n up
out-Slide x y n up = search (rules, the_lemmas)

pub plain-Slide : (e : Expr) (x y : Expr) (n : ℕ) (up : Bool) → e.form ≡ V.Slide x y n up → is_special (out-Form e.form) ≡ false
plain-Slide e x y n up is = by-form e (V.Slide x y n up) (Form-F.Slide x y n up) is (out-Slide x y n up) refl

out-Unary : (op : UnOp) (x : Expr) → out-Form (V.Unary op x) ≡ Form-F.Unary op x
out-Unary op x = search (rules, the_lemmas)

pub plain-Unary : (e : Expr) (op : UnOp) (x : Expr) → e.form ≡ V.Unary op x → is_special (out-Form e.form) ≡ false
plain-Unary e op x is = by-form e (V.Unary op x) (Form-F.Unary op x) is (out-Unary op x) refl

out-Reduce : (op : RedOp) (x : Expr) → out-Form (V.Reduce op x) ≡ Form-F.Reduce op x
out-Reduce op x = search (rules, the_lemmas)

pub plain-Reduce : (e : Expr) (op : RedOp) (x : Expr) → e.form ≡ V.Reduce op x → is_special (out-Form e.form) ≡ false
plain-Reduce e op x is = by-form e (V.Reduce op x) (Form-F.Reduce op x) is (out-Reduce op x) refl

out-Negate : (x : Expr) → out-Form (V.Negate x) ≡ Form-F.Negate x
out-Negate x = search (rules, the_lemmas)

pub plain-Negate : (e : Expr) (x : Expr) → e.form ≡ V.Negate x → is_special (out-Form e.form) ≡ false
plain-Negate e x is = by-form e (V.Negate x) (Form-F.Negate x) is (out-Negate x) refl

out-Binary : (op : BinOp) (x y : Expr) → out-Form (V.Binary op x y) ≡ Form-F.Binary op x y
out-Binary op x y = search (rules, the_lemmas)

pub plain-Binary : (e : Expr) (op : BinOp) (x y : Expr) → e.form ≡ V.Binary op x y → is_special (out-Form e.form) ≡ false
plain-Binary e op x y is = by-form e (V.Binary op x y) (Form-F.Binary op x y) is (out-Binary op x y) refl

out-Shift : (op : ShiftOp) (x y : Expr) → out-Form (V.Shift op x y) ≡ Form-F.Shift op x y
out-Shift op x y = search (rules, the_lemmas)

pub plain-Shift : (e : Expr) (op : ShiftOp) (x y : Expr) → e.form ≡ V.Shift op x y → is_special (out-Form e.form) ≡ false
plain-Shift e op x y is = by-form e (V.Shift op x y) (Form-F.Shift op x y) is (out-Shift op x y) refl

out-Power : (x y : Expr) → out-Form (V.Power x y) ≡ Form-F.Power x y
out-Power x y = search (rules, the_lemmas)

pub plain-Power : (e : Expr) (x y : Expr) → e.form ≡ V.Power x y → is_special (out-Form e.form) ≡ false
plain-Power e x y is = by-form e (V.Power x y) (Form-F.Power x y) is (out-Power x y) refl

out-Order : (op : OrdOp) (x y : Expr) → out-Form (V.Order op x y) ≡ Form-F.Order op x y
out-Order op x y = search (rules, the_lemmas)

pub plain-Order : (e : Expr) (op : OrdOp) (x y : Expr) → e.form ≡ V.Order op x y → is_special (out-Form e.form) ≡ false
plain-Order e op x y is = by-form e (V.Order op x y) (Form-F.Order op x y) is (out-Order op x y) refl

out-Both : (x y : Expr) → out-Form (V.Both x y) ≡ Form-F.Both x y
out-Both x y = search (rules, the_lemmas)

pub plain-Both : (e : Expr) (x y : Expr) → e.form ≡ V.Both x y → is_special (out-Form e.form) ≡ false
plain-Both e x y is = by-form e (V.Both x y) (Form-F.Both x y) is (out-Both x y) refl

out-Either : (x y : Expr) → out-Form (V.Either x y) ≡ Form-F.Either x y
out-Either x y = search (rules, the_lemmas)

pub plain-Either : (e : Expr) (x y : Expr) → e.form ≡ V.Either x y → is_special (out-Form e.form) ≡ false
plain-Either e x y is = by-form e (V.Either x y) (Form-F.Either x y) is (out-Either x y) refl

out-Choose : (z x y : Expr) → out-Form (V.Choose z x y) ≡ Form-F.Choose z x y
out-Choose z x y = search (rules, the_lemmas)

pub plain-Choose : (e : Expr) (z x y : Expr) → e.form ≡ V.Choose z x y → is_special (out-Form e.form) ≡ false
plain-Choose e z x y is = by-form e (V.Choose z x y) (Form-F.Choose z x y) is (out-Choose z x y) refl

out-Concat : (es : List Expr) → out-Form (V.Concat es) ≡ Form-F.Concat es
out-Concat es = search (rules, the_lemmas)

pub plain-Concat : (e : Expr) (es : List Expr) → e.form ≡ V.Concat es → is_special (out-Form e.form) ≡ false
plain-Concat e es is = by-form e (V.Concat es) (Form-F.Concat es) is (out-Concat es) refl

out-Repeat : (n : ℕ) (es : List Expr) → out-Form (V.Repeat n es) ≡ Form-F.Repeat n es
out-Repeat n es = search (rules, the_lemmas)

pub plain-Repeat : (e : Expr) (n : ℕ) (es : List Expr) → e.form ≡ V.Repeat n es → is_special (out-Form e.form) ≡ false
plain-Repeat e n es is = by-form e (V.Repeat n es) (Form-F.Repeat n es) is (out-Repeat n es) refl

out-Stream : (reversed : Bool) (n : ℕ) (es : List Expr) → out-Form (V.Stream reversed n es) ≡ Form-F.Stream reversed n es
out-Stream reversed n es = search (rules, the_lemmas)

pub plain-Stream : (e : Expr) (reversed : Bool) (n : ℕ) (es : List Expr) → e.form ≡ V.Stream reversed n es → is_special (out-Form e.form) ≡ false
plain-Stream e reversed n es is = by-form e (V.Stream reversed n es) (Form-F.Stream reversed n es) is (out-Stream reversed n es) refl

pub ruleset plain = (plain-Literal, plain-Fill, plain-Constant, plain-Signal, plain-Local, plain-Member, plain-Index, plain-Part, plain-Slide, plain-Unary, plain-Reduce, plain-Negate, plain-Binary, plain-Shift, plain-Power, plain-Order, plain-Both, plain-Either, plain-Choose, plain-Concat, plain-Repeat, plain-Stream)
