-- Expressions that are neither select paths, concatenations nor streams aren't written as targets.
use Rattle.std.proofs.Common.{◌≡◌, ℕ, Bool, false, ℤ, List, map, refl, ap, sym, ◌∙◌, subst, inl, inr, rules}
use Rattle.b4_core.specs.declared.bit.Bit4.{Bit4}
use Rattle.b4_core.specs.declared.operators.UnOp.{UnOp}
use Rattle.b4_core.specs.declared.operators.BinOp.{BinOp}
use Rattle.b4_core.specs.declared.operators.RedOp.{RedOp}
use Rattle.b4_core.specs.declared.operators.ShiftOp.{ShiftOp}
use Rattle.b4_core.specs.declared.operators.OrdOp.{OrdOp}
use Rattle.b4_core.specs.declared.operators.EqOp.{EqOp}
use Rattle.sv_types.specs.declared.types.Value.{Value}
use Rattle.sv_types.specs.declared.expression.Expr.{Expr}
use Rattle.sv_types.specs.declared.expression.Choice.{Choice}
use Rattle.sv_types.specs.declared.expression.Form.{Form, Form-F, out-Form, the_lemmas}
use Rattle.sv_types.specs.declared.expression.Form.TheVariants as V
use Rattle.sv_types.specs.Layouts.{Layout, layout}
use Rattle.sv_types.specs.Meanings.{Meaning}
use Rattle.sv_types.specs.Operators as O
use Rattle.sv_types.specs.Expressions.{meaning}
use Rattle.sv_types.proofs.Levels as L
use Rattle.sv_types.proofs.Levels.{form_meaning}
use Rattle.eval_parts.specs.Steps.{is_path}
use Rattle.eval_parts.proofs.Steps.{at-form}
use Rattle.expr_flows.specs.Targets.{IsWhole, IsJoined}

by-form : (e : Expr) (f : Form) (y : Layout → ℕ → Meaning) → e.form ≡ f → form_meaning f ≡ y → IsWhole (y (layout e.of) e.spot.at) → IsWhole (meaning e)
by-form e f y is level whole = subst IsWhole (sym (at-form e f y is level)) whole

in-Literal : (of : Layout) (at : ℕ) (v : List Bit4) (goes_on : Bool) → IsWhole (O.literal of at goes_on v)
unfolding O.literal
in-Literal of at v goes_on = record { indices = λ k. refl; writes = λ k. refl }

pub whole-Literal : (e : Expr) (v : List Bit4) (goes_on : Bool) → e.form ≡ V.Literal v goes_on → is_path (out-Form e.form) ≡ false → IsWhole (meaning e)
whole-Literal e v goes_on is plain = by-form e (V.Literal v goes_on) _ is (L.form-Literal v goes_on) (in-Literal (layout e.of) e.spot.at v goes_on)

in-Fill : (of : Layout) (at : ℕ) (b : Bit4) → IsWhole (O.fill of at b)
unfolding O.fill
in-Fill of at b = record { indices = λ k. refl; writes = λ k. refl }

pub whole-Fill : (e : Expr) (b : Bit4) → e.form ≡ V.Fill b → is_path (out-Form e.form) ≡ false → IsWhole (meaning e)
whole-Fill e b is plain = by-form e (V.Fill b) _ is (L.form-Fill b) (in-Fill (layout e.of) e.spot.at b)

in-Constant : (of : Layout) (at : ℕ) (v : Value) → IsWhole (O.constant of at v)
unfolding O.constant
in-Constant of at v = record { indices = λ k. refl; writes = λ k. refl }

pub whole-Constant : (e : Expr) (v : Value) → e.form ≡ V.Constant v → is_path (out-Form e.form) ≡ false → IsWhole (meaning e)
whole-Constant e v is plain = by-form e (V.Constant v) _ is (L.form-Constant v) (in-Constant (layout e.of) e.spot.at v)

in-Unary : (of : Layout) (at : ℕ) (op : UnOp) (x : Expr) → IsWhole (O.unary of at op (meaning x))
unfolding O.unary
in-Unary of at op x = record { indices = λ k. refl; writes = λ k. refl }

pub whole-Unary : (e : Expr) (op : UnOp) (x : Expr) → e.form ≡ V.Unary op x → is_path (out-Form e.form) ≡ false → IsWhole (meaning e)
whole-Unary e op x is plain = by-form e (V.Unary op x) _ is (L.form-Unary op x) (in-Unary (layout e.of) e.spot.at op x)

in-Reduce : (of : Layout) (at : ℕ) (op : RedOp) (x : Expr) → IsWhole (O.reduce of at op (meaning x))
unfolding O.reduce
in-Reduce of at op x = record { indices = λ k. refl; writes = λ k. refl }

pub whole-Reduce : (e : Expr) (op : RedOp) (x : Expr) → e.form ≡ V.Reduce op x → is_path (out-Form e.form) ≡ false → IsWhole (meaning e)
whole-Reduce e op x is plain = by-form e (V.Reduce op x) _ is (L.form-Reduce op x) (in-Reduce (layout e.of) e.spot.at op x)

in-Negate : (of : Layout) (at : ℕ) (x : Expr) → IsWhole (O.negate of at (meaning x))
unfolding O.negate
in-Negate of at x = record { indices = λ k. refl; writes = λ k. refl }

pub whole-Negate : (e : Expr) (x : Expr) → e.form ≡ V.Negate x → is_path (out-Form e.form) ≡ false → IsWhole (meaning e)
whole-Negate e x is plain = by-form e (V.Negate x) _ is (L.form-Negate x) (in-Negate (layout e.of) e.spot.at x)

in-Binary : (of : Layout) (at : ℕ) (op : BinOp) (x : Expr) (y : Expr) → IsWhole (O.binary of at op (meaning x) (meaning y))
unfolding O.binary
in-Binary of at op x y = record { indices = λ k. refl; writes = λ k. refl }

pub whole-Binary : (e : Expr) (op : BinOp) (x : Expr) (y : Expr) → e.form ≡ V.Binary op x y → is_path (out-Form e.form) ≡ false → IsWhole (meaning e)
whole-Binary e op x y is plain = by-form e (V.Binary op x y) _ is (L.form-Binary op x y) (in-Binary (layout e.of) e.spot.at op x y)

in-Shift : (of : Layout) (at : ℕ) (op : ShiftOp) (x : Expr) (y : Expr) → IsWhole (O.shift of at op (meaning x) (meaning y))
unfolding O.shift
in-Shift of at op x y = record { indices = λ k. refl; writes = λ k. refl }

pub whole-Shift : (e : Expr) (op : ShiftOp) (x : Expr) (y : Expr) → e.form ≡ V.Shift op x y → is_path (out-Form e.form) ≡ false → IsWhole (meaning e)
whole-Shift e op x y is plain = by-form e (V.Shift op x y) _ is (L.form-Shift op x y) (in-Shift (layout e.of) e.spot.at op x y)

in-Power : (of : Layout) (at : ℕ) (x : Expr) (y : Expr) → IsWhole (O.power of at (meaning x) (meaning y))
unfolding O.power
in-Power of at x y = record { indices = λ k. refl; writes = λ k. refl }

pub whole-Power : (e : Expr) (x : Expr) (y : Expr) → e.form ≡ V.Power x y → is_path (out-Form e.form) ≡ false → IsWhole (meaning e)
whole-Power e x y is plain = by-form e (V.Power x y) _ is (L.form-Power x y) (in-Power (layout e.of) e.spot.at x y)

in-Order : (of : Layout) (at : ℕ) (op : OrdOp) (x : Expr) (y : Expr) → IsWhole (O.order of at op (meaning x) (meaning y))
unfolding O.order
in-Order of at op x y = record { indices = λ k. refl; writes = λ k. refl }

pub whole-Order : (e : Expr) (op : OrdOp) (x : Expr) (y : Expr) → e.form ≡ V.Order op x y → is_path (out-Form e.form) ≡ false → IsWhole (meaning e)
whole-Order e op x y is plain = by-form e (V.Order op x y) _ is (L.form-Order op x y) (in-Order (layout e.of) e.spot.at op x y)

in-Equal : (of : Layout) (at : ℕ) (op : EqOp) (negated : Bool) (x : Expr) (y : Expr) → IsWhole (O.equal of at op negated (meaning x) (meaning y))
unfolding O.equal
in-Equal of at op negated x y = record { indices = λ k. refl; writes = λ k. refl }

pub whole-Equal : (e : Expr) (op : EqOp) (negated : Bool) (x : Expr) (y : Expr) → e.form ≡ V.Equal op negated x y → is_path (out-Form e.form) ≡ false → IsWhole (meaning e)
whole-Equal e op negated x y is plain = by-form e (V.Equal op negated x y) _ is (L.form-Equal op negated x y) (in-Equal (layout e.of) e.spot.at op negated x y)

in-Both : (of : Layout) (at : ℕ) (x : Expr) (y : Expr) → IsWhole (O.both of at (meaning x) (meaning y))
unfolding O.both
in-Both of at x y = record { indices = λ k. refl; writes = λ k. refl }

pub whole-Both : (e : Expr) (x : Expr) (y : Expr) → e.form ≡ V.Both x y → is_path (out-Form e.form) ≡ false → IsWhole (meaning e)
whole-Both e x y is plain = by-form e (V.Both x y) _ is (L.form-Both x y) (in-Both (layout e.of) e.spot.at x y)

in-Either : (of : Layout) (at : ℕ) (x : Expr) (y : Expr) → IsWhole (O.either of at (meaning x) (meaning y))
unfolding O.either
in-Either of at x y = record { indices = λ k. refl; writes = λ k. refl }

pub whole-Either : (e : Expr) (x : Expr) (y : Expr) → e.form ≡ V.Either x y → is_path (out-Form e.form) ≡ false → IsWhole (meaning e)
whole-Either e x y is plain = by-form e (V.Either x y) _ is (L.form-Either x y) (in-Either (layout e.of) e.spot.at x y)

in-Choose : (of : Layout) (at : ℕ) (z : Expr) (x : Expr) (y : Expr) → IsWhole (O.choose of at (meaning z) (meaning x) (meaning y))
unfolding O.choose
in-Choose of at z x y = record { indices = λ k. refl; writes = λ k. refl }

pub whole-Choose : (e : Expr) (z : Expr) (x : Expr) (y : Expr) → e.form ≡ V.Choose z x y → is_path (out-Form e.form) ≡ false → IsWhole (meaning e)
whole-Choose e z x y is plain = by-form e (V.Choose z x y) _ is (L.form-Choose z x y) (in-Choose (layout e.of) e.spot.at z x y)

in-Cast : (of : Layout) (at : ℕ) (x : Expr) → IsWhole (O.cast of at (meaning x))
unfolding O.cast
in-Cast of at x = record { indices = λ k. refl; writes = λ k. refl }

pub whole-Cast : (e : Expr) (x : Expr) → e.form ≡ V.Cast x → is_path (out-Form e.form) ≡ false → IsWhole (meaning e)
whole-Cast e x is plain = by-form e (V.Cast x) _ is (L.form-Cast x) (in-Cast (layout e.of) e.spot.at x)

in-Clog2 : (of : Layout) (at : ℕ) (x : Expr) → IsWhole (O.clog2 of at (meaning x))
unfolding O.clog2
in-Clog2 of at x = record { indices = λ k. refl; writes = λ k. refl }

pub whole-Clog2 : (e : Expr) (x : Expr) → e.form ≡ V.Clog2 x → is_path (out-Form e.form) ≡ false → IsWhole (meaning e)
whole-Clog2 e x is plain = by-form e (V.Clog2 x) _ is (L.form-Clog2 x) (in-Clog2 (layout e.of) e.spot.at x)

in-Repeat : (of : Layout) (at : ℕ) (n : ℕ) (es : List Expr) → IsWhole (O.repeat of at n (map meaning es))
unfolding O.repeat
in-Repeat of at n es = record { indices = λ k. refl; writes = λ k. refl }

pub whole-Repeat : (e : Expr) (n : ℕ) (es : List Expr) → e.form ≡ V.Repeat n es → is_path (out-Form e.form) ≡ false → IsWhole (meaning e)
whole-Repeat e n es is plain = by-form e (V.Repeat n es) _ is (L.form-Repeat n es) (in-Repeat (layout e.of) e.spot.at n es)

in-Pattern : (of : Layout) (at : ℕ) (es : List Expr) → IsWhole (O.pattern of at (map meaning es))
unfolding O.pattern
in-Pattern of at es = record { indices = λ k. refl; writes = λ k. refl }

pub whole-Pattern : (e : Expr) (es : List Expr) → e.form ≡ V.Pattern es → is_path (out-Form e.form) ≡ false → IsWhole (meaning e)
whole-Pattern e es is plain = by-form e (V.Pattern es) _ is (L.form-Pattern es) (in-Pattern (layout e.of) e.spot.at es)

in-Call : (of : Layout) (at : ℕ) (f : ℕ) (es : List Expr) → IsWhole (O.call of at f (map meaning es))
unfolding O.call
in-Call of at f es = record { indices = λ k. refl; writes = λ k. refl }

pub whole-Call : (e : Expr) (f : ℕ) (es : List Expr) → e.form ≡ V.Call f es → is_path (out-Form e.form) ≡ false → IsWhole (meaning e)
whole-Call e f es is plain = by-form e (V.Call f es) _ is (L.form-Call f es) (in-Call (layout e.of) e.spot.at f es)

in-Inside : (of : Layout) (at : ℕ) (x : Expr) (cs : List Choice) → IsWhole (O.inside of at (meaning x) (map L.alternative cs))
unfolding O.inside
in-Inside of at x cs = record { indices = λ k. refl; writes = λ k. refl }

pub whole-Inside : (e : Expr) (x : Expr) (cs : List Choice) → e.form ≡ V.Inside x cs → is_path (out-Form e.form) ≡ false → IsWhole (meaning e)
whole-Inside e x cs is plain = by-form e (V.Inside x cs) _ is (L.form-Inside x cs) (in-Inside (layout e.of) e.spot.at x cs)

out-Signal : (n : ℕ) → out-Form (V.Signal n) ≡ Form-F.Signal n
out-Signal n = search (rules, the_lemmas)

pub whole-Signal : (e : Expr) (n : ℕ) → e.form ≡ V.Signal n → is_path (out-Form e.form) ≡ false → IsWhole (meaning e)
whole-Signal e n is plain = let p = sym (ap is_path (ap out-Form is ∙ out-Signal n)) ∙ plain in absurd (cc)

out-Local : (n : ℕ) → out-Form (V.Local n) ≡ Form-F.Local n
out-Local n = search (rules, the_lemmas)

pub whole-Local : (e : Expr) (n : ℕ) → e.form ≡ V.Local n → is_path (out-Form e.form) ≡ false → IsWhole (meaning e)
whole-Local e n is plain = let p = sym (ap is_path (ap out-Form is ∙ out-Local n)) ∙ plain in absurd (cc)

out-Member : (x : Expr) (k : ℕ) → out-Form (V.Member x k) ≡ Form-F.Member x k
out-Member x k = search (rules, the_lemmas)

pub whole-Member : (e : Expr) (x : Expr) (k : ℕ) → e.form ≡ V.Member x k → is_path (out-Form e.form) ≡ false → IsWhole (meaning e)
whole-Member e x k is plain = let p = sym (ap is_path (ap out-Form is ∙ out-Member x k)) ∙ plain in absurd (cc)

out-Index : (x : Expr) (i : Expr) → out-Form (V.Index x i) ≡ Form-F.Index x i
out-Index x i = search (rules, the_lemmas)

pub whole-Index : (e : Expr) (x : Expr) (i : Expr) → e.form ≡ V.Index x i → is_path (out-Form e.form) ≡ false → IsWhole (meaning e)
whole-Index e x i is plain = let p = sym (ap is_path (ap out-Form is ∙ out-Index x i)) ∙ plain in absurd (cc)

out-Part : (x : Expr) (left : ℤ) (right : ℤ) → out-Form (V.Part x left right) ≡ Form-F.Part x left right
out-Part x left right = search (rules, the_lemmas)

pub whole-Part : (e : Expr) (x : Expr) (left : ℤ) (right : ℤ) → e.form ≡ V.Part x left right → is_path (out-Form e.form) ≡ false → IsWhole (meaning e)
whole-Part e x left right is plain = let p = sym (ap is_path (ap out-Form is ∙ out-Part x left right)) ∙ plain in absurd (cc)

out-Slide : (x : Expr) (i : Expr) (n : ℕ) (up : Bool) → out-Form (V.Slide x i n up) ≡ Form-F.Slide x i n up
out-Slide x i n up = search (rules, the_lemmas)

pub whole-Slide : (e : Expr) (x : Expr) (i : Expr) (n : ℕ) (up : Bool) → e.form ≡ V.Slide x i n up → is_path (out-Form e.form) ≡ false → IsWhole (meaning e)
whole-Slide e x i n up is plain = let p = sym (ap is_path (ap out-Form is ∙ out-Slide x i n up)) ∙ plain in absurd (cc)

pub joined-Concat : (e : Expr) (es : List Expr) → e.form ≡ V.Concat es → IsJoined es e
joined-Concat e es is = inl is

pub joined-Stream : (e : Expr) (reversed : Bool) (n : ℕ) (es : List Expr) → e.form ≡ V.Stream reversed n es → IsJoined es e
joined-Stream e reversed n es is = inr (reversed, n, is)

pub ruleset wholes = (whole-Literal, whole-Fill, whole-Constant, whole-Unary, whole-Reduce, whole-Negate, whole-Binary, whole-Shift, whole-Power, whole-Order, whole-Equal, whole-Both, whole-Either, whole-Choose, whole-Cast, whole-Clog2, whole-Repeat, whole-Pattern, whole-Call, whole-Inside, whole-Signal, whole-Local, whole-Member, whole-Index, whole-Part, whole-Slide, joined-Concat, joined-Stream)
