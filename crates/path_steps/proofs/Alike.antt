-- Forms that are neither select paths nor concatenations name what they name as what a path stands on.
use Rattle.std.proofs.Common.{◌≡◌, ℕ, Bool, List, map, refl, sym, subst}
use Rattle.b4_core.specs.declared.bit.Bit4.{Bit4}
use Rattle.b4_core.specs.declared.operators.UnOp.{UnOp}
use Rattle.b4_core.specs.declared.operators.BinOp.{BinOp}
use Rattle.b4_core.specs.declared.operators.RedOp.{RedOp}
use Rattle.b4_core.specs.declared.operators.ShiftOp.{ShiftOp}
use Rattle.b4_core.specs.declared.operators.OrdOp.{OrdOp}
use Rattle.b4_core.specs.declared.operators.EqOp.{EqOp}
use Rattle.sv_types.specs.declared.types.Value.{Value}
use Rattle.sv_types.specs.declared.expression.Expr.{Expr}
use Rattle.sv_types.specs.declared.expression.Choice.{Choice}
use Rattle.sv_types.specs.declared.expression.Form.{Form}
use Rattle.sv_types.specs.declared.expression.Form.TheVariants as V
use Rattle.sv_types.specs.Layouts.{Layout, layout}
use Rattle.sv_types.specs.Meanings.{Meaning}
use Rattle.sv_types.specs.Operators as O
use Rattle.sv_types.specs.Expressions.{meaning}
use Rattle.sv_types.proofs.Levels as L
use Rattle.sv_types.proofs.Levels.{form_meaning}
use Rattle.eval_parts.proofs.Steps.{at-form}

abbrev pub Alike : Meaning → Type 0
Alike m = m.index_names ≡ m.names

by-form : (e : Expr) (f : Form) (y : Layout → ℕ → Meaning) → e.form ≡ f → form_meaning f ≡ y → Alike (y (layout e.of) e.spot.at) → Alike (meaning e)
by-form e f y is level alike = subst Alike (sym (at-form e f y is level)) alike

in-Literal : (of : Layout) (at : ℕ) (v : List Bit4) (goes_on : Bool) → Alike (O.literal of at goes_on v)
unfolding O.literal
in-Literal of at v goes_on = refl

pub alike-Literal : (e : Expr) (v : List Bit4) (goes_on : Bool) → e.form ≡ V.Literal v goes_on → Alike (meaning e)
alike-Literal e v goes_on is = by-form e (V.Literal v goes_on) _ is (L.form-Literal v goes_on) (in-Literal (layout e.of) e.spot.at v goes_on)

in-Fill : (of : Layout) (at : ℕ) (b : Bit4) → Alike (O.fill of at b)
unfolding O.fill
in-Fill of at b = refl

pub alike-Fill : (e : Expr) (b : Bit4) → e.form ≡ V.Fill b → Alike (meaning e)
alike-Fill e b is = by-form e (V.Fill b) _ is (L.form-Fill b) (in-Fill (layout e.of) e.spot.at b)

in-Constant : (of : Layout) (at : ℕ) (v : Value) → Alike (O.constant of at v)
unfolding O.constant
in-Constant of at v = refl

pub alike-Constant : (e : Expr) (v : Value) → e.form ≡ V.Constant v → Alike (meaning e)
alike-Constant e v is = by-form e (V.Constant v) _ is (L.form-Constant v) (in-Constant (layout e.of) e.spot.at v)

in-Unary : (of : Layout) (at : ℕ) (op : UnOp) (x : Expr) → Alike (O.unary of at op (meaning x))
unfolding O.unary
in-Unary of at op x = refl

pub alike-Unary : (e : Expr) (op : UnOp) (x : Expr) → e.form ≡ V.Unary op x → Alike (meaning e)
alike-Unary e op x is = by-form e (V.Unary op x) _ is (L.form-Unary op x) (in-Unary (layout e.of) e.spot.at op x)

in-Reduce : (of : Layout) (at : ℕ) (op : RedOp) (x : Expr) → Alike (O.reduce of at op (meaning x))
unfolding O.reduce
in-Reduce of at op x = refl

pub alike-Reduce : (e : Expr) (op : RedOp) (x : Expr) → e.form ≡ V.Reduce op x → Alike (meaning e)
alike-Reduce e op x is = by-form e (V.Reduce op x) _ is (L.form-Reduce op x) (in-Reduce (layout e.of) e.spot.at op x)

in-Negate : (of : Layout) (at : ℕ) (x : Expr) → Alike (O.negate of at (meaning x))
unfolding O.negate
in-Negate of at x = refl

pub alike-Negate : (e : Expr) (x : Expr) → e.form ≡ V.Negate x → Alike (meaning e)
alike-Negate e x is = by-form e (V.Negate x) _ is (L.form-Negate x) (in-Negate (layout e.of) e.spot.at x)

in-Binary : (of : Layout) (at : ℕ) (op : BinOp) (x : Expr) (y : Expr) → Alike (O.binary of at op (meaning x) (meaning y))
unfolding O.binary
in-Binary of at op x y = refl

pub alike-Binary : (e : Expr) (op : BinOp) (x : Expr) (y : Expr) → e.form ≡ V.Binary op x y → Alike (meaning e)
alike-Binary e op x y is = by-form e (V.Binary op x y) _ is (L.form-Binary op x y) (in-Binary (layout e.of) e.spot.at op x y)

in-Shift : (of : Layout) (at : ℕ) (op : ShiftOp) (x : Expr) (y : Expr) → Alike (O.shift of at op (meaning x) (meaning y))
unfolding O.shift
in-Shift of at op x y = refl

pub alike-Shift : (e : Expr) (op : ShiftOp) (x : Expr) (y : Expr) → e.form ≡ V.Shift op x y → Alike (meaning e)
alike-Shift e op x y is = by-form e (V.Shift op x y) _ is (L.form-Shift op x y) (in-Shift (layout e.of) e.spot.at op x y)

in-Power : (of : Layout) (at : ℕ) (x : Expr) (y : Expr) → Alike (O.power of at (meaning x) (meaning y))
unfolding O.power
in-Power of at x y = refl

pub alike-Power : (e : Expr) (x : Expr) (y : Expr) → e.form ≡ V.Power x y → Alike (meaning e)
alike-Power e x y is = by-form e (V.Power x y) _ is (L.form-Power x y) (in-Power (layout e.of) e.spot.at x y)

in-Order : (of : Layout) (at : ℕ) (op : OrdOp) (x : Expr) (y : Expr) → Alike (O.order of at op (meaning x) (meaning y))
unfolding O.order
in-Order of at op x y = refl

pub alike-Order : (e : Expr) (op : OrdOp) (x : Expr) (y : Expr) → e.form ≡ V.Order op x y → Alike (meaning e)
alike-Order e op x y is = by-form e (V.Order op x y) _ is (L.form-Order op x y) (in-Order (layout e.of) e.spot.at op x y)

in-Equal : (of : Layout) (at : ℕ) (op : EqOp) (negated : Bool) (x : Expr) (y : Expr) → Alike (O.equal of at op negated (meaning x) (meaning y))
unfolding O.equal
in-Equal of at op negated x y = refl

pub alike-Equal : (e : Expr) (op : EqOp) (negated : Bool) (x : Expr) (y : Expr) → e.form ≡ V.Equal op negated x y → Alike (meaning e)
alike-Equal e op negated x y is = by-form e (V.Equal op negated x y) _ is (L.form-Equal op negated x y) (in-Equal (layout e.of) e.spot.at op negated x y)

in-Both : (of : Layout) (at : ℕ) (x : Expr) (y : Expr) → Alike (O.both of at (meaning x) (meaning y))
unfolding O.both
in-Both of at x y = refl

pub alike-Both : (e : Expr) (x : Expr) (y : Expr) → e.form ≡ V.Both x y → Alike (meaning e)
alike-Both e x y is = by-form e (V.Both x y) _ is (L.form-Both x y) (in-Both (layout e.of) e.spot.at x y)

in-Either : (of : Layout) (at : ℕ) (x : Expr) (y : Expr) → Alike (O.either of at (meaning x) (meaning y))
unfolding O.either
in-Either of at x y = refl

pub alike-Either : (e : Expr) (x : Expr) (y : Expr) → e.form ≡ V.Either x y → Alike (meaning e)
alike-Either e x y is = by-form e (V.Either x y) _ is (L.form-Either x y) (in-Either (layout e.of) e.spot.at x y)

in-Choose : (of : Layout) (at : ℕ) (z : Expr) (x : Expr) (y : Expr) → Alike (O.choose of at (meaning z) (meaning x) (meaning y))
unfolding O.choose
in-Choose of at z x y = refl

pub alike-Choose : (e : Expr) (z : Expr) (x : Expr) (y : Expr) → e.form ≡ V.Choose z x y → Alike (meaning e)
alike-Choose e z x y is = by-form e (V.Choose z x y) _ is (L.form-Choose z x y) (in-Choose (layout e.of) e.spot.at z x y)

in-Repeat : (of : Layout) (at : ℕ) (n : ℕ) (xs : List Expr) → Alike (O.repeat of at n (map meaning xs))
unfolding O.repeat
in-Repeat of at n xs = refl

pub alike-Repeat : (e : Expr) (n : ℕ) (xs : List Expr) → e.form ≡ V.Repeat n xs → Alike (meaning e)
alike-Repeat e n xs is = by-form e (V.Repeat n xs) _ is (L.form-Repeat n xs) (in-Repeat (layout e.of) e.spot.at n xs)

in-Inside : (of : Layout) (at : ℕ) (x : Expr) (cs : List Choice) → Alike (O.inside of at (meaning x) (map L.alternative cs))
unfolding O.inside
in-Inside of at x cs = refl

pub alike-Inside : (e : Expr) (x : Expr) (cs : List Choice) → e.form ≡ V.Inside x cs → Alike (meaning e)
alike-Inside e x cs is = by-form e (V.Inside x cs) _ is (L.form-Inside x cs) (in-Inside (layout e.of) e.spot.at x cs)

in-Cast : (of : Layout) (at : ℕ) (x : Expr) → Alike (O.cast of at (meaning x))
unfolding O.cast
in-Cast of at x = refl

pub alike-Cast : (e : Expr) (x : Expr) → e.form ≡ V.Cast x → Alike (meaning e)
alike-Cast e x is = by-form e (V.Cast x) _ is (L.form-Cast x) (in-Cast (layout e.of) e.spot.at x)

in-Clog2 : (of : Layout) (at : ℕ) (x : Expr) → Alike (O.clog2 of at (meaning x))
unfolding O.clog2
in-Clog2 of at x = refl

pub alike-Clog2 : (e : Expr) (x : Expr) → e.form ≡ V.Clog2 x → Alike (meaning e)
alike-Clog2 e x is = by-form e (V.Clog2 x) _ is (L.form-Clog2 x) (in-Clog2 (layout e.of) e.spot.at x)

in-Pattern : (of : Layout) (at : ℕ) (xs : List Expr) → Alike (O.pattern of at (map meaning xs))
unfolding O.pattern
in-Pattern of at xs = refl

pub alike-Pattern : (e : Expr) (xs : List Expr) → e.form ≡ V.Pattern xs → Alike (meaning e)
alike-Pattern e xs is = by-form e (V.Pattern xs) _ is (L.form-Pattern xs) (in-Pattern (layout e.of) e.spot.at xs)

in-Call : (of : Layout) (at : ℕ) (f : ℕ) (xs : List Expr) → Alike (O.call of at f (map meaning xs))
unfolding O.call
in-Call of at f xs = refl

pub alike-Call : (e : Expr) (f : ℕ) (xs : List Expr) → e.form ≡ V.Call f xs → Alike (meaning e)
alike-Call e f xs is = by-form e (V.Call f xs) _ is (L.form-Call f xs) (in-Call (layout e.of) e.spot.at f xs)
