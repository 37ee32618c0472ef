-- What is given to a target, form by form: of all but streams the value at the larger width, cut.
use Rattle.std.proofs.Common.{◌≡◌, ℕ, Bool, ℤ, List, map, refl, sym, subst}
use Rattle.b4_core.specs.declared.bit.Bit4.{Bit4}
use Rattle.b4_core.specs.declared.operators.UnOp.{UnOp}
use Rattle.b4_core.specs.declared.operators.BinOp.{BinOp}
use Rattle.b4_core.specs.declared.operators.RedOp.{RedOp}
use Rattle.b4_core.specs.declared.operators.ShiftOp.{ShiftOp}
use Rattle.b4_core.specs.declared.operators.OrdOp.{OrdOp}
use Rattle.b4_core.specs.declared.operators.EqOp.{EqOp}
use Rattle.sv_types.specs.declared.types.Value.{Value}
use Rattle.sv_types.specs.declared.expression.Expr.{Expr}
use Rattle.sv_types.specs.declared.expression.Choice.{Choice}
use Rattle.sv_types.specs.declared.expression.Form.{Form}
use Rattle.sv_types.specs.declared.expression.Form.TheVariants as V
use Rattle.sv_types.specs.Layouts.{Layout, layout}
use Rattle.sv_types.specs.Meanings.{Meaning}
use Rattle.sv_types.specs.Operators as O
use Rattle.sv_types.specs.Paths as P
use Rattle.sv_types.specs.Expressions.{meaning}
use Rattle.sv_types.proofs.Levels as L
use Rattle.sv_types.proofs.Levels.{form_meaning}
use Rattle.eval_parts.specs.Streams.{IsCut}
use Rattle.eval_parts.proofs.Steps.{at-form}

by-form : (e : Expr) (f : Form) (y : Layout → ℕ → Meaning) → e.form ≡ f → form_meaning f ≡ y → IsCut (y (layout e.of) e.spot.at) → IsCut (meaning e)
by-form e f y is level cut = subst IsCut (sym (at-form e f y is level)) cut

in-Literal : (of : Layout) (at : ℕ) (v : List Bit4) (goes_on : Bool) → IsCut (O.literal of at goes_on v)
unfolding O.literal
in-Literal of at v goes_on = record { given = λ n a. refl }

pub cut-Literal : (e : Expr) (v : List Bit4) (goes_on : Bool) → e.form ≡ V.Literal v goes_on → IsCut (meaning e)
cut-Literal e v goes_on is = by-form e (V.Literal v goes_on) _ is (L.form-Literal v goes_on) (in-Literal (layout e.of) e.spot.at v goes_on)

in-Fill : (of : Layout) (at : ℕ) (b : Bit4) → IsCut (O.fill of at b)
unfolding O.fill
in-Fill of at b = record { given = λ n a. refl }

pub cut-Fill : (e : Expr) (b : Bit4) → e.form ≡ V.Fill b → IsCut (meaning e)
cut-Fill e b is = by-form e (V.Fill b) _ is (L.form-Fill b) (in-Fill (layout e.of) e.spot.at b)

in-Constant : (of : Layout) (at : ℕ) (v : Value) → IsCut (O.constant of at v)
unfolding O.constant
in-Constant of at v = record { given = λ n a. refl }

pub cut-Constant : (e : Expr) (v : Value) → e.form ≡ V.Constant v → IsCut (meaning e)
cut-Constant e v is = by-form e (V.Constant v) _ is (L.form-Constant v) (in-Constant (layout e.of) e.spot.at v)

in-Signal : (of : Layout) (at : ℕ) (n : ℕ) → IsCut (P.signal of at n)
unfolding P.signal
in-Signal of at n = record { given = λ n a. refl }

pub cut-Signal : (e : Expr) (n : ℕ) → e.form ≡ V.Signal n → IsCut (meaning e)
cut-Signal e n is = by-form e (V.Signal n) _ is (L.form-Signal n) (in-Signal (layout e.of) e.spot.at n)

in-Local : (of : Layout) (at : ℕ) (n : ℕ) → IsCut (P.local of at n)
unfolding P.local
in-Local of at n = record { given = λ n a. refl }

pub cut-Local : (e : Expr) (n : ℕ) → e.form ≡ V.Local n → IsCut (meaning e)
cut-Local e n is = by-form e (V.Local n) _ is (L.form-Local n) (in-Local (layout e.of) e.spot.at n)

in-Member : (of : Layout) (at : ℕ) (x : Expr) (k : ℕ) → IsCut (P.member of at (meaning x) k)
unfolding P.member
in-Member of at x k = record { given = λ n a. refl }

pub cut-Member : (e : Expr) (x : Expr) (k : ℕ) → e.form ≡ V.Member x k → IsCut (meaning e)
cut-Member e x k is = by-form e (V.Member x k) _ is (L.form-Member x k) (in-Member (layout e.of) e.spot.at x k)

in-Index : (of : Layout) (at : ℕ) (x : Expr) (y : Expr) → IsCut (P.index of at (meaning x) (meaning y))
unfolding P.index
in-Index of at x y = record { given = λ n a. refl }

pub cut-Index : (e : Expr) (x : Expr) (y : Expr) → e.form ≡ V.Index x y → IsCut (meaning e)
cut-Index e x y is = by-form e (V.Index x y) _ is (L.form-Index x y) (in-Index (layout e.of) e.spot.at x y)

in-Part : (of : Layout) (at : ℕ) (x : Expr) (left : ℤ) (right : ℤ) → IsCut (P.part_select of at (meaning x) left right)
unfolding P.part_select
in-Part of at x left right = record { given = λ n a. refl }

pub cut-Part : (e : Expr) (x : Expr) (left : ℤ) (right : ℤ) → e.form ≡ V.Part x left right → IsCut (meaning e)
cut-Part e x left right is = by-form e (V.Part x left right) _ is (L.form-Part x left right) (in-Part (layout e.of) e.spot.at x left right)

in-Slide : (of : Layout) (at : ℕ) (x : Expr) (y : Expr) (n : ℕ) (up : Bool) → IsCut (P.sliding of at (meaning x) (meaning y) n up)
unfolding P.sliding
in-Slide of at x y n up = record { given = λ n a. refl }

pub cut-Slide : (e : Expr) (x : Expr) (y : Expr) (n : ℕ) (up : Bool) → e.form ≡ V.Slide x y n up → IsCut (meaning e)
cut-Slide e x y n up is = by-form e (V.Slide x y n up) _ is (L.form-Slide x y n up) (in-Slide (layout e.of) e.spot.at x y n up)

in-Unary : (of : Layout) (at : ℕ) (op : UnOp) (x : Expr) → IsCut (O.unary of at op (meaning x))
unfolding O.unary
in-Unary of at op x = record { given = λ n a. refl }

pub cut-Unary : (e : Expr) (op : UnOp) (x : Expr) → e.form ≡ V.Unary op x → IsCut (meaning e)
cut-Unary e op x is = by-form e (V.Unary op x) _ is (L.form-Unary op x) (in-Unary (layout e.of) e.spot.at op x)

in-Reduce : (of : Layout) (at : ℕ) (op : RedOp) (x : Expr) → IsCut (O.reduce of at op (meaning x))
unfolding O.reduce
in-Reduce of at op x = record { given = λ n a. refl }

pub cut-Reduce : (e : Expr) (op : RedOp) (x : Expr) → e.form ≡ V.Reduce op x → IsCut (meaning e)
cut-Reduce e op x is = by-form e (V.Reduce op x) _ is (L.form-Reduce op x) (in-Reduce (layout e.of) e.spot.at op x)

in-Negate : (of : Layout) (at : ℕ) (x : Expr) → IsCut (O.negate of at (meaning x))
unfolding O.negate
in-Negate of at x = record { given = λ n a. refl }

pub cut-Negate : (e : Expr) (x : Expr) → e.form ≡ V.Negate x → IsCut (meaning e)
cut-Negate e x is = by-form e (V.Negate x) _ is (L.form-Negate x) (in-Negate (layout e.of) e.spot.at x)

in-Binary : (of : Layout) (at : ℕ) (op : BinOp) (x : Expr) (y : Expr) → IsCut (O.binary of at op (meaning x) (meaning y))
unfolding O.binary
in-Binary of at op x y = record { given = λ n a. refl }

pub cut-Binary : (e : Expr) (op : BinOp) (x : Expr) (y : Expr) → e.form ≡ V.Binary op x y → IsCut (meaning e)
cut-Binary e op x y is = by-form e (V.Binary op x y) _ is (L.form-Binary op x y) (in-Binary (layout e.of) e.spot.at op x y)

in-Shift : (of : Layout) (at : ℕ) (op : ShiftOp) (x : Expr) (y : Expr) → IsCut (O.shift of at op (meaning x) (meaning y))
unfolding O.shift
in-Shift of at op x y = record { given = λ n a. refl }

pub cut-Shift : (e : Expr) (op : ShiftOp) (x : Expr) (y : Expr) → e.form ≡ V.Shift op x y → IsCut (meaning e)
cut-Shift e op x y is = by-form e (V.Shift op x y) _ is (L.form-Shift op x y) (in-Shift (layout e.of) e.spot.at op x y)

in-Power : (of : Layout) (at : ℕ) (x : Expr) (y : Expr) → IsCut (O.power of at (meaning x) (meaning y))
unfolding O.power
in-Power of at x y = record { given = λ n a. refl }

pub cut-Power : (e : Expr) (x : Expr) (y : Expr) → e.form ≡ V.Power x y → IsCut (meaning e)
cut-Power e x y is = by-form e (V.Power x y) _ is (L.form-Power x y) (in-Power (layout e.of) e.spot.at x y)

in-Order : (of : Layout) (at : ℕ) (op : OrdOp) (x : Expr) (y : Expr) → IsCut (O.order of at op (meaning x) (meaning y))
unfolding O.order
in-Order of at op x y = record { given = λ n a. refl }

pub cut-Order : (e : Expr) (op : OrdOp) (x : Expr) (y : Expr) → e.form ≡ V.Order op x y → IsCut (meaning e)
cut-Order e op x y is = by-form e (V.Order op x y) _ is (L.form-Order op x y) (in-Order (layout e.of) e.spot.at op x y)

in-Equal : (of : Layout) (at : ℕ) (op : EqOp) (negated : Bool) (x : Expr) (y : Expr) → IsCut (O.equal of at op negated (meaning x) (meaning y))
unfolding O.equal
in-Equal of at op negated x y = record { given = λ n a. refl }

pub cut-Equal : (e : Expr) (op : EqOp) (negated : Bool) (x : Expr) (y : Expr) → e.form ≡ V.Equal op negated x y → IsCut (meaning e)
cut-Equal e op negated x y is = by-form e (V.Equal op negated x y) _ is (L.form-Equal op negated x y) (in-Equal (layout e.of) e.spot.at op negated x y)

in-Both : (of : Layout) (at : ℕ) (x : Expr) (y : Expr) → IsCut (O.both of at (meaning x) (meaning y))
unfolding O.both
in-Both of at x y = record { given = λ n a. refl }

pub cut-Both : (e : Expr) (x : Expr) (y : Expr) → e.form ≡ V.Both x y → IsCut (meaning e)
cut-Both e x y is = by-form e (V.Both x y) _ is (L.form-Both x y) (in-Both (layout e.of) e.spot.at x y)

in-Either : (of : Layout) (at : ℕ) (x : Expr) (y : Expr) → IsCut (O.either of at (meaning x) (meaning y))
unfolding O.either
in-Either of at x y = record { given = λ n a. refl }

pub cut-Either : (e : Expr) (x : Expr) (y : Expr) → e.form ≡ V.Either x y → IsCut (meaning e)
cut-Either e x y is = by-form e (V.Either x y) _ is (L.form-Either x y) (in-Either (layout e.of) e.spot.at x y)

in-Choose : (of : Layout) (at : ℕ) (z : Expr) (x : Expr) (y : Expr) → IsCut (O.choose of at (meaning z) (meaning x) (meaning y))
unfolding O.choose
in-Choose of at z x y = record { given = λ n a. refl }

pub cut-Choose : (e : Expr) (z : Expr) (x : Expr) (y : Expr) → e.form ≡ V.Choose z x y → IsCut (meaning e)
cut-Choose e z x y is = by-form e (V.Choose z x y) _ is (L.form-Choose z x y) (in-Choose (layout e.of) e.spot.at z x y)

in-Concat : (of : Layout) (at : ℕ) (xs : List Expr) → IsCut (O.concat of at (map meaning xs))
unfolding O.concat
in-Concat of at xs = record { given = λ n a. refl }

pub cut-Concat : (e : Expr) (xs : List Expr) → e.form ≡ V.Concat xs → IsCut (meaning e)
cut-Concat e xs is = by-form e (V.Concat xs) _ is (L.form-Concat xs) (in-Concat (layout e.of) e.spot.at xs)

in-Repeat : (of : Layout) (at : ℕ) (n : ℕ) (xs : List Expr) → IsCut (O.repeat of at n (map meaning xs))
unfolding O.repeat
in-Repeat of at n xs = record { given = λ n a. refl }

pub cut-Repeat : (e : Expr) (n : ℕ) (xs : List Expr) → e.form ≡ V.Repeat n xs → IsCut (meaning e)
cut-Repeat e n xs is = by-form e (V.Repeat n xs) _ is (L.form-Repeat n xs) (in-Repeat (layout e.of) e.spot.at n xs)

in-Inside : (of : Layout) (at : ℕ) (x : Expr) (cs : List Choice) → IsCut (O.inside of at (meaning x) (map L.alternative cs))
unfolding O.inside
in-Inside of at x cs = record { given = λ n a. refl }

pub cut-Inside : (e : Expr) (x : Expr) (cs : List Choice) → e.form ≡ V.Inside x cs → IsCut (meaning e)
cut-Inside e x cs is = by-form e (V.Inside x cs) _ is (L.form-Inside x cs) (in-Inside (layout e.of) e.spot.at x cs)

in-Cast : (of : Layout) (at : ℕ) (x : Expr) → IsCut (O.cast of at (meaning x))
unfolding O.cast
in-Cast of at x = record { given = λ n a. refl }

pub cut-Cast : (e : Expr) (x : Expr) → e.form ≡ V.Cast x → IsCut (meaning e)
cut-Cast e x is = by-form e (V.Cast x) _ is (L.form-Cast x) (in-Cast (layout e.of) e.spot.at x)

in-Clog2 : (of : Layout) (at : ℕ) (x : Expr) → IsCut (O.clog2 of at (meaning x))
unfolding O.clog2
in-Clog2 of at x = record { given = λ n a. refl }

pub cut-Clog2 : (e : Expr) (x : Expr) → e.form ≡ V.Clog2 x → IsCut (meaning e)
cut-Clog2 e x is = by-form e (V.Clog2 x) _ is (L.form-Clog2 x) (in-Clog2 (layout e.of) e.spot.at x)

in-Pattern : (of : Layout) (at : ℕ) (xs : List Expr) → IsCut (O.pattern of at (map meaning xs))
unfolding O.pattern
in-Pattern of at xs = record { given = λ n a. refl }

pub cut-Pattern : (e : Expr) (xs : List Expr) → e.form ≡ V.Pattern xs → IsCut (meaning e)
cut-Pattern e xs is = by-form e (V.Pattern xs) _ is (L.form-Pattern xs) (in-Pattern (layout e.of) e.spot.at xs)

in-Call : (of : Layout) (at : ℕ) (f : ℕ) (xs : List Expr) → IsCut (O.call of at f (map meaning xs))
unfolding O.call
in-Call of at f xs = record { given = λ n a. refl }

pub cut-Call : (e : Expr) (f : ℕ) (xs : List Expr) → e.form ≡ V.Call f xs → IsCut (meaning e)
cut-Call e f xs is = by-form e (V.Call f xs) _ is (L.form-Call f xs) (in-Call (layout e.of) e.spot.at f xs)
