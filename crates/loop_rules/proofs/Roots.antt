-- Which signals and locals expressions name as targets.
use Rattle.std.proofs.Common.{◌≡◌, ℕ, ◌+◌, Bool, true, false, ◌||◌, ◌==◌, ℤ, List, [], ◌∷◌, ◌++◌, map, flat_map, Option, Some, None, inl, inr, refl, ap, sym, ◌∙◌, subst}
use Rattle.b4_core.specs.declared.bit.Bit4.{Bit4}
use Rattle.b4_core.specs.declared.operators.UnOp.{UnOp}
use Rattle.b4_core.specs.declared.operators.BinOp.{BinOp}
use Rattle.b4_core.specs.declared.operators.RedOp.{RedOp}
use Rattle.b4_core.specs.declared.operators.ShiftOp.{ShiftOp}
use Rattle.b4_core.specs.declared.operators.OrdOp.{OrdOp}
use Rattle.b4_core.specs.declared.operators.EqOp.{EqOp}
use Rattle.sv_types.specs.declared.types.Value.{Value}
use Rattle.sv_types.specs.declared.expression.Expr.{Expr}
use Rattle.sv_types.specs.declared.expression.Choice.{Choice}
use Rattle.sv_types.specs.declared.expression.Form.{Form}
use Rattle.sv_types.specs.declared.expression.Form.TheVariants as V
use Rattle.sv_types.specs.Layouts.{Layout, layout}
use Rattle.sv_types.specs.Surroundings.{local_number}
use Rattle.sv_types.specs.Meanings.{Meaning, roots_of}
use Rattle.sv_types.specs.Operators as O
use Rattle.sv_types.specs.Operators.{Alternative}
use Rattle.sv_types.specs.Paths as P
use Rattle.sv_types.specs.Expressions.{meaning}
use Rattle.sv_types.proofs.Levels as L
use Rattle.sv_types.proofs.Levels.{form_meaning, alternative}
use Rattle.eval_parts.proofs.Steps.{at-form}
use Rattle.expr_flows.specs.Targets.{IsJoined}
use Rattle.loop_rules.specs.Targets.{names, roots_in}

-- as a target it names what it stands on
abbrev IsAlone : Meaning → Type 0
IsAlone m = m.roots ≡ roots_of m.root

by-form : (e : Expr) (f : Form) (y : Layout → ℕ → Meaning) → e.form ≡ f → form_meaning f ≡ y → IsAlone (y (layout e.of) e.spot.at) → IsAlone (meaning e)
by-form e f y is level h = subst IsAlone (sym (at-form e f y is level)) h

in-Literal : (of : Layout) (at : ℕ) (v : List Bit4) (goes_on : Bool) → IsAlone (O.literal of at goes_on v)
unfolding O.literal
in-Literal of at v goes_on = refl

pub alone-Literal : (e : Expr) (v : List Bit4) (goes_on : Bool) → e.form ≡ V.Literal v goes_on → (meaning e).roots ≡ roots_of (meaning e).root
alone-Literal e v goes_on is = by-form e (V.Literal v goes_on) _ is (L.form-Literal v goes_on) (in-Literal (layout e.of) e.spot.at v goes_on)

in-Fill : (of : Layout) (at : ℕ) (b : Bit4) → IsAlone (O.fill of at b)
unfolding O.fill
in-Fill of at b = refl

pub alone-Fill : (e : Expr) (b : Bit4) → e.form ≡ V.Fill b → (meaning e).roots ≡ roots_of (meaning e).root
alone-Fill e b is = by-form e (V.Fill b) _ is (L.form-Fill b) (in-Fill (layout e.of) e.spot.at b)

in-Constant : (of : Layout) (at : ℕ) (v : Value) → IsAlone (O.constant of at v)
unfolding O.constant
in-Constant of at v = refl

pub alone-Constant : (e : Expr) (v : Value) → e.form ≡ V.Constant v → (meaning e).roots ≡ roots_of (meaning e).root
alone-Constant e v is = by-form e (V.Constant v) _ is (L.form-Constant v) (in-Constant (layout e.of) e.spot.at v)

in-Signal : (of : Layout) (at : ℕ) (n : ℕ) → IsAlone (P.signal of at n)
unfolding P.signal
in-Signal of at n = refl

pub alone-Signal : (e : Expr) (n : ℕ) → e.form ≡ V.Signal n → (meaning e).roots ≡ roots_of (meaning e).root
alone-Signal e n is = by-form e (V.Signal n) _ is (L.form-Signal n) (in-Signal (layout e.of) e.spot.at n)

in-Local : (of : Layout) (at : ℕ) (n : ℕ) → IsAlone (P.local of at n)
unfolding P.local
in-Local of at n = refl

pub alone-Local : (e : Expr) (n : ℕ) → e.form ≡ V.Local n → (meaning e).roots ≡ roots_of (meaning e).root
alone-Local e n is = by-form e (V.Local n) _ is (L.form-Local n) (in-Local (layout e.of) e.spot.at n)

in-Member : (of : Layout) (at : ℕ) (x : Meaning) (k : ℕ) → IsAlone (P.member of at x k)
unfolding P.member
in-Member of at x k = refl

pub alone-Member : (e : Expr) (x : Expr) (k : ℕ) → e.form ≡ V.Member x k → (meaning e).roots ≡ roots_of (meaning e).root
alone-Member e x k is = by-form e (V.Member x k) _ is (L.form-Member x k) (in-Member (layout e.of) e.spot.at (meaning x) k)

in-Index : (of : Layout) (at : ℕ) (x i : Meaning) → IsAlone (P.index of at x i)
unfolding P.index
in-Index of at x i = refl

pub alone-Index : (e : Expr) (x i : Expr) → e.form ≡ V.Index x i → (meaning e).roots ≡ roots_of (meaning e).root
alone-Index e x i is = by-form e (V.Index x i) _ is (L.form-Index x i) (in-Index (layout e.of) e.spot.at (meaning x) (meaning i))

in-Part : (of : Layout) (at : ℕ) (x : Meaning) (left right : ℤ) → IsAlone (P.part_select of at x left right)
unfolding P.part_select
in-Part of at x left right = refl

pub alone-Part : (e : Expr) (x : Expr) (left right : ℤ) → e.form ≡ V.Part x left right → (meaning e).roots ≡ roots_of (meaning e).root
alone-Part e x left right is = by-form e (V.Part x left right) _ is (L.form-Part x left right) (in-Part (layout e.of) e.spot.at (meaning x) left right)

in-Slide : (of : Layout) (at : ℕ) (x i : Meaning) (n : ℕ) (up : Bool) → IsAlone (P.sliding of at x i n up)
unfolding P.sliding
in-Slide of at x i n up = refl

pub alone-Slide : (e : Expr) (x i : Expr) (n : ℕ) (up : Bool) → e.form ≡ V.Slide x i n up → (meaning e).roots ≡ roots_of (meaning e).root
alone-Slide e x i n up is = by-form e (V.Slide x i n up) _ is (L.form-Slide x i n up) (in-Slide (layout e.of) e.spot.at (meaning x) (meaning i) n up)

in-Unary : (of : Layout) (at : ℕ) (op : UnOp) (x : Meaning) → IsAlone (O.unary of at op x)
unfolding O.unary
in-Unary of at op x = refl

pub alone-Unary : (e : Expr) (op : UnOp) (x : Expr) → e.form ≡ V.Unary op x → (meaning e).roots ≡ roots_of (meaning e).root
alone-Unary e op x is = by-form e (V.Unary op x) _ is (L.form-Unary op x) (in-Unary (layout e.of) e.spot.at op (meaning x))

in-Reduce : (of : Layout) (at : ℕ) (op : RedOp) (x : Meaning) → IsAlone (O.reduce of at op x)
unfolding O.reduce
in-Reduce of at op x = refl

pub alone-Reduce : (e : Expr) (op : RedOp) (x : Expr) → e.form ≡ V.Reduce op x → (meaning e).roots ≡ roots_of (meaning e).root
alone-Reduce e op x is = by-form e (V.Reduce op x) _ is (L.form-Reduce op x) (in-Reduce (layout e.of) e.spot.at op (meaning x))

in-Negate : (of : Layout) (at : ℕ) (x : Meaning) → IsAlone (O.negate of at x)
unfolding O.negate
in-Negate of at x = refl

pub alone-Negate : (e : Expr) (x : Expr) → e.form ≡ V.Negate x → (meaning e).roots ≡ roots_of (meaning e).root
alone-Negate e x is = by-form e (V.Negate x) _ is (L.form-Negate x) (in-Negate (layout e.of) e.spot.at (meaning x))

in-Binary : (of : Layout) (at : ℕ) (op : BinOp) (x y : Meaning) → IsAlone (O.binary of at op x y)
unfolding O.binary
in-Binary of at op x y = refl

pub alone-Binary : (e : Expr) (op : BinOp) (x y : Expr) → e.form ≡ V.Binary op x y → (meaning e).roots ≡ roots_of (meaning e).root
alone-Binary e op x y is = by-form e (V.Binary op x y) _ is (L.form-Binary op x y) (in-Binary (layout e.of) e.spot.at op (meaning x) (meaning y))

in-Shift : (of : Layout) (at : ℕ) (op : ShiftOp) (x y : Meaning) → IsAlone (O.shift of at op x y)
unfolding O.shift
in-Shift of at op x y = refl

pub alone-Shift : (e : Expr) (op : ShiftOp) (x y : Expr) → e.form ≡ V.Shift op x y → (meaning e).roots ≡ roots_of (meaning e).root
alone-Shift e op x y is = by-form e (V.Shift op x y) _ is (L.form-Shift op x y) (in-Shift (layout e.of) e.spot.at op (meaning x) (meaning y))

in-Power : (of : Layout) (at : ℕ) (x y : Meaning) → IsAlone (O.power of at x y)
unfolding O.power
in-Power of at x y = refl

pub alone-Power : (e : Expr) (x y : Expr) → e.form ≡ V.Power x y → (meaning e).roots ≡ roots_of (meaning e).root
alone-Power e x y is = by-form e (V.Power x y) _ is (L.form-Power x y) (in-Power (layout e.of) e.spot.at (meaning x) (meaning y))

in-Order : (of : Layout) (at : ℕ) (op : OrdOp) (x y : Meaning) → IsAlone (O.order of at op x y)
unfolding O.order
in-Order of at op x y = refl

pub alone-Order : (e : Expr) (op : OrdOp) (x y : Expr) → e.form ≡ V.Order op x y → (meaning e).roots ≡ roots_of (meaning e).root
alone-Order e op x y is = by-form e (V.Order op x y) _ is (L.form-Order op x y) (in-Order (layout e.of) e.spot.at op (meaning x) (meaning y))

in-Equal : (of : Layout) (at : ℕ) (op : EqOp) (negated : Bool) (x y : Meaning) → IsAlone (O.equal of at op negated x y)
unfolding O.equal
in-Equal of at op negated x y = refl

pub alone-Equal : (e : Expr) (op : EqOp) (negated : Bool) (x y : Expr) → e.form ≡ V.Equal op negated x y → (meaning e).roots ≡ roots_of (meaning e).root
alone-Equal e op negated x y is = by-form e (V.Equal op negated x y) _ is (L.form-Equal op negated x y) (in-Equal (layout e.of) e.spot.at op negated (meaning x) (meaning y))

in-Both : (of : Layout) (at : ℕ) (x y : Meaning) → IsAlone (O.both of at x y)
unfolding O.both
in-Both of at x y = refl

pub alone-Both : (e : Expr) (x y : Expr) → e.form ≡ V.Both x y → (meaning e).roots ≡ roots_of (meaning e).root
alone-Both e x y is = by-form e (V.Both x y) _ is (L.form-Both x y) (in-Both (layout e.of) e.spot.at (meaning x) (meaning y))

in-Either : (of : Layout) (at : ℕ) (x y : Meaning) → IsAlone (O.either of at x y)
unfolding O.either
in-Either of at x y = refl

pub alone-Either : (e : Expr) (x y : Expr) → e.form ≡ V.Either x y → (meaning e).roots ≡ roots_of (meaning e).root
alone-Either e x y is = by-form e (V.Either x y) _ is (L.form-Either x y) (in-Either (layout e.of) e.spot.at (meaning x) (meaning y))

in-Choose : (of : Layout) (at : ℕ) (z x y : Meaning) → IsAlone (O.choose of at z x y)
unfolding O.choose
in-Choose of at z x y = refl

pub alone-Choose : (e : Expr) (z x y : Expr) → e.form ≡ V.Choose z x y → (meaning e).roots ≡ roots_of (meaning e).root
alone-Choose e z x y is = by-form e (V.Choose z x y) _ is (L.form-Choose z x y) (in-Choose (layout e.of) e.spot.at (meaning z) (meaning x) (meaning y))

in-Repeat : (of : Layout) (at : ℕ) (n : ℕ) (es : List Meaning) → IsAlone (O.repeat of at n es)
unfolding O.repeat
in-Repeat of at n es = refl

pub alone-Repeat : (e : Expr) (n : ℕ) (es : List Expr) → e.form ≡ V.Repeat n es → (meaning e).roots ≡ roots_of (meaning e).root
alone-Repeat e n es is = by-form e (V.Repeat n es) _ is (L.form-Repeat n es) (in-Repeat (layout e.of) e.spot.at n (map meaning es))

in-Inside : (of : Layout) (at : ℕ) (x : Meaning) (cs : List Alternative) → IsAlone (O.inside of at x cs)
unfolding O.inside
in-Inside of at x cs = refl

pub alone-Inside : (e : Expr) (x : Expr) (cs : List Choice) → e.form ≡ V.Inside x cs → (meaning e).roots ≡ roots_of (meaning e).root
alone-Inside e x cs is = by-form e (V.Inside x cs) _ is (L.form-Inside x cs) (in-Inside (layout e.of) e.spot.at (meaning x) (map alternative cs))

in-Cast : (of : Layout) (at : ℕ) (x : Meaning) → IsAlone (O.cast of at x)
unfolding O.cast
in-Cast of at x = refl

pub alone-Cast : (e : Expr) (x : Expr) → e.form ≡ V.Cast x → (meaning e).roots ≡ roots_of (meaning e).root
alone-Cast e x is = by-form e (V.Cast x) _ is (L.form-Cast x) (in-Cast (layout e.of) e.spot.at (meaning x))

in-Clog2 : (of : Layout) (at : ℕ) (x : Meaning) → IsAlone (O.clog2 of at x)
unfolding O.clog2
in-Clog2 of at x = refl

pub alone-Clog2 : (e : Expr) (x : Expr) → e.form ≡ V.Clog2 x → (meaning e).roots ≡ roots_of (meaning e).root
alone-Clog2 e x is = by-form e (V.Clog2 x) _ is (L.form-Clog2 x) (in-Clog2 (layout e.of) e.spot.at (meaning x))

in-Pattern : (of : Layout) (at : ℕ) (es : List Meaning) → IsAlone (O.pattern of at es)
unfolding O.pattern
in-Pattern of at es = refl

pub alone-Pattern : (e : Expr) (es : List Expr) → e.form ≡ V.Pattern es → (meaning e).roots ≡ roots_of (meaning e).root
alone-Pattern e es is = by-form e (V.Pattern es) _ is (L.form-Pattern es) (in-Pattern (layout e.of) e.spot.at (map meaning es))

in-Call : (of : Layout) (at : ℕ) (f : ℕ) (es : List Meaning) → IsAlone (O.call of at f es)
unfolding O.call
in-Call of at f es = refl

pub alone-Call : (e : Expr) (f : ℕ) (es : List Expr) → e.form ≡ V.Call f es → (meaning e).roots ≡ roots_of (meaning e).root
alone-Call e f es is = by-form e (V.Call f es) _ is (L.form-Call f es) (in-Call (layout e.of) e.spot.at f (map meaning es))

all-roots : (es : List Expr) → flat_map (λ (m : Meaning). m.roots) (map meaning es) ≡ roots_in es
all-roots [] = refl
all-roots (e ∷ es) = ap (λ ns. (meaning e).roots ++ ns) (all-roots es)

in-Concat : (of : Layout) (at : ℕ) (ms : List Meaning) → (O.concat of at ms).roots ≡ flat_map (λ (m : Meaning). m.roots) ms
unfolding O.concat
in-Concat of at ms = refl

in-Stream : (of : Layout) (at : ℕ) (reversed : Bool) (n : ℕ) (ms : List Meaning) → (O.stream of at reversed n ms).roots ≡ flat_map (λ (m : Meaning). m.roots) ms
unfolding O.stream
in-Stream of at reversed n ms = refl

pub joined-Concat : (e : Expr) (es : List Expr) → e.form ≡ V.Concat es → (meaning e).roots ≡ roots_in es
joined-Concat e es is = ap (λ (m : Meaning). m.roots) (at-form e (V.Concat es) _ is (L.form-Concat es)) ∙ in-Concat (layout e.of) e.spot.at (map meaning es) ∙ all-roots es

pub joined-Stream : (e : Expr) (reversed : Bool) (n : ℕ) (es : List Expr) → e.form ≡ V.Stream reversed n es → (meaning e).roots ≡ roots_in es
joined-Stream e reversed n es is = ap (λ (m : Meaning). m.roots) (at-form e (V.Stream reversed n es) _ is (L.form-Stream reversed n es)) ∙ in-Stream (layout e.of) e.spot.at reversed n (map meaning es) ∙ all-roots es

pub is-Concat : (e : Expr) (es : List Expr) → e.form ≡ V.Concat es → IsJoined es e
is-Concat e es is = inl is

pub is-Stream : (e : Expr) (reversed : Bool) (n : ℕ) (es : List Expr) → e.form ≡ V.Stream reversed n es → IsJoined es e
is-Stream e reversed n es is = inr (reversed, n, is)

pub joined : (e : Expr) (es : List Expr) (number : ℕ) (r : Bool) → IsJoined es e → r ≡ names number (roots_in es) → r ≡ names number (meaning e).roots
joined e es number r (inl is) g = g ∙ sym (ap (names number) (joined-Concat e es is))
joined e es number r (inr j) g = g ∙ sym (ap (names number) (joined-Stream e j.0 j.1 es j.2))

pub alone : (e : Expr) (number : ℕ) (r : Bool) → (meaning e).roots ≡ roots_of (meaning e).root → r ≡ names number (roots_of (meaning e).root) → r ≡ names number (meaning e).roots
alone e number r is g = g ∙ sym (ap (names number) is)

pub ruleset targets = (alone-Literal, alone-Fill, alone-Constant, alone-Signal, alone-Local, alone-Member, alone-Index, alone-Part, alone-Slide, alone-Unary, alone-Reduce, alone-Negate, alone-Binary, alone-Shift, alone-Power, alone-Order, alone-Equal, alone-Both, alone-Either, alone-Choose, alone-Repeat, alone-Inside, alone-Cast, alone-Clog2, alone-Pattern, alone-Call, is-Concat, is-Stream)

-- what a path stands on
root-at : (e : Expr) (f : Form) (y : Layout → ℕ → Meaning) (o : Option ℕ) → e.form ≡ f → form_meaning f ≡ y → (y (layout e.of) e.spot.at).root ≡ o → (meaning e).root ≡ o
root-at e f y o is level h = ap (λ (m : Meaning). m.root) (at-form e f y is level) ∙ h

own-Signal : (of : Layout) (at n : ℕ) → (P.signal of at n).root ≡ Some n
unfolding P.signal
own-Signal of at n = refl

own-Local : (of : Layout) (at n : ℕ) → (P.local of at n).root ≡ Some (local_number n)
unfolding P.local
own-Local of at n = refl

own-Member : (of : Layout) (at : ℕ) (m : Meaning) (k : ℕ) → (P.member of at m k).root ≡ m.root
unfolding P.member
own-Member of at m k = refl

own-Index : (of : Layout) (at : ℕ) (m i : Meaning) → (P.index of at m i).root ≡ m.root
unfolding P.index
own-Index of at m i = refl

own-Part : (of : Layout) (at : ℕ) (m : Meaning) (left right : ℤ) → (P.part_select of at m left right).root ≡ m.root
unfolding P.part_select
own-Part of at m left right = refl

own-Slide : (of : Layout) (at : ℕ) (m i : Meaning) (n : ℕ) (up : Bool) → (P.sliding of at m i n up).root ≡ m.root
unfolding P.sliding
own-Slide of at m i n up = refl

or-none : (b : Bool) → b ≡ (b || false)
or-none true = refl
or-none false = refl

stands : (e : Expr) (number : ℕ) (o : Option ℕ) (r : Bool) → (meaning e).root ≡ o → r ≡ names number (roots_of o) → r ≡ names number (roots_of (meaning e).root)
stands e number o r root is = is ∙ ap (λ x. names number (roots_of x)) (sym root)

pub stands-Signal : (e : Expr) (n number : ℕ) (r : Bool) → e.form ≡ V.Signal n → r ≡ (n == number) → r ≡ names number (roots_of (meaning e).root)
stands-Signal e n number r is own = stands e number (Some n) r (root-at e (V.Signal n) _ (Some n) is (L.form-Signal n) (own-Signal (layout e.of) e.spot.at n)) (own ∙ or-none (n == number))

pub stands-Local : (e : Expr) (n number : ℕ) (r : Bool) → e.form ≡ V.Local n → r ≡ (local_number n == number) → r ≡ names number (roots_of (meaning e).root)
stands-Local e n number r is own = stands e number (Some (local_number n)) r (root-at e (V.Local n) _ (Some (local_number n)) is (L.form-Local n) (own-Local (layout e.of) e.spot.at n)) (own ∙ or-none (local_number n == number))

pub stands-Member : (e x : Expr) (k number : ℕ) (r : Bool) → e.form ≡ V.Member x k → r ≡ names number (roots_of (meaning x).root) → r ≡ names number (roots_of (meaning e).root)
stands-Member e x k number r is = stands e number (meaning x).root r (root-at e (V.Member x k) _ (meaning x).root is (L.form-Member x k) (own-Member (layout e.of) e.spot.at (meaning x) k))

pub stands-Index : (e x i : Expr) (number : ℕ) (r : Bool) → e.form ≡ V.Index x i → r ≡ names number (roots_of (meaning x).root) → r ≡ names number (roots_of (meaning e).root)
stands-Index e x i number r is = stands e number (meaning x).root r (root-at e (V.Index x i) _ (meaning x).root is (L.form-Index x i) (own-Index (layout e.of) e.spot.at (meaning x) (meaning i)))

pub stands-Part : (e x : Expr) (left right : ℤ) (number : ℕ) (r : Bool) → e.form ≡ V.Part x left right → r ≡ names number (roots_of (meaning x).root) → r ≡ names number (roots_of (meaning e).root)
stands-Part e x left right number r is = stands e number (meaning x).root r (root-at e (V.Part x left right) _ (meaning x).root is (L.form-Part x left right) (own-Part (layout e.of) e.spot.at (meaning x) left right))

pub stands-Slide : (e x i : Expr) (n : ℕ) (up : Bool) (number : ℕ) (r : Bool) → e.form ≡ V.Slide x i n up → r ≡ names number (roots_of (meaning x).root) → r ≡ names number (roots_of (meaning e).root)
stands-Slide e x i n up number r is = stands e number (meaning x).root r (root-at e (V.Slide x i n up) _ (meaning x).root is (L.form-Slide x i n up) (own-Slide (layout e.of) e.spot.at (meaning x) (meaning i) n up))

pub stands-nowhere : (e : Expr) (number : ℕ) → (meaning e).root ≡ None → false ≡ names number (roots_of (meaning e).root)
stands-nowhere e number root = stands e number None false root refl
