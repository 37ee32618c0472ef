-- Valuing an expression takes what its operands take, and nothing else.
use Rattle.std.proofs.Common.{◌≡◌, ℕ, Bool, List, [], ◌∷◌, map, zip, Option, Some, None, refl, ap, sym, ◌∙◌, rules}
use Rattle.b4_core.specs.declared.bit.Bit4.{Bit4}
use Rattle.b4_core.specs.declared.operators.UnOp.{UnOp}
use Rattle.b4_core.specs.declared.operators.BinOp.{BinOp}
use Rattle.b4_core.specs.declared.operators.RedOp.{RedOp}
use Rattle.b4_core.specs.declared.operators.ShiftOp.{ShiftOp}
use Rattle.b4_core.specs.declared.operators.OrdOp.{OrdOp}
use Rattle.b4_core.specs.declared.operators.EqOp.{EqOp}
use Rattle.sv_types.specs.declared.types.Value.{Value}
use Rattle.sv_types.specs.declared.expression.Expr.{Expr}
use Rattle.sv_types.specs.declared.expression.Form.{Form, Form-F, out-Form, the_lemmas}
use Rattle.sv_types.specs.declared.expression.Form.TheVariants as V
use Rattle.sv_types.specs.declared.expression.Choice.{Choice}
use Rattle.sv_types.specs.Layouts.{Layout, Part, layout}
use Rattle.sv_types.specs.Surroundings.{Around, Tally, Stop, Parameter, onward}
use Rattle.sv_types.specs.Meanings.{Meaning, by_itself, at_width, values_all}
use Rattle.sv_types.specs.Operators as O
use Rattle.sv_types.specs.Operators.{both_wide, both_signed, assigned_width, parts_of}
use Rattle.sv_types.specs.Expressions.{meaning}
use Rattle.eval_parts.specs.Targets.{marks_of_parts}
use Rattle.eval_parts.proofs.Steps as S
use Rattle.sv_types.proofs.Levels as L
use Rattle.eval_forms.specs.Asked.{bits_asked, alone_asked, assigned_asked, form_asked, values_asked}

abbrev values : Meaning → Around → Tally → Tally
values m a t = m.values a t

pub asked-by : (e : Expr) (f : Form) (y : Form-F Choice Form Expr) (fs : ℕ → List Parameter) (w : ℕ) (s : Bool) → e.form ≡ f → out-Form f ≡ y → form_asked (layout e.of) fs w s y ≡ form_asked (layout e.of) fs w s (out-Form e.form)
asked-by e f y fs w s is out = ap (form_asked (layout e.of) fs w s) (sym (ap out-Form is ∙ out))

pub out-Literal : (v : List Bit4) (goes_on : Bool) → out-Form (V.Literal v goes_on) ≡ Form-F.Literal v goes_on
out-Literal v goes_on = search (rules, the_lemmas)

in-Literal : (of : Layout) (at : ℕ) (v : List Bit4) (goes_on : Bool) (w : ℕ) (s : Bool) (a : Around) (t : Tally) → values (O.literal of at goes_on v) a t ≡ values_asked ([]) a t
unfolding O.literal
in-Literal of at v goes_on w s a t = refl

pub strict-Literal : (e : Expr) (v : List Bit4) (goes_on : Bool) (fs : ℕ → List Parameter) (w : ℕ) (s : Bool) (a : Around) (t : Tally) → e.form ≡ V.Literal v goes_on → values (meaning e) a t ≡ values_asked (form_asked (layout e.of) fs w s (out-Form e.form)) a t
strict-Literal e v goes_on fs w s a t is =
    ap (λ m. values m a t) (S.at-form e (V.Literal v goes_on) _ is (L.form-Literal v goes_on)) ∙ in-Literal (layout e.of) e.spot.at v goes_on w s a t ∙ ap (λ qs. values_asked qs a t) (asked-by e (V.Literal v goes_on) (Form-F.Literal v goes_on) fs w s is (out-Literal v goes_on))

pub out-Fill : (b : Bit4) → out-Form (V.Fill b) ≡ Form-F.Fill b
out-Fill b = search (rules, the_lemmas)

in-Fill : (of : Layout) (at : ℕ) (b : Bit4) (w : ℕ) (s : Bool) (a : Around) (t : Tally) → values (O.fill of at b) a t ≡ values_asked ([]) a t
unfolding O.fill
in-Fill of at b w s a t = refl

pub strict-Fill : (e : Expr) (b : Bit4) (fs : ℕ → List Parameter) (w : ℕ) (s : Bool) (a : Around) (t : Tally) → e.form ≡ V.Fill b → values (meaning e) a t ≡ values_asked (form_asked (layout e.of) fs w s (out-Form e.form)) a t
strict-Fill e b fs w s a t is =
    ap (λ m. values m a t) (S.at-form e (V.Fill b) _ is (L.form-Fill b)) ∙ in-Fill (layout e.of) e.spot.at b w s a t ∙ ap (λ qs. values_asked qs a t) (asked-by e (V.Fill b) (Form-F.Fill b) fs w s is (out-Fill b))

pub out-Constant : (v : Value) → out-Form (V.Constant v) ≡ Form-F.Constant v
out-Constant v = search (rules, the_lemmas)

in-Constant : (of : Layout) (at : ℕ) (v : Value) (w : ℕ) (s : Bool) (a : Around) (t : Tally) → values (O.constant of at v) a t ≡ values_asked ([]) a t
unfolding O.constant
in-Constant of at v w s a t = refl

pub strict-Constant : (e : Expr) (v : Value) (fs : ℕ → List Parameter) (w : ℕ) (s : Bool) (a : Around) (t : Tally) → e.form ≡ V.Constant v → values (meaning e) a t ≡ values_asked (form_asked (layout e.of) fs w s (out-Form e.form)) a t
strict-Constant e v fs w s a t is =
    ap (λ m. values m a t) (S.at-form e (V.Constant v) _ is (L.form-Constant v)) ∙ in-Constant (layout e.of) e.spot.at v w s a t ∙ ap (λ qs. values_asked qs a t) (asked-by e (V.Constant v) (Form-F.Constant v) fs w s is (out-Constant v))

pub out-Unary : (op : UnOp) (x : Expr) → out-Form (V.Unary op x) ≡ Form-F.Unary op x
out-Unary op x = search (rules, the_lemmas)

in-Unary : (of : Layout) (at : ℕ) (op : UnOp) (x : Expr) (w : ℕ) (s : Bool) (a : Around) (t : Tally) → values (O.unary of at op (meaning x)) a t ≡ values_asked (bits_asked x w s ∷ []) a t
unfolding O.unary
in-Unary of at op x w s a t = refl

pub strict-Unary : (e : Expr) (op : UnOp) (x : Expr) (fs : ℕ → List Parameter) (w : ℕ) (s : Bool) (a : Around) (t : Tally) → e.form ≡ V.Unary op x → values (meaning e) a t ≡ values_asked (form_asked (layout e.of) fs w s (out-Form e.form)) a t
strict-Unary e op x fs w s a t is =
    ap (λ m. values m a t) (S.at-form e (V.Unary op x) _ is (L.form-Unary op x)) ∙ in-Unary (layout e.of) e.spot.at op x w s a t ∙ ap (λ qs. values_asked qs a t) (asked-by e (V.Unary op x) (Form-F.Unary op x) fs w s is (out-Unary op x))

pub out-Reduce : (op : RedOp) (x : Expr) → out-Form (V.Reduce op x) ≡ Form-F.Reduce op x
out-Reduce op x = search (rules, the_lemmas)

in-Reduce : (of : Layout) (at : ℕ) (op : RedOp) (x : Expr) (w : ℕ) (s : Bool) (a : Around) (t : Tally) → values (O.reduce of at op (meaning x)) a t ≡ values_asked (alone_asked x ∷ []) a t
unfolding O.reduce
in-Reduce of at op x w s a t = refl

pub strict-Reduce : (e : Expr) (op : RedOp) (x : Expr) (fs : ℕ → List Parameter) (w : ℕ) (s : Bool) (a : Around) (t : Tally) → e.form ≡ V.Reduce op x → values (meaning e) a t ≡ values_asked (form_asked (layout e.of) fs w s (out-Form e.form)) a t
strict-Reduce e op x fs w s a t is =
    ap (λ m. values m a t) (S.at-form e (V.Reduce op x) _ is (L.form-Reduce op x)) ∙ in-Reduce (layout e.of) e.spot.at op x w s a t ∙ ap (λ qs. values_asked qs a t) (asked-by e (V.Reduce op x) (Form-F.Reduce op x) fs w s is (out-Reduce op x))

pub out-Negate : (x : Expr) → out-Form (V.Negate x) ≡ Form-F.Negate x
out-Negate x = search (rules, the_lemmas)

in-Negate : (of : Layout) (at : ℕ) (x : Expr) (w : ℕ) (s : Bool) (a : Around) (t : Tally) → values (O.negate of at (meaning x)) a t ≡ values_asked (alone_asked x ∷ []) a t
unfolding O.negate
in-Negate of at x w s a t = refl

pub strict-Negate : (e : Expr) (x : Expr) (fs : ℕ → List Parameter) (w : ℕ) (s : Bool) (a : Around) (t : Tally) → e.form ≡ V.Negate x → values (meaning e) a t ≡ values_asked (form_asked (layout e.of) fs w s (out-Form e.form)) a t
strict-Negate e x fs w s a t is =
    ap (λ m. values m a t) (S.at-form e (V.Negate x) _ is (L.form-Negate x)) ∙ in-Negate (layout e.of) e.spot.at x w s a t ∙ ap (λ qs. values_asked qs a t) (asked-by e (V.Negate x) (Form-F.Negate x) fs w s is (out-Negate x))

pub out-Binary : (op : BinOp) (x : Expr) (y : Expr) → out-Form (V.Binary op x y) ≡ Form-F.Binary op x y
out-Binary op x y = search (rules, the_lemmas)

in-Binary : (of : Layout) (at : ℕ) (op : BinOp) (x : Expr) (y : Expr) (w : ℕ) (s : Bool) (a : Around) (t : Tally) → values (O.binary of at op (meaning x) (meaning y)) a t ≡ values_asked (bits_asked x w s ∷ bits_asked y w s ∷ []) a t
unfolding O.binary
in-Binary of at op x y w s a t = refl

pub strict-Binary : (e : Expr) (op : BinOp) (x : Expr) (y : Expr) (fs : ℕ → List Parameter) (w : ℕ) (s : Bool) (a : Around) (t : Tally) → e.form ≡ V.Binary op x y → values (meaning e) a t ≡ values_asked (form_asked (layout e.of) fs w s (out-Form e.form)) a t
strict-Binary e op x y fs w s a t is =
    ap (λ m. values m a t) (S.at-form e (V.Binary op x y) _ is (L.form-Binary op x y)) ∙ in-Binary (layout e.of) e.spot.at op x y w s a t ∙ ap (λ qs. values_asked qs a t) (asked-by e (V.Binary op x y) (Form-F.Binary op x y) fs w s is (out-Binary op x y))

pub out-Shift : (op : ShiftOp) (x : Expr) (y : Expr) → out-Form (V.Shift op x y) ≡ Form-F.Shift op x y
out-Shift op x y = search (rules, the_lemmas)

in-Shift : (of : Layout) (at : ℕ) (op : ShiftOp) (x : Expr) (y : Expr) (w : ℕ) (s : Bool) (a : Around) (t : Tally) → values (O.shift of at op (meaning x) (meaning y)) a t ≡ values_asked (bits_asked x w s ∷ alone_asked y ∷ []) a t
unfolding O.shift
in-Shift of at op x y w s a t = refl

pub strict-Shift : (e : Expr) (op : ShiftOp) (x : Expr) (y : Expr) (fs : ℕ → List Parameter) (w : ℕ) (s : Bool) (a : Around) (t : Tally) → e.form ≡ V.Shift op x y → values (meaning e) a t ≡ values_asked (form_asked (layout e.of) fs w s (out-Form e.form)) a t
strict-Shift e op x y fs w s a t is =
    ap (λ m. values m a t) (S.at-form e (V.Shift op x y) _ is (L.form-Shift op x y)) ∙ in-Shift (layout e.of) e.spot.at op x y w s a t ∙ ap (λ qs. values_asked qs a t) (asked-by e (V.Shift op x y) (Form-F.Shift op x y) fs w s is (out-Shift op x y))

pub out-Power : (x : Expr) (y : Expr) → out-Form (V.Power x y) ≡ Form-F.Power x y
out-Power x y = search (rules, the_lemmas)

in-Power : (of : Layout) (at : ℕ) (x : Expr) (y : Expr) (w : ℕ) (s : Bool) (a : Around) (t : Tally) → values (O.power of at (meaning x) (meaning y)) a t ≡ values_asked (bits_asked x w s ∷ alone_asked y ∷ []) a t
unfolding O.power
in-Power of at x y w s a t = refl

pub strict-Power : (e : Expr) (x : Expr) (y : Expr) (fs : ℕ → List Parameter) (w : ℕ) (s : Bool) (a : Around) (t : Tally) → e.form ≡ V.Power x y → values (meaning e) a t ≡ values_asked (form_asked (layout e.of) fs w s (out-Form e.form)) a t
strict-Power e x y fs w s a t is =
    ap (λ m. values m a t) (S.at-form e (V.Power x y) _ is (L.form-Power x y)) ∙ in-Power (layout e.of) e.spot.at x y w s a t ∙ ap (λ qs. values_asked qs a t) (asked-by e (V.Power x y) (Form-F.Power x y) fs w s is (out-Power x y))

pub out-Order : (op : OrdOp) (x : Expr) (y : Expr) → out-Form (V.Order op x y) ≡ Form-F.Order op x y
out-Order op x y = search (rules, the_lemmas)

in-Order : (of : Layout) (at : ℕ) (op : OrdOp) (x : Expr) (y : Expr) (w : ℕ) (s : Bool) (a : Around) (t : Tally) → values (O.order of at op (meaning x) (meaning y)) a t ≡ values_asked ((bits_asked x (both_wide (meaning x) (meaning y)) (both_signed (meaning x) (meaning y))) ∷ (bits_asked y (both_wide (meaning x) (meaning y)) (both_signed (meaning x) (meaning y))) ∷ []) a t
unfolding O.order
in-Order of at op x y w s a t = refl

pub strict-Order : (e : Expr) (op : OrdOp) (x : Expr) (y : Expr) (fs : ℕ → List Parameter) (w : ℕ) (s : Bool) (a : Around) (t : Tally) → e.form ≡ V.Order op x y → values (meaning e) a t ≡ values_asked (form_asked (layout e.of) fs w s (out-Form e.form)) a t
strict-Order e op x y fs w s a t is =
    ap (λ m. values m a t) (S.at-form e (V.Order op x y) _ is (L.form-Order op x y)) ∙ in-Order (layout e.of) e.spot.at op x y w s a t ∙ ap (λ qs. values_asked qs a t) (asked-by e (V.Order op x y) (Form-F.Order op x y) fs w s is (out-Order op x y))

pub out-Equal : (op : EqOp) (negated : Bool) (x : Expr) (y : Expr) → out-Form (V.Equal op negated x y) ≡ Form-F.Equal op negated x y
out-Equal op negated x y = search (rules, the_lemmas)

in-Equal : (of : Layout) (at : ℕ) (op : EqOp) (negated : Bool) (x : Expr) (y : Expr) (w : ℕ) (s : Bool) (a : Around) (t : Tally) → values (O.equal of at op negated (meaning x) (meaning y)) a t ≡ values_asked ((bits_asked x (both_wide (meaning x) (meaning y)) (both_signed (meaning x) (meaning y))) ∷ (bits_asked y (both_wide (meaning x) (meaning y)) (both_signed (meaning x) (meaning y))) ∷ []) a t
unfolding O.equal
in-Equal of at op negated x y w s a t = refl

pub strict-Equal : (e : Expr) (op : EqOp) (negated : Bool) (x : Expr) (y : Expr) (fs : ℕ → List Parameter) (w : ℕ) (s : Bool) (a : Around) (t : Tally) → e.form ≡ V.Equal op negated x y → values (meaning e) a t ≡ values_asked (form_asked (layout e.of) fs w s (out-Form e.form)) a t
strict-Equal e op negated x y fs w s a t is =
    ap (λ m. values m a t) (S.at-form e (V.Equal op negated x y) _ is (L.form-Equal op negated x y)) ∙ in-Equal (layout e.of) e.spot.at op negated x y w s a t ∙ ap (λ qs. values_asked qs a t) (asked-by e (V.Equal op negated x y) (Form-F.Equal op negated x y) fs w s is (out-Equal op negated x y))

pub out-Both : (x : Expr) (y : Expr) → out-Form (V.Both x y) ≡ Form-F.Both x y
out-Both x y = search (rules, the_lemmas)

in-Both : (of : Layout) (at : ℕ) (x : Expr) (y : Expr) (w : ℕ) (s : Bool) (a : Around) (t : Tally) → values (O.both of at (meaning x) (meaning y)) a t ≡ values_asked (alone_asked x ∷ alone_asked y ∷ []) a t
unfolding O.both
in-Both of at x y w s a t = refl

pub strict-Both : (e : Expr) (x : Expr) (y : Expr) (fs : ℕ → List Parameter) (w : ℕ) (s : Bool) (a : Around) (t : Tally) → e.form ≡ V.Both x y → values (meaning e) a t ≡ values_asked (form_asked (layout e.of) fs w s (out-Form e.form)) a t
strict-Both e x y fs w s a t is =
    ap (λ m. values m a t) (S.at-form e (V.Both x y) _ is (L.form-Both x y)) ∙ in-Both (layout e.of) e.spot.at x y w s a t ∙ ap (λ qs. values_asked qs a t) (asked-by e (V.Both x y) (Form-F.Both x y) fs w s is (out-Both x y))

pub out-Either : (x : Expr) (y : Expr) → out-Form (V.Either x y) ≡ Form-F.Either x y
out-Either x y = search (rules, the_lemmas)

in-Either : (of : Layout) (at : ℕ) (x : Expr) (y : Expr) (w : ℕ) (s : Bool) (a : Around) (t : Tally) → values (O.either of at (meaning x) (meaning y)) a t ≡ values_asked (alone_asked x ∷ alone_asked y ∷ []) a t
unfolding O.either
in-Either of at x y w s a t = refl

pub strict-Either : (e : Expr) (x : Expr) (y : Expr) (fs : ℕ → List Parameter) (w : ℕ) (s : Bool) (a : Around) (t : Tally) → e.form ≡ V.Either x y → values (meaning e) a t ≡ values_asked (form_asked (layout e.of) fs w s (out-Form e.form)) a t
strict-Either e x y fs w s a t is =
    ap (λ m. values m a t) (S.at-form e (V.Either x y) _ is (L.form-Either x y)) ∙ in-Either (layout e.of) e.spot.at x y w s a t ∙ ap (λ qs. values_asked qs a t) (asked-by e (V.Either x y) (Form-F.Either x y) fs w s is (out-Either x y))

pub out-Choose : (z : Expr) (x : Expr) (y : Expr) → out-Form (V.Choose z x y) ≡ Form-F.Choose z x y
out-Choose z x y = search (rules, the_lemmas)

in-Choose : (of : Layout) (at : ℕ) (z : Expr) (x : Expr) (y : Expr) (w : ℕ) (s : Bool) (a : Around) (t : Tally) → values (O.choose of at (meaning z) (meaning x) (meaning y)) a t ≡ values_asked (alone_asked z ∷ bits_asked x w s ∷ bits_asked y w s ∷ []) a t
unfolding O.choose
in-Choose of at z x y w s a t = refl

pub strict-Choose : (e : Expr) (z : Expr) (x : Expr) (y : Expr) (fs : ℕ → List Parameter) (w : ℕ) (s : Bool) (a : Around) (t : Tally) → e.form ≡ V.Choose z x y → values (meaning e) a t ≡ values_asked (form_asked (layout e.of) fs w s (out-Form e.form)) a t
strict-Choose e z x y fs w s a t is =
    ap (λ m. values m a t) (S.at-form e (V.Choose z x y) _ is (L.form-Choose z x y)) ∙ in-Choose (layout e.of) e.spot.at z x y w s a t ∙ ap (λ qs. values_asked qs a t) (asked-by e (V.Choose z x y) (Form-F.Choose z x y) fs w s is (out-Choose z x y))

pub out-Cast : (x : Expr) → out-Form (V.Cast x) ≡ Form-F.Cast x
out-Cast x = search (rules, the_lemmas)

in-Cast : (of : Layout) (at : ℕ) (x : Expr) (w : ℕ) (s : Bool) (a : Around) (t : Tally) → values (O.cast of at (meaning x)) a t ≡ values_asked (alone_asked x ∷ []) a t
unfolding O.cast
in-Cast of at x w s a t = refl

pub strict-Cast : (e : Expr) (x : Expr) (fs : ℕ → List Parameter) (w : ℕ) (s : Bool) (a : Around) (t : Tally) → e.form ≡ V.Cast x → values (meaning e) a t ≡ values_asked (form_asked (layout e.of) fs w s (out-Form e.form)) a t
strict-Cast e x fs w s a t is =
    ap (λ m. values m a t) (S.at-form e (V.Cast x) _ is (L.form-Cast x)) ∙ in-Cast (layout e.of) e.spot.at x w s a t ∙ ap (λ qs. values_asked qs a t) (asked-by e (V.Cast x) (Form-F.Cast x) fs w s is (out-Cast x))

pub out-Clog2 : (x : Expr) → out-Form (V.Clog2 x) ≡ Form-F.Clog2 x
out-Clog2 x = search (rules, the_lemmas)

in-Clog2 : (of : Layout) (at : ℕ) (x : Expr) (w : ℕ) (s : Bool) (a : Around) (t : Tally) → values (O.clog2 of at (meaning x)) a t ≡ values_asked (alone_asked x ∷ []) a t
unfolding O.clog2
in-Clog2 of at x w s a t = refl

pub strict-Clog2 : (e : Expr) (x : Expr) (fs : ℕ → List Parameter) (w : ℕ) (s : Bool) (a : Around) (t : Tally) → e.form ≡ V.Clog2 x → values (meaning e) a t ≡ values_asked (form_asked (layout e.of) fs w s (out-Form e.form)) a t
strict-Clog2 e x fs w s a t is =
    ap (λ m. values m a t) (S.at-form e (V.Clog2 x) _ is (L.form-Clog2 x)) ∙ in-Clog2 (layout e.of) e.spot.at x w s a t ∙ ap (λ qs. values_asked qs a t) (asked-by e (V.Clog2 x) (Form-F.Clog2 x) fs w s is (out-Clog2 x))

abbrev onward-by : Option Stop → (Tally → Tally) → Tally → Tally
onward-by o f t = elim o [ None ↦ f t | Some s ↦ t ]

same-by : (o : Option Stop) (t : Tally) (f g : Tally → Tally) → ((u : Tally) → f u ≡ g u) → onward-by o f t ≡ onward-by o g t
same-by None t f g same = same t
same-by (Some x) t f g same = refl

same-onward : (f g : Tally → Tally) (t : Tally) → ((u : Tally) → f u ≡ g u) → onward f t ≡ onward g t
same-onward f g t same = same-by t.stop t f g same

-- several operands, each alone
list-values : (es : List Expr) (a : Around) (t : Tally) → values_all (map by_itself (map meaning es)) a t ≡ values_asked (map alone_asked es) a t
list-values [] a t = refl
list-values (e ∷ es) a t = same-onward (values_all (map by_itself (map meaning es)) a) (values_asked (map alone_asked es) a) ((meaning e).values a t) (λ u. list-values es a u)

item-values : (ps : List Part) (es : List Expr) (a : Around) (t : Tally)
    → values_all (map (λ p. at_width (assigned_width p.0.two_state p.1) p.1) (zip ps (map meaning es))) a t ≡ values_asked (assigned_asked (marks_of_parts ps) es) a t
item-values [] es a t = refl
item-values (p ∷ ps) [] a t = refl
item-values (p ∷ ps) (e ∷ es) a t =
    same-onward (values_all (map (λ q. at_width (assigned_width q.0.two_state q.1) q.1) (zip ps (map meaning es))) a) (values_asked (assigned_asked (marks_of_parts ps) es) a) ((meaning e).values a t) (λ u. item-values ps es a u)

pub out-Concat : (es : List Expr) → out-Form (V.Concat es) ≡ Form-F.Concat es
out-Concat es = search (rules, the_lemmas)

in-Concat : (of : Layout) (at : ℕ) (es : List Expr) (a : Around) (t : Tally) → values (O.concat of at (map meaning es)) a t ≡ values_asked (map alone_asked es) a t
unfolding O.concat
in-Concat of at es a t = list-values es a t

pub strict-Concat : (e : Expr) (es : List Expr) (fs : ℕ → List Parameter) (w : ℕ) (s : Bool) (a : Around) (t : Tally) → e.form ≡ V.Concat es → values (meaning e) a t ≡ values_asked (form_asked (layout e.of) fs w s (out-Form e.form)) a t
strict-Concat e es fs w s a t is =
    ap (λ m. values m a t) (S.at-form e (V.Concat es) _ is (L.form-Concat es)) ∙ in-Concat (layout e.of) e.spot.at es a t ∙ ap (λ qs. values_asked qs a t) (asked-by e (V.Concat es) (Form-F.Concat es) fs w s is (out-Concat es))

pub out-Repeat : (n : ℕ) (es : List Expr) → out-Form (V.Repeat n es) ≡ Form-F.Repeat n es
out-Repeat n es = search (rules, the_lemmas)

in-Repeat : (of : Layout) (at : ℕ) (n : ℕ) (es : List Expr) (a : Around) (t : Tally) → values (O.repeat of at n (map meaning es)) a t ≡ values_asked (map alone_asked es) a t
unfolding O.repeat
in-Repeat of at n es a t = list-values es a t

pub strict-Repeat : (e : Expr) (n : ℕ) (es : List Expr) (fs : ℕ → List Parameter) (w : ℕ) (s : Bool) (a : Around) (t : Tally) → e.form ≡ V.Repeat n es → values (meaning e) a t ≡ values_asked (form_asked (layout e.of) fs w s (out-Form e.form)) a t
strict-Repeat e n es fs w s a t is =
    ap (λ m. values m a t) (S.at-form e (V.Repeat n es) _ is (L.form-Repeat n es)) ∙ in-Repeat (layout e.of) e.spot.at n es a t ∙ ap (λ qs. values_asked qs a t) (asked-by e (V.Repeat n es) (Form-F.Repeat n es) fs w s is (out-Repeat n es))

pub out-Stream : (reversed : Bool) (n : ℕ) (es : List Expr) → out-Form (V.Stream reversed n es) ≡ Form-F.Stream reversed n es
out-Stream reversed n es = search (rules, the_lemmas)

in-Stream : (of : Layout) (at : ℕ) (reversed : Bool) (n : ℕ) (es : List Expr) (a : Around) (t : Tally) → values (O.stream of at reversed n (map meaning es)) a t ≡ values_asked (map alone_asked es) a t
unfolding O.stream
in-Stream of at reversed n es a t = list-values es a t

pub strict-Stream : (e : Expr) (reversed : Bool) (n : ℕ) (es : List Expr) (fs : ℕ → List Parameter) (w : ℕ) (s : Bool) (a : Around) (t : Tally) → e.form ≡ V.Stream reversed n es → values (meaning e) a t ≡ values_asked (form_asked (layout e.of) fs w s (out-Form e.form)) a t
strict-Stream e reversed n es fs w s a t is =
    ap (λ m. values m a t) (S.at-form e (V.Stream reversed n es) _ is (L.form-Stream reversed n es)) ∙ in-Stream (layout e.of) e.spot.at reversed n es a t ∙ ap (λ qs. values_asked qs a t) (asked-by e (V.Stream reversed n es) (Form-F.Stream reversed n es) fs w s is (out-Stream reversed n es))

pub out-Pattern : (es : List Expr) → out-Form (V.Pattern es) ≡ Form-F.Pattern es
out-Pattern es = search (rules, the_lemmas)

in-Pattern : (of : Layout) (at : ℕ) (es : List Expr) (a : Around) (t : Tally) → values (O.pattern of at (map meaning es)) a t ≡ values_asked (assigned_asked (marks_of_parts (parts_of of)) es) a t
unfolding O.pattern
in-Pattern of at es a t = item-values (parts_of of) es a t

pub strict-Pattern : (e : Expr) (es : List Expr) (fs : ℕ → List Parameter) (w : ℕ) (s : Bool) (a : Around) (t : Tally) → e.form ≡ V.Pattern es → values (meaning e) a t ≡ values_asked (form_asked (layout e.of) fs w s (out-Form e.form)) a t
strict-Pattern e es fs w s a t is =
    ap (λ m. values m a t) (S.at-form e (V.Pattern es) _ is (L.form-Pattern es)) ∙ in-Pattern (layout e.of) e.spot.at es a t ∙ ap (λ qs. values_asked qs a t) (asked-by e (V.Pattern es) (Form-F.Pattern es) fs w s is (out-Pattern es))
