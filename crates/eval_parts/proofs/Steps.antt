-- What each form gives, from what its parts gave.
use Rattle.std.proofs.Common.{◌≡◌, ℕ, ◌<◌, ◌≤◌, Bool, ◌||◌, cond, length, List, [], ◌∷◌, Option, Ok, Err, refl, arith, ap, sym, ◌∙◌, subst}
use Rattle.b4_core.specs.declared.bit.Bit4.{Bit4}
use Rattle.b4_core.specs.declared.operators.UnOp.{UnOp}
use Rattle.b4_core.specs.declared.operators.BinOp.{BinOp}
use Rattle.b4_core.specs.declared.operators.RedOp.{RedOp}
use Rattle.b4_core.specs.declared.operators.ShiftOp.{ShiftOp}
use Rattle.b4_core.specs.declared.operators.OrdOp.{OrdOp}
use Rattle.b4_core.specs.declared.operators.EqOp.{EqOp}
use Rattle.b4_core.specs.Bits.{and4, or4, not4}
use Rattle.b4_core.specs.Bitwise.{truth_of}
use Rattle.b4_core.specs.Vectors.{ext}
use Rattle.b4_core.specs.Unary.{unary_value, UnaryFitsWord}
use Rattle.b4_core.specs.Binary.{binary_value, BinaryFitsWord}
use Rattle.b4_core.specs.Shift.{shift_value}
use Rattle.b4_core.specs.Power.{power_value}
use Rattle.b4_core.specs.Reduce.{reduction}
use Rattle.b4_core.specs.Compare.{order_value, equality}
use Rattle.sv_types.specs.declared.expression.Expr.{Expr}
use Rattle.sv_types.specs.declared.expression.Form.{Form}
use Rattle.sv_types.specs.declared.expression.Form.TheVariants as V
use Rattle.sv_types.specs.Layouts.{Layout, layout, stored}
use Rattle.sv_types.specs.Surroundings.{Around, Parameter}
use Rattle.sv_types.specs.Meanings.{Meaning, wide, signed, in_context, by_itself, at_width}
use Rattle.sv_types.specs.Operators as O
use Rattle.sv_types.specs.Expressions.{meaning}
use Rattle.sv_types.proofs.Levels as L
use Rattle.sv_types.proofs.Levels.{form_meaning, meaning-form}
use Rattle.sv_types.proofs.ValueLengths.{length-value}
use Rattle.sv_types.proofs.Widths.{has-bits}
use Rattle.eval_parts.specs.declared.halt.Halt.{Halt}
use Rattle.eval_parts.specs.Surroundings.{running}
use Rattle.eval_parts.specs.Answers.{Gives, Halts}
use Rattle.eval_parts.specs.Limits.{Fits}
use Rattle.eval_parts.proofs.Efforts.{first-halts, second-halts, third-halts, one-on, two-on, three-on}
use Rattle.eval_parts.proofs.Fitting as F
use Rattle.eval_parts.proofs.Fitting.{Keeps, fits}

-- the meaning of an expression by its form
pub at-form : (e : Expr) (f : Form) (y : Layout → ℕ → Meaning) → e.form ≡ f → form_meaning f ≡ y → meaning e ≡ y (layout e.of) e.spot.at
at-form e f y is level =
    meaning-form e ∙ ap (λ g. form_meaning g (layout e.of) e.spot.at) is ∙ ap (λ (g : Layout → ℕ → Meaning). g (layout e.of) e.spot.at) level

-- what an expression gave has its width
pub given-length : (e : Expr) (w : ℕ) (s : Bool) (a : Around) (old new : Option ℕ) (v : List Bit4) → Gives (Ok v) (meaning e) w s a old new → length v ≡ w
given-length e w s a old new v g = ap length g.0 ∙ length-value e w s a

-- the same at an equal width and sign
pub gives-at : (v : List Bit4) (e : Expr) (n w : ℕ) (b s : Bool) (a : Around) (old new : Option ℕ) → n ≡ w → b ≡ s → Gives (Ok v) (meaning e) n b a old new → Gives (Ok v) (meaning e) w s a old new
gives-at v e n w b s a old new width sign g =
    subst (λ k. Gives (Ok v) (meaning e) w k a old new) sign (subst (λ k. Gives (Ok v) (meaning e) k b a old new) width g)

alone-fits : (x : Expr) (fs : ℕ → List Parameter) → Keeps (meaning x) fs (wide (meaning x)) → Fits (meaning x) fs (wide (meaning x))
alone-fits x fs k = fits (meaning x) fs (wide (meaning x)) (has-bits x k.typed) k

wider-some : (x y : Expr) → (meaning x).misfits ≡ 0 → 0 < O.both_wide (meaning x) (meaning y)
wider-some x y typed = let h = has-bits x typed in omega arith

-- values without parts
pub same-Literal : (e : Expr) (v : List Bit4) (goes_on : Bool) → e.form ≡ V.Literal v goes_on → meaning e ≡ O.literal (layout e.of) e.spot.at goes_on v
same-Literal e v goes_on is = at-form e (V.Literal v goes_on) _ is (L.form-Literal v goes_on)

literal-in : (of : Layout) (at : ℕ) (goes_on : Bool) (v r : List Bit4) (w : ℕ) (s : Bool) (a : Around) (old : Option ℕ) → r ≡ ext w (goes_on || s) v → Gives (Ok r) (O.literal of at goes_on v) w s a old old
unfolding O.literal
literal-in of at goes_on v r w s a old is = (is, refl)

pub literal-done : (e : Expr) (v r : List Bit4) (goes_on : Bool) (w : ℕ) (s : Bool) (a : Around) (old : Option ℕ) → e.form ≡ V.Literal v goes_on → r ≡ ext w (goes_on || s) v → Gives (Ok r) (meaning e) w s a old old
literal-done e v r goes_on w s a old is value = subst (λ m. Gives (Ok r) m w s a old old) (sym (same-Literal e v goes_on is)) (literal-in (layout e.of) e.spot.at goes_on v r w s a old value)

pub same-Unary : (e x : Expr) (op : UnOp) → e.form ≡ V.Unary op x → meaning e ≡ O.unary (layout e.of) e.spot.at op (meaning x)
same-Unary e x op is = at-form e (V.Unary op x) _ is (L.form-Unary op x)

pub unary-fits-x : (e x : Expr) (op : UnOp) (fs : ℕ → List Parameter) (w : ℕ) → e.form ≡ V.Unary op x → Fits (meaning e) fs w → Fits (meaning x) fs w
unary-fits-x e x op fs w is f = fits (meaning x) fs w f.some (F.unary-part-x (layout e.of) e.spot.at op (meaning x) fs w (subst (λ m. Fits m fs w) (same-Unary e x op is) f))

unary-halts-x-in : (h : Halt) (of : Layout) (at : ℕ) (op : UnOp) (mx : Meaning) (w : ℕ) (s : Bool) (a : Around) (old new : Option ℕ) → Halts h (mx.values a (running old)) → Gives (Err h) (O.unary of at op mx) w s a old new
unfolding O.unary
unary-halts-x-in h of at op mx w s a old new halts = first-halts h (in_context mx) [] a (running old) halts

pub unary-halts-x : (h : Halt) (e x : Expr) (op : UnOp) (w : ℕ) (s : Bool) (a : Around) (old new : Option ℕ) → e.form ≡ V.Unary op x → Halts h ((meaning x).values a (running old)) → Gives (Err h) (meaning e) w s a old new
unary-halts-x h e x op w s a old new is halts = subst (λ m. Gives (Err h) m w s a old new) (sym (same-Unary e x op is)) (unary-halts-x-in h (layout e.of) e.spot.at op (meaning x) w s a old new halts)

unary-done-in : (of : Layout) (at : ℕ) (op : UnOp) (mx : Meaning) (u r : List Bit4) (w : ℕ) (s : Bool) (a : Around) (old new : Option ℕ) → Gives (Ok u) mx w s a old new → r ≡ unary_value op u → Gives (Ok r) (O.unary of at op mx) w s a old new
unfolding O.unary
unary-done-in of at op mx u r w s a old new g0 is = (is ∙ ap (λ (u0 : List Bit4). unary_value op u0) g0.0, one-on (in_context mx) a (running old) new g0.1)

pub unary-done : (e x : Expr) (op : UnOp) (u r : List Bit4) (w : ℕ) (s : Bool) (a : Around) (old new : Option ℕ) → e.form ≡ V.Unary op x → Gives (Ok u) (meaning x) w s a old new → r ≡ unary_value op u → Gives (Ok r) (meaning e) w s a old new
unary-done e x op u r w s a old new at g0 is = subst (λ m. Gives (Ok r) m w s a old new) (sym (same-Unary e x op at)) (unary-done-in (layout e.of) e.spot.at op (meaning x) u r w s a old new g0 is)

pub same-Reduce : (e x : Expr) (op : RedOp) → e.form ≡ V.Reduce op x → meaning e ≡ O.reduce (layout e.of) e.spot.at op (meaning x)
same-Reduce e x op is = at-form e (V.Reduce op x) _ is (L.form-Reduce op x)

pub reduce-fits-x : (e x : Expr) (op : RedOp) (fs : ℕ → List Parameter) (w : ℕ) → e.form ≡ V.Reduce op x → Fits (meaning e) fs w → Fits (meaning x) fs (wide (meaning x))
reduce-fits-x e x op fs w is f = alone-fits x fs (F.reduce-part-x (layout e.of) e.spot.at op (meaning x) fs w (subst (λ m. Fits m fs w) (same-Reduce e x op is) f))

reduce-halts-x-in : (h : Halt) (of : Layout) (at : ℕ) (op : RedOp) (mx : Meaning) (w : ℕ) (s : Bool) (a : Around) (old new : Option ℕ) → Halts h (mx.values a (running old)) → Gives (Err h) (O.reduce of at op mx) w s a old new
unfolding O.reduce
reduce-halts-x-in h of at op mx w s a old new halts = first-halts h (by_itself mx) [] a (running old) halts

pub reduce-halts-x : (h : Halt) (e x : Expr) (op : RedOp) (w : ℕ) (s : Bool) (a : Around) (old new : Option ℕ) → e.form ≡ V.Reduce op x → Halts h ((meaning x).values a (running old)) → Gives (Err h) (meaning e) w s a old new
reduce-halts-x h e x op w s a old new is halts = subst (λ m. Gives (Err h) m w s a old new) (sym (same-Reduce e x op is)) (reduce-halts-x-in h (layout e.of) e.spot.at op (meaning x) w s a old new halts)

reduce-done-in : (of : Layout) (at : ℕ) (op : RedOp) (mx : Meaning) (u r : List Bit4) (w : ℕ) (s : Bool) (a : Around) (old new : Option ℕ) → Gives (Ok u) mx (wide mx) (signed mx) a old new → r ≡ ext w s (reduction op u ∷ []) → Gives (Ok r) (O.reduce of at op mx) w s a old new
unfolding O.reduce
reduce-done-in of at op mx u r w s a old new g0 is = (is ∙ ap (λ (u0 : List Bit4). ext w s (reduction op u0 ∷ [])) g0.0, one-on (by_itself mx) a (running old) new g0.1)

pub reduce-done : (e x : Expr) (op : RedOp) (u r : List Bit4) (w : ℕ) (s : Bool) (a : Around) (old new : Option ℕ) → e.form ≡ V.Reduce op x → Gives (Ok u) (meaning x) (wide (meaning x)) (signed (meaning x)) a old new → r ≡ ext w s (reduction op u ∷ []) → Gives (Ok r) (meaning e) w s a old new
reduce-done e x op u r w s a old new at g0 is = subst (λ m. Gives (Ok r) m w s a old new) (sym (same-Reduce e x op at)) (reduce-done-in (layout e.of) e.spot.at op (meaning x) u r w s a old new g0 is)

pub same-Negate : (e x : Expr) → e.form ≡ V.Negate x → meaning e ≡ O.negate (layout e.of) e.spot.at (meaning x)
same-Negate e x is = at-form e (V.Negate x) _ is (L.form-Negate x)

pub negate-fits-x : (e x : Expr) (fs : ℕ → List Parameter) (w : ℕ) → e.form ≡ V.Negate x → Fits (meaning e) fs w → Fits (meaning x) fs (wide (meaning x))
negate-fits-x e x fs w is f = alone-fits x fs (F.negate-part-x (layout e.of) e.spot.at (meaning x) fs w (subst (λ m. Fits m fs w) (same-Negate e x is) f))

negate-halts-x-in : (h : Halt) (of : Layout) (at : ℕ) (mx : Meaning) (w : ℕ) (s : Bool) (a : Around) (old new : Option ℕ) → Halts h (mx.values a (running old)) → Gives (Err h) (O.negate of at mx) w s a old new
unfolding O.negate
negate-halts-x-in h of at mx w s a old new halts = first-halts h (by_itself mx) [] a (running old) halts

pub negate-halts-x : (h : Halt) (e x : Expr) (w : ℕ) (s : Bool) (a : Around) (old new : Option ℕ) → e.form ≡ V.Negate x → Halts h ((meaning x).values a (running old)) → Gives (Err h) (meaning e) w s a old new
negate-halts-x h e x w s a old new is halts = subst (λ m. Gives (Err h) m w s a old new) (sym (same-Negate e x is)) (negate-halts-x-in h (layout e.of) e.spot.at (meaning x) w s a old new halts)

negate-done-in : (of : Layout) (at : ℕ) (mx : Meaning) (u r : List Bit4) (w : ℕ) (s : Bool) (a : Around) (old new : Option ℕ) → Gives (Ok u) mx (wide mx) (signed mx) a old new → r ≡ ext w s (not4 (truth_of u) ∷ []) → Gives (Ok r) (O.negate of at mx) w s a old new
unfolding O.negate
negate-done-in of at mx u r w s a old new g0 is = (is ∙ ap (λ (u0 : List Bit4). ext w s (not4 (truth_of u0) ∷ [])) g0.0, one-on (by_itself mx) a (running old) new g0.1)

pub negate-done : (e x : Expr) (u r : List Bit4) (w : ℕ) (s : Bool) (a : Around) (old new : Option ℕ) → e.form ≡ V.Negate x → Gives (Ok u) (meaning x) (wide (meaning x)) (signed (meaning x)) a old new → r ≡ ext w s (not4 (truth_of u) ∷ []) → Gives (Ok r) (meaning e) w s a old new
negate-done e x u r w s a old new at g0 is = subst (λ m. Gives (Ok r) m w s a old new) (sym (same-Negate e x at)) (negate-done-in (layout e.of) e.spot.at (meaning x) u r w s a old new g0 is)

pub same-Binary : (e x y : Expr) (op : BinOp) → e.form ≡ V.Binary op x y → meaning e ≡ O.binary (layout e.of) e.spot.at op (meaning x) (meaning y)
same-Binary e x y op is = at-form e (V.Binary op x y) _ is (L.form-Binary op x y)

pub binary-fits-x : (e x y : Expr) (op : BinOp) (fs : ℕ → List Parameter) (w : ℕ) → e.form ≡ V.Binary op x y → Fits (meaning e) fs w → Fits (meaning x) fs w
binary-fits-x e x y op fs w is f = fits (meaning x) fs w f.some (F.binary-part-x (layout e.of) e.spot.at op (meaning x) (meaning y) fs w (subst (λ m. Fits m fs w) (same-Binary e x y op is) f))

pub binary-fits-y : (e x y : Expr) (op : BinOp) (fs : ℕ → List Parameter) (w : ℕ) → e.form ≡ V.Binary op x y → Fits (meaning e) fs w → Fits (meaning y) fs w
binary-fits-y e x y op fs w is f = fits (meaning y) fs w f.some (F.binary-part-y (layout e.of) e.spot.at op (meaning x) (meaning y) fs w (subst (λ m. Fits m fs w) (same-Binary e x y op is) f))

binary-halts-x-in : (h : Halt) (of : Layout) (at : ℕ) (op : BinOp) (mx my : Meaning) (w : ℕ) (s : Bool) (a : Around) (old new : Option ℕ) → Halts h (mx.values a (running old)) → Gives (Err h) (O.binary of at op mx my) w s a old new
unfolding O.binary
binary-halts-x-in h of at op mx my w s a old new halts = first-halts h (in_context mx) (in_context my ∷ []) a (running old) halts

pub binary-halts-x : (h : Halt) (e x y : Expr) (op : BinOp) (w : ℕ) (s : Bool) (a : Around) (old new : Option ℕ) → e.form ≡ V.Binary op x y → Halts h ((meaning x).values a (running old)) → Gives (Err h) (meaning e) w s a old new
binary-halts-x h e x y op w s a old new is halts = subst (λ m. Gives (Err h) m w s a old new) (sym (same-Binary e x y op is)) (binary-halts-x-in h (layout e.of) e.spot.at op (meaning x) (meaning y) w s a old new halts)

binary-halts-y-in : (h : Halt) (of : Layout) (at : ℕ) (op : BinOp) (mx my : Meaning) (w : ℕ) (s : Bool) (a : Around) (old one new : Option ℕ) → (mx.values a (running old) ≡ running one) → Halts h (my.values a (running one)) → Gives (Err h) (O.binary of at op mx my) w s a old new
unfolding O.binary
binary-halts-y-in h of at op mx my w s a old one new k0 halts = second-halts h (in_context mx) (in_context my) [] a (running old) one k0 halts

pub binary-halts-y : (h : Halt) (e x y : Expr) (op : BinOp) (w : ℕ) (s : Bool) (a : Around) (old one new : Option ℕ) → e.form ≡ V.Binary op x y → ((meaning x).values a (running old) ≡ running one) → Halts h ((meaning y).values a (running one)) → Gives (Err h) (meaning e) w s a old new
binary-halts-y h e x y op w s a old one new is k0 halts = subst (λ m. Gives (Err h) m w s a old new) (sym (same-Binary e x y op is)) (binary-halts-y-in h (layout e.of) e.spot.at op (meaning x) (meaning y) w s a old one new k0 halts)

binary-done-in : (of : Layout) (at : ℕ) (op : BinOp) (mx my : Meaning) (u v r : List Bit4) (w : ℕ) (s : Bool) (a : Around) (old one new : Option ℕ) → Gives (Ok u) mx w s a old one → Gives (Ok v) my w s a one new → r ≡ binary_value op s u v → Gives (Ok r) (O.binary of at op mx my) w s a old new
unfolding O.binary
binary-done-in of at op mx my u v r w s a old one new g0 g1 is = (is ∙ ap (λ (u0 : List Bit4). binary_value op s u0 v) g0.0 ∙ ap (λ (v0 : List Bit4). binary_value op s (mx.value w s a) v0) g1.0, two-on (in_context mx) (in_context my) a (running old) one new g0.1 g1.1)

pub binary-done : (e x y : Expr) (op : BinOp) (u v r : List Bit4) (w : ℕ) (s : Bool) (a : Around) (old one new : Option ℕ) → e.form ≡ V.Binary op x y → Gives (Ok u) (meaning x) w s a old one → Gives (Ok v) (meaning y) w s a one new → r ≡ binary_value op s u v → Gives (Ok r) (meaning e) w s a old new
binary-done e x y op u v r w s a old one new at g0 g1 is = subst (λ m. Gives (Ok r) m w s a old new) (sym (same-Binary e x y op at)) (binary-done-in (layout e.of) e.spot.at op (meaning x) (meaning y) u v r w s a old one new g0 g1 is)

pub same-Shift : (e x y : Expr) (op : ShiftOp) → e.form ≡ V.Shift op x y → meaning e ≡ O.shift (layout e.of) e.spot.at op (meaning x) (meaning y)
same-Shift e x y op is = at-form e (V.Shift op x y) _ is (L.form-Shift op x y)

pub shift-fits-x : (e x y : Expr) (op : ShiftOp) (fs : ℕ → List Parameter) (w : ℕ) → e.form ≡ V.Shift op x y → Fits (meaning e) fs w → Fits (meaning x) fs w
shift-fits-x e x y op fs w is f = fits (meaning x) fs w f.some (F.shift-part-x (layout e.of) e.spot.at op (meaning x) (meaning y) fs w (subst (λ m. Fits m fs w) (same-Shift e x y op is) f))

pub shift-fits-y : (e x y : Expr) (op : ShiftOp) (fs : ℕ → List Parameter) (w : ℕ) → e.form ≡ V.Shift op x y → Fits (meaning e) fs w → Fits (meaning y) fs (wide (meaning y))
shift-fits-y e x y op fs w is f = alone-fits y fs (F.shift-part-y (layout e.of) e.spot.at op (meaning x) (meaning y) fs w (subst (λ m. Fits m fs w) (same-Shift e x y op is) f))

shift-halts-x-in : (h : Halt) (of : Layout) (at : ℕ) (op : ShiftOp) (mx my : Meaning) (w : ℕ) (s : Bool) (a : Around) (old new : Option ℕ) → Halts h (mx.values a (running old)) → Gives (Err h) (O.shift of at op mx my) w s a old new
unfolding O.shift
shift-halts-x-in h of at op mx my w s a old new halts = first-halts h (in_context mx) (by_itself my ∷ []) a (running old) halts

pub shift-halts-x : (h : Halt) (e x y : Expr) (op : ShiftOp) (w : ℕ) (s : Bool) (a : Around) (old new : Option ℕ) → e.form ≡ V.Shift op x y → Halts h ((meaning x).values a (running old)) → Gives (Err h) (meaning e) w s a old new
shift-halts-x h e x y op w s a old new is halts = subst (λ m. Gives (Err h) m w s a old new) (sym (same-Shift e x y op is)) (shift-halts-x-in h (layout e.of) e.spot.at op (meaning x) (meaning y) w s a old new halts)

shift-halts-y-in : (h : Halt) (of : Layout) (at : ℕ) (op : ShiftOp) (mx my : Meaning) (w : ℕ) (s : Bool) (a : Around) (old one new : Option ℕ) → (mx.values a (running old) ≡ running one) → Halts h (my.values a (running one)) → Gives (Err h) (O.shift of at op mx my) w s a old new
unfolding O.shift
shift-halts-y-in h of at op mx my w s a old one new k0 halts = second-halts h (in_context mx) (by_itself my) [] a (running old) one k0 halts

pub shift-halts-y : (h : Halt) (e x y : Expr) (op : ShiftOp) (w : ℕ) (s : Bool) (a : Around) (old one new : Option ℕ) → e.form ≡ V.Shift op x y → ((meaning x).values a (running old) ≡ running one) → Halts h ((meaning y).values a (running one)) → Gives (Err h) (meaning e) w s a old new
shift-halts-y h e x y op w s a old one new is k0 halts = subst (λ m. Gives (Err h) m w s a old new) (sym (same-Shift e x y op is)) (shift-halts-y-in h (layout e.of) e.spot.at op (meaning x) (meaning y) w s a old one new k0 halts)

shift-done-in : (of : Layout) (at : ℕ) (op : ShiftOp) (mx my : Meaning) (u v r : List Bit4) (w : ℕ) (s : Bool) (a : Around) (old one new : Option ℕ) → Gives (Ok u) mx w s a old one → Gives (Ok v) my (wide my) (signed my) a one new → r ≡ shift_value op s u v → Gives (Ok r) (O.shift of at op mx my) w s a old new
unfolding O.shift
shift-done-in of at op mx my u v r w s a old one new g0 g1 is = (is ∙ ap (λ (u0 : List Bit4). shift_value op s u0 v) g0.0 ∙ ap (λ (v0 : List Bit4). shift_value op s (mx.value w s a) v0) g1.0, two-on (in_context mx) (by_itself my) a (running old) one new g0.1 g1.1)

pub shift-done : (e x y : Expr) (op : ShiftOp) (u v r : List Bit4) (w : ℕ) (s : Bool) (a : Around) (old one new : Option ℕ) → e.form ≡ V.Shift op x y → Gives (Ok u) (meaning x) w s a old one → Gives (Ok v) (meaning y) (wide (meaning y)) (signed (meaning y)) a one new → r ≡ shift_value op s u v → Gives (Ok r) (meaning e) w s a old new
shift-done e x y op u v r w s a old one new at g0 g1 is = subst (λ m. Gives (Ok r) m w s a old new) (sym (same-Shift e x y op at)) (shift-done-in (layout e.of) e.spot.at op (meaning x) (meaning y) u v r w s a old one new g0 g1 is)

pub same-Power : (e x y : Expr) → e.form ≡ V.Power x y → meaning e ≡ O.power (layout e.of) e.spot.at (meaning x) (meaning y)
same-Power e x y is = at-form e (V.Power x y) _ is (L.form-Power x y)

pub power-fits-x : (e x y : Expr) (fs : ℕ → List Parameter) (w : ℕ) → e.form ≡ V.Power x y → Fits (meaning e) fs w → Fits (meaning x) fs w
power-fits-x e x y fs w is f = fits (meaning x) fs w f.some (F.power-part-x (layout e.of) e.spot.at (meaning x) (meaning y) fs w (subst (λ m. Fits m fs w) (same-Power e x y is) f))

pub power-fits-y : (e x y : Expr) (fs : ℕ → List Parameter) (w : ℕ) → e.form ≡ V.Power x y → Fits (meaning e) fs w → Fits (meaning y) fs (wide (meaning y))
power-fits-y e x y fs w is f = alone-fits y fs (F.power-part-y (layout e.of) e.spot.at (meaning x) (meaning y) fs w (subst (λ m. Fits m fs w) (same-Power e x y is) f))

power-halts-x-in : (h : Halt) (of : Layout) (at : ℕ) (mx my : Meaning) (w : ℕ) (s : Bool) (a : Around) (old new : Option ℕ) → Halts h (mx.values a (running old)) → Gives (Err h) (O.power of at mx my) w s a old new
unfolding O.power
power-halts-x-in h of at mx my w s a old new halts = first-halts h (in_context mx) (by_itself my ∷ []) a (running old) halts

pub power-halts-x : (h : Halt) (e x y : Expr) (w : ℕ) (s : Bool) (a : Around) (old new : Option ℕ) → e.form ≡ V.Power x y → Halts h ((meaning x).values a (running old)) → Gives (Err h) (meaning e) w s a old new
power-halts-x h e x y w s a old new is halts = subst (λ m. Gives (Err h) m w s a old new) (sym (same-Power e x y is)) (power-halts-x-in h (layout e.of) e.spot.at (meaning x) (meaning y) w s a old new halts)

power-halts-y-in : (h : Halt) (of : Layout) (at : ℕ) (mx my : Meaning) (w : ℕ) (s : Bool) (a : Around) (old one new : Option ℕ) → (mx.values a (running old) ≡ running one) → Halts h (my.values a (running one)) → Gives (Err h) (O.power of at mx my) w s a old new
unfolding O.power
power-halts-y-in h of at mx my w s a old one new k0 halts = second-halts h (in_context mx) (by_itself my) [] a (running old) one k0 halts

pub power-halts-y : (h : Halt) (e x y : Expr) (w : ℕ) (s : Bool) (a : Around) (old one new : Option ℕ) → e.form ≡ V.Power x y → ((meaning x).values a (running old) ≡ running one) → Halts h ((meaning y).values a (running one)) → Gives (Err h) (meaning e) w s a old new
power-halts-y h e x y w s a old one new is k0 halts = subst (λ m. Gives (Err h) m w s a old new) (sym (same-Power e x y is)) (power-halts-y-in h (layout e.of) e.spot.at (meaning x) (meaning y) w s a old one new k0 halts)

power-done-in : (of : Layout) (at : ℕ) (mx my : Meaning) (u v r : List Bit4) (w : ℕ) (s : Bool) (a : Around) (old one new : Option ℕ) → Gives (Ok u) mx w s a old one → Gives (Ok v) my (wide my) (signed my) a one new → r ≡ power_value s (signed my) u v → Gives (Ok r) (O.power of at mx my) w s a old new
unfolding O.power
power-done-in of at mx my u v r w s a old one new g0 g1 is = (is ∙ ap (λ (u0 : List Bit4). power_value s (signed my) u0 v) g0.0 ∙ ap (λ (v0 : List Bit4). power_value s (signed my) (mx.value w s a) v0) g1.0, two-on (in_context mx) (by_itself my) a (running old) one new g0.1 g1.1)

pub power-done : (e x y : Expr) (u v r : List Bit4) (w : ℕ) (s : Bool) (a : Around) (old one new : Option ℕ) → e.form ≡ V.Power x y → Gives (Ok u) (meaning x) w s a old one → Gives (Ok v) (meaning y) (wide (meaning y)) (signed (meaning y)) a one new → r ≡ power_value s (signed (meaning y)) u v → Gives (Ok r) (meaning e) w s a old new
power-done e x y u v r w s a old one new at g0 g1 is = subst (λ m. Gives (Ok r) m w s a old new) (sym (same-Power e x y at)) (power-done-in (layout e.of) e.spot.at (meaning x) (meaning y) u v r w s a old one new g0 g1 is)

pub same-Order : (e x y : Expr) (op : OrdOp) → e.form ≡ V.Order op x y → meaning e ≡ O.order (layout e.of) e.spot.at op (meaning x) (meaning y)
same-Order e x y op is = at-form e (V.Order op x y) _ is (L.form-Order op x y)

pub order-fits-x : (e x y : Expr) (op : OrdOp) (fs : ℕ → List Parameter) (w : ℕ) → e.form ≡ V.Order op x y → Fits (meaning e) fs w → Fits (meaning x) fs (O.both_wide (meaning x) (meaning y))
order-fits-x e x y op fs w is f = fits (meaning x) fs (O.both_wide (meaning x) (meaning y)) (wider-some x y (F.order-part-x (layout e.of) e.spot.at op (meaning x) (meaning y) fs w (subst (λ m. Fits m fs w) (same-Order e x y op is) f)).typed) (F.order-part-x (layout e.of) e.spot.at op (meaning x) (meaning y) fs w (subst (λ m. Fits m fs w) (same-Order e x y op is) f))

pub order-fits-y : (e x y : Expr) (op : OrdOp) (fs : ℕ → List Parameter) (w : ℕ) → e.form ≡ V.Order op x y → Fits (meaning e) fs w → Fits (meaning y) fs (O.both_wide (meaning x) (meaning y))
order-fits-y e x y op fs w is f = fits (meaning y) fs (O.both_wide (meaning x) (meaning y)) (wider-some x y (F.order-part-x (layout e.of) e.spot.at op (meaning x) (meaning y) fs w (subst (λ m. Fits m fs w) (same-Order e x y op is) f)).typed) (F.order-part-y (layout e.of) e.spot.at op (meaning x) (meaning y) fs w (subst (λ m. Fits m fs w) (same-Order e x y op is) f))

order-halts-x-in : (h : Halt) (of : Layout) (at : ℕ) (op : OrdOp) (mx my : Meaning) (w : ℕ) (s : Bool) (a : Around) (old new : Option ℕ) → Halts h (mx.values a (running old)) → Gives (Err h) (O.order of at op mx my) w s a old new
unfolding O.order
order-halts-x-in h of at op mx my w s a old new halts = first-halts h (at_width (O.both_wide mx my) mx) (at_width (O.both_wide mx my) my ∷ []) a (running old) halts

pub order-halts-x : (h : Halt) (e x y : Expr) (op : OrdOp) (w : ℕ) (s : Bool) (a : Around) (old new : Option ℕ) → e.form ≡ V.Order op x y → Halts h ((meaning x).values a (running old)) → Gives (Err h) (meaning e) w s a old new
order-halts-x h e x y op w s a old new is halts = subst (λ m. Gives (Err h) m w s a old new) (sym (same-Order e x y op is)) (order-halts-x-in h (layout e.of) e.spot.at op (meaning x) (meaning y) w s a old new halts)

order-halts-y-in : (h : Halt) (of : Layout) (at : ℕ) (op : OrdOp) (mx my : Meaning) (w : ℕ) (s : Bool) (a : Around) (old one new : Option ℕ) → (mx.values a (running old) ≡ running one) → Halts h (my.values a (running one)) → Gives (Err h) (O.order of at op mx my) w s a old new
unfolding O.order
order-halts-y-in h of at op mx my w s a old one new k0 halts = second-halts h (at_width (O.both_wide mx my) mx) (at_width (O.both_wide mx my) my) [] a (running old) one k0 halts

pub order-halts-y : (h : Halt) (e x y : Expr) (op : OrdOp) (w : ℕ) (s : Bool) (a : Around) (old one new : Option ℕ) → e.form ≡ V.Order op x y → ((meaning x).values a (running old) ≡ running one) → Halts h ((meaning y).values a (running one)) → Gives (Err h) (meaning e) w s a old new
order-halts-y h e x y op w s a old one new is k0 halts = subst (λ m. Gives (Err h) m w s a old new) (sym (same-Order e x y op is)) (order-halts-y-in h (layout e.of) e.spot.at op (meaning x) (meaning y) w s a old one new k0 halts)

order-done-in : (of : Layout) (at : ℕ) (op : OrdOp) (mx my : Meaning) (u v r : List Bit4) (w : ℕ) (s : Bool) (a : Around) (old one new : Option ℕ) → Gives (Ok u) mx (O.both_wide mx my) (O.both_signed mx my) a old one → Gives (Ok v) my (O.both_wide mx my) (O.both_signed mx my) a one new → r ≡ ext w s (order_value op (O.both_signed mx my) u v ∷ []) → Gives (Ok r) (O.order of at op mx my) w s a old new
unfolding O.order
order-done-in of at op mx my u v r w s a old one new g0 g1 is = (is ∙ ap (λ (u0 : List Bit4). ext w s (order_value op (O.both_signed mx my) u0 v ∷ [])) g0.0 ∙ ap (λ (v0 : List Bit4). ext w s (order_value op (O.both_signed mx my) (mx.value (O.both_wide mx my) (O.both_signed mx my) a) v0 ∷ [])) g1.0, two-on (at_width (O.both_wide mx my) mx) (at_width (O.both_wide mx my) my) a (running old) one new g0.1 g1.1)

pub order-done : (e x y : Expr) (op : OrdOp) (u v r : List Bit4) (w : ℕ) (s : Bool) (a : Around) (old one new : Option ℕ) → e.form ≡ V.Order op x y → Gives (Ok u) (meaning x) (O.both_wide (meaning x) (meaning y)) (O.both_signed (meaning x) (meaning y)) a old one → Gives (Ok v) (meaning y) (O.both_wide (meaning x) (meaning y)) (O.both_signed (meaning x) (meaning y)) a one new → r ≡ ext w s (order_value op (O.both_signed (meaning x) (meaning y)) u v ∷ []) → Gives (Ok r) (meaning e) w s a old new
order-done e x y op u v r w s a old one new at g0 g1 is = subst (λ m. Gives (Ok r) m w s a old new) (sym (same-Order e x y op at)) (order-done-in (layout e.of) e.spot.at op (meaning x) (meaning y) u v r w s a old one new g0 g1 is)

pub same-Equal : (e x y : Expr) (op : EqOp) (negated : Bool) → e.form ≡ V.Equal op negated x y → meaning e ≡ O.equal (layout e.of) e.spot.at op negated (meaning x) (meaning y)
same-Equal e x y op negated is = at-form e (V.Equal op negated x y) _ is (L.form-Equal op negated x y)

pub equal-fits-x : (e x y : Expr) (op : EqOp) (negated : Bool) (fs : ℕ → List Parameter) (w : ℕ) → e.form ≡ V.Equal op negated x y → Fits (meaning e) fs w → Fits (meaning x) fs (O.both_wide (meaning x) (meaning y))
equal-fits-x e x y op negated fs w is f = fits (meaning x) fs (O.both_wide (meaning x) (meaning y)) (wider-some x y (F.equal-part-x (layout e.of) e.spot.at op negated (meaning x) (meaning y) fs w (subst (λ m. Fits m fs w) (same-Equal e x y op negated is) f)).typed) (F.equal-part-x (layout e.of) e.spot.at op negated (meaning x) (meaning y) fs w (subst (λ m. Fits m fs w) (same-Equal e x y op negated is) f))

pub equal-fits-y : (e x y : Expr) (op : EqOp) (negated : Bool) (fs : ℕ → List Parameter) (w : ℕ) → e.form ≡ V.Equal op negated x y → Fits (meaning e) fs w → Fits (meaning y) fs (O.both_wide (meaning x) (meaning y))
equal-fits-y e x y op negated fs w is f = fits (meaning y) fs (O.both_wide (meaning x) (meaning y)) (wider-some x y (F.equal-part-x (layout e.of) e.spot.at op negated (meaning x) (meaning y) fs w (subst (λ m. Fits m fs w) (same-Equal e x y op negated is) f)).typed) (F.equal-part-y (layout e.of) e.spot.at op negated (meaning x) (meaning y) fs w (subst (λ m. Fits m fs w) (same-Equal e x y op negated is) f))

equal-halts-x-in : (h : Halt) (of : Layout) (at : ℕ) (op : EqOp) (negated : Bool) (mx my : Meaning) (w : ℕ) (s : Bool) (a : Around) (old new : Option ℕ) → Halts h (mx.values a (running old)) → Gives (Err h) (O.equal of at op negated mx my) w s a old new
unfolding O.equal
equal-halts-x-in h of at op negated mx my w s a old new halts = first-halts h (at_width (O.both_wide mx my) mx) (at_width (O.both_wide mx my) my ∷ []) a (running old) halts

pub equal-halts-x : (h : Halt) (e x y : Expr) (op : EqOp) (negated : Bool) (w : ℕ) (s : Bool) (a : Around) (old new : Option ℕ) → e.form ≡ V.Equal op negated x y → Halts h ((meaning x).values a (running old)) → Gives (Err h) (meaning e) w s a old new
equal-halts-x h e x y op negated w s a old new is halts = subst (λ m. Gives (Err h) m w s a old new) (sym (same-Equal e x y op negated is)) (equal-halts-x-in h (layout e.of) e.spot.at op negated (meaning x) (meaning y) w s a old new halts)

equal-halts-y-in : (h : Halt) (of : Layout) (at : ℕ) (op : EqOp) (negated : Bool) (mx my : Meaning) (w : ℕ) (s : Bool) (a : Around) (old one new : Option ℕ) → (mx.values a (running old) ≡ running one) → Halts h (my.values a (running one)) → Gives (Err h) (O.equal of at op negated mx my) w s a old new
unfolding O.equal
equal-halts-y-in h of at op negated mx my w s a old one new k0 halts = second-halts h (at_width (O.both_wide mx my) mx) (at_width (O.both_wide mx my) my) [] a (running old) one k0 halts

pub equal-halts-y : (h : Halt) (e x y : Expr) (op : EqOp) (negated : Bool) (w : ℕ) (s : Bool) (a : Around) (old one new : Option ℕ) → e.form ≡ V.Equal op negated x y → ((meaning x).values a (running old) ≡ running one) → Halts h ((meaning y).values a (running one)) → Gives (Err h) (meaning e) w s a old new
equal-halts-y h e x y op negated w s a old one new is k0 halts = subst (λ m. Gives (Err h) m w s a old new) (sym (same-Equal e x y op negated is)) (equal-halts-y-in h (layout e.of) e.spot.at op negated (meaning x) (meaning y) w s a old one new k0 halts)

equal-done-in : (of : Layout) (at : ℕ) (op : EqOp) (negated : Bool) (mx my : Meaning) (u v r : List Bit4) (w : ℕ) (s : Bool) (a : Around) (old one new : Option ℕ) → Gives (Ok u) mx (O.both_wide mx my) (O.both_signed mx my) a old one → Gives (Ok v) my (O.both_wide mx my) (O.both_signed mx my) a one new → r ≡ ext w s (cond negated (not4 (equality op u v)) (equality op u v) ∷ []) → Gives (Ok r) (O.equal of at op negated mx my) w s a old new
unfolding O.equal
equal-done-in of at op negated mx my u v r w s a old one new g0 g1 is = (is ∙ ap (λ (u0 : List Bit4). ext w s (cond negated (not4 (equality op u0 v)) (equality op u0 v) ∷ [])) g0.0 ∙ ap (λ (v0 : List Bit4). ext w s (cond negated (not4 (equality op (mx.value (O.both_wide mx my) (O.both_signed mx my) a) v0)) (equality op (mx.value (O.both_wide mx my) (O.both_signed mx my) a) v0) ∷ [])) g1.0, two-on (at_width (O.both_wide mx my) mx) (at_width (O.both_wide mx my) my) a (running old) one new g0.1 g1.1)

pub equal-done : (e x y : Expr) (op : EqOp) (negated : Bool) (u v r : List Bit4) (w : ℕ) (s : Bool) (a : Around) (old one new : Option ℕ) → e.form ≡ V.Equal op negated x y → Gives (Ok u) (meaning x) (O.both_wide (meaning x) (meaning y)) (O.both_signed (meaning x) (meaning y)) a old one → Gives (Ok v) (meaning y) (O.both_wide (meaning x) (meaning y)) (O.both_signed (meaning x) (meaning y)) a one new → r ≡ ext w s (cond negated (not4 (equality op u v)) (equality op u v) ∷ []) → Gives (Ok r) (meaning e) w s a old new
equal-done e x y op negated u v r w s a old one new at g0 g1 is = subst (λ m. Gives (Ok r) m w s a old new) (sym (same-Equal e x y op negated at)) (equal-done-in (layout e.of) e.spot.at op negated (meaning x) (meaning y) u v r w s a old one new g0 g1 is)

pub same-Both : (e x y : Expr) → e.form ≡ V.Both x y → meaning e ≡ O.both (layout e.of) e.spot.at (meaning x) (meaning y)
same-Both e x y is = at-form e (V.Both x y) _ is (L.form-Both x y)

pub both-fits-x : (e x y : Expr) (fs : ℕ → List Parameter) (w : ℕ) → e.form ≡ V.Both x y → Fits (meaning e) fs w → Fits (meaning x) fs (wide (meaning x))
both-fits-x e x y fs w is f = alone-fits x fs (F.both-part-x (layout e.of) e.spot.at (meaning x) (meaning y) fs w (subst (λ m. Fits m fs w) (same-Both e x y is) f))

pub both-fits-y : (e x y : Expr) (fs : ℕ → List Parameter) (w : ℕ) → e.form ≡ V.Both x y → Fits (meaning e) fs w → Fits (meaning y) fs (wide (meaning y))
both-fits-y e x y fs w is f = alone-fits y fs (F.both-part-y (layout e.of) e.spot.at (meaning x) (meaning y) fs w (subst (λ m. Fits m fs w) (same-Both e x y is) f))

both-halts-x-in : (h : Halt) (of : Layout) (at : ℕ) (mx my : Meaning) (w : ℕ) (s : Bool) (a : Around) (old new : Option ℕ) → Halts h (mx.values a (running old)) → Gives (Err h) (O.both of at mx my) w s a old new
unfolding O.both
both-halts-x-in h of at mx my w s a old new halts = first-halts h (by_itself mx) (by_itself my ∷ []) a (running old) halts

pub both-halts-x : (h : Halt) (e x y : Expr) (w : ℕ) (s : Bool) (a : Around) (old new : Option ℕ) → e.form ≡ V.Both x y → Halts h ((meaning x).values a (running old)) → Gives (Err h) (meaning e) w s a old new
both-halts-x h e x y w s a old new is halts = subst (λ m. Gives (Err h) m w s a old new) (sym (same-Both e x y is)) (both-halts-x-in h (layout e.of) e.spot.at (meaning x) (meaning y) w s a old new halts)

both-halts-y-in : (h : Halt) (of : Layout) (at : ℕ) (mx my : Meaning) (w : ℕ) (s : Bool) (a : Around) (old one new : Option ℕ) → (mx.values a (running old) ≡ running one) → Halts h (my.values a (running one)) → Gives (Err h) (O.both of at mx my) w s a old new
unfolding O.both
both-halts-y-in h of at mx my w s a old one new k0 halts = second-halts h (by_itself mx) (by_itself my) [] a (running old) one k0 halts

pub both-halts-y : (h : Halt) (e x y : Expr) (w : ℕ) (s : Bool) (a : Around) (old one new : Option ℕ) → e.form ≡ V.Both x y → ((meaning x).values a (running old) ≡ running one) → Halts h ((meaning y).values a (running one)) → Gives (Err h) (meaning e) w s a old new
both-halts-y h e x y w s a old one new is k0 halts = subst (λ m. Gives (Err h) m w s a old new) (sym (same-Both e x y is)) (both-halts-y-in h (layout e.of) e.spot.at (meaning x) (meaning y) w s a old one new k0 halts)

both-done-in : (of : Layout) (at : ℕ) (mx my : Meaning) (u v r : List Bit4) (w : ℕ) (s : Bool) (a : Around) (old one new : Option ℕ) → Gives (Ok u) mx (wide mx) (signed mx) a old one → Gives (Ok v) my (wide my) (signed my) a one new → r ≡ ext w s (and4 (truth_of u) (truth_of v) ∷ []) → Gives (Ok r) (O.both of at mx my) w s a old new
unfolding O.both
both-done-in of at mx my u v r w s a old one new g0 g1 is = (is ∙ ap (λ (u0 : List Bit4). ext w s (and4 (truth_of u0) (truth_of v) ∷ [])) g0.0 ∙ ap (λ (v0 : List Bit4). ext w s (and4 (truth_of (mx.value (wide mx) (signed mx) a)) (truth_of v0) ∷ [])) g1.0, two-on (by_itself mx) (by_itself my) a (running old) one new g0.1 g1.1)

pub both-done : (e x y : Expr) (u v r : List Bit4) (w : ℕ) (s : Bool) (a : Around) (old one new : Option ℕ) → e.form ≡ V.Both x y → Gives (Ok u) (meaning x) (wide (meaning x)) (signed (meaning x)) a old one → Gives (Ok v) (meaning y) (wide (meaning y)) (signed (meaning y)) a one new → r ≡ ext w s (and4 (truth_of u) (truth_of v) ∷ []) → Gives (Ok r) (meaning e) w s a old new
both-done e x y u v r w s a old one new at g0 g1 is = subst (λ m. Gives (Ok r) m w s a old new) (sym (same-Both e x y at)) (both-done-in (layout e.of) e.spot.at (meaning x) (meaning y) u v r w s a old one new g0 g1 is)

pub same-Either : (e x y : Expr) → e.form ≡ V.Either x y → meaning e ≡ O.either (layout e.of) e.spot.at (meaning x) (meaning y)
same-Either e x y is = at-form e (V.Either x y) _ is (L.form-Either x y)

pub either-fits-x : (e x y : Expr) (fs : ℕ → List Parameter) (w : ℕ) → e.form ≡ V.Either x y → Fits (meaning e) fs w → Fits (meaning x) fs (wide (meaning x))
either-fits-x e x y fs w is f = alone-fits x fs (F.either-part-x (layout e.of) e.spot.at (meaning x) (meaning y) fs w (subst (λ m. Fits m fs w) (same-Either e x y is) f))

pub either-fits-y : (e x y : Expr) (fs : ℕ → List Parameter) (w : ℕ) → e.form ≡ V.Either x y → Fits (meaning e) fs w → Fits (meaning y) fs (wide (meaning y))
either-fits-y e x y fs w is f = alone-fits y fs (F.either-part-y (layout e.of) e.spot.at (meaning x) (meaning y) fs w (subst (λ m. Fits m fs w) (same-Either e x y is) f))

either-halts-x-in : (h : Halt) (of : Layout) (at : ℕ) (mx my : Meaning) (w : ℕ) (s : Bool) (a : Around) (old new : Option ℕ) → Halts h (mx.values a (running old)) → Gives (Err h) (O.either of at mx my) w s a old new
unfolding O.either
either-halts-x-in h of at mx my w s a old new halts = first-halts h (by_itself mx) (by_itself my ∷ []) a (running old) halts

pub either-halts-x : (h : Halt) (e x y : Expr) (w : ℕ) (s : Bool) (a : Around) (old new : Option ℕ) → e.form ≡ V.Either x y → Halts h ((meaning x).values a (running old)) → Gives (Err h) (meaning e) w s a old new
either-halts-x h e x y w s a old new is halts = subst (λ m. Gives (Err h) m w s a old new) (sym (same-Either e x y is)) (either-halts-x-in h (layout e.of) e.spot.at (meaning x) (meaning y) w s a old new halts)

either-halts-y-in : (h : Halt) (of : Layout) (at : ℕ) (mx my : Meaning) (w : ℕ) (s : Bool) (a : Around) (old one new : Option ℕ) → (mx.values a (running old) ≡ running one) → Halts h (my.values a (running one)) → Gives (Err h) (O.either of at mx my) w s a old new
unfolding O.either
either-halts-y-in h of at mx my w s a old one new k0 halts = second-halts h (by_itself mx) (by_itself my) [] a (running old) one k0 halts

pub either-halts-y : (h : Halt) (e x y : Expr) (w : ℕ) (s : Bool) (a : Around) (old one new : Option ℕ) → e.form ≡ V.Either x y → ((meaning x).values a (running old) ≡ running one) → Halts h ((meaning y).values a (running one)) → Gives (Err h) (meaning e) w s a old new
either-halts-y h e x y w s a old one new is k0 halts = subst (λ m. Gives (Err h) m w s a old new) (sym (same-Either e x y is)) (either-halts-y-in h (layout e.of) e.spot.at (meaning x) (meaning y) w s a old one new k0 halts)

either-done-in : (of : Layout) (at : ℕ) (mx my : Meaning) (u v r : List Bit4) (w : ℕ) (s : Bool) (a : Around) (old one new : Option ℕ) → Gives (Ok u) mx (wide mx) (signed mx) a old one → Gives (Ok v) my (wide my) (signed my) a one new → r ≡ ext w s (or4 (truth_of u) (truth_of v) ∷ []) → Gives (Ok r) (O.either of at mx my) w s a old new
unfolding O.either
either-done-in of at mx my u v r w s a old one new g0 g1 is = (is ∙ ap (λ (u0 : List Bit4). ext w s (or4 (truth_of u0) (truth_of v) ∷ [])) g0.0 ∙ ap (λ (v0 : List Bit4). ext w s (or4 (truth_of (mx.value (wide mx) (signed mx) a)) (truth_of v0) ∷ [])) g1.0, two-on (by_itself mx) (by_itself my) a (running old) one new g0.1 g1.1)

pub either-done : (e x y : Expr) (u v r : List Bit4) (w : ℕ) (s : Bool) (a : Around) (old one new : Option ℕ) → e.form ≡ V.Either x y → Gives (Ok u) (meaning x) (wide (meaning x)) (signed (meaning x)) a old one → Gives (Ok v) (meaning y) (wide (meaning y)) (signed (meaning y)) a one new → r ≡ ext w s (or4 (truth_of u) (truth_of v) ∷ []) → Gives (Ok r) (meaning e) w s a old new
either-done e x y u v r w s a old one new at g0 g1 is = subst (λ m. Gives (Ok r) m w s a old new) (sym (same-Either e x y at)) (either-done-in (layout e.of) e.spot.at (meaning x) (meaning y) u v r w s a old one new g0 g1 is)

pub same-Choose : (e z x y : Expr) → e.form ≡ V.Choose z x y → meaning e ≡ O.choose (layout e.of) e.spot.at (meaning z) (meaning x) (meaning y)
same-Choose e z x y is = at-form e (V.Choose z x y) _ is (L.form-Choose z x y)

pub choose-fits-z : (e z x y : Expr) (fs : ℕ → List Parameter) (w : ℕ) → e.form ≡ V.Choose z x y → Fits (meaning e) fs w → Fits (meaning z) fs (wide (meaning z))
choose-fits-z e z x y fs w is f = alone-fits z fs (F.choose-part-z (layout e.of) e.spot.at (meaning z) (meaning x) (meaning y) fs w (subst (λ m. Fits m fs w) (same-Choose e z x y is) f))

pub choose-fits-x : (e z x y : Expr) (fs : ℕ → List Parameter) (w : ℕ) → e.form ≡ V.Choose z x y → Fits (meaning e) fs w → Fits (meaning x) fs w
choose-fits-x e z x y fs w is f = fits (meaning x) fs w f.some (F.choose-part-x (layout e.of) e.spot.at (meaning z) (meaning x) (meaning y) fs w (subst (λ m. Fits m fs w) (same-Choose e z x y is) f))

pub choose-fits-y : (e z x y : Expr) (fs : ℕ → List Parameter) (w : ℕ) → e.form ≡ V.Choose z x y → Fits (meaning e) fs w → Fits (meaning y) fs w
choose-fits-y e z x y fs w is f = fits (meaning y) fs w f.some (F.choose-part-y (layout e.of) e.spot.at (meaning z) (meaning x) (meaning y) fs w (subst (λ m. Fits m fs w) (same-Choose e z x y is) f))

choose-halts-z-in : (h : Halt) (of : Layout) (at : ℕ) (mz mx my : Meaning) (w : ℕ) (s : Bool) (a : Around) (old new : Option ℕ) → Halts h (mz.values a (running old)) → Gives (Err h) (O.choose of at mz mx my) w s a old new
unfolding O.choose
choose-halts-z-in h of at mz mx my w s a old new halts = first-halts h (by_itself mz) (in_context mx ∷ in_context my ∷ []) a (running old) halts

pub choose-halts-z : (h : Halt) (e z x y : Expr) (w : ℕ) (s : Bool) (a : Around) (old new : Option ℕ) → e.form ≡ V.Choose z x y → Halts h ((meaning z).values a (running old)) → Gives (Err h) (meaning e) w s a old new
choose-halts-z h e z x y w s a old new is halts = subst (λ m. Gives (Err h) m w s a old new) (sym (same-Choose e z x y is)) (choose-halts-z-in h (layout e.of) e.spot.at (meaning z) (meaning x) (meaning y) w s a old new halts)

choose-halts-x-in : (h : Halt) (of : Layout) (at : ℕ) (mz mx my : Meaning) (w : ℕ) (s : Bool) (a : Around) (old one new : Option ℕ) → (mz.values a (running old) ≡ running one) → Halts h (mx.values a (running one)) → Gives (Err h) (O.choose of at mz mx my) w s a old new
unfolding O.choose
choose-halts-x-in h of at mz mx my w s a old one new k0 halts = second-halts h (by_itself mz) (in_context mx) (in_context my ∷ []) a (running old) one k0 halts

pub choose-halts-x : (h : Halt) (e z x y : Expr) (w : ℕ) (s : Bool) (a : Around) (old one new : Option ℕ) → e.form ≡ V.Choose z x y → ((meaning z).values a (running old) ≡ running one) → Halts h ((meaning x).values a (running one)) → Gives (Err h) (meaning e) w s a old new
choose-halts-x h e z x y w s a old one new is k0 halts = subst (λ m. Gives (Err h) m w s a old new) (sym (same-Choose e z x y is)) (choose-halts-x-in h (layout e.of) e.spot.at (meaning z) (meaning x) (meaning y) w s a old one new k0 halts)

choose-halts-y-in : (h : Halt) (of : Layout) (at : ℕ) (mz mx my : Meaning) (w : ℕ) (s : Bool) (a : Around) (old one two new : Option ℕ) → (mz.values a (running old) ≡ running one) → (mx.values a (running one) ≡ running two) → Halts h (my.values a (running two)) → Gives (Err h) (O.choose of at mz mx my) w s a old new
unfolding O.choose
choose-halts-y-in h of at mz mx my w s a old one two new k0 k1 halts = third-halts h (by_itself mz) (in_context mx) (in_context my) [] a (running old) one two k0 k1 halts

pub choose-halts-y : (h : Halt) (e z x y : Expr) (w : ℕ) (s : Bool) (a : Around) (old one two new : Option ℕ) → e.form ≡ V.Choose z x y → ((meaning z).values a (running old) ≡ running one) → ((meaning x).values a (running one) ≡ running two) → Halts h ((meaning y).values a (running two)) → Gives (Err h) (meaning e) w s a old new
choose-halts-y h e z x y w s a old one two new is k0 k1 halts = subst (λ m. Gives (Err h) m w s a old new) (sym (same-Choose e z x y is)) (choose-halts-y-in h (layout e.of) e.spot.at (meaning z) (meaning x) (meaning y) w s a old one two new k0 k1 halts)

choose-done-in : (of : Layout) (at : ℕ) (mz mx my : Meaning) (o u v r : List Bit4) (w : ℕ) (s : Bool) (a : Around) (old one two new : Option ℕ) → Gives (Ok o) mz (wide mz) (signed mz) a old one → Gives (Ok u) mx w s a one two → Gives (Ok v) my w s a two new → r ≡ O.chosen (truth_of o) u v → Gives (Ok r) (O.choose of at mz mx my) w s a old new
unfolding O.choose
choose-done-in of at mz mx my o u v r w s a old one two new g0 g1 g2 is = (is ∙ ap (λ (o0 : List Bit4). O.chosen (truth_of o0) u v) g0.0 ∙ ap (λ (u0 : List Bit4). O.chosen (truth_of (mz.value (wide mz) (signed mz) a)) u0 v) g1.0 ∙ ap (λ (v0 : List Bit4). O.chosen (truth_of (mz.value (wide mz) (signed mz) a)) (mx.value w s a) v0) g2.0, three-on (by_itself mz) (in_context mx) (in_context my) a (running old) one two new g0.1 g1.1 g2.1)

pub choose-done : (e z x y : Expr) (o u v r : List Bit4) (w : ℕ) (s : Bool) (a : Around) (old one two new : Option ℕ) → e.form ≡ V.Choose z x y → Gives (Ok o) (meaning z) (wide (meaning z)) (signed (meaning z)) a old one → Gives (Ok u) (meaning x) w s a one two → Gives (Ok v) (meaning y) w s a two new → r ≡ O.chosen (truth_of o) u v → Gives (Ok r) (meaning e) w s a old new
choose-done e z x y o u v r w s a old one two new at g0 g1 g2 is = subst (λ m. Gives (Ok r) m w s a old new) (sym (same-Choose e z x y at)) (choose-done-in (layout e.of) e.spot.at (meaning z) (meaning x) (meaning y) o u v r w s a old one two new g0 g1 g2 is)

pub same-Cast : (e x : Expr) → e.form ≡ V.Cast x → meaning e ≡ O.cast (layout e.of) e.spot.at (meaning x)
same-Cast e x is = at-form e (V.Cast x) _ is (L.form-Cast x)

pub cast-fits-x : (e x : Expr) (fs : ℕ → List Parameter) (w : ℕ) → e.form ≡ V.Cast x → Fits (meaning e) fs w → Fits (meaning x) fs (wide (meaning x))
cast-fits-x e x fs w is f = alone-fits x fs (F.cast-part-x (layout e.of) e.spot.at (meaning x) fs w (subst (λ m. Fits m fs w) (same-Cast e x is) f))

cast-halts-x-in : (h : Halt) (of : Layout) (at : ℕ) (mx : Meaning) (w : ℕ) (s : Bool) (a : Around) (old new : Option ℕ) → Halts h (mx.values a (running old)) → Gives (Err h) (O.cast of at mx) w s a old new
unfolding O.cast
cast-halts-x-in h of at mx w s a old new halts = first-halts h (by_itself mx) [] a (running old) halts

pub cast-halts-x : (h : Halt) (e x : Expr) (w : ℕ) (s : Bool) (a : Around) (old new : Option ℕ) → e.form ≡ V.Cast x → Halts h ((meaning x).values a (running old)) → Gives (Err h) (meaning e) w s a old new
cast-halts-x h e x w s a old new is halts = subst (λ m. Gives (Err h) m w s a old new) (sym (same-Cast e x is)) (cast-halts-x-in h (layout e.of) e.spot.at (meaning x) w s a old new halts)

cast-done-in : (of : Layout) (at : ℕ) (mx : Meaning) (u r : List Bit4) (w : ℕ) (s : Bool) (a : Around) (old new : Option ℕ) → Gives (Ok u) mx (wide mx) (signed mx) a old new → r ≡ ext w s (stored of.two_state (ext (length of.two_state) (signed mx) u)) → Gives (Ok r) (O.cast of at mx) w s a old new
unfolding O.cast
cast-done-in of at mx u r w s a old new g0 is = (is ∙ ap (λ (u0 : List Bit4). ext w s (stored of.two_state (ext (length of.two_state) (signed mx) u0))) g0.0, one-on (by_itself mx) a (running old) new g0.1)

pub cast-done : (e x : Expr) (u r : List Bit4) (w : ℕ) (s : Bool) (a : Around) (old new : Option ℕ) → e.form ≡ V.Cast x → Gives (Ok u) (meaning x) (wide (meaning x)) (signed (meaning x)) a old new → r ≡ ext w s (stored (layout e.of).two_state (ext (length (layout e.of).two_state) (signed (meaning x)) u)) → Gives (Ok r) (meaning e) w s a old new
cast-done e x u r w s a old new at g0 is = subst (λ m. Gives (Ok r) m w s a old new) (sym (same-Cast e x at)) (cast-done-in (layout e.of) e.spot.at (meaning x) u r w s a old new g0 is)

pub same-Clog2 : (e x : Expr) → e.form ≡ V.Clog2 x → meaning e ≡ O.clog2 (layout e.of) e.spot.at (meaning x)
same-Clog2 e x is = at-form e (V.Clog2 x) _ is (L.form-Clog2 x)

pub clog2-fits-x : (e x : Expr) (fs : ℕ → List Parameter) (w : ℕ) → e.form ≡ V.Clog2 x → Fits (meaning e) fs w → Fits (meaning x) fs (wide (meaning x))
clog2-fits-x e x fs w is f = alone-fits x fs (F.clog2-part-x (layout e.of) e.spot.at (meaning x) fs w (subst (λ m. Fits m fs w) (same-Clog2 e x is) f))

clog2-halts-x-in : (h : Halt) (of : Layout) (at : ℕ) (mx : Meaning) (w : ℕ) (s : Bool) (a : Around) (old new : Option ℕ) → Halts h (mx.values a (running old)) → Gives (Err h) (O.clog2 of at mx) w s a old new
unfolding O.clog2
clog2-halts-x-in h of at mx w s a old new halts = first-halts h (by_itself mx) [] a (running old) halts

pub clog2-halts-x : (h : Halt) (e x : Expr) (w : ℕ) (s : Bool) (a : Around) (old new : Option ℕ) → e.form ≡ V.Clog2 x → Halts h ((meaning x).values a (running old)) → Gives (Err h) (meaning e) w s a old new
clog2-halts-x h e x w s a old new is halts = subst (λ m. Gives (Err h) m w s a old new) (sym (same-Clog2 e x is)) (clog2-halts-x-in h (layout e.of) e.spot.at (meaning x) w s a old new halts)

clog2-done-in : (of : Layout) (at : ℕ) (mx : Meaning) (u r : List Bit4) (w : ℕ) (s : Bool) (a : Around) (old new : Option ℕ) → Gives (Ok u) mx (wide mx) (signed mx) a old new → r ≡ ext w s (O.clog2_of u) → Gives (Ok r) (O.clog2 of at mx) w s a old new
unfolding O.clog2
clog2-done-in of at mx u r w s a old new g0 is = (is ∙ ap (λ (u0 : List Bit4). ext w s (O.clog2_of u0)) g0.0, one-on (by_itself mx) a (running old) new g0.1)

pub clog2-done : (e x : Expr) (u r : List Bit4) (w : ℕ) (s : Bool) (a : Around) (old new : Option ℕ) → e.form ≡ V.Clog2 x → Gives (Ok u) (meaning x) (wide (meaning x)) (signed (meaning x)) a old new → r ≡ ext w s (O.clog2_of u) → Gives (Ok r) (meaning e) w s a old new
clog2-done e x u r w s a old new at g0 is = subst (λ m. Gives (Ok r) m w s a old new) (sym (same-Clog2 e x at)) (clog2-done-in (layout e.of) e.spot.at (meaning x) u r w s a old new g0 is)

pub unary-word : (e x : Expr) (op : UnOp) (fs : ℕ → List Parameter) (w n : ℕ) → e.form ≡ V.Unary op x → n ≡ w → Fits (meaning e) fs w → UnaryFitsWord op n
unary-word e x op fs w n is long f =
    subst (UnaryFitsWord op) (sym long) (F.unary-word (layout e.of) e.spot.at op (meaning x) fs w (subst (λ m. Fits m fs w) (same-Unary e x op is) f))

pub binary-word : (e x y : Expr) (op : BinOp) (fs : ℕ → List Parameter) (w n : ℕ) → e.form ≡ V.Binary op x y → n ≡ w → Fits (meaning e) fs w → BinaryFitsWord op n
binary-word e x y op fs w n is long f =
    subst (BinaryFitsWord op) (sym long) (F.binary-word (layout e.of) e.spot.at op (meaning x) (meaning y) fs w (subst (λ m. Fits m fs w) (same-Binary e x y op is) f))

pub power-word : (e x y : Expr) (fs : ℕ → List Parameter) (w : ℕ) → e.form ≡ V.Power x y → Fits (meaning e) fs w → (w ≤ 128) × (wide (meaning y) ≤ 128)
power-word e x y fs w is f = F.power-word (layout e.of) e.spot.at (meaning x) (meaning y) fs w (subst (λ m. Fits m fs w) (same-Power e x y is) f)

pub order-word : (e x y : Expr) (op : OrdOp) (fs : ℕ → List Parameter) (w : ℕ) → e.form ≡ V.Order op x y → Fits (meaning e) fs w → O.both_wide (meaning x) (meaning y) ≤ 128
order-word e x y op fs w is f = F.order-word (layout e.of) e.spot.at op (meaning x) (meaning y) fs w (subst (λ m. Fits m fs w) (same-Order e x y op is) f)

pub unary-sub-x : (x1 e x : Expr) (op : UnOp) (fs : ℕ → List Parameter) (w : ℕ) → x1 ≡ x → e.form ≡ V.Unary op x → Fits (meaning e) fs w → Fits (meaning x1) fs w
unary-sub-x x1 e x op fs w same is f = subst (λ q. Fits (meaning q) fs w) (sym same) (unary-fits-x e x op fs w is f)

pub reduce-sub-x : (x1 e x : Expr) (op : RedOp) (fs : ℕ → List Parameter) (w n : ℕ) → n ≡ wide (meaning x1) → x1 ≡ x → e.form ≡ V.Reduce op x → Fits (meaning e) fs w → Fits (meaning x1) fs n
reduce-sub-x x1 e x op fs w n own same is f = subst (Fits (meaning x1) fs) (sym own) (subst (λ q. Fits (meaning q) fs (wide (meaning q))) (sym same) (reduce-fits-x e x op fs w is f))

pub reduce-widest-x : (x1 e x : Expr) (op : RedOp) (fs : ℕ → List Parameter) (w : ℕ) → x1 ≡ x → e.form ≡ V.Reduce op x → Fits (meaning e) fs w → (meaning x1).widest ≤ 4194304
reduce-widest-x x1 e x op fs w same is f = subst (λ q. (meaning q).widest ≤ 4194304) (sym same) (reduce-fits-x e x op fs w is f).narrow

pub negate-sub-x : (x1 e x : Expr) (fs : ℕ → List Parameter) (w n : ℕ) → n ≡ wide (meaning x1) → x1 ≡ x → e.form ≡ V.Negate x → Fits (meaning e) fs w → Fits (meaning x1) fs n
negate-sub-x x1 e x fs w n own same is f = subst (Fits (meaning x1) fs) (sym own) (subst (λ q. Fits (meaning q) fs (wide (meaning q))) (sym same) (negate-fits-x e x fs w is f))

pub negate-widest-x : (x1 e x : Expr) (fs : ℕ → List Parameter) (w : ℕ) → x1 ≡ x → e.form ≡ V.Negate x → Fits (meaning e) fs w → (meaning x1).widest ≤ 4194304
negate-widest-x x1 e x fs w same is f = subst (λ q. (meaning q).widest ≤ 4194304) (sym same) (negate-fits-x e x fs w is f).narrow

pub binary-sub-x : (x1 e x y : Expr) (op : BinOp) (fs : ℕ → List Parameter) (w : ℕ) → x1 ≡ x → e.form ≡ V.Binary op x y → Fits (meaning e) fs w → Fits (meaning x1) fs w
binary-sub-x x1 e x y op fs w same is f = subst (λ q. Fits (meaning q) fs w) (sym same) (binary-fits-x e x y op fs w is f)

pub binary-sub-y : (y1 e x y : Expr) (op : BinOp) (fs : ℕ → List Parameter) (w : ℕ) → y1 ≡ y → e.form ≡ V.Binary op x y → Fits (meaning e) fs w → Fits (meaning y1) fs w
binary-sub-y y1 e x y op fs w same is f = subst (λ q. Fits (meaning q) fs w) (sym same) (binary-fits-y e x y op fs w is f)

pub shift-sub-x : (x1 e x y : Expr) (op : ShiftOp) (fs : ℕ → List Parameter) (w : ℕ) → x1 ≡ x → e.form ≡ V.Shift op x y → Fits (meaning e) fs w → Fits (meaning x1) fs w
shift-sub-x x1 e x y op fs w same is f = subst (λ q. Fits (meaning q) fs w) (sym same) (shift-fits-x e x y op fs w is f)

pub shift-sub-y : (y1 e x y : Expr) (op : ShiftOp) (fs : ℕ → List Parameter) (w n : ℕ) → n ≡ wide (meaning y1) → y1 ≡ y → e.form ≡ V.Shift op x y → Fits (meaning e) fs w → Fits (meaning y1) fs n
shift-sub-y y1 e x y op fs w n own same is f = subst (Fits (meaning y1) fs) (sym own) (subst (λ q. Fits (meaning q) fs (wide (meaning q))) (sym same) (shift-fits-y e x y op fs w is f))

pub shift-widest-y : (y1 e x y : Expr) (op : ShiftOp) (fs : ℕ → List Parameter) (w : ℕ) → y1 ≡ y → e.form ≡ V.Shift op x y → Fits (meaning e) fs w → (meaning y1).widest ≤ 4194304
shift-widest-y y1 e x y op fs w same is f = subst (λ q. (meaning q).widest ≤ 4194304) (sym same) (shift-fits-y e x y op fs w is f).narrow

pub power-sub-x : (x1 e x y : Expr) (fs : ℕ → List Parameter) (w : ℕ) → x1 ≡ x → e.form ≡ V.Power x y → Fits (meaning e) fs w → Fits (meaning x1) fs w
power-sub-x x1 e x y fs w same is f = subst (λ q. Fits (meaning q) fs w) (sym same) (power-fits-x e x y fs w is f)

pub power-sub-y : (y1 e x y : Expr) (fs : ℕ → List Parameter) (w n : ℕ) → n ≡ wide (meaning y1) → y1 ≡ y → e.form ≡ V.Power x y → Fits (meaning e) fs w → Fits (meaning y1) fs n
power-sub-y y1 e x y fs w n own same is f = subst (Fits (meaning y1) fs) (sym own) (subst (λ q. Fits (meaning q) fs (wide (meaning q))) (sym same) (power-fits-y e x y fs w is f))

pub power-widest-y : (y1 e x y : Expr) (fs : ℕ → List Parameter) (w : ℕ) → y1 ≡ y → e.form ≡ V.Power x y → Fits (meaning e) fs w → (meaning y1).widest ≤ 4194304
power-widest-y y1 e x y fs w same is f = subst (λ q. (meaning q).widest ≤ 4194304) (sym same) (power-fits-y e x y fs w is f).narrow

pub order-sub-x : (x1 y1 e x y : Expr) (op : OrdOp) (fs : ℕ → List Parameter) (w n : ℕ) → n ≡ O.both_wide (meaning x1) (meaning y1) → x1 ≡ x → y1 ≡ y → e.form ≡ V.Order op x y → Fits (meaning e) fs w → Fits (meaning x1) fs n
order-sub-x x1 y1 e x y op fs w n own samex samey is f = subst (Fits (meaning x1) fs) (sym own) (subst (λ q. Fits (meaning q) fs (O.both_wide (meaning q) (meaning y1))) (sym samex) (subst (λ q. Fits (meaning x) fs (O.both_wide (meaning x) (meaning q))) (sym samey) (order-fits-x e x y op fs w is f)))

pub order-widest-x : (x1 e x y : Expr) (op : OrdOp) (fs : ℕ → List Parameter) (w : ℕ) → x1 ≡ x → e.form ≡ V.Order op x y → Fits (meaning e) fs w → (meaning x1).widest ≤ 4194304
order-widest-x x1 e x y op fs w same is f = subst (λ q. (meaning q).widest ≤ 4194304) (sym same) (order-fits-x e x y op fs w is f).narrow

pub order-sub-y : (x1 y1 e x y : Expr) (op : OrdOp) (fs : ℕ → List Parameter) (w n : ℕ) → n ≡ O.both_wide (meaning x1) (meaning y1) → x1 ≡ x → y1 ≡ y → e.form ≡ V.Order op x y → Fits (meaning e) fs w → Fits (meaning y1) fs n
order-sub-y x1 y1 e x y op fs w n own samex samey is f = subst (Fits (meaning y1) fs) (sym own) (subst (λ q. Fits (meaning y1) fs (O.both_wide (meaning q) (meaning y1))) (sym samex) (subst (λ q. Fits (meaning q) fs (O.both_wide (meaning x) (meaning q))) (sym samey) (order-fits-y e x y op fs w is f)))

pub order-widest-y : (y1 e x y : Expr) (op : OrdOp) (fs : ℕ → List Parameter) (w : ℕ) → y1 ≡ y → e.form ≡ V.Order op x y → Fits (meaning e) fs w → (meaning y1).widest ≤ 4194304
order-widest-y y1 e x y op fs w same is f = subst (λ q. (meaning q).widest ≤ 4194304) (sym same) (order-fits-y e x y op fs w is f).narrow

pub equal-sub-x : (x1 y1 e x y : Expr) (op : EqOp) (negated : Bool) (fs : ℕ → List Parameter) (w n : ℕ) → n ≡ O.both_wide (meaning x1) (meaning y1) → x1 ≡ x → y1 ≡ y → e.form ≡ V.Equal op negated x y → Fits (meaning e) fs w → Fits (meaning x1) fs n
equal-sub-x x1 y1 e x y op negated fs w n own samex samey is f = subst (Fits (meaning x1) fs) (sym own) (subst (λ q. Fits (meaning q) fs (O.both_wide (meaning q) (meaning y1))) (sym samex) (subst (λ q. Fits (meaning x) fs (O.both_wide (meaning x) (meaning q))) (sym samey) (equal-fits-x e x y op negated fs w is f)))

pub equal-widest-x : (x1 e x y : Expr) (op : EqOp) (negated : Bool) (fs : ℕ → List Parameter) (w : ℕ) → x1 ≡ x → e.form ≡ V.Equal op negated x y → Fits (meaning e) fs w → (meaning x1).widest ≤ 4194304
equal-widest-x x1 e x y op negated fs w same is f = subst (λ q. (meaning q).widest ≤ 4194304) (sym same) (equal-fits-x e x y op negated fs w is f).narrow

pub equal-sub-y : (x1 y1 e x y : Expr) (op : EqOp) (negated : Bool) (fs : ℕ → List Parameter) (w n : ℕ) → n ≡ O.both_wide (meaning x1) (meaning y1) → x1 ≡ x → y1 ≡ y → e.form ≡ V.Equal op negated x y → Fits (meaning e) fs w → Fits (meaning y1) fs n
equal-sub-y x1 y1 e x y op negated fs w n own samex samey is f = subst (Fits (meaning y1) fs) (sym own) (subst (λ q. Fits (meaning y1) fs (O.both_wide (meaning q) (meaning y1))) (sym samex) (subst (λ q. Fits (meaning q) fs (O.both_wide (meaning x) (meaning q))) (sym samey) (equal-fits-y e x y op negated fs w is f)))

pub equal-widest-y : (y1 e x y : Expr) (op : EqOp) (negated : Bool) (fs : ℕ → List Parameter) (w : ℕ) → y1 ≡ y → e.form ≡ V.Equal op negated x y → Fits (meaning e) fs w → (meaning y1).widest ≤ 4194304
equal-widest-y y1 e x y op negated fs w same is f = subst (λ q. (meaning q).widest ≤ 4194304) (sym same) (equal-fits-y e x y op negated fs w is f).narrow

pub both-sub-x : (x1 e x y : Expr) (fs : ℕ → List Parameter) (w n : ℕ) → n ≡ wide (meaning x1) → x1 ≡ x → e.form ≡ V.Both x y → Fits (meaning e) fs w → Fits (meaning x1) fs n
both-sub-x x1 e x y fs w n own same is f = subst (Fits (meaning x1) fs) (sym own) (subst (λ q. Fits (meaning q) fs (wide (meaning q))) (sym same) (both-fits-x e x y fs w is f))

pub both-widest-x : (x1 e x y : Expr) (fs : ℕ → List Parameter) (w : ℕ) → x1 ≡ x → e.form ≡ V.Both x y → Fits (meaning e) fs w → (meaning x1).widest ≤ 4194304
both-widest-x x1 e x y fs w same is f = subst (λ q. (meaning q).widest ≤ 4194304) (sym same) (both-fits-x e x y fs w is f).narrow

pub both-sub-y : (y1 e x y : Expr) (fs : ℕ → List Parameter) (w n : ℕ) → n ≡ wide (meaning y1) → y1 ≡ y → e.form ≡ V.Both x y → Fits (meaning e) fs w → Fits (meaning y1) fs n
both-sub-y y1 e x y fs w n own same is f = subst (Fits (meaning y1) fs) (sym own) (subst (λ q. Fits (meaning q) fs (wide (meaning q))) (sym same) (both-fits-y e x y fs w is f))

pub both-widest-y : (y1 e x y : Expr) (fs : ℕ → List Parameter) (w : ℕ) → y1 ≡ y → e.form ≡ V.Both x y → Fits (meaning e) fs w → (meaning y1).widest ≤ 4194304
both-widest-y y1 e x y fs w same is f = subst (λ q. (meaning q).widest ≤ 4194304) (sym same) (both-fits-y e x y fs w is f).narrow

pub either-sub-x : (x1 e x y : Expr) (fs : ℕ → List Parameter) (w n : ℕ) → n ≡ wide (meaning x1) → x1 ≡ x → e.form ≡ V.Either x y → Fits (meaning e) fs w → Fits (meaning x1) fs n
either-sub-x x1 e x y fs w n own same is f = subst (Fits (meaning x1) fs) (sym own) (subst (λ q. Fits (meaning q) fs (wide (meaning q))) (sym same) (either-fits-x e x y fs w is f))

pub either-widest-x : (x1 e x y : Expr) (fs : ℕ → List Parameter) (w : ℕ) → x1 ≡ x → e.form ≡ V.Either x y → Fits (meaning e) fs w → (meaning x1).widest ≤ 4194304
either-widest-x x1 e x y fs w same is f = subst (λ q. (meaning q).widest ≤ 4194304) (sym same) (either-fits-x e x y fs w is f).narrow

pub either-sub-y : (y1 e x y : Expr) (fs : ℕ → List Parameter) (w n : ℕ) → n ≡ wide (meaning y1) → y1 ≡ y → e.form ≡ V.Either x y → Fits (meaning e) fs w → Fits (meaning y1) fs n
either-sub-y y1 e x y fs w n own same is f = subst (Fits (meaning y1) fs) (sym own) (subst (λ q. Fits (meaning q) fs (wide (meaning q))) (sym same) (either-fits-y e x y fs w is f))

pub either-widest-y : (y1 e x y : Expr) (fs : ℕ → List Parameter) (w : ℕ) → y1 ≡ y → e.form ≡ V.Either x y → Fits (meaning e) fs w → (meaning y1).widest ≤ 4194304
either-widest-y y1 e x y fs w same is f = subst (λ q. (meaning q).widest ≤ 4194304) (sym same) (either-fits-y e x y fs w is f).narrow

pub choose-sub-z : (z1 e z x y : Expr) (fs : ℕ → List Parameter) (w n : ℕ) → n ≡ wide (meaning z1) → z1 ≡ z → e.form ≡ V.Choose z x y → Fits (meaning e) fs w → Fits (meaning z1) fs n
choose-sub-z z1 e z x y fs w n own same is f = subst (Fits (meaning z1) fs) (sym own) (subst (λ q. Fits (meaning q) fs (wide (meaning q))) (sym same) (choose-fits-z e z x y fs w is f))

pub choose-widest-z : (z1 e z x y : Expr) (fs : ℕ → List Parameter) (w : ℕ) → z1 ≡ z → e.form ≡ V.Choose z x y → Fits (meaning e) fs w → (meaning z1).widest ≤ 4194304
choose-widest-z z1 e z x y fs w same is f = subst (λ q. (meaning q).widest ≤ 4194304) (sym same) (choose-fits-z e z x y fs w is f).narrow

pub choose-sub-x : (x1 e z x y : Expr) (fs : ℕ → List Parameter) (w : ℕ) → x1 ≡ x → e.form ≡ V.Choose z x y → Fits (meaning e) fs w → Fits (meaning x1) fs w
choose-sub-x x1 e z x y fs w same is f = subst (λ q. Fits (meaning q) fs w) (sym same) (choose-fits-x e z x y fs w is f)

pub choose-sub-y : (y1 e z x y : Expr) (fs : ℕ → List Parameter) (w : ℕ) → y1 ≡ y → e.form ≡ V.Choose z x y → Fits (meaning e) fs w → Fits (meaning y1) fs w
choose-sub-y y1 e z x y fs w same is f = subst (λ q. Fits (meaning q) fs w) (sym same) (choose-fits-y e z x y fs w is f)

pub cast-sub-x : (x1 e x : Expr) (fs : ℕ → List Parameter) (w n : ℕ) → n ≡ wide (meaning x1) → x1 ≡ x → e.form ≡ V.Cast x → Fits (meaning e) fs w → Fits (meaning x1) fs n
cast-sub-x x1 e x fs w n own same is f = subst (Fits (meaning x1) fs) (sym own) (subst (λ q. Fits (meaning q) fs (wide (meaning q))) (sym same) (cast-fits-x e x fs w is f))

pub cast-widest-x : (x1 e x : Expr) (fs : ℕ → List Parameter) (w : ℕ) → x1 ≡ x → e.form ≡ V.Cast x → Fits (meaning e) fs w → (meaning x1).widest ≤ 4194304
cast-widest-x x1 e x fs w same is f = subst (λ q. (meaning q).widest ≤ 4194304) (sym same) (cast-fits-x e x fs w is f).narrow

pub clog2-sub-x : (x1 e x : Expr) (fs : ℕ → List Parameter) (w n : ℕ) → n ≡ wide (meaning x1) → x1 ≡ x → e.form ≡ V.Clog2 x → Fits (meaning e) fs w → Fits (meaning x1) fs n
clog2-sub-x x1 e x fs w n own same is f = subst (Fits (meaning x1) fs) (sym own) (subst (λ q. Fits (meaning q) fs (wide (meaning q))) (sym same) (clog2-fits-x e x fs w is f))

pub clog2-widest-x : (x1 e x : Expr) (fs : ℕ → List Parameter) (w : ℕ) → x1 ≡ x → e.form ≡ V.Clog2 x → Fits (meaning e) fs w → (meaning x1).widest ≤ 4194304
clog2-widest-x x1 e x fs w same is f = subst (λ q. (meaning q).widest ≤ 4194304) (sym same) (clog2-fits-x e x fs w is f).narrow

pub ruleset subs = (unary-sub-x, reduce-sub-x, reduce-widest-x, negate-sub-x, negate-widest-x, binary-sub-x, binary-sub-y, shift-sub-x, shift-sub-y, shift-widest-y, power-sub-x, power-sub-y, power-widest-y, order-sub-x, order-widest-x, order-sub-y, order-widest-y, equal-sub-x, equal-widest-x, equal-sub-y, equal-widest-y, both-sub-x, both-widest-x, both-sub-y, both-widest-y, either-sub-x, either-widest-x, either-sub-y, either-widest-y, choose-sub-z, choose-widest-z, choose-sub-x, choose-sub-y, cast-sub-x, cast-widest-x, clog2-sub-x, clog2-widest-x)
