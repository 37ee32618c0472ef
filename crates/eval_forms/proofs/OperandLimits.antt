-- Each operand of a form that fits, fits; and has fewer nodes.
use Rattle.std.proofs.Common.{◌≡◌, ℕ, Bool, List, [], ◌∷◌, map, subst}
use Rattle.b4_core.specs.declared.operators.UnOp.{UnOp}
use Rattle.b4_core.specs.declared.operators.BinOp.{BinOp}
use Rattle.b4_core.specs.declared.operators.RedOp.{RedOp}
use Rattle.b4_core.specs.declared.operators.ShiftOp.{ShiftOp}
use Rattle.b4_core.specs.declared.operators.OrdOp.{OrdOp}
use Rattle.b4_core.specs.declared.operators.EqOp.{EqOp}
use Rattle.sv_types.specs.declared.expression.Expr.{Expr}
use Rattle.sv_types.specs.declared.expression.Form.{Form-F, out-Form}
use Rattle.sv_types.specs.declared.expression.Form.TheVariants as V
use Rattle.sv_types.specs.Layouts.{layout}
use Rattle.sv_types.specs.Surroundings.{Parameter}
use Rattle.sv_types.specs.Operators.{parts_of}
use Rattle.sv_types.specs.Expressions.{meaning}
use Rattle.eval_parts.specs.Limits.{Fits, AllFit, AllFitAt}
use Rattle.eval_parts.specs.Targets.{marks_of_parts}
use Rattle.eval_parts.proofs.Steps as S
use Rattle.eval_parts.proofs.Lists as Q
use Rattle.eval_parts.proofs.Assigned as A
use Rattle.eval_parts.proofs.Streaming as T
use Rattle.eval_forms.specs.Asked.{alone_asked, assigned_asked, form_asked, AllFitAsked}
use Rattle.eval_forms.proofs.Strict as K

pub fits-Unary : (e : Expr) (op : UnOp) (x : Expr) (fs : ℕ → List Parameter) (w : ℕ) (s : Bool) → e.form ≡ V.Unary op x → Fits (meaning e) fs w → AllFitAsked fs (form_asked (layout e.of) fs w s (out-Form e.form))
fits-Unary e op x fs w s is f = subst (AllFitAsked fs) (K.asked-by e (V.Unary op x) (Form-F.Unary op x) fs w s is (K.out-Unary op x)) (S.unary-fits-x e x op fs w is f, tt)

pub fits-Reduce : (e : Expr) (op : RedOp) (x : Expr) (fs : ℕ → List Parameter) (w : ℕ) (s : Bool) → e.form ≡ V.Reduce op x → Fits (meaning e) fs w → AllFitAsked fs (form_asked (layout e.of) fs w s (out-Form e.form))
fits-Reduce e op x fs w s is f = subst (AllFitAsked fs) (K.asked-by e (V.Reduce op x) (Form-F.Reduce op x) fs w s is (K.out-Reduce op x)) (S.reduce-fits-x e x op fs w is f, tt)

pub fits-Negate : (e : Expr) (x : Expr) (fs : ℕ → List Parameter) (w : ℕ) (s : Bool) → e.form ≡ V.Negate x → Fits (meaning e) fs w → AllFitAsked fs (form_asked (layout e.of) fs w s (out-Form e.form))
fits-Negate e x fs w s is f = subst (AllFitAsked fs) (K.asked-by e (V.Negate x) (Form-F.Negate x) fs w s is (K.out-Negate x)) (S.negate-fits-x e x fs w is f, tt)

pub fits-Binary : (e : Expr) (op : BinOp) (x : Expr) (y : Expr) (fs : ℕ → List Parameter) (w : ℕ) (s : Bool) → e.form ≡ V.Binary op x y → Fits (meaning e) fs w → AllFitAsked fs (form_asked (layout e.of) fs w s (out-Form e.form))
fits-Binary e op x y fs w s is f = subst (AllFitAsked fs) (K.asked-by e (V.Binary op x y) (Form-F.Binary op x y) fs w s is (K.out-Binary op x y)) (S.binary-fits-x e x y op fs w is f, (S.binary-fits-y e x y op fs w is f, tt))

pub fits-Shift : (e : Expr) (op : ShiftOp) (x : Expr) (y : Expr) (fs : ℕ → List Parameter) (w : ℕ) (s : Bool) → e.form ≡ V.Shift op x y → Fits (meaning e) fs w → AllFitAsked fs (form_asked (layout e.of) fs w s (out-Form e.form))
fits-Shift e op x y fs w s is f = subst (AllFitAsked fs) (K.asked-by e (V.Shift op x y) (Form-F.Shift op x y) fs w s is (K.out-Shift op x y)) (S.shift-fits-x e x y op fs w is f, (S.shift-fits-y e x y op fs w is f, tt))

pub fits-Power : (e : Expr) (x : Expr) (y : Expr) (fs : ℕ → List Parameter) (w : ℕ) (s : Bool) → e.form ≡ V.Power x y → Fits (meaning e) fs w → AllFitAsked fs (form_asked (layout e.of) fs w s (out-Form e.form))
fits-Power e x y fs w s is f = subst (AllFitAsked fs) (K.asked-by e (V.Power x y) (Form-F.Power x y) fs w s is (K.out-Power x y)) (S.power-fits-x e x y fs w is f, (S.power-fits-y e x y fs w is f, tt))

pub fits-Order : (e : Expr) (op : OrdOp) (x : Expr) (y : Expr) (fs : ℕ → List Parameter) (w : ℕ) (s : Bool) → e.form ≡ V.Order op x y → Fits (meaning e) fs w → AllFitAsked fs (form_asked (layout e.of) fs w s (out-Form e.form))
fits-Order e op x y fs w s is f = subst (AllFitAsked fs) (K.asked-by e (V.Order op x y) (Form-F.Order op x y) fs w s is (K.out-Order op x y)) (S.order-fits-x e x y op fs w is f, (S.order-fits-y e x y op fs w is f, tt))

pub fits-Equal : (e : Expr) (op : EqOp) (negated : Bool) (x : Expr) (y : Expr) (fs : ℕ → List Parameter) (w : ℕ) (s : Bool) → e.form ≡ V.Equal op negated x y → Fits (meaning e) fs w → AllFitAsked fs (form_asked (layout e.of) fs w s (out-Form e.form))
fits-Equal e op negated x y fs w s is f = subst (AllFitAsked fs) (K.asked-by e (V.Equal op negated x y) (Form-F.Equal op negated x y) fs w s is (K.out-Equal op negated x y)) (S.equal-fits-x e x y op negated fs w is f, (S.equal-fits-y e x y op negated fs w is f, tt))

pub fits-Both : (e : Expr) (x : Expr) (y : Expr) (fs : ℕ → List Parameter) (w : ℕ) (s : Bool) → e.form ≡ V.Both x y → Fits (meaning e) fs w → AllFitAsked fs (form_asked (layout e.of) fs w s (out-Form e.form))
fits-Both e x y fs w s is f = subst (AllFitAsked fs) (K.asked-by e (V.Both x y) (Form-F.Both x y) fs w s is (K.out-Both x y)) (S.both-fits-x e x y fs w is f, (S.both-fits-y e x y fs w is f, tt))

pub fits-Either : (e : Expr) (x : Expr) (y : Expr) (fs : ℕ → List Parameter) (w : ℕ) (s : Bool) → e.form ≡ V.Either x y → Fits (meaning e) fs w → AllFitAsked fs (form_asked (layout e.of) fs w s (out-Form e.form))
fits-Either e x y fs w s is f = subst (AllFitAsked fs) (K.asked-by e (V.Either x y) (Form-F.Either x y) fs w s is (K.out-Either x y)) (S.either-fits-x e x y fs w is f, (S.either-fits-y e x y fs w is f, tt))

pub fits-Choose : (e : Expr) (z : Expr) (x : Expr) (y : Expr) (fs : ℕ → List Parameter) (w : ℕ) (s : Bool) → e.form ≡ V.Choose z x y → Fits (meaning e) fs w → AllFitAsked fs (form_asked (layout e.of) fs w s (out-Form e.form))
fits-Choose e z x y fs w s is f = subst (AllFitAsked fs) (K.asked-by e (V.Choose z x y) (Form-F.Choose z x y) fs w s is (K.out-Choose z x y)) (S.choose-fits-z e z x y fs w is f, (S.choose-fits-x e z x y fs w is f, (S.choose-fits-y e z x y fs w is f, tt)))

pub fits-Cast : (e : Expr) (x : Expr) (fs : ℕ → List Parameter) (w : ℕ) (s : Bool) → e.form ≡ V.Cast x → Fits (meaning e) fs w → AllFitAsked fs (form_asked (layout e.of) fs w s (out-Form e.form))
fits-Cast e x fs w s is f = subst (AllFitAsked fs) (K.asked-by e (V.Cast x) (Form-F.Cast x) fs w s is (K.out-Cast x)) (S.cast-fits-x e x fs w is f, tt)

pub fits-Clog2 : (e : Expr) (x : Expr) (fs : ℕ → List Parameter) (w : ℕ) (s : Bool) → e.form ≡ V.Clog2 x → Fits (meaning e) fs w → AllFitAsked fs (form_asked (layout e.of) fs w s (out-Form e.form))
fits-Clog2 e x fs w s is f = subst (AllFitAsked fs) (K.asked-by e (V.Clog2 x) (Form-F.Clog2 x) fs w s is (K.out-Clog2 x)) (S.clog2-fits-x e x fs w is f, tt)

each-alone : (es : List Expr) (fs : ℕ → List Parameter) → AllFit es fs → AllFitAsked fs (map alone_asked es)
each-alone [] fs f = tt
each-alone (e ∷ es) fs f = (f.0, each-alone es fs f.1)

each-place : (ps : List (List Bool)) (es : List Expr) (fs : ℕ → List Parameter) → AllFitAt ps es fs → AllFitAsked fs (assigned_asked ps es)
each-place [] es fs f = tt
each-place (p ∷ ps) [] fs f = tt
each-place (p ∷ ps) (e ∷ es) fs f = (f.0, each-place ps es fs f.1)

pub fits-Concat : (e : Expr) (es : List Expr) (fs : ℕ → List Parameter) (w : ℕ) (s : Bool) → e.form ≡ V.Concat es → Fits (meaning e) fs w → AllFitAsked fs (form_asked (layout e.of) fs w s (out-Form e.form))
fits-Concat e es fs w s is f = subst (AllFitAsked fs) (K.asked-by e (V.Concat es) (Form-F.Concat es) fs w s is (K.out-Concat es)) (each-alone es fs (Q.concat-fits e es fs w is f))

pub fits-Repeat : (e : Expr) (n : ℕ) (es : List Expr) (fs : ℕ → List Parameter) (w : ℕ) (s : Bool) → e.form ≡ V.Repeat n es → Fits (meaning e) fs w → AllFitAsked fs (form_asked (layout e.of) fs w s (out-Form e.form))
fits-Repeat e n es fs w s is f = subst (AllFitAsked fs) (K.asked-by e (V.Repeat n es) (Form-F.Repeat n es) fs w s is (K.out-Repeat n es)) (each-alone es fs (Q.repeat-fits e n es fs w is f))

pub fits-Stream : (e : Expr) (reversed : Bool) (n : ℕ) (es : List Expr) (fs : ℕ → List Parameter) (w : ℕ) (s : Bool) → e.form ≡ V.Stream reversed n es → Fits (meaning e) fs w → AllFitAsked fs (form_asked (layout e.of) fs w s (out-Form e.form))
fits-Stream e reversed n es fs w s is f = subst (AllFitAsked fs) (K.asked-by e (V.Stream reversed n es) (Form-F.Stream reversed n es) fs w s is (K.out-Stream reversed n es)) (each-alone es fs (T.stream-fits e reversed n es fs w is f))

pub fits-Pattern : (e : Expr) (es : List Expr) (fs : ℕ → List Parameter) (w : ℕ) (s : Bool) → e.form ≡ V.Pattern es → Fits (meaning e) fs w → AllFitAsked fs (form_asked (layout e.of) fs w s (out-Form e.form))
fits-Pattern e es fs w s is f = subst (AllFitAsked fs) (K.asked-by e (V.Pattern es) (Form-F.Pattern es) fs w s is (K.out-Pattern es)) (each-place (marks_of_parts (parts_of (layout e.of))) es fs (A.pattern-fits e es fs w is f))
