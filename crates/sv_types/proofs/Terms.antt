-- Induction over expressions.
use Rattle.std.proofs.Common.{ℕ, Bool, ℤ, List, [], ◌∷◌, map, subst, sym}
use Rattle.b4_core.specs.declared.bit.Bit4.{Bit4}
use Rattle.b4_core.specs.declared.operators.UnOp.{UnOp}
use Rattle.b4_core.specs.declared.operators.BinOp.{BinOp}
use Rattle.b4_core.specs.declared.operators.RedOp.{RedOp}
use Rattle.b4_core.specs.declared.operators.ShiftOp.{ShiftOp}
use Rattle.b4_core.specs.declared.operators.OrdOp.{OrdOp}
use Rattle.b4_core.specs.declared.operators.EqOp.{EqOp}
use Rattle.sv_types.specs.declared.types.Value.{Value}
use Rattle.sv_types.specs.declared.expression.Expr.{Expr, Expr-F, roll-Expr, map-Expr, ind-Expr}
use Rattle.sv_types.specs.declared.expression.Form.{Form, Form-F, roll-Form, map-Form, ind-Form}
use Rattle.sv_types.specs.declared.expression.Form.TheVariants as V
use Rattle.sv_types.specs.declared.expression.Choice.{Choice, Choice-F, roll-Choice, map-Choice}
use Rattle.sv_types.specs.declared.expression.Choice.TheVariants as C

-- each of a list
abbrev pub Each : {A : Type 0} → (A → Type 0) → List A → Type 0
Each P [] = Unit {0}
Each P (x ∷ xs) = P x × Each P xs

-- what each form of an expression needs
pub record Steps (P : Choice → Type 0) (Q : Form → Type 0) (R : Expr → Type 0) : Type 0 where
  pub value : (e : Expr) → R e → P (C.Value e)
  pub range : (low high : Expr) → R low → R high → P (C.Range low high)
  pub expr : (e : Expr) → Q e.form → R e
  pub literal : (v : List Bit4) (goes_on : Bool) → Q (V.Literal v goes_on)
  pub fill : (b : Bit4) → Q (V.Fill b)
  pub constant : (v : Value) → Q (V.Constant v)
  pub signal : (n : ℕ) → Q (V.Signal n)
  pub local : (n : ℕ) → Q (V.Local n)
  pub member : (e : Expr) (k : ℕ) → R e → Q (V.Member e k)
  pub index : (e i : Expr) → R e → R i → Q (V.Index e i)
  pub part_select : (e : Expr) (left right : ℤ) → R e → Q (V.Part e left right)
  pub sliding : (e i : Expr) (n : ℕ) (up : Bool) → R e → R i → Q (V.Slide e i n up)
  pub unary : (op : UnOp) (e : Expr) → R e → Q (V.Unary op e)
  pub reduce : (op : RedOp) (e : Expr) → R e → Q (V.Reduce op e)
  pub negate : (e : Expr) → R e → Q (V.Negate e)
  pub binary : (op : BinOp) (a b : Expr) → R a → R b → Q (V.Binary op a b)
  pub shift : (op : ShiftOp) (a b : Expr) → R a → R b → Q (V.Shift op a b)
  pub power : (a b : Expr) → R a → R b → Q (V.Power a b)
  pub order : (op : OrdOp) (a b : Expr) → R a → R b → Q (V.Order op a b)
  pub equal : (op : EqOp) (negated : Bool) (a b : Expr) → R a → R b → Q (V.Equal op negated a b)
  pub both : (a b : Expr) → R a → R b → Q (V.Both a b)
  pub either : (a b : Expr) → R a → R b → Q (V.Either a b)
  pub choose : (on a b : Expr) → R on → R a → R b → Q (V.Choose on a b)
  pub concat : (es : List Expr) → Each R es → Q (V.Concat es)
  pub repeat : (n : ℕ) (es : List Expr) → Each R es → Q (V.Repeat n es)
  pub inside : (e : Expr) (cs : List Choice) → R e → Each P cs → Q (V.Inside e cs)
  pub cast : (e : Expr) → R e → Q (V.Cast e)
  pub clog2 : (e : Expr) → R e → Q (V.Clog2 e)
  pub pattern : (es : List Expr) → Each R es → Q (V.Pattern es)
  pub call : (f : ℕ) (es : List Expr) → Each R es → Q (V.Call f es)
  pub stream : (reversed : Bool) (n : ℕ) (es : List Expr) → Each R es → Q (V.Stream reversed n es)

module _ (P : Choice → Type 0) (Q : Form → Type 0) (R : Expr → Type 0) (steps : Steps P Q R) where
  abbrev AChoice : Type 0
  AChoice = (x : Choice) × P x

  abbrev AForm : Type 0
  AForm = (x : Form) × Q x

  abbrev AnExpr : Type 0
  AnExpr = (x : Expr) × R x

  each-choice : (ys : List AChoice) → Each P (map (λ e. e.0) ys)
  each-choice [] = tt
  each-choice (y ∷ ys) = (y.1, each-choice ys)

  each-expr : (ys : List AnExpr) → Each R (map (λ e. e.0) ys)
  each-expr [] = tt
  each-expr (y ∷ ys) = (y.1, each-expr ys)

  choice-level : (y : Choice-F AChoice AForm AnExpr) → P (roll-Choice (map-Choice AChoice AForm AnExpr Choice Form Expr (λ e. e.0) (λ e. e.0) (λ e. e.0) y))
  choice-level (Choice-F.Value e) = subst P (sym (C.rolls-Value e.0)) (steps.value e.0 e.1)
  choice-level (Choice-F.Range low high) = subst P (sym (C.rolls-Range low.0 high.0)) (steps.range low.0 high.0 low.1 high.1)

  form-level : (y : Form-F AChoice AForm AnExpr) → Q (roll-Form (map-Form AChoice AForm AnExpr Choice Form Expr (λ e. e.0) (λ e. e.0) (λ e. e.0) y))
  form-level (Form-F.Literal v goes_on) = subst Q (sym (V.rolls-Literal v goes_on)) (steps.literal v goes_on)
  form-level (Form-F.Fill b) = subst Q (sym (V.rolls-Fill b)) (steps.fill b)
  form-level (Form-F.Constant v) = subst Q (sym (V.rolls-Constant v)) (steps.constant v)
  form-level (Form-F.Signal n) = subst Q (sym (V.rolls-Signal n)) (steps.signal n)
  form-level (Form-F.Local n) = subst Q (sym (V.rolls-Local n)) (steps.local n)
  form-level (Form-F.Member e k) = subst Q (sym (V.rolls-Member e.0 k)) (steps.member e.0 k e.1)
  form-level (Form-F.Index e i) = subst Q (sym (V.rolls-Index e.0 i.0)) (steps.index e.0 i.0 e.1 i.1)
  form-level (Form-F.Part e left right) = subst Q (sym (V.rolls-Part e.0 left right)) (steps.part_select e.0 left right e.1)
  form-level (Form-F.Slide e i n up) = subst Q (sym (V.rolls-Slide e.0 i.0 n up)) (steps.sliding e.0 i.0 n up e.1 i.1)
  form-level (Form-F.Unary op e) = subst Q (sym (V.rolls-Unary op e.0)) (steps.unary op e.0 e.1)
  form-level (Form-F.Reduce op e) = subst Q (sym (V.rolls-Reduce op e.0)) (steps.reduce op e.0 e.1)
  form-level (Form-F.Negate e) = subst Q (sym (V.rolls-Negate e.0)) (steps.negate e.0 e.1)
  form-level (Form-F.Binary op a b) = subst Q (sym (V.rolls-Binary op a.0 b.0)) (steps.binary op a.0 b.0 a.1 b.1)
  form-level (Form-F.Shift op a b) = subst Q (sym (V.rolls-Shift op a.0 b.0)) (steps.shift op a.0 b.0 a.1 b.1)
  form-level (Form-F.Power a b) = subst Q (sym (V.rolls-Power a.0 b.0)) (steps.power a.0 b.0 a.1 b.1)
  form-level (Form-F.Order op a b) = subst Q (sym (V.rolls-Order op a.0 b.0)) (steps.order op a.0 b.0 a.1 b.1)
  form-level (Form-F.Equal op negated a b) = subst Q (sym (V.rolls-Equal op negated a.0 b.0)) (steps.equal op negated a.0 b.0 a.1 b.1)
  form-level (Form-F.Both a b) = subst Q (sym (V.rolls-Both a.0 b.0)) (steps.both a.0 b.0 a.1 b.1)
  form-level (Form-F.Either a b) = subst Q (sym (V.rolls-Either a.0 b.0)) (steps.either a.0 b.0 a.1 b.1)
  form-level (Form-F.Choose on a b) = subst Q (sym (V.rolls-Choose on.0 a.0 b.0)) (steps.choose on.0 a.0 b.0 on.1 a.1 b.1)
  form-level (Form-F.Concat es) = subst Q (sym (V.rolls-Concat (map (λ e. e.0) es))) (steps.concat (map (λ e. e.0) es) (each-expr es))
  form-level (Form-F.Repeat n es) = subst Q (sym (V.rolls-Repeat n (map (λ e. e.0) es))) (steps.repeat n (map (λ e. e.0) es) (each-expr es))
  form-level (Form-F.Inside e cs) = subst Q (sym (V.rolls-Inside e.0 (map (λ c. c.0) cs))) (steps.inside e.0 (map (λ c. c.0) cs) e.1 (each-choice cs))
  form-level (Form-F.Cast e) = subst Q (sym (V.rolls-Cast e.0)) (steps.cast e.0 e.1)
  form-level (Form-F.Clog2 e) = subst Q (sym (V.rolls-Clog2 e.0)) (steps.clog2 e.0 e.1)
  form-level (Form-F.Pattern es) = subst Q (sym (V.rolls-Pattern (map (λ e. e.0) es))) (steps.pattern (map (λ e. e.0) es) (each-expr es))
  form-level (Form-F.Call f es) = subst Q (sym (V.rolls-Call f (map (λ e. e.0) es))) (steps.call f (map (λ e. e.0) es) (each-expr es))
  form-level (Form-F.Stream reversed n es) =
      subst Q (sym (V.rolls-Stream reversed n (map (λ e. e.0) es))) (steps.stream reversed n (map (λ e. e.0) es) (each-expr es))

  expr-level : (y : Expr-F AChoice AForm AnExpr) → R (roll-Expr (map-Expr AChoice AForm AnExpr Choice Form Expr (λ e. e.0) (λ e. e.0) (λ e. e.0) y))
  expr-level y = steps.expr (roll-Expr (map-Expr AChoice AForm AnExpr Choice Form Expr (λ e. e.0) (λ e. e.0) (λ e. e.0) y)) y.form.1

  pub by-form : (x : Form) → Q x
  by-form =
      ind-Form P Q R (λ x y is. subst (λ z. P (roll-Choice z)) is (choice-level y)) (λ x y is. subst (λ z. Q (roll-Form z)) is (form-level y)) (λ x y is. subst (λ z. R (roll-Expr z)) is (expr-level y))

  pub by-expr : (x : Expr) → R x
  by-expr =
      ind-Expr P Q R (λ x y is. subst (λ z. P (roll-Choice z)) is (choice-level y)) (λ x y is. subst (λ z. Q (roll-Form z)) is (form-level y)) (λ x y is. subst (λ z. R (roll-Expr z)) is (expr-level y))
