-- Folds over expressions, one level at a time.
use Rattle.std.proofs.Common.{◌≡◌, ℕ, Bool, ℤ, List, map, rules}
use Rattle.b4_core.specs.declared.bit.Bit4.{Bit4}
use Rattle.b4_core.specs.declared.operators.UnOp.{UnOp}
use Rattle.b4_core.specs.declared.operators.BinOp.{BinOp}
use Rattle.b4_core.specs.declared.operators.RedOp.{RedOp}
use Rattle.b4_core.specs.declared.operators.ShiftOp.{ShiftOp}
use Rattle.b4_core.specs.declared.operators.OrdOp.{OrdOp}
use Rattle.b4_core.specs.declared.operators.EqOp.{EqOp}
use Rattle.sv_types.specs.declared.types.Value.{Value}
use Rattle.sv_types.specs.declared.expression.Expr.{Expr, Expr-F, fold-Expr}
use Rattle.sv_types.specs.declared.expression.Form.{Form, Form-F, fold-Form, the_lemmas}
use Rattle.sv_types.specs.declared.expression.Form.TheVariants as V
use Rattle.sv_types.specs.declared.expression.Choice.{Choice, Choice-F, fold-Choice}
use Rattle.sv_types.specs.declared.expression.Choice.TheVariants as C

module _ (A B D : Type 0) (on_choice : Choice-F A B D → A) (on_form : Form-F A B D → B) (on_expr : Expr-F A B D → D) where
  abbrev pub folded : Expr → D
  folded = fold-Expr A B D on_choice on_form on_expr

  abbrev pub formed : Form → B
  formed = fold-Form A B D on_choice on_form on_expr

  abbrev pub chosen : Choice → A
  chosen = fold-Choice A B D on_choice on_form on_expr

  pub expr-folded : (e : Expr) → folded e ≡ on_expr (record { of = e.of; spot = e.spot; form = formed e.form })
  expr-folded e = search (rules, the_lemmas)

  pub only : (e : Expr) → chosen (C.Value e) ≡ on_choice (Choice-F.Value (folded e))
  only e = search (rules, the_lemmas)

  pub from-to : (a b : Expr) → chosen (C.Range a b) ≡ on_choice (Choice-F.Range (folded a) (folded b))
  from-to a b = search (rules, the_lemmas)

  pub form-Literal : (v : List Bit4) (goes_on : Bool) → formed (V.Literal v goes_on) ≡ on_form (Form-F.Literal v goes_on)
  form-Literal v goes_on = search (rules, the_lemmas)

  pub form-Fill : (b : Bit4) → formed (V.Fill b) ≡ on_form (Form-F.Fill b)
  form-Fill b = search (rules, the_lemmas)

  pub form-Constant : (v : Value) → formed (V.Constant v) ≡ on_form (Form-F.Constant v)
  form-Constant v = search (rules, the_lemmas)

  pub form-Signal : (n : ℕ) → formed (V.Signal n) ≡ on_form (Form-F.Signal n)
  form-Signal n = search (rules, the_lemmas)

  pub form-Local : (n : ℕ) → formed (V.Local n) ≡ on_form (Form-F.Local n)
  form-Local n = search (rules, the_lemmas)

  pub form-Member : (e : Expr) (k : ℕ) → formed (V.Member e k) ≡ on_form (Form-F.Member (folded e) k)
  form-Member e k = search (rules, the_lemmas)

  pub form-Index : (e i : Expr) → formed (V.Index e i) ≡ on_form (Form-F.Index (folded e) (folded i))
  form-Index e i = search (rules, the_lemmas)

  pub form-Part : (e : Expr) (left right : ℤ) → formed (V.Part e left right) ≡ on_form (Form-F.Part (folded e) left right)
  form-Part e left right = search (rules, the_lemmas)

  pub form-Slide : (e i : Expr) (n : ℕ) (up : Bool) → formed (V.Slide e i n up) ≡ on_form (Form-F.Slide (folded e) (folded i) n up)
  form-Slide e i n up = search (rules, the_lemmas)

  pub form-Unary : (op : UnOp) (e : Expr) → formed (V.Unary op e) ≡ on_form (Form-F.Unary op (folded e))
  form-Unary op e = search (rules, the_lemmas)

  pub form-Reduce : (op : RedOp) (e : Expr) → formed (V.Reduce op e) ≡ on_form (Form-F.Reduce op (folded e))
  form-Reduce op e = search (rules, the_lemmas)

  pub form-Negate : (e : Expr) → formed (V.Negate e) ≡ on_form (Form-F.Negate (folded e))
  form-Negate e = search (rules, the_lemmas)

  pub form-Binary : (op : BinOp) (a b : Expr) → formed (V.Binary op a b) ≡ on_form (Form-F.Binary op (folded a) (folded b))
  form-Binary op a b = search (rules, the_lemmas)

  pub form-Shift : (op : ShiftOp) (a b : Expr) → formed (V.Shift op a b) ≡ on_form (Form-F.Shift op (folded a) (folded b))
  form-Shift op a b = search (rules, the_lemmas)

  pub form-Power : (a b : Expr) → formed (V.Power a b) ≡ on_form (Form-F.Power (folded a) (folded b))
  form-Power a b = search (rules, the_lemmas)

  pub form-Order : (op : OrdOp) (a b : Expr) → formed (V.Order op a b) ≡ on_form (Form-F.Order op (folded a) (folded b))
  form-Order op a b = search (rules, the_lemmas)

  pub form-Equal : (op : EqOp) (negated : Bool) (a b : Expr) → formed (V.Equal op negated a b) ≡ on_form (Form-F.Equal op negated (folded a) (folded b))
  form-Equal op negated a b = search (rules, the_lemmas)

  pub form-Both : (a b : Expr) → formed (V.Both a b) ≡ on_form (Form-F.Both (folded a) (folded b))
  form-Both a b = search (rules, the_lemmas)

  pub form-Either : (a b : Expr) → formed (V.Either a b) ≡ on_form (Form-F.Either (folded a) (folded b))
  form-Either a b = search (rules, the_lemmas)

  pub form-Choose : (on a b : Expr) → formed (V.Choose on a b) ≡ on_form (Form-F.Choose (folded on) (folded a) (folded b))
  form-Choose on a b = search (rules, the_lemmas)

  pub form-Concat : (es : List Expr) → formed (V.Concat es) ≡ on_form (Form-F.Concat (map folded es))
  form-Concat es = search (rules, the_lemmas)

  pub form-Repeat : (n : ℕ) (es : List Expr) → formed (V.Repeat n es) ≡ on_form (Form-F.Repeat n (map folded es))
  form-Repeat n es = search (rules, the_lemmas)

  pub form-Inside : (e : Expr) (cs : List Choice) → formed (V.Inside e cs) ≡ on_form (Form-F.Inside (folded e) (map chosen cs))
  form-Inside e cs = search (rules, the_lemmas)

  pub form-Cast : (e : Expr) → formed (V.Cast e) ≡ on_form (Form-F.Cast (folded e))
  form-Cast e = search (rules, the_lemmas)

  pub form-Clog2 : (e : Expr) → formed (V.Clog2 e) ≡ on_form (Form-F.Clog2 (folded e))
  form-Clog2 e = search (rules, the_lemmas)

  pub form-Pattern : (es : List Expr) → formed (V.Pattern es) ≡ on_form (Form-F.Pattern (map folded es))
  form-Pattern es = search (rules, the_lemmas)

  pub form-Call : (f : ℕ) (es : List Expr) → formed (V.Call f es) ≡ on_form (Form-F.Call f (map folded es))
  form-Call f es = search (rules, the_lemmas)

  pub form-Stream : (reversed : Bool) (n : ℕ) (es : List Expr) → formed (V.Stream reversed n es) ≡ on_form (Form-F.Stream reversed n (map folded es))
  form-Stream reversed n es = search (rules, the_lemmas)
