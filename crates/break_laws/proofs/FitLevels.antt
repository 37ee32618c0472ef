-- Which expressions name signals and locals with all their bits, one level at a time.
use Rattle.std.proofs.Common.{◌≡◌, ℕ, Bool, ◌&&◌, ℤ, List, map, rules}
use Rattle.b4_core.specs.declared.bit.Bit4.{Bit4}
use Rattle.b4_core.specs.declared.operators.UnOp.{UnOp}
use Rattle.b4_core.specs.declared.operators.BinOp.{BinOp}
use Rattle.b4_core.specs.declared.operators.RedOp.{RedOp}
use Rattle.b4_core.specs.declared.operators.ShiftOp.{ShiftOp}
use Rattle.b4_core.specs.declared.operators.OrdOp.{OrdOp}
use Rattle.b4_core.specs.declared.operators.EqOp.{EqOp}
use Rattle.sv_types.specs.declared.types.Value.{Value}
use Rattle.sv_types.specs.declared.expression.Expr.{Expr}
use Rattle.sv_types.specs.declared.expression.Form.{Form, Form-F, fold-Form, the_lemmas}
use Rattle.sv_types.specs.declared.expression.Form.TheVariants as V
use Rattle.sv_types.specs.declared.expression.Choice.{Choice, fold-Choice}
use Rattle.sv_types.specs.declared.expression.Choice.TheVariants as C
use Rattle.sv_types.specs.Layouts.{width_of}
use Rattle.break_laws.specs.Widths.{Widths, expr_fits, choice_step, form_step, expr_step}

module _ (widths : Widths) where
  abbrev fit : Expr → Bool
  fit = expr_fits widths

  abbrev pub form_fits : Form → ℕ → Bool
  form_fits = fold-Form Bool (ℕ → Bool) Bool (choice_step widths) (form_step widths) (expr_step widths)

  abbrev pub choice_fits : Choice → Bool
  choice_fits = fold-Choice Bool (ℕ → Bool) Bool (choice_step widths) (form_step widths) (expr_step widths)

  pub expr-form : (e : Expr) → fit e ≡ form_fits e.form (width_of e.of)
  expr-form e = search (rules, the_lemmas)

  pub only : (e : Expr) → choice_fits (C.Value e) ≡ fit e
  only e = search (rules, the_lemmas)

  pub from-to : (a b : Expr) → choice_fits (C.Range a b) ≡ (fit a && fit b)
  from-to a b = search (rules, the_lemmas)

  pub form-Literal : (v : List Bit4) (goes_on : Bool) → form_fits (V.Literal v goes_on) ≡ form_step widths (Form-F.Literal v goes_on)
  form-Literal v goes_on = search (rules, the_lemmas)

  pub form-Fill : (b : Bit4) → form_fits (V.Fill b) ≡ form_step widths (Form-F.Fill b)
  form-Fill b = search (rules, the_lemmas)

  pub form-Constant : (v : Value) → form_fits (V.Constant v) ≡ form_step widths (Form-F.Constant v)
  form-Constant v = search (rules, the_lemmas)

  pub form-Signal : (n : ℕ) → form_fits (V.Signal n) ≡ form_step widths (Form-F.Signal n)
  form-Signal n = search (rules, the_lemmas)

  pub form-Local : (n : ℕ) → form_fits (V.Local n) ≡ form_step widths (Form-F.Local n)
  form-Local n = search (rules, the_lemmas)

  pub form-Member : (e : Expr) (k : ℕ) → form_fits (V.Member e k) ≡ form_step widths (Form-F.Member (fit e) k)
  form-Member e k = search (rules, the_lemmas)

  pub form-Index : (e i : Expr) → form_fits (V.Index e i) ≡ form_step widths (Form-F.Index (fit e) (fit i))
  form-Index e i = search (rules, the_lemmas)

  pub form-Part : (e : Expr) (left right : ℤ) → form_fits (V.Part e left right) ≡ form_step widths (Form-F.Part (fit e) left right)
  form-Part e left right = search (rules, the_lemmas)

  pub form-Slide : (e i : Expr) (n : ℕ) (up : Bool) → form_fits (V.Slide e i n up) ≡ form_step widths (Form-F.Slide (fit e) (fit i) n up)
  form-Slide e i n up = search (rules, the_lemmas)

  pub form-Unary : (op : UnOp) (e : Expr) → form_fits (V.Unary op e) ≡ form_step widths (Form-F.Unary op (fit e))
  form-Unary op e = search (rules, the_lemmas)

  pub form-Reduce : (op : RedOp) (e : Expr) → form_fits (V.Reduce op e) ≡ form_step widths (Form-F.Reduce op (fit e))
  form-Reduce op e = search (rules, the_lemmas)

  pub form-Negate : (e : Expr) → form_fits (V.Negate e) ≡ form_step widths (Form-F.Negate (fit e))
  form-Negate e = search (rules, the_lemmas)

  pub form-Binary : (op : BinOp) (a b : Expr) → form_fits (V.Binary op a b) ≡ form_step widths (Form-F.Binary op (fit a) (fit b))
  form-Binary op a b = search (rules, the_lemmas)

  pub form-Shift : (op : ShiftOp) (a b : Expr) → form_fits (V.Shift op a b) ≡ form_step widths (Form-F.Shift op (fit a) (fit b))
  form-Shift op a b = search (rules, the_lemmas)

  pub form-Power : (a b : Expr) → form_fits (V.Power a b) ≡ form_step widths (Form-F.Power (fit a) (fit b))
  form-Power a b = search (rules, the_lemmas)

  pub form-Order : (op : OrdOp) (a b : Expr) → form_fits (V.Order op a b) ≡ form_step widths (Form-F.Order op (fit a) (fit b))
  form-Order op a b = search (rules, the_lemmas)

  pub form-Equal : (op : EqOp) (negated : Bool) (a b : Expr) → form_fits (V.Equal op negated a b) ≡ form_step widths (Form-F.Equal op negated (fit a) (fit b))
  form-Equal op negated a b = search (rules, the_lemmas)

  pub form-Both : (a b : Expr) → form_fits (V.Both a b) ≡ form_step widths (Form-F.Both (fit a) (fit b))
  form-Both a b = search (rules, the_lemmas)

  pub form-Either : (a b : Expr) → form_fits (V.Either a b) ≡ form_step widths (Form-F.Either (fit a) (fit b))
  form-Either a b = search (rules, the_lemmas)

  pub form-Choose : (on a b : Expr) → form_fits (V.Choose on a b) ≡ form_step widths (Form-F.Choose (fit on) (fit a) (fit b))
  form-Choose on a b = search (rules, the_lemmas)

  pub form-Concat : (es : List Expr) → form_fits (V.Concat es) ≡ form_step widths (Form-F.Concat (map fit es))
  form-Concat es = search (rules, the_lemmas)

  pub form-Repeat : (n : ℕ) (es : List Expr) → form_fits (V.Repeat n es) ≡ form_step widths (Form-F.Repeat n (map fit es))
  form-Repeat n es = search (rules, the_lemmas)

  pub form-Inside : (e : Expr) (cs : List Choice) → form_fits (V.Inside e cs) ≡ form_step widths (Form-F.Inside (fit e) (map choice_fits cs))
  form-Inside e cs = search (rules, the_lemmas)

  pub form-Cast : (e : Expr) → form_fits (V.Cast e) ≡ form_step widths (Form-F.Cast (fit e))
  form-Cast e = search (rules, the_lemmas)

  pub form-Clog2 : (e : Expr) → form_fits (V.Clog2 e) ≡ form_step widths (Form-F.Clog2 (fit e))
  form-Clog2 e = search (rules, the_lemmas)

  pub form-Pattern : (es : List Expr) → form_fits (V.Pattern es) ≡ form_step widths (Form-F.Pattern (map fit es))
  form-Pattern es = search (rules, the_lemmas)

  pub form-Call : (f : ℕ) (es : List Expr) → form_fits (V.Call f es) ≡ form_step widths (Form-F.Call f (map fit es))
  form-Call f es = search (rules, the_lemmas)

  pub form-Stream : (reversed : Bool) (n : ℕ) (es : List Expr) → form_fits (V.Stream reversed n es) ≡ form_step widths (Form-F.Stream reversed n (map fit es))
  form-Stream reversed n es = search (rules, the_lemmas)
