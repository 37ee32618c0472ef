-- Whether calls pass no more than there are formals, one level at a time.
use Rattle.std.proofs.Common.{◌≡◌, ℕ, Bool, ◌&&◌, ℤ, List, map, length, ap, ◌∙◌, rules}
use Rattle.std.specs.Prelude.{nat_le}
use Rattle.b4_core.specs.declared.operators.UnOp.{UnOp}
use Rattle.b4_core.specs.declared.operators.BinOp.{BinOp}
use Rattle.b4_core.specs.declared.operators.RedOp.{RedOp}
use Rattle.b4_core.specs.declared.operators.ShiftOp.{ShiftOp}
use Rattle.b4_core.specs.declared.operators.OrdOp.{OrdOp}
use Rattle.b4_core.specs.declared.operators.EqOp.{EqOp}
use Rattle.sv_types.specs.declared.expression.Expr.{Expr}
use Rattle.sv_types.specs.declared.expression.Choice.{Choice, fold-Choice}
use Rattle.sv_types.specs.declared.expression.Choice.TheVariants as C
use Rattle.sv_types.specs.declared.expression.Form.{Form, fold-Form, the_lemmas}
use Rattle.sv_types.specs.declared.expression.Form.TheVariants as V
use Rattle.sv_types.specs.Surroundings.{Parameter}
use Rattle.expr_flows.specs.Full.{is_full, every, choice_step, form_step, expr_step}

abbrev pub form_full : (ℕ → List Parameter) → Form → Bool
form_full fs = fold-Form Bool Bool Bool choice_step (form_step fs) expr_step

abbrev pub choice_full : (ℕ → List Parameter) → Choice → Bool
choice_full fs = fold-Choice Bool Bool Bool choice_step (form_step fs) expr_step

full-form : (fs : ℕ → List Parameter) (e : Expr) → is_full fs e ≡ form_full fs e.form
full-form fs e = search (rules, the_lemmas)

full-at : (fs : ℕ → List Parameter) (e : Expr) (f : Form) (b : Bool) → e.form ≡ f → form_full fs f ≡ b → is_full fs e ≡ b
full-at fs e f b is level = full-form fs e ∙ ap (form_full fs) is ∙ level

pub full-value : (fs : ℕ → List Parameter) (v : Expr) → choice_full fs (C.Value v) ≡ is_full fs v
full-value fs v = search (rules, the_lemmas)

pub full-range : (fs : ℕ → List Parameter) (low high : Expr) → choice_full fs (C.Range low high) ≡ (is_full fs low && is_full fs high)
full-range fs low high = search (rules, the_lemmas)

form-Unary : (fs : ℕ → List Parameter) (op : UnOp) (x : Expr) → form_full fs (V.Unary op x) ≡ (is_full fs x)
form-Unary fs op x = search (rules, the_lemmas)

pub full-Unary : (fs : ℕ → List Parameter) (e : Expr) (op : UnOp) (x : Expr) → e.form ≡ V.Unary op x → is_full fs e ≡ (is_full fs x)
full-Unary fs e op x is = full-at fs e (V.Unary op x) (is_full fs x) is (form-Unary fs op x)

form-Reduce : (fs : ℕ → List Parameter) (op : RedOp) (x : Expr) → form_full fs (V.Reduce op x) ≡ (is_full fs x)
form-Reduce fs op x = search (rules, the_lemmas)

pub full-Reduce : (fs : ℕ → List Parameter) (e : Expr) (op : RedOp) (x : Expr) → e.form ≡ V.Reduce op x → is_full fs e ≡ (is_full fs x)
full-Reduce fs e op x is = full-at fs e (V.Reduce op x) (is_full fs x) is (form-Reduce fs op x)

form-Negate : (fs : ℕ → List Parameter) (x : Expr) → form_full fs (V.Negate x) ≡ (is_full fs x)
form-Negate fs x = search (rules, the_lemmas)

pub full-Negate : (fs : ℕ → List Parameter) (e : Expr) (x : Expr) → e.form ≡ V.Negate x → is_full fs e ≡ (is_full fs x)
full-Negate fs e x is = full-at fs e (V.Negate x) (is_full fs x) is (form-Negate fs x)

form-Binary : (fs : ℕ → List Parameter) (op : BinOp) (x : Expr) (y : Expr) → form_full fs (V.Binary op x y) ≡ (is_full fs x && is_full fs y)
form-Binary fs op x y = search (rules, the_lemmas)

pub full-Binary : (fs : ℕ → List Parameter) (e : Expr) (op : BinOp) (x : Expr) (y : Expr) → e.form ≡ V.Binary op x y → is_full fs e ≡ (is_full fs x && is_full fs y)
full-Binary fs e op x y is = full-at fs e (V.Binary op x y) (is_full fs x && is_full fs y) is (form-Binary fs op x y)

form-Shift : (fs : ℕ → List Parameter) (op : ShiftOp) (x : Expr) (y : Expr) → form_full fs (V.Shift op x y) ≡ (is_full fs x && is_full fs y)
form-Shift fs op x y = search (rules, the_lemmas)

pub full-Shift : (fs : ℕ → List Parameter) (e : Expr) (op : ShiftOp) (x : Expr) (y : Expr) → e.form ≡ V.Shift op x y → is_full fs e ≡ (is_full fs x && is_full fs y)
full-Shift fs e op x y is = full-at fs e (V.Shift op x y) (is_full fs x && is_full fs y) is (form-Shift fs op x y)

form-Power : (fs : ℕ → List Parameter) (x : Expr) (y : Expr) → form_full fs (V.Power x y) ≡ (is_full fs x && is_full fs y)
form-Power fs x y = search (rules, the_lemmas)

pub full-Power : (fs : ℕ → List Parameter) (e : Expr) (x : Expr) (y : Expr) → e.form ≡ V.Power x y → is_full fs e ≡ (is_full fs x && is_full fs y)
full-Power fs e x y is = full-at fs e (V.Power x y) (is_full fs x && is_full fs y) is (form-Power fs x y)

form-Order : (fs : ℕ → List Parameter) (op : OrdOp) (x : Expr) (y : Expr) → form_full fs (V.Order op x y) ≡ (is_full fs x && is_full fs y)
form-Order fs op x y = search (rules, the_lemmas)

pub full-Order : (fs : ℕ → List Parameter) (e : Expr) (op : OrdOp) (x : Expr) (y : Expr) → e.form ≡ V.Order op x y → is_full fs e ≡ (is_full fs x && is_full fs y)
full-Order fs e op x y is = full-at fs e (V.Order op x y) (is_full fs x && is_full fs y) is (form-Order fs op x y)

form-Equal : (fs : ℕ → List Parameter) (op : EqOp) (negated : Bool) (x : Expr) (y : Expr) → form_full fs (V.Equal op negated x y) ≡ (is_full fs x && is_full fs y)
form-Equal fs op negated x y = search (rules, the_lemmas)

pub full-Equal : (fs : ℕ → List Parameter) (e : Expr) (op : EqOp) (negated : Bool) (x : Expr) (y : Expr) → e.form ≡ V.Equal op negated x y → is_full fs e ≡ (is_full fs x && is_full fs y)
full-Equal fs e op negated x y is = full-at fs e (V.Equal op negated x y) (is_full fs x && is_full fs y) is (form-Equal fs op negated x y)

form-Both : (fs : ℕ → List Parameter) (x : Expr) (y : Expr) → form_full fs (V.Both x y) ≡ (is_full fs x && is_full fs y)
form-Both fs x y = search (rules, the_lemmas)

pub full-Both : (fs : ℕ → List Parameter) (e : Expr) (x : Expr) (y : Expr) → e.form ≡ V.Both x y → is_full fs e ≡ (is_full fs x && is_full fs y)
full-Both fs e x y is = full-at fs e (V.Both x y) (is_full fs x && is_full fs y) is (form-Both fs x y)

form-Either : (fs : ℕ → List Parameter) (x : Expr) (y : Expr) → form_full fs (V.Either x y) ≡ (is_full fs x && is_full fs y)
form-Either fs x y = search (rules, the_lemmas)

pub full-Either : (fs : ℕ → List Parameter) (e : Expr) (x : Expr) (y : Expr) → e.form ≡ V.Either x y → is_full fs e ≡ (is_full fs x && is_full fs y)
full-Either fs e x y is = full-at fs e (V.Either x y) (is_full fs x && is_full fs y) is (form-Either fs x y)

form-Choose : (fs : ℕ → List Parameter) (z : Expr) (x : Expr) (y : Expr) → form_full fs (V.Choose z x y) ≡ (is_full fs z && (is_full fs x && is_full fs y))
form-Choose fs z x y = search (rules, the_lemmas)

pub full-Choose : (fs : ℕ → List Parameter) (e : Expr) (z : Expr) (x : Expr) (y : Expr) → e.form ≡ V.Choose z x y → is_full fs e ≡ (is_full fs z && (is_full fs x && is_full fs y))
full-Choose fs e z x y is = full-at fs e (V.Choose z x y) (is_full fs z && (is_full fs x && is_full fs y)) is (form-Choose fs z x y)

form-Cast : (fs : ℕ → List Parameter) (x : Expr) → form_full fs (V.Cast x) ≡ (is_full fs x)
form-Cast fs x = search (rules, the_lemmas)

pub full-Cast : (fs : ℕ → List Parameter) (e : Expr) (x : Expr) → e.form ≡ V.Cast x → is_full fs e ≡ (is_full fs x)
full-Cast fs e x is = full-at fs e (V.Cast x) (is_full fs x) is (form-Cast fs x)

form-Clog2 : (fs : ℕ → List Parameter) (x : Expr) → form_full fs (V.Clog2 x) ≡ (is_full fs x)
form-Clog2 fs x = search (rules, the_lemmas)

pub full-Clog2 : (fs : ℕ → List Parameter) (e : Expr) (x : Expr) → e.form ≡ V.Clog2 x → is_full fs e ≡ (is_full fs x)
full-Clog2 fs e x is = full-at fs e (V.Clog2 x) (is_full fs x) is (form-Clog2 fs x)

form-Concat : (fs : ℕ → List Parameter) (es : List Expr) → form_full fs (V.Concat es) ≡ (every (map (is_full fs) es))
form-Concat fs es = search (rules, the_lemmas)

pub full-Concat : (fs : ℕ → List Parameter) (e : Expr) (es : List Expr) → e.form ≡ V.Concat es → is_full fs e ≡ (every (map (is_full fs) es))
full-Concat fs e es is = full-at fs e (V.Concat es) (every (map (is_full fs) es)) is (form-Concat fs es)

form-Repeat : (fs : ℕ → List Parameter) (n : ℕ) (es : List Expr) → form_full fs (V.Repeat n es) ≡ (every (map (is_full fs) es))
form-Repeat fs n es = search (rules, the_lemmas)

pub full-Repeat : (fs : ℕ → List Parameter) (e : Expr) (n : ℕ) (es : List Expr) → e.form ≡ V.Repeat n es → is_full fs e ≡ (every (map (is_full fs) es))
full-Repeat fs e n es is = full-at fs e (V.Repeat n es) (every (map (is_full fs) es)) is (form-Repeat fs n es)

form-Stream : (fs : ℕ → List Parameter) (reversed : Bool) (n : ℕ) (es : List Expr) → form_full fs (V.Stream reversed n es) ≡ (every (map (is_full fs) es))
form-Stream fs reversed n es = search (rules, the_lemmas)

pub full-Stream : (fs : ℕ → List Parameter) (e : Expr) (reversed : Bool) (n : ℕ) (es : List Expr) → e.form ≡ V.Stream reversed n es → is_full fs e ≡ (every (map (is_full fs) es))
full-Stream fs e reversed n es is = full-at fs e (V.Stream reversed n es) (every (map (is_full fs) es)) is (form-Stream fs reversed n es)

form-Pattern : (fs : ℕ → List Parameter) (es : List Expr) → form_full fs (V.Pattern es) ≡ (every (map (is_full fs) es))
form-Pattern fs es = search (rules, the_lemmas)

pub full-Pattern : (fs : ℕ → List Parameter) (e : Expr) (es : List Expr) → e.form ≡ V.Pattern es → is_full fs e ≡ (every (map (is_full fs) es))
full-Pattern fs e es is = full-at fs e (V.Pattern es) (every (map (is_full fs) es)) is (form-Pattern fs es)

form-Call : (fs : ℕ → List Parameter) (f : ℕ) (es : List Expr) → form_full fs (V.Call f es) ≡ (nat_le (length (map (is_full fs) es)) (length (fs f)) && every (map (is_full fs) es))
form-Call fs f es = search (rules, the_lemmas)

pub full-Call : (fs : ℕ → List Parameter) (e : Expr) (f : ℕ) (es : List Expr) → e.form ≡ V.Call f es → is_full fs e ≡ (nat_le (length (map (is_full fs) es)) (length (fs f)) && every (map (is_full fs) es))
full-Call fs e f es is = full-at fs e (V.Call f es) (nat_le (length (map (is_full fs) es)) (length (fs f)) && every (map (is_full fs) es)) is (form-Call fs f es)

form-Inside : (fs : ℕ → List Parameter) (x : Expr) (cs : List Choice) → form_full fs (V.Inside x cs) ≡ (is_full fs x && every (map (choice_full fs) cs))
form-Inside fs x cs = search (rules, the_lemmas)

pub full-Inside : (fs : ℕ → List Parameter) (e : Expr) (x : Expr) (cs : List Choice) → e.form ≡ V.Inside x cs → is_full fs e ≡ (is_full fs x && every (map (choice_full fs) cs))
full-Inside fs e x cs is = full-at fs e (V.Inside x cs) (is_full fs x && every (map (choice_full fs) cs)) is (form-Inside fs x cs)

form-Member : (fs : ℕ → List Parameter) (x : Expr) (k : ℕ) → form_full fs (V.Member x k) ≡ (is_full fs x)
form-Member fs x k = search (rules, the_lemmas)

pub full-Member : (fs : ℕ → List Parameter) (e : Expr) (x : Expr) (k : ℕ) → e.form ≡ V.Member x k → is_full fs e ≡ (is_full fs x)
full-Member fs e x k is = full-at fs e (V.Member x k) (is_full fs x) is (form-Member fs x k)

form-Index : (fs : ℕ → List Parameter) (x : Expr) (i : Expr) → form_full fs (V.Index x i) ≡ (is_full fs x && is_full fs i)
form-Index fs x i = search (rules, the_lemmas)

pub full-Index : (fs : ℕ → List Parameter) (e : Expr) (x : Expr) (i : Expr) → e.form ≡ V.Index x i → is_full fs e ≡ (is_full fs x && is_full fs i)
full-Index fs e x i is = full-at fs e (V.Index x i) (is_full fs x && is_full fs i) is (form-Index fs x i)

form-Part : (fs : ℕ → List Parameter) (x : Expr) (left : ℤ) (right : ℤ) → form_full fs (V.Part x left right) ≡ (is_full fs x)
form-Part fs x left right = search (rules, the_lemmas)

pub full-Part : (fs : ℕ → List Parameter) (e : Expr) (x : Expr) (left : ℤ) (right : ℤ) → e.form ≡ V.Part x left right → is_full fs e ≡ (is_full fs x)
full-Part fs e x left right is = full-at fs e (V.Part x left right) (is_full fs x) is (form-Part fs x left right)

form-Slide : (fs : ℕ → List Parameter) (x : Expr) (i : Expr) (n : ℕ) (up : Bool) → form_full fs (V.Slide x i n up) ≡ (is_full fs x && is_full fs i)
form-Slide fs x i n up = search (rules, the_lemmas)

pub full-Slide : (fs : ℕ → List Parameter) (e : Expr) (x : Expr) (i : Expr) (n : ℕ) (up : Bool) → e.form ≡ V.Slide x i n up → is_full fs e ≡ (is_full fs x && is_full fs i)
full-Slide fs e x i n up is = full-at fs e (V.Slide x i n up) (is_full fs x && is_full fs i) is (form-Slide fs x i n up)
