-- How many nodes an expression has: the measure of its evaluation.
use Rattle.std.proofs.Common.{◌≡◌, ℕ, suc, ◌+◌, Bool, ℤ, List, map, rules, ap, ◌∙◌}
use Rattle.b4_core.specs.declared.operators.UnOp.{UnOp}
use Rattle.b4_core.specs.declared.operators.BinOp.{BinOp}
use Rattle.b4_core.specs.declared.operators.RedOp.{RedOp}
use Rattle.b4_core.specs.declared.operators.ShiftOp.{ShiftOp}
use Rattle.b4_core.specs.declared.operators.OrdOp.{OrdOp}
use Rattle.b4_core.specs.declared.operators.EqOp.{EqOp}
use Rattle.sv_types.specs.declared.expression.Expr.{Expr, Expr-F, fold-Expr}
use Rattle.sv_types.specs.declared.expression.Form.{Form, Form-F, fold-Form, the_lemmas}
use Rattle.sv_types.specs.declared.expression.Form.TheVariants as V
use Rattle.sv_types.specs.declared.expression.Choice.{Choice, Choice-F, fold-Choice}
use Rattle.sv_types.specs.declared.expression.Choice.TheVariants as C
use Rattle.sv_types.specs.Meanings.{total}

abbrev choice_step : Choice-F ℕ ℕ ℕ → ℕ
choice_step (Choice-F.Value n) = n
choice_step (Choice-F.Range a b) = a + b

abbrev form_step : Form-F ℕ ℕ ℕ → ℕ
form_step (Form-F.Literal v goes_on) = 0
form_step (Form-F.Fill b) = 0
form_step (Form-F.Constant v) = 0
form_step (Form-F.Signal n) = 0
form_step (Form-F.Local n) = 0
form_step (Form-F.Member from k) = from
form_step (Form-F.Index from i) = from + i
form_step (Form-F.Part from left right) = from
form_step (Form-F.Slide from i n up) = from + i
form_step (Form-F.Unary op x) = x
form_step (Form-F.Reduce op x) = x
form_step (Form-F.Negate x) = x
form_step (Form-F.Binary op x y) = x + y
form_step (Form-F.Shift op x y) = x + y
form_step (Form-F.Power x y) = x + y
form_step (Form-F.Order op x y) = x + y
form_step (Form-F.Equal op negated x y) = x + y
form_step (Form-F.Both x y) = x + y
form_step (Form-F.Either x y) = x + y
form_step (Form-F.Choose z x y) = z + (x + y)
form_step (Form-F.Concat xs) = total xs
form_step (Form-F.Repeat n xs) = total xs
form_step (Form-F.Inside x cs) = x + total cs
form_step (Form-F.Cast x) = x
form_step (Form-F.Clog2 x) = x
form_step (Form-F.Pattern xs) = total xs
form_step (Form-F.Call f xs) = total xs
form_step (Form-F.Stream reversed n xs) = total xs

abbrev expr_step : Expr-F ℕ ℕ ℕ → ℕ
expr_step e = suc e.form

abbrev pub nodes : Expr → ℕ
nodes = fold-Expr ℕ ℕ ℕ choice_step form_step expr_step

abbrev pub form_nodes : Form → ℕ
form_nodes = fold-Form ℕ ℕ ℕ choice_step form_step expr_step

abbrev pub choice_nodes : Choice → ℕ
choice_nodes = fold-Choice ℕ ℕ ℕ choice_step form_step expr_step

nodes-form : (e : Expr) → nodes e ≡ suc (form_nodes e.form)
nodes-form e = search (rules, the_lemmas)

nodes-at : (e : Expr) (f : Form) (n : ℕ) → e.form ≡ f → form_nodes f ≡ n → nodes e ≡ suc n
nodes-at e f n is count = nodes-form e ∙ ap (λ g. suc (form_nodes g)) is ∙ ap suc count

form-Unary : (x : Expr) (op : UnOp) → form_nodes (V.Unary op x) ≡ nodes x
form-Unary x op = search (rules, the_lemmas)

pub nodes-Unary : (e x : Expr) (op : UnOp) → e.form ≡ V.Unary op x → nodes e ≡ suc (nodes x)
nodes-Unary e x op is = nodes-at e (V.Unary op x) (nodes x) is (form-Unary x op)

form-Reduce : (x : Expr) (op : RedOp) → form_nodes (V.Reduce op x) ≡ nodes x
form-Reduce x op = search (rules, the_lemmas)

pub nodes-Reduce : (e x : Expr) (op : RedOp) → e.form ≡ V.Reduce op x → nodes e ≡ suc (nodes x)
nodes-Reduce e x op is = nodes-at e (V.Reduce op x) (nodes x) is (form-Reduce x op)

form-Negate : (x : Expr) → form_nodes (V.Negate x) ≡ nodes x
form-Negate x = search (rules, the_lemmas)

pub nodes-Negate : (e x : Expr) → e.form ≡ V.Negate x → nodes e ≡ suc (nodes x)
nodes-Negate e x is = nodes-at e (V.Negate x) (nodes x) is (form-Negate x)

form-Binary : (x y : Expr) (op : BinOp) → form_nodes (V.Binary op x y) ≡ nodes x + nodes y
form-Binary x y op = search (rules, the_lemmas)

pub nodes-Binary : (e x y : Expr) (op : BinOp) → e.form ≡ V.Binary op x y → nodes e ≡ suc (nodes x + nodes y)
nodes-Binary e x y op is = nodes-at e (V.Binary op x y) (nodes x + nodes y) is (form-Binary x y op)

form-Shift : (x y : Expr) (op : ShiftOp) → form_nodes (V.Shift op x y) ≡ nodes x + nodes y
form-Shift x y op = search (rules, the_lemmas)

pub nodes-Shift : (e x y : Expr) (op : ShiftOp) → e.form ≡ V.Shift op x y → nodes e ≡ suc (nodes x + nodes y)
nodes-Shift e x y op is = nodes-at e (V.Shift op x y) (nodes x + nodes y) is (form-Shift x y op)

form-Power : (x y : Expr) → form_nodes (V.Power x y) ≡ nodes x + nodes y
form-Power x y = search (rules, the_lemmas)

pub nodes-Power : (e x y : Expr) → e.form ≡ V.Power x y → nodes e ≡ suc (nodes x + nodes y)
nodes-Power e x y is = nodes-at e (V.Power x y) (nodes x + nodes y) is (form-Power x y)

form-Order : (x y : Expr) (op : OrdOp) → form_nodes (V.Order op x y) ≡ nodes x + nodes y
form-Order x y op = search (rules, the_lemmas)

pub nodes-Order : (e x y : Expr) (op : OrdOp) → e.form ≡ V.Order op x y → nodes e ≡ suc (nodes x + nodes y)
nodes-Order e x y op is = nodes-at e (V.Order op x y) (nodes x + nodes y) is (form-Order x y op)

form-Equal : (x y : Expr) (op : EqOp) (negated : Bool) → form_nodes (V.Equal op negated x y) ≡ nodes x + nodes y
form-Equal x y op negated = search (rules, the_lemmas)

pub nodes-Equal : (e x y : Expr) (op : EqOp) (negated : Bool) → e.form ≡ V.Equal op negated x y → nodes e ≡ suc (nodes x + nodes y)
nodes-Equal e x y op negated is = nodes-at e (V.Equal op negated x y) (nodes x + nodes y) is (form-Equal x y op negated)

form-Both : (x y : Expr) → form_nodes (V.Both x y) ≡ nodes x + nodes y
form-Both x y = search (rules, the_lemmas)

pub nodes-Both : (e x y : Expr) → e.form ≡ V.Both x y → nodes e ≡ suc (nodes x + nodes y)
nodes-Both e x y is = nodes-at e (V.Both x y) (nodes x + nodes y) is (form-Both x y)

form-Either : (x y : Expr) → form_nodes (V.Either x y) ≡ nodes x + nodes y
form-Either x y = search (rules, the_lemmas)

pub nodes-Either : (e x y : Expr) → e.form ≡ V.Either x y → nodes e ≡ suc (nodes x + nodes y)
nodes-Either e x y is = nodes-at e (V.Either x y) (nodes x + nodes y) is (form-Either x y)

form-Choose : (z x y : Expr) → form_nodes (V.Choose z x y) ≡ nodes z + (nodes x + nodes y)
form-Choose z x y = search (rules, the_lemmas)

pub nodes-Choose : (e z x y : Expr) → e.form ≡ V.Choose z x y → nodes e ≡ suc (nodes z + (nodes x + nodes y))
nodes-Choose e z x y is = nodes-at e (V.Choose z x y) (nodes z + (nodes x + nodes y)) is (form-Choose z x y)

form-Cast : (x : Expr) → form_nodes (V.Cast x) ≡ nodes x
form-Cast x = search (rules, the_lemmas)

pub nodes-Cast : (e x : Expr) → e.form ≡ V.Cast x → nodes e ≡ suc (nodes x)
nodes-Cast e x is = nodes-at e (V.Cast x) (nodes x) is (form-Cast x)

form-Clog2 : (x : Expr) → form_nodes (V.Clog2 x) ≡ nodes x
form-Clog2 x = search (rules, the_lemmas)

pub nodes-Clog2 : (e x : Expr) → e.form ≡ V.Clog2 x → nodes e ≡ suc (nodes x)
nodes-Clog2 e x is = nodes-at e (V.Clog2 x) (nodes x) is (form-Clog2 x)

form-Concat : (es : List Expr) → form_nodes (V.Concat es) ≡ total (map nodes es)
form-Concat es = search (rules, the_lemmas)

pub nodes-Concat : (e : Expr) (es : List Expr) → e.form ≡ V.Concat es → nodes e ≡ suc (total (map nodes es))
nodes-Concat e es is = nodes-at e (V.Concat es) (total (map nodes es)) is (form-Concat es)

form-Repeat : (n : ℕ) (es : List Expr) → form_nodes (V.Repeat n es) ≡ total (map nodes es)
form-Repeat n es = search (rules, the_lemmas)

pub nodes-Repeat : (e : Expr) (n : ℕ) (es : List Expr) → e.form ≡ V.Repeat n es → nodes e ≡ suc (total (map nodes es))
nodes-Repeat e n es is = nodes-at e (V.Repeat n es) (total (map nodes es)) is (form-Repeat n es)

form-Member : (x : Expr) (k : ℕ) → form_nodes (V.Member x k) ≡ nodes x
form-Member x k = search (rules, the_lemmas)

pub nodes-Member : (e : Expr) (x : Expr) (k : ℕ) → e.form ≡ V.Member x k → nodes e ≡ suc (nodes x)
nodes-Member e x k is = nodes-at e (V.Member x k) (nodes x) is (form-Member x k)

form-Index : (x : Expr) (y : Expr) → form_nodes (V.Index x y) ≡ nodes x + nodes y
form-Index x y = search (rules, the_lemmas)

pub nodes-Index : (e : Expr) (x : Expr) (y : Expr) → e.form ≡ V.Index x y → nodes e ≡ suc (nodes x + nodes y)
nodes-Index e x y is = nodes-at e (V.Index x y) (nodes x + nodes y) is (form-Index x y)

form-Part : (x : Expr) (left : ℤ) (right : ℤ) → form_nodes (V.Part x left right) ≡ nodes x
form-Part x left right = search (rules, the_lemmas)

pub nodes-Part : (e : Expr) (x : Expr) (left : ℤ) (right : ℤ) → e.form ≡ V.Part x left right → nodes e ≡ suc (nodes x)
nodes-Part e x left right is = nodes-at e (V.Part x left right) (nodes x) is (form-Part x left right)

form-Slide : (x : Expr) (y : Expr) (n : ℕ) (up : Bool) → form_nodes (V.Slide x y n up) ≡ nodes x + nodes y
form-Slide x y n up = search (rules, the_lemmas)

pub nodes-Slide : (e : Expr) (x : Expr) (y : Expr) (n : ℕ) (up : Bool) → e.form ≡ V.Slide x y n up → nodes e ≡ suc (nodes x + nodes y)
nodes-Slide e x y n up is = nodes-at e (V.Slide x y n up) (nodes x + nodes y) is (form-Slide x y n up)

form-Inside : (x : Expr) (cs : List Choice) → form_nodes (V.Inside x cs) ≡ nodes x + total (map choice_nodes cs)
form-Inside x cs = search (rules, the_lemmas)

pub nodes-Inside : (e : Expr) (x : Expr) (cs : List Choice) → e.form ≡ V.Inside x cs → nodes e ≡ suc (nodes x + total (map choice_nodes cs))
nodes-Inside e x cs is = nodes-at e (V.Inside x cs) (nodes x + total (map choice_nodes cs)) is (form-Inside x cs)

form-Pattern : (es : List Expr) → form_nodes (V.Pattern es) ≡ total (map nodes es)
form-Pattern es = search (rules, the_lemmas)

pub nodes-Pattern : (e : Expr) (es : List Expr) → e.form ≡ V.Pattern es → nodes e ≡ suc (total (map nodes es))
nodes-Pattern e es is = nodes-at e (V.Pattern es) (total (map nodes es)) is (form-Pattern es)

form-Call : (f : ℕ) (es : List Expr) → form_nodes (V.Call f es) ≡ total (map nodes es)
form-Call f es = search (rules, the_lemmas)

pub nodes-Call : (e : Expr) (f : ℕ) (es : List Expr) → e.form ≡ V.Call f es → nodes e ≡ suc (total (map nodes es))
nodes-Call e f es is = nodes-at e (V.Call f es) (total (map nodes es)) is (form-Call f es)

form-Stream : (reversed : Bool) (n : ℕ) (es : List Expr) → form_nodes (V.Stream reversed n es) ≡ total (map nodes es)
form-Stream reversed n es = search (rules, the_lemmas)

pub nodes-Stream : (e : Expr) (reversed : Bool) (n : ℕ) (es : List Expr) → e.form ≡ V.Stream reversed n es → nodes e ≡ suc (total (map nodes es))
nodes-Stream e reversed n es is = nodes-at e (V.Stream reversed n es) (total (map nodes es)) is (form-Stream reversed n es)

pub nodes-value : (e : Expr) → choice_nodes (C.Value e) ≡ nodes e
nodes-value e = search (rules, the_lemmas)

pub nodes-range : (a b : Expr) → choice_nodes (C.Range a b) ≡ nodes a + nodes b
nodes-range a b = search (rules, the_lemmas)
