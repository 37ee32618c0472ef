-- What is said of an expression, one level at a time, and that it is said with its meaning.
use Rattle.std.proofs.Common.{◌≡◌, ℕ, Bool, ℤ, List, [], ◌∷◌, map, refl, ap, sym, ◌∙◌, rules}
use Rattle.b4_core.specs.declared.bit.Bit4.{Bit4}
use Rattle.b4_core.specs.declared.operators.UnOp.{UnOp}
use Rattle.b4_core.specs.declared.operators.BinOp.{BinOp}
use Rattle.b4_core.specs.declared.operators.RedOp.{RedOp}
use Rattle.b4_core.specs.declared.operators.ShiftOp.{ShiftOp}
use Rattle.b4_core.specs.declared.operators.OrdOp.{OrdOp}
use Rattle.b4_core.specs.declared.operators.EqOp.{EqOp}
use Rattle.sv_types.specs.declared.types.Value.{Value}
use Rattle.sv_types.specs.declared.expression.Expr.{Expr}
use Rattle.sv_types.specs.declared.expression.Choice.{Choice, Choice-F, fold-Choice}
use Rattle.sv_types.specs.declared.expression.Choice.TheVariants as C
use Rattle.sv_types.specs.declared.expression.Form.{Form, Form-F, fold-Form, the_lemmas}
use Rattle.sv_types.specs.declared.expression.Form.TheVariants as V
use Rattle.sv_types.specs.Layouts.{layout}
use Rattle.sv_types.specs.Operators.{Alternative}
use Rattle.sv_types.specs.Expressions as E
use Rattle.sv_types.specs.Expressions.{meaning}
use Rattle.sv_types.proofs.Levels as L
use Rattle.sv_types.proofs.Levels.{form_meaning, alternative}
use Rattle.sv_types.proofs.Terms.{Each, Steps, by-expr}
use Rattle.design_breaks.specs.Indices.{Said, SaidForm, SaidChoice, said, choice_step, form_step, expr_step}

abbrev pub form_said : Form → SaidForm
form_said = fold-Form SaidChoice SaidForm Said choice_step form_step expr_step

abbrev pub choice_said : Choice → SaidChoice
choice_said = fold-Choice SaidChoice SaidForm Said choice_step form_step expr_step

said-form : (e : Expr) → said e ≡ record { means = (form_said e.form).means (layout e.of) e.spot.at; long = (form_said e.form).long (layout e.of) }
said-form e = search (rules, the_lemmas)

pub said-value : (e : Expr) → choice_said (C.Value e) ≡ choice_step (Choice-F.Value (said e))
said-value e = search (rules, the_lemmas)

pub said-range : (low high : Expr) → choice_said (C.Range low high) ≡ choice_step (Choice-F.Range (said low) (said high))
said-range low high = search (rules, the_lemmas)

level-Literal : (v : List Bit4) (goes_on : Bool) → form_said (V.Literal v goes_on) ≡ form_step (Form-F.Literal v goes_on)
level-Literal v goes_on = search (rules, the_lemmas)

level-Fill : (b : Bit4) → form_said (V.Fill b) ≡ form_step (Form-F.Fill b)
level-Fill b = search (rules, the_lemmas)

level-Constant : (v : Value) → form_said (V.Constant v) ≡ form_step (Form-F.Constant v)
level-Constant v = search (rules, the_lemmas)

level-Signal : (n : ℕ) → form_said (V.Signal n) ≡ form_step (Form-F.Signal n)
level-Signal n = search (rules, the_lemmas)

level-Local : (n : ℕ) → form_said (V.Local n) ≡ form_step (Form-F.Local n)
level-Local n = search (rules, the_lemmas)

level-Member : (x : Expr) (k : ℕ) → form_said (V.Member x k) ≡ form_step (Form-F.Member (said x) k)
level-Member x k = search (rules, the_lemmas)

level-Index : (x i : Expr) → form_said (V.Index x i) ≡ form_step (Form-F.Index (said x) (said i))
level-Index x i = search (rules, the_lemmas)

level-Part : (x : Expr) (left right : ℤ) → form_said (V.Part x left right) ≡ form_step (Form-F.Part (said x) left right)
level-Part x left right = search (rules, the_lemmas)

level-Slide : (x i : Expr) (n : ℕ) (up : Bool) → form_said (V.Slide x i n up) ≡ form_step (Form-F.Slide (said x) (said i) n up)
level-Slide x i n up = search (rules, the_lemmas)

level-Unary : (op : UnOp) (x : Expr) → form_said (V.Unary op x) ≡ form_step (Form-F.Unary op (said x))
level-Unary op x = search (rules, the_lemmas)

level-Reduce : (op : RedOp) (x : Expr) → form_said (V.Reduce op x) ≡ form_step (Form-F.Reduce op (said x))
level-Reduce op x = search (rules, the_lemmas)

level-Negate : (x : Expr) → form_said (V.Negate x) ≡ form_step (Form-F.Negate (said x))
level-Negate x = search (rules, the_lemmas)

level-Binary : (op : BinOp) (x y : Expr) → form_said (V.Binary op x y) ≡ form_step (Form-F.Binary op (said x) (said y))
level-Binary op x y = search (rules, the_lemmas)

level-Shift : (op : ShiftOp) (x y : Expr) → form_said (V.Shift op x y) ≡ form_step (Form-F.Shift op (said x) (said y))
level-Shift op x y = search (rules, the_lemmas)

level-Power : (x y : Expr) → form_said (V.Power x y) ≡ form_step (Form-F.Power (said x) (said y))
level-Power x y = search (rules, the_lemmas)

level-Order : (op : OrdOp) (x y : Expr) → form_said (V.Order op x y) ≡ form_step (Form-F.Order op (said x) (said y))
level-Order op x y = search (rules, the_lemmas)

level-Equal : (op : EqOp) (negated : Bool) (x y : Expr) → form_said (V.Equal op negated x y) ≡ form_step (Form-F.Equal op negated (said x) (said y))
level-Equal op negated x y = search (rules, the_lemmas)

level-Both : (x y : Expr) → form_said (V.Both x y) ≡ form_step (Form-F.Both (said x) (said y))
level-Both x y = search (rules, the_lemmas)

level-Either : (x y : Expr) → form_said (V.Either x y) ≡ form_step (Form-F.Either (said x) (said y))
level-Either x y = search (rules, the_lemmas)

level-Choose : (z x y : Expr) → form_said (V.Choose z x y) ≡ form_step (Form-F.Choose (said z) (said x) (said y))
level-Choose z x y = search (rules, the_lemmas)

level-Concat : (es : List Expr) → form_said (V.Concat es) ≡ form_step (Form-F.Concat (map said es))
level-Concat es = search (rules, the_lemmas)

level-Repeat : (n : ℕ) (es : List Expr) → form_said (V.Repeat n es) ≡ form_step (Form-F.Repeat n (map said es))
level-Repeat n es = search (rules, the_lemmas)

level-Inside : (x : Expr) (cs : List Choice) → form_said (V.Inside x cs) ≡ form_step (Form-F.Inside (said x) (map choice_said cs))
level-Inside x cs = search (rules, the_lemmas)

level-Cast : (x : Expr) → form_said (V.Cast x) ≡ form_step (Form-F.Cast (said x))
level-Cast x = search (rules, the_lemmas)

level-Clog2 : (x : Expr) → form_said (V.Clog2 x) ≡ form_step (Form-F.Clog2 (said x))
level-Clog2 x = search (rules, the_lemmas)

level-Pattern : (es : List Expr) → form_said (V.Pattern es) ≡ form_step (Form-F.Pattern (map said es))
level-Pattern es = search (rules, the_lemmas)

level-Call : (f : ℕ) (es : List Expr) → form_said (V.Call f es) ≡ form_step (Form-F.Call f (map said es))
level-Call f es = search (rules, the_lemmas)

level-Stream : (reversed : Bool) (n : ℕ) (es : List Expr) → form_said (V.Stream reversed n es) ≡ form_step (Form-F.Stream reversed n (map said es))
level-Stream reversed n es = search (rules, the_lemmas)

-- with its meaning
abbrev Means : Expr → Type 0
Means e = (said e).means ≡ meaning e

abbrev FormMeans : Form → Type 0
FormMeans f = (form_said f).means ≡ form_meaning f

abbrev ChoiceMeans : Choice → Type 0
ChoiceMeans c = (choice_said c).means ≡ alternative c

all-mean : (es : List Expr) → Each Means es → map (λ (s : Said). s.means) (map said es) ≡ map meaning es
all-mean [] h = refl
all-mean (e ∷ es) h = λ i. h.0 i ∷ all-mean es h.1 i

choices-mean : (cs : List Choice) → Each ChoiceMeans cs → map (λ (s : SaidChoice). s.means) (map choice_said cs) ≡ map alternative cs
choices-mean [] h = refl
choices-mean (c ∷ cs) h = λ i. h.0 i ∷ choices-mean cs h.1 i

value-means : (e : Expr) → Means e → ChoiceMeans (C.Value e)
value-means e h = ap (λ (s : SaidChoice). s.means) (said-value e) ∙ ap Alternative.Only h ∙ sym (L.only e)

range-means : (low high : Expr) → Means low → Means high → ChoiceMeans (C.Range low high)
range-means low high h g = ap (λ (s : SaidChoice). s.means) (said-range low high) ∙ (λ i. Alternative.From (h i) (g i)) ∙ sym (L.from-to low high)

expr-means : (e : Expr) → FormMeans e.form → Means e
expr-means e h = ap (λ (s : Said). s.means) (said-form e) ∙ ap (λ m. m (layout e.of) e.spot.at) h ∙ sym (L.meaning-form e)

means-Literal : (v : List Bit4) (goes_on : Bool) → FormMeans (V.Literal v goes_on)
means-Literal v goes_on = ap (λ (s : SaidForm). s.means) (level-Literal v goes_on) ∙ sym (L.form-Literal v goes_on)

means-Fill : (b : Bit4) → FormMeans (V.Fill b)
means-Fill b = ap (λ (s : SaidForm). s.means) (level-Fill b) ∙ sym (L.form-Fill b)

means-Constant : (v : Value) → FormMeans (V.Constant v)
means-Constant v = ap (λ (s : SaidForm). s.means) (level-Constant v) ∙ sym (L.form-Constant v)

means-Signal : (n : ℕ) → FormMeans (V.Signal n)
means-Signal n = ap (λ (s : SaidForm). s.means) (level-Signal n) ∙ sym (L.form-Signal n)

means-Local : (n : ℕ) → FormMeans (V.Local n)
means-Local n = ap (λ (s : SaidForm). s.means) (level-Local n) ∙ sym (L.form-Local n)

means-Member : (x : Expr) (k : ℕ) → Means x → FormMeans (V.Member x k)
means-Member x k h0 = ap (λ (s : SaidForm). s.means) (level-Member x k) ∙ (λ i. E.form_step (Form-F.Member (h0 i) k)) ∙ sym (L.form-Member x k)

means-Index : (x i : Expr) → Means x → Means i → FormMeans (V.Index x i)
means-Index x i h0 h1 = ap (λ (s : SaidForm). s.means) (level-Index x i) ∙ (λ i. E.form_step (Form-F.Index (h0 i) (h1 i))) ∙ sym (L.form-Index x i)

means-Part : (x : Expr) (left right : ℤ) → Means x → FormMeans (V.Part x left right)
means-Part x left right h0 = ap (λ (s : SaidForm). s.means) (level-Part x left right) ∙ (λ i. E.form_step (Form-F.Part (h0 i) left right)) ∙ sym (L.form-Part x left right)

means-Slide : (x i : Expr) (n : ℕ) (up : Bool) → Means x → Means i → FormMeans (V.Slide x i n up)
means-Slide x i n up h0 h1 = ap (λ (s : SaidForm). s.means) (level-Slide x i n up) ∙ (λ i. E.form_step (Form-F.Slide (h0 i) (h1 i) n up)) ∙ sym (L.form-Slide x i n up)

means-Unary : (op : UnOp) (x : Expr) → Means x → FormMeans (V.Unary op x)
means-Unary op x h0 = ap (λ (s : SaidForm). s.means) (level-Unary op x) ∙ (λ i. E.form_step (Form-F.Unary op (h0 i))) ∙ sym (L.form-Unary op x)

means-Reduce : (op : RedOp) (x : Expr) → Means x → FormMeans (V.Reduce op x)
means-Reduce op x h0 = ap (λ (s : SaidForm). s.means) (level-Reduce op x) ∙ (λ i. E.form_step (Form-F.Reduce op (h0 i))) ∙ sym (L.form-Reduce op x)

means-Negate : (x : Expr) → Means x → FormMeans (V.Negate x)
means-Negate x h0 = ap (λ (s : SaidForm). s.means) (level-Negate x) ∙ (λ i. E.form_step (Form-F.Negate (h0 i))) ∙ sym (L.form-Negate x)

means-Binary : (op : BinOp) (x y : Expr) → Means x → Means y → FormMeans (V.Binary op x y)
means-Binary op x y h0 h1 = ap (λ (s : SaidForm). s.means) (level-Binary op x y) ∙ (λ i. E.form_step (Form-F.Binary op (h0 i) (h1 i))) ∙ sym (L.form-Binary op x y)

means-Shift : (op : ShiftOp) (x y : Expr) → Means x → Means y → FormMeans (V.Shift op x y)
means-Shift op x y h0 h1 = ap (λ (s : SaidForm). s.means) (level-Shift op x y) ∙ (λ i. E.form_step (Form-F.Shift op (h0 i) (h1 i))) ∙ sym (L.form-Shift op x y)

means-Power : (x y : Expr) → Means x → Means y → FormMeans (V.Power x y)
means-Power x y h0 h1 = ap (λ (s : SaidForm). s.means) (level-Power x y) ∙ (λ i. E.form_step (Form-F.Power (h0 i) (h1 i))) ∙ sym (L.form-Power x y)

means-Order : (op : OrdOp) (x y : Expr) → Means x → Means y → FormMeans (V.Order op x y)
means-Order op x y h0 h1 = ap (λ (s : SaidForm). s.means) (level-Order op x y) ∙ (λ i. E.form_step (Form-F.Order op (h0 i) (h1 i))) ∙ sym (L.form-Order op x y)

means-Equal : (op : EqOp) (negated : Bool) (x y : Expr) → Means x → Means y → FormMeans (V.Equal op negated x y)
means-Equal op negated x y h0 h1 = ap (λ (s : SaidForm). s.means) (level-Equal op negated x y) ∙ (λ i. E.form_step (Form-F.Equal op negated (h0 i) (h1 i))) ∙ sym (L.form-Equal op negated x y)

means-Both : (x y : Expr) → Means x → Means y → FormMeans (V.Both x y)
means-Both x y h0 h1 = ap (λ (s : SaidForm). s.means) (level-Both x y) ∙ (λ i. E.form_step (Form-F.Both (h0 i) (h1 i))) ∙ sym (L.form-Both x y)

means-Either : (x y : Expr) → Means x → Means y → FormMeans (V.Either x y)
means-Either x y h0 h1 = ap (λ (s : SaidForm). s.means) (level-Either x y) ∙ (λ i. E.form_step (Form-F.Either (h0 i) (h1 i))) ∙ sym (L.form-Either x y)

means-Choose : (z x y : Expr) → Means z → Means x → Means y → FormMeans (V.Choose z x y)
means-Choose z x y h0 h1 h2 = ap (λ (s : SaidForm). s.means) (level-Choose z x y) ∙ (λ i. E.form_step (Form-F.Choose (h0 i) (h1 i) (h2 i))) ∙ sym (L.form-Choose z x y)

means-Concat : (es : List Expr) → Each Means es → FormMeans (V.Concat es)
means-Concat es h0 = ap (λ (s : SaidForm). s.means) (level-Concat es) ∙ (λ i. E.form_step (Form-F.Concat (all-mean es h0 i))) ∙ sym (L.form-Concat es)

means-Repeat : (n : ℕ) (es : List Expr) → Each Means es → FormMeans (V.Repeat n es)
means-Repeat n es h0 = ap (λ (s : SaidForm). s.means) (level-Repeat n es) ∙ (λ i. E.form_step (Form-F.Repeat n (all-mean es h0 i))) ∙ sym (L.form-Repeat n es)

means-Inside : (x : Expr) (cs : List Choice) → Means x → Each ChoiceMeans cs → FormMeans (V.Inside x cs)
means-Inside x cs h0 h1 = ap (λ (s : SaidForm). s.means) (level-Inside x cs) ∙ (λ i. E.form_step (Form-F.Inside (h0 i) (choices-mean cs h1 i))) ∙ sym (L.form-Inside x cs)

means-Cast : (x : Expr) → Means x → FormMeans (V.Cast x)
means-Cast x h0 = ap (λ (s : SaidForm). s.means) (level-Cast x) ∙ (λ i. E.form_step (Form-F.Cast (h0 i))) ∙ sym (L.form-Cast x)

means-Clog2 : (x : Expr) → Means x → FormMeans (V.Clog2 x)
means-Clog2 x h0 = ap (λ (s : SaidForm). s.means) (level-Clog2 x) ∙ (λ i. E.form_step (Form-F.Clog2 (h0 i))) ∙ sym (L.form-Clog2 x)

means-Pattern : (es : List Expr) → Each Means es → FormMeans (V.Pattern es)
means-Pattern es h0 = ap (λ (s : SaidForm). s.means) (level-Pattern es) ∙ (λ i. E.form_step (Form-F.Pattern (all-mean es h0 i))) ∙ sym (L.form-Pattern es)

means-Call : (f : ℕ) (es : List Expr) → Each Means es → FormMeans (V.Call f es)
means-Call f es h0 = ap (λ (s : SaidForm). s.means) (level-Call f es) ∙ (λ i. E.form_step (Form-F.Call f (all-mean es h0 i))) ∙ sym (L.form-Call f es)

means-Stream : (reversed : Bool) (n : ℕ) (es : List Expr) → Each Means es → FormMeans (V.Stream reversed n es)
means-Stream reversed n es h0 = ap (λ (s : SaidForm). s.means) (level-Stream reversed n es) ∙ (λ i. E.form_step (Form-F.Stream reversed n (all-mean es h0 i))) ∙ sym (L.form-Stream reversed n es)

steps : Steps ChoiceMeans FormMeans Means
steps = record {
  value = value-means;
  range = range-means;
  expr = expr-means;
  literal = means-Literal;
  fill = means-Fill;
  constant = means-Constant;
  signal = means-Signal;
  local = means-Local;
  member = means-Member;
  index = means-Index;
  part_select = means-Part;
  sliding = means-Slide;
  unary = means-Unary;
  reduce = means-Reduce;
  negate = means-Negate;
  binary = means-Binary;
  shift = means-Shift;
  power = means-Power;
  order = means-Order;
  equal = means-Equal;
  both = means-Both;
  either = means-Either;
  choose = means-Choose;
  concat = means-Concat;
  repeat = means-Repeat;
  inside = means-Inside;
  cast = means-Cast;
  clog2 = means-Clog2;
  pattern = means-Pattern;
  call = means-Call;
  stream = means-Stream;
}

pub means-it : (e : Expr) → (said e).means ≡ meaning e
means-it = by-expr ChoiceMeans FormMeans Means steps

-- where constant indices in it take too long, by its form
long-form : (e : Expr) → (said e).long ≡ (form_said e.form).long (layout e.of)
long-form e = ap (λ (s : Said). s.long) (said-form e)

pub long-Literal : (e : Expr) (v : List Bit4) (goes_on : Bool) → e.form ≡ V.Literal v goes_on → (said e).long ≡ (form_step (Form-F.Literal v goes_on)).long (layout e.of)
long-Literal e v goes_on is = long-form e ∙ ap (λ f. (form_said f).long (layout e.of)) is ∙ ap (λ (s : SaidForm). s.long (layout e.of)) (level-Literal v goes_on)

pub long-Fill : (e : Expr) (b : Bit4) → e.form ≡ V.Fill b → (said e).long ≡ (form_step (Form-F.Fill b)).long (layout e.of)
long-Fill e b is = long-form e ∙ ap (λ f. (form_said f).long (layout e.of)) is ∙ ap (λ (s : SaidForm). s.long (layout e.of)) (level-Fill b)

pub long-Constant : (e : Expr) (v : Value) → e.form ≡ V.Constant v → (said e).long ≡ (form_step (Form-F.Constant v)).long (layout e.of)
long-Constant e v is = long-form e ∙ ap (λ f. (form_said f).long (layout e.of)) is ∙ ap (λ (s : SaidForm). s.long (layout e.of)) (level-Constant v)

pub long-Signal : (e : Expr) (n : ℕ) → e.form ≡ V.Signal n → (said e).long ≡ (form_step (Form-F.Signal n)).long (layout e.of)
long-Signal e n is = long-form e ∙ ap (λ f. (form_said f).long (layout e.of)) is ∙ ap (λ (s : SaidForm). s.long (layout e.of)) (level-Signal n)

pub long-Local : (e : Expr) (n : ℕ) → e.form ≡ V.Local n → (said e).long ≡ (form_step (Form-F.Local n)).long (layout e.of)
long-Local e n is = long-form e ∙ ap (λ f. (form_said f).long (layout e.of)) is ∙ ap (λ (s : SaidForm). s.long (layout e.of)) (level-Local n)

pub long-Member : (e : Expr) (x : Expr) (k : ℕ) → e.form ≡ V.Member x k → (said e).long ≡ (form_step (Form-F.Member (said x) k)).long (layout e.of)
long-Member e x k is = long-form e ∙ ap (λ f. (form_said f).long (layout e.of)) is ∙ ap (λ (s : SaidForm). s.long (layout e.of)) (level-Member x k)

pub long-Index : (e : Expr) (x i : Expr) → e.form ≡ V.Index x i → (said e).long ≡ (form_step (Form-F.Index (said x) (said i))).long (layout e.of)
long-Index e x i is = long-form e ∙ ap (λ f. (form_said f).long (layout e.of)) is ∙ ap (λ (s : SaidForm). s.long (layout e.of)) (level-Index x i)

pub long-Part : (e : Expr) (x : Expr) (left right : ℤ) → e.form ≡ V.Part x left right → (said e).long ≡ (form_step (Form-F.Part (said x) left right)).long (layout e.of)
long-Part e x left right is = long-form e ∙ ap (λ f. (form_said f).long (layout e.of)) is ∙ ap (λ (s : SaidForm). s.long (layout e.of)) (level-Part x left right)

pub long-Slide : (e : Expr) (x i : Expr) (n : ℕ) (up : Bool) → e.form ≡ V.Slide x i n up → (said e).long ≡ (form_step (Form-F.Slide (said x) (said i) n up)).long (layout e.of)
long-Slide e x i n up is = long-form e ∙ ap (λ f. (form_said f).long (layout e.of)) is ∙ ap (λ (s : SaidForm). s.long (layout e.of)) (level-Slide x i n up)

pub long-Unary : (e : Expr) (op : UnOp) (x : Expr) → e.form ≡ V.Unary op x → (said e).long ≡ (form_step (Form-F.Unary op (said x))).long (layout e.of)
long-Unary e op x is = long-form e ∙ ap (λ f. (form_said f).long (layout e.of)) is ∙ ap (λ (s : SaidForm). s.long (layout e.of)) (level-Unary op x)

pub long-Reduce : (e : Expr) (op : RedOp) (x : Expr) → e.form ≡ V.Reduce op x → (said e).long ≡ (form_step (Form-F.Reduce op (said x))).long (layout e.of)
long-Reduce e op x is = long-form e ∙ ap (λ f. (form_said f).long (layout e.of)) is ∙ ap (λ (s : SaidForm). s.long (layout e.of)) (level-Reduce op x)

pub long-Negate : (e : Expr) (x : Expr) → e.form ≡ V.Negate x → (said e).long ≡ (form_step (Form-F.Negate (said x))).long (layout e.of)
long-Negate e x is = long-form e ∙ ap (λ f. (form_said f).long (layout e.of)) is ∙ ap (λ (s : SaidForm). s.long (layout e.of)) (level-Negate x)

pub long-Binary : (e : Expr) (op : BinOp) (x y : Expr) → e.form ≡ V.Binary op x y → (said e).long ≡ (form_step (Form-F.Binary op (said x) (said y))).long (layout e.of)
long-Binary e op x y is = long-form e ∙ ap (λ f. (form_said f).long (layout e.of)) is ∙ ap (λ (s : SaidForm). s.long (layout e.of)) (level-Binary op x y)

pub long-Shift : (e : Expr) (op : ShiftOp) (x y : Expr) → e.form ≡ V.Shift op x y → (said e).long ≡ (form_step (Form-F.Shift op (said x) (said y))).long (layout e.of)
long-Shift e op x y is = long-form e ∙ ap (λ f. (form_said f).long (layout e.of)) is ∙ ap (λ (s : SaidForm). s.long (layout e.of)) (level-Shift op x y)

pub long-Power : (e : Expr) (x y : Expr) → e.form ≡ V.Power x y → (said e).long ≡ (form_step (Form-F.Power (said x) (said y))).long (layout e.of)
long-Power e x y is = long-form e ∙ ap (λ f. (form_said f).long (layout e.of)) is ∙ ap (λ (s : SaidForm). s.long (layout e.of)) (level-Power x y)

pub long-Order : (e : Expr) (op : OrdOp) (x y : Expr) → e.form ≡ V.Order op x y → (said e).long ≡ (form_step (Form-F.Order op (said x) (said y))).long (layout e.of)
long-Order e op x y is = long-form e ∙ ap (λ f. (form_said f).long (layout e.of)) is ∙ ap (λ (s : SaidForm). s.long (layout e.of)) (level-Order op x y)

pub long-Equal : (e : Expr) (op : EqOp) (negated : Bool) (x y : Expr) → e.form ≡ V.Equal op negated x y → (said e).long ≡ (form_step (Form-F.Equal op negated (said x) (said y))).long (layout e.of)
long-Equal e op negated x y is = long-form e ∙ ap (λ f. (form_said f).long (layout e.of)) is ∙ ap (λ (s : SaidForm). s.long (layout e.of)) (level-Equal op negated x y)

pub long-Both : (e : Expr) (x y : Expr) → e.form ≡ V.Both x y → (said e).long ≡ (form_step (Form-F.Both (said x) (said y))).long (layout e.of)
long-Both e x y is = long-form e ∙ ap (λ f. (form_said f).long (layout e.of)) is ∙ ap (λ (s : SaidForm). s.long (layout e.of)) (level-Both x y)

pub long-Either : (e : Expr) (x y : Expr) → e.form ≡ V.Either x y → (said e).long ≡ (form_step (Form-F.Either (said x) (said y))).long (layout e.of)
long-Either e x y is = long-form e ∙ ap (λ f. (form_said f).long (layout e.of)) is ∙ ap (λ (s : SaidForm). s.long (layout e.of)) (level-Either x y)

pub long-Choose : (e : Expr) (z x y : Expr) → e.form ≡ V.Choose z x y → (said e).long ≡ (form_step (Form-F.Choose (said z) (said x) (said y))).long (layout e.of)
long-Choose e z x y is = long-form e ∙ ap (λ f. (form_said f).long (layout e.of)) is ∙ ap (λ (s : SaidForm). s.long (layout e.of)) (level-Choose z x y)

pub long-Concat : (e : Expr) (es : List Expr) → e.form ≡ V.Concat es → (said e).long ≡ (form_step (Form-F.Concat (map said es))).long (layout e.of)
long-Concat e es is = long-form e ∙ ap (λ f. (form_said f).long (layout e.of)) is ∙ ap (λ (s : SaidForm). s.long (layout e.of)) (level-Concat es)

pub long-Repeat : (e : Expr) (n : ℕ) (es : List Expr) → e.form ≡ V.Repeat n es → (said e).long ≡ (form_step (Form-F.Repeat n (map said es))).long (layout e.of)
long-Repeat e n es is = long-form e ∙ ap (λ f. (form_said f).long (layout e.of)) is ∙ ap (λ (s : SaidForm). s.long (layout e.of)) (level-Repeat n es)

pub long-Inside : (e : Expr) (x : Expr) (cs : List Choice) → e.form ≡ V.Inside x cs → (said e).long ≡ (form_step (Form-F.Inside (said x) (map choice_said cs))).long (layout e.of)
long-Inside e x cs is = long-form e ∙ ap (λ f. (form_said f).long (layout e.of)) is ∙ ap (λ (s : SaidForm). s.long (layout e.of)) (level-Inside x cs)

pub long-Cast : (e : Expr) (x : Expr) → e.form ≡ V.Cast x → (said e).long ≡ (form_step (Form-F.Cast (said x))).long (layout e.of)
long-Cast e x is = long-form e ∙ ap (λ f. (form_said f).long (layout e.of)) is ∙ ap (λ (s : SaidForm). s.long (layout e.of)) (level-Cast x)

pub long-Clog2 : (e : Expr) (x : Expr) → e.form ≡ V.Clog2 x → (said e).long ≡ (form_step (Form-F.Clog2 (said x))).long (layout e.of)
long-Clog2 e x is = long-form e ∙ ap (λ f. (form_said f).long (layout e.of)) is ∙ ap (λ (s : SaidForm). s.long (layout e.of)) (level-Clog2 x)

pub long-Pattern : (e : Expr) (es : List Expr) → e.form ≡ V.Pattern es → (said e).long ≡ (form_step (Form-F.Pattern (map said es))).long (layout e.of)
long-Pattern e es is = long-form e ∙ ap (λ f. (form_said f).long (layout e.of)) is ∙ ap (λ (s : SaidForm). s.long (layout e.of)) (level-Pattern es)

pub long-Call : (e : Expr) (f : ℕ) (es : List Expr) → e.form ≡ V.Call f es → (said e).long ≡ (form_step (Form-F.Call f (map said es))).long (layout e.of)
long-Call e f es is = long-form e ∙ ap (λ f. (form_said f).long (layout e.of)) is ∙ ap (λ (s : SaidForm). s.long (layout e.of)) (level-Call f es)

pub long-Stream : (e : Expr) (reversed : Bool) (n : ℕ) (es : List Expr) → e.form ≡ V.Stream reversed n es → (said e).long ≡ (form_step (Form-F.Stream reversed n (map said es))).long (layout e.of)
long-Stream e reversed n es is = long-form e ∙ ap (λ f. (form_said f).long (layout e.of)) is ∙ ap (λ (s : SaidForm). s.long (layout e.of)) (level-Stream reversed n es)
