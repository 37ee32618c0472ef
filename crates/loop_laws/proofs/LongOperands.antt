-- Where constant indices of expressions that are no select paths take too long, by their operands.
use Rattle.std.proofs.Common.{◌≡◌, ℕ, ◌≤◌, ℤ, Bool, false, List, [], ◌∷◌, ◌++◌, map, flat_map, zip, length, Option, refl, ap, sym, ◌∙◌, arith, rules}
use Rattle.b4_core.specs.declared.bit.Bit4.{Bit4}
use Rattle.b4_core.specs.declared.operators.UnOp.{UnOp}
use Rattle.b4_core.specs.declared.operators.BinOp.{BinOp}
use Rattle.b4_core.specs.declared.operators.RedOp.{RedOp}
use Rattle.b4_core.specs.declared.operators.ShiftOp.{ShiftOp}
use Rattle.b4_core.specs.declared.operators.OrdOp.{OrdOp}
use Rattle.b4_core.specs.declared.operators.EqOp.{EqOp}
use Rattle.sv_types.specs.declared.types.Value.{Value}
use Rattle.sv_types.specs.declared.expression.Expr.{Expr}
use Rattle.sv_types.specs.declared.expression.Choice.{Choice, out-Choice}
use Rattle.sv_types.specs.declared.expression.Choice.TheVariants as C
use Rattle.sv_types.specs.declared.expression.Form.{Form, Form-F, out-Form, the_lemmas}
use Rattle.sv_types.specs.declared.expression.Form.TheVariants as V
use Rattle.sv_types.specs.Layouts.{Part, layout}
use Rattle.sv_types.specs.Surroundings.{Parameter, Sight}
use Rattle.sv_types.specs.Operators.{parts_of}
use Rattle.sv_types.proofs.Terms.{Steps, by-expr}
use Rattle.eval_parts.specs.Steps.{is_path}
use Rattle.eval_parts.specs.Targets.{marks_of_parts, marks_of_formals}
use Rattle.eval_forms.specs.Asked.{Asked, alone_asked, choice_asked, assigned_asked, form_asked}
use Rattle.eval_forms.proofs.Alternatives as I
use Rattle.eval_forms.proofs.Strict as K
use Rattle.design_breaks.specs.Indices.{Long, SaidChoice, all, all_said, lesser, said}
use Rattle.loop_laws.specs.Operands.{all_long, PassesFew}
use Rattle.loop_laws.proofs.Lesser.{lesser-none, lesser-assoc}
use Rattle.loop_laws.proofs.SaidLevels as S
use Rattle.loop_laws.proofs.SaidLevels.{choice_said}

-- what an expression asks of its operands
abbrev pub asks : Expr → (ℕ → List Parameter) → ℕ → Bool → List Asked
asks e fs w s = form_asked (layout e.of) fs w s (out-Form e.form)

abbrev Operated : Expr → Type 0
Operated e = (fs : ℕ → List Parameter) (w : ℕ) (s : Bool) (k : Sight) → PassesFew fs e → (said e).long k ≡ all_long k (asks e fs w s)

-- by its form
by-form : (e : Expr) (f : Form) (y : _) (l : Long) (fs : ℕ → List Parameter) (w : ℕ) (s : Bool) (k : Sight) → e.form ≡ f → out-Form f ≡ y → (said e).long ≡ l → l k ≡ all_long k (form_asked (layout e.of) fs w s y)
    → (said e).long k ≡ all_long k (asks e fs w s)
by-form e f y l fs w s k is out level same = ap (λ (x : Long). x k) level ∙ same ∙ ap (all_long k) (K.asked-by e f y fs w s is out)

-- lists of operands
long-alone : (es : List Expr) (k : Sight) → all_said (map said es) k ≡ all_long k (map alone_asked es)
long-alone [] k = refl
long-alone (e ∷ es) k = ap (lesser ((said e).long k)) (long-alone es k)

long-parts : (ps : List Part) (es : List Expr) (k : Sight) → all_said (map (λ p. p.1) (zip ps (map said es))) k ≡ all_long k (assigned_asked (marks_of_parts ps) es)
long-parts [] es k = refl
long-parts (p ∷ ps) [] k = refl
long-parts (p ∷ ps) (e ∷ es) k = ap (lesser ((said e).long k)) (long-parts ps es k)

long-passed : (ps : List Parameter) (es : List Expr) (k : Sight) → length es ≤ length ps → all_said (map said es) k ≡ all_long k (assigned_asked (marks_of_formals ps) es)
long-passed [] [] k h = refl
long-passed [] (e ∷ es) k h = absurd (omega arith)
long-passed (p ∷ ps) [] k h = refl
long-passed (p ∷ ps) (e ∷ es) k h = ap (lesser ((said e).long k)) (long-passed ps es k (omega arith))

-- alternatives of `inside`
abbrev choice_asks : Expr → Choice → List Asked
choice_asks x c = choice_asked x (out-Choice c)

abbrev LongIt : Choice → Type 0
LongIt c = (x : Expr) (k : Sight) (later : Option ℕ) (asked : List Asked) → later ≡ all_long k asked → lesser ((choice_said c).long k) later ≡ all_long k (choice_asks x c ++ asked)

long-value : (v : Expr) → LongIt (C.Value v)
long-value v x k later asked h =
    ap (λ (c : SaidChoice). lesser (c.long k) later) (S.said-value v) ∙ ap (lesser ((said v).long k)) h ∙ ap (λ o. all_long k (choice_asked x o ++ asked)) (sym (I.out-Value v))

long-range : (low high : Expr) → LongIt (C.Range low high)
long-range low high x k later asked h =
    ap (λ (c : SaidChoice). lesser (c.long k) later) (S.said-range low high)
    ∙ lesser-assoc ((said low).long k) ((said high).long k) later
    ∙ ap (λ o. lesser ((said low).long k) (lesser ((said high).long k) o)) h
    ∙ ap (λ o. all_long k (choice_asked x o ++ asked)) (sym (I.out-Range low high))

long-choices : (x : Expr) (cs : List Choice) (k : Sight) → all (map (λ (c : SaidChoice). c.long) (map choice_said cs)) k ≡ all_long k (flat_map (choice_asks x) cs)
long-choices x [] k = refl
long-choices x (c ∷ cs) k = I.by-choice LongIt long-value long-range c x k _ _ (long-choices x cs k)

out-Call : (f : ℕ) (es : List Expr) → out-Form (V.Call f es) ≡ Form-F.Call f es
out-Call f es = search (rules, the_lemmas)

of-Literal : (v : List Bit4) (goes_on : Bool) (e : Expr) → e.form ≡ V.Literal v goes_on → Operated e
of-Literal v goes_on e is fs w s k few = by-form e (V.Literal v goes_on) (Form-F.Literal v goes_on) _ fs w s k is (K.out-Literal v goes_on) (S.long-Literal e v goes_on is) (refl)

of-Fill : (b : Bit4) (e : Expr) → e.form ≡ V.Fill b → Operated e
of-Fill b e is fs w s k few = by-form e (V.Fill b) (Form-F.Fill b) _ fs w s k is (K.out-Fill b) (S.long-Fill e b is) (refl)

of-Constant : (v : Value) (e : Expr) → e.form ≡ V.Constant v → Operated e
of-Constant v e is fs w s k few = by-form e (V.Constant v) (Form-F.Constant v) _ fs w s k is (K.out-Constant v) (S.long-Constant e v is) (refl)

of-Unary : (op : UnOp) (x : Expr) (e : Expr) → e.form ≡ V.Unary op x → Operated e
of-Unary op x e is fs w s k few = by-form e (V.Unary op x) (Form-F.Unary op x) _ fs w s k is (K.out-Unary op x) (S.long-Unary e op x is) (sym (lesser-none ((said x).long k)))

of-Reduce : (op : RedOp) (x : Expr) (e : Expr) → e.form ≡ V.Reduce op x → Operated e
of-Reduce op x e is fs w s k few = by-form e (V.Reduce op x) (Form-F.Reduce op x) _ fs w s k is (K.out-Reduce op x) (S.long-Reduce e op x is) (sym (lesser-none ((said x).long k)))

of-Negate : (x : Expr) (e : Expr) → e.form ≡ V.Negate x → Operated e
of-Negate x e is fs w s k few = by-form e (V.Negate x) (Form-F.Negate x) _ fs w s k is (K.out-Negate x) (S.long-Negate e x is) (sym (lesser-none ((said x).long k)))

of-Binary : (op : BinOp) (x y : Expr) (e : Expr) → e.form ≡ V.Binary op x y → Operated e
of-Binary op x y e is fs w s k few = by-form e (V.Binary op x y) (Form-F.Binary op x y) _ fs w s k is (K.out-Binary op x y) (S.long-Binary e op x y is) (ap (lesser ((said x).long k)) (sym (lesser-none ((said y).long k))))

of-Shift : (op : ShiftOp) (x y : Expr) (e : Expr) → e.form ≡ V.Shift op x y → Operated e
of-Shift op x y e is fs w s k few = by-form e (V.Shift op x y) (Form-F.Shift op x y) _ fs w s k is (K.out-Shift op x y) (S.long-Shift e op x y is) (ap (lesser ((said x).long k)) (sym (lesser-none ((said y).long k))))

of-Power : (x y : Expr) (e : Expr) → e.form ≡ V.Power x y → Operated e
of-Power x y e is fs w s k few = by-form e (V.Power x y) (Form-F.Power x y) _ fs w s k is (K.out-Power x y) (S.long-Power e x y is) (ap (lesser ((said x).long k)) (sym (lesser-none ((said y).long k))))

of-Order : (op : OrdOp) (x y : Expr) (e : Expr) → e.form ≡ V.Order op x y → Operated e
of-Order op x y e is fs w s k few = by-form e (V.Order op x y) (Form-F.Order op x y) _ fs w s k is (K.out-Order op x y) (S.long-Order e op x y is) (ap (lesser ((said x).long k)) (sym (lesser-none ((said y).long k))))

of-Equal : (op : EqOp) (negated : Bool) (x y : Expr) (e : Expr) → e.form ≡ V.Equal op negated x y → Operated e
of-Equal op negated x y e is fs w s k few = by-form e (V.Equal op negated x y) (Form-F.Equal op negated x y) _ fs w s k is (K.out-Equal op negated x y) (S.long-Equal e op negated x y is) (ap (lesser ((said x).long k)) (sym (lesser-none ((said y).long k))))

of-Both : (x y : Expr) (e : Expr) → e.form ≡ V.Both x y → Operated e
of-Both x y e is fs w s k few = by-form e (V.Both x y) (Form-F.Both x y) _ fs w s k is (K.out-Both x y) (S.long-Both e x y is) (ap (lesser ((said x).long k)) (sym (lesser-none ((said y).long k))))

of-Either : (x y : Expr) (e : Expr) → e.form ≡ V.Either x y → Operated e
of-Either x y e is fs w s k few = by-form e (V.Either x y) (Form-F.Either x y) _ fs w s k is (K.out-Either x y) (S.long-Either e x y is) (ap (lesser ((said x).long k)) (sym (lesser-none ((said y).long k))))

of-Choose : (z x y : Expr) (e : Expr) → e.form ≡ V.Choose z x y → Operated e
of-Choose z x y e is fs w s k few = by-form e (V.Choose z x y) (Form-F.Choose z x y) _ fs w s k is (K.out-Choose z x y) (S.long-Choose e z x y is) (ap (λ o. lesser ((said z).long k) (lesser ((said x).long k) o)) (sym (lesser-none ((said y).long k))))

of-Concat : (es : List Expr) (e : Expr) → e.form ≡ V.Concat es → Operated e
of-Concat es e is fs w s k few = by-form e (V.Concat es) (Form-F.Concat es) _ fs w s k is (K.out-Concat es) (S.long-Concat e es is) (long-alone es k)

of-Repeat : (n : ℕ) (es : List Expr) (e : Expr) → e.form ≡ V.Repeat n es → Operated e
of-Repeat n es e is fs w s k few = by-form e (V.Repeat n es) (Form-F.Repeat n es) _ fs w s k is (K.out-Repeat n es) (S.long-Repeat e n es is) (long-alone es k)

of-Inside : (x : Expr) (cs : List Choice) (e : Expr) → e.form ≡ V.Inside x cs → Operated e
of-Inside x cs e is fs w s k few = by-form e (V.Inside x cs) (Form-F.Inside x cs) _ fs w s k is (I.out-Inside x cs) (S.long-Inside e x cs is) (ap (lesser ((said x).long k)) (long-choices x cs k))

of-Cast : (x : Expr) (e : Expr) → e.form ≡ V.Cast x → Operated e
of-Cast x e is fs w s k few = by-form e (V.Cast x) (Form-F.Cast x) _ fs w s k is (K.out-Cast x) (S.long-Cast e x is) (sym (lesser-none ((said x).long k)))

of-Clog2 : (x : Expr) (e : Expr) → e.form ≡ V.Clog2 x → Operated e
of-Clog2 x e is fs w s k few = by-form e (V.Clog2 x) (Form-F.Clog2 x) _ fs w s k is (K.out-Clog2 x) (S.long-Clog2 e x is) (sym (lesser-none ((said x).long k)))

of-Pattern : (es : List Expr) (e : Expr) → e.form ≡ V.Pattern es → Operated e
of-Pattern es e is fs w s k few = by-form e (V.Pattern es) (Form-F.Pattern es) _ fs w s k is (K.out-Pattern es) (S.long-Pattern e es is) (long-parts (parts_of (layout e.of)) es k)

of-Call : (f : ℕ) (es : List Expr) (e : Expr) → e.form ≡ V.Call f es → Operated e
of-Call f es e is fs w s k few = by-form e (V.Call f es) (Form-F.Call f es) _ fs w s k is (out-Call f es) (S.long-Call e f es is) (long-passed (fs f) es k (few f es is))

of-Stream : (reversed : Bool) (n : ℕ) (es : List Expr) (e : Expr) → e.form ≡ V.Stream reversed n es → Operated e
of-Stream reversed n es e is fs w s k few = by-form e (V.Stream reversed n es) (Form-F.Stream reversed n es) _ fs w s k is (K.out-Stream reversed n es) (S.long-Stream e reversed n es is) (long-alone es k)

-- paths aren't looked at here
abbrev OperatedForm : Form → Type 0
OperatedForm f = (e : Expr) → e.form ≡ f → is_path (out-Form e.form) ≡ false → Operated e

abbrev OperatedExpr : Expr → Type 0
OperatedExpr e = is_path (out-Form e.form) ≡ false → Operated e

abbrev Any : Choice → Type 0
Any c = Unit {0}

out-Signal : (n : ℕ) → out-Form (V.Signal n) ≡ Form-F.Signal n
out-Signal n = search (rules, the_lemmas)

not-Signal : (n : ℕ) → OperatedForm (V.Signal n)
not-Signal n e is path = let p = sym (ap is_path (ap out-Form is ∙ out-Signal n)) ∙ path in absurd (cc)

out-Local : (n : ℕ) → out-Form (V.Local n) ≡ Form-F.Local n
out-Local n = search (rules, the_lemmas)

not-Local : (n : ℕ) → OperatedForm (V.Local n)
not-Local n e is path = let p = sym (ap is_path (ap out-Form is ∙ out-Local n)) ∙ path in absurd (cc)

out-Member : (x : Expr) (k : ℕ) → out-Form (V.Member x k) ≡ Form-F.Member x k
out-Member x k = search (rules, the_lemmas)

not-Member : (x : Expr) (k : ℕ) → OperatedForm (V.Member x k)
not-Member x k e is path = let p = sym (ap is_path (ap out-Form is ∙ out-Member x k)) ∙ path in absurd (cc)

out-Index : (x i : Expr) → out-Form (V.Index x i) ≡ Form-F.Index x i
out-Index x i = search (rules, the_lemmas)

not-Index : (x i : Expr) → OperatedForm (V.Index x i)
not-Index x i e is path = let p = sym (ap is_path (ap out-Form is ∙ out-Index x i)) ∙ path in absurd (cc)

out-Part : (x : Expr) (left right : ℤ) → out-Form (V.Part x left right) ≡ Form-F.Part x left right
out-Part x left right = search (rules, the_lemmas)

not-Part : (x : Expr) (left right : ℤ) → OperatedForm (V.Part x left right)
not-Part x left right e is path = let p = sym (ap is_path (ap out-Form is ∙ out-Part x left right)) ∙ path in absurd (cc)

out-Slide : (x i : Expr) (n : ℕ) (up : Bool) → out-Form (V.Slide x i n up) ≡ Form-F.Slide x i n up
out-Slide x i n up = search (rules, the_lemmas)

not-Slide : (x i : Expr) (n : ℕ) (up : Bool) → OperatedForm (V.Slide x i n up)
not-Slide x i n up e is path = let p = sym (ap is_path (ap out-Form is ∙ out-Slide x i n up)) ∙ path in absurd (cc)

operated-steps : Steps Any OperatedForm OperatedExpr
operated-steps = record {
  value = λ e h. tt;
  range = λ a b g h. tt;
  expr = λ e h path. h e refl path;
  literal = λ v goes_on e is path. of-Literal v goes_on e is;
  fill = λ b e is path. of-Fill b e is;
  constant = λ v e is path. of-Constant v e is;
  signal = λ n. not-Signal n;
  local = λ n. not-Local n;
  member = λ x k h0. not-Member x k;
  index = λ x i h0 h1. not-Index x i;
  part_select = λ x left right h0. not-Part x left right;
  sliding = λ x i n up h0 h1. not-Slide x i n up;
  unary = λ op x h0 e is path. of-Unary op x e is;
  reduce = λ op x h0 e is path. of-Reduce op x e is;
  negate = λ x h0 e is path. of-Negate x e is;
  binary = λ op x y h0 h1 e is path. of-Binary op x y e is;
  shift = λ op x y h0 h1 e is path. of-Shift op x y e is;
  power = λ x y h0 h1 e is path. of-Power x y e is;
  order = λ op x y h0 h1 e is path. of-Order op x y e is;
  equal = λ op negated x y h0 h1 e is path. of-Equal op negated x y e is;
  both = λ x y h0 h1 e is path. of-Both x y e is;
  either = λ x y h0 h1 e is path. of-Either x y e is;
  choose = λ z x y h0 h1 h2 e is path. of-Choose z x y e is;
  concat = λ es h0 e is path. of-Concat es e is;
  repeat = λ n es h0 e is path. of-Repeat n es e is;
  inside = λ x cs h0 h1 e is path. of-Inside x cs e is;
  cast = λ x h0 e is path. of-Cast x e is;
  clog2 = λ x h0 e is path. of-Clog2 x e is;
  pattern = λ es h0 e is path. of-Pattern es e is;
  call = λ f es h0 e is path. of-Call f es e is;
  stream = λ reversed n es h0 e is path. of-Stream reversed n es e is;
}

-- each expression that is no select path
pub operated : (e : Expr) → is_path (out-Form e.form) ≡ false → Operated e
operated = by-expr Any OperatedForm OperatedExpr operated-steps
