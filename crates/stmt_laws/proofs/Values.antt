-- Constants have as many bits as their types.
use Rattle.std.proofs.Common.{◌≡◌, ℕ, max, Bool, true, false, ◌||◌, List, [], ◌∷◌, length, map, refl, arith, ap, sym, ◌∙◌, subst, rules, length-take}
use Rattle.std.specs.Prelude.{slice_index_or, Ok}
use Rattle.std.specs.List.{list_any}
use Rattle.sv_types.specs.declared.expression.Expr.{Expr, Expr-F, roll-Expr, map-Expr, ind-Expr, fold-roll-Expr, the_lemmas}
use Rattle.sv_types.specs.declared.expression.Form.{Form, Form-F, fold-Form, roll-Form, map-Form, fold-roll-Form}
use Rattle.sv_types.specs.declared.expression.Form.TheVariants as V
use Rattle.sv_types.specs.declared.expression.Choice.{Choice, Choice-F, roll-Choice, map-Choice, fold-roll-Choice}
use Rattle.sv_types.specs.declared.statement.Function.{Function}
use Rattle.sv_types.specs.declared.types.SvType.{SvType}
use Rattle.sv_types.specs.Layouts.{layout, width_of}
use Rattle.sv_types.specs.Meanings.{wide, signed}
use Rattle.sv_types.specs.Surroundings.{Around}
use Rattle.sv_types.specs.Values.{bits}
use Rattle.sv_types.specs.Expressions.{meaning}
use Rattle.sv_types.specs.Operators.{assigned_to}
use Rattle.sv_types.proofs.Stored.{length-stored}
use Rattle.sv_types.proofs.Terms.{Steps, by-expr}
use Rattle.sv_types.proofs.ValueLengths.{length-value}
use Rattle.eval_parts.specs.Streams.{IsCut}
use Rattle.eval_parts.proofs.Given as G
use Rattle.expr_type.specs.Typings.{Checked, refused, where_whole, lesser}
use Rattle.expr_type.specs.Names.{Source, position}
use Rattle.expr_type.specs.Operands.{is_constant, calls_no_stream, stops, nothing_held, value_by}
use Rattle.expr_type.specs.declared.uses.Uses.{Uses}
use Rattle.expr_type.specs.Uses as U
use Rattle.expr_type.specs.Uses.{Part, uses, choice_uses, names_any, holds_stream, stream_marks}
use Rattle.typing_fits.proofs.Contexts.{refused-no, refused-then, whole-part, lesser-both}
use Rattle.typing_fits.proofs.Numbers.{value-long}

-- a part that keeps what stands before it: a stream there
abbrev Stays : Part → Type 0
Stays p = (u : Uses) → u.streams ≡ true → (p u).streams ≡ true

abbrev AllStay : List Part → Type 0
AllStay [] = Unit {0}
AllStay (p ∷ ps) = Stays p × AllStay ps

turn-stays : (ps : List Part) → AllStay ps → Stays (U.in_turn ps)
turn-stays [] s u h = h
turn-stays (p ∷ ps) s u h = turn-stays ps s.1 (p u) (s.0 u h)

abbrev form_uses : Form → Part
form_uses = fold-Form Part Part Part U.choice_step U.form_step U.expr_step

abbrev AChoice : Type 0
AChoice = (x : Choice) × Stays (choice_uses x)

abbrev AForm : Type 0
AForm = (x : Form) × Stays (form_uses x)

abbrev AnExpr : Type 0
AnExpr = (x : Expr) × Stays (uses x)

exprs-stay : (ys : List AnExpr) → AllStay (map uses (map (λ e. e.0) ys))
exprs-stay [] = tt
exprs-stay (y ∷ ys) = (y.1, exprs-stay ys)

choices-stay : (ys : List AChoice) → AllStay (map choice_uses (map (λ e. e.0) ys))
choices-stay [] = tt
choices-stay (y ∷ ys) = (y.1, choices-stay ys)

abbrev choice_in : Choice-F AChoice AForm AnExpr → Choice-F Choice Form Expr
choice_in = map-Choice AChoice AForm AnExpr Choice Form Expr (λ e. e.0) (λ e. e.0) (λ e. e.0)

abbrev form_in : Form-F AChoice AForm AnExpr → Form-F Choice Form Expr
form_in = map-Form AChoice AForm AnExpr Choice Form Expr (λ e. e.0) (λ e. e.0) (λ e. e.0)

abbrev expr_in : Expr-F AChoice AForm AnExpr → Expr-F Choice Form Expr
expr_in = map-Expr AChoice AForm AnExpr Choice Form Expr (λ e. e.0) (λ e. e.0) (λ e. e.0)

choice-case : (y : Choice-F AChoice AForm AnExpr) → Stays (U.choice_step (map-Choice Choice Form Expr Part Part Part choice_uses form_uses uses (choice_in y)))
choice-case (Choice-F.Value e) u h = e.1 u h
choice-case (Choice-F.Range low high) u h = high.1 (uses low.0 u) (low.1 u h)

form-case : (y : Form-F AChoice AForm AnExpr) → Stays (U.form_step (map-Form Choice Form Expr Part Part Part choice_uses form_uses uses (form_in y)))
form-case (Form-F.Literal v goes_on) u h = h
form-case (Form-F.Fill b) u h = h
form-case (Form-F.Constant v) u h = h
form-case (Form-F.Signal n) u h = h
form-case (Form-F.Local n) u h = h
form-case (Form-F.Member e k) u h = e.1 u h
form-case (Form-F.Index e i) u h = i.1 (uses e.0 u) (e.1 u h)
form-case (Form-F.Part e left right) u h = e.1 u h
form-case (Form-F.Slide e i n up) u h = i.1 (uses e.0 u) (e.1 u h)
form-case (Form-F.Unary op e) u h = e.1 u h
form-case (Form-F.Reduce op e) u h = e.1 u h
form-case (Form-F.Negate e) u h = e.1 u h
form-case (Form-F.Binary op a b) u h = b.1 (uses a.0 u) (a.1 u h)
form-case (Form-F.Shift op a b) u h = b.1 (uses a.0 u) (a.1 u h)
form-case (Form-F.Power a b) u h = b.1 (uses a.0 u) (a.1 u h)
form-case (Form-F.Order op a b) u h = b.1 (uses a.0 u) (a.1 u h)
form-case (Form-F.Equal op negated a b) u h = b.1 (uses a.0 u) (a.1 u h)
form-case (Form-F.Both a b) u h = b.1 (uses a.0 u) (a.1 u h)
form-case (Form-F.Either a b) u h = b.1 (uses a.0 u) (a.1 u h)
form-case (Form-F.Choose on a b) u h = b.1 (uses a.0 (uses on.0 u)) (a.1 (uses on.0 u) (on.1 u h))
form-case (Form-F.Concat es) u h = turn-stays (map uses (map (λ e. e.0) es)) (exprs-stay es) u h
form-case (Form-F.Repeat n es) u h = turn-stays (map uses (map (λ e. e.0) es)) (exprs-stay es) u h
form-case (Form-F.Inside e cs) u h =
    e.1 (U.in_turn (map choice_uses (map (λ c. c.0) cs)) u) (turn-stays (map choice_uses (map (λ c. c.0) cs)) (choices-stay cs) u h)
form-case (Form-F.Cast e) u h = e.1 u h
form-case (Form-F.Clog2 e) u h = e.1 u h
form-case (Form-F.Pattern es) u h = turn-stays (map uses (map (λ e. e.0) es)) (exprs-stay es) u h
form-case (Form-F.Call f es) u h = turn-stays (map uses (map (λ e. e.0) es)) (exprs-stay es) (U.calling f u) h
form-case (Form-F.Stream reversed n es) u h = turn-stays (map uses (map (λ e. e.0) es)) (exprs-stay es) (U.streaming u) refl

choice-level : (y : Choice-F AChoice AForm AnExpr) → Stays (choice_uses (roll-Choice (choice_in y)))
choice-level y = subst Stays (sym (fold-roll-Choice Part Part Part U.choice_step U.form_step U.expr_step (choice_in y))) (choice-case y)

form-level : (y : Form-F AChoice AForm AnExpr) → Stays (form_uses (roll-Form (form_in y)))
form-level y = subst Stays (sym (fold-roll-Form Part Part Part U.choice_step U.form_step U.expr_step (form_in y))) (form-case y)

expr-level : (y : Expr-F AChoice AForm AnExpr) → Stays (uses (roll-Expr (expr_in y)))
expr-level y = subst Stays (sym (fold-roll-Expr Part Part Part U.choice_step U.form_step U.expr_step (expr_in y))) y.form.1

uses-stay : (e : Expr) → Stays (uses e)
uses-stay =
    ind-Expr (λ c. Stays (choice_uses c)) (λ f. Stays (form_uses f)) (λ e. Stays (uses e)) (λ x y is. subst (λ z. Stays (choice_uses (roll-Choice z))) is (choice-level y))
    (λ x y is. subst (λ z. Stays (form_uses (roll-Form z))) is (form-level y)) (λ x y is. subst (λ z. Stays (uses (roll-Expr z))) is (expr-level y))

all-stay : (es : List Expr) → AllStay (map uses es)
all-stay [] = tt
all-stay (e ∷ es) = (uses-stay e, all-stay es)

-- a stream is one that it holds
uses-form : (e : Expr) → uses e ≡ form_uses e.form
uses-form e = search (rules, the_lemmas)

uses-Stream : (reversed : Bool) (n : ℕ) (es : List Expr) → form_uses (V.Stream reversed n es) ≡ (λ u. U.in_turn (map uses es) (U.streaming u))
uses-Stream reversed n es = search (rules, the_lemmas)

stream-held : (e : Expr) (reversed : Bool) (n : ℕ) (es : List Expr) → e.form ≡ V.Stream reversed n es → (uses e U.nothing).streams ≡ true
stream-held e reversed n es is =
    let level : uses e ≡ (λ u. U.in_turn (map uses es) (U.streaming u)) = uses-form e ∙ ap form_uses is ∙ uses-Stream reversed n es in
    ap (λ (p : Part). (p U.nothing).streams) level ∙ turn-stays (map uses es) (all-stay es) (U.streaming U.nothing) refl

-- an expression without streams is valued at the larger width and cut
abbrev AnyChoice : Choice → Type 0
AnyChoice c = Unit {0}

abbrev pub NoStream : Expr → Type 0
NoStream e = (uses e U.nothing).streams ≡ false

abbrev CutForm : Form → Type 0
CutForm f = (e : Expr) → e.form ≡ f → NoStream e → IsCut (meaning e)

abbrev CutExpr : Expr → Type 0
CutExpr e = NoStream e → IsCut (meaning e)

cut-steps : Steps AnyChoice CutForm CutExpr
cut-steps = record {
  value = λ e h. tt;
  range = λ low high h g. tt;
  expr = λ e h free. h e refl free;
  literal = λ v goes_on e is free. G.cut-Literal e v goes_on is;
  fill = λ b e is free. G.cut-Fill e b is;
  constant = λ v e is free. G.cut-Constant e v is;
  signal = λ n e is free. G.cut-Signal e n is;
  local = λ n e is free. G.cut-Local e n is;
  member = λ x k h0 e is free. G.cut-Member e x k is;
  index = λ x y h0 h1 e is free. G.cut-Index e x y is;
  part_select = λ x left right h0 e is free. G.cut-Part e x left right is;
  sliding = λ x y n up h0 h1 e is free. G.cut-Slide e x y n up is;
  unary = λ op x h1 e is free. G.cut-Unary e op x is;
  reduce = λ op x h1 e is free. G.cut-Reduce e op x is;
  negate = λ x h0 e is free. G.cut-Negate e x is;
  binary = λ op x y h1 h2 e is free. G.cut-Binary e op x y is;
  shift = λ op x y h1 h2 e is free. G.cut-Shift e op x y is;
  power = λ x y h0 h1 e is free. G.cut-Power e x y is;
  order = λ op x y h1 h2 e is free. G.cut-Order e op x y is;
  equal = λ op negated x y h2 h3 e is free. G.cut-Equal e op negated x y is;
  both = λ x y h0 h1 e is free. G.cut-Both e x y is;
  either = λ x y h0 h1 e is free. G.cut-Either e x y is;
  choose = λ z x y h0 h1 h2 e is free. G.cut-Choose e z x y is;
  concat = λ es h0 e is free. G.cut-Concat e es is;
  repeat = λ n es h1 e is free. G.cut-Repeat e n es is;
  inside = λ x cs h0 h1 e is free. G.cut-Inside e x cs is;
  cast = λ x h0 e is free. G.cut-Cast e x is;
  clog2 = λ x h0 e is free. G.cut-Clog2 e x is;
  pattern = λ es h0 e is free. G.cut-Pattern e es is;
  call = λ f es h1 e is free. G.cut-Call e f es is;
  stream = λ reversed n es h2 e is free. absurd (let h = stream-held e reversed n es is in cc);
}

cut-of : (e : Expr) → NoStream e → IsCut (meaning e)
cut-of = by-expr AnyChoice CutForm CutExpr cut-steps

assigned-long : (e : Expr) (marks : List Bool) (a : Around) → NoStream e → length (assigned_to marks (meaning e) a) ≡ length marks
assigned-long e marks a free =
    let n = length marks in
    let m = meaning e in
    let x = m.value (max n (wide m)) (signed m) a in
    let long : length x ≡ max n (wide m) = length-value e (max n (wide m)) (signed m) a in
    let cut : length (m.given n a) ≡ n = ap length ((cut-of e free).given n a) ∙ omega (arith, length-take n x, long) in
    length-stored marks (m.given n a) cut

-- constants
no-left : (a b : Bool) → (a || b) ≡ false → a ≡ false
no-left false b h = refl
no-left true b h = absurd (cc)

pub no-stream : {A : Type 0} (k : Source) (first : ℕ) (fs : List Function) (e : Expr) (other : Checked A) (a : A) → is_constant k first fs e other ≡ Ok a → NoStream e
no-stream {A = A} k first fs e other a h =
    let inner = where_whole (lesser other (calls_no_stream k first fs e)) (λ p. refused (stops fs e) (position k first) 608 (Ok p.0)) in
    let p = whole-part (lesser other (calls_no_stream k first fs e)) (λ p. refused (stops fs e) (position k first) 608 (Ok p.0)) a (refused-then (names_any e) (position k first) 406 inner a h) in
    let b = lesser-both other (calls_no_stream k first fs e) p.part p.is in
    let free = refused-no (holds_stream fs e) (position k first) 512 (Ok e) p.part.1 b.right in
    no-left (uses e U.nothing).streams (list_any (λ n. slice_index_or (stream_marks fs) n false) (uses e U.nothing).calls) free

pub value-has : (fs : List Function) (t : SvType) (e : Expr) → NoStream e → length (bits (value_by fs t e)) ≡ width_of t
value-has fs t e free =
    value-long t (assigned_to (layout t).two_state (meaning e) (nothing_held fs)) (assigned-long e (layout t).two_state (nothing_held fs) free)
