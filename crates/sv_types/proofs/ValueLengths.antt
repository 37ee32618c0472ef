-- The value of an expression has the width at which it is valued.
use Rattle.std.proofs.Common.{◌≡◌, ℕ, Bool, false, ℤ, List, length, map, sym, ◌∙◌, subst}
use Rattle.std.proofs.lemmas.List.{length-replicate}
use Rattle.b4_core.specs.declared.bit.Bit4.{Bit4}
use Rattle.b4_core.specs.declared.operators.UnOp.{UnOp}
use Rattle.b4_core.specs.declared.operators.BinOp.{BinOp}
use Rattle.b4_core.specs.declared.operators.ShiftOp.{ShiftOp}
use Rattle.sv_types.specs.declared.types.Value.{Value}
use Rattle.sv_types.specs.declared.expression.Expr.{Expr}
use Rattle.sv_types.specs.declared.expression.Form.{Form}
use Rattle.sv_types.specs.declared.expression.Choice.{Choice}
use Rattle.sv_types.specs.Layouts.{Layout, layout}
use Rattle.sv_types.specs.Surroundings.{Around}
use Rattle.sv_types.specs.Meanings.{Meaning, signed, alone}
use Rattle.sv_types.specs.Operators.{Alternative, truth}
use Rattle.sv_types.specs.Operators as O
use Rattle.sv_types.specs.Paths as P
use Rattle.sv_types.specs.Expressions.{meaning}
use Rattle.sv_types.proofs.Levels as L
use Rattle.sv_types.proofs.Levels.{form_meaning, meaning-form}
use Rattle.sv_types.proofs.OperatorLengths.{length-ext, length-unary, length-binary, length-shift, length-power, length-chosen}
use Rattle.sv_types.proofs.Terms.{Steps, by-expr}

-- a value has the width of its context
abbrev pub Long : Meaning → Type 0
Long m = (w : ℕ) (s : Bool) (a : Around) → length (m.value w s a) ≡ w

long-literal : (of : Layout) (at : ℕ) (goes_on : Bool) (v : List Bit4) → Long (O.literal of at goes_on v)
unfolding O.literal
long-literal of at goes_on v w s a = length-ext w _ v

long-fill : (of : Layout) (at : ℕ) (b : Bit4) → Long (O.fill of at b)
unfolding O.fill
long-fill of at b w s a = length-replicate w b

long-constant : (of : Layout) (at : ℕ) (v : Value) → Long (O.constant of at v)
unfolding O.constant
long-constant of at v w s a = length-ext w s _

long-signal : (of : Layout) (at n : ℕ) → Long (P.signal of at n)
unfolding P.signal
long-signal of at n w s a = length-ext w s _

long-local : (of : Layout) (at n : ℕ) → Long (P.local of at n)
unfolding P.local
long-local of at n w s a = length-ext w s _

long-member : (of : Layout) (at : ℕ) (m : Meaning) (k : ℕ) → Long (P.member of at m k)
unfolding P.member
long-member of at m k w s a = length-ext w s _

long-index : (of : Layout) (at : ℕ) (m i : Meaning) → Long (P.index of at m i)
unfolding P.index
long-index of at m i w s a = length-ext w s _

long-part_select : (of : Layout) (at : ℕ) (m : Meaning) (left right : ℤ) → Long (P.part_select of at m left right)
unfolding P.part_select
long-part_select of at m left right w s a = length-ext w s _

long-sliding : (of : Layout) (at : ℕ) (m i : Meaning) (n : ℕ) (up : Bool) → Long (P.sliding of at m i n up)
unfolding P.sliding
long-sliding of at m i n up w s a = length-ext w s _

long-unary : (of : Layout) (at : ℕ) (op : UnOp) (m : Meaning) → Long m → Long (O.unary of at op m)
unfolding O.unary
long-unary of at op m long w s a = length-unary op (m.value w s a) ∙ long w s a

long-reduce : (of : Layout) (at : ℕ) (op : _) (m : Meaning) → Long (O.reduce of at op m)
unfolding O.reduce
long-reduce of at op m w s a = length-ext w s _

long-negate : (of : Layout) (at : ℕ) (m : Meaning) → Long (O.negate of at m)
unfolding O.negate
long-negate of at m w s a = length-ext w s _

long-binary : (of : Layout) (at : ℕ) (op : BinOp) (l r : Meaning) → Long l → Long r → Long (O.binary of at op l r)
unfolding O.binary
long-binary of at op l r h g w s a = length-binary op s (l.value w s a) (r.value w s a) w (h w s a) (g w s a)

long-shift : (of : Layout) (at : ℕ) (op : ShiftOp) (l r : Meaning) → Long l → Long (O.shift of at op l r)
unfolding O.shift
long-shift of at op l r h w s a = length-shift op s (l.value w s a) (alone r a) ∙ h w s a

long-power : (of : Layout) (at : ℕ) (l r : Meaning) → Long l → Long (O.power of at l r)
unfolding O.power
long-power of at l r h w s a = length-power s (signed r) (l.value w s a) (alone r a) ∙ h w s a

long-order : (of : Layout) (at : ℕ) (op : _) (l r : Meaning) → Long (O.order of at op l r)
unfolding O.order
long-order of at op l r w s a = length-ext w s _

long-equal : (of : Layout) (at : ℕ) (op : _) (negated : Bool) (l r : Meaning) → Long (O.equal of at op negated l r)
unfolding O.equal
long-equal of at op negated l r w s a = length-ext w s _

long-both : (of : Layout) (at : ℕ) (l r : Meaning) → Long (O.both of at l r)
unfolding O.both
long-both of at l r w s a = length-ext w s _

long-either : (of : Layout) (at : ℕ) (l r : Meaning) → Long (O.either of at l r)
unfolding O.either
long-either of at l r w s a = length-ext w s _

long-choose : (of : Layout) (at : ℕ) (on l r : Meaning) → Long l → Long r → Long (O.choose of at on l r)
unfolding O.choose
long-choose of at on l r h g w s a = length-chosen (truth on a) (l.value w s a) (r.value w s a) w (h w s a) (g w s a)

long-concat : (of : Layout) (at : ℕ) (ms : List Meaning) → Long (O.concat of at ms)
unfolding O.concat
long-concat of at ms w s a = length-ext w s _

long-repeat : (of : Layout) (at n : ℕ) (ms : List Meaning) → Long (O.repeat of at n ms)
unfolding O.repeat
long-repeat of at n ms w s a = length-ext w s _

long-inside : (of : Layout) (at : ℕ) (m : Meaning) (cs : List Alternative) → Long (O.inside of at m cs)
unfolding O.inside
long-inside of at m cs w s a = length-ext w s _

long-cast : (of : Layout) (at : ℕ) (m : Meaning) → Long (O.cast of at m)
unfolding O.cast
long-cast of at m w s a = length-ext w s _

long-clog2 : (of : Layout) (at : ℕ) (m : Meaning) → Long (O.clog2 of at m)
unfolding O.clog2
long-clog2 of at m w s a = length-ext w s _

long-pattern : (of : Layout) (at : ℕ) (ms : List Meaning) → Long (O.pattern of at ms)
unfolding O.pattern
long-pattern of at ms w s a = length-ext w s _

long-call : (of : Layout) (at f : ℕ) (ms : List Meaning) → Long (O.call of at f ms)
unfolding O.call
long-call of at f ms w s a = length-ext w s _

long-stream : (of : Layout) (at : ℕ) (reversed : Bool) (n : ℕ) (ms : List Meaning) → Long (O.stream of at reversed n ms)
unfolding O.stream
long-stream of at reversed n ms w s a = length-ext w false (O.streamed reversed n (O.joined ms a))

abbrev LongForm : Form → Type 0
LongForm f = (of : Layout) (at : ℕ) → Long (form_meaning f of at)

-- from the step of a form
by-step : (f : Form) (y : Layout → ℕ → Meaning) → form_meaning f ≡ y → ((of : Layout) (at : ℕ) → Long (y of at)) → LongForm f
by-step f y is long of at = subst (λ (g : Layout → ℕ → Meaning). Long (g of at)) (sym is) (long of at)

abbrev LongExpr : Expr → Type 0
LongExpr e = Long (meaning e)

abbrev Any : Choice → Type 0
Any c = Unit {0}

long-steps : Steps Any LongForm LongExpr
long-steps = record {
  value = λ e h. tt;
  range = λ a b h g. tt;
  expr = λ e h. subst Long (sym (meaning-form e)) (h (layout e.of) e.spot.at);
  literal = λ v goes_on. by-step _ _ (L.form-Literal v goes_on) (λ of at. long-literal of at goes_on v);
  fill = λ b. by-step _ _ (L.form-Fill b) (λ of at. long-fill of at b);
  constant = λ v. by-step _ _ (L.form-Constant v) (λ of at. long-constant of at v);
  signal = λ n. by-step _ _ (L.form-Signal n) (λ of at. long-signal of at n);
  local = λ n. by-step _ _ (L.form-Local n) (λ of at. long-local of at n);
  member = λ e k h. by-step _ _ (L.form-Member e k) (λ of at. long-member of at (meaning e) k);
  index = λ e i h g. by-step _ _ (L.form-Index e i) (λ of at. long-index of at (meaning e) (meaning i));
  part_select = λ e left right h. by-step _ _ (L.form-Part e left right) (λ of at. long-part_select of at (meaning e) left right);
  sliding = λ e i n up h g. by-step _ _ (L.form-Slide e i n up) (λ of at. long-sliding of at (meaning e) (meaning i) n up);
  unary = λ op e h. by-step _ _ (L.form-Unary op e) (λ of at. long-unary of at op (meaning e) h);
  reduce = λ op e h. by-step _ _ (L.form-Reduce op e) (λ of at. long-reduce of at op (meaning e));
  negate = λ e h. by-step _ _ (L.form-Negate e) (λ of at. long-negate of at (meaning e));
  binary = λ op a b h g. by-step _ _ (L.form-Binary op a b) (λ of at. long-binary of at op (meaning a) (meaning b) h g);
  shift = λ op a b h g. by-step _ _ (L.form-Shift op a b) (λ of at. long-shift of at op (meaning a) (meaning b) h);
  power = λ a b h g. by-step _ _ (L.form-Power a b) (λ of at. long-power of at (meaning a) (meaning b) h);
  order = λ op a b h g. by-step _ _ (L.form-Order op a b) (λ of at. long-order of at op (meaning a) (meaning b));
  equal = λ op negated a b h g. by-step _ _ (L.form-Equal op negated a b) (λ of at. long-equal of at op negated (meaning a) (meaning b));
  both = λ a b h g. by-step _ _ (L.form-Both a b) (λ of at. long-both of at (meaning a) (meaning b));
  either = λ a b h g. by-step _ _ (L.form-Either a b) (λ of at. long-either of at (meaning a) (meaning b));
  choose = λ on a b h g k. by-step _ _ (L.form-Choose on a b) (λ of at. long-choose of at (meaning on) (meaning a) (meaning b) g k);
  concat = λ es h. by-step _ _ (L.form-Concat es) (λ of at. long-concat of at (map meaning es));
  repeat = λ n es h. by-step _ _ (L.form-Repeat n es) (λ of at. long-repeat of at n (map meaning es));
  inside = λ e cs h g. by-step _ _ (L.form-Inside e cs) (λ of at. long-inside of at (meaning e) (map L.alternative cs));
  cast = λ e h. by-step _ _ (L.form-Cast e) (λ of at. long-cast of at (meaning e));
  clog2 = λ e h. by-step _ _ (L.form-Clog2 e) (λ of at. long-clog2 of at (meaning e));
  pattern = λ es h. by-step _ _ (L.form-Pattern es) (λ of at. long-pattern of at (map meaning es));
  call = λ f es h. by-step _ _ (L.form-Call f es) (λ of at. long-call of at f (map meaning es));
  stream = λ reversed n es h. by-step _ _ (L.form-Stream reversed n es) (λ of at. long-stream of at reversed n (map meaning es));
}

-- for every tree, width, sign and surroundings
pub length-value : (e : Expr) → Long (meaning e)
length-value = by-expr Any LongForm LongExpr long-steps
