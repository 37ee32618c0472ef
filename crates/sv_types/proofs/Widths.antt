-- The type of a typed expression has a bit.
use Rattle.std.proofs.Common.{◌≡◌, ℕ, ◌+◌, ◌<◌, ◌≤◌, max, Bool, true, false, cond, length, map, refl, arith, sym, subst}
use Rattle.std.specs.Prelude.{nat_lt}
use Rattle.std.proofs.lemmas.Bool.Decides.{nat_tests}
use Rattle.sv_types.specs.declared.expression.Expr.{Expr}
use Rattle.sv_types.specs.declared.expression.Form.{Form}
use Rattle.sv_types.specs.declared.expression.Choice.{Choice}
use Rattle.sv_types.specs.Layouts.{Layout, layout}
use Rattle.sv_types.specs.Meanings.{Meaning, wide, without_bits}
use Rattle.sv_types.specs.Operators as O
use Rattle.sv_types.specs.Paths as P
use Rattle.sv_types.specs.Expressions.{meaning}
use Rattle.sv_types.proofs.Levels as L
use Rattle.sv_types.proofs.Levels.{form_meaning, meaning-form}
use Rattle.sv_types.proofs.Terms.{Steps, by-expr}

abbrev pub HasBits : Meaning → Type 0
HasBits m = m.misfits ≡ 0 → 0 < wide m

has-by : (b : Bool) (n : ℕ) → nat_lt 0 n ≡ b → cond {A = ℕ} b 0 1 ≡ 0 → 0 < n
has-by true n is none = grind (arith, nat_tests)
has-by false n is none = absurd (omega arith)

with-bits : (of : Layout) (k : ℕ) → without_bits of + k ≡ 0 → 0 < length of.two_state
with-bits of k none = has-by (nat_lt 0 (length of.two_state)) (length of.two_state) refl (omega arith)

with-bits-four : (of : Layout) (k j : ℕ) → (without_bits of + k) + j ≡ 0 → 0 < length of.two_state
with-bits-four of k j none = with-bits of k (omega arith)

abbrev HasForm : Form → Type 0
HasForm f = (of : Layout) (at : ℕ) → HasBits (form_meaning f of at)

abbrev HasExpr : Expr → Type 0
HasExpr e = HasBits (meaning e)

abbrev Any : Choice → Type 0
Any c = Unit {0}

by-step : (f : Form) (y : Layout → ℕ → Meaning) → form_meaning f ≡ y → ((of : Layout) (at : ℕ) → HasBits (y of at)) → HasForm f
by-step f y is has of at = subst (λ (g : Layout → ℕ → Meaning). HasBits (g of at)) (sym is) (has of at)

has-literal : (of : Layout) (at : ℕ) (goes_on : _) (v : _) → HasBits (O.literal of at goes_on v)
unfolding O.literal
has-literal of at goes_on v = with-bits of _

has-fill : (of : Layout) (at : ℕ) (b : _) → HasBits (O.fill of at b)
unfolding O.fill
has-fill of at b = with-bits of _

has-constant : (of : Layout) (at : ℕ) (v : _) → HasBits (O.constant of at v)
unfolding O.constant
has-constant of at v = with-bits of _

has-signal : (of : Layout) (at : ℕ) (n : ℕ) → HasBits (P.signal of at n)
unfolding P.signal
has-signal of at n = with-bits of _

has-local : (of : Layout) (at : ℕ) (n : ℕ) → HasBits (P.local of at n)
unfolding P.local
has-local of at n = with-bits of _

has-member : (of : Layout) (at : ℕ) (m : Meaning) (k : ℕ) → HasBits (P.member of at m k)
unfolding P.member
has-member of at m k = with-bits of _

has-index : (of : Layout) (at : ℕ) (m i : Meaning) → HasBits (P.index of at m i)
unfolding P.index
has-index of at m i = with-bits of _

has-part_select : (of : Layout) (at : ℕ) (m : Meaning) (left right : _) → HasBits (P.part_select of at m left right)
unfolding P.part_select
has-part_select of at m left right = with-bits of _

has-sliding : (of : Layout) (at : ℕ) (m i : Meaning) (n : ℕ) (up : _) → HasBits (P.sliding of at m i n up)
unfolding P.sliding
has-sliding of at m i n up = with-bits of _

has-unary : (of : Layout) (at : ℕ) (op : _) (m : Meaning) → HasBits (O.unary of at op m)
unfolding O.unary
has-unary of at op m = with-bits-four of _ _

has-reduce : (of : Layout) (at : ℕ) (op : _) (m : Meaning) → HasBits (O.reduce of at op m)
unfolding O.reduce
has-reduce of at op m = with-bits-four of _ _

has-negate : (of : Layout) (at : ℕ) (m : Meaning) → HasBits (O.negate of at m)
unfolding O.negate
has-negate of at m = with-bits-four of _ _

has-binary : (of : Layout) (at : ℕ) (op : _) (l r : Meaning) → HasBits (O.binary of at op l r)
unfolding O.binary
has-binary of at op l r = with-bits-four of _ _

has-shift : (of : Layout) (at : ℕ) (op : _) (l r : Meaning) → HasBits (O.shift of at op l r)
unfolding O.shift
has-shift of at op l r = with-bits-four of _ _

has-power : (of : Layout) (at : ℕ) (l r : Meaning) → HasBits (O.power of at l r)
unfolding O.power
has-power of at l r = with-bits-four of _ _

has-order : (of : Layout) (at : ℕ) (op : _) (l r : Meaning) → HasBits (O.order of at op l r)
unfolding O.order
has-order of at op l r = with-bits-four of _ _

has-equal : (of : Layout) (at : ℕ) (op : _) (negated : _) (l r : Meaning) → HasBits (O.equal of at op negated l r)
unfolding O.equal
has-equal of at op negated l r = with-bits-four of _ _

has-both : (of : Layout) (at : ℕ) (l r : Meaning) → HasBits (O.both of at l r)
unfolding O.both
has-both of at l r = with-bits-four of _ _

has-either : (of : Layout) (at : ℕ) (l r : Meaning) → HasBits (O.either of at l r)
unfolding O.either
has-either of at l r = with-bits-four of _ _

has-choose : (of : Layout) (at : ℕ) (on l r : Meaning) → HasBits (O.choose of at on l r)
unfolding O.choose
has-choose of at on l r = with-bits of _

has-concat : (of : Layout) (at : ℕ) (ms : _) → HasBits (O.concat of at ms)
unfolding O.concat
has-concat of at ms = with-bits-four of _ _

has-repeat : (of : Layout) (at : ℕ) (n : ℕ) (ms : _) → HasBits (O.repeat of at n ms)
unfolding O.repeat
has-repeat of at n ms = with-bits-four of _ _

has-inside : (of : Layout) (at : ℕ) (m : Meaning) (cs : _) → HasBits (O.inside of at m cs)
unfolding O.inside
has-inside of at m cs = with-bits-four of _ _

has-cast : (of : Layout) (at : ℕ) (m : Meaning) → HasBits (O.cast of at m)
unfolding O.cast
has-cast of at m = with-bits of _

has-clog2 : (of : Layout) (at : ℕ) (m : Meaning) → HasBits (O.clog2 of at m)
unfolding O.clog2
has-clog2 of at m = with-bits-four of _ _

has-pattern : (of : Layout) (at : ℕ) (ms : _) → HasBits (O.pattern of at ms)
unfolding O.pattern
has-pattern of at ms = with-bits of _

has-call : (of : Layout) (at : ℕ) (f : ℕ) (ms : _) → HasBits (O.call of at f ms)
unfolding O.call
has-call of at f ms = with-bits of _

has-stream : (of : Layout) (at : ℕ) (reversed : _) (n : ℕ) (ms : _) → HasBits (O.stream of at reversed n ms)
unfolding O.stream
has-stream of at reversed n ms = with-bits of _

has-steps : Steps Any HasForm HasExpr
has-steps = record {
  value = λ e h. tt;
  range = λ a b h g. tt;
  expr = λ e h. subst HasBits (sym (meaning-form e)) (h (layout e.of) e.spot.at);
  literal = λ v goes_on. by-step _ _ (L.form-Literal v goes_on) (λ of at. has-literal of at goes_on v);
  fill = λ b. by-step _ _ (L.form-Fill b) (λ of at. has-fill of at b);
  constant = λ v. by-step _ _ (L.form-Constant v) (λ of at. has-constant of at v);
  signal = λ n. by-step _ _ (L.form-Signal n) (λ of at. has-signal of at n);
  local = λ n. by-step _ _ (L.form-Local n) (λ of at. has-local of at n);
  member = λ e k h. by-step _ _ (L.form-Member e k) (λ of at. has-member of at (meaning e) k);
  index = λ e i h g. by-step _ _ (L.form-Index e i) (λ of at. has-index of at (meaning e) (meaning i));
  part_select = λ e left right h. by-step _ _ (L.form-Part e left right) (λ of at. has-part_select of at (meaning e) left right);
  sliding = λ e i n up h g. by-step _ _ (L.form-Slide e i n up) (λ of at. has-sliding of at (meaning e) (meaning i) n up);
  unary = λ op e h. by-step _ _ (L.form-Unary op e) (λ of at. has-unary of at op (meaning e));
  reduce = λ op e h. by-step _ _ (L.form-Reduce op e) (λ of at. has-reduce of at op (meaning e));
  negate = λ e h. by-step _ _ (L.form-Negate e) (λ of at. has-negate of at (meaning e));
  binary = λ op a b h g. by-step _ _ (L.form-Binary op a b) (λ of at. has-binary of at op (meaning a) (meaning b));
  shift = λ op a b h g. by-step _ _ (L.form-Shift op a b) (λ of at. has-shift of at op (meaning a) (meaning b));
  power = λ a b h g. by-step _ _ (L.form-Power a b) (λ of at. has-power of at (meaning a) (meaning b));
  order = λ op a b h g. by-step _ _ (L.form-Order op a b) (λ of at. has-order of at op (meaning a) (meaning b));
  equal = λ op negated a b h g. by-step _ _ (L.form-Equal op negated a b) (λ of at. has-equal of at op negated (meaning a) (meaning b));
  both = λ a b h g. by-step _ _ (L.form-Both a b) (λ of at. has-both of at (meaning a) (meaning b));
  either = λ a b h g. by-step _ _ (L.form-Either a b) (λ of at. has-either of at (meaning a) (meaning b));
  choose = λ on a b h g k. by-step _ _ (L.form-Choose on a b) (λ of at. has-choose of at (meaning on) (meaning a) (meaning b));
  concat = λ es h. by-step _ _ (L.form-Concat es) (λ of at. has-concat of at (map meaning es));
  repeat = λ n es h. by-step _ _ (L.form-Repeat n es) (λ of at. has-repeat of at n (map meaning es));
  inside = λ e cs h g. by-step _ _ (L.form-Inside e cs) (λ of at. has-inside of at (meaning e) (map L.alternative cs));
  cast = λ e h. by-step _ _ (L.form-Cast e) (λ of at. has-cast of at (meaning e));
  clog2 = λ e h. by-step _ _ (L.form-Clog2 e) (λ of at. has-clog2 of at (meaning e));
  pattern = λ es h. by-step _ _ (L.form-Pattern es) (λ of at. has-pattern of at (map meaning es));
  call = λ f es h. by-step _ _ (L.form-Call f es) (λ of at. has-call of at f (map meaning es));
  stream = λ reversed n es h. by-step _ _ (L.form-Stream reversed n es) (λ of at. has-stream of at reversed n (map meaning es));
}

pub has-bits : (e : Expr) → HasBits (meaning e)
has-bits = by-expr Any HasForm HasExpr has-steps

abbrev pub Covers : Meaning → Type 0
Covers m = wide m ≤ m.widest

covers-max : (n k : ℕ) → n ≤ max n k
covers-max n k = omega arith

abbrev CoversForm : Form → Type 0
CoversForm f = (of : Layout) (at : ℕ) → Covers (form_meaning f of at)

abbrev CoversExpr : Expr → Type 0
CoversExpr e = Covers (meaning e)

covers-step : (f : Form) (y : Layout → ℕ → Meaning) → form_meaning f ≡ y → ((of : Layout) (at : ℕ) → Covers (y of at)) → CoversForm f
covers-step f y is has of at = subst (λ (g : Layout → ℕ → Meaning). Covers (g of at)) (sym is) (has of at)

covers-literal : (of : Layout) (at : ℕ) (goes_on : _) (v : _) → Covers (O.literal of at goes_on v)
unfolding O.literal
covers-literal of at goes_on v = covers-max (length of.two_state) _

covers-fill : (of : Layout) (at : ℕ) (b : _) → Covers (O.fill of at b)
unfolding O.fill
covers-fill of at b = covers-max (length of.two_state) _

covers-constant : (of : Layout) (at : ℕ) (v : _) → Covers (O.constant of at v)
unfolding O.constant
covers-constant of at v = covers-max (length of.two_state) _

covers-signal : (of : Layout) (at : ℕ) (n : ℕ) → Covers (P.signal of at n)
unfolding P.signal
covers-signal of at n = covers-max (length of.two_state) _

covers-local : (of : Layout) (at : ℕ) (n : ℕ) → Covers (P.local of at n)
unfolding P.local
covers-local of at n = covers-max (length of.two_state) _

covers-member : (of : Layout) (at : ℕ) (m : Meaning) (k : ℕ) → Covers (P.member of at m k)
unfolding P.member
covers-member of at m k = covers-max (length of.two_state) _

covers-index : (of : Layout) (at : ℕ) (m i : Meaning) → Covers (P.index of at m i)
unfolding P.index
covers-index of at m i = covers-max (length of.two_state) _

covers-part_select : (of : Layout) (at : ℕ) (m : Meaning) (left right : _) → Covers (P.part_select of at m left right)
unfolding P.part_select
covers-part_select of at m left right = covers-max (length of.two_state) _

covers-sliding : (of : Layout) (at : ℕ) (m i : Meaning) (n : ℕ) (up : _) → Covers (P.sliding of at m i n up)
unfolding P.sliding
covers-sliding of at m i n up = covers-max (length of.two_state) _

covers-unary : (of : Layout) (at : ℕ) (op : _) (m : Meaning) → Covers (O.unary of at op m)
unfolding O.unary
covers-unary of at op m = covers-max (length of.two_state) _

covers-reduce : (of : Layout) (at : ℕ) (op : _) (m : Meaning) → Covers (O.reduce of at op m)
unfolding O.reduce
covers-reduce of at op m = covers-max (length of.two_state) _

covers-negate : (of : Layout) (at : ℕ) (m : Meaning) → Covers (O.negate of at m)
unfolding O.negate
covers-negate of at m = covers-max (length of.two_state) _

covers-binary : (of : Layout) (at : ℕ) (op : _) (l r : Meaning) → Covers (O.binary of at op l r)
unfolding O.binary
covers-binary of at op l r = covers-max (length of.two_state) _

covers-shift : (of : Layout) (at : ℕ) (op : _) (l r : Meaning) → Covers (O.shift of at op l r)
unfolding O.shift
covers-shift of at op l r = covers-max (length of.two_state) _

covers-power : (of : Layout) (at : ℕ) (l r : Meaning) → Covers (O.power of at l r)
unfolding O.power
covers-power of at l r = covers-max (length of.two_state) _

covers-order : (of : Layout) (at : ℕ) (op : _) (l r : Meaning) → Covers (O.order of at op l r)
unfolding O.order
covers-order of at op l r = covers-max (length of.two_state) _

covers-equal : (of : Layout) (at : ℕ) (op : _) (negated : _) (l r : Meaning) → Covers (O.equal of at op negated l r)
unfolding O.equal
covers-equal of at op negated l r = covers-max (length of.two_state) _

covers-both : (of : Layout) (at : ℕ) (l r : Meaning) → Covers (O.both of at l r)
unfolding O.both
covers-both of at l r = covers-max (length of.two_state) _

covers-either : (of : Layout) (at : ℕ) (l r : Meaning) → Covers (O.either of at l r)
unfolding O.either
covers-either of at l r = covers-max (length of.two_state) _

covers-choose : (of : Layout) (at : ℕ) (on l r : Meaning) → Covers (O.choose of at on l r)
unfolding O.choose
covers-choose of at on l r = covers-max (length of.two_state) _

covers-concat : (of : Layout) (at : ℕ) (ms : _) → Covers (O.concat of at ms)
unfolding O.concat
covers-concat of at ms = covers-max (length of.two_state) _

covers-repeat : (of : Layout) (at : ℕ) (n : ℕ) (ms : _) → Covers (O.repeat of at n ms)
unfolding O.repeat
covers-repeat of at n ms = covers-max (length of.two_state) _

covers-inside : (of : Layout) (at : ℕ) (m : Meaning) (cs : _) → Covers (O.inside of at m cs)
unfolding O.inside
covers-inside of at m cs = covers-max (length of.two_state) _

covers-cast : (of : Layout) (at : ℕ) (m : Meaning) → Covers (O.cast of at m)
unfolding O.cast
covers-cast of at m = covers-max (length of.two_state) _

covers-clog2 : (of : Layout) (at : ℕ) (m : Meaning) → Covers (O.clog2 of at m)
unfolding O.clog2
covers-clog2 of at m = covers-max (length of.two_state) _

covers-pattern : (of : Layout) (at : ℕ) (ms : _) → Covers (O.pattern of at ms)
unfolding O.pattern
covers-pattern of at ms = covers-max (length of.two_state) _

covers-call : (of : Layout) (at : ℕ) (f : ℕ) (ms : _) → Covers (O.call of at f ms)
unfolding O.call
covers-call of at f ms = covers-max (length of.two_state) _

covers-stream : (of : Layout) (at : ℕ) (reversed : _) (n : ℕ) (ms : _) → Covers (O.stream of at reversed n ms)
unfolding O.stream
covers-stream of at reversed n ms = covers-max (length of.two_state) _

covers-steps : Steps Any CoversForm CoversExpr
covers-steps = record {
  value = λ e h. tt;
  range = λ a b h g. tt;
  expr = λ e h. subst Covers (sym (meaning-form e)) (h (layout e.of) e.spot.at);
  literal = λ v goes_on. covers-step _ _ (L.form-Literal v goes_on) (λ of at. covers-literal of at goes_on v);
  fill = λ b. covers-step _ _ (L.form-Fill b) (λ of at. covers-fill of at b);
  constant = λ v. covers-step _ _ (L.form-Constant v) (λ of at. covers-constant of at v);
  signal = λ n. covers-step _ _ (L.form-Signal n) (λ of at. covers-signal of at n);
  local = λ n. covers-step _ _ (L.form-Local n) (λ of at. covers-local of at n);
  member = λ e k h. covers-step _ _ (L.form-Member e k) (λ of at. covers-member of at (meaning e) k);
  index = λ e i h g. covers-step _ _ (L.form-Index e i) (λ of at. covers-index of at (meaning e) (meaning i));
  part_select = λ e left right h. covers-step _ _ (L.form-Part e left right) (λ of at. covers-part_select of at (meaning e) left right);
  sliding = λ e i n up h g. covers-step _ _ (L.form-Slide e i n up) (λ of at. covers-sliding of at (meaning e) (meaning i) n up);
  unary = λ op e h. covers-step _ _ (L.form-Unary op e) (λ of at. covers-unary of at op (meaning e));
  reduce = λ op e h. covers-step _ _ (L.form-Reduce op e) (λ of at. covers-reduce of at op (meaning e));
  negate = λ e h. covers-step _ _ (L.form-Negate e) (λ of at. covers-negate of at (meaning e));
  binary = λ op a b h g. covers-step _ _ (L.form-Binary op a b) (λ of at. covers-binary of at op (meaning a) (meaning b));
  shift = λ op a b h g. covers-step _ _ (L.form-Shift op a b) (λ of at. covers-shift of at op (meaning a) (meaning b));
  power = λ a b h g. covers-step _ _ (L.form-Power a b) (λ of at. covers-power of at (meaning a) (meaning b));
  order = λ op a b h g. covers-step _ _ (L.form-Order op a b) (λ of at. covers-order of at op (meaning a) (meaning b));
  equal = λ op negated a b h g. covers-step _ _ (L.form-Equal op negated a b) (λ of at. covers-equal of at op negated (meaning a) (meaning b));
  both = λ a b h g. covers-step _ _ (L.form-Both a b) (λ of at. covers-both of at (meaning a) (meaning b));
  either = λ a b h g. covers-step _ _ (L.form-Either a b) (λ of at. covers-either of at (meaning a) (meaning b));
  choose = λ on a b h g k. covers-step _ _ (L.form-Choose on a b) (λ of at. covers-choose of at (meaning on) (meaning a) (meaning b));
  concat = λ es h. covers-step _ _ (L.form-Concat es) (λ of at. covers-concat of at (map meaning es));
  repeat = λ n es h. covers-step _ _ (L.form-Repeat n es) (λ of at. covers-repeat of at n (map meaning es));
  inside = λ e cs h g. covers-step _ _ (L.form-Inside e cs) (λ of at. covers-inside of at (meaning e) (map L.alternative cs));
  cast = λ e h. covers-step _ _ (L.form-Cast e) (λ of at. covers-cast of at (meaning e));
  clog2 = λ e h. covers-step _ _ (L.form-Clog2 e) (λ of at. covers-clog2 of at (meaning e));
  pattern = λ es h. covers-step _ _ (L.form-Pattern es) (λ of at. covers-pattern of at (map meaning es));
  call = λ f es h. covers-step _ _ (L.form-Call f es) (λ of at. covers-call of at f (map meaning es));
  stream = λ reversed n es h. covers-step _ _ (L.form-Stream reversed n es) (λ of at. covers-stream of at reversed n (map meaning es));
}

-- a type of an expression is one of those that count
pub wide-widest : (e : Expr) → wide (meaning e) ≤ (meaning e).widest
wide-widest = by-expr Any CoversForm CoversExpr covers-steps
