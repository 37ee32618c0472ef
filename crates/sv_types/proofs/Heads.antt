-- The type and the token of an expression are those of its meaning.
use Rattle.std.proofs.Common.{◌≡◌, ℕ, map, refl, sym, subst}
use Rattle.sv_types.specs.declared.expression.Expr.{Expr}
use Rattle.sv_types.specs.declared.expression.Form.{Form}
use Rattle.sv_types.specs.declared.expression.Choice.{Choice}
use Rattle.sv_types.specs.Layouts.{Layout, layout}
use Rattle.sv_types.specs.Meanings.{Meaning}
use Rattle.sv_types.specs.Operators as O
use Rattle.sv_types.specs.Paths as P
use Rattle.sv_types.specs.Expressions.{meaning}
use Rattle.sv_types.proofs.Levels as L
use Rattle.sv_types.proofs.Levels.{form_meaning, meaning-form}
use Rattle.sv_types.proofs.Terms.{Steps, by-expr}

-- a meaning of this type at this token
pub record Heads (m : Meaning) (of : Layout) (at : ℕ) : Type 0 where
  pub kind : m.of ≡ of
  pub token : m.at ≡ at

abbrev HeadsForm : Form → Type 0
HeadsForm f = (of : Layout) (at : ℕ) → Heads (form_meaning f of at) of at

abbrev HeadsExpr : Expr → Type 0
HeadsExpr e = Heads (meaning e) (layout e.of) e.spot.at

abbrev Any : Choice → Type 0
Any c = Unit {0}

by-step : (f : Form) (y : Layout → ℕ → Meaning) → form_meaning f ≡ y → ((of : Layout) (at : ℕ) → Heads (y of at) of at) → HeadsForm f
by-step f y is heads of at = subst (λ (g : Layout → ℕ → Meaning). Heads (g of at) of at) (sym is) (heads of at)

heads-literal : (of : Layout) (at : ℕ) (goes_on : _) (v : _) → Heads (O.literal of at goes_on v) of at
unfolding O.literal
heads-literal of at goes_on v = record { kind = refl; token = refl }

heads-fill : (of : Layout) (at : ℕ) (b : _) → Heads (O.fill of at b) of at
unfolding O.fill
heads-fill of at b = record { kind = refl; token = refl }

heads-constant : (of : Layout) (at : ℕ) (v : _) → Heads (O.constant of at v) of at
unfolding O.constant
heads-constant of at v = record { kind = refl; token = refl }

heads-signal : (of : Layout) (at : ℕ) (n : ℕ) → Heads (P.signal of at n) of at
unfolding P.signal
heads-signal of at n = record { kind = refl; token = refl }

heads-local : (of : Layout) (at : ℕ) (n : ℕ) → Heads (P.local of at n) of at
unfolding P.local
heads-local of at n = record { kind = refl; token = refl }

heads-member : (of : Layout) (at : ℕ) (m : Meaning) (k : ℕ) → Heads (P.member of at m k) of at
unfolding P.member
heads-member of at m k = record { kind = refl; token = refl }

heads-index : (of : Layout) (at : ℕ) (m i : Meaning) → Heads (P.index of at m i) of at
unfolding P.index
heads-index of at m i = record { kind = refl; token = refl }

heads-part_select : (of : Layout) (at : ℕ) (m : Meaning) (left right : _) → Heads (P.part_select of at m left right) of at
unfolding P.part_select
heads-part_select of at m left right = record { kind = refl; token = refl }

heads-sliding : (of : Layout) (at : ℕ) (m i : Meaning) (n : ℕ) (up : _) → Heads (P.sliding of at m i n up) of at
unfolding P.sliding
heads-sliding of at m i n up = record { kind = refl; token = refl }

heads-unary : (of : Layout) (at : ℕ) (op : _) (m : Meaning) → Heads (O.unary of at op m) of at
unfolding O.unary
heads-unary of at op m = record { kind = refl; token = refl }

heads-reduce : (of : Layout) (at : ℕ) (op : _) (m : Meaning) → Heads (O.reduce of at op m) of at
unfolding O.reduce
heads-reduce of at op m = record { kind = refl; token = refl }

heads-negate : (of : Layout) (at : ℕ) (m : Meaning) → Heads (O.negate of at m) of at
unfolding O.negate
heads-negate of at m = record { kind = refl; token = refl }

heads-binary : (of : Layout) (at : ℕ) (op : _) (l r : Meaning) → Heads (O.binary of at op l r) of at
unfolding O.binary
heads-binary of at op l r = record { kind = refl; token = refl }

heads-shift : (of : Layout) (at : ℕ) (op : _) (l r : Meaning) → Heads (O.shift of at op l r) of at
unfolding O.shift
heads-shift of at op l r = record { kind = refl; token = refl }

heads-power : (of : Layout) (at : ℕ) (l r : Meaning) → Heads (O.power of at l r) of at
unfolding O.power
heads-power of at l r = record { kind = refl; token = refl }

heads-order : (of : Layout) (at : ℕ) (op : _) (l r : Meaning) → Heads (O.order of at op l r) of at
unfolding O.order
heads-order of at op l r = record { kind = refl; token = refl }

heads-equal : (of : Layout) (at : ℕ) (op : _) (negated : _) (l r : Meaning) → Heads (O.equal of at op negated l r) of at
unfolding O.equal
heads-equal of at op negated l r = record { kind = refl; token = refl }

heads-both : (of : Layout) (at : ℕ) (l r : Meaning) → Heads (O.both of at l r) of at
unfolding O.both
heads-both of at l r = record { kind = refl; token = refl }

heads-either : (of : Layout) (at : ℕ) (l r : Meaning) → Heads (O.either of at l r) of at
unfolding O.either
heads-either of at l r = record { kind = refl; token = refl }

heads-choose : (of : Layout) (at : ℕ) (on l r : Meaning) → Heads (O.choose of at on l r) of at
unfolding O.choose
heads-choose of at on l r = record { kind = refl; token = refl }

heads-concat : (of : Layout) (at : ℕ) (ms : _) → Heads (O.concat of at ms) of at
unfolding O.concat
heads-concat of at ms = record { kind = refl; token = refl }

heads-repeat : (of : Layout) (at : ℕ) (n : ℕ) (ms : _) → Heads (O.repeat of at n ms) of at
unfolding O.repeat
heads-repeat of at n ms = record { kind = refl; token = refl }

heads-inside : (of : Layout) (at : ℕ) (m : Meaning) (cs : _) → Heads (O.inside of at m cs) of at
unfolding O.inside
heads-inside of at m cs = record { kind = refl; token = refl }

heads-cast : (of : Layout) (at : ℕ) (m : Meaning) → Heads (O.cast of at m) of at
unfolding O.cast
heads-cast of at m = record { kind = refl; token = refl }

heads-clog2 : (of : Layout) (at : ℕ) (m : Meaning) → Heads (O.clog2 of at m) of at
unfolding O.clog2
heads-clog2 of at m = record { kind = refl; token = refl }

heads-pattern : (of : Layout) (at : ℕ) (ms : _) → Heads (O.pattern of at ms) of at
unfolding O.pattern
heads-pattern of at ms = record { kind = refl; token = refl }

heads-call : (of : Layout) (at : ℕ) (f : ℕ) (ms : _) → Heads (O.call of at f ms) of at
unfolding O.call
heads-call of at f ms = record { kind = refl; token = refl }

heads-stream : (of : Layout) (at : ℕ) (reversed : _) (n : ℕ) (ms : _) → Heads (O.stream of at reversed n ms) of at
unfolding O.stream
heads-stream of at reversed n ms = record { kind = refl; token = refl }

head-steps : Steps Any HeadsForm HeadsExpr
head-steps = record {
  value = λ e h. tt;
  range = λ a b h g. tt;
  expr = λ e h. subst (λ m. Heads m (layout e.of) e.spot.at) (sym (meaning-form e)) (h (layout e.of) e.spot.at);
  literal = λ v goes_on. by-step _ _ (L.form-Literal v goes_on) (λ of at. heads-literal of at goes_on v);
  fill = λ b. by-step _ _ (L.form-Fill b) (λ of at. heads-fill of at b);
  constant = λ v. by-step _ _ (L.form-Constant v) (λ of at. heads-constant of at v);
  signal = λ n. by-step _ _ (L.form-Signal n) (λ of at. heads-signal of at n);
  local = λ n. by-step _ _ (L.form-Local n) (λ of at. heads-local of at n);
  member = λ e k h. by-step _ _ (L.form-Member e k) (λ of at. heads-member of at (meaning e) k);
  index = λ e i h g. by-step _ _ (L.form-Index e i) (λ of at. heads-index of at (meaning e) (meaning i));
  part_select = λ e left right h. by-step _ _ (L.form-Part e left right) (λ of at. heads-part_select of at (meaning e) left right);
  sliding = λ e i n up h g. by-step _ _ (L.form-Slide e i n up) (λ of at. heads-sliding of at (meaning e) (meaning i) n up);
  unary = λ op e h. by-step _ _ (L.form-Unary op e) (λ of at. heads-unary of at op (meaning e));
  reduce = λ op e h. by-step _ _ (L.form-Reduce op e) (λ of at. heads-reduce of at op (meaning e));
  negate = λ e h. by-step _ _ (L.form-Negate e) (λ of at. heads-negate of at (meaning e));
  binary = λ op a b h g. by-step _ _ (L.form-Binary op a b) (λ of at. heads-binary of at op (meaning a) (meaning b));
  shift = λ op a b h g. by-step _ _ (L.form-Shift op a b) (λ of at. heads-shift of at op (meaning a) (meaning b));
  power = λ a b h g. by-step _ _ (L.form-Power a b) (λ of at. heads-power of at (meaning a) (meaning b));
  order = λ op a b h g. by-step _ _ (L.form-Order op a b) (λ of at. heads-order of at op (meaning a) (meaning b));
  equal = λ op negated a b h g. by-step _ _ (L.form-Equal op negated a b) (λ of at. heads-equal of at op negated (meaning a) (meaning b));
  both = λ a b h g. by-step _ _ (L.form-Both a b) (λ of at. heads-both of at (meaning a) (meaning b));
  either = λ a b h g. by-step _ _ (L.form-Either a b) (λ of at. heads-either of at (meaning a) (meaning b));
  choose = λ on a b h g k. by-step _ _ (L.form-Choose on a b) (λ of at. heads-choose of at (meaning on) (meaning a) (meaning b));
  concat = λ es h. by-step _ _ (L.form-Concat es) (λ of at. heads-concat of at (map meaning es));
  repeat = λ n es h. by-step _ _ (L.form-Repeat n es) (λ of at. heads-repeat of at n (map meaning es));
  inside = λ e cs h g. by-step _ _ (L.form-Inside e cs) (λ of at. heads-inside of at (meaning e) (map L.alternative cs));
  cast = λ e h. by-step _ _ (L.form-Cast e) (λ of at. heads-cast of at (meaning e));
  clog2 = λ e h. by-step _ _ (L.form-Clog2 e) (λ of at. heads-clog2 of at (meaning e));
  pattern = λ es h. by-step _ _ (L.form-Pattern es) (λ of at. heads-pattern of at (map meaning es));
  call = λ f es h. by-step _ _ (L.form-Call f es) (λ of at. heads-call of at f (map meaning es));
  stream = λ reversed n es h. by-step _ _ (L.form-Stream reversed n es) (λ of at. heads-stream of at reversed n (map meaning es));
}

pub heads : (e : Expr) → Heads (meaning e) (layout e.of) e.spot.at
heads = by-expr Any HeadsForm HeadsExpr head-steps
