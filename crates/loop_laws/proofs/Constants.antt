-- Whether the value of a select path is known, step by step.
use Rattle.std.proofs.Common.{◌≡◌, ℕ, Bool, true, false, ◌&&◌, ℤ, List, map, cond, Option, Some, None, refl, ap, sym, ◌∙◌, subst}
use Rattle.std.specs.Prelude.{slice_get}
use Rattle.b4_core.specs.declared.bit.Bit4.{Bit4}
use Rattle.b4_core.specs.declared.operators.UnOp.{UnOp}
use Rattle.b4_core.specs.declared.operators.BinOp.{BinOp}
use Rattle.b4_core.specs.declared.operators.RedOp.{RedOp}
use Rattle.b4_core.specs.declared.operators.ShiftOp.{ShiftOp}
use Rattle.b4_core.specs.declared.operators.OrdOp.{OrdOp}
use Rattle.b4_core.specs.declared.operators.EqOp.{EqOp}
use Rattle.sv_types.specs.declared.types.Value.{Value}
use Rattle.sv_types.specs.declared.expression.Expr.{Expr}
use Rattle.sv_types.specs.declared.expression.Choice.{Choice}
use Rattle.sv_types.specs.declared.expression.Form.{Form}
use Rattle.sv_types.specs.declared.expression.Form.TheVariants as V
use Rattle.sv_types.specs.Layouts.{Layout, layout}
use Rattle.sv_types.specs.Windows.{Window, member_of, element_of, between, slide}
use Rattle.sv_types.specs.Surroundings.{Sight, local_number}
use Rattle.sv_types.specs.Meanings.{Meaning, Prefix, root_sure}
use Rattle.sv_types.specs.Paths as P
use Rattle.sv_types.specs.Paths.{known_base, narrowed}
use Rattle.sv_types.specs.Operators as O
use Rattle.sv_types.specs.Operators.{Alternative}
use Rattle.sv_types.specs.Expressions.{meaning}
use Rattle.sv_types.proofs.Levels as L
use Rattle.sv_types.proofs.Levels.{form_meaning, alternative}
use Rattle.sv_types.proofs.Terms.{Steps, by-expr}
use Rattle.eval_parts.proofs.Steps.{at-form}

-- what a path knows of what it stands on
abbrev IsRooted : Meaning → Type 0
IsRooted m = (k : Sight) → m.constant k ≡ ((m.prefix k).exact && (known_base m.root (m.constant k) && root_sure m.root k))

twice : (b : Bool) → b ≡ (b && (b && true))
twice true = refl
twice false = refl

again : (a b : Bool) → (a && (b && true)) ≡ (a && ((a && (b && true)) && true))
again true true = refl
again true false = refl
again false b = refl

step-rooted : (root : Option ℕ) (exact constant : Bool) (k : Sight)
    → (exact && (known_base root constant && root_sure root k)) ≡ (exact && (known_base root (exact && (known_base root constant && root_sure root k)) && root_sure root k))
step-rooted None exact constant k = again exact constant
step-rooted (Some n) exact constant k = refl

-- of a form
abbrev Rooted : Form → Type 0
Rooted f = (of : Layout) (at : ℕ) → IsRooted (form_meaning f of at)

at-level : (f : Form) (m : Layout → ℕ → Meaning) → form_meaning f ≡ m → ((of : Layout) (at : ℕ) → IsRooted (m of at)) → Rooted f
at-level f m level h of at = subst (λ (x : Layout → ℕ → Meaning). IsRooted (x of at)) (sym level) (h of at)

rooted-Literal : (v : List Bit4) (goes_on : Bool) (of : Layout) (at : ℕ) → IsRooted (O.literal of at goes_on v)
unfolding O.literal
rooted-Literal v goes_on of at k = twice ((O.literal of at goes_on v).constant k)

rooted-Fill : (b : Bit4) (of : Layout) (at : ℕ) → IsRooted (O.fill of at b)
unfolding O.fill
rooted-Fill b of at k = twice ((O.fill of at b).constant k)

rooted-Constant : (v : Value) (of : Layout) (at : ℕ) → IsRooted (O.constant of at v)
unfolding O.constant
rooted-Constant v of at k = twice ((O.constant of at v).constant k)

rooted-Unary : (op : UnOp) (x : Meaning) (of : Layout) (at : ℕ) → IsRooted (O.unary of at op x)
unfolding O.unary
rooted-Unary op x of at k = twice ((O.unary of at op x).constant k)

rooted-Reduce : (op : RedOp) (x : Meaning) (of : Layout) (at : ℕ) → IsRooted (O.reduce of at op x)
unfolding O.reduce
rooted-Reduce op x of at k = twice ((O.reduce of at op x).constant k)

rooted-Negate : (x : Meaning) (of : Layout) (at : ℕ) → IsRooted (O.negate of at x)
unfolding O.negate
rooted-Negate x of at k = twice ((O.negate of at x).constant k)

rooted-Binary : (op : BinOp) (x y : Meaning) (of : Layout) (at : ℕ) → IsRooted (O.binary of at op x y)
unfolding O.binary
rooted-Binary op x y of at k = twice ((O.binary of at op x y).constant k)

rooted-Shift : (op : ShiftOp) (x y : Meaning) (of : Layout) (at : ℕ) → IsRooted (O.shift of at op x y)
unfolding O.shift
rooted-Shift op x y of at k = twice ((O.shift of at op x y).constant k)

rooted-Power : (x y : Meaning) (of : Layout) (at : ℕ) → IsRooted (O.power of at x y)
unfolding O.power
rooted-Power x y of at k = twice ((O.power of at x y).constant k)

rooted-Order : (op : OrdOp) (x y : Meaning) (of : Layout) (at : ℕ) → IsRooted (O.order of at op x y)
unfolding O.order
rooted-Order op x y of at k = twice ((O.order of at op x y).constant k)

rooted-Equal : (op : EqOp) (negated : Bool) (x y : Meaning) (of : Layout) (at : ℕ) → IsRooted (O.equal of at op negated x y)
unfolding O.equal
rooted-Equal op negated x y of at k = twice ((O.equal of at op negated x y).constant k)

rooted-Both : (x y : Meaning) (of : Layout) (at : ℕ) → IsRooted (O.both of at x y)
unfolding O.both
rooted-Both x y of at k = twice ((O.both of at x y).constant k)

rooted-Either : (x y : Meaning) (of : Layout) (at : ℕ) → IsRooted (O.either of at x y)
unfolding O.either
rooted-Either x y of at k = twice ((O.either of at x y).constant k)

rooted-Choose : (z x y : Meaning) (of : Layout) (at : ℕ) → IsRooted (O.choose of at z x y)
unfolding O.choose
rooted-Choose z x y of at k = twice ((O.choose of at z x y).constant k)

rooted-Concat : (es : List Meaning) (of : Layout) (at : ℕ) → IsRooted (O.concat of at es)
unfolding O.concat
rooted-Concat es of at k = twice ((O.concat of at es).constant k)

rooted-Repeat : (n : ℕ) (es : List Meaning) (of : Layout) (at : ℕ) → IsRooted (O.repeat of at n es)
unfolding O.repeat
rooted-Repeat n es of at k = twice ((O.repeat of at n es).constant k)

rooted-Inside : (x : Meaning) (cs : List Alternative) (of : Layout) (at : ℕ) → IsRooted (O.inside of at x cs)
unfolding O.inside
rooted-Inside x cs of at k = twice ((O.inside of at x cs).constant k)

rooted-Cast : (x : Meaning) (of : Layout) (at : ℕ) → IsRooted (O.cast of at x)
unfolding O.cast
rooted-Cast x of at k = twice ((O.cast of at x).constant k)

rooted-Clog2 : (x : Meaning) (of : Layout) (at : ℕ) → IsRooted (O.clog2 of at x)
unfolding O.clog2
rooted-Clog2 x of at k = twice ((O.clog2 of at x).constant k)

rooted-Pattern : (es : List Meaning) (of : Layout) (at : ℕ) → IsRooted (O.pattern of at es)
unfolding O.pattern
rooted-Pattern es of at k = twice ((O.pattern of at es).constant k)

rooted-Call : (f : ℕ) (es : List Meaning) (of : Layout) (at : ℕ) → IsRooted (O.call of at f es)
unfolding O.call
rooted-Call f es of at k = twice ((O.call of at f es).constant k)

rooted-Stream : (reversed : Bool) (n : ℕ) (es : List Meaning) (of : Layout) (at : ℕ) → IsRooted (O.stream of at reversed n es)
unfolding O.stream
rooted-Stream reversed n es of at k = twice ((O.stream of at reversed n es).constant k)

rooted-Signal : (n : ℕ) (of : Layout) (at : ℕ) → IsRooted (P.signal of at n)
unfolding P.signal
rooted-Signal n of at k = refl

rooted-Local : (n : ℕ) (of : Layout) (at : ℕ) → IsRooted (P.local of at n)
unfolding P.local
rooted-Local n of at k = refl

rooted-Member : (x : Meaning) (n : ℕ) (of : Layout) (at : ℕ) → IsRooted (P.member of at x n)
unfolding P.member
rooted-Member x n of at k = step-rooted x.root ((P.member of at x n).prefix k).exact (x.constant k) k

rooted-Part : (x : Meaning) (left right : ℤ) (of : Layout) (at : ℕ) → IsRooted (P.part_select of at x left right)
unfolding P.part_select
rooted-Part x left right of at k = step-rooted x.root ((P.part_select of at x left right).prefix k).exact (x.constant k) k

rooted-Index : (x i : Meaning) (of : Layout) (at : ℕ) → IsRooted (P.index of at x i)
unfolding P.index
rooted-Index x i of at k = step-rooted x.root ((P.index of at x i).prefix k).exact (x.constant k) k

rooted-Slide : (x i : Meaning) (n : ℕ) (up : Bool) (of : Layout) (at : ℕ) → IsRooted (P.sliding of at x i n up)
unfolding P.sliding
rooted-Slide x i n up of at k = step-rooted x.root ((P.sliding of at x i n up).prefix k).exact (x.constant k) k

abbrev RootedExpr : Expr → Type 0
RootedExpr e = IsRooted (meaning e)

abbrev Any : Choice → Type 0
Any c = Unit {0}

rooted-steps : Steps Any Rooted RootedExpr
rooted-steps = record {
  value = λ e h. tt;
  range = λ a b g h. tt;
  expr = λ e h. subst IsRooted (sym (L.meaning-form e)) (h (layout e.of) e.spot.at);
  literal = λ v goes_on. at-level (V.Literal v goes_on) _ (L.form-Literal v goes_on) (rooted-Literal v goes_on);
  fill = λ b. at-level (V.Fill b) _ (L.form-Fill b) (rooted-Fill b);
  constant = λ v. at-level (V.Constant v) _ (L.form-Constant v) (rooted-Constant v);
  signal = λ n. at-level (V.Signal n) _ (L.form-Signal n) (rooted-Signal n);
  local = λ n. at-level (V.Local n) _ (L.form-Local n) (rooted-Local n);
  member = λ x k h0. at-level (V.Member x k) _ (L.form-Member x k) (rooted-Member (meaning x) k);
  index = λ x i h0 h1. at-level (V.Index x i) _ (L.form-Index x i) (rooted-Index (meaning x) (meaning i));
  part_select = λ x left right h0. at-level (V.Part x left right) _ (L.form-Part x left right) (rooted-Part (meaning x) left right);
  sliding = λ x i n up h0 h1. at-level (V.Slide x i n up) _ (L.form-Slide x i n up) (rooted-Slide (meaning x) (meaning i) n up);
  unary = λ op x h0. at-level (V.Unary op x) _ (L.form-Unary op x) (rooted-Unary op (meaning x));
  reduce = λ op x h0. at-level (V.Reduce op x) _ (L.form-Reduce op x) (rooted-Reduce op (meaning x));
  negate = λ x h0. at-level (V.Negate x) _ (L.form-Negate x) (rooted-Negate (meaning x));
  binary = λ op x y h0 h1. at-level (V.Binary op x y) _ (L.form-Binary op x y) (rooted-Binary op (meaning x) (meaning y));
  shift = λ op x y h0 h1. at-level (V.Shift op x y) _ (L.form-Shift op x y) (rooted-Shift op (meaning x) (meaning y));
  power = λ x y h0 h1. at-level (V.Power x y) _ (L.form-Power x y) (rooted-Power (meaning x) (meaning y));
  order = λ op x y h0 h1. at-level (V.Order op x y) _ (L.form-Order op x y) (rooted-Order op (meaning x) (meaning y));
  equal = λ op negated x y h0 h1. at-level (V.Equal op negated x y) _ (L.form-Equal op negated x y) (rooted-Equal op negated (meaning x) (meaning y));
  both = λ x y h0 h1. at-level (V.Both x y) _ (L.form-Both x y) (rooted-Both (meaning x) (meaning y));
  either = λ x y h0 h1. at-level (V.Either x y) _ (L.form-Either x y) (rooted-Either (meaning x) (meaning y));
  choose = λ z x y h0 h1 h2. at-level (V.Choose z x y) _ (L.form-Choose z x y) (rooted-Choose (meaning z) (meaning x) (meaning y));
  concat = λ es h0. at-level (V.Concat es) _ (L.form-Concat es) (rooted-Concat (map meaning es));
  repeat = λ n es h0. at-level (V.Repeat n es) _ (L.form-Repeat n es) (rooted-Repeat n (map meaning es));
  inside = λ x cs h0 h1. at-level (V.Inside x cs) _ (L.form-Inside x cs) (rooted-Inside (meaning x) (map alternative cs));
  cast = λ x h0. at-level (V.Cast x) _ (L.form-Cast x) (rooted-Cast (meaning x));
  clog2 = λ x h0. at-level (V.Clog2 x) _ (L.form-Clog2 x) (rooted-Clog2 (meaning x));
  pattern = λ es h0. at-level (V.Pattern es) _ (L.form-Pattern es) (rooted-Pattern (map meaning es));
  call = λ f es h0. at-level (V.Call f es) _ (L.form-Call f es) (rooted-Call f (map meaning es));
  stream = λ reversed n es h0. at-level (V.Stream reversed n es) _ (L.form-Stream reversed n es) (rooted-Stream reversed n (map meaning es));
}

rooted : (e : Expr) → IsRooted (meaning e)
rooted = by-expr Any Rooted RootedExpr rooted-steps

narrowed-exact : (step : Window → Window) (p : Prefix) → (narrowed step p).exact ≡ p.exact
narrowed-exact step p = by p.exact refl
  where
    by : (b : Bool) → p.exact ≡ b → (cond b (record { window = step p.window; exact = true }) p).exact ≡ b
    by true h = refl
    by false h = h

-- a step that needs no index
fixed : (step : Window → Window) (x : Expr) (k : Sight)
    → ((narrowed step ((meaning x).prefix k)).exact && (known_base (meaning x).root ((meaning x).constant k) && root_sure (meaning x).root k)) ≡ (meaning x).constant k
fixed step x k = ap (λ b. b && (known_base (meaning x).root ((meaning x).constant k) && root_sure (meaning x).root k)) (narrowed-exact step ((meaning x).prefix k)) ∙ sym (rooted x k)

-- a step by an index
abbrev cut_by : (Window → Window) → Bool → Prefix → Prefix
cut_by step known p = cond known (narrowed step p) (record { window = p.window; exact = false })

indexed : (step : Window → Window) (x : Expr) (known : Bool) (k : Sight)
    → ((cut_by step known ((meaning x).prefix k)).exact && (known_base (meaning x).root ((meaning x).constant k) && root_sure (meaning x).root k)) ≡ ((meaning x).constant k && known)
indexed step x true k = fixed step x k ∙ by ((meaning x).constant k)
  where
    by : (b : Bool) → b ≡ (b && true)
    by true = refl
    by false = refl
indexed step x false k = by ((meaning x).constant k)
  where
    by : (b : Bool) → false ≡ (b && false)
    by true = refl
    by false = refl

abbrev KnownAs : (Sight → Bool) → Meaning → Type 0
KnownAs known m = (k : Sight) → m.constant k ≡ known k

at-expr : (e : Expr) (f : Form) (m : Layout → ℕ → Meaning) (known : Sight → Bool) → e.form ≡ f → form_meaning f ≡ m → KnownAs known (m (layout e.of) e.spot.at) → KnownAs known (meaning e)
at-expr e f m known is level h = subst (KnownAs known) (sym (at-form e f m is level)) h

by-Signal : (n : ℕ) (of : Layout) (at : ℕ) → KnownAs (root_sure (Some n)) (P.signal of at n)
unfolding P.signal
by-Signal n of at k = refl

by-Local : (n : ℕ) (of : Layout) (at : ℕ) → KnownAs (root_sure (Some (local_number n))) (P.local of at n)
unfolding P.local
by-Local n of at k = refl

by-Member : (x : Expr) (n : ℕ) (of : Layout) (at : ℕ) → KnownAs (meaning x).constant (P.member of at (meaning x) n)
unfolding P.member
by-Member x n of at k = fixed (member_of (slice_get (meaning x).of.members n)) x k

by-Part : (x : Expr) (left right : ℤ) (of : Layout) (at : ℕ) → KnownAs (meaning x).constant (P.part_select of at (meaning x) left right)
unfolding P.part_select
by-Part x left right of at k = fixed (between (meaning x).of left right) x k

by-Index : (x i : Expr) (of : Layout) (at : ℕ) → KnownAs (λ k. (meaning x).constant k && (meaning i).constant k) (P.index of at (meaning x) (meaning i))
unfolding P.index
by-Index x i of at k = indexed (element_of (meaning x).of (P.index_of (meaning i) k.around)) x ((meaning i).constant k) k

by-Slide : (x i : Expr) (n : ℕ) (up : Bool) (of : Layout) (at : ℕ) → KnownAs (λ k. (meaning x).constant k && (meaning i).constant k) (P.sliding of at (meaning x) (meaning i) n up)
unfolding P.sliding
by-Slide x i n up of at k = indexed (slide (meaning x).of up n (P.index_of (meaning i) k.around)) x ((meaning i).constant k) k

-- whether the value of a path is known
pub constant-Signal : (e : Expr) (n : ℕ) → e.form ≡ V.Signal n → (k : Sight) → (meaning e).constant k ≡ root_sure (Some n) k
constant-Signal e n is = at-expr e (V.Signal n) _ (root_sure (Some n)) is (L.form-Signal n) (by-Signal n (layout e.of) e.spot.at)

pub constant-Local : (e : Expr) (n : ℕ) → e.form ≡ V.Local n → (k : Sight) → (meaning e).constant k ≡ root_sure (Some (local_number n)) k
constant-Local e n is = at-expr e (V.Local n) _ (root_sure (Some (local_number n))) is (L.form-Local n) (by-Local n (layout e.of) e.spot.at)

pub constant-Member : (e x : Expr) (n : ℕ) → e.form ≡ V.Member x n → (k : Sight) → (meaning e).constant k ≡ (meaning x).constant k
constant-Member e x n is = at-expr e (V.Member x n) _ (meaning x).constant is (L.form-Member x n) (by-Member x n (layout e.of) e.spot.at)

pub constant-Part : (e x : Expr) (left right : ℤ) → e.form ≡ V.Part x left right → (k : Sight) → (meaning e).constant k ≡ (meaning x).constant k
constant-Part e x left right is = at-expr e (V.Part x left right) _ (meaning x).constant is (L.form-Part x left right) (by-Part x left right (layout e.of) e.spot.at)

pub constant-Index : (e x i : Expr) → e.form ≡ V.Index x i → (k : Sight) → (meaning e).constant k ≡ ((meaning x).constant k && (meaning i).constant k)
constant-Index e x i is = at-expr e (V.Index x i) _ (λ k. (meaning x).constant k && (meaning i).constant k) is (L.form-Index x i) (by-Index x i (layout e.of) e.spot.at)

pub constant-Slide : (e x i : Expr) (n : ℕ) (up : Bool) → e.form ≡ V.Slide x i n up → (k : Sight) → (meaning e).constant k ≡ ((meaning x).constant k && (meaning i).constant k)
constant-Slide e x i n up is = at-expr e (V.Slide x i n up) _ (λ k. (meaning x).constant k && (meaning i).constant k) is (L.form-Slide x i n up) (by-Slide x i n up (layout e.of) e.spot.at)
