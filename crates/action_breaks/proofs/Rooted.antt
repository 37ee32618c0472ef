-- What targets name, by the roots that their meanings have.
use Rattle.std.proofs.Common.{◌≡◌, ℕ, Bool, true, false, ◌||◌, not, cond, ℤ, List, [], ◌∷◌, ◌++◌, map, flat_map, refl, ap, sym, ◌∙◌, subst}
use Rattle.std.specs.List.{list_any}
use Rattle.b4_core.specs.declared.bit.Bit4.{Bit4}
use Rattle.b4_core.specs.declared.operators.UnOp.{UnOp}
use Rattle.b4_core.specs.declared.operators.BinOp.{BinOp}
use Rattle.b4_core.specs.declared.operators.RedOp.{RedOp}
use Rattle.b4_core.specs.declared.operators.ShiftOp.{ShiftOp}
use Rattle.b4_core.specs.declared.operators.OrdOp.{OrdOp}
use Rattle.b4_core.specs.declared.operators.EqOp.{EqOp}
use Rattle.sv_types.specs.declared.types.Value.{Value}
use Rattle.sv_types.specs.declared.expression.Expr.{Expr}
use Rattle.sv_types.specs.declared.expression.Form.{Form, fold-Form}
use Rattle.sv_types.specs.declared.expression.Choice.{Choice}
use Rattle.sv_types.specs.Layouts.{Layout, layout}
use Rattle.sv_types.specs.Surroundings.{is_signal, local_number}
use Rattle.sv_types.specs.Meanings.{Meaning}
use Rattle.sv_types.specs.Meanings as Me
use Rattle.sv_types.specs.Operators as O
use Rattle.sv_types.specs.Paths as P
use Rattle.sv_types.specs.Expressions.{meaning}
use Rattle.sv_types.proofs.Levels as S
use Rattle.sv_types.proofs.Levels.{form_meaning, alternative}
use Rattle.sv_types.proofs.Terms.{Each, Steps, by-expr}
use Rattle.design_breaks.specs.Actions.{roots_of}
use Rattle.body_mentions.proofs.Levels as L
use Rattle.action_breaks.specs.declared.bases.Bases.{Bases}
use Rattle.action_breaks.specs.Bases as B
use Rattle.action_breaks.specs.Bases.{Standing, stands, with_number, nowhere, at_number, on, in_turn, parts, bases_of, target_bases}

abbrev with_numbers : List ℕ → Bases → Bases
with_numbers [] u = u
with_numbers (n ∷ ns) u = with_numbers ns (with_number n u)

numbers-append : (ns ms : List ℕ) (u : Bases) → with_numbers ms (with_numbers ns u) ≡ with_numbers (ns ++ ms) u
numbers-append [] ms u = refl
numbers-append (n ∷ ns) ms u = numbers-append ns ms (with_number n u)

-- what stands there names the roots
pub record Names (s : Standing) (m : Meaning) : Type 0 where
  pub path : (u : Bases) → s.path u ≡ with_numbers (Me.roots_of m.root) u
  pub all : (u : Bases) → s.all u ≡ with_numbers m.roots u

abbrev form_stands : Form → Standing
form_stands = fold-Form Standing Standing Standing B.choice_step B.form_step B.expr_step

by-levels : (s t : Standing) (m n : Meaning) → s ≡ t → m ≡ n → Names t n → Names s m
by-levels s t m n a b h = subst (λ x. Names x m) (sym a) (subst (Names t) (sym b) h)

-- what is no path names nothing
in-Literal : (of : Layout) (at : ℕ) (v : List Bit4) (goes_on : Bool) → Names nowhere (O.literal of at goes_on v)
unfolding O.literal
in-Literal of at v goes_on = record { path = λ u. refl; all = λ u. refl }

in-Fill : (of : Layout) (at : ℕ) (b : Bit4) → Names nowhere (O.fill of at b)
unfolding O.fill
in-Fill of at b = record { path = λ u. refl; all = λ u. refl }

in-Constant : (of : Layout) (at : ℕ) (v : Value) → Names nowhere (O.constant of at v)
unfolding O.constant
in-Constant of at v = record { path = λ u. refl; all = λ u. refl }

in-Unary : (of : Layout) (at : ℕ) (op : UnOp) (x : Expr) → Names nowhere (O.unary of at op (meaning x))
unfolding O.unary
in-Unary of at op x = record { path = λ u. refl; all = λ u. refl }

in-Reduce : (of : Layout) (at : ℕ) (op : RedOp) (x : Expr) → Names nowhere (O.reduce of at op (meaning x))
unfolding O.reduce
in-Reduce of at op x = record { path = λ u. refl; all = λ u. refl }

in-Negate : (of : Layout) (at : ℕ) (x : Expr) → Names nowhere (O.negate of at (meaning x))
unfolding O.negate
in-Negate of at x = record { path = λ u. refl; all = λ u. refl }

in-Binary : (of : Layout) (at : ℕ) (op : BinOp) (x y : Expr) → Names nowhere (O.binary of at op (meaning x) (meaning y))
unfolding O.binary
in-Binary of at op x y = record { path = λ u. refl; all = λ u. refl }

in-Shift : (of : Layout) (at : ℕ) (op : ShiftOp) (x y : Expr) → Names nowhere (O.shift of at op (meaning x) (meaning y))
unfolding O.shift
in-Shift of at op x y = record { path = λ u. refl; all = λ u. refl }

in-Power : (of : Layout) (at : ℕ) (x y : Expr) → Names nowhere (O.power of at (meaning x) (meaning y))
unfolding O.power
in-Power of at x y = record { path = λ u. refl; all = λ u. refl }

in-Order : (of : Layout) (at : ℕ) (op : OrdOp) (x y : Expr) → Names nowhere (O.order of at op (meaning x) (meaning y))
unfolding O.order
in-Order of at op x y = record { path = λ u. refl; all = λ u. refl }

in-Equal : (of : Layout) (at : ℕ) (op : EqOp) (negated : Bool) (x y : Expr) → Names nowhere (O.equal of at op negated (meaning x) (meaning y))
unfolding O.equal
in-Equal of at op negated x y = record { path = λ u. refl; all = λ u. refl }

in-Both : (of : Layout) (at : ℕ) (x y : Expr) → Names nowhere (O.both of at (meaning x) (meaning y))
unfolding O.both
in-Both of at x y = record { path = λ u. refl; all = λ u. refl }

in-Either : (of : Layout) (at : ℕ) (x y : Expr) → Names nowhere (O.either of at (meaning x) (meaning y))
unfolding O.either
in-Either of at x y = record { path = λ u. refl; all = λ u. refl }

in-Choose : (of : Layout) (at : ℕ) (z x y : Expr) → Names nowhere (O.choose of at (meaning z) (meaning x) (meaning y))
unfolding O.choose
in-Choose of at z x y = record { path = λ u. refl; all = λ u. refl }

in-Repeat : (of : Layout) (at : ℕ) (n : ℕ) (es : List Expr) → Names nowhere (O.repeat of at n (map meaning es))
unfolding O.repeat
in-Repeat of at n es = record { path = λ u. refl; all = λ u. refl }

in-Inside : (of : Layout) (at : ℕ) (x : Expr) (cs : List Choice) → Names nowhere (O.inside of at (meaning x) (map alternative cs))
unfolding O.inside
in-Inside of at x cs = record { path = λ u. refl; all = λ u. refl }

in-Cast : (of : Layout) (at : ℕ) (x : Expr) → Names nowhere (O.cast of at (meaning x))
unfolding O.cast
in-Cast of at x = record { path = λ u. refl; all = λ u. refl }

in-Clog2 : (of : Layout) (at : ℕ) (x : Expr) → Names nowhere (O.clog2 of at (meaning x))
unfolding O.clog2
in-Clog2 of at x = record { path = λ u. refl; all = λ u. refl }

in-Pattern : (of : Layout) (at : ℕ) (es : List Expr) → Names nowhere (O.pattern of at (map meaning es))
unfolding O.pattern
in-Pattern of at es = record { path = λ u. refl; all = λ u. refl }

in-Call : (of : Layout) (at : ℕ) (f : ℕ) (es : List Expr) → Names nowhere (O.call of at f (map meaning es))
unfolding O.call
in-Call of at f es = record { path = λ u. refl; all = λ u. refl }

-- a path names what it stands on
in-Signal : (of : Layout) (at n : ℕ) → Names (at_number n) (P.signal of at n)
unfolding P.signal
in-Signal of at n = record { path = λ u. refl; all = λ u. refl }

in-Local : (of : Layout) (at n : ℕ) → Names (at_number (local_number n)) (P.local of at n)
unfolding P.local
in-Local of at n = record { path = λ u. refl; all = λ u. refl }

in-Member : (of : Layout) (at : ℕ) (x : Expr) (k : ℕ) → Names (stands x) (meaning x) → Names (on (stands x)) (P.member of at (meaning x) k)
unfolding P.member
in-Member of at x k h = record { path = h.path; all = h.path }

in-Index : (of : Layout) (at : ℕ) (x i : Expr) → Names (stands x) (meaning x) → Names (on (stands x)) (P.index of at (meaning x) (meaning i))
unfolding P.index
in-Index of at x i h = record { path = h.path; all = h.path }

in-Part : (of : Layout) (at : ℕ) (x : Expr) (left right : ℤ) → Names (stands x) (meaning x) → Names (on (stands x)) (P.part_select of at (meaning x) left right)
unfolding P.part_select
in-Part of at x left right h = record { path = h.path; all = h.path }

in-Slide : (of : Layout) (at : ℕ) (x i : Expr) (n : ℕ) (up : Bool) → Names (stands x) (meaning x) → Names (on (stands x)) (P.sliding of at (meaning x) (meaning i) n up)
unfolding P.sliding
in-Slide of at x i n up h = record { path = h.path; all = h.path }

-- parts name what each names
turns : (es : List Expr) → Each (λ e. Names (stands e) (meaning e)) es → (u : Bases) → in_turn (map stands es) u ≡ with_numbers (flat_map (λ (p : Meaning). p.roots) (map meaning es)) u
turns [] each u = refl
turns (e ∷ es) each u =
    ap (in_turn (map stands es)) (each.0.all u)
    ∙ turns es each.1 (with_numbers (meaning e).roots u)
    ∙ numbers-append (meaning e).roots (flat_map (λ (p : Meaning). p.roots) (map meaning es)) u

in-Concat : (of : Layout) (at : ℕ) (es : List Expr) → Each (λ e. Names (stands e) (meaning e)) es → Names (parts (map stands es)) (O.concat of at (map meaning es))
unfolding O.concat
in-Concat of at es each = record { path = λ u. refl; all = turns es each }

in-Stream : (of : Layout) (at : ℕ) (reversed : Bool) (n : ℕ) (es : List Expr) → Each (λ e. Names (stands e) (meaning e)) es → Names (parts (map stands es)) (O.stream of at reversed n (map meaning es))
unfolding O.stream
in-Stream of at reversed n es each = record { path = λ u. refl; all = turns es each }

abbrev NamesForm : Form → Type 0
NamesForm f = (of : Layout) (at : ℕ) → Names (form_stands f) (form_meaning f of at)

abbrev at_both : Layout → ℕ → (Layout → ℕ → Meaning) → Meaning
at_both of at y = y of at

all-steps : Steps (λ c. Unit {0}) NamesForm (λ e. Names (stands e) (meaning e))
all-steps = record {
  value = λ e h. tt;
  range = λ a b h g. tt;
  expr = λ e h. by-levels _ _ _ _ (L.expr-folded Standing Standing Standing B.choice_step B.form_step B.expr_step e) (S.meaning-form e) (h (layout e.of) e.spot.at);
  literal = λ v goes_on of at. by-levels _ _ _ _ (L.form-Literal Standing Standing Standing B.choice_step B.form_step B.expr_step v goes_on) (ap (at_both of at) (S.form-Literal v goes_on)) (in-Literal of at v goes_on);
  fill = λ b of at. by-levels _ _ _ _ (L.form-Fill Standing Standing Standing B.choice_step B.form_step B.expr_step b) (ap (at_both of at) (S.form-Fill b)) (in-Fill of at b);
  constant = λ v of at. by-levels _ _ _ _ (L.form-Constant Standing Standing Standing B.choice_step B.form_step B.expr_step v) (ap (at_both of at) (S.form-Constant v)) (in-Constant of at v);
  unary = λ op x h of at. by-levels _ _ _ _ (L.form-Unary Standing Standing Standing B.choice_step B.form_step B.expr_step op x) (ap (at_both of at) (S.form-Unary op x)) (in-Unary of at op x);
  reduce = λ op x h of at. by-levels _ _ _ _ (L.form-Reduce Standing Standing Standing B.choice_step B.form_step B.expr_step op x) (ap (at_both of at) (S.form-Reduce op x)) (in-Reduce of at op x);
  negate = λ x h of at. by-levels _ _ _ _ (L.form-Negate Standing Standing Standing B.choice_step B.form_step B.expr_step x) (ap (at_both of at) (S.form-Negate x)) (in-Negate of at x);
  binary = λ op x y h g of at. by-levels _ _ _ _ (L.form-Binary Standing Standing Standing B.choice_step B.form_step B.expr_step op x y) (ap (at_both of at) (S.form-Binary op x y)) (in-Binary of at op x y);
  shift = λ op x y h g of at. by-levels _ _ _ _ (L.form-Shift Standing Standing Standing B.choice_step B.form_step B.expr_step op x y) (ap (at_both of at) (S.form-Shift op x y)) (in-Shift of at op x y);
  power = λ x y h g of at. by-levels _ _ _ _ (L.form-Power Standing Standing Standing B.choice_step B.form_step B.expr_step x y) (ap (at_both of at) (S.form-Power x y)) (in-Power of at x y);
  order = λ op x y h g of at. by-levels _ _ _ _ (L.form-Order Standing Standing Standing B.choice_step B.form_step B.expr_step op x y) (ap (at_both of at) (S.form-Order op x y)) (in-Order of at op x y);
  equal = λ op negated x y h g of at. by-levels _ _ _ _ (L.form-Equal Standing Standing Standing B.choice_step B.form_step B.expr_step op negated x y) (ap (at_both of at) (S.form-Equal op negated x y)) (in-Equal of at op negated x y);
  both = λ x y h g of at. by-levels _ _ _ _ (L.form-Both Standing Standing Standing B.choice_step B.form_step B.expr_step x y) (ap (at_both of at) (S.form-Both x y)) (in-Both of at x y);
  either = λ x y h g of at. by-levels _ _ _ _ (L.form-Either Standing Standing Standing B.choice_step B.form_step B.expr_step x y) (ap (at_both of at) (S.form-Either x y)) (in-Either of at x y);
  choose = λ z x y k h g of at. by-levels _ _ _ _ (L.form-Choose Standing Standing Standing B.choice_step B.form_step B.expr_step z x y) (ap (at_both of at) (S.form-Choose z x y)) (in-Choose of at z x y);
  repeat = λ n es each of at. by-levels _ _ _ _ (L.form-Repeat Standing Standing Standing B.choice_step B.form_step B.expr_step n es) (ap (at_both of at) (S.form-Repeat n es)) (in-Repeat of at n es);
  inside = λ x cs h each of at. by-levels _ _ _ _ (L.form-Inside Standing Standing Standing B.choice_step B.form_step B.expr_step x cs) (ap (at_both of at) (S.form-Inside x cs)) (in-Inside of at x cs);
  cast = λ x h of at. by-levels _ _ _ _ (L.form-Cast Standing Standing Standing B.choice_step B.form_step B.expr_step x) (ap (at_both of at) (S.form-Cast x)) (in-Cast of at x);
  clog2 = λ x h of at. by-levels _ _ _ _ (L.form-Clog2 Standing Standing Standing B.choice_step B.form_step B.expr_step x) (ap (at_both of at) (S.form-Clog2 x)) (in-Clog2 of at x);
  pattern = λ es each of at. by-levels _ _ _ _ (L.form-Pattern Standing Standing Standing B.choice_step B.form_step B.expr_step es) (ap (at_both of at) (S.form-Pattern es)) (in-Pattern of at es);
  call = λ f es each of at. by-levels _ _ _ _ (L.form-Call Standing Standing Standing B.choice_step B.form_step B.expr_step f es) (ap (at_both of at) (S.form-Call f es)) (in-Call of at f es);
  signal = λ n of at. by-levels _ _ _ _ (L.form-Signal Standing Standing Standing B.choice_step B.form_step B.expr_step n) (ap (at_both of at) (S.form-Signal n)) (in-Signal of at n);
  local = λ n of at. by-levels _ _ _ _ (L.form-Local Standing Standing Standing B.choice_step B.form_step B.expr_step n) (ap (at_both of at) (S.form-Local n)) (in-Local of at n);
  member = λ x k h of at. by-levels _ _ _ _ (L.form-Member Standing Standing Standing B.choice_step B.form_step B.expr_step x k) (ap (at_both of at) (S.form-Member x k)) (in-Member of at x k h);
  index = λ x i h g of at. by-levels _ _ _ _ (L.form-Index Standing Standing Standing B.choice_step B.form_step B.expr_step x i) (ap (at_both of at) (S.form-Index x i)) (in-Index of at x i h);
  part_select = λ x left right h of at. by-levels _ _ _ _ (L.form-Part Standing Standing Standing B.choice_step B.form_step B.expr_step x left right) (ap (at_both of at) (S.form-Part x left right)) (in-Part of at x left right h);
  sliding = λ x i n up h g of at. by-levels _ _ _ _ (L.form-Slide Standing Standing Standing B.choice_step B.form_step B.expr_step x i n up) (ap (at_both of at) (S.form-Slide x i n up)) (in-Slide of at x i n up h);
  concat = λ es each of at. by-levels _ _ _ _ (L.form-Concat Standing Standing Standing B.choice_step B.form_step B.expr_step es) (ap (at_both of at) (S.form-Concat es)) (in-Concat of at es each);
  stream = λ reversed n es each of at. by-levels _ _ _ _ (L.form-Stream Standing Standing Standing B.choice_step B.form_step B.expr_step reversed n es) (ap (at_both of at) (S.form-Stream reversed n es)) (in-Stream of at reversed n es each);
}

expr-names : (e : Expr) → Names (stands e) (meaning e)
expr-names = by-expr (λ c. Unit {0}) NamesForm (λ e. Names (stands e) (meaning e)) all-steps

-- whether signals and locals are among the roots
signal-in : (ns : List ℕ) (u : Bases) → (with_numbers ns u).signal ≡ (u.signal || list_any is_signal ns)
signal-in [] u = or-false u.signal
  where
    or-false : (b : Bool) → b ≡ (b || false)
    or-false true = refl
    or-false false = refl
signal-in (n ∷ ns) u = signal-in ns (with_number n u) ∙ by (is_signal n)
  where
    by : (b : Bool) → ((cond {A = Bases} b (record { signal = true; local = u.local }) (record { signal = u.signal; local = true })).signal || list_any is_signal ns) ≡ (u.signal || (b || list_any is_signal ns))
    by true = always u.signal
      where
        always : (s : Bool) → true ≡ (s || true)
        always true = refl
        always false = refl
    by false = refl

local-in : (ns : List ℕ) (u : Bases) → (with_numbers ns u).local ≡ (u.local || list_any (λ n. not (is_signal n)) ns)
local-in [] u = or-false u.local
  where
    or-false : (b : Bool) → b ≡ (b || false)
    or-false true = refl
    or-false false = refl
local-in (n ∷ ns) u = local-in ns (with_number n u) ∙ by (is_signal n)
  where
    by : (b : Bool) → ((cond {A = Bases} b (record { signal = true; local = u.local }) (record { signal = u.signal; local = true })).local || list_any (λ k. not (is_signal k)) ns) ≡ (u.local || (not b || list_any (λ k. not (is_signal k)) ns))
    by true = refl
    by false = always u.local
      where
        always : (s : Bool) → true ≡ (s || true)
        always true = refl
        always false = refl

all-names : (es : List Expr) (u : Bases) → in_turn (map stands es) u ≡ with_numbers (roots_of es) u
all-names [] u = refl
all-names (e ∷ es) u =
    ap (in_turn (map stands es)) ((expr-names e).all u) ∙ all-names es (with_numbers (meaning e).roots u) ∙ numbers-append (meaning e).roots (roots_of es) u

pub signals-named : (es : List Expr) → (bases_of es).signal ≡ list_any is_signal (roots_of es)
signals-named es = ap (λ (u : Bases). u.signal) (all-names es B.none) ∙ signal-in (roots_of es) B.none

pub locals-named : (es : List Expr) → (bases_of es).local ≡ list_any (λ n. not (is_signal n)) (roots_of es)
locals-named es = ap (λ (u : Bases). u.local) (all-names es B.none) ∙ local-in (roots_of es) B.none

pub target-named : (e : Expr) → (target_bases e).signal ≡ list_any is_signal (meaning e).roots
target-named e = ap (λ (u : Bases). u.signal) ((expr-names e).all B.none) ∙ signal-in (meaning e).roots B.none
