-- What of an expression hangs on which bits are sure, and not on what they hold; and the signals and locals that a write
-- through it changes.
use Rattle.std.proofs.Common.{◌≡◌, ℕ, ◌==◌, Bool, true, false, ◌&&◌, ◌||◌, cond, ℤ, List, [], ◌∷◌, ◌++◌, map, flat_map, Option, Some, None, refl, ap, sym, ◌∙◌, subst}
use Rattle.std.specs.Prelude.{nat_le, nat_lt, slice_get}
use Rattle.std.specs.List.{list_any, list_all}
use Rattle.std.proofs.lemmas.Bool.{or_parts}
use Rattle.b4_core.specs.declared.bit.Bit4.{Bit4}
use Rattle.b4_core.specs.Vectors.{ext}
use Rattle.row_machine.specs.Valuation.{Place}
use Rattle.sv_types.specs.declared.types.Value.{Value}
use Rattle.sv_types.specs.declared.expression.Expr.{Expr}
use Rattle.sv_types.specs.declared.expression.Form.{Form}
use Rattle.sv_types.specs.declared.expression.Choice.{Choice}
use Rattle.sv_types.specs.Layouts.{Layout, Part, layout}
use Rattle.sv_types.specs.Windows.{Window, member_of, between, element_of, slide}
use Rattle.sv_types.specs.Surroundings.{Around, Sight, local_number}
use Rattle.sv_types.specs.Meanings.{Meaning, Operand, Path, Prefix, plain, selected, by_itself, in_context, at_width, use_of, root_sure, roots_of, writes_of}
use Rattle.sv_types.specs.Operators as O
use Rattle.sv_types.specs.Operators.{Alternative, four_state, one_bit, compared, parts_of}
use Rattle.sv_types.specs.Paths as P
use Rattle.sv_types.specs.Paths.{root_path, fixed_step, indexed_step, known_base, narrowed, index_of}
use Rattle.sv_types.specs.Flows.{covered, uses_of}
use Rattle.sv_types.specs.Expressions.{meaning}
use Rattle.sv_types.proofs.Levels as L
use Rattle.sv_types.proofs.Levels.{form_meaning, meaning-form}
use Rattle.sv_types.proofs.Terms.{Steps, Each, by-expr}
use Rattle.flow_laws.proofs.Plain.{operands_of, item_operands}
use Rattle.flow_laws.proofs.Placing.{covered-writes}

-- the same bits are sure
abbrev pub SameSure : Sight → Sight → Type 0
SameSure j k = (q : Place) → j.sure q ≡ k.sure q

pub record Tells (m : Meaning) : Type 0 where
  pub constant : (j k : Sight) → SameSure j k → m.constant j ≡ m.constant k
  pub exact : (j k : Sight) → SameSure j k → (m.prefix j).exact ≡ (m.prefix k).exact
  pub roots : (k : Sight) (q : Place) → list_any (λ (n : ℕ). n == q.signal) m.roots ≡ false → covered (uses_of (m.writes k)) q ≡ false

abbrev pub AllTell : List Meaning → Type 0
AllTell [] = Unit {0}
AllTell (m ∷ ms) = Tells m × AllTell ms

pub and-same : (a b c d : Bool) → a ≡ c → b ≡ d → (a && b) ≡ (c && d)
and-same a b c d h g = ap (λ x. x && b) h ∙ ap (λ x. c && x) g

all-constant : (ps : List Operand) (j k : Sight) → SameSure j k → AllTell (operands_of ps) → list_all (λ (p : Operand). p.of.constant j) ps ≡ list_all (λ (p : Operand). p.of.constant k) ps
all-constant [] j k sure h = refl
all-constant (p ∷ ps) j k sure h =
    and-same (p.of.constant j) (list_all (λ (x : Operand). x.of.constant j) ps) (p.of.constant k) (list_all (λ (x : Operand). x.of.constant k) ps) (h.0.constant j k sure) (all-constant ps j k sure h.1)

plain-tells : (of : Layout) (at w : ℕ) (s : Bool) (own : ℕ → ℕ) (ps : List Operand) (value : ℕ → Bool → Around → List Bit4) → AllTell (operands_of ps) → Tells (plain of at w s own ps value)
plain-tells of at w s own ps value h = record {
  constant = λ j k sure. all-constant ps j k sure h;
  exact = λ j k sure. all-constant ps j k sure h;
  roots = λ k q is. refl;
}

four-tells : (of : Layout) (at w : ℕ) (s : Bool) (own : ℕ → ℕ) (ps : List Operand) (value : ℕ → Bool → Around → List Bit4) → AllTell (operands_of ps) → Tells (four_state (plain of at w s own ps value))
four-tells of at w s own ps value h = let p = plain-tells of at w s own ps value h in record { constant = p.constant; exact = p.exact; roots = p.roots }

bit-tells : (of : Layout) (at : ℕ) (own : ℕ → ℕ) (ps : List Operand) (bit : Around → Bit4) → AllTell (operands_of ps) → Tells (one_bit of at own ps bit)
bit-tells of at own ps bit h = let p = four-tells of at 1 false own ps (λ w s a. ext w s (bit a ∷ [])) h in record { constant = p.constant; exact = p.exact; roots = p.roots }

-- the parts of a target together
pub any-parts : (f : ℕ → Bool) (xs ys : List ℕ) → list_any f (xs ++ ys) ≡ false → (list_any f xs ≡ false) × (list_any f ys ≡ false)
any-parts f [] ys h = (refl, h)
any-parts f (x ∷ xs) ys h =
    let two = or_parts (f x) (list_any f (xs ++ ys)) h in
    let rest = any-parts f xs ys two.1 in
    (ap (λ b. b || list_any f xs) two.0 ∙ rest.0, rest.1)

pub all-roots : (ms : List Meaning) (k : Sight) (q : Place) → AllTell ms → list_any (λ (n : ℕ). n == q.signal) (flat_map (λ (m : Meaning). m.roots) ms) ≡ false
    → covered (uses_of (flat_map (λ (m : Meaning). m.writes k) ms)) q ≡ false
all-roots [] k q h is = refl
all-roots (m ∷ ms) k q h is =
    let two = any-parts (λ (n : ℕ). n == q.signal) m.roots (flat_map (λ (x : Meaning). x.roots) ms) is in
    covered-writes (m.writes k) (flat_map (λ (x : Meaning). x.writes k) ms) q
    ∙ ap (λ b. b || covered (uses_of (flat_map (λ (x : Meaning). x.writes k) ms)) q) (h.0.roots k q two.0) ∙ all-roots ms k q h.1 two.1

by-itself-of : (ms : List Meaning) → operands_of (map by_itself ms) ≡ ms
by-itself-of [] = refl
by-itself-of (m ∷ ms) = ap (λ ns. m ∷ ns) (by-itself-of ms)

alone-tell : (ms : List Meaning) → AllTell ms → AllTell (operands_of (map by_itself ms))
alone-tell ms h = subst AllTell (sym (by-itself-of ms)) h

-- select paths
root-same : (r : Option ℕ) (j k : Sight) → SameSure j k → root_sure r j ≡ root_sure r k
root-same None j k sure = refl
root-same (Some n) j k sure = sure (record { signal = n; bit = 0 })

root-writes : (r : Option ℕ) (at : ℕ) (p : Prefix) (q : Place) → list_any (λ (n : ℕ). n == q.signal) (roots_of r) ≡ false → covered (uses_of (writes_of p.exact (use_of r at p))) q ≡ false
root-writes None at p q is = refl
root-writes (Some n) at p q is = ap (λ b. (b && (nat_le p.window.low q.bit && nat_lt q.bit p.window.high)) || false) (or_parts (n == q.signal) false is).0

selected-tells : (of : Layout) (at : ℕ) (p : Path) → ((j k : Sight) → SameSure j k → (p.prefix j).exact ≡ (p.prefix k).exact) → ((j k : Sight) → SameSure j k → p.constant_base j ≡ p.constant_base k)
    → Tells (selected of at p)
selected-tells of at p exact base = record {
  constant = λ j k sure. and-same (p.prefix j).exact (p.constant_base j && root_sure p.root j) (p.prefix k).exact (p.constant_base k && root_sure p.root k) (exact j k sure)
      (and-same (p.constant_base j) (root_sure p.root j) (p.constant_base k) (root_sure p.root k) (base j k sure) (root-same p.root j k sure));
  exact = exact;
  roots = λ k q is. root-writes p.root at (p.prefix k) q is;
}

base-same : (r : Option ℕ) (b c : Bool) → b ≡ c → known_base r b ≡ known_base r c
base-same r b c is = ap (known_base r) is

narrowed-exact : (step : Window → Window) (p : Prefix) → (narrowed step p).exact ≡ p.exact
narrowed-exact step p = by p.exact refl
  where
    by : (b : Bool) → p.exact ≡ b → (cond {A = Prefix} b (record { window = step p.window; exact = true }) p).exact ≡ p.exact
    by true is = sym is
    by false is = refl

fixed-tells : (of : Layout) (at : ℕ) (step : Window → Window) (misfits : ℕ) (from : Meaning) → Tells from → Tells (selected of at (fixed_step step misfits from))
fixed-tells of at step misfits from h =
    selected-tells of at (fixed_step step misfits from)
    (λ j k sure. narrowed-exact step (from.prefix j) ∙ h.exact j k sure ∙ sym (narrowed-exact step (from.prefix k)))
    (λ j k sure. base-same from.root (from.constant j) (from.constant k) (h.constant j k sure))

indexed-exact : (c : Bool) (step : Window → Window) (p : Prefix) → (cond {A = Prefix} c (narrowed step p) (record { window = p.window; exact = false })).exact ≡ cond c p.exact false
indexed-exact true step p = narrowed-exact step p
indexed-exact false step p = refl

indexed-tells : (of : Layout) (at : ℕ) (step : Option ℤ → Window → Window) (misfits : ℕ) (from i : Meaning) → Tells from → Tells i → Tells (selected of at (indexed_step step misfits from i))
indexed-tells of at step misfits from i h g =
    selected-tells of at (indexed_step step misfits from i)
    (λ j k sure. indexed-exact (i.constant j) (step (index_of i j.around)) (from.prefix j) ∙ ap (λ c. cond c (from.prefix j).exact false) (g.constant j k sure) ∙ ap (λ c. cond (i.constant k) c false) (h.exact j k sure)
    ∙ sym (indexed-exact (i.constant k) (step (index_of i k.around)) (from.prefix k)))
    (λ j k sure. base-same from.root (from.constant j) (from.constant k) (h.constant j k sure))

tell-signal : (of : Layout) (at n : ℕ) → Tells (P.signal of at n)
unfolding P.signal
tell-signal of at n = selected-tells of at (root_path n of) (λ j k sure. refl) (λ j k sure. refl)

tell-local : (of : Layout) (at n : ℕ) → Tells (P.local of at n)
unfolding P.local
tell-local of at n = selected-tells of at (root_path (local_number n) of) (λ j k sure. refl) (λ j k sure. refl)

tell-member : (of : Layout) (at : ℕ) (m : Meaning) (k : ℕ) → Tells m → Tells (P.member of at m k)
unfolding P.member
tell-member of at m k h = fixed-tells of at (member_of (slice_get m.of.members k)) _ m h

tell-index : (of : Layout) (at : ℕ) (m i : Meaning) → Tells m → Tells i → Tells (P.index of at m i)
unfolding P.index
tell-index of at m i h g = indexed-tells of at (element_of m.of) _ m i h g

tell-part : (of : Layout) (at : ℕ) (m : Meaning) (left right : ℤ) → Tells m → Tells (P.part_select of at m left right)
unfolding P.part_select
tell-part of at m left right h = fixed-tells of at (between m.of left right) _ m h

tell-sliding : (of : Layout) (at : ℕ) (m i : Meaning) (n : ℕ) (up : Bool) → Tells m → Tells i → Tells (P.sliding of at m i n up)
unfolding P.sliding
tell-sliding of at m i n up h g = indexed-tells of at (slide m.of up n) _ m i h g

tell-literal : (of : Layout) (at : ℕ) (goes_on : Bool) (v : List Bit4) → Tells (O.literal of at goes_on v)
unfolding O.literal
tell-literal of at goes_on v = plain-tells of at _ _ O.no_arithmetic [] _ tt

tell-fill : (of : Layout) (at : ℕ) (b : Bit4) → Tells (O.fill of at b)
unfolding O.fill
tell-fill of at b = plain-tells of at _ _ O.no_arithmetic [] _ tt

tell-constant : (of : Layout) (at : ℕ) (v : Value) → Tells (O.constant of at v)
unfolding O.constant
tell-constant of at v = plain-tells of at _ _ O.no_arithmetic [] _ tt

tell-unary : (of : Layout) (at : ℕ) (op : _) (m : Meaning) → Tells m → Tells (O.unary of at op m)
unfolding O.unary
tell-unary of at op m h = four-tells of at _ _ _ (in_context m ∷ []) _ (h, tt)

tell-reduce : (of : Layout) (at : ℕ) (op : _) (m : Meaning) → Tells m → Tells (O.reduce of at op m)
unfolding O.reduce
tell-reduce of at op m h = bit-tells of at _ (by_itself m ∷ []) _ (h, tt)

tell-negate : (of : Layout) (at : ℕ) (m : Meaning) → Tells m → Tells (O.negate of at m)
unfolding O.negate
tell-negate of at m h = bit-tells of at _ (by_itself m ∷ []) _ (h, tt)

tell-binary : (of : Layout) (at : ℕ) (op : _) (l r : Meaning) → Tells l → Tells r → Tells (O.binary of at op l r)
unfolding O.binary
tell-binary of at op l r h g = four-tells of at _ _ _ (in_context l ∷ in_context r ∷ []) _ (h, (g, tt))

tell-shift : (of : Layout) (at : ℕ) (op : _) (l r : Meaning) → Tells l → Tells r → Tells (O.shift of at op l r)
unfolding O.shift
tell-shift of at op l r h g = four-tells of at _ _ _ (in_context l ∷ by_itself r ∷ []) _ (h, (g, tt))

tell-power : (of : Layout) (at : ℕ) (l r : Meaning) → Tells l → Tells r → Tells (O.power of at l r)
unfolding O.power
tell-power of at l r h g = four-tells of at _ _ _ (in_context l ∷ by_itself r ∷ []) _ (h, (g, tt))

tell-order : (of : Layout) (at : ℕ) (op : _) (l r : Meaning) → Tells l → Tells r → Tells (O.order of at op l r)
unfolding O.order
tell-order of at op l r h g = bit-tells of at _ (compared l r) _ (h, (g, tt))

tell-equal : (of : Layout) (at : ℕ) (op : _) (negated : Bool) (l r : Meaning) → Tells l → Tells r → Tells (O.equal of at op negated l r)
unfolding O.equal
tell-equal of at op negated l r h g = bit-tells of at _ (compared l r) _ (h, (g, tt))

tell-both : (of : Layout) (at : ℕ) (l r : Meaning) → Tells l → Tells r → Tells (O.both of at l r)
unfolding O.both
tell-both of at l r h g = bit-tells of at _ (by_itself l ∷ by_itself r ∷ []) _ (h, (g, tt))

tell-either : (of : Layout) (at : ℕ) (l r : Meaning) → Tells l → Tells r → Tells (O.either of at l r)
unfolding O.either
tell-either of at l r h g = bit-tells of at _ (by_itself l ∷ by_itself r ∷ []) _ (h, (g, tt))

tell-choose : (of : Layout) (at : ℕ) (on l r : Meaning) → Tells on → Tells l → Tells r → Tells (O.choose of at on l r)
unfolding O.choose
tell-choose of at on l r k h g = plain-tells of at _ _ _ (by_itself on ∷ in_context l ∷ in_context r ∷ []) _ (k, (h, (g, tt)))

tell-concat : (of : Layout) (at : ℕ) (ms : List Meaning) → AllTell ms → Tells (O.concat of at ms)
unfolding O.concat
tell-concat of at ms h = record {
  constant = λ j k sure. all-constant (map by_itself ms) j k sure (alone-tell ms h);
  exact = λ j k sure. all-constant (map by_itself ms) j k sure (alone-tell ms h);
  roots = λ k q is. all-roots ms k q h is;
}

tell-repeat : (of : Layout) (at n : ℕ) (ms : List Meaning) → AllTell ms → Tells (O.repeat of at n ms)
unfolding O.repeat
tell-repeat of at n ms h = four-tells of at _ _ _ (map by_itself ms) _ (alone-tell ms h)

-- what a value may be on the right of `inside`
abbrev TellsIn : Alternative → Type 0
TellsIn (Alternative.Only m) = Tells m
TellsIn (Alternative.From low high) = Tells low × Tells high

abbrev AllTellIn : List Alternative → Type 0
AllTellIn [] = Unit {0}
AllTellIn (c ∷ cs) = TellsIn c × AllTellIn cs

inside-tell : (m : Meaning) (cs : List Alternative) → AllTellIn cs → AllTell (operands_of (flat_map (O.inside_operands m) cs))
inside-tell m [] h = tt
inside-tell m (Alternative.Only v ∷ cs) h = (h.0, inside-tell m cs h.1)
inside-tell m (Alternative.From low high ∷ cs) h = (h.0.0, (h.0.1, inside-tell m cs h.1))

tell-inside : (of : Layout) (at : ℕ) (m : Meaning) (cs : List Alternative) → Tells m → AllTellIn cs → Tells (O.inside of at m cs)
unfolding O.inside
tell-inside of at m cs h g = bit-tells of at _ (at_width _ m ∷ flat_map (O.inside_operands m) cs) _ (h, inside-tell m cs g)

tell-cast : (of : Layout) (at : ℕ) (m : Meaning) → Tells m → Tells (O.cast of at m)
unfolding O.cast
tell-cast of at m h = plain-tells of at _ _ _ (by_itself m ∷ []) _ (h, tt)

tell-clog2 : (of : Layout) (at : ℕ) (m : Meaning) → Tells m → Tells (O.clog2 of at m)
unfolding O.clog2
tell-clog2 of at m h = four-tells of at _ _ _ (by_itself m ∷ []) _ (h, tt)

items-tell : (fs : List Part) (ms : List Meaning) → AllTell ms → AllTell (operands_of (item_operands fs ms))
items-tell [] ms h = tt
items-tell (f ∷ fs) [] h = tt
items-tell (f ∷ fs) (m ∷ ms) h = (h.0, items-tell fs ms h.1)

tell-pattern : (of : Layout) (at : ℕ) (ms : List Meaning) → AllTell ms → Tells (O.pattern of at ms)
unfolding O.pattern
tell-pattern of at ms h = plain-tells of at _ _ _ (item_operands (parts_of of) ms) _ (items-tell (parts_of of) ms h)

tell-call : (of : Layout) (at f : ℕ) (ms : List Meaning) → AllTell ms → Tells (O.call of at f ms)
unfolding O.call
tell-call of at f ms h = record {
  constant = λ j k sure. all-constant (map by_itself ms) j k sure (alone-tell ms h);
  exact = λ j k sure. all-constant (map by_itself ms) j k sure (alone-tell ms h);
  roots = λ k q is. refl;
}

tell-stream : (of : Layout) (at : ℕ) (reversed : Bool) (n : ℕ) (ms : List Meaning) → AllTell ms → Tells (O.stream of at reversed n ms)
unfolding O.stream
tell-stream of at reversed n ms h = record {
  constant = λ j k sure. all-constant (map by_itself ms) j k sure (alone-tell ms h);
  exact = λ j k sure. all-constant (map by_itself ms) j k sure (alone-tell ms h);
  roots = λ k q is. all-roots ms k q h is;
}

abbrev TellsForm : Form → Type 0
TellsForm f = (of : Layout) (at : ℕ) → Tells (form_meaning f of at)

by-step : (f : Form) (y : Layout → ℕ → Meaning) → form_meaning f ≡ y → ((of : Layout) (at : ℕ) → Tells (y of at)) → TellsForm f
by-step f y is h of at = subst (λ (g : Layout → ℕ → Meaning). Tells (g of at)) (sym is) (h of at)

abbrev TellsExpr : Expr → Type 0
TellsExpr e = Tells (meaning e)

abbrev TellsChoice : Choice → Type 0
TellsChoice c = TellsIn (L.alternative c)

all : (es : List Expr) → Each TellsExpr es → AllTell (map meaning es)
all [] h = tt
all (e ∷ es) h = (h.0, all es h.1)

all-in : (cs : List Choice) → Each TellsChoice cs → AllTellIn (map L.alternative cs)
all-in [] h = tt
all-in (c ∷ cs) h = (h.0, all-in cs h.1)

steps : Steps TellsChoice TellsForm TellsExpr
steps = record {
  value = λ e h. subst TellsIn (sym (L.only e)) h;
  range = λ a b h g. subst TellsIn (sym (L.from-to a b)) (h, g);
  expr = λ e h. subst Tells (sym (meaning-form e)) (h (layout e.of) e.spot.at);
  literal = λ v goes_on. by-step _ _ (L.form-Literal v goes_on) (λ of at. tell-literal of at goes_on v);
  fill = λ b. by-step _ _ (L.form-Fill b) (λ of at. tell-fill of at b);
  constant = λ v. by-step _ _ (L.form-Constant v) (λ of at. tell-constant of at v);
  signal = λ n. by-step _ _ (L.form-Signal n) (λ of at. tell-signal of at n);
  local = λ n. by-step _ _ (L.form-Local n) (λ of at. tell-local of at n);
  member = λ e k h. by-step _ _ (L.form-Member e k) (λ of at. tell-member of at (meaning e) k h);
  index = λ e i h g. by-step _ _ (L.form-Index e i) (λ of at. tell-index of at (meaning e) (meaning i) h g);
  part_select = λ e left right h. by-step _ _ (L.form-Part e left right) (λ of at. tell-part of at (meaning e) left right h);
  sliding = λ e i n up h g. by-step _ _ (L.form-Slide e i n up) (λ of at. tell-sliding of at (meaning e) (meaning i) n up h g);
  unary = λ op e h. by-step _ _ (L.form-Unary op e) (λ of at. tell-unary of at op (meaning e) h);
  reduce = λ op e h. by-step _ _ (L.form-Reduce op e) (λ of at. tell-reduce of at op (meaning e) h);
  negate = λ e h. by-step _ _ (L.form-Negate e) (λ of at. tell-negate of at (meaning e) h);
  binary = λ op a b h g. by-step _ _ (L.form-Binary op a b) (λ of at. tell-binary of at op (meaning a) (meaning b) h g);
  shift = λ op a b h g. by-step _ _ (L.form-Shift op a b) (λ of at. tell-shift of at op (meaning a) (meaning b) h g);
  power = λ a b h g. by-step _ _ (L.form-Power a b) (λ of at. tell-power of at (meaning a) (meaning b) h g);
  order = λ op a b h g. by-step _ _ (L.form-Order op a b) (λ of at. tell-order of at op (meaning a) (meaning b) h g);
  equal = λ op negated a b h g. by-step _ _ (L.form-Equal op negated a b) (λ of at. tell-equal of at op negated (meaning a) (meaning b) h g);
  both = λ a b h g. by-step _ _ (L.form-Both a b) (λ of at. tell-both of at (meaning a) (meaning b) h g);
  either = λ a b h g. by-step _ _ (L.form-Either a b) (λ of at. tell-either of at (meaning a) (meaning b) h g);
  choose = λ on a b h g k. by-step _ _ (L.form-Choose on a b) (λ of at. tell-choose of at (meaning on) (meaning a) (meaning b) h g k);
  concat = λ es h. by-step _ _ (L.form-Concat es) (λ of at. tell-concat of at (map meaning es) (all es h));
  repeat = λ n es h. by-step _ _ (L.form-Repeat n es) (λ of at. tell-repeat of at n (map meaning es) (all es h));
  inside = λ e cs h g. by-step _ _ (L.form-Inside e cs) (λ of at. tell-inside of at (meaning e) (map L.alternative cs) h (all-in cs g));
  cast = λ e h. by-step _ _ (L.form-Cast e) (λ of at. tell-cast of at (meaning e) h);
  clog2 = λ e h. by-step _ _ (L.form-Clog2 e) (λ of at. tell-clog2 of at (meaning e) h);
  pattern = λ es h. by-step _ _ (L.form-Pattern es) (λ of at. tell-pattern of at (map meaning es) (all es h));
  call = λ f es h. by-step _ _ (L.form-Call f es) (λ of at. tell-call of at f (map meaning es) (all es h));
  stream = λ reversed n es h. by-step _ _ (L.form-Stream reversed n es) (λ of at. tell-stream of at reversed n (map meaning es) (all es h));
}

pub tells : (e : Expr) → Tells (meaning e)
tells = by-expr TellsChoice TellsForm TellsExpr steps

pub all-tell : (es : List Expr) → AllTell (map meaning es)
all-tell [] = tt
all-tell (e ∷ es) = (tells e, all-tell es)
