-- What each form is made of: it reads nothing where its operands read nothing.
use Rattle.std.proofs.Common.{◌≡◌, ℕ, ◌<◌, max, Bool, false, ◌||◌, cond, ℤ, List, [], ◌∷◌, map, flat_map, replicate, length, take, Option, Some, None, refl, arith, ap, sym, ◌∙◌, subst}
use Rattle.std.specs.Prelude.{slice_get}
use Rattle.b4_core.specs.declared.bit.Bit4.{Bit4}
use Rattle.b4_core.specs.declared.operators.UnOp.{UnOp}
use Rattle.b4_core.specs.declared.operators.BinOp.{BinOp}
use Rattle.b4_core.specs.declared.operators.RedOp.{RedOp}
use Rattle.b4_core.specs.declared.operators.ShiftOp.{ShiftOp}
use Rattle.b4_core.specs.declared.operators.OrdOp.{OrdOp}
use Rattle.b4_core.specs.declared.operators.OrdOp.TheVariants.{LessEqual, GreaterEqual}
use Rattle.b4_core.specs.declared.operators.EqOp.{EqOp}
use Rattle.b4_core.specs.declared.operators.EqOp.TheVariants.{Wild}
use Rattle.b4_core.specs.Bits.{and4, or4, not4}
use Rattle.b4_core.specs.Bitwise.{any4}
use Rattle.b4_core.specs.Vectors.{ext, known, number}
use Rattle.b4_core.specs.Unary.{unary_value}
use Rattle.b4_core.specs.Binary.{binary_value}
use Rattle.b4_core.specs.Shift.{shift_value}
use Rattle.b4_core.specs.Power.{power_value}
use Rattle.b4_core.specs.Reduce.{reduction}
use Rattle.sv_types.specs.declared.types.Value.{Value}
use Rattle.sv_types.specs.declared.expression.Expr.{Expr}
use Rattle.sv_types.specs.declared.expression.Form.{Form}
use Rattle.sv_types.specs.declared.expression.Form.TheVariants as V
use Rattle.sv_types.specs.declared.expression.Choice.{Choice}
use Rattle.sv_types.specs.declared.expression.Choice.TheVariants as C
use Rattle.sv_types.specs.Layouts.{Layout, layout, stored, stacked, repeated}
use Rattle.sv_types.specs.Values.{bits}
use Rattle.sv_types.specs.Windows.{Window, seen, member_of, element_of, between, slide}
use Rattle.sv_types.specs.Surroundings.{Around}
use Rattle.sv_types.specs.Meanings.{Meaning, Named, Operand, Path, plain, selected, cut_to, wide, signed, alone, total, by_itself, in_context, at_width, most}
use Rattle.sv_types.specs.Operators as O
use Rattle.sv_types.specs.Operators.{Alternative, joined, truth, is_inside, chosen, equals, in_order, compared, parts_of, no_arithmetic, four_state, one_bit}
use Rattle.sv_types.specs.Paths as P
use Rattle.sv_types.specs.Paths.{names_of_root, fixed_step, indexed_step, index_of}
use Rattle.sv_types.specs.Expressions.{meaning}
use Rattle.sv_types.proofs.Levels as L
use Rattle.sv_types.proofs.Levels.{form_meaning}
use Rattle.flow_laws.specs.Hangs.{Same}
use Rattle.flow_laws.proofs.Agreeing.{empty-left}
use Rattle.flow_laws.proofs.Plain as S
use Rattle.flow_laws.proofs.Plain.{AllSame, operands_of, item_operands}
use Rattle.eval_parts.proofs.Nodes as N
use Rattle.eval_parts.proofs.Nodes.{nodes, choice_nodes}
use Rattle.eval_parts.proofs.Steps.{at-form}
use Rattle.path_steps.specs.Free.{Free, IsFree, AllFree, FreeIn, ChoiceFree, AllChoicesFree}

-- all of them
abbrev Frees : List Meaning → Type 0
Frees [] = Unit {0}
Frees (m ∷ ms) = Free m × Frees ms

abbrev FreesIn : List Alternative → Type 0
FreesIn [] = Unit {0}
FreesIn (c ∷ cs) = FreeIn c × FreesIn cs

all-same : (ms : List Meaning) → Frees ms → (a b : Around) → AllSame ms a b
all-same [] h a b = tt
all-same (m ∷ ms) h a b = (h.0.same a b, all-same ms h.1 a b)

no-names : (ps : List Operand) → Frees (operands_of ps) → flat_map (λ (p : Operand). p.of.names) ps ≡ []
no-names [] h = refl
no-names (p ∷ ps) h = empty-left p.of.names (flat_map (λ (q : Operand). q.of.names) ps) h.0.none (no-names ps h.1)

no-index-names : (ms : List Meaning) → Frees ms → flat_map (λ (m : Meaning). m.index_names) ms ≡ []
no-index-names [] h = refl
no-index-names (m ∷ ms) h = empty-left m.index_names (flat_map (λ (n : Meaning). n.index_names) ms) h.0.index_none (no-index-names ms h.1)

-- a value by those of the operands
abbrev ByOperands : List Operand → (ℕ → Bool → Around → List Bit4) → Type 0
ByOperands ps value = (a b : Around) → AllSame (operands_of ps) a b → (w : ℕ) (s : Bool) → value w s a ≡ value w s b

plain-free : (of : Layout) (at w : ℕ) (s : Bool) (own : ℕ → ℕ) (ps : List Operand) (value : ℕ → Bool → Around → List Bit4) → Frees (operands_of ps) → ByOperands ps value → Free (plain of at w s own ps value)
plain-free of at w s own ps value h by = record {
  same = λ a b. let is = by a b (all-same (operands_of ps) h a b) in record { value = is; given = λ m. ap (λ v. take m v) (is (max m (length of.two_state)) of.signed) };
  base = λ a b. by a b (all-same (operands_of ps) h a b) (length of.two_state) of.signed;
  window = λ a b. refl;
  none = no-names ps h;
  index_none = no-names ps h;
}

four-free : (of : Layout) (at w : ℕ) (s : Bool) (own : ℕ → ℕ) (ps : List Operand) (value : ℕ → Bool → Around → List Bit4) → Frees (operands_of ps) → ByOperands ps value → Free (four_state (plain of at w s own ps value))
four-free of at w s own ps value h by =
    let p = plain-free of at w s own ps value h by in
    record { same = λ a b. record { value = (p.same a b).value; given = (p.same a b).given }; base = p.base; window = p.window; none = p.none; index_none = p.index_none }

bit-free : (of : Layout) (at : ℕ) (own : ℕ → ℕ) (ps : List Operand) (bit : Around → Bit4) → Frees (operands_of ps) → ((a b : Around) → AllSame (operands_of ps) a b → bit a ≡ bit b) → Free (one_bit of at own ps bit)
bit-free of at own ps bit h by = four-free of at 1 false own ps (λ w s a. ext w s (bit a ∷ [])) h (λ a b is w s. ap (λ x. ext w s (x ∷ [])) (by a b is))

by-itself-of : (ms : List Meaning) → operands_of (map by_itself ms) ≡ ms
by-itself-of [] = refl
by-itself-of (m ∷ ms) = ap (λ ns. m ∷ ns) (by-itself-of ms)

alone-free : (ms : List Meaning) → Frees ms → Frees (operands_of (map by_itself ms))
alone-free ms h = subst Frees (sym (by-itself-of ms)) h

items-free : (fs : _) (ms : List Meaning) → Frees ms → Frees (operands_of (item_operands fs ms))
items-free [] ms h = tt
items-free (f ∷ fs) [] h = tt
items-free (f ∷ fs) (m ∷ ms) h = (h.0, items-free fs ms h.1)

-- operators and the other forms that are no select paths
in-Literal : (of : Layout) (at : ℕ) (v : List Bit4) (goes_on : Bool) → Free (O.literal of at goes_on v)
unfolding O.literal
in-Literal of at v goes_on = plain-free of at (length v) of.signed no_arithmetic [] (λ w s a. ext w (goes_on || s) v) tt (λ a b s w c. refl)

in-Fill : (of : Layout) (at : ℕ) (b : Bit4) → Free (O.fill of at b)
unfolding O.fill
in-Fill of at b = plain-free of at 1 false no_arithmetic [] (λ w s a. replicate w b) tt (λ a c s w d. refl)

in-Constant : (of : Layout) (at : ℕ) (v : Value) → Free (O.constant of at v)
unfolding O.constant
in-Constant of at v = plain-free of at (length (bits v)) of.signed no_arithmetic [] (λ w s a. ext w s (bits v)) tt (λ a b s w c. refl)

in-Unary : (of : Layout) (at : ℕ) (op : UnOp) (m : Meaning) → Free m → Free (O.unary of at op m)
unfolding O.unary
in-Unary of at op m h = four-free of at _ _ _ (in_context m ∷ []) _ (h, tt) (λ a b s w c. ap (unary_value op) (s.0.value w c))

in-Reduce : (of : Layout) (at : ℕ) (op : RedOp) (m : Meaning) → Free m → Free (O.reduce of at op m)
unfolding O.reduce
in-Reduce of at op m h = bit-free of at _ (by_itself m ∷ []) _ (h, tt) (λ a b s. ap (reduction op) (S.alone-same m a b s.0))

in-Negate : (of : Layout) (at : ℕ) (m : Meaning) → Free m → Free (O.negate of at m)
unfolding O.negate
in-Negate of at m h = bit-free of at _ (by_itself m ∷ []) _ (h, tt) (λ a b s. ap not4 (S.truth-same m a b s.0))

in-Binary : (of : Layout) (at : ℕ) (op : BinOp) (l r : Meaning) → Free l → Free r → Free (O.binary of at op l r)
unfolding O.binary
in-Binary of at op l r h g =
    four-free of at _ _ _ (in_context l ∷ in_context r ∷ []) _ (h, (g, tt))
    (λ a b s w c. ap (λ v. binary_value op c v (r.value w c a)) (s.0.value w c) ∙ ap (λ v. binary_value op c (l.value w c b) v) (s.1.0.value w c))

in-Shift : (of : Layout) (at : ℕ) (op : ShiftOp) (l r : Meaning) → Free l → Free r → Free (O.shift of at op l r)
unfolding O.shift
in-Shift of at op l r h g =
    four-free of at _ _ _ (in_context l ∷ by_itself r ∷ []) _ (h, (g, tt))
    (λ a b s w c. ap (λ v. shift_value op c v (alone r a)) (s.0.value w c) ∙ ap (λ v. shift_value op c (l.value w c b) v) (S.alone-same r a b s.1.0))

in-Power : (of : Layout) (at : ℕ) (l r : Meaning) → Free l → Free r → Free (O.power of at l r)
unfolding O.power
in-Power of at l r h g =
    four-free of at _ _ _ (in_context l ∷ by_itself r ∷ []) _ (h, (g, tt))
    (λ a b s w c. ap (λ v. power_value c (signed r) v (alone r a)) (s.0.value w c) ∙ ap (λ v. power_value c (signed r) (l.value w c b) v) (S.alone-same r a b s.1.0))

in-Order : (of : Layout) (at : ℕ) (op : OrdOp) (l r : Meaning) → Free l → Free r → Free (O.order of at op l r)
unfolding O.order
in-Order of at op l r h g = bit-free of at _ (compared l r) _ (h, (g, tt)) (λ a b s. S.order-same op l r a b s.0 s.1.0)

in-Equal : (of : Layout) (at : ℕ) (op : EqOp) (negated : Bool) (l r : Meaning) → Free l → Free r → Free (O.equal of at op negated l r)
unfolding O.equal
in-Equal of at op negated l r h g =
    bit-free of at _ (compared l r) _ (h, (g, tt)) (λ a b s. ap (λ x. cond negated (not4 x) x) (S.equals-same op l r a b s.0 s.1.0))

in-Both : (of : Layout) (at : ℕ) (l r : Meaning) → Free l → Free r → Free (O.both of at l r)
unfolding O.both
in-Both of at l r h g =
    bit-free of at _ (by_itself l ∷ by_itself r ∷ []) _ (h, (g, tt)) (λ a b s. ap (λ x. and4 x (truth r a)) (S.truth-same l a b s.0) ∙ ap (and4 (truth l b)) (S.truth-same r a b s.1.0))

in-Either : (of : Layout) (at : ℕ) (l r : Meaning) → Free l → Free r → Free (O.either of at l r)
unfolding O.either
in-Either of at l r h g =
    bit-free of at _ (by_itself l ∷ by_itself r ∷ []) _ (h, (g, tt)) (λ a b s. ap (λ x. or4 x (truth r a)) (S.truth-same l a b s.0) ∙ ap (or4 (truth l b)) (S.truth-same r a b s.1.0))

in-Choose : (of : Layout) (at : ℕ) (on l r : Meaning) → Free on → Free l → Free r → Free (O.choose of at on l r)
unfolding O.choose
in-Choose of at on l r k h g =
    plain-free of at _ _ _ (by_itself on ∷ in_context l ∷ in_context r ∷ []) _ (k, (h, (g, tt)))
    (λ a b s w c. ap (λ x. chosen x (l.value w c a) (r.value w c a)) (S.truth-same on a b s.0)
    ∙ ap (λ v. chosen (truth on b) v (r.value w c a)) (s.1.0.value w c) ∙ ap (λ v. chosen (truth on b) (l.value w c b) v) (s.1.1.0.value w c))

in-Concat : (of : Layout) (at : ℕ) (ms : List Meaning) → Frees ms → Free (O.concat of at ms)
unfolding O.concat
in-Concat of at ms h =
    let p = plain-free of at (O.width_of_all ms) false no_arithmetic (map by_itself ms) (λ w s a. ext w s (joined ms a)) (alone-free ms h) (λ a b s w c. ap (ext w c) (S.all-alone ms a b (S.alone-are-same ms a b s))) in
    record { same = λ a b. record { value = (p.same a b).value; given = (p.same a b).given }; base = p.base; window = p.window; none = p.none; index_none = no-index-names ms h }

in-Repeat : (of : Layout) (at n : ℕ) (ms : List Meaning) → Frees ms → Free (O.repeat of at n ms)
unfolding O.repeat
in-Repeat of at n ms h =
    four-free of at _ _ _ (map by_itself ms) (λ w s a. ext w s (repeated n (joined ms a))) (alone-free ms h) (λ a b s w c. ap (λ v. ext w c (repeated n v)) (S.all-alone ms a b (S.alone-are-same ms a b s)))

inside-free : (m : Meaning) (cs : List Alternative) → FreesIn cs → Frees (operands_of (flat_map (O.inside_operands m) cs))
inside-free m [] h = tt
inside-free m (Alternative.Only v ∷ cs) h = (h.0, inside-free m cs h.1)
inside-free m (Alternative.From low high ∷ cs) h = (h.0.0, (h.0.1, inside-free m cs h.1))

inside-same : (m : Meaning) (cs : List Alternative) (a b : Around) → Same m a b → AllSame (operands_of (flat_map (O.inside_operands m) cs)) a b → map (is_inside m a) cs ≡ map (is_inside m b) cs
inside-same m [] a b sm s = refl
inside-same m (Alternative.Only v ∷ cs) a b sm s =
    ap (λ x. x ∷ map (is_inside m a) cs) (S.equals-same Wild m v a b sm s.0) ∙ ap (λ xs. equals Wild m v b ∷ xs) (inside-same m cs a b sm s.1)
inside-same m (Alternative.From low high ∷ cs) a b sm s =
    ap (λ x. and4 x (in_order LessEqual m high a) ∷ map (is_inside m a) cs) (S.order-same GreaterEqual m low a b sm s.0)
    ∙ ap (λ x. and4 (in_order GreaterEqual m low b) x ∷ map (is_inside m a) cs) (S.order-same LessEqual m high a b sm s.1.0)
    ∙ ap (λ xs. and4 (in_order GreaterEqual m low b) (in_order LessEqual m high b) ∷ xs) (inside-same m cs a b sm s.1.1)

in-Inside : (of : Layout) (at : ℕ) (m : Meaning) (cs : List Alternative) → Free m → FreesIn cs → Free (O.inside of at m cs)
unfolding O.inside
in-Inside of at m cs h g =
    bit-free of at _ (at_width (max (wide m) (most (map (O.inside_width m) cs))) m ∷ flat_map (O.inside_operands m) cs) _ (h, inside-free m cs g) (λ a b s. ap any4 (inside-same m cs a b s.0 s.1))

in-Cast : (of : Layout) (at : ℕ) (m : Meaning) → Free m → Free (O.cast of at m)
unfolding O.cast
in-Cast of at m h =
    plain-free of at _ _ _ (by_itself m ∷ []) _ (h, tt) (λ a b s w c. ap (λ v. ext w c (stored of.two_state (ext (length of.two_state) (signed m) v))) (S.alone-same m a b s.0))

in-Clog2 : (of : Layout) (at : ℕ) (m : Meaning) → Free m → Free (O.clog2 of at m)
unfolding O.clog2
in-Clog2 of at m h = four-free of at _ _ _ (by_itself m ∷ []) _ (h, tt) (λ a b s w c. ap (λ v. ext w c (O.clog2_of v)) (S.alone-same m a b s.0))

in-Pattern : (of : Layout) (at : ℕ) (ms : List Meaning) → Frees ms → Free (O.pattern of at ms)
unfolding O.pattern
in-Pattern of at ms h =
    plain-free of at _ _ _ (item_operands (parts_of of) ms) _ (items-free (parts_of of) ms h) (λ a b s w c. ap (λ vs. ext w c (stacked vs)) (S.items-same (parts_of of) ms a b s))

-- select paths
no-root : (r : Option ℕ) (ns : List Named) → ns ≡ [] → names_of_root r ns ≡ []
no-root None ns is = refl
no-root (Some n) ns is = ap (names_of_root (Some n)) is

value-same : (of : Layout) (at : ℕ) (p : Path) (a b : Around) → seen (p.base a) (p.window a) (length of.two_state) ≡ seen (p.base b) (p.window b) (length of.two_state) → Same (selected of at p) a b
value-same of at p a b is = record {
  value = λ w s. ap (λ v. ext w s (stored of.two_state v)) is;
  given = λ m. ap (λ v. cut_to m (length of.two_state) of.signed (λ w s c. ext w s (stored of.two_state v)) a) is;
}

path-free : (of : Layout) (at : ℕ) (p : Path) → ((a b : Around) → p.base a ≡ p.base b) → ((a b : Around) → p.window a ≡ p.window b) → p.root_names ≡ [] → p.index_names ≡ [] → Free (selected of at p)
path-free of at p base window none index_none = record {
  same = λ a b. value-same of at p a b (ap (λ h. seen h (p.window a) (length of.two_state)) (base a b) ∙ ap (λ w. seen (p.base b) w (length of.two_state)) (window a b));
  base = base;
  window = window;
  none = empty-left p.root_names p.index_names none index_none;
  index_none = index_none;
}

fixed-free : (of : Layout) (at : ℕ) (step : Window → Window) (misfits : ℕ) (from : Meaning) → Free from → Free (selected of at (fixed_step step misfits from))
fixed-free of at step misfits from h =
    path-free of at (fixed_step step misfits from) h.base (λ a b. ap step (h.window a b)) (no-root from.root from.names h.none) h.index_none

index-same : (i : Meaning) (a b : Around) → Free i → index_of i a ≡ index_of i b
index-same i a b h = ap (λ v. cond (known v) (Some (number (signed i) v)) None) ((h.same a b).value (wide i) (signed i))

indexed-free : (of : Layout) (at : ℕ) (step : Option ℤ → Window → Window) (misfits : ℕ) (from i : Meaning) → Free from → Free i → Free (selected of at (indexed_step step misfits from i))
indexed-free of at step misfits from i h g =
    path-free of at (indexed_step step misfits from i) h.base (λ a b. ap (λ o. step o (from.window a)) (index-same i a b g) ∙ ap (step (index_of i b)) (h.window a b)) (no-root from.root from.names h.none)
    (empty-left from.index_names i.names h.index_none g.none)

in-Member : (of : Layout) (at : ℕ) (m : Meaning) (k : ℕ) → Free m → Free (P.member of at m k)
unfolding P.member
in-Member of at m k h = fixed-free of at (member_of (slice_get m.of.members k)) _ m h

in-Index : (of : Layout) (at : ℕ) (m i : Meaning) → Free m → Free i → Free (P.index of at m i)
unfolding P.index
in-Index of at m i h g = indexed-free of at (element_of m.of) _ m i h g

in-Part : (of : Layout) (at : ℕ) (m : Meaning) (left right : ℤ) → Free m → Free (P.part_select of at m left right)
unfolding P.part_select
in-Part of at m left right h = fixed-free of at (between m.of left right) _ m h

in-Slide : (of : Layout) (at : ℕ) (m i : Meaning) (n : ℕ) (up : Bool) → Free m → Free i → Free (P.sliding of at m i n up)
unfolding P.sliding
in-Slide of at m i n up h g = indexed-free of at (slide m.of up n) _ m i h g

-- so each expression by what stands in it
by-form : (e : Expr) (f : Form) (y : Layout → ℕ → Meaning) → e.form ≡ f → form_meaning f ≡ y → Free (y (layout e.of) e.spot.at) → IsFree e
by-form e f y is level free = subst Free (sym (at-form e f y is level)) free

all : (es : List Expr) → AllFree es → Frees (map meaning es)
all [] h = tt
all (e ∷ es) h = (h.0, all es h.1)

all-in : (cs : List Choice) → AllChoicesFree cs → FreesIn (map L.alternative cs)
all-in [] h = tt
all-in (c ∷ cs) h = (h.0, all-in cs h.1)

-- what a choice has
pub choice-value : (e : Expr) → IsFree e → ChoiceFree (C.Value e)
choice-value e h = subst FreeIn (sym (L.only e)) h

pub choice-range : (a b : Expr) → IsFree a → IsFree b → ChoiceFree (C.Range a b)
choice-range a b h g = subst FreeIn (sym (L.from-to a b)) (h, g)

pub inner-Literal : (e : Expr) (v : List Bit4) (goes_on : Bool) → e.form ≡ V.Literal v goes_on → IsFree e
inner-Literal e v goes_on is = by-form e (V.Literal v goes_on) _ is (L.form-Literal v goes_on) (in-Literal (layout e.of) e.spot.at v goes_on)

pub inner-Fill : (e : Expr) (b : Bit4) → e.form ≡ V.Fill b → IsFree e
inner-Fill e b is = by-form e (V.Fill b) _ is (L.form-Fill b) (in-Fill (layout e.of) e.spot.at b)

pub inner-Constant : (e : Expr) (v : Value) → e.form ≡ V.Constant v → IsFree e
inner-Constant e v is = by-form e (V.Constant v) _ is (L.form-Constant v) (in-Constant (layout e.of) e.spot.at v)

pub inner-Member : (e : Expr) (x : Expr) (k : ℕ) → e.form ≡ V.Member x k → (IsFree x → IsFree e) × (nodes x < nodes e)
inner-Member e x k is = (λ h. by-form e (V.Member x k) _ is (L.form-Member x k) (in-Member (layout e.of) e.spot.at (meaning x) k h), omega (arith, N.nodes-Member e x k is))

pub inner-Index : (e : Expr) (x y : Expr) → e.form ≡ V.Index x y → (IsFree x → IsFree y → IsFree e) × (nodes x < nodes e) × (nodes y < nodes e)
inner-Index e x y is = (λ h g. by-form e (V.Index x y) _ is (L.form-Index x y) (in-Index (layout e.of) e.spot.at (meaning x) (meaning y) h g), omega (arith, N.nodes-Index e x y is), omega (arith, N.nodes-Index e x y is))

pub inner-Part : (e : Expr) (x : Expr) (left right : ℤ) → e.form ≡ V.Part x left right → (IsFree x → IsFree e) × (nodes x < nodes e)
inner-Part e x left right is = (λ h. by-form e (V.Part x left right) _ is (L.form-Part x left right) (in-Part (layout e.of) e.spot.at (meaning x) left right h), omega (arith, N.nodes-Part e x left right is))

pub inner-Slide : (e : Expr) (x y : Expr) (n : ℕ) (up : Bool) → e.form ≡ V.Slide x y n up → (IsFree x → IsFree y → IsFree e) × (nodes x < nodes e) × (nodes y < nodes e)
inner-Slide e x y n up is = (λ h g. by-form e (V.Slide x y n up) _ is (L.form-Slide x y n up) (in-Slide (layout e.of) e.spot.at (meaning x) (meaning y) n up h g), omega (arith, N.nodes-Slide e x y n up is), omega (arith, N.nodes-Slide e x y n up is))

pub inner-Unary : (e : Expr) (op : UnOp) (x : Expr) → e.form ≡ V.Unary op x → (IsFree x → IsFree e) × (nodes x < nodes e)
inner-Unary e op x is = (λ h. by-form e (V.Unary op x) _ is (L.form-Unary op x) (in-Unary (layout e.of) e.spot.at op (meaning x) h), omega (arith, N.nodes-Unary e x op is))

pub inner-Reduce : (e : Expr) (op : RedOp) (x : Expr) → e.form ≡ V.Reduce op x → (IsFree x → IsFree e) × (nodes x < nodes e)
inner-Reduce e op x is = (λ h. by-form e (V.Reduce op x) _ is (L.form-Reduce op x) (in-Reduce (layout e.of) e.spot.at op (meaning x) h), omega (arith, N.nodes-Reduce e x op is))

pub inner-Negate : (e : Expr) (x : Expr) → e.form ≡ V.Negate x → (IsFree x → IsFree e) × (nodes x < nodes e)
inner-Negate e x is = (λ h. by-form e (V.Negate x) _ is (L.form-Negate x) (in-Negate (layout e.of) e.spot.at (meaning x) h), omega (arith, N.nodes-Negate e x is))

pub inner-Binary : (e : Expr) (op : BinOp) (x y : Expr) → e.form ≡ V.Binary op x y → (IsFree x → IsFree y → IsFree e) × (nodes x < nodes e) × (nodes y < nodes e)
inner-Binary e op x y is = (λ h g. by-form e (V.Binary op x y) _ is (L.form-Binary op x y) (in-Binary (layout e.of) e.spot.at op (meaning x) (meaning y) h g), omega (arith, N.nodes-Binary e x y op is), omega (arith, N.nodes-Binary e x y op is))

pub inner-Shift : (e : Expr) (op : ShiftOp) (x y : Expr) → e.form ≡ V.Shift op x y → (IsFree x → IsFree y → IsFree e) × (nodes x < nodes e) × (nodes y < nodes e)
inner-Shift e op x y is = (λ h g. by-form e (V.Shift op x y) _ is (L.form-Shift op x y) (in-Shift (layout e.of) e.spot.at op (meaning x) (meaning y) h g), omega (arith, N.nodes-Shift e x y op is), omega (arith, N.nodes-Shift e x y op is))

pub inner-Power : (e : Expr) (x y : Expr) → e.form ≡ V.Power x y → (IsFree x → IsFree y → IsFree e) × (nodes x < nodes e) × (nodes y < nodes e)
inner-Power e x y is = (λ h g. by-form e (V.Power x y) _ is (L.form-Power x y) (in-Power (layout e.of) e.spot.at (meaning x) (meaning y) h g), omega (arith, N.nodes-Power e x y is), omega (arith, N.nodes-Power e x y is))

pub inner-Order : (e : Expr) (op : OrdOp) (x y : Expr) → e.form ≡ V.Order op x y → (IsFree x → IsFree y → IsFree e) × (nodes x < nodes e) × (nodes y < nodes e)
inner-Order e op x y is = (λ h g. by-form e (V.Order op x y) _ is (L.form-Order op x y) (in-Order (layout e.of) e.spot.at op (meaning x) (meaning y) h g), omega (arith, N.nodes-Order e x y op is), omega (arith, N.nodes-Order e x y op is))

pub inner-Equal : (e : Expr) (op : EqOp) (negated : Bool) (x y : Expr) → e.form ≡ V.Equal op negated x y → (IsFree x → IsFree y → IsFree e) × (nodes x < nodes e) × (nodes y < nodes e)
inner-Equal e op negated x y is = (λ h g. by-form e (V.Equal op negated x y) _ is (L.form-Equal op negated x y) (in-Equal (layout e.of) e.spot.at op negated (meaning x) (meaning y) h g), omega (arith, N.nodes-Equal e x y op negated is), omega (arith, N.nodes-Equal e x y op negated is))

pub inner-Both : (e : Expr) (x y : Expr) → e.form ≡ V.Both x y → (IsFree x → IsFree y → IsFree e) × (nodes x < nodes e) × (nodes y < nodes e)
inner-Both e x y is = (λ h g. by-form e (V.Both x y) _ is (L.form-Both x y) (in-Both (layout e.of) e.spot.at (meaning x) (meaning y) h g), omega (arith, N.nodes-Both e x y is), omega (arith, N.nodes-Both e x y is))

pub inner-Either : (e : Expr) (x y : Expr) → e.form ≡ V.Either x y → (IsFree x → IsFree y → IsFree e) × (nodes x < nodes e) × (nodes y < nodes e)
inner-Either e x y is = (λ h g. by-form e (V.Either x y) _ is (L.form-Either x y) (in-Either (layout e.of) e.spot.at (meaning x) (meaning y) h g), omega (arith, N.nodes-Either e x y is), omega (arith, N.nodes-Either e x y is))

pub inner-Choose : (e : Expr) (z x y : Expr) → e.form ≡ V.Choose z x y → (IsFree z → IsFree x → IsFree y → IsFree e) × (nodes z < nodes e) × (nodes x < nodes e) × (nodes y < nodes e)
inner-Choose e z x y is = (λ k h g. by-form e (V.Choose z x y) _ is (L.form-Choose z x y) (in-Choose (layout e.of) e.spot.at (meaning z) (meaning x) (meaning y) k h g), omega (arith, N.nodes-Choose e z x y is), omega (arith, N.nodes-Choose e z x y is), omega (arith, N.nodes-Choose e z x y is))

pub inner-Concat : (e : Expr) (es : List Expr) → e.form ≡ V.Concat es → (AllFree es → IsFree e) × (total (map nodes es) < nodes e)
inner-Concat e es is = (λ h. by-form e (V.Concat es) _ is (L.form-Concat es) (in-Concat (layout e.of) e.spot.at (map meaning es) (all es h)), omega (arith, N.nodes-Concat e es is))

pub inner-Repeat : (e : Expr) (n : ℕ) (es : List Expr) → e.form ≡ V.Repeat n es → (AllFree es → IsFree e) × (total (map nodes es) < nodes e)
inner-Repeat e n es is = (λ h. by-form e (V.Repeat n es) _ is (L.form-Repeat n es) (in-Repeat (layout e.of) e.spot.at n (map meaning es) (all es h)), omega (arith, N.nodes-Repeat e n es is))

pub inner-Inside : (e : Expr) (x : Expr) (cs : List Choice) → e.form ≡ V.Inside x cs → (IsFree x → AllChoicesFree cs → IsFree e) × (nodes x < nodes e) × (total (map choice_nodes cs) < nodes e)
inner-Inside e x cs is = (λ h g. by-form e (V.Inside x cs) _ is (L.form-Inside x cs) (in-Inside (layout e.of) e.spot.at (meaning x) (map L.alternative cs) h (all-in cs g)), omega (arith, N.nodes-Inside e x cs is), omega (arith, N.nodes-Inside e x cs is))

pub inner-Cast : (e : Expr) (x : Expr) → e.form ≡ V.Cast x → (IsFree x → IsFree e) × (nodes x < nodes e)
inner-Cast e x is = (λ h. by-form e (V.Cast x) _ is (L.form-Cast x) (in-Cast (layout e.of) e.spot.at (meaning x) h), omega (arith, N.nodes-Cast e x is))

pub inner-Clog2 : (e : Expr) (x : Expr) → e.form ≡ V.Clog2 x → (IsFree x → IsFree e) × (nodes x < nodes e)
inner-Clog2 e x is = (λ h. by-form e (V.Clog2 x) _ is (L.form-Clog2 x) (in-Clog2 (layout e.of) e.spot.at (meaning x) h), omega (arith, N.nodes-Clog2 e x is))

pub inner-Pattern : (e : Expr) (es : List Expr) → e.form ≡ V.Pattern es → (AllFree es → IsFree e) × (total (map nodes es) < nodes e)
inner-Pattern e es is = (λ h. by-form e (V.Pattern es) _ is (L.form-Pattern es) (in-Pattern (layout e.of) e.spot.at (map meaning es) (all es h)), omega (arith, N.nodes-Pattern e es is))

pub ruleset inner = (inner-Literal, inner-Fill, inner-Constant, inner-Member, inner-Index, inner-Part, inner-Slide, inner-Unary, inner-Reduce, inner-Negate, inner-Binary, inner-Shift, inner-Power, inner-Order, inner-Equal, inner-Both, inner-Either, inner-Choose, inner-Concat, inner-Repeat, inner-Inside, inner-Cast, inner-Clog2, inner-Pattern)
