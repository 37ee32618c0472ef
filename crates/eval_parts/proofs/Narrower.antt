-- In a narrower context arithmetic is no wider.
use Rattle.std.proofs.Common.{◌≡◌, ℕ, ◌≤◌, max, Bool, ℤ, List, [], ◌∷◌, map, flat_map, zip, refl, arith, ap, sym, subst}
use Rattle.b4_core.specs.declared.bit.Bit4.{Bit4}
use Rattle.b4_core.specs.declared.operators.UnOp.{UnOp}
use Rattle.b4_core.specs.declared.operators.UnOp.TheVariants as U
use Rattle.b4_core.specs.declared.operators.BinOp.{BinOp}
use Rattle.b4_core.specs.declared.operators.BinOp.TheVariants as B
use Rattle.b4_core.specs.declared.operators.RedOp.{RedOp}
use Rattle.b4_core.specs.declared.operators.ShiftOp.{ShiftOp}
use Rattle.b4_core.specs.declared.operators.OrdOp.{OrdOp}
use Rattle.b4_core.specs.declared.operators.EqOp.{EqOp}
use Rattle.sv_types.specs.declared.types.Value.{Value}
use Rattle.sv_types.specs.declared.expression.Expr.{Expr}
use Rattle.sv_types.specs.declared.expression.Form.{Form}
use Rattle.sv_types.specs.declared.expression.Choice.{Choice}
use Rattle.sv_types.specs.Layouts.{Layout, Part, layout}
use Rattle.sv_types.specs.Surroundings.{Parameter}
use Rattle.sv_types.specs.Meanings.{Meaning, Operand, wide, by_itself, at_width, most}
use Rattle.sv_types.specs.Operators as O
use Rattle.sv_types.specs.Operators.{Alternative}
use Rattle.sv_types.specs.Paths as P
use Rattle.sv_types.specs.Expressions.{meaning}
use Rattle.sv_types.proofs.Levels as L
use Rattle.sv_types.proofs.Levels.{form_meaning, meaning-form}
use Rattle.sv_types.proofs.Terms.{Steps, by-expr}

abbrev pub Grows : Meaning → Type 0
Grows m = (fs : ℕ → List Parameter) (w v : ℕ) → w ≤ v → m.arithmetic fs w ≤ m.arithmetic fs v

abbrev GrowsForm : Form → Type 0
GrowsForm f = (of : Layout) (at : ℕ) → Grows (form_meaning f of at)

abbrev GrowsExpr : Expr → Type 0
GrowsExpr e = Grows (meaning e)

abbrev Any : Choice → Type 0
Any c = Unit {0}

by-step : (f : Form) (y : Layout → ℕ → Meaning) → form_meaning f ≡ y → ((of : Layout) (at : ℕ) → Grows (y of at)) → GrowsForm f
by-step f y is grows of at = subst (λ (g : Layout → ℕ → Meaning). Grows (g of at)) (sym is) (grows of at)

unary-grows : (op : UnOp) (w v : ℕ) → w ≤ v → O.unary_arithmetic op w ≤ O.unary_arithmetic op v
unary-grows U.Not w v h = omega arith
unary-grows U.Neg w v h = h

binary-grows : (op : BinOp) (w v : ℕ) → w ≤ v → O.binary_arithmetic op w ≤ O.binary_arithmetic op v
binary-grows B.And w v h = omega arith
binary-grows B.Or w v h = omega arith
binary-grows B.Xor w v h = omega arith
binary-grows B.Xnor w v h = omega arith
binary-grows B.Add w v h = h
binary-grows B.Sub w v h = h
binary-grows B.Mul w v h = h
binary-grows B.Div w v h = h
binary-grows B.Rem w v h = h

-- operands that are valued at a width of their own
abbrev arithmetic-of : (ℕ → List Parameter) → ℕ → List Operand → ℕ
arithmetic-of fs w ps = most (map (λ (p : Operand). p.of.arithmetic fs (p.at w)) ps)

fixed-all : (ms : List Meaning) (fs : ℕ → List Parameter) (w v : ℕ) → arithmetic-of fs w (map by_itself ms) ≡ arithmetic-of fs v (map by_itself ms)
fixed-all [] fs w v = refl
fixed-all (m ∷ ms) fs w v = ap (λ n. max (m.arithmetic fs (wide m)) n) (fixed-all ms fs w v)

fixed-items : (items : List (Part × Meaning)) (fs : ℕ → List Parameter) (w v : ℕ)
    → arithmetic-of fs w (map (λ p. at_width (O.assigned_width p.0.two_state p.1) p.1) items) ≡ arithmetic-of fs v (map (λ p. at_width (O.assigned_width p.0.two_state p.1) p.1) items)
fixed-items [] fs w v = refl
fixed-items (i ∷ items) fs w v = ap (λ n. max (i.1.arithmetic fs (O.assigned_width i.0.two_state i.1)) n) (fixed-items items fs w v)

fixed-choices : (m : Meaning) (cs : List Alternative) (fs : ℕ → List Parameter) (w v : ℕ) → arithmetic-of fs w (flat_map (O.inside_operands m) cs) ≡ arithmetic-of fs v (flat_map (O.inside_operands m) cs)
fixed-choices m [] fs w v = refl
fixed-choices m (Alternative.Only x ∷ cs) fs w v = ap (λ n. max (x.arithmetic fs (O.both_wide m x)) n) (fixed-choices m cs fs w v)
fixed-choices m (Alternative.From x y ∷ cs) fs w v =
    ap (λ n. max (x.arithmetic fs (O.both_wide m x)) (max (y.arithmetic fs (O.both_wide m y)) n)) (fixed-choices m cs fs w v)

grows-Literal : (of : Layout) (at : ℕ) (bits : List Bit4) (goes_on : Bool) → Grows (O.literal of at goes_on bits)
unfolding O.literal
grows-Literal of at bits goes_on fs w v h = omega arith

grows-Fill : (of : Layout) (at : ℕ) (b : Bit4) → Grows (O.fill of at b)
unfolding O.fill
grows-Fill of at b fs w v h = omega arith

grows-Constant : (of : Layout) (at : ℕ) (x : Value) → Grows (O.constant of at x)
unfolding O.constant
grows-Constant of at x fs w v h = omega arith

grows-Signal : (of : Layout) (at : ℕ) (n : ℕ) → Grows (P.signal of at n)
unfolding P.signal
grows-Signal of at n fs w v h = omega arith

grows-Local : (of : Layout) (at : ℕ) (n : ℕ) → Grows (P.local of at n)
unfolding P.local
grows-Local of at n fs w v h = omega arith

grows-Member : (of : Layout) (at : ℕ) (mx : Meaning) (k : ℕ) → Grows (P.member of at mx k)
unfolding P.member
grows-Member of at mx k fs w v h = omega arith

grows-Index : (of : Layout) (at : ℕ) (mx my : Meaning) → Grows (P.index of at mx my)
unfolding P.index
grows-Index of at mx my fs w v h = omega arith

grows-Part : (of : Layout) (at : ℕ) (mx : Meaning) (left right : ℤ) → Grows (P.part_select of at mx left right)
unfolding P.part_select
grows-Part of at mx left right fs w v h = omega arith

grows-Slide : (of : Layout) (at : ℕ) (mx my : Meaning) (n : ℕ) (up : Bool) → Grows (P.sliding of at mx my n up)
unfolding P.sliding
grows-Slide of at mx my n up fs w v h = omega arith

grows-Unary : (of : Layout) (at : ℕ) (op : UnOp) (mx : Meaning) → Grows mx → Grows (O.unary of at op mx)
unfolding O.unary
grows-Unary of at op mx gmx fs w v h = omega (arith, gmx fs w v h, unary-grows op w v h)

grows-Reduce : (of : Layout) (at : ℕ) (op : RedOp) (mx : Meaning) → Grows (O.reduce of at op mx)
unfolding O.reduce
grows-Reduce of at op mx fs w v h = omega arith

grows-Negate : (of : Layout) (at : ℕ) (mx : Meaning) → Grows (O.negate of at mx)
unfolding O.negate
grows-Negate of at mx fs w v h = omega arith

grows-Binary : (of : Layout) (at : ℕ) (op : BinOp) (mx my : Meaning) → Grows mx → Grows my → Grows (O.binary of at op mx my)
unfolding O.binary
grows-Binary of at op mx my gmx gmy fs w v h = omega (arith, gmx fs w v h, gmy fs w v h, binary-grows op w v h)

grows-Shift : (of : Layout) (at : ℕ) (op : ShiftOp) (mx my : Meaning) → Grows mx → Grows (O.shift of at op mx my)
unfolding O.shift
grows-Shift of at op mx my gmx fs w v h = omega (arith, gmx fs w v h)

grows-Power : (of : Layout) (at : ℕ) (mx my : Meaning) → Grows mx → Grows (O.power of at mx my)
unfolding O.power
grows-Power of at mx my gmx fs w v h = omega (arith, gmx fs w v h)

grows-Order : (of : Layout) (at : ℕ) (op : OrdOp) (mx my : Meaning) → Grows (O.order of at op mx my)
unfolding O.order
grows-Order of at op mx my fs w v h = omega arith

grows-Equal : (of : Layout) (at : ℕ) (op : EqOp) (negated : Bool) (mx my : Meaning) → Grows (O.equal of at op negated mx my)
unfolding O.equal
grows-Equal of at op negated mx my fs w v h = omega arith

grows-Both : (of : Layout) (at : ℕ) (mx my : Meaning) → Grows (O.both of at mx my)
unfolding O.both
grows-Both of at mx my fs w v h = omega arith

grows-Either : (of : Layout) (at : ℕ) (mx my : Meaning) → Grows (O.either of at mx my)
unfolding O.either
grows-Either of at mx my fs w v h = omega arith

grows-Choose : (of : Layout) (at : ℕ) (mz mx my : Meaning) → Grows mx → Grows my → Grows (O.choose of at mz mx my)
unfolding O.choose
grows-Choose of at mz mx my gmx gmy fs w v h = omega (arith, gmx fs w v h, gmy fs w v h)

grows-Cast : (of : Layout) (at : ℕ) (mx : Meaning) → Grows (O.cast of at mx)
unfolding O.cast
grows-Cast of at mx fs w v h = omega arith

grows-Clog2 : (of : Layout) (at : ℕ) (mx : Meaning) → Grows (O.clog2 of at mx)
unfolding O.clog2
grows-Clog2 of at mx fs w v h = omega arith

grows-Concat : (of : Layout) (at : ℕ) (ms : List Meaning) → Grows (O.concat of at ms)
unfolding O.concat
grows-Concat of at ms fs w v h = omega (arith, fixed-all ms fs w v)

grows-Repeat : (of : Layout) (at : ℕ) (n : ℕ) (ms : List Meaning) → Grows (O.repeat of at n ms)
unfolding O.repeat
grows-Repeat of at n ms fs w v h = omega (arith, fixed-all ms fs w v)

grows-Stream : (of : Layout) (at : ℕ) (reversed : Bool) (n : ℕ) (ms : List Meaning) → Grows (O.stream of at reversed n ms)
unfolding O.stream
grows-Stream of at reversed n ms fs w v h = omega (arith, fixed-all ms fs w v)

grows-Pattern : (of : Layout) (at : ℕ) (ms : List Meaning) → Grows (O.pattern of at ms)
unfolding O.pattern
grows-Pattern of at ms fs w v h = omega (arith, fixed-items (zip (O.parts_of of) ms) fs w v)

grows-Call : (of : Layout) (at : ℕ) (n : ℕ) (ms : List Meaning) → Grows (O.call of at n ms)
unfolding O.call
grows-Call of at n ms fs w v h = omega arith

grows-Inside : (of : Layout) (at : ℕ) (m : Meaning) (cs : List Alternative) → Grows (O.inside of at m cs)
unfolding O.inside
grows-Inside of at m cs fs w v h = omega (arith, fixed-choices m cs fs w v)

grow-steps : Steps Any GrowsForm GrowsExpr
grow-steps = record {
  value = λ e h. tt;
  range = λ a b h g. tt;
  expr = λ e h fs w v le. subst (λ (m : Meaning). m.arithmetic fs w ≤ m.arithmetic fs v) (sym (meaning-form e)) (h (layout e.of) e.spot.at fs w v le);
  literal = λ v goes_on. by-step _ _ (L.form-Literal v goes_on) (λ of at. grows-Literal of at v goes_on);
  fill = λ b. by-step _ _ (L.form-Fill b) (λ of at. grows-Fill of at b);
  constant = λ v. by-step _ _ (L.form-Constant v) (λ of at. grows-Constant of at v);
  signal = λ n. by-step _ _ (L.form-Signal n) (λ of at. grows-Signal of at n);
  local = λ n. by-step _ _ (L.form-Local n) (λ of at. grows-Local of at n);
  member = λ e k h. by-step _ _ (L.form-Member e k) (λ of at. grows-Member of at (meaning e) k);
  index = λ e i h g. by-step _ _ (L.form-Index e i) (λ of at. grows-Index of at (meaning e) (meaning i));
  part_select = λ e left right h. by-step _ _ (L.form-Part e left right) (λ of at. grows-Part of at (meaning e) left right);
  sliding = λ e i n up h g. by-step _ _ (L.form-Slide e i n up) (λ of at. grows-Slide of at (meaning e) (meaning i) n up);
  unary = λ op e h. by-step _ _ (L.form-Unary op e) (λ of at. grows-Unary of at op (meaning e) h);
  reduce = λ op e h. by-step _ _ (L.form-Reduce op e) (λ of at. grows-Reduce of at op (meaning e));
  negate = λ e h. by-step _ _ (L.form-Negate e) (λ of at. grows-Negate of at (meaning e));
  binary = λ op a b h g. by-step _ _ (L.form-Binary op a b) (λ of at. grows-Binary of at op (meaning a) (meaning b) h g);
  shift = λ op a b h g. by-step _ _ (L.form-Shift op a b) (λ of at. grows-Shift of at op (meaning a) (meaning b) h);
  power = λ a b h g. by-step _ _ (L.form-Power a b) (λ of at. grows-Power of at (meaning a) (meaning b) h);
  order = λ op a b h g. by-step _ _ (L.form-Order op a b) (λ of at. grows-Order of at op (meaning a) (meaning b));
  equal = λ op negated a b h g. by-step _ _ (L.form-Equal op negated a b) (λ of at. grows-Equal of at op negated (meaning a) (meaning b));
  both = λ a b h g. by-step _ _ (L.form-Both a b) (λ of at. grows-Both of at (meaning a) (meaning b));
  either = λ a b h g. by-step _ _ (L.form-Either a b) (λ of at. grows-Either of at (meaning a) (meaning b));
  choose = λ on a b h g k. by-step _ _ (L.form-Choose on a b) (λ of at. grows-Choose of at (meaning on) (meaning a) (meaning b) g k);
  concat = λ es h. by-step _ _ (L.form-Concat es) (λ of at. grows-Concat of at (map meaning es));
  repeat = λ n es h. by-step _ _ (L.form-Repeat n es) (λ of at. grows-Repeat of at n (map meaning es));
  inside = λ e cs h g. by-step _ _ (L.form-Inside e cs) (λ of at. grows-Inside of at (meaning e) (map L.alternative cs));
  cast = λ e h. by-step _ _ (L.form-Cast e) (λ of at. grows-Cast of at (meaning e));
  clog2 = λ e h. by-step _ _ (L.form-Clog2 e) (λ of at. grows-Clog2 of at (meaning e));
  pattern = λ es h. by-step _ _ (L.form-Pattern es) (λ of at. grows-Pattern of at (map meaning es));
  call = λ f es h. by-step _ _ (L.form-Call f es) (λ of at. grows-Call of at f (map meaning es));
  stream = λ reversed n es h. by-step _ _ (L.form-Stream reversed n es) (λ of at. grows-Stream of at reversed n (map meaning es));
}

pub grows : (e : Expr) → Grows (meaning e)
grows = by-expr Any GrowsForm GrowsExpr grow-steps
