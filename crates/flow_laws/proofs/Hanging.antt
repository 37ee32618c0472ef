-- Every expression hangs on its reads.
use Rattle.std.proofs.Common.{◌≡◌, ℕ, ◌-◌, max, Bool, false, ◌||◌, cond, List, [], ◌∷◌, ◌++◌, map, flat_map, replicate, drop, length, refl, ap, sym, ◌∙◌, subst}
use Rattle.b4_core.specs.declared.bit.Bit4.{Bit4}
use Rattle.b4_core.specs.declared.bit.Bit4.TheVariants.{Zero}
use Rattle.b4_core.specs.declared.operators.UnOp.{UnOp}
use Rattle.b4_core.specs.declared.operators.BinOp.{BinOp}
use Rattle.b4_core.specs.declared.operators.RedOp.{RedOp}
use Rattle.b4_core.specs.declared.operators.ShiftOp.{ShiftOp}
use Rattle.b4_core.specs.declared.operators.OrdOp.{OrdOp}
use Rattle.b4_core.specs.declared.operators.OrdOp.TheVariants.{LessEqual, GreaterEqual}
use Rattle.b4_core.specs.declared.operators.EqOp.{EqOp}
use Rattle.b4_core.specs.declared.operators.EqOp.TheVariants.{Wild}
use Rattle.b4_core.specs.Bits.{and4, or4, not4}
use Rattle.b4_core.specs.Bitwise.{any4}
use Rattle.b4_core.specs.Vectors.{ext}
use Rattle.b4_core.specs.Unary.{unary_value}
use Rattle.b4_core.specs.Binary.{binary_value}
use Rattle.b4_core.specs.Shift.{shift_value}
use Rattle.b4_core.specs.Power.{power_value}
use Rattle.b4_core.specs.Reduce.{reduction}
use Rattle.sv_types.specs.declared.types.Value.{Value}
use Rattle.sv_types.specs.declared.expression.Expr.{Expr}
use Rattle.sv_types.specs.declared.expression.Form.{Form}
use Rattle.sv_types.specs.declared.expression.Choice.{Choice}
use Rattle.sv_types.specs.Layouts.{Layout, layout, stored, stacked, repeated}
use Rattle.sv_types.specs.Values.{bits}
use Rattle.sv_types.specs.Surroundings.{Around}
use Rattle.sv_types.specs.Meanings.{Meaning, wide, signed, alone, most, by_itself, in_context, at_width}
use Rattle.sv_types.specs.Operators as O
use Rattle.sv_types.specs.Operators.{Alternative, joined, truth, streamed, width_of_all, is_inside, chosen, equals, in_order, compared, both_wide, passed, parts_of, assigned_to, no_arithmetic}
use Rattle.sv_types.specs.Expressions.{meaning}
use Rattle.sv_types.proofs.Levels as L
use Rattle.sv_types.proofs.Levels.{form_meaning, meaning-form}
use Rattle.sv_types.proofs.Terms.{Steps, Each, by-expr}
use Rattle.flow_laws.specs.Hangs.{Hangs}
use Rattle.flow_laws.proofs.Plain as P
use Rattle.flow_laws.proofs.Plain.{AllHang, AllSame, operands_of}
use Rattle.flow_laws.proofs.Selects as S

hang-literal : (of : Layout) (at : ℕ) (goes_on : Bool) (v : List Bit4) → Hangs (O.literal of at goes_on v)
unfolding O.literal
hang-literal of at goes_on v = P.plain-hangs of at (length v) of.signed no_arithmetic [] (λ w s a. ext w (goes_on || s) v) tt (λ a b callee s w c. refl)

hang-fill : (of : Layout) (at : ℕ) (b : Bit4) → Hangs (O.fill of at b)
unfolding O.fill
hang-fill of at b = P.plain-hangs of at 1 false no_arithmetic [] (λ w s a. replicate w b) tt (λ a c callee s w d. refl)

hang-constant : (of : Layout) (at : ℕ) (v : Value) → Hangs (O.constant of at v)
unfolding O.constant
hang-constant of at v = P.plain-hangs of at (length (bits v)) of.signed no_arithmetic [] (λ w s a. ext w s (bits v)) tt (λ a b callee s w c. refl)

hang-unary : (of : Layout) (at : ℕ) (op : UnOp) (m : Meaning) → Hangs m → Hangs (O.unary of at op m)
unfolding O.unary
hang-unary of at op m h = P.four-hangs of at _ _ _ (in_context m ∷ []) _ (h, tt) (λ a b callee s w c. ap (unary_value op) (s.0.value w c))

hang-reduce : (of : Layout) (at : ℕ) (op : RedOp) (m : Meaning) → Hangs m → Hangs (O.reduce of at op m)
unfolding O.reduce
hang-reduce of at op m h = P.bit-hangs of at _ (by_itself m ∷ []) _ (h, tt) (λ a b callee s. ap (reduction op) (P.alone-same m a b s.0))

hang-negate : (of : Layout) (at : ℕ) (m : Meaning) → Hangs m → Hangs (O.negate of at m)
unfolding O.negate
hang-negate of at m h = P.bit-hangs of at _ (by_itself m ∷ []) _ (h, tt) (λ a b callee s. ap not4 (P.truth-same m a b s.0))

hang-binary : (of : Layout) (at : ℕ) (op : BinOp) (l r : Meaning) → Hangs l → Hangs r → Hangs (O.binary of at op l r)
unfolding O.binary
hang-binary of at op l r h g =
    P.four-hangs of at _ _ _ (in_context l ∷ in_context r ∷ []) _ (h, (g, tt))
    (λ a b callee s w c. ap (λ v. binary_value op c v (r.value w c a)) (s.0.value w c) ∙ ap (λ v. binary_value op c (l.value w c b) v) (s.1.0.value w c))

hang-shift : (of : Layout) (at : ℕ) (op : ShiftOp) (l r : Meaning) → Hangs l → Hangs r → Hangs (O.shift of at op l r)
unfolding O.shift
hang-shift of at op l r h g =
    P.four-hangs of at _ _ _ (in_context l ∷ by_itself r ∷ []) _ (h, (g, tt))
    (λ a b callee s w c. ap (λ v. shift_value op c v (alone r a)) (s.0.value w c) ∙ ap (λ v. shift_value op c (l.value w c b) v) (P.alone-same r a b s.1.0))

hang-power : (of : Layout) (at : ℕ) (l r : Meaning) → Hangs l → Hangs r → Hangs (O.power of at l r)
unfolding O.power
hang-power of at l r h g =
    P.four-hangs of at _ _ _ (in_context l ∷ by_itself r ∷ []) _ (h, (g, tt))
    (λ a b callee s w c. ap (λ v. power_value c (signed r) v (alone r a)) (s.0.value w c) ∙ ap (λ v. power_value c (signed r) (l.value w c b) v) (P.alone-same r a b s.1.0))

hang-order : (of : Layout) (at : ℕ) (op : OrdOp) (l r : Meaning) → Hangs l → Hangs r → Hangs (O.order of at op l r)
unfolding O.order
hang-order of at op l r h g = P.bit-hangs of at _ (compared l r) _ (h, (g, tt)) (λ a b callee s. P.order-same op l r a b s.0 s.1.0)

hang-equal : (of : Layout) (at : ℕ) (op : EqOp) (negated : Bool) (l r : Meaning) → Hangs l → Hangs r → Hangs (O.equal of at op negated l r)
unfolding O.equal
hang-equal of at op negated l r h g =
    P.bit-hangs of at _ (compared l r) _ (h, (g, tt)) (λ a b callee s. ap (λ x. cond negated (not4 x) x) (P.equals-same op l r a b s.0 s.1.0))

hang-both : (of : Layout) (at : ℕ) (l r : Meaning) → Hangs l → Hangs r → Hangs (O.both of at l r)
unfolding O.both
hang-both of at l r h g =
    P.bit-hangs of at _ (by_itself l ∷ by_itself r ∷ []) _ (h, (g, tt)) (λ a b callee s. ap (λ x. and4 x (truth r a)) (P.truth-same l a b s.0) ∙ ap (and4 (truth l b)) (P.truth-same r a b s.1.0))

hang-either : (of : Layout) (at : ℕ) (l r : Meaning) → Hangs l → Hangs r → Hangs (O.either of at l r)
unfolding O.either
hang-either of at l r h g =
    P.bit-hangs of at _ (by_itself l ∷ by_itself r ∷ []) _ (h, (g, tt)) (λ a b callee s. ap (λ x. or4 x (truth r a)) (P.truth-same l a b s.0) ∙ ap (or4 (truth l b)) (P.truth-same r a b s.1.0))

hang-choose : (of : Layout) (at : ℕ) (on l r : Meaning) → Hangs on → Hangs l → Hangs r → Hangs (O.choose of at on l r)
unfolding O.choose
hang-choose of at on l r k h g =
    P.plain-hangs of at _ _ _ (by_itself on ∷ in_context l ∷ in_context r ∷ []) _ (k, (h, (g, tt)))
    (λ a b callee s w c. ap (λ x. chosen x (l.value w c a) (r.value w c a)) (P.truth-same on a b s.0)
    ∙ ap (λ v. chosen (truth on b) v (r.value w c a)) (s.1.0.value w c) ∙ ap (λ v. chosen (truth on b) (l.value w c b) v) (s.1.1.0.value w c))

hang-concat : (of : Layout) (at : ℕ) (ms : List Meaning) → AllHang ms → Hangs (O.concat of at ms)
unfolding O.concat
hang-concat of at ms h =
    let p = P.plain-hangs of at (width_of_all ms) false no_arithmetic (map by_itself ms) (λ w s a. ext w s (joined ms a)) (P.alone-hang ms h) (λ a b callee s w c. ap (ext w c) (P.all-alone ms a b (P.alone-are-same ms a b s))) in record {
      same = λ k a b sa sb agree. record { value = (p.same k a b sa sb agree).value; given = (p.same k a b sa sb agree).given };
      constant = p.constant;
      stands = p.stands;
      moves = record { window = p.moves.window; within = p.moves.within; exact = p.moves.exact; known = p.moves.known };
    }

hang-repeat : (of : Layout) (at n : ℕ) (ms : List Meaning) → AllHang ms → Hangs (O.repeat of at n ms)
unfolding O.repeat
hang-repeat of at n ms h =
    P.four-hangs of at _ _ _ (map by_itself ms) (λ w s a. ext w s (repeated n (joined ms a))) (P.alone-hang ms h) (λ a b callee s w c. ap (λ v. ext w c (repeated n v)) (P.all-alone ms a b (P.alone-are-same ms a b s)))

-- what a value may be on the right of `inside`
abbrev pub HangsIn : Alternative → Type 0
HangsIn (Alternative.Only m) = Hangs m
HangsIn (Alternative.From low high) = Hangs low × Hangs high

abbrev pub AllHangIn : List Alternative → Type 0
AllHangIn [] = Unit {0}
AllHangIn (c ∷ cs) = HangsIn c × AllHangIn cs

inside-hang : (m : Meaning) (cs : List Alternative) → AllHangIn cs → AllHang (operands_of (flat_map (O.inside_operands m) cs))
inside-hang m [] h = tt
inside-hang m (Alternative.Only v ∷ cs) h = (h.0, inside-hang m cs h.1)
inside-hang m (Alternative.From low high ∷ cs) h = (h.0.0, (h.0.1, inside-hang m cs h.1))

inside-same : (m : Meaning) (cs : List Alternative) (a b : Around) → P.Same m a b → AllSame (operands_of (flat_map (O.inside_operands m) cs)) a b → map (is_inside m a) cs ≡ map (is_inside m b) cs
inside-same m [] a b sm s = refl
inside-same m (Alternative.Only v ∷ cs) a b sm s =
    ap (λ x. x ∷ map (is_inside m a) cs) (P.equals-same Wild m v a b sm s.0) ∙ ap (λ xs. equals Wild m v b ∷ xs) (inside-same m cs a b sm s.1)
inside-same m (Alternative.From low high ∷ cs) a b sm s =
    ap (λ x. and4 x (in_order LessEqual m high a) ∷ map (is_inside m a) cs) (P.order-same GreaterEqual m low a b sm s.0)
    ∙ ap (λ x. and4 (in_order GreaterEqual m low b) x ∷ map (is_inside m a) cs) (P.order-same LessEqual m high a b sm s.1.0)
    ∙ ap (λ xs. and4 (in_order GreaterEqual m low b) (in_order LessEqual m high b) ∷ xs) (inside-same m cs a b sm s.1.1)

hang-inside : (of : Layout) (at : ℕ) (m : Meaning) (cs : List Alternative) → Hangs m → AllHangIn cs → Hangs (O.inside of at m cs)
unfolding O.inside
hang-inside of at m cs h g =
    P.bit-hangs of at _ (at_width (max (wide m) (most (map (O.inside_width m) cs))) m ∷ flat_map (O.inside_operands m) cs) _ (h, inside-hang m cs g) (λ a b callee s. ap any4 (inside-same m cs a b s.0 s.1))

hang-cast : (of : Layout) (at : ℕ) (m : Meaning) → Hangs m → Hangs (O.cast of at m)
unfolding O.cast
hang-cast of at m h =
    P.plain-hangs of at _ _ _ (by_itself m ∷ []) _ (h, tt) (λ a b callee s w c. ap (λ v. ext w c (stored of.two_state (ext (length of.two_state) (signed m) v))) (P.alone-same m a b s.0))

hang-clog2 : (of : Layout) (at : ℕ) (m : Meaning) → Hangs m → Hangs (O.clog2 of at m)
unfolding O.clog2
hang-clog2 of at m h = P.four-hangs of at _ _ _ (by_itself m ∷ []) _ (h, tt) (λ a b callee s w c. ap (λ v. ext w c (O.clog2_of v)) (P.alone-same m a b s.0))

hang-pattern : (of : Layout) (at : ℕ) (ms : List Meaning) → AllHang ms → Hangs (O.pattern of at ms)
unfolding O.pattern
hang-pattern of at ms h =
    P.plain-hangs of at _ _ _ (P.item_operands (parts_of of) ms) _ (P.items-hang (parts_of of) ms h) (λ a b callee s w c. ap (λ vs. ext w c (stacked vs)) (P.items-same (parts_of of) ms a b s))

hang-call : (of : Layout) (at f : ℕ) (ms : List Meaning) → AllHang ms → Hangs (O.call of at f ms)
unfolding O.call
hang-call of at f ms h =
    let value = λ (w : ℕ) (s : Bool) (a : Around). ext w s ((a.callee f).run (passed (a.callee f).formals ms a)).result in
    let p = P.plain-hangs of at (length of.two_state) of.signed no_arithmetic (map by_itself ms) value (P.alone-hang ms h)
    (λ a b callee s w c. ap (λ (v : List (List Bit4)). ext w c ((a.callee f).run v).result) (P.all-passed (a.callee f).formals ms a b (P.alone-are-same ms a b s)) ∙ ap (λ g. ext w c ((g f).run (passed (g f).formals ms b)).result) callee) in record {
      same = λ k a b sa sb agree. record { value = (p.same k a b sa sb agree).value; given = (p.same k a b sa sb agree).given };
      constant = p.constant;
      stands = p.stands;
      moves = record { window = p.moves.window; within = p.moves.within; exact = p.moves.exact; known = p.moves.known };
    }

hang-stream : (of : Layout) (at : ℕ) (reversed : Bool) (n : ℕ) (ms : List Meaning) → AllHang ms → Hangs (O.stream of at reversed n ms)
unfolding O.stream
hang-stream of at reversed n ms h =
    let p = P.plain-hangs of at (width_of_all ms) false no_arithmetic (map by_itself ms) (λ c s a. ext c false (streamed reversed n (joined ms a))) (P.alone-hang ms h)
    (λ a b callee s w c. ap (λ v. ext w false (streamed reversed n v)) (P.all-alone ms a b (P.alone-are-same ms a b s))) in record {
      same = λ k a b sa sb agree. record {
        value = (p.same k a b sa sb agree).value;
        given = λ m. ap (λ v. replicate (m - width_of_all ms) Zero ++ drop (width_of_all ms - m) (streamed reversed n v))
            (P.all-alone ms a b (P.alone-are-same ms a b (P.all-same (map by_itself ms) k a b (P.alone-hang ms h) sa sb agree)));
      };
      constant = p.constant;
      stands = p.stands;
      moves = record { window = p.moves.window; within = p.moves.within; exact = p.moves.exact; known = p.moves.known };
    }

abbrev HangsForm : Form → Type 0
HangsForm f = (of : Layout) (at : ℕ) → Hangs (form_meaning f of at)

by-step : (f : Form) (y : Layout → ℕ → Meaning) → form_meaning f ≡ y → ((of : Layout) (at : ℕ) → Hangs (y of at)) → HangsForm f
by-step f y is h of at = subst (λ (g : Layout → ℕ → Meaning). Hangs (g of at)) (sym is) (h of at)

abbrev HangsExpr : Expr → Type 0
HangsExpr e = Hangs (meaning e)

abbrev HangsChoice : Choice → Type 0
HangsChoice c = HangsIn (L.alternative c)

all : (es : List Expr) → Each HangsExpr es → AllHang (map meaning es)
all [] h = tt
all (e ∷ es) h = (h.0, all es h.1)

all-in : (cs : List Choice) → Each HangsChoice cs → AllHangIn (map L.alternative cs)
all-in [] h = tt
all-in (c ∷ cs) h = (h.0, all-in cs h.1)

steps : Steps HangsChoice HangsForm HangsExpr
steps = record {
  value = λ e h. subst HangsIn (sym (L.only e)) h;
  range = λ a b h g. subst HangsIn (sym (L.from-to a b)) (h, g);
  expr = λ e h. subst Hangs (sym (meaning-form e)) (h (layout e.of) e.spot.at);
  literal = λ v goes_on. by-step _ _ (L.form-Literal v goes_on) (λ of at. hang-literal of at goes_on v);
  fill = λ b. by-step _ _ (L.form-Fill b) (λ of at. hang-fill of at b);
  constant = λ v. by-step _ _ (L.form-Constant v) (λ of at. hang-constant of at v);
  signal = λ n. by-step _ _ (L.form-Signal n) (λ of at. S.signal-hangs of at n);
  local = λ n. by-step _ _ (L.form-Local n) (λ of at. S.local-hangs of at n);
  member = λ e k h. by-step _ _ (L.form-Member e k) (λ of at. S.member-hangs of at (meaning e) k h);
  index = λ e i h g. by-step _ _ (L.form-Index e i) (λ of at. S.index-hangs of at (meaning e) (meaning i) h g);
  part_select = λ e left right h. by-step _ _ (L.form-Part e left right) (λ of at. S.part-hangs of at (meaning e) left right h);
  sliding = λ e i n up h g. by-step _ _ (L.form-Slide e i n up) (λ of at. S.sliding-hangs of at (meaning e) (meaning i) n up h g);
  unary = λ op e h. by-step _ _ (L.form-Unary op e) (λ of at. hang-unary of at op (meaning e) h);
  reduce = λ op e h. by-step _ _ (L.form-Reduce op e) (λ of at. hang-reduce of at op (meaning e) h);
  negate = λ e h. by-step _ _ (L.form-Negate e) (λ of at. hang-negate of at (meaning e) h);
  binary = λ op a b h g. by-step _ _ (L.form-Binary op a b) (λ of at. hang-binary of at op (meaning a) (meaning b) h g);
  shift = λ op a b h g. by-step _ _ (L.form-Shift op a b) (λ of at. hang-shift of at op (meaning a) (meaning b) h g);
  power = λ a b h g. by-step _ _ (L.form-Power a b) (λ of at. hang-power of at (meaning a) (meaning b) h g);
  order = λ op a b h g. by-step _ _ (L.form-Order op a b) (λ of at. hang-order of at op (meaning a) (meaning b) h g);
  equal = λ op negated a b h g. by-step _ _ (L.form-Equal op negated a b) (λ of at. hang-equal of at op negated (meaning a) (meaning b) h g);
  both = λ a b h g. by-step _ _ (L.form-Both a b) (λ of at. hang-both of at (meaning a) (meaning b) h g);
  either = λ a b h g. by-step _ _ (L.form-Either a b) (λ of at. hang-either of at (meaning a) (meaning b) h g);
  choose = λ on a b h g k. by-step _ _ (L.form-Choose on a b) (λ of at. hang-choose of at (meaning on) (meaning a) (meaning b) h g k);
  concat = λ es h. by-step _ _ (L.form-Concat es) (λ of at. hang-concat of at (map meaning es) (all es h));
  repeat = λ n es h. by-step _ _ (L.form-Repeat n es) (λ of at. hang-repeat of at n (map meaning es) (all es h));
  inside = λ e cs h g. by-step _ _ (L.form-Inside e cs) (λ of at. hang-inside of at (meaning e) (map L.alternative cs) h (all-in cs g));
  cast = λ e h. by-step _ _ (L.form-Cast e) (λ of at. hang-cast of at (meaning e) h);
  clog2 = λ e h. by-step _ _ (L.form-Clog2 e) (λ of at. hang-clog2 of at (meaning e) h);
  pattern = λ es h. by-step _ _ (L.form-Pattern es) (λ of at. hang-pattern of at (map meaning es) (all es h));
  call = λ f es h. by-step _ _ (L.form-Call f es) (λ of at. hang-call of at f (map meaning es) (all es h));
  stream = λ reversed n es h. by-step _ _ (L.form-Stream reversed n es) (λ of at. hang-stream of at reversed n (map meaning es) (all es h));
}

pub hangs : (e : Expr) → Hangs (meaning e)
hangs = by-expr HangsChoice HangsForm HangsExpr steps
