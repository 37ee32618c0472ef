-- What operators and selects make of operands that stand in the order of the text stands in it, and so do the breaks of their
-- rules.
use Rattle.std.proofs.Common.{ℕ, suc, ◌≤◌, ◌<◌, Bool, true, false, List, [], ◌∷◌, ◌++◌, Option, Some, None, refl, cond, arith}
use Rattle.std.specs.Prelude.{Ok, nat_lt, not}
use Rattle.b4_core.specs.declared.operators.BinOp.{BinOp}
use Rattle.b4_core.specs.declared.operators.EqOp.{EqOp}
use Rattle.b4_core.specs.declared.operators.OrdOp.{OrdOp}
use Rattle.b4_core.specs.declared.operators.ShiftOp.{ShiftOp}
use Rattle.b4_core.specs.declared.operators.UnOp.TheVariants as U
use Rattle.sv_tree.specs.declared.operators.BinaryOperator.{BinaryOperator}
use Rattle.expr_type.specs.declared.kinds.BinaryKind.{BinaryKind}
use Rattle.expr_type.specs.declared.kinds.BinaryKind.TheVariants as N
use Rattle.sv_tree.specs.declared.operators.UnaryOperator.{UnaryOperator}
use Rattle.expr_type.specs.declared.kinds.UnaryKind.{UnaryKind}
use Rattle.expr_type.specs.declared.kinds.UnaryKind.TheVariants as M
use Rattle.sv_types.specs.declared.expression.Expr.{Expr}
use Rattle.sv_types.specs.declared.expression.Form.{Form}
use Rattle.sv_types.specs.declared.expression.Form.TheVariants as F
use Rattle.sv_types.specs.declared.types.SvType.{SvType}
use Rattle.sv_types.specs.Layouts.{width_of}
use Rattle.expr_type.specs.Breaks.{Breaks, At, And, Within, Position}
use Rattle.expr_type.specs.Breaks as K
use Rattle.expr_type.specs.Typings.{Checked, refused, unless, at_all, and_at}
use Rattle.expr_type.specs.Placed.{Ascend, Stands, StandsIf}
use Rattle.expr_type.specs.Shapes.{most_bits, most_arithmetic, is_unpacked, is_indexed, enum_of, element_of, members_of}
use Rattle.expr_type.specs.Names.{Source, position, word}
use Rattle.expr_type.specs.declared.operand.Number.{Number}
use Rattle.expr_type.specs.declared.operand.Valued.{Valued}
use Rattle.expr_type.specs.Operands.{too_wide, width}
use Rattle.expr_type.specs.Operators as P
use Rattle.expr_type.specs.Selects as L

-- lists of tokens in the order of the text
pub ascend-wider : (ats : List ℕ) (low high low' high' : ℕ) → low' ≤ low → high ≤ high' → Ascend low high ats → Ascend low' high' ats
ascend-wider [] low high low' high' h k a = tt
ascend-wider (t ∷ ts) low high low' high' h k a = (omega arith, omega arith, ascend-wider ts (suc t) high (suc t) high' (omega arith) k a.2)

pub ascend-append : (as' bs : List ℕ) (low between high : ℕ) → low ≤ between → between ≤ high → Ascend low between as' → Ascend between high bs → Ascend low high (as' ++ bs)
ascend-append [] bs low between high h k a b = ascend-wider bs between high low high h (omega arith) b
ascend-append (t ∷ ts) bs low between high h k a b = (a.0, omega arith, ascend-append ts bs (suc t) between high (omega arith) k a.2 b)

pub ascend-wide : (w : ℕ) (ats : List ℕ) (low high : ℕ) → Ascend low high ats → Ascend low high (too_wide w ats)
ascend-wide w [] low high a = tt
ascend-wide w (t ∷ ts) low high a = by (nat_lt most_arithmetic w)
  where
    by : (b : Bool) → Ascend low high (cond b (t ∷ ts) [])
    by true = a
    by false = tt

ascend-over : (at w low high : ℕ) → low ≤ at → at < high → Ascend low high (P.over at w)
ascend-over at w low high h k = by (nat_lt most_arithmetic w)
  where
    by : (b : Bool) → Ascend low high (cond b (at ∷ []) [])
    by true = (h, k, tt)
    by false = tt

-- breaks at such tokens
abbrev pub WithinIf : Option Breaks → ℕ → ℕ → ℕ → Type 0
WithinIf None i low high = Unit {0}
WithinIf (Some b) i low high = Within b i low high

and-within : (i rule t : ℕ) (b : Option Breaks) (low high : ℕ) → low ≤ t → t < high → WithinIf b i (suc t) high → WithinIf (and_at (record { instance = i; at = t }) rule b) i low high
and-within i rule t None low high h k w = record { instance = refl; from = h; before = k }
and-within i rule t (Some b) low high h k w =
    (suc t, omega arith, omega arith, record { instance = refl; from = h; before = omega arith }, w)

pub all-within : (i rule : ℕ) (ts : List ℕ) (low high : ℕ) → Ascend low high ts → WithinIf (at_all i rule ts) i low high
all-within i rule [] low high a = tt
all-within i rule (t ∷ ts) low high a = and-within i rule t (at_all i rule ts) low high a.0 a.1 (all-within i rule ts (suc t) high a.2)

unless-stands : (i : ℕ) (o : Option Breaks) (v : Valued) (low high : ℕ) → WithinIf o i low high → Stands low high v → StandsIf i low high (unless o v)
unless-stands i None v low high w s = s
unless-stands i (Some b) v low high w s = w

pub refused-stands : (i : ℕ) (b : Bool) (p : Position) (r : ℕ) (x : Checked Valued) (low high : ℕ) → K.Stands i low high p → StandsIf i low high x → StandsIf i low high (refused b p r x)
refused-stands i true p r x low high s q = s
refused-stands i false p r x low high s q = q

module _ (k : Source) where
  pub place : (at low high : ℕ) → low ≤ at → at < high → K.Stands k.instance low high (position k at)
  place at low high h m = record { instance = refl; from = h; before = m }

  itself : (first : ℕ) (of : SvType) (form : Form) (low high : ℕ) → low ≤ first → first < high → Stands low high (P.by_itself k first of form)
  itself first of form low high h m = record { begins = h; inner = omega arith; from = h; before = m; operators = tt }

  pub in-context : (first : ℕ) (of : SvType) (form : Form) (ats : List ℕ) (low high : ℕ) → low ≤ first → first < high
      → Ascend low high ats → StandsIf k.instance low high (P.in_context k first of form ats)
  in-context first of form ats low high h m a =
      unless-stands k.instance (at_all k.instance 502 (too_wide (width_of of) ats)) (P.valued k first of form ats) low high
      (all-within k.instance 502 (too_wide (width_of of) ats) low high (ascend-wide (width_of of) ats low high a))
      (record { begins = h; inner = omega arith; from = h; before = m; operators = a })

  checked-at : (ts : List ℕ) (first : ℕ) (of : SvType) (form : Form) (low high : ℕ) → low ≤ first → first < high
      → Ascend low high ts → StandsIf k.instance low high (unless (at_all k.instance 502 ts) (P.by_itself k first of form))
  checked-at ts first of form low high h m a =
      unless-stands k.instance (at_all k.instance 502 ts) (P.by_itself k first of form) low high
      (all-within k.instance 502 ts low high a) (itself first of form low high h m)

  -- an operator between two operands
  module _ (at low high : ℕ) (l r : Valued) (x : Stands low at l) (y : Stands (suc at) high r) where
    from-first : low ≤ l.begins
    from-first = x.begins

    before-end : l.begins < high
    before-end = let d = x.inner in let a = x.before in let b = y.from in let c = y.before in omega arith

    at-within : low ≤ at
    at-within = let a = x.from in let b = x.before in omega arith

    at-before : at < high
    at-before = let b = y.from in let c = y.before in omega arith

    operands : Ascend low high (l.arithmetic ++ r.arithmetic)
    operands =
        ascend-append l.arithmetic r.arithmetic low at high at-within (let e = at-before in omega arith) x.operators
        (ascend-wider r.arithmetic (suc at) high at high (omega arith) (omega arith) y.operators)

    with-operator : Ascend low high (l.arithmetic ++ at ∷ r.arithmetic)
    with-operator =
        ascend-append l.arithmetic (at ∷ r.arithmetic) low at high at-within (let e = at-before in omega arith) x.operators
        (omega arith, at-before, y.operators)

    bitwise : (op : BinOp) → StandsIf k.instance low high (P.bitwise op k l r)
    bitwise op =
        in-context l.begins (P.both_type l r) (F.Binary op l.expr r.expr) (l.arithmetic ++ r.arithmetic) low high from-first before-end operands

    arithmetic : (op : BinOp) → StandsIf k.instance low high (P.arithmetic op k at l r)
    arithmetic op =
        in-context l.begins (P.both_type l r) (F.Binary op l.expr r.expr) (l.arithmetic ++ at ∷ r.arithmetic) low high from-first before-end with-operator

    equality : (op : EqOp) (negated : Bool) → StandsIf k.instance low high (P.equality op negated k l r)
    equality op negated =
        checked-at (too_wide (P.both_wide l r) (l.arithmetic ++ r.arithmetic)) l.begins _ (F.Equal op negated l.expr r.expr) low high from-first before-end
        (ascend-wide (P.both_wide l r) (l.arithmetic ++ r.arithmetic) low high operands)

    order : (op : OrdOp) → StandsIf k.instance low high (P.order op k at l r)
    order op =
        checked-at (too_wide (P.both_wide l r) (l.arithmetic ++ at ∷ r.arithmetic)) l.begins _ (F.Order op l.expr r.expr) low high from-first before-end
        (ascend-wide (P.both_wide l r) (l.arithmetic ++ at ∷ r.arithmetic) low high with-operator)

    left-operand : Ascend low high l.arithmetic
    left-operand = ascend-wider l.arithmetic low at low high (omega arith) (let e = at-before in omega arith) x.operators

    shift : (op : ShiftOp) → StandsIf k.instance low high (P.shift op k l r)
    shift op = in-context l.begins (P.same_type l) (F.Shift op l.expr r.expr) l.arithmetic low high from-first before-end left-operand

    power : StandsIf k.instance low high (P.power k at l r)
    power =
        unless-stands k.instance (at_all k.instance 502 (too_wide (width l) l.arithmetic ++ P.over at (P.both_wide l r)))
        (P.valued k l.begins (P.same_type l) (F.Power l.expr r.expr) (l.arithmetic ++ at ∷ [])) low high
        (all-within k.instance 502 (too_wide (width l) l.arithmetic ++ P.over at (P.both_wide l r)) low high
        (ascend-append (too_wide (width l) l.arithmetic) (P.over at (P.both_wide l r)) low at high at-within (let e = at-before in omega arith)
        (ascend-wide (width l) l.arithmetic low at x.operators) (ascend-over at (P.both_wide l r) at high (omega arith) at-before)))
        (record {
          begins = from-first;
          inner = omega arith;
          from = from-first;
          before = before-end;
          operators =
              ascend-append l.arithmetic (at ∷ []) low at high at-within (let e = at-before in omega arith) x.operators (omega arith, at-before, tt);
        })

    logical : (form : Expr → Expr → Form) → StandsIf k.instance low high (P.logical form k l r)
    logical form = itself l.begins _ (form l.expr r.expr) low high from-first before-end

    by-kind : (op : BinaryKind) → StandsIf k.instance low high (P.by_kind op k at l r)
    by-kind N.Either = logical F.Either
    by-kind N.Both = logical F.Both
    by-kind (N.Bitwise op) = bitwise op
    by-kind (N.Arithmetic op) = arithmetic op
    by-kind (N.Equality op negated) = equality op negated
    by-kind (N.Order op) = order op
    by-kind (N.Shift op) = shift op
    by-kind N.Power = power

    pub binary-stands : (op : BinaryOperator) → StandsIf k.instance low high (P.binary_of op k at l r)
    binary-stands op =
        refused-stands k.instance _ (position k at) 508 (P.by_kind (P.binary_kind op) k at l r) low high (place at low high at-within at-before) (by-kind (P.binary_kind op))

  -- an operator before an operand
  module _ (at high : ℕ) (v : Valued) (x : Stands (suc at) high v) where
    operator-before : at < high
    operator-before = let a = x.from in let b = x.before in omega arith

    operand : Ascend at high v.arithmetic
    operand = ascend-wider v.arithmetic (suc at) high at high (omega arith) (omega arith) x.operators

    plus-by : (o : Option ℕ) → StandsIf k.instance at high (elim o [
      | None ↦ Ok (record v { first = at; begins = at; is_unsized = false })
      | Some n ↦ Ok (P.by_itself k at (P.same_type v) (F.Cast v.expr))
    ])
    plus-by None = record { begins = omega arith; inner = omega arith; from = omega arith; before = operator-before; operators = operand }
    plus-by (Some n) = itself at _ (F.Cast v.expr) at high (omega arith) operator-before

    by-prefix : (op : UnaryKind) → StandsIf k.instance at high (P.by_prefix op k at v)
    by-prefix M.Plus = plus-by (enum_of v.expr.of)
    by-prefix M.Minus =
        in-context at (P.same_type v) (F.Unary U.Neg v.expr) (at ∷ v.arithmetic) at high (omega arith) operator-before (omega arith, operator-before, x.operators)
    by-prefix M.Negation = itself at _ _ at high (omega arith) operator-before
    by-prefix M.Inversion = in-context at (P.same_type v) (F.Unary U.Not v.expr) v.arithmetic at high (omega arith) operator-before operand
    by-prefix (M.Reduction op) = itself at _ _ at high (omega arith) operator-before

    pub unary-stands : (op : UnaryOperator) → StandsIf k.instance at high (P.unary_of op k at v)
    unary-stands op = refused-stands k.instance _ (position k at) 508 (P.by_prefix (P.unary_kind op) k at v) at high (place at at high (omega arith) operator-before) (by-prefix (P.unary_kind op))

  -- concatenations, whose parts are valued alone
  pub concat-stands : (opening high : ℕ) (es : List Expr) → opening < high → StandsIf k.instance opening high (P.concat_of k opening es)
  concat-stands opening high es h =
      refused-stands k.instance (nat_lt most_bits (P.all_bits es)) (position k opening) 701 _ opening high (place opening opening high (omega arith) h)
      (itself opening _ (F.Concat es) opening high (omega arith) h)

  -- a select behind what it selects from
  module _ (at low high : ℕ) (v : Valued) (x : Stands low at v) (h : at < high) where
    select-within : low ≤ at
    select-within = let a = x.from in let b = x.before in omega arith

    pub selected : (of : SvType) (form : Form) (w : ℕ) → StandsIf k.instance low high (P.not_too_long k at w (Ok (P.by_itself k v.first of form)))
    selected of form w =
        refused-stands k.instance (nat_lt most_bits w) (position k at) 701 _ low high (place at low high select-within h)
        (itself v.first of form low high x.from (let b = x.before in omega arith))

    member-by : (o : Option L.Place) → StandsIf k.instance low high (L.member_or k at v o)
    member-by None = place at low high select-within h
    member-by (Some m) = selected m.of (F.Member v.expr m.number) (width_of m.of)

    pub member-stands : StandsIf k.instance low high (L.member_of k at v)
    member-stands = member-by (L.named 0 (members_of v.expr.of) (word k at))

    pub element-stands : (i : Valued) → StandsIf k.instance low high (L.element k at v i)
    element-stands i =
        refused-stands k.instance (not (is_indexed v.expr.of)) (position k at) 508 _ low high (place at low high select-within h)
        (selected (element_of v.expr.of) (F.Index v.expr i.expr) (width_of (element_of v.expr.of)))

    pub part-stands : (left right : Number) → at < left.first → left.first < high → StandsIf k.instance low high (L.part k at v left right)
    part-stands left right b e =
        refused-stands k.instance (is_unpacked v.expr.of) (position k at) 508 _ low high (place at low high select-within h)
        (refused-stands k.instance (L.goes_wrong v.expr.of left.number right.number) (position k left.first) 411 _ low high
        (place left.first low high (let s = select-within in omega arith) e)
        (selected (L.part_type v.expr.of left.number right.number) (F.Part v.expr left.number right.number) _))
