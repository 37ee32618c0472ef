-- What the rules on operators give keeps what their operands keep.
use Rattle.std.proofs.Common.{◌≡◌, ℕ, ◌<◌, ◌≤◌, max, Bool, true, false, ◌&&◌, List, [], ◌∷◌, ◌++◌, Option, Some, None, refl, arith, ap, sym, ◌∙◌, subst}
use Rattle.std.specs.Prelude.{nat_lt, cond, Ok}
use Rattle.std.proofs.lemmas.Bool.Decides.{nat_tests}
use Rattle.b4_core.specs.declared.operators.UnOp.TheVariants as U
use Rattle.b4_core.specs.declared.operators.BinOp.{BinOp}
use Rattle.b4_core.specs.declared.operators.BinOp.TheVariants as B
use Rattle.b4_core.specs.declared.operators.RedOp.{RedOp}
use Rattle.b4_core.specs.declared.operators.ShiftOp.{ShiftOp}
use Rattle.b4_core.specs.declared.operators.OrdOp.{OrdOp}
use Rattle.b4_core.specs.declared.operators.EqOp.{EqOp}
use Rattle.sv_tree.specs.declared.operators.BinaryOperator.{BinaryOperator}
use Rattle.sv_tree.specs.declared.operators.BinaryOperator.TheVariants as N
use Rattle.sv_tree.specs.declared.operators.UnaryOperator.{UnaryOperator}
use Rattle.sv_types.specs.declared.expression.Expr.{Expr}
use Rattle.sv_types.specs.declared.expression.Form.{Form}
use Rattle.sv_types.specs.declared.expression.Form.TheVariants as F
use Rattle.sv_types.specs.declared.statement.Function.{Function}
use Rattle.sv_types.specs.declared.types.SvType.{SvType}
use Rattle.sv_types.specs.Layouts.{Layout, layout, width_of}
use Rattle.sv_types.specs.Meanings.{Meaning, wide, signed}
use Rattle.sv_types.specs.Operators as O
use Rattle.sv_types.specs.Expressions.{meaning}
use Rattle.sv_types.proofs.Levels as L
use Rattle.eval_parts.proofs.Steps.{at-form}
use Rattle.eval_parts.proofs.TypeKinds.{wide-is, signed-is}
use Rattle.expr_type.specs.declared.kinds.BinaryKind.{BinaryKind}
use Rattle.expr_type.specs.declared.kinds.BinaryKind.TheVariants as K
use Rattle.expr_type.specs.declared.kinds.UnaryKind.{UnaryKind}
use Rattle.expr_type.specs.declared.kinds.UnaryKind.TheVariants as J
use Rattle.expr_type.specs.declared.operand.Valued.{Valued}
use Rattle.expr_type.specs.Typings.{Checked, unless, at_all}
use Rattle.expr_type.specs.Shapes.{one_bit, enum_of, sign_of}
use Rattle.expr_type.specs.Names.{Source, position}
use Rattle.expr_type.specs.Operands.{too_wide, width}
use Rattle.expr_type.specs.Operators as R
use Rattle.expr_type.specs.Operators.{expr_at, valued, by_itself, in_context, taking, both_wide, both_signed, both_type, same_type, is_signed, over, binary_kind, by_kind, binary_of, unary_kind, by_prefix, unary_of}
use Rattle.typing_fits.specs.Sound.{IsNarrowType, Limited, LimitedAt, Sound}
use Rattle.typing_fits.proofs.Contexts.{allowed, allowed-left, allowed-right, word, word-in, refused-then, none-there, unless-none, unless-is, none-right}
use Rattle.typing_fits.proofs.Full.{full-bits}
use Rattle.typing_fits.proofs.Vectors.{IsVector, vector-of, vector-as, one_bit-of, narrow-vector, narrow-one_bit, width-vector, result-of}
use Rattle.typing_fits.proofs.Limits as M
use Rattle.typing_fits.proofs.Limits.{Covers, Short, at-width}

-- an operand at its own width, and at others
pub bits-of : (v : Valued) (gs : List Function) → Sound v gs → 0 < width v
bits-of v gs s = full-bits v.expr.of s.of.full

pub alone-of : (v : Valued) (gs : List Function) → Sound v gs → LimitedAt (meaning v.expr) (wide (meaning v.expr)) gs
alone-of v gs s = at-width (meaning v.expr) v.arithmetic gs (wide (meaning v.expr)) s.limits (subst (λ w. too_wide w v.arithmetic ≡ []) (sym (wide-is v.expr)) s.own)

pub compared-of : (v : Valued) (gs : List Function) (n w : ℕ) → n ≡ w → Sound v gs → too_wide n v.arithmetic ≡ [] → LimitedAt (meaning v.expr) w gs
compared-of v gs n w is s h = at-width (meaning v.expr) v.arithmetic gs w s.limits (subst (λ k. too_wide k v.arithmetic ≡ []) is h)

pub wide-both : (l r : Valued) → both_wide l r ≡ O.both_wide (meaning l.expr) (meaning r.expr)
wide-both l r = ap (λ n. max n (width r)) (sym (wide-is l.expr)) ∙ ap (λ n. max (wide (meaning l.expr)) n) (sym (wide-is r.expr))

pub signed-both : (l r : Valued) → both_signed l r ≡ O.both_signed (meaning l.expr) (meaning r.expr)
signed-both l r = ap (λ b. b && is_signed r) (sym (signed-is l.expr)) ∙ ap (λ b. signed (meaning l.expr) && b) (sym (signed-is r.expr))

-- an expression of a form
abbrev pub step : Form → (Layout → ℕ → Meaning) → Type 0
step f y = L.form_meaning f ≡ y

pub made : (k : Source) (first : ℕ) (t : SvType) (f : Form) (ops : List ℕ) (gs : List Function) (y : Layout → ℕ → Meaning) → step f y → IsNarrowType t → too_wide (width_of t) ops ≡ []
    → Limited (y (layout t) first) ops gs → Sound (valued k first t f ops) gs
made k first t f ops gs y is of own limits = record {
  of = of;
  own = own;
  limits = subst (λ m. Limited m ops gs) (sym (at-form (expr_at k first t f) f y refl is)) limits;
}

pub made-alone : (k : Source) (first : ℕ) (t : SvType) (f : Form) (gs : List Function) (y : Layout → ℕ → Meaning) → step f y → IsNarrowType t → Limited (y (layout t) first) [] gs
    → Sound (by_itself k first t f) gs
made-alone k first t f gs y is of limits = made k first t f [] gs y is of refl limits

-- the rules of a whole
pub as-is : (a v : Valued) (gs : List Function) → a ≡ v → Sound a gs → Sound v gs
as-is a v gs is s = subst (λ (u : Valued). Sound u gs) is s

abbrev the_checked : Valued → Checked Valued
the_checked v = Ok v

pub ok-is : (a v : Valued) → the_checked a ≡ Ok v → a ≡ v
ok-is a v h = cc

pub context-allows : (k : Source) (first : ℕ) (t : SvType) (f : Form) (ops : List ℕ) (v : Valued) → in_context k first t f ops ≡ Ok v → too_wide (width_of t) ops ≡ []
context-allows k first t f ops v h =
    none-there k.instance 502 (too_wide (width_of t) ops) (unless-none (at_all k.instance 502 (too_wide (width_of t) ops)) (valued k first t f ops) v h)

pub context-is : (k : Source) (first : ℕ) (t : SvType) (f : Form) (ops : List ℕ) (v : Valued) → in_context k first t f ops ≡ Ok v → valued k first t f ops ≡ v
context-is k first t f ops v h = unless-is (at_all k.instance 502 (too_wide (width_of t) ops)) (valued k first t f ops) v h

-- one whose operands take the context
pub in-context : (k : Source) (first : ℕ) (t : SvType) (f : Form) (ops : List ℕ) (v : Valued) (gs : List Function) (y : Layout → ℕ → Meaning) → step f y → IsNarrowType t
    → Limited (y (layout t) first) ops gs → in_context k first t f ops ≡ Ok v → Sound v gs
in-context k first t f ops v gs y is of limits h =
    as-is (valued k first t f ops) v gs (context-is k first t f ops v h) (made k first t f ops gs y is of (context-allows k first t f ops v h) limits)

-- one of which no operand is too wide in the comparison
pub unless-sound : (k : Source) (ops : List ℕ) (a v : Valued) (gs : List Function) → (ops ≡ [] → Sound a gs) → unless (at_all k.instance 502 ops) a ≡ Ok v → Sound v gs
unless-sound k ops a v gs s h =
    as-is a v gs (unless-is (at_all k.instance 502 ops) a v h) (s (none-there k.instance 502 ops (unless-none (at_all k.instance 502 ops) a v h)))

-- types of operators
pub both-narrow : (l r : Valued) (gs : List Function) → Sound l gs → Sound r gs → IsNarrowType (both_type l r)
both-narrow l r gs x y = narrow-vector (both_wide l r) (both_signed l r) (omega (arith, bits-of l gs x)) (omega (arith, x.of.narrow, y.of.narrow))

pub both-vector : (l r : Valued) (gs : List Function) → Sound l gs → Sound r gs → IsVector (layout (both_type l r)) (O.both_wide (meaning l.expr) (meaning r.expr)) (O.both_signed (meaning l.expr) (meaning r.expr))
both-vector l r gs x y =
    vector-as (layout (both_type l r)) (both_wide l r) (O.both_wide (meaning l.expr) (meaning r.expr)) (both_signed l r) (O.both_signed (meaning l.expr) (meaning r.expr))
    (vector-of (both_wide l r) (both_signed l r) (omega (arith, bits-of l gs x)) (omega (arith, x.of.narrow, y.of.narrow))) (wide-both l r) (signed-both l r)

pub same-narrow : (v : Valued) (gs : List Function) → Sound v gs → IsNarrowType (same_type v)
same-narrow v gs s = narrow-vector (width v) (is_signed v) (bits-of v gs s) s.of.narrow

pub same-vector : (v : Valued) (gs : List Function) → Sound v gs → IsVector (layout (same_type v)) (wide (meaning v.expr)) (signed (meaning v.expr))
same-vector v gs s =
    vector-as (layout (same_type v)) (width v) (wide (meaning v.expr)) (is_signed v) (signed (meaning v.expr)) (vector-of (width v) (is_signed v) (bits-of v gs s) s.of.narrow) (sym (wide-is v.expr)) (sym (signed-is v.expr))

-- operators between two operands
abbrev pub Plain : BinOp → Type 0
Plain op = (w : ℕ) → O.binary_arithmetic op w ≡ 0

short-none : (op : BinOp) (ops : List ℕ) (at : ℕ) (ls rs : List ℕ) → ops ≡ ls ++ at ∷ rs → Short ops (O.binary_arithmetic op)
short-none op ops at ls rs is w h = by op (word-in w at ls rs (subst (λ xs. too_wide w xs ≡ []) is h))
  where
    by : (op : BinOp) → w ≤ 128 → O.binary_arithmetic op w ≤ 128
    by B.And short = omega arith
    by B.Or short = omega arith
    by B.Xor short = omega arith
    by B.Xnor short = omega arith
    by B.Add short = short
    by B.Sub short = short
    by B.Mul short = short
    by B.Div short = short
    by B.Rem short = short

pub arithmetic-sound : (op : BinOp) (k : Source) (at : ℕ) (l r v : Valued) (gs : List Function) → R.arithmetic op k at l r ≡ Ok v → Sound l gs → Sound r gs → Sound v gs
arithmetic-sound op k at l r v gs h x y =
    let ops = l.arithmetic ++ at ∷ r.arithmetic in
    in-context k l.begins (both_type l r) (F.Binary op l.expr r.expr) ops v gs _ (L.form-Binary op l.expr r.expr) (both-narrow l r gs x y)
    (M.binary-limits (layout (both_type l r)) l.begins op (meaning l.expr) (meaning r.expr) ops l.arithmetic r.arithmetic gs (both-vector l r gs x y) (short-none op ops at l.arithmetic r.arithmetic refl)
    (λ w a. allowed-left w l.arithmetic (at ∷ r.arithmetic) a) (λ w a. allowed-right w (at ∷ []) r.arithmetic (allowed-right w l.arithmetic (at ∷ r.arithmetic) a)) x.limits y.limits)
    h

pub bitwise-sound : (op : BinOp) (k : Source) (l r v : Valued) (gs : List Function) → Plain op → R.bitwise op k l r ≡ Ok v → Sound l gs → Sound r gs → Sound v gs
bitwise-sound op k l r v gs plain h x y =
    let ops = l.arithmetic ++ r.arithmetic in
    in-context k l.begins (both_type l r) (F.Binary op l.expr r.expr) ops v gs _ (L.form-Binary op l.expr r.expr) (both-narrow l r gs x y)
    (M.binary-limits (layout (both_type l r)) l.begins op (meaning l.expr) (meaning r.expr) ops l.arithmetic r.arithmetic gs (both-vector l r gs x y) (λ w a. omega (arith, plain w))
    (λ w a. allowed-left w l.arithmetic r.arithmetic a) (λ w a. allowed-right w l.arithmetic r.arithmetic a) x.limits y.limits)
    h

pub shift-sound : (op : ShiftOp) (k : Source) (l r v : Valued) (gs : List Function) → R.shift op k l r ≡ Ok v → Sound l gs → Sound r gs → Sound v gs
shift-sound op k l r v gs h x y =
    in-context k l.begins (same_type l) (F.Shift op l.expr r.expr) l.arithmetic v gs _ (L.form-Shift op l.expr r.expr) (same-narrow l gs x)
    (M.shift-limits (layout (same_type l)) l.begins op (meaning l.expr) (meaning r.expr) l.arithmetic l.arithmetic gs (same-vector l gs x) (λ w a. a) x.limits (alone-of r gs y))
    h

pub over-none : (at w : ℕ) → over at w ≡ [] → w ≤ 128
over-none at w h = by (nat_lt 128 w) refl h
  where
    by : (b : Bool) → nat_lt 128 w ≡ b → cond b (at ∷ []) [] ≡ [] → w ≤ 128
    by true is e = absurd (cc)
    by false is e = grind (arith, nat_tests, is)

pub power-sound : (k : Source) (at : ℕ) (l r v : Valued) (gs : List Function) → R.power k at l r ≡ Ok v → Sound l gs → Sound r gs → Sound v gs
power-sound k at l r v gs h x y =
    let first = too_wide (width l) l.arithmetic in
    let second = over at (both_wide l r) in
    let ops = l.arithmetic ++ at ∷ [] in
    unless-sound k (first ++ second) (valued k l.begins (same_type l) (F.Power l.expr r.expr) ops) v gs
    (λ none.
    let short : both_wide l r ≤ 128 = over-none at (both_wide l r) (none-right first second none) in
    let wide_l : width_of (same_type l) ≡ width l = width-vector (width l) (is_signed l) (bits-of l gs x) in
    let right : wide (meaning r.expr) ≡ width r = wide-is r.expr in
    made k l.begins (same_type l) (F.Power l.expr r.expr) ops gs _ (L.form-Power l.expr r.expr) (same-narrow l gs x) (allowed (width_of (same_type l)) ops (omega (arith, short, wide_l)))
    (M.power-limits (layout (same_type l)) l.begins (meaning l.expr) (meaning r.expr) ops l.arithmetic gs (same-vector l gs x)
    (λ w a. omega (arith, word-in w at l.arithmetic [] a, short, right)) (λ w a. allowed-left w l.arithmetic (at ∷ []) a) x.limits (alone-of r gs y)))
    h

pub order-sound : (op : OrdOp) (k : Source) (at : ℕ) (l r v : Valued) (gs : List Function) → R.order op k at l r ≡ Ok v → Sound l gs → Sound r gs → Sound v gs
order-sound op k at l r v gs h x y =
    let w = both_wide l r in
    let ops = l.arithmetic ++ at ∷ r.arithmetic in
    let u = O.both_wide (meaning l.expr) (meaning r.expr) in
    unless-sound k (too_wide w ops) (by_itself k l.begins one_bit (F.Order op l.expr r.expr)) v gs
    (λ none.
    made-alone k l.begins one_bit (F.Order op l.expr r.expr) gs _ (L.form-Order op l.expr r.expr) narrow-one_bit
    (M.order-limits (layout one_bit) l.begins op (meaning l.expr) (meaning r.expr) gs one_bit-of (subst (λ n. n ≤ 128) (wide-both l r) (word-in w at l.arithmetic r.arithmetic none))
    (compared-of l gs w u (wide-both l r) x (allowed-left w l.arithmetic (at ∷ r.arithmetic) none))
    (compared-of r gs w u (wide-both l r) y (allowed-right w (at ∷ []) r.arithmetic (allowed-right w l.arithmetic (at ∷ r.arithmetic) none)))))
    h

pub equality-sound : (op : EqOp) (negated : Bool) (k : Source) (l r v : Valued) (gs : List Function) → R.equality op negated k l r ≡ Ok v → Sound l gs → Sound r gs → Sound v gs
equality-sound op negated k l r v gs h x y =
    let w = both_wide l r in
    let ops = l.arithmetic ++ r.arithmetic in
    let u = O.both_wide (meaning l.expr) (meaning r.expr) in
    unless-sound k (too_wide w ops) (by_itself k l.begins one_bit (F.Equal op negated l.expr r.expr)) v gs
    (λ none.
    made-alone k l.begins one_bit (F.Equal op negated l.expr r.expr) gs _ (L.form-Equal op negated l.expr r.expr) narrow-one_bit
    (M.equal-limits (layout one_bit) l.begins op negated (meaning l.expr) (meaning r.expr) gs one_bit-of
    (compared-of l gs w u (wide-both l r) x (allowed-left w l.arithmetic r.arithmetic none))
    (compared-of r gs w u (wide-both l r) y (allowed-right w l.arithmetic r.arithmetic none))))
    h

pub both-sound : (k : Source) (l r v : Valued) (gs : List Function) → R.logical F.Both k l r ≡ Ok v → Sound l gs → Sound r gs → Sound v gs
both-sound k l r v gs h x y =
    as-is (by_itself k l.begins one_bit (F.Both l.expr r.expr)) v gs (ok-is (by_itself k l.begins one_bit (F.Both l.expr r.expr)) v h)
    (made-alone k l.begins one_bit (F.Both l.expr r.expr) gs _ (L.form-Both l.expr r.expr) narrow-one_bit
    (M.both-limits (layout one_bit) l.begins (meaning l.expr) (meaning r.expr) gs one_bit-of (alone-of l gs x) (alone-of r gs y)))

pub either-sound : (k : Source) (l r v : Valued) (gs : List Function) → R.logical F.Either k l r ≡ Ok v → Sound l gs → Sound r gs → Sound v gs
either-sound k l r v gs h x y =
    as-is (by_itself k l.begins one_bit (F.Either l.expr r.expr)) v gs (ok-is (by_itself k l.begins one_bit (F.Either l.expr r.expr)) v h)
    (made-alone k l.begins one_bit (F.Either l.expr r.expr) gs _ (L.form-Either l.expr r.expr) narrow-one_bit
    (M.either-limits (layout one_bit) l.begins (meaning l.expr) (meaning r.expr) gs one_bit-of (alone-of l gs x) (alone-of r gs y)))

-- operators between two operands that are bitwise do no arithmetic
abbrev PlainKind : BinaryKind → Type 0
PlainKind K.Either = Unit {0}
PlainKind K.Both = Unit {0}
PlainKind (K.Bitwise op) = Plain op
PlainKind (K.Arithmetic op) = Unit {0}
PlainKind (K.Equality op negated) = Unit {0}
PlainKind (K.Order op) = Unit {0}
PlainKind (K.Shift op) = Unit {0}
PlainKind K.Power = Unit {0}

plain-kind : (op : BinaryOperator) → PlainKind (binary_kind op)
plain-kind N.LogicalOr = tt
plain-kind N.LogicalAnd = tt
plain-kind N.Or = λ w. refl
plain-kind N.Xor = λ w. refl
plain-kind N.Xnor = λ w. refl
plain-kind N.And = λ w. refl
plain-kind N.Equal = tt
plain-kind N.NotEqual = tt
plain-kind N.CaseEqual = tt
plain-kind N.CaseNotEqual = tt
plain-kind N.WildcardEqual = tt
plain-kind N.WildcardNotEqual = tt
plain-kind N.Less = tt
plain-kind N.LessOrEqual = tt
plain-kind N.Greater = tt
plain-kind N.GreaterOrEqual = tt
plain-kind N.ShiftLeft = tt
plain-kind N.ShiftRight = tt
plain-kind N.ArithmeticShiftLeft = tt
plain-kind N.ArithmeticShiftRight = tt
plain-kind N.Add = tt
plain-kind N.Subtract = tt
plain-kind N.Multiply = tt
plain-kind N.Divide = tt
plain-kind N.Remainder = tt
plain-kind N.Power = tt

by-kind-sound : (kind : BinaryKind) (k : Source) (at : ℕ) (l r v : Valued) (gs : List Function) → PlainKind kind → by_kind kind k at l r ≡ Ok v → Sound l gs → Sound r gs → Sound v gs
by-kind-sound K.Either k at l r v gs p h x y = either-sound k l r v gs h x y
by-kind-sound K.Both k at l r v gs p h x y = both-sound k l r v gs h x y
by-kind-sound (K.Bitwise op) k at l r v gs p h x y = bitwise-sound op k l r v gs p h x y
by-kind-sound (K.Arithmetic op) k at l r v gs p h x y = arithmetic-sound op k at l r v gs h x y
by-kind-sound (K.Equality op negated) k at l r v gs p h x y = equality-sound op negated k l r v gs h x y
by-kind-sound (K.Order op) k at l r v gs p h x y = order-sound op k at l r v gs h x y
by-kind-sound (K.Shift op) k at l r v gs p h x y = shift-sound op k l r v gs h x y
by-kind-sound K.Power k at l r v gs p h x y = power-sound k at l r v gs h x y

pub binary-sound : (op : BinaryOperator) (k : Source) (at : ℕ) (l r v : Valued) (gs : List Function) → binary_of op k at l r ≡ Ok v → Sound l gs → Sound r gs → Sound v gs
binary-sound op k at l r v gs h x y = by-kind-sound (binary_kind op) k at l r v gs (plain-kind op) (refused-then _ (position k at) 508 (by_kind (binary_kind op) k at l r) v h) x y

-- operators before an operand
pub cast-sound : (k : Source) (first : ℕ) (t : SvType) (e : Expr) (gs : List Function) → IsNarrowType t → LimitedAt (meaning e) (wide (meaning e)) gs → Sound (by_itself k first t (F.Cast e)) gs
cast-sound k first t e gs of x =
    made-alone k first t (F.Cast e) gs _ (L.form-Cast e) of (M.cast-limits (layout t) first (meaning e) gs (result-of t (width_of t) (sign_of t) of refl refl) x)

plus-by : (k : Source) (at : ℕ) (v u : Valued) (gs : List Function) (o : Option ℕ)
    → elim o as (λ p. Checked Valued) [ None ↦ Ok (record v { first = at; begins = at; is_unsized = false }) | Some n ↦ Ok (R.bits_alone k at v) ] ≡ Ok u → Sound v gs → Sound u gs
plus-by k at v u gs None h s = as-is (record v { first = at; begins = at; is_unsized = false }) u gs (ok-is (record v { first = at; begins = at; is_unsized = false }) u h) s
plus-by k at v u gs (Some n) h s = as-is (R.bits_alone k at v) u gs (ok-is (R.bits_alone k at v) u h) (cast-sound k at (same_type v) v.expr gs (same-narrow v gs s) (alone-of v gs s))

pub plus-sound : (k : Source) (at : ℕ) (v u : Valued) (gs : List Function) → R.plus k at v ≡ Ok u → Sound v gs → Sound u gs
plus-sound k at v u gs h s = plus-by k at v u gs (enum_of v.expr.of) h s

pub minus-sound : (k : Source) (at : ℕ) (v u : Valued) (gs : List Function) → R.minus k at v ≡ Ok u → Sound v gs → Sound u gs
minus-sound k at v u gs h s =
    in-context k at (same_type v) (F.Unary U.Neg v.expr) (at ∷ v.arithmetic) u gs _ (L.form-Unary U.Neg v.expr) (same-narrow v gs s)
    (M.unary-limits (layout (same_type v)) at U.Neg (meaning v.expr) (at ∷ v.arithmetic) v.arithmetic gs (same-vector v gs s) (λ w a. word w at v.arithmetic a)
    (λ w a. allowed-right w (at ∷ []) v.arithmetic a) s.limits)
    h

pub inversion-sound : (k : Source) (at : ℕ) (v u : Valued) (gs : List Function) → R.inversion k at v ≡ Ok u → Sound v gs → Sound u gs
inversion-sound k at v u gs h s =
    in-context k at (same_type v) (F.Unary U.Not v.expr) v.arithmetic u gs _ (L.form-Unary U.Not v.expr) (same-narrow v gs s)
    (M.unary-limits (layout (same_type v)) at U.Not (meaning v.expr) v.arithmetic v.arithmetic gs (same-vector v gs s) (λ w a. omega arith) (λ w a. a) s.limits)
    h

pub negation-sound : (k : Source) (at : ℕ) (v u : Valued) (gs : List Function) → R.negation k at v ≡ Ok u → Sound v gs → Sound u gs
negation-sound k at v u gs h s =
    as-is (by_itself k at one_bit (F.Negate v.expr)) u gs (ok-is (by_itself k at one_bit (F.Negate v.expr)) u h)
    (made-alone k at one_bit (F.Negate v.expr) gs _ (L.form-Negate v.expr) narrow-one_bit (M.negate-limits (layout one_bit) at (meaning v.expr) gs one_bit-of (alone-of v gs s)))

pub reduction-sound : (op : RedOp) (k : Source) (at : ℕ) (v u : Valued) (gs : List Function) → R.reduction op k at v ≡ Ok u → Sound v gs → Sound u gs
reduction-sound op k at v u gs h s =
    as-is (by_itself k at one_bit (F.Reduce op v.expr)) u gs (ok-is (by_itself k at one_bit (F.Reduce op v.expr)) u h)
    (made-alone k at one_bit (F.Reduce op v.expr) gs _ (L.form-Reduce op v.expr) narrow-one_bit (M.reduce-limits (layout one_bit) at op (meaning v.expr) gs one_bit-of (alone-of v gs s)))

by-prefix-sound : (kind : UnaryKind) (k : Source) (at : ℕ) (v u : Valued) (gs : List Function) → by_prefix kind k at v ≡ Ok u → Sound v gs → Sound u gs
by-prefix-sound J.Plus k at v u gs h s = plus-sound k at v u gs h s
by-prefix-sound J.Minus k at v u gs h s = minus-sound k at v u gs h s
by-prefix-sound J.Negation k at v u gs h s = negation-sound k at v u gs h s
by-prefix-sound J.Inversion k at v u gs h s = inversion-sound k at v u gs h s
by-prefix-sound (J.Reduction op) k at v u gs h s = reduction-sound op k at v u gs h s

pub unary-sound : (op : UnaryOperator) (k : Source) (at : ℕ) (v u : Valued) (gs : List Function) → unary_of op k at v ≡ Ok u → Sound v gs → Sound u gs
unary-sound op k at v u gs h s = by-prefix-sound (unary_kind op) k at v u gs (refused-then _ (position k at) 508 (by_prefix (unary_kind op) k at v) u h) s
