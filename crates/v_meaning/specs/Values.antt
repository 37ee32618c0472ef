-- Widths, signs and values of expressions (IEEE 1364-2005 clauses 5.1, 5.4 and 5.5, tables 5-3 and 5-22).
use Rattle.std.specs.Prelude.{ℕ, zero, suc, ◌+◌, ◌*◌, max, Bool, true, false, ◌&&◌, cond, ℤ, pos, List, [], ◌∷◌, ◌++◌, length, take, flat_map, Option, Some, None}
use Rattle.std.specs.List.{list_all}
use Rattle.b4_core.specs.declared.bit.Bit4.{Bit4}
use Rattle.b4_core.specs.declared.bit.Bit4.TheVariants.{Zero, One, X, Z}
use Rattle.b4_core.specs.declared.operators.UnOp.{UnOp}
use Rattle.b4_core.specs.declared.operators.UnOp.TheVariants as U
use Rattle.b4_core.specs.declared.operators.BinOp.{BinOp}
use Rattle.b4_core.specs.declared.operators.BinOp.TheVariants as B
use Rattle.b4_core.specs.declared.operators.RedOp.{RedOp}
use Rattle.b4_core.specs.declared.operators.RedOp.TheVariants as R
use Rattle.b4_core.specs.declared.operators.ShiftOp.{ShiftOp}
use Rattle.b4_core.specs.declared.operators.ShiftOp.TheVariants as S
use Rattle.b4_core.specs.declared.operators.OrdOp.{OrdOp}
use Rattle.b4_core.specs.declared.operators.OrdOp.TheVariants as O
use Rattle.b4_core.specs.declared.operators.EqOp.{EqOp}
use Rattle.b4_core.specs.declared.operators.EqOp.TheVariants as E
use Rattle.b4_core.specs.Bits.{and4, or4, not4, merge4}
use Rattle.b4_core.specs.Vectors.{known, number, ext, bitwise}
use Rattle.b4_core.specs.Bitwise.{truth_of}
use Rattle.b4_core.specs.Unary.{unary_value}
use Rattle.b4_core.specs.Binary.{binary_value}
use Rattle.b4_core.specs.Shift.{shift_value}
use Rattle.b4_core.specs.Power.{power_value}
use Rattle.b4_core.specs.Reduce.{reduction}
use Rattle.b4_core.specs.Compare.{order_value, equality}
use Rattle.row_machine.specs.Valuation.{Valuation}
use Rattle.row_machine.specs.Places.{vector_at}
use Rattle.picks.specs.Windows.{seen}
use Rattle.v_tree.specs.Names.{Name}
use Rattle.v_tree.specs.declared.expressions.VExpr.{VExpr, VExpr-F, fold-VExpr}
use Rattle.v_tree.specs.declared.expressions.VExtent.{VExtent}
use Rattle.v_tree.specs.declared.expressions.VPrim.{VPrim-F}
use Rattle.v_tree.specs.declared.expressions.VSel.{VSel, VSel-F, fold-VSel}
use Rattle.v_tree.specs.declared.operators.VBinaryOp.{VBinaryOp}
use Rattle.v_tree.specs.declared.operators.VBinaryOp.TheVariants as W
use Rattle.v_tree.specs.declared.operators.VUnaryOp.{VUnaryOp}
use Rattle.v_tree.specs.declared.operators.VUnaryOp.TheVariants as V
use Rattle.v_meaning.specs.Scopes.{Named, Scope, Use, named, all_bits}
use Rattle.v_meaning.specs.Selects.{Path, SelMeaning, start, bits_named, path_from, width_from, prefix_from}

-- What an expression means.
pub record Meaning : Type 0 where
  -- its self-determined width and sign
  pub width : Scope → ℕ
  pub signed : Bool
  -- its value at the width and sign of its context
  pub value : ℕ → Bool → Scope → Valuation → List Bit4
  -- whether it is a constant: it reads no signal and no local
  pub constant : Scope → Bool
  -- the signals and locals that it names, indices included, and the bits that valuing it reads
  pub names : Scope → List ℕ
  pub reads : Scope → List Use

-- the value alone
abbrev pub alone : Meaning → Scope → Valuation → List Bit4
alone m sc v = m.value (m.width sc) m.signed sc v

-- An assignment gives a target the right side at the larger of both widths and its own sign, cut to the target's width
-- (clause 5.4.1).
abbrev pub given : Meaning → ℕ → Scope → Valuation → List Bit4
given m n sc v = take n (m.value (max n (m.width sc)) m.signed sc v)

abbrev pub truth : Meaning → Scope → Valuation → Bit4
truth m sc v = truth_of (alone m sc v)

-- the operands' names and reads, from left to right
abbrev pub all_names : List Meaning → Scope → List ℕ
all_names ms sc = flat_map (λ (m : Meaning). m.names sc) ms

abbrev pub all_reads : List Meaning → Scope → List Use
all_reads ms sc = flat_map (λ (m : Meaning). m.reads sc) ms

abbrev pub all_constant : List Meaning → Scope → Bool
all_constant ms sc = list_all (λ (m : Meaning). m.constant sc) ms

-- an operation by its width and sign, its operands and its value
abbrev pub operation : (Scope → ℕ) → Bool → List Meaning → (ℕ → Bool → Scope → Valuation → List Bit4) → Meaning
operation width signed operands value = record {
  width = width;
  signed = signed;
  value = value;
  constant = all_constant operands;
  names = all_names operands;
  reads = all_reads operands;
}

-- one bit, which is unsigned
abbrev pub one_bit : List Meaning → (Scope → Valuation → Bit4) → Meaning
one_bit operands b = operation (λ sc. 1) false operands (λ w s sc v. ext w s (b sc v ∷ []))

-- a sized number (clause 3.5.1)
unfoldable pub literal : List Bit4 → Meaning
literal bits = operation (λ sc. length bits) false [] (λ w s sc v. ext w s bits)

-- a name with its selects, which is unsigned; bits out of range are x
abbrev pub path_of : Named → List SelMeaning → Scope → Valuation → Path
path_of n sels sc v = path_from sc v sels (start n)

abbrev pub width_of : Named → List SelMeaning → ℕ
width_of n sels = bits_named (width_from sels (start n)) (all_bits n)

abbrev pub value_of : Named → List SelMeaning → Scope → Valuation → List Bit4
value_of n sels sc v = seen (vector_at v n.number (all_bits n)) (path_of n sels sc v).window (width_of n sels)

-- no signal and no local is known
abbrev pub unseen : Valuation
unseen q = X

abbrev pub use_of : Named → List SelMeaning → Scope → Use
use_of n sels sc =
    let path = prefix_from sc unseen sels (start n) in
    record { number = n.number; low = path.low; high = path.high }

abbrev pub sel_names : List SelMeaning → Scope → List ℕ
sel_names sels sc = flat_map (λ (s : SelMeaning). s.names sc) sels

abbrev pub sel_reads : List SelMeaning → Scope → List Use
sel_reads sels sc = flat_map (λ (s : SelMeaning). s.reads sc) sels

unfoldable pub reference : Name → List SelMeaning → Meaning
reference name sels = record {
  width = λ sc. width_of (named sc.names name) sels;
  signed = false;
  value = λ w s sc v. ext w s (value_of (named sc.names name) sels sc v);
  constant = λ sc. false;
  names = λ sc. (named sc.names name).number ∷ sel_names sels sc;
  reads = λ sc. use_of (named sc.names name) sels sc ∷ sel_reads sels sc;
}

-- each input of a function gets its argument as by an assignment (clause 10.4.3)
abbrev pub arguments : List ℕ → List Meaning → Scope → Valuation → List (List Bit4)
arguments [] ms sc v = []
arguments (n ∷ ns) [] sc v = []
arguments (n ∷ ns) (m ∷ ms) sc v = given m n sc v ∷ arguments ns ms sc v

-- a call is a constant where its arguments are and its function reads no signal (clause 10.4.5)
abbrev pub is_empty : {A : Type 0} → List A → Bool
is_empty [] = true
is_empty (x ∷ xs) = false

unfoldable pub call : Name → List Meaning → Meaning
call name args = record {
  width = λ sc. (sc.callee name).width;
  signed = false;
  value = λ w s sc v. ext w s ((sc.callee name).run v (arguments (sc.callee name).inputs args sc v));
  constant = λ sc. all_constant args sc && is_empty (sc.callee name).reads;
  names = all_names args;
  reads = λ sc. all_reads args sc ++ (sc.callee name).reads;
}

-- the items of a concatenation, the first most significant (clause 5.1.14)
abbrev pub joined_width : List Meaning → Scope → ℕ
joined_width [] sc = 0
joined_width (m ∷ ms) sc = joined_width ms sc + m.width sc

abbrev pub joined : List Meaning → Scope → Valuation → List Bit4
joined [] sc v = []
joined (m ∷ ms) sc v = joined ms sc v ++ alone m sc v

unfoldable pub concatenation : List Meaning → Meaning
concatenation ms = operation (joined_width ms) false ms (λ w s sc v. ext w s (joined ms sc v))

abbrev pub often : {A : Type 0} → ℕ → List A → List A
often zero xs = []
often (suc n) xs = xs ++ often n xs

unfoldable pub repetition : ℕ → List Meaning → Meaning
repetition count ms = operation (λ sc. count * joined_width ms sc) false ms (λ w s sc v. ext w s (often count (joined ms sc v)))

-- `$signed` and `$unsigned`, whose operand is self-determined (clause 5.5.1)
unfoldable pub signing : Bool → Meaning → Meaning
signing signed m = operation m.width signed (m ∷ []) (λ w s sc v. ext w s (alone m sc v))

unfoldable pub unary : UnOp → Meaning → Meaning
unary op m = operation m.width m.signed (m ∷ []) (λ w s sc v. unary_value op (m.value w s sc v))

unfoldable pub reduce : RedOp → Meaning → Meaning
reduce op m = one_bit (m ∷ []) (λ sc v. reduction op (alone m sc v))

unfoldable pub negate : Meaning → Meaning
negate m = one_bit (m ∷ []) (λ sc v. not4 (truth m sc v))

unfoldable pub both : Meaning → Meaning → Meaning
both l r = one_bit (l ∷ r ∷ []) (λ sc v. and4 (truth l sc v) (truth r sc v))

unfoldable pub either : Meaning → Meaning → Meaning
either l r = one_bit (l ∷ r ∷ []) (λ sc v. or4 (truth l sc v) (truth r sc v))

-- both operands have the larger width, and a sign only if both have one
abbrev pub larger : Meaning → Meaning → Scope → ℕ
larger l r sc = max (l.width sc) (r.width sc)

unfoldable pub binary : BinOp → Meaning → Meaning → Meaning
binary op l r =
    operation (larger l r) (l.signed && r.signed) (l ∷ r ∷ []) (λ w s sc v. binary_value op s (l.value w s sc v) (r.value w s sc v))

unfoldable pub order : OrdOp → Meaning → Meaning → Meaning
order op l r =
    let s = l.signed && r.signed in
    one_bit (l ∷ r ∷ []) (λ sc v. order_value op s (l.value (larger l r sc) s sc v) (r.value (larger l r sc) s sc v))

abbrev pub compared : EqOp → Meaning → Meaning → Scope → Valuation → Bit4
compared op l r sc v =
    let s = l.signed && r.signed in
    equality op (l.value (larger l r sc) s sc v) (r.value (larger l r sc) s sc v)

unfoldable pub equal : EqOp → Meaning → Meaning → Meaning
equal op l r = one_bit (l ∷ r ∷ []) (compared op l r)

unfoldable pub unequal : EqOp → Meaning → Meaning → Meaning
unequal op l r = one_bit (l ∷ r ∷ []) (λ sc v. not4 (compared op l r sc v))

-- the right operand of a shift or a power is self-determined
unfoldable pub shift : ShiftOp → Meaning → Meaning → Meaning
shift op l r = operation l.width l.signed (l ∷ r ∷ []) (λ w s sc v. shift_value op s (l.value w s sc v) (alone r sc v))

unfoldable pub power : Meaning → Meaning → Meaning
power l r = operation l.width l.signed (l ∷ r ∷ []) (λ w s sc v. power_value s r.signed (l.value w s sc v) (alone r sc v))

-- Of two values the first where the condition is 1, the second where it is 0, and else what they agree on (clause 5.1.13).
abbrev pub chosen : Bit4 → List Bit4 → List Bit4 → List Bit4
chosen One a b = a
chosen Zero a b = b
chosen X a b = bitwise merge4 a b
chosen Z a b = bitwise merge4 a b

unfoldable pub choose : Meaning → Meaning → Meaning → Meaning
choose on a b =
    operation (larger a b) (a.signed && b.signed) (on ∷ a ∷ b ∷ []) (λ w s sc v. chosen (truth on sc v) (a.value w s sc v) (b.value w s sc v))

abbrev pub unary_meaning : VUnaryOp → Meaning → Meaning
unary_meaning V.Not = unary U.Not
unary_meaning V.LogicalNot = negate
unary_meaning V.Neg = unary U.Neg
unary_meaning V.And = reduce R.And
unary_meaning V.Nand = reduce R.Nand
unary_meaning V.Or = reduce R.Or
unary_meaning V.Nor = reduce R.Nor
unary_meaning V.Xor = reduce R.Xor
unary_meaning V.Xnor = reduce R.Xnor

abbrev pub binary_meaning : VBinaryOp → Meaning → Meaning → Meaning
binary_meaning W.Add = binary B.Add
binary_meaning W.Sub = binary B.Sub
binary_meaning W.Mul = binary B.Mul
binary_meaning W.Div = binary B.Div
binary_meaning W.Rem = binary B.Rem
binary_meaning W.Power = power
binary_meaning W.ShiftLeft = shift S.Left
binary_meaning W.ShiftRight = shift S.Right
binary_meaning W.ArithmeticLeft = shift S.Left
binary_meaning W.ArithmeticRight = shift S.Arith
binary_meaning W.Less = order O.Less
binary_meaning W.LessEqual = order O.LessEqual
binary_meaning W.Greater = order O.Greater
binary_meaning W.GreaterEqual = order O.GreaterEqual
binary_meaning W.Equal = equal E.Logic
binary_meaning W.NotEqual = unequal E.Logic
binary_meaning W.CaseEqual = equal E.Case
binary_meaning W.CaseNotEqual = unequal E.Case
binary_meaning W.And = binary B.And
binary_meaning W.Or = binary B.Or
binary_meaning W.Xor = binary B.Xor
binary_meaning W.Xnor = binary B.Xnor
binary_meaning W.LogicalAnd = both
binary_meaning W.LogicalOr = either

abbrev pub decimal_base : ℕ → Option VExtent → SelMeaning
decimal_base base extent = record { extent = extent; decimal = Some base; base = λ sc v. Some (pos base); constant = λ sc. true; names = λ sc. []; reads = λ sc. [] }

-- an index is read with its own width and sign
abbrev pub number_of : Bool → List Bit4 → Option ℤ
number_of signed bits = cond (known bits) (Some (number signed bits)) None

abbrev pub expression_base : Meaning → Option VExtent → SelMeaning
expression_base m extent = record {
  extent = extent;
  decimal = None;
  base = λ sc v. number_of m.signed (alone m sc v);
  constant = m.constant;
  names = m.names;
  reads = m.reads;
}

abbrev pub sel_step : VSel-F Meaning Meaning SelMeaning → SelMeaning
sel_step (VSel-F.Decimal base extent) = decimal_base base extent
sel_step (VSel-F.Expr base extent) = expression_base base extent

abbrev pub prim_step : VPrim-F Meaning Meaning SelMeaning → Meaning
prim_step (VPrim-F.Number bits) = literal bits
prim_step (VPrim-F.Paren inner) = inner
prim_step (VPrim-F.Name name sels) = reference name sels
prim_step (VPrim-F.Call function args) = call function args
prim_step (VPrim-F.Repeat count items) = repetition count items
prim_step (VPrim-F.Concat items) = concatenation items
prim_step (VPrim-F.Sign signed of) = signing signed of

abbrev pub expr_step : VExpr-F Meaning Meaning SelMeaning → Meaning
expr_step (VExpr-F.Prim a) = a
expr_step (VExpr-F.Unary op a) = unary_meaning op a
expr_step (VExpr-F.Binary op a b) = binary_meaning op a b
expr_step (VExpr-F.Choose on a b) = choose on a b

abbrev pub meaning : VExpr → Meaning
meaning = fold-VExpr Meaning Meaning SelMeaning expr_step prim_step sel_step

abbrev pub sel_meaning : VSel → SelMeaning
sel_meaning = fold-VSel Meaning Meaning SelMeaning expr_step prim_step sel_step
