-- Values hang on the signals that they read.
use Rattle.std.proofs.Common.{◌≡◌, ℕ, max, Bool, ◌&&◌, List, [], ◌∷◌, ◌++◌, take, map, Option, refl, sym, ap, ◌∙◌, subst}
use Rattle.b4_core.specs.declared.bit.Bit4.{Bit4}
use Rattle.b4_core.specs.declared.operators.UnOp.{UnOp}
use Rattle.b4_core.specs.declared.operators.UnOp.TheVariants as U
use Rattle.b4_core.specs.declared.operators.BinOp.{BinOp}
use Rattle.b4_core.specs.declared.operators.BinOp.TheVariants as B
use Rattle.b4_core.specs.declared.operators.RedOp.{RedOp}
use Rattle.b4_core.specs.declared.operators.RedOp.TheVariants as R
use Rattle.b4_core.specs.declared.operators.ShiftOp.{ShiftOp}
use Rattle.b4_core.specs.declared.operators.ShiftOp.TheVariants as S
use Rattle.b4_core.specs.declared.operators.OrdOp.{OrdOp}
use Rattle.b4_core.specs.declared.operators.OrdOp.TheVariants as O
use Rattle.b4_core.specs.declared.operators.EqOp.{EqOp}
use Rattle.b4_core.specs.declared.operators.EqOp.TheVariants as E
use Rattle.b4_core.specs.Bits.{and4, or4, not4}
use Rattle.b4_core.specs.Vectors.{ext}
use Rattle.b4_core.specs.Bitwise.{truth_of}
use Rattle.b4_core.specs.Unary.{unary_value}
use Rattle.b4_core.specs.Binary.{binary_value}
use Rattle.b4_core.specs.Shift.{shift_value}
use Rattle.b4_core.specs.Power.{power_value}
use Rattle.b4_core.specs.Reduce.{reduction}
use Rattle.b4_core.specs.Compare.{order_value, equality}
use Rattle.row_machine.specs.Valuation.{Valuation}
use Rattle.picks.specs.Windows.{seen}
use Rattle.v_tree.specs.Names.{Name}
use Rattle.v_tree.specs.declared.expressions.VExpr.{VExpr}
use Rattle.v_tree.specs.declared.expressions.VExtent.{VExtent}
use Rattle.v_tree.specs.declared.expressions.VPrim.{VPrim, fold-VPrim}
use Rattle.v_tree.specs.declared.expressions.VSel.{VSel}
use Rattle.v_tree.specs.declared.operators.VBinaryOp.{VBinaryOp}
use Rattle.v_tree.specs.declared.operators.VBinaryOp.TheVariants as W
use Rattle.v_tree.specs.declared.operators.VUnaryOp.{VUnaryOp}
use Rattle.v_tree.specs.declared.operators.VUnaryOp.TheVariants as V
use Rattle.v_tree.proofs.Induction.{Each, ExprSteps, ind-expr, ind-sel}
use Rattle.v_expr_rules.proofs.Levels as L
use Rattle.v_meaning.specs.Scopes.{Scope, named, all_bits}
use Rattle.v_meaning.specs.Selects.{Path, SelMeaning, path_from, select, start}
use Rattle.v_meaning.specs.Values as T
use Rattle.v_meaning.specs.Values.{Meaning, meaning, sel_meaning, expr_step, prim_step, sel_step, all_reads, sel_reads, arguments, given, truth, alone, use_of, width_of, path_of, value_of}
use Rattle.v_footprints.specs.Footprints.{Alike, ValueHangs, BaseHangs, FunctionsHang}
use Rattle.v_footprints.specs.Laws.{ExpressionsHang}
use Rattle.v_footprints.proofs.Uses.{alike-left, alike-right, alike-first, alike-rest, alike-at, vector-alike}

abbrev pub AllHang : List Meaning → Scope → Type 0
AllHang ms sc = Each (λ m. ValueHangs m sc) ms

abbrev pub AllBases : List SelMeaning → Scope → Type 0
AllBases ss sc = Each (λ s. BaseHangs s sc) ss

-- operands
pub of-one : (m : Meaning) (ms : List Meaning) (sc : Scope) (v w : Valuation) → Alike (all_reads (m ∷ ms) sc) v w → Alike (m.reads sc) v w
of-one m ms sc v w a = alike-left (m.reads sc) (all_reads ms sc) v w a

pub of-rest : (m : Meaning) (ms : List Meaning) (sc : Scope) (v w : Valuation) → Alike (all_reads (m ∷ ms) sc) v w → Alike (all_reads ms sc) v w
of-rest m ms sc v w a = alike-right (m.reads sc) (all_reads ms sc) v w a

of-second : (l r : Meaning) (ms : List Meaning) (sc : Scope) (v w : Valuation) → Alike (all_reads (l ∷ r ∷ ms) sc) v w → Alike (r.reads sc) v w
of-second l r ms sc v w a = of-one r ms sc v w (of-rest l (r ∷ ms) sc v w a)

pub truth-same : (m : Meaning) (sc : Scope) → ValueHangs m sc → (v w : Valuation) → Alike (m.reads sc) v w → truth m sc v ≡ truth m sc w
truth-same m sc h v w a = ap truth_of (h.same v w a (m.width sc) m.signed)

pub given-same : (m : Meaning) (n : ℕ) (sc : Scope) → ValueHangs m sc → (v w : Valuation) → Alike (m.reads sc) v w → given m n sc v ≡ given m n sc w
given-same m n sc h v w a = ap (take n) (h.same v w a (max n (m.width sc)) m.signed)

literal-hangs : (bits : List Bit4) (sc : Scope) → ValueHangs (T.literal bits) sc
unfolding T.literal
literal-hangs bits sc = record { same = λ v w a n s. refl }

unary-hangs : (op : UnOp) (m : Meaning) (sc : Scope) → ValueHangs m sc → ValueHangs (T.unary op m) sc
unfolding T.unary
unary-hangs op m sc h = record { same = λ v w a n s. ap (unary_value op) (h.same v w (of-one m [] sc v w a) n s) }

reduce-hangs : (op : RedOp) (m : Meaning) (sc : Scope) → ValueHangs m sc → ValueHangs (T.reduce op m) sc
unfolding T.reduce
reduce-hangs op m sc h = record { same = λ v w a n s. ap (λ b. ext n s (reduction op b ∷ [])) (h.same v w (of-one m [] sc v w a) (m.width sc) m.signed) }

negate-hangs : (m : Meaning) (sc : Scope) → ValueHangs m sc → ValueHangs (T.negate m) sc
unfolding T.negate
negate-hangs m sc h = record { same = λ v w a n s. ap (λ b. ext n s (not4 b ∷ [])) (truth-same m sc h v w (of-one m [] sc v w a)) }

both-hangs : (l r : Meaning) (sc : Scope) → ValueHangs l sc → ValueHangs r sc → ValueHangs (T.both l r) sc
unfolding T.both
both-hangs l r sc h g = record {
  same = λ v w a n s.
      let x = truth-same l sc h v w (of-one l (r ∷ []) sc v w a) in
      let y = truth-same r sc g v w (of-second l r [] sc v w a) in
      (λ i. ext n s (and4 (x i) (y i) ∷ []));
}

either-hangs : (l r : Meaning) (sc : Scope) → ValueHangs l sc → ValueHangs r sc → ValueHangs (T.either l r) sc
unfolding T.either
either-hangs l r sc h g = record {
  same = λ v w a n s.
      let x = truth-same l sc h v w (of-one l (r ∷ []) sc v w a) in
      let y = truth-same r sc g v w (of-second l r [] sc v w a) in
      (λ i. ext n s (or4 (x i) (y i) ∷ []));
}

binary-hangs : (op : BinOp) (l r : Meaning) (sc : Scope) → ValueHangs l sc → ValueHangs r sc → ValueHangs (T.binary op l r) sc
unfolding T.binary
binary-hangs op l r sc h g = record {
  same = λ v w a n s.
      let x = h.same v w (of-one l (r ∷ []) sc v w a) n s in
      let y = g.same v w (of-second l r [] sc v w a) n s in
      (λ i. binary_value op s (x i) (y i));
}

order-hangs : (op : OrdOp) (l r : Meaning) (sc : Scope) → ValueHangs l sc → ValueHangs r sc → ValueHangs (T.order op l r) sc
unfolding T.order
order-hangs op l r sc h g = record {
  same = λ v w a n s.
      let t = l.signed && r.signed in
      let x = h.same v w (of-one l (r ∷ []) sc v w a) (T.larger l r sc) t in
      let y = g.same v w (of-second l r [] sc v w a) (T.larger l r sc) t in
      (λ i. ext n s (order_value op t (x i) (y i) ∷ []));
}

compared-same : (op : EqOp) (l r : Meaning) (sc : Scope) → ValueHangs l sc → ValueHangs r sc → (v w : Valuation) → Alike (all_reads (l ∷ r ∷ []) sc) v w
    → T.compared op l r sc v ≡ T.compared op l r sc w
compared-same op l r sc h g v w a =
    let t = l.signed && r.signed in
    let x = h.same v w (of-one l (r ∷ []) sc v w a) (T.larger l r sc) t in
    let y = g.same v w (of-second l r [] sc v w a) (T.larger l r sc) t in
    (λ i. equality op (x i) (y i))

equal-hangs : (op : EqOp) (l r : Meaning) (sc : Scope) → ValueHangs l sc → ValueHangs r sc → ValueHangs (T.equal op l r) sc
unfolding T.equal
equal-hangs op l r sc h g = record { same = λ v w a n s. ap (λ b. ext n s (b ∷ [])) (compared-same op l r sc h g v w a) }

unequal-hangs : (op : EqOp) (l r : Meaning) (sc : Scope) → ValueHangs l sc → ValueHangs r sc → ValueHangs (T.unequal op l r) sc
unfolding T.unequal
unequal-hangs op l r sc h g = record { same = λ v w a n s. ap (λ b. ext n s (not4 b ∷ [])) (compared-same op l r sc h g v w a) }

shift-hangs : (op : ShiftOp) (l r : Meaning) (sc : Scope) → ValueHangs l sc → ValueHangs r sc → ValueHangs (T.shift op l r) sc
unfolding T.shift
shift-hangs op l r sc h g = record {
  same = λ v w a n s.
      let x = h.same v w (of-one l (r ∷ []) sc v w a) n s in
      let y = g.same v w (of-second l r [] sc v w a) (r.width sc) r.signed in
      (λ i. shift_value op s (x i) (y i));
}

power-hangs : (l r : Meaning) (sc : Scope) → ValueHangs l sc → ValueHangs r sc → ValueHangs (T.power l r) sc
unfolding T.power
power-hangs l r sc h g = record {
  same = λ v w a n s.
      let x = h.same v w (of-one l (r ∷ []) sc v w a) n s in
      let y = g.same v w (of-second l r [] sc v w a) (r.width sc) r.signed in
      (λ i. power_value s r.signed (x i) (y i));
}

choose-hangs : (on l r : Meaning) (sc : Scope) → ValueHangs on sc → ValueHangs l sc → ValueHangs r sc → ValueHangs (T.choose on l r) sc
unfolding T.choose
choose-hangs on l r sc o h g = record {
  same = λ v w a n s.
      let rest = of-rest on (l ∷ r ∷ []) sc v w a in
      let t = truth-same on sc o v w (of-one on (l ∷ r ∷ []) sc v w a) in
      let x = h.same v w (of-one l (r ∷ []) sc v w rest) n s in
      let y = g.same v w (of-second l r [] sc v w rest) n s in
      (λ i. T.chosen (t i) (x i) (y i));
}

unary-meaning : (op : VUnaryOp) (m : Meaning) (sc : Scope) → ValueHangs m sc → ValueHangs (T.unary_meaning op m) sc
unary-meaning V.Not m sc h = unary-hangs U.Not m sc h
unary-meaning V.LogicalNot m sc h = negate-hangs m sc h
unary-meaning V.Neg m sc h = unary-hangs U.Neg m sc h
unary-meaning V.And m sc h = reduce-hangs R.And m sc h
unary-meaning V.Nand m sc h = reduce-hangs R.Nand m sc h
unary-meaning V.Or m sc h = reduce-hangs R.Or m sc h
unary-meaning V.Nor m sc h = reduce-hangs R.Nor m sc h
unary-meaning V.Xor m sc h = reduce-hangs R.Xor m sc h
unary-meaning V.Xnor m sc h = reduce-hangs R.Xnor m sc h

binary-meaning : (op : VBinaryOp) (l r : Meaning) (sc : Scope) → ValueHangs l sc → ValueHangs r sc → ValueHangs (T.binary_meaning op l r) sc
binary-meaning W.Add l r sc h g = binary-hangs B.Add l r sc h g
binary-meaning W.Sub l r sc h g = binary-hangs B.Sub l r sc h g
binary-meaning W.Mul l r sc h g = binary-hangs B.Mul l r sc h g
binary-meaning W.Div l r sc h g = binary-hangs B.Div l r sc h g
binary-meaning W.Rem l r sc h g = binary-hangs B.Rem l r sc h g
binary-meaning W.Power l r sc h g = power-hangs l r sc h g
binary-meaning W.ShiftLeft l r sc h g = shift-hangs S.Left l r sc h g
binary-meaning W.ShiftRight l r sc h g = shift-hangs S.Right l r sc h g
binary-meaning W.ArithmeticLeft l r sc h g = shift-hangs S.Left l r sc h g
binary-meaning W.ArithmeticRight l r sc h g = shift-hangs S.Arith l r sc h g
binary-meaning W.Less l r sc h g = order-hangs O.Less l r sc h g
binary-meaning W.LessEqual l r sc h g = order-hangs O.LessEqual l r sc h g
binary-meaning W.Greater l r sc h g = order-hangs O.Greater l r sc h g
binary-meaning W.GreaterEqual l r sc h g = order-hangs O.GreaterEqual l r sc h g
binary-meaning W.Equal l r sc h g = equal-hangs E.Logic l r sc h g
binary-meaning W.NotEqual l r sc h g = unequal-hangs E.Logic l r sc h g
binary-meaning W.CaseEqual l r sc h g = equal-hangs E.Case l r sc h g
binary-meaning W.CaseNotEqual l r sc h g = unequal-hangs E.Case l r sc h g
binary-meaning W.And l r sc h g = binary-hangs B.And l r sc h g
binary-meaning W.Or l r sc h g = binary-hangs B.Or l r sc h g
binary-meaning W.Xor l r sc h g = binary-hangs B.Xor l r sc h g
binary-meaning W.Xnor l r sc h g = binary-hangs B.Xnor l r sc h g
binary-meaning W.LogicalAnd l r sc h g = both-hangs l r sc h g
binary-meaning W.LogicalOr l r sc h g = either-hangs l r sc h g

-- lists
joined-same : (ms : List Meaning) (sc : Scope) → AllHang ms sc → (v w : Valuation) → Alike (all_reads ms sc) v w → T.joined ms sc v ≡ T.joined ms sc w
joined-same [] sc h v w a = refl
joined-same (m ∷ ms) sc h v w a =
    let x = h.0.same v w (of-one m ms sc v w a) (m.width sc) m.signed in
    let y = joined-same ms sc h.1 v w (of-rest m ms sc v w a) in
    (λ i. y i ++ x i)

concatenation-hangs : (ms : List Meaning) (sc : Scope) → AllHang ms sc → ValueHangs (T.concatenation ms) sc
unfolding T.concatenation
concatenation-hangs ms sc h = record { same = λ v w a n s. ap (ext n s) (joined-same ms sc h v w a) }

repetition-hangs : (count : ℕ) (ms : List Meaning) (sc : Scope) → AllHang ms sc → ValueHangs (T.repetition count ms) sc
unfolding T.repetition
repetition-hangs count ms sc h = record { same = λ v w a n s. ap (λ b. ext n s (T.often count b)) (joined-same ms sc h v w a) }

signing-hangs : (signed : Bool) (m : Meaning) (sc : Scope) → ValueHangs m sc → ValueHangs (T.signing signed m) sc
unfolding T.signing
signing-hangs signed m sc h = record { same = λ v w a n s. ap (ext n s) (h.same v w (of-one m [] sc v w a) (m.width sc) m.signed) }

arguments-same : (ns : List ℕ) (ms : List Meaning) (sc : Scope) → AllHang ms sc → (v w : Valuation) → Alike (all_reads ms sc) v w → arguments ns ms sc v ≡ arguments ns ms sc w
arguments-same [] ms sc h v w a = refl
arguments-same (n ∷ ns) [] sc h v w a = refl
arguments-same (n ∷ ns) (m ∷ ms) sc h v w a =
    let x = given-same m n sc h.0 v w (of-one m ms sc v w a) in
    let y = arguments-same ns ms sc h.1 v w (of-rest m ms sc v w a) in
    (λ i. x i ∷ y i)

call-hangs : (name : Name) (ms : List Meaning) (sc : Scope) → FunctionsHang sc → AllHang ms sc → ValueHangs (T.call name ms) sc
unfolding T.call
call-hangs name ms sc f h = record {
  same = λ v w a n s.
      let x = arguments-same (sc.callee name).inputs ms sc h v w (alike-left (all_reads ms sc) (sc.callee name).reads v w a) in
      ap (λ args. ext n s ((sc.callee name).run v args)) x
      ∙ ap (ext n s) (f.same name v w (alike-right (all_reads ms sc) (sc.callee name).reads v w a) (arguments (sc.callee name).inputs ms sc w));
}

-- selects
pub path-same : (sels : List SelMeaning) (sc : Scope) → AllBases sels sc → (v w : Valuation) → Alike (sel_reads sels sc) v w → (p : Path) → path_from sc v sels p ≡ path_from sc w sels p
path-same [] sc h v w a p = refl
path-same (s ∷ ss) sc h v w a p =
    ap (λ b. path_from sc v ss (select s b p)) (h.0.same v w (alike-left (s.reads sc) (sel_reads ss sc) v w a))
    ∙ path-same ss sc h.1 v w (alike-right (s.reads sc) (sel_reads ss sc) v w a) (select s (s.base sc w) p)

reference-hangs : (name : Name) (sels : List SelMeaning) (sc : Scope) → AllBases sels sc → ValueHangs (T.reference name sels) sc
unfolding T.reference
reference-hangs name sels sc h = record {
  same = λ v w a n s.
      let d = named sc.names name in
      let u = use_of d sels sc in
      let bits = vector-alike v w d.number (alike-at u v w (alike-first u (sel_reads sels sc) v w a)) (all_bits d) in
      let path = path-same sels sc h v w (alike-rest u (sel_reads sels sc) v w a) (start d) in
      (λ i. ext n s (seen (bits i) (path i).window (width_of d sels)));
}

decimal-hangs : (base : ℕ) (extent : Option VExtent) (sc : Scope) → BaseHangs (T.decimal_base base extent) sc
decimal-hangs base extent sc = record { same = λ v w a. refl }

expression-hangs : (m : Meaning) (extent : Option VExtent) (sc : Scope) → ValueHangs m sc → BaseHangs (T.expression_base m extent) sc
expression-hangs m extent sc h = record { same = λ v w a. ap (T.number_of m.signed) (h.same v w a (m.width sc) m.signed) }

-- trees
abbrev prim_meaning : VPrim → Meaning
prim_meaning = fold-VPrim Meaning Meaning SelMeaning expr_step prim_step sel_step

abbrev ExprHangs : VExpr → Type 0
ExprHangs e = (sc : Scope) → FunctionsHang sc → ValueHangs (meaning e) sc

abbrev PrimHangs : VPrim → Type 0
PrimHangs p = (sc : Scope) → FunctionsHang sc → ValueHangs (prim_meaning p) sc

abbrev SelHangs : VSel → Type 0
SelHangs s = (sc : Scope) → FunctionsHang sc → BaseHangs (sel_meaning s) sc

each-expr : (xs : List VExpr) → Each ExprHangs xs → (sc : Scope) → FunctionsHang sc → AllHang (map meaning xs) sc
each-expr [] h sc f = tt
each-expr (x ∷ xs) h sc f = (h.0 sc f, each-expr xs h.1 sc f)

each-sel : (ss : List VSel) → Each SelHangs ss → (sc : Scope) → FunctionsHang sc → AllBases (map sel_meaning ss) sc
each-sel [] h sc f = tt
each-sel (x ∷ xs) h sc f = (h.0 sc f, each-sel xs h.1 sc f)

by-form : (m n : Meaning) (sc : Scope) → m ≡ n → ValueHangs n sc → ValueHangs m sc
by-form m n sc e h = subst (λ (x : Meaning). ValueHangs x sc) (sym e) h

by-base : (m n : SelMeaning) (sc : Scope) → m ≡ n → BaseHangs n sc → BaseHangs m sc
by-base m n sc e h = subst (λ (x : SelMeaning). BaseHangs x sc) (sym e) h

steps : ExprSteps ExprHangs PrimHangs SelHangs
steps = record {
  expr-prim = λ a h sc f. by-form _ _ sc (L.at-prim expr_step prim_step sel_step a) (h sc f);
  expr-unary = λ op a h sc f. by-form _ _ sc (L.at-unary expr_step prim_step sel_step op a) (unary-meaning op (prim_meaning a) sc (h sc f));
  expr-binary = λ op a b h g sc f. by-form _ _ sc (L.at-binary expr_step prim_step sel_step op a b) (binary-meaning op (prim_meaning a) (prim_meaning b) sc (h sc f) (g sc f));
  expr-choose = λ on a b o h g sc f. by-form _ _ sc (L.at-choose expr_step prim_step sel_step on a b) (choose-hangs (prim_meaning on) (prim_meaning a) (prim_meaning b) sc (o sc f) (h sc f) (g sc f));
  prim-number = λ bits sc f. by-form _ _ sc (L.at-number expr_step prim_step sel_step bits) (literal-hangs bits sc);
  prim-paren = λ x h sc f. by-form _ _ sc (L.at-paren expr_step prim_step sel_step x) (h sc f);
  prim-name = λ n ss h sc f. by-form _ _ sc (L.at-name expr_step prim_step sel_step n ss) (reference-hangs n (map sel_meaning ss) sc (each-sel ss h sc f));
  prim-call = λ n xs h sc f. by-form _ _ sc (L.at-call expr_step prim_step sel_step n xs) (call-hangs n (map meaning xs) sc f (each-expr xs h sc f));
  prim-repeat = λ count xs h sc f. by-form _ _ sc (L.at-repeat expr_step prim_step sel_step count xs) (repetition-hangs count (map meaning xs) sc (each-expr xs h sc f));
  prim-concat = λ xs h sc f. by-form _ _ sc (L.at-concat expr_step prim_step sel_step xs) (concatenation-hangs (map meaning xs) sc (each-expr xs h sc f));
  prim-sign = λ signed x h sc f. by-form _ _ sc (L.at-sign expr_step prim_step sel_step signed x) (signing-hangs signed (meaning x) sc (h sc f));
  sel-decimal = λ base extent sc f. by-base _ _ sc (L.at-decimal expr_step prim_step sel_step base extent) (decimal-hangs base extent sc);
  sel-expr = λ x extent h sc f. by-base _ _ sc (L.at-moving expr_step prim_step sel_step x extent) (expression-hangs (meaning x) extent sc (h sc f));
}

pub expressions_hang : ExpressionsHang
expressions_hang = ind-expr ExprHangs PrimHangs SelHangs steps

pub bases_hang : (ss : List VSel) (sc : Scope) → FunctionsHang sc → AllBases (map sel_meaning ss) sc
bases_hang [] sc f = tt
bases_hang (s ∷ ss) sc f = (ind-sel ExprHangs PrimHangs SelHangs steps s sc f, bases_hang ss sc f)

pub all_hang : (xs : List VExpr) (sc : Scope) → FunctionsHang sc → AllHang (map meaning xs) sc
all_hang [] sc f = tt
all_hang (x ∷ xs) sc f = (expressions_hang x sc f, all_hang xs sc f)
