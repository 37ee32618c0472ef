-- Values hang on nothing that isn't a signal or a bit of a name.
use Rattle.std.proofs.Common.{◌≡◌, ℕ, max, Bool, ◌&&◌, List, [], ◌∷◌, ◌++◌, take, map, Option, refl, sym, ap, ◌∙◌, subst}
use Rattle.b4_core.specs.declared.bit.Bit4.{Bit4}
use Rattle.b4_core.specs.declared.operators.UnOp.{UnOp}
use Rattle.b4_core.specs.declared.operators.UnOp.TheVariants as U
use Rattle.b4_core.specs.declared.operators.BinOp.{BinOp}
use Rattle.b4_core.specs.declared.operators.BinOp.TheVariants as B
use Rattle.b4_core.specs.declared.operators.RedOp.{RedOp}
use Rattle.b4_core.specs.declared.operators.RedOp.TheVariants as R
use Rattle.b4_core.specs.declared.operators.ShiftOp.{ShiftOp}
use Rattle.b4_core.specs.declared.operators.ShiftOp.TheVariants as S
use Rattle.b4_core.specs.declared.operators.OrdOp.{OrdOp}
use Rattle.b4_core.specs.declared.operators.OrdOp.TheVariants as O
use Rattle.b4_core.specs.declared.operators.EqOp.{EqOp}
use Rattle.b4_core.specs.declared.operators.EqOp.TheVariants as E
use Rattle.b4_core.specs.Bits.{and4, or4, not4}
use Rattle.b4_core.specs.Vectors.{ext}
use Rattle.b4_core.specs.Bitwise.{truth_of}
use Rattle.b4_core.specs.Unary.{unary_value}
use Rattle.b4_core.specs.Binary.{binary_value}
use Rattle.b4_core.specs.Shift.{shift_value}
use Rattle.b4_core.specs.Power.{power_value}
use Rattle.b4_core.specs.Reduce.{reduction}
use Rattle.b4_core.specs.Compare.{order_value, equality}
use Rattle.row_machine.specs.Valuation.{Valuation}
use Rattle.picks.specs.Windows.{seen}
use Rattle.v_tree.specs.Names.{Name}
use Rattle.v_tree.specs.declared.expressions.VExpr.{VExpr}
use Rattle.v_tree.specs.declared.expressions.VExtent.{VExtent}
use Rattle.v_tree.specs.declared.expressions.VPrim.{VPrim, fold-VPrim}
use Rattle.v_tree.specs.declared.expressions.VSel.{VSel}
use Rattle.v_tree.specs.declared.operators.VBinaryOp.{VBinaryOp}
use Rattle.v_tree.specs.declared.operators.VBinaryOp.TheVariants as W
use Rattle.v_tree.specs.declared.operators.VUnaryOp.{VUnaryOp}
use Rattle.v_tree.specs.declared.operators.VUnaryOp.TheVariants as V
use Rattle.v_tree.proofs.Induction.{Each, ExprSteps, ind-expr, ind-sel}
use Rattle.v_expr_rules.proofs.Levels as L
use Rattle.v_meaning.specs.Scopes.{Scope, named, all_bits}
use Rattle.v_meaning.specs.Selects.{Path, SelMeaning, path_from, select, start}
use Rattle.v_meaning.specs.Values as T
use Rattle.v_meaning.specs.Values.{Meaning, meaning, sel_meaning, expr_step, prim_step, sel_step, all_reads, sel_reads, arguments, given, truth, alone, use_of, width_of, path_of, value_of}
use Rattle.v_hangs.proofs.Same.{Same, ValueSame, BaseSame, FunctionsSame, vector-same}

abbrev pub AllSame : List Meaning → Scope → Type 0
AllSame ms sc = Each (λ m. ValueSame m sc) ms

abbrev pub AllBases : List SelMeaning → Scope → Type 0
AllBases ss sc = Each (λ s. BaseSame s sc) ss

pub truth-same : (m : Meaning) (sc : Scope) → ValueSame m sc → (v w : Valuation) → Same sc v w → truth m sc v ≡ truth m sc w
truth-same m sc h v w a = ap truth_of (h.same v w a (m.width sc) m.signed)

pub given-same : (m : Meaning) (n : ℕ) (sc : Scope) → ValueSame m sc → (v w : Valuation) → Same sc v w → given m n sc v ≡ given m n sc w
given-same m n sc h v w a = ap (take n) (h.same v w a (max n (m.width sc)) m.signed)

literal-same : (bits : List Bit4) (sc : Scope) → ValueSame (T.literal bits) sc
unfolding T.literal
literal-same bits sc = record { same = λ v w a n s. refl }

unary-same : (op : UnOp) (m : Meaning) (sc : Scope) → ValueSame m sc → ValueSame (T.unary op m) sc
unfolding T.unary
unary-same op m sc h = record { same = λ v w a n s. ap (unary_value op) (h.same v w a n s) }

reduce-same : (op : RedOp) (m : Meaning) (sc : Scope) → ValueSame m sc → ValueSame (T.reduce op m) sc
unfolding T.reduce
reduce-same op m sc h = record { same = λ v w a n s. ap (λ b. ext n s (reduction op b ∷ [])) (h.same v w a (m.width sc) m.signed) }

negate-same : (m : Meaning) (sc : Scope) → ValueSame m sc → ValueSame (T.negate m) sc
unfolding T.negate
negate-same m sc h = record { same = λ v w a n s. ap (λ b. ext n s (not4 b ∷ [])) (truth-same m sc h v w a) }

both-same : (l r : Meaning) (sc : Scope) → ValueSame l sc → ValueSame r sc → ValueSame (T.both l r) sc
unfolding T.both
both-same l r sc h g = record {
  same = λ v w a n s.
      let x = truth-same l sc h v w a in
      let y = truth-same r sc g v w a in
      (λ i. ext n s (and4 (x i) (y i) ∷ []));
}

either-same : (l r : Meaning) (sc : Scope) → ValueSame l sc → ValueSame r sc → ValueSame (T.either l r) sc
unfolding T.either
either-same l r sc h g = record {
  same = λ v w a n s.
      let x = truth-same l sc h v w a in
      let y = truth-same r sc g v w a in
      (λ i. ext n s (or4 (x i) (y i) ∷ []));
}

binary-same : (op : BinOp) (l r : Meaning) (sc : Scope) → ValueSame l sc → ValueSame r sc → ValueSame (T.binary op l r) sc
unfolding T.binary
binary-same op l r sc h g = record {
  same = λ v w a n s.
      let x = h.same v w a n s in
      let y = g.same v w a n s in
      (λ i. binary_value op s (x i) (y i));
}

order-same : (op : OrdOp) (l r : Meaning) (sc : Scope) → ValueSame l sc → ValueSame r sc → ValueSame (T.order op l r) sc
unfolding T.order
order-same op l r sc h g = record {
  same = λ v w a n s.
      let t = l.signed && r.signed in
      let x = h.same v w a (T.larger l r sc) t in
      let y = g.same v w a (T.larger l r sc) t in
      (λ i. ext n s (order_value op t (x i) (y i) ∷ []));
}

compared-same : (op : EqOp) (l r : Meaning) (sc : Scope) → ValueSame l sc → ValueSame r sc → (v w : Valuation) → Same sc v w
    → T.compared op l r sc v ≡ T.compared op l r sc w
compared-same op l r sc h g v w a =
    let t = l.signed && r.signed in
    let x = h.same v w a (T.larger l r sc) t in
    let y = g.same v w a (T.larger l r sc) t in
    (λ i. equality op (x i) (y i))

equal-same : (op : EqOp) (l r : Meaning) (sc : Scope) → ValueSame l sc → ValueSame r sc → ValueSame (T.equal op l r) sc
unfolding T.equal
equal-same op l r sc h g = record { same = λ v w a n s. ap (λ b. ext n s (b ∷ [])) (compared-same op l r sc h g v w a) }

unequal-same : (op : EqOp) (l r : Meaning) (sc : Scope) → ValueSame l sc → ValueSame r sc → ValueSame (T.unequal op l r) sc
unfolding T.unequal
unequal-same op l r sc h g = record { same = λ v w a n s. ap (λ b. ext n s (not4 b ∷ [])) (compared-same op l r sc h g v w a) }

shift-same : (op : ShiftOp) (l r : Meaning) (sc : Scope) → ValueSame l sc → ValueSame r sc → ValueSame (T.shift op l r) sc
unfolding T.shift
shift-same op l r sc h g = record {
  same = λ v w a n s.
      let x = h.same v w a n s in
      let y = g.same v w a (r.width sc) r.signed in
      (λ i. shift_value op s (x i) (y i));
}

power-same : (l r : Meaning) (sc : Scope) → ValueSame l sc → ValueSame r sc → ValueSame (T.power l r) sc
unfolding T.power
power-same l r sc h g = record {
  same = λ v w a n s.
      let x = h.same v w a n s in
      let y = g.same v w a (r.width sc) r.signed in
      (λ i. power_value s r.signed (x i) (y i));
}

choose-same : (on l r : Meaning) (sc : Scope) → ValueSame on sc → ValueSame l sc → ValueSame r sc → ValueSame (T.choose on l r) sc
unfolding T.choose
choose-same on l r sc o h g = record {
  same = λ v w a n s.
      let t = truth-same on sc o v w a in
      let x = h.same v w a n s in
      let y = g.same v w a n s in
      (λ i. T.chosen (t i) (x i) (y i));
}

unary-meaning : (op : VUnaryOp) (m : Meaning) (sc : Scope) → ValueSame m sc → ValueSame (T.unary_meaning op m) sc
unary-meaning V.Not m sc h = unary-same U.Not m sc h
unary-meaning V.LogicalNot m sc h = negate-same m sc h
unary-meaning V.Neg m sc h = unary-same U.Neg m sc h
unary-meaning V.And m sc h = reduce-same R.And m sc h
unary-meaning V.Nand m sc h = reduce-same R.Nand m sc h
unary-meaning V.Or m sc h = reduce-same R.Or m sc h
unary-meaning V.Nor m sc h = reduce-same R.Nor m sc h
unary-meaning V.Xor m sc h = reduce-same R.Xor m sc h
unary-meaning V.Xnor m sc h = reduce-same R.Xnor m sc h

binary-meaning : (op : VBinaryOp) (l r : Meaning) (sc : Scope) → ValueSame l sc → ValueSame r sc → ValueSame (T.binary_meaning op l r) sc
binary-meaning W.Add l r sc h g = binary-same B.Add l r sc h g
binary-meaning W.Sub l r sc h g = binary-same B.Sub l r sc h g
binary-meaning W.Mul l r sc h g = binary-same B.Mul l r sc h g
binary-meaning W.Div l r sc h g = binary-same B.Div l r sc h g
binary-meaning W.Rem l r sc h g = binary-same B.Rem l r sc h g
binary-meaning W.Power l r sc h g = power-same l r sc h g
binary-meaning W.ShiftLeft l r sc h g = shift-same S.Left l r sc h g
binary-meaning W.ShiftRight l r sc h g = shift-same S.Right l r sc h g
binary-meaning W.ArithmeticLeft l r sc h g = shift-same S.Left l r sc h g
binary-meaning W.ArithmeticRight l r sc h g = shift-same S.Arith l r sc h g
binary-meaning W.Less l r sc h g = order-same O.Less l r sc h g
binary-meaning W.LessEqual l r sc h g = order-same O.LessEqual l r sc h g
binary-meaning W.Greater l r sc h g = order-same O.Greater l r sc h g
binary-meaning W.GreaterEqual l r sc h g = order-same O.GreaterEqual l r sc h g
binary-meaning W.Equal l r sc h g = equal-same E.Logic l r sc h g
binary-meaning W.NotEqual l r sc h g = unequal-same E.Logic l r sc h g
binary-meaning W.CaseEqual l r sc h g = equal-same E.Case l r sc h g
binary-meaning W.CaseNotEqual l r sc h g = unequal-same E.Case l r sc h g
binary-meaning W.And l r sc h g = binary-same B.And l r sc h g
binary-meaning W.Or l r sc h g = binary-same B.Or l r sc h g
binary-meaning W.Xor l r sc h g = binary-same B.Xor l r sc h g
binary-meaning W.Xnor l r sc h g = binary-same B.Xnor l r sc h g
binary-meaning W.LogicalAnd l r sc h g = both-same l r sc h g
binary-meaning W.LogicalOr l r sc h g = either-same l r sc h g

-- lists
joined-same : (ms : List Meaning) (sc : Scope) → AllSame ms sc → (v w : Valuation) → Same sc v w → T.joined ms sc v ≡ T.joined ms sc w
joined-same [] sc h v w a = refl
joined-same (m ∷ ms) sc h v w a =
    let x = h.0.same v w a (m.width sc) m.signed in
    let y = joined-same ms sc h.1 v w a in
    (λ i. y i ++ x i)

concatenation-same : (ms : List Meaning) (sc : Scope) → AllSame ms sc → ValueSame (T.concatenation ms) sc
unfolding T.concatenation
concatenation-same ms sc h = record { same = λ v w a n s. ap (ext n s) (joined-same ms sc h v w a) }

repetition-same : (count : ℕ) (ms : List Meaning) (sc : Scope) → AllSame ms sc → ValueSame (T.repetition count ms) sc
unfolding T.repetition
repetition-same count ms sc h = record { same = λ v w a n s. ap (λ b. ext n s (T.often count b)) (joined-same ms sc h v w a) }

signing-same : (signed : Bool) (m : Meaning) (sc : Scope) → ValueSame m sc → ValueSame (T.signing signed m) sc
unfolding T.signing
signing-same signed m sc h = record { same = λ v w a n s. ap (ext n s) (h.same v w a (m.width sc) m.signed) }

arguments-same : (ns : List ℕ) (ms : List Meaning) (sc : Scope) → AllSame ms sc → (v w : Valuation) → Same sc v w → arguments ns ms sc v ≡ arguments ns ms sc w
arguments-same [] ms sc h v w a = refl
arguments-same (n ∷ ns) [] sc h v w a = refl
arguments-same (n ∷ ns) (m ∷ ms) sc h v w a =
    let x = given-same m n sc h.0 v w a in
    let y = arguments-same ns ms sc h.1 v w a in
    (λ i. x i ∷ y i)

call-same : (name : Name) (ms : List Meaning) (sc : Scope) → FunctionsSame sc → AllSame ms sc → ValueSame (T.call name ms) sc
unfolding T.call
call-same name ms sc f h = record {
  same = λ v w a n s.
      let x = arguments-same (sc.callee name).inputs ms sc h v w a in
      ap (λ args. ext n s ((sc.callee name).run v args)) x
      ∙ ap (ext n s) (f.same name v w a.signals (arguments (sc.callee name).inputs ms sc w));
}

-- selects
pub path-same : (sels : List SelMeaning) (sc : Scope) → AllBases sels sc → (v w : Valuation) → Same sc v w → (p : Path) → path_from sc v sels p ≡ path_from sc w sels p
path-same [] sc h v w a p = refl
path-same (s ∷ ss) sc h v w a p =
    ap (λ b. path_from sc v ss (select s b p)) (h.0.same v w a)
    ∙ path-same ss sc h.1 v w a (select s (s.base sc w) p)

reference-same : (name : Name) (sels : List SelMeaning) (sc : Scope) → AllBases sels sc → ValueSame (T.reference name sels) sc
unfolding T.reference
reference-same name sels sc h = record {
  same = λ v w a n s.
      let d = named sc.names name in
      let bits = vector-same v w d.number (all_bits d) (a.names name) in
      let path = path-same sels sc h v w a (start d) in
      (λ i. ext n s (seen (bits i) (path i).window (width_of d sels)));
}

decimal-same : (base : ℕ) (extent : Option VExtent) (sc : Scope) → BaseSame (T.decimal_base base extent) sc
decimal-same base extent sc = record { same = λ v w a. refl }

expression-same : (m : Meaning) (extent : Option VExtent) (sc : Scope) → ValueSame m sc → BaseSame (T.expression_base m extent) sc
expression-same m extent sc h = record { same = λ v w a. ap (T.number_of m.signed) (h.same v w a (m.width sc) m.signed) }

-- trees
abbrev prim_meaning : VPrim → Meaning
prim_meaning = fold-VPrim Meaning Meaning SelMeaning expr_step prim_step sel_step

abbrev ExprSame : VExpr → Type 0
ExprSame e = (sc : Scope) → FunctionsSame sc → ValueSame (meaning e) sc

abbrev PrimSame : VPrim → Type 0
PrimSame p = (sc : Scope) → FunctionsSame sc → ValueSame (prim_meaning p) sc

abbrev SelSame : VSel → Type 0
SelSame s = (sc : Scope) → FunctionsSame sc → BaseSame (sel_meaning s) sc

each-expr : (xs : List VExpr) → Each ExprSame xs → (sc : Scope) → FunctionsSame sc → AllSame (map meaning xs) sc
each-expr [] h sc f = tt
each-expr (x ∷ xs) h sc f = (h.0 sc f, each-expr xs h.1 sc f)

each-sel : (ss : List VSel) → Each SelSame ss → (sc : Scope) → FunctionsSame sc → AllBases (map sel_meaning ss) sc
each-sel [] h sc f = tt
each-sel (x ∷ xs) h sc f = (h.0 sc f, each-sel xs h.1 sc f)

by-form : (m n : Meaning) (sc : Scope) → m ≡ n → ValueSame n sc → ValueSame m sc
by-form m n sc e h = subst (λ (x : Meaning). ValueSame x sc) (sym e) h

by-base : (m n : SelMeaning) (sc : Scope) → m ≡ n → BaseSame n sc → BaseSame m sc
by-base m n sc e h = subst (λ (x : SelMeaning). BaseSame x sc) (sym e) h

steps : ExprSteps ExprSame PrimSame SelSame
steps = record {
  expr-prim = λ a h sc f. by-form _ _ sc (L.at-prim expr_step prim_step sel_step a) (h sc f);
  expr-unary = λ op a h sc f. by-form _ _ sc (L.at-unary expr_step prim_step sel_step op a) (unary-meaning op (prim_meaning a) sc (h sc f));
  expr-binary = λ op a b h g sc f. by-form _ _ sc (L.at-binary expr_step prim_step sel_step op a b) (binary-meaning op (prim_meaning a) (prim_meaning b) sc (h sc f) (g sc f));
  expr-choose = λ on a b o h g sc f. by-form _ _ sc (L.at-choose expr_step prim_step sel_step on a b) (choose-same (prim_meaning on) (prim_meaning a) (prim_meaning b) sc (o sc f) (h sc f) (g sc f));
  prim-number = λ bits sc f. by-form _ _ sc (L.at-number expr_step prim_step sel_step bits) (literal-same bits sc);
  prim-paren = λ x h sc f. by-form _ _ sc (L.at-paren expr_step prim_step sel_step x) (h sc f);
  prim-name = λ n ss h sc f. by-form _ _ sc (L.at-name expr_step prim_step sel_step n ss) (reference-same n (map sel_meaning ss) sc (each-sel ss h sc f));
  prim-call = λ n xs h sc f. by-form _ _ sc (L.at-call expr_step prim_step sel_step n xs) (call-same n (map meaning xs) sc f (each-expr xs h sc f));
  prim-repeat = λ count xs h sc f. by-form _ _ sc (L.at-repeat expr_step prim_step sel_step count xs) (repetition-same count (map meaning xs) sc (each-expr xs h sc f));
  prim-concat = λ xs h sc f. by-form _ _ sc (L.at-concat expr_step prim_step sel_step xs) (concatenation-same (map meaning xs) sc (each-expr xs h sc f));
  prim-sign = λ signed x h sc f. by-form _ _ sc (L.at-sign expr_step prim_step sel_step signed x) (signing-same signed (meaning x) sc (h sc f));
  sel-decimal = λ base extent sc f. by-base _ _ sc (L.at-decimal expr_step prim_step sel_step base extent) (decimal-same base extent sc);
  sel-expr = λ x extent h sc f. by-base _ _ sc (L.at-moving expr_step prim_step sel_step x extent) (expression-same (meaning x) extent sc (h sc f));
}

pub expressions-same : (e : VExpr) (sc : Scope) → FunctionsSame sc → ValueSame (meaning e) sc
expressions-same = ind-expr ExprSame PrimSame SelSame steps

pub bases-same : (ss : List VSel) (sc : Scope) → FunctionsSame sc → AllBases (map sel_meaning ss) sc
bases-same [] sc f = tt
bases-same (s ∷ ss) sc f = (ind-sel ExprSame PrimSame SelSame steps s sc f, bases-same ss sc f)

pub all-same : (xs : List VExpr) (sc : Scope) → FunctionsSame sc → AllSame (map meaning xs) sc
all-same [] sc f = tt
all-same (x ∷ xs) sc f = (expressions-same x sc f, all-same xs sc f)
