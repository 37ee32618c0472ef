-- Which expressions of each form are constants.
use Rattle.std.proofs.Common.{◌≡◌, ℕ, Bool, true, false, ◌&&◌, List, map, Option, refl, sym, ap, ◌∙◌}
use Rattle.b4_core.specs.declared.bit.Bit4.{Bit4}
use Rattle.b4_core.specs.declared.operators.UnOp.{UnOp}
use Rattle.b4_core.specs.declared.operators.BinOp.{BinOp}
use Rattle.b4_core.specs.declared.operators.RedOp.{RedOp}
use Rattle.b4_core.specs.declared.operators.ShiftOp.{ShiftOp}
use Rattle.b4_core.specs.declared.operators.OrdOp.{OrdOp}
use Rattle.b4_core.specs.declared.operators.EqOp.{EqOp}
use Rattle.b4_core.specs.declared.operators.UnOp.TheVariants as U
use Rattle.b4_core.specs.declared.operators.BinOp.TheVariants as B
use Rattle.b4_core.specs.declared.operators.RedOp.TheVariants as R
use Rattle.b4_core.specs.declared.operators.ShiftOp.TheVariants as S
use Rattle.b4_core.specs.declared.operators.OrdOp.TheVariants as O
use Rattle.b4_core.specs.declared.operators.EqOp.TheVariants as E
use Rattle.v_tree.specs.Names.{Name}
use Rattle.v_tree.specs.declared.expressions.VExpr.{VExpr}
use Rattle.v_tree.specs.declared.expressions.VExpr.TheVariants as X
use Rattle.v_tree.specs.declared.expressions.VPrim.{VPrim}
use Rattle.v_tree.specs.declared.expressions.VPrim.TheVariants as P
use Rattle.v_tree.specs.declared.expressions.VSel.{VSel}
use Rattle.v_tree.specs.declared.expressions.VSel.TheVariants as Z
use Rattle.v_tree.specs.declared.expressions.VExtent.{VExtent}
use Rattle.v_expr_rules.proofs.Levels as L
use Rattle.v_tree.specs.declared.operators.VBinaryOp.{VBinaryOp}
use Rattle.v_tree.specs.declared.operators.VBinaryOp.TheVariants as W
use Rattle.v_tree.specs.declared.operators.VUnaryOp.{VUnaryOp}
use Rattle.v_tree.specs.declared.operators.VUnaryOp.TheVariants as V
use Rattle.v_meaning.specs.Scopes as M
use Rattle.v_meaning.specs.Selects.{SelMeaning}
use Rattle.v_meaning.specs.Values as T
use Rattle.v_meaning.specs.Values.{Meaning, meaning, sel_meaning, expr_step, prim_step, sel_step, all_constant, is_empty}
use Rattle.v_meaning.specs.Functions.{find}
use Rattle.v_meaning.specs.Modules.{functions as functions_in}
use Rattle.v_eval.specs.Functions.{function_at}
use Rattle.v_eval.specs.Scopes.{scope_of, prim_meaning, callee_at}
use Rattle.v_eval.specs.declared.scopes.Scope.{Scope}
use Rattle.v_eval.proofs.Calls.{called}
use Rattle.v_eval.proofs.Levels.{is-prim, is-unary, is-binary, is-choose, is-number, is-paren, is-name, is-call, is-repeat, is-concat, is-sign}

-- each operation
unary-of : (op : UnOp) (m : Meaning) (sc : M.Scope) → (T.unary op m).constant sc ≡ (m.constant sc && true)
unfolding T.unary
unary-of op m sc = refl

reduce-of : (op : RedOp) (m : Meaning) (sc : M.Scope) → (T.reduce op m).constant sc ≡ (m.constant sc && true)
unfolding T.reduce
reduce-of op m sc = refl

negate-of : (m : Meaning) (sc : M.Scope) → (T.negate m).constant sc ≡ (m.constant sc && true)
unfolding T.negate
negate-of m sc = refl

unary-constant : (op : VUnaryOp) (m : Meaning) (sc : M.Scope) → (T.unary_meaning op m).constant sc ≡ (m.constant sc && true)
unary-constant V.Not m sc = unary-of U.Not m sc
unary-constant V.LogicalNot m sc = negate-of m sc
unary-constant V.Neg m sc = unary-of U.Neg m sc
unary-constant V.And m sc = reduce-of R.And m sc
unary-constant V.Nand m sc = reduce-of R.Nand m sc
unary-constant V.Or m sc = reduce-of R.Or m sc
unary-constant V.Nor m sc = reduce-of R.Nor m sc
unary-constant V.Xor m sc = reduce-of R.Xor m sc
unary-constant V.Xnor m sc = reduce-of R.Xnor m sc

abbrev two : Meaning → Meaning → M.Scope → Bool
two l r sc = l.constant sc && (r.constant sc && true)

binary-of : (op : BinOp) (l r : Meaning) (sc : M.Scope) → (T.binary op l r).constant sc ≡ two l r sc
unfolding T.binary
binary-of op l r sc = refl

shift-of : (op : ShiftOp) (l r : Meaning) (sc : M.Scope) → (T.shift op l r).constant sc ≡ two l r sc
unfolding T.shift
shift-of op l r sc = refl

power-of : (l r : Meaning) (sc : M.Scope) → (T.power l r).constant sc ≡ two l r sc
unfolding T.power
power-of l r sc = refl

order-of : (op : OrdOp) (l r : Meaning) (sc : M.Scope) → (T.order op l r).constant sc ≡ two l r sc
unfolding T.order
order-of op l r sc = refl

equal-of : (op : EqOp) (l r : Meaning) (sc : M.Scope) → (T.equal op l r).constant sc ≡ two l r sc
unfolding T.equal
equal-of op l r sc = refl

unequal-of : (op : EqOp) (l r : Meaning) (sc : M.Scope) → (T.unequal op l r).constant sc ≡ two l r sc
unfolding T.unequal
unequal-of op l r sc = refl

both-of : (l r : Meaning) (sc : M.Scope) → (T.both l r).constant sc ≡ two l r sc
unfolding T.both
both-of l r sc = refl

either-of : (l r : Meaning) (sc : M.Scope) → (T.either l r).constant sc ≡ two l r sc
unfolding T.either
either-of l r sc = refl

binary-constant : (op : VBinaryOp) (l r : Meaning) (sc : M.Scope) → (T.binary_meaning op l r).constant sc ≡ two l r sc
binary-constant W.Add l r sc = binary-of B.Add l r sc
binary-constant W.Sub l r sc = binary-of B.Sub l r sc
binary-constant W.Mul l r sc = binary-of B.Mul l r sc
binary-constant W.Div l r sc = binary-of B.Div l r sc
binary-constant W.Rem l r sc = binary-of B.Rem l r sc
binary-constant W.Power l r sc = power-of l r sc
binary-constant W.ShiftLeft l r sc = shift-of S.Left l r sc
binary-constant W.ShiftRight l r sc = shift-of S.Right l r sc
binary-constant W.ArithmeticLeft l r sc = shift-of S.Left l r sc
binary-constant W.ArithmeticRight l r sc = shift-of S.Arith l r sc
binary-constant W.Less l r sc = order-of O.Less l r sc
binary-constant W.LessEqual l r sc = order-of O.LessEqual l r sc
binary-constant W.Greater l r sc = order-of O.Greater l r sc
binary-constant W.GreaterEqual l r sc = order-of O.GreaterEqual l r sc
binary-constant W.Equal l r sc = equal-of E.Logic l r sc
binary-constant W.NotEqual l r sc = unequal-of E.Logic l r sc
binary-constant W.CaseEqual l r sc = equal-of E.Case l r sc
binary-constant W.CaseNotEqual l r sc = unequal-of E.Case l r sc
binary-constant W.And l r sc = binary-of B.And l r sc
binary-constant W.Or l r sc = binary-of B.Or l r sc
binary-constant W.Xor l r sc = binary-of B.Xor l r sc
binary-constant W.Xnor l r sc = binary-of B.Xnor l r sc
binary-constant W.LogicalAnd l r sc = both-of l r sc
binary-constant W.LogicalOr l r sc = either-of l r sc

choose-constant : (on a b : Meaning) (sc : M.Scope) → (T.choose on a b).constant sc ≡ (on.constant sc && (a.constant sc && (b.constant sc && true)))
unfolding T.choose
choose-constant on a b sc = refl

literal-constant : (bits : List Bit4) (sc : M.Scope) → (T.literal bits).constant sc ≡ true
unfolding T.literal
literal-constant bits sc = refl

reference-constant : (n : Name) (ss : List SelMeaning) (sc : M.Scope) → (T.reference n ss).constant sc ≡ false
unfolding T.reference
reference-constant n ss sc = refl

call-constant : (n : Name) (ms : List Meaning) (sc : M.Scope) → (T.call n ms).constant sc ≡ (all_constant ms sc && is_empty (sc.callee n).reads)
unfolding T.call
call-constant n ms sc = refl

repetition-constant : (count : ℕ) (ms : List Meaning) (sc : M.Scope) → (T.repetition count ms).constant sc ≡ all_constant ms sc
unfolding T.repetition
repetition-constant count ms sc = refl

concatenation-constant : (ms : List Meaning) (sc : M.Scope) → (T.concatenation ms).constant sc ≡ all_constant ms sc
unfolding T.concatenation
concatenation-constant ms sc = refl

signing-constant : (s : Bool) (m : Meaning) (sc : M.Scope) → (T.signing s m).constant sc ≡ (m.constant sc && true)
unfolding T.signing
signing-constant s m sc = refl

unit : (b : Bool) → b ≡ (b && true)
unit true = refl
unit false = refl

-- operands
pub number-constant-of : (p : VPrim) (bits : List Bit4) (sc : M.Scope) → p ≡ P.Number bits → true ≡ (prim_meaning p).constant sc
number-constant-of p bits sc is = sym (ap (λ (m : Meaning). m.constant sc) (is-number p bits is) ∙ literal-constant bits sc)

pub paren-constant-of : (p : VPrim) (x : VExpr) (b : Bool) (sc : M.Scope) → p ≡ P.Paren x → b ≡ (meaning x).constant sc → b ≡ (prim_meaning p).constant sc
paren-constant-of p x b sc is e = e ∙ sym (ap (λ (m : Meaning). m.constant sc) (is-paren p x is))

pub name-constant-of : (p : VPrim) (n : Name) (ss : List VSel) (sc : M.Scope) → p ≡ P.Name n ss → false ≡ (prim_meaning p).constant sc
name-constant-of p n ss sc is = sym (ap (λ (m : Meaning). m.constant sc) (is-name p n ss is) ∙ reference-constant n (map sel_meaning ss) sc)

pub call-constant-of : (p : VPrim) (n : Name) (xs : List VExpr) (a q : Bool) (o : Option ℕ) (s : Scope) → p ≡ P.Call n xs → a ≡ all_constant (map meaning xs) (scope_of s) → q ≡ is_empty (callee_at s o).reads
    → function_at s.module.now.items.now o ≡ find (functions_in s.module.now.items.now) n → (a && q) ≡ (prim_meaning p).constant (scope_of s)
call-constant-of p n xs a q o s is args own found =
    (λ j. args j && own j) ∙ ap (λ (c : M.Callee). all_constant (map meaning xs) (scope_of s) && is_empty c.reads) (called s n o found)
    ∙ sym (ap (λ (m : Meaning). m.constant (scope_of s)) (is-call p n xs is) ∙ call-constant n (map meaning xs) (scope_of s))

pub repeat-constant-of : (p : VPrim) (count : ℕ) (xs : List VExpr) (b : Bool) (sc : M.Scope) → p ≡ P.Repeat count xs → b ≡ all_constant (map meaning xs) sc → b ≡ (prim_meaning p).constant sc
repeat-constant-of p count xs b sc is e = e ∙ sym (ap (λ (m : Meaning). m.constant sc) (is-repeat p count xs is) ∙ repetition-constant count (map meaning xs) sc)

pub concat-constant-of : (p : VPrim) (xs : List VExpr) (b : Bool) (sc : M.Scope) → p ≡ P.Concat xs → b ≡ all_constant (map meaning xs) sc → b ≡ (prim_meaning p).constant sc
concat-constant-of p xs b sc is e = e ∙ sym (ap (λ (m : Meaning). m.constant sc) (is-concat p xs is) ∙ concatenation-constant (map meaning xs) sc)

pub sign-constant-of : (p : VPrim) (s : Bool) (x : VExpr) (b : Bool) (sc : M.Scope) → p ≡ P.Sign s x → b ≡ (meaning x).constant sc → b ≡ (prim_meaning p).constant sc
sign-constant-of p s x b sc is e = e ∙ unit ((meaning x).constant sc) ∙ sym (ap (λ (m : Meaning). m.constant sc) (is-sign p s x is) ∙ signing-constant s (meaning x) sc)

pub ruleset operands = (number-constant-of, paren-constant-of, name-constant-of, call-constant-of, repeat-constant-of, concat-constant-of, sign-constant-of)

-- expressions
pub prim-constant-of : (e : VExpr) (a : VPrim) (b : Bool) (sc : M.Scope) → e ≡ X.Prim a → b ≡ (prim_meaning a).constant sc → b ≡ (meaning e).constant sc
prim-constant-of e a b sc is h = h ∙ sym (ap (λ (m : Meaning). m.constant sc) (is-prim e a is))

pub unary-constant-of : (e : VExpr) (op : VUnaryOp) (a : VPrim) (b : Bool) (sc : M.Scope) → e ≡ X.Unary op a → b ≡ (prim_meaning a).constant sc → b ≡ (meaning e).constant sc
unary-constant-of e op a b sc is h =
    h ∙ unit ((prim_meaning a).constant sc) ∙ sym (ap (λ (m : Meaning). m.constant sc) (is-unary e op a is) ∙ unary-constant op (prim_meaning a) sc)

pub binary-constant-of : (e : VExpr) (op : VBinaryOp) (a b : VPrim) (l r : Bool) (sc : M.Scope) → e ≡ X.Binary op a b → l ≡ (prim_meaning a).constant sc → r ≡ (prim_meaning b).constant sc → (l && r) ≡ (meaning e).constant sc
binary-constant-of e op a b l r sc is h g =
    (λ j. h j && g j) ∙ ap (λ c. (prim_meaning a).constant sc && c) (unit ((prim_meaning b).constant sc))
    ∙ sym (ap (λ (m : Meaning). m.constant sc) (is-binary e op a b is) ∙ binary-constant op (prim_meaning a) (prim_meaning b) sc)

three : (o a b : Bool) → ((o && a) && b) ≡ (o && (a && (b && true)))
three true true b = unit b
three true false b = refl
three false a b = refl

pub choose-constant-of : (e : VExpr) (on a b : VPrim) (o l r : Bool) (sc : M.Scope) → e ≡ X.Choose on a b → o ≡ (prim_meaning on).constant sc → l ≡ (prim_meaning a).constant sc → r ≡ (prim_meaning b).constant sc
    → ((o && l) && r) ≡ (meaning e).constant sc
choose-constant-of e on a b o l r sc is f h g =
    (λ j. (f j && h j) && g j) ∙ three ((prim_meaning on).constant sc) ((prim_meaning a).constant sc) ((prim_meaning b).constant sc)
    ∙ sym (ap (λ (m : Meaning). m.constant sc) (is-choose e on a b is) ∙ choose-constant (prim_meaning on) (prim_meaning a) (prim_meaning b) sc)

pub ruleset expressions = (prim-constant-of, unary-constant-of, binary-constant-of, choose-constant-of)

-- selects
pub decimal-constant : (s : VSel) (base : ℕ) (extent : Option VExtent) (sc : M.Scope) → s ≡ Z.Decimal base extent → true ≡ (sel_meaning s).constant sc
decimal-constant s base extent sc is = sym (ap (λ (m : SelMeaning). m.constant sc) (ap sel_meaning is ∙ L.at-decimal expr_step prim_step sel_step base extent))

pub moving-constant : (s : VSel) (x : VExpr) (extent : Option VExtent) (b : Bool) (sc : M.Scope) → s ≡ Z.Expr x extent → b ≡ (meaning x).constant sc → b ≡ (sel_meaning s).constant sc
moving-constant s x extent b sc is e = e ∙ sym (ap (λ (m : SelMeaning). m.constant sc) (ap sel_meaning is ∙ L.at-moving expr_step prim_step sel_step x extent))

pub ruleset selects = (decimal-constant, moving-constant)
