-- What each form of an expression names.
use Rattle.std.proofs.Common.{◌≡◌, ℕ, Bool, List, [], ◌∷◌, ◌++◌, map, Option, refl, sym, ap, ◌∙◌, append_assoc}
use Rattle.std.proofs.lemmas.List.{append-nil}
use Rattle.b4_core.specs.declared.bit.Bit4.{Bit4}
use Rattle.b4_core.specs.declared.operators.UnOp.{UnOp}
use Rattle.b4_core.specs.declared.operators.BinOp.{BinOp}
use Rattle.b4_core.specs.declared.operators.RedOp.{RedOp}
use Rattle.b4_core.specs.declared.operators.ShiftOp.{ShiftOp}
use Rattle.b4_core.specs.declared.operators.OrdOp.{OrdOp}
use Rattle.b4_core.specs.declared.operators.EqOp.{EqOp}
use Rattle.b4_core.specs.declared.operators.UnOp.TheVariants as U
use Rattle.b4_core.specs.declared.operators.BinOp.TheVariants as B
use Rattle.b4_core.specs.declared.operators.RedOp.TheVariants as R
use Rattle.b4_core.specs.declared.operators.ShiftOp.TheVariants as S
use Rattle.b4_core.specs.declared.operators.OrdOp.TheVariants as O
use Rattle.b4_core.specs.declared.operators.EqOp.TheVariants as E
use Rattle.v_tree.specs.Names.{Name}
use Rattle.v_tree.specs.declared.expressions.VExpr.{VExpr}
use Rattle.v_tree.specs.declared.expressions.VExpr.TheVariants as X
use Rattle.v_tree.specs.declared.expressions.VExtent.{VExtent}
use Rattle.v_tree.specs.declared.expressions.VPrim.{VPrim}
use Rattle.v_tree.specs.declared.expressions.VPrim.TheVariants as P
use Rattle.v_tree.specs.declared.expressions.VSel.{VSel}
use Rattle.v_tree.specs.declared.expressions.VSel.TheVariants as Z
use Rattle.v_tree.specs.declared.operators.VBinaryOp.{VBinaryOp}
use Rattle.v_tree.specs.declared.operators.VBinaryOp.TheVariants as W
use Rattle.v_tree.specs.declared.operators.VUnaryOp.{VUnaryOp}
use Rattle.v_tree.specs.declared.operators.VUnaryOp.TheVariants as V
use Rattle.v_expr_rules.proofs.Levels as L
use Rattle.v_meaning.specs.Scopes as M
use Rattle.v_meaning.specs.Selects.{SelMeaning}
use Rattle.v_meaning.specs.Values as T
use Rattle.v_meaning.specs.Values.{Meaning, meaning, sel_meaning, expr_step, prim_step, sel_step, all_names, sel_names}
use Rattle.v_eval.specs.Names.{nameless, names_of}
use Rattle.v_eval.specs.Paths.{named_or_not}
use Rattle.v_eval.specs.Scopes.{scope_of, prim_meaning}
use Rattle.v_eval.specs.declared.paths.Named.{Named}
use Rattle.v_eval.specs.declared.scopes.Scope.{Scope}
use Rattle.v_eval.proofs.Levels.{is-prim, is-unary, is-binary, is-choose, is-number, is-paren, is-name, is-call, is-repeat, is-concat, is-sign}

-- the names of each operation
unary-of : (op : UnOp) (m : Meaning) (sc : M.Scope) → (T.unary op m).names sc ≡ m.names sc ++ []
unfolding T.unary
unary-of op m sc = refl

reduce-of : (op : RedOp) (m : Meaning) (sc : M.Scope) → (T.reduce op m).names sc ≡ m.names sc ++ []
unfolding T.reduce
reduce-of op m sc = refl

negate-of : (m : Meaning) (sc : M.Scope) → (T.negate m).names sc ≡ m.names sc ++ []
unfolding T.negate
negate-of m sc = refl

unary-names : (op : VUnaryOp) (m : Meaning) (sc : M.Scope) → (T.unary_meaning op m).names sc ≡ m.names sc ++ []
unary-names V.Not m sc = unary-of U.Not m sc
unary-names V.LogicalNot m sc = negate-of m sc
unary-names V.Neg m sc = unary-of U.Neg m sc
unary-names V.And m sc = reduce-of R.And m sc
unary-names V.Nand m sc = reduce-of R.Nand m sc
unary-names V.Or m sc = reduce-of R.Or m sc
unary-names V.Nor m sc = reduce-of R.Nor m sc
unary-names V.Xor m sc = reduce-of R.Xor m sc
unary-names V.Xnor m sc = reduce-of R.Xnor m sc

abbrev two : Meaning → Meaning → M.Scope → List ℕ
two l r sc = l.names sc ++ (r.names sc ++ [])

binary-of : (op : BinOp) (l r : Meaning) (sc : M.Scope) → (T.binary op l r).names sc ≡ two l r sc
unfolding T.binary
binary-of op l r sc = refl

shift-of : (op : ShiftOp) (l r : Meaning) (sc : M.Scope) → (T.shift op l r).names sc ≡ two l r sc
unfolding T.shift
shift-of op l r sc = refl

power-of : (l r : Meaning) (sc : M.Scope) → (T.power l r).names sc ≡ two l r sc
unfolding T.power
power-of l r sc = refl

order-of : (op : OrdOp) (l r : Meaning) (sc : M.Scope) → (T.order op l r).names sc ≡ two l r sc
unfolding T.order
order-of op l r sc = refl

equal-of : (op : EqOp) (l r : Meaning) (sc : M.Scope) → (T.equal op l r).names sc ≡ two l r sc
unfolding T.equal
equal-of op l r sc = refl

unequal-of : (op : EqOp) (l r : Meaning) (sc : M.Scope) → (T.unequal op l r).names sc ≡ two l r sc
unfolding T.unequal
unequal-of op l r sc = refl

both-of : (l r : Meaning) (sc : M.Scope) → (T.both l r).names sc ≡ two l r sc
unfolding T.both
both-of l r sc = refl

either-of : (l r : Meaning) (sc : M.Scope) → (T.either l r).names sc ≡ two l r sc
unfolding T.either
either-of l r sc = refl

binary-names : (op : VBinaryOp) (l r : Meaning) (sc : M.Scope) → (T.binary_meaning op l r).names sc ≡ two l r sc
binary-names W.Add l r sc = binary-of B.Add l r sc
binary-names W.Sub l r sc = binary-of B.Sub l r sc
binary-names W.Mul l r sc = binary-of B.Mul l r sc
binary-names W.Div l r sc = binary-of B.Div l r sc
binary-names W.Rem l r sc = binary-of B.Rem l r sc
binary-names W.Power l r sc = power-of l r sc
binary-names W.ShiftLeft l r sc = shift-of S.Left l r sc
binary-names W.ShiftRight l r sc = shift-of S.Right l r sc
binary-names W.ArithmeticLeft l r sc = shift-of S.Left l r sc
binary-names W.ArithmeticRight l r sc = shift-of S.Arith l r sc
binary-names W.Less l r sc = order-of O.Less l r sc
binary-names W.LessEqual l r sc = order-of O.LessEqual l r sc
binary-names W.Greater l r sc = order-of O.Greater l r sc
binary-names W.GreaterEqual l r sc = order-of O.GreaterEqual l r sc
binary-names W.Equal l r sc = equal-of E.Logic l r sc
binary-names W.NotEqual l r sc = unequal-of E.Logic l r sc
binary-names W.CaseEqual l r sc = equal-of E.Case l r sc
binary-names W.CaseNotEqual l r sc = unequal-of E.Case l r sc
binary-names W.And l r sc = binary-of B.And l r sc
binary-names W.Or l r sc = binary-of B.Or l r sc
binary-names W.Xor l r sc = binary-of B.Xor l r sc
binary-names W.Xnor l r sc = binary-of B.Xnor l r sc
binary-names W.LogicalAnd l r sc = both-of l r sc
binary-names W.LogicalOr l r sc = either-of l r sc

choose-names : (on a b : Meaning) (sc : M.Scope) → (T.choose on a b).names sc ≡ on.names sc ++ (a.names sc ++ (b.names sc ++ []))
unfolding T.choose
choose-names on a b sc = refl

literal-names : (bits : List Bit4) (sc : M.Scope) → (T.literal bits).names sc ≡ []
unfolding T.literal
literal-names bits sc = refl

reference-names : (n : Name) (ss : List SelMeaning) (sc : M.Scope) → (T.reference n ss).names sc ≡ (M.named sc.names n).number ∷ sel_names ss sc
unfolding T.reference
reference-names n ss sc = refl

call-names : (n : Name) (ms : List Meaning) (sc : M.Scope) → (T.call n ms).names sc ≡ all_names ms sc
unfolding T.call
call-names n ms sc = refl

repetition-names : (count : ℕ) (ms : List Meaning) (sc : M.Scope) → (T.repetition count ms).names sc ≡ all_names ms sc
unfolding T.repetition
repetition-names count ms sc = refl

concatenation-names : (ms : List Meaning) (sc : M.Scope) → (T.concatenation ms).names sc ≡ all_names ms sc
unfolding T.concatenation
concatenation-names ms sc = refl

signing-names : (s : Bool) (m : Meaning) (sc : M.Scope) → (T.signing s m).names sc ≡ m.names sc ++ []
unfolding T.signing
signing-names s m sc = refl

-- what is added
pub nothing-added : (xs ys : List ℕ) → ys ≡ [] → xs ≡ xs ++ ys
nothing-added xs ys e = sym (append-nil xs) ∙ ap (λ l. xs ++ l) (sym e)

added : (old new ys zs : List ℕ) → new ≡ old ++ ys → ys ≡ zs → new ≡ old ++ zs
added old new ys zs e f = e ∙ ap (λ l. old ++ l) f

one-more : (ys : List ℕ) → ys ≡ ys ++ []
one-more ys = sym (append-nil ys)

-- selects
pub decimal-added : (s : VSel) (base : ℕ) (extent : Option VExtent) (old : List ℕ) (sc : M.Scope) → s ≡ Z.Decimal base extent → old ≡ old ++ (sel_meaning s).names sc
decimal-added s base extent old sc is = nothing-added old _ (ap (λ (m : SelMeaning). m.names sc) (ap sel_meaning is ∙ L.at-decimal expr_step prim_step sel_step base extent))

pub moving-added : (s : VSel) (x : VExpr) (extent : Option VExtent) (old new : List ℕ) (sc : M.Scope) → s ≡ Z.Expr x extent → new ≡ old ++ (meaning x).names sc → new ≡ old ++ (sel_meaning s).names sc
moving-added s x extent old new sc is e = added old new _ _ e (sym (ap (λ (m : SelMeaning). m.names sc) (ap sel_meaning is ∙ L.at-moving expr_step prim_step sel_step x extent)))

pub ruleset selects = (decimal-added, moving-added)

-- operands
pub number-added : (p : VPrim) (bits : List Bit4) (old : List ℕ) (sc : M.Scope) → p ≡ P.Number bits → old ≡ old ++ (prim_meaning p).names sc
number-added p bits old sc is = nothing-added old _ (ap (λ (m : Meaning). m.names sc) (is-number p bits is) ∙ literal-names bits sc)

pub paren-added : (p : VPrim) (x : VExpr) (old new : List ℕ) (sc : M.Scope) → p ≡ P.Paren x → new ≡ old ++ (meaning x).names sc → new ≡ old ++ (prim_meaning p).names sc
paren-added p x old new sc is e = added old new _ _ e (sym (ap (λ (m : Meaning). m.names sc) (is-paren p x is)))

pub name-added : (p : VPrim) (n : Name) (ss : List VSel) (old mid new : List ℕ) (k : ℕ) (o : Option Named) (s : Scope) → p ≡ P.Name n ss → mid ≡ old ++ k ∷ [] → k ≡ (named_or_not o).number
    → named_or_not o ≡ nameless (M.named (names_of s) n) → new ≡ mid ++ sel_names (map sel_meaning ss) (scope_of s) → new ≡ old ++ (prim_meaning p).names (scope_of s)
name-added p n ss old mid new k o s is pushed number found e =
    let sels = sel_names (map sel_meaning ss) (scope_of s) in
    e ∙ ap (λ l. l ++ sels) pushed ∙ append_assoc old (k ∷ []) sels
    ∙ ap (λ j. old ++ j ∷ sels) (number ∙ ap (λ (x : M.Named). x.number) found)
    ∙ ap (λ l. old ++ l) (sym (ap (λ (m : Meaning). m.names (scope_of s)) (is-name p n ss is) ∙ reference-names n (map sel_meaning ss) (scope_of s)))

pub call-added : (p : VPrim) (n : Name) (xs : List VExpr) (old new : List ℕ) (sc : M.Scope) → p ≡ P.Call n xs → new ≡ old ++ all_names (map meaning xs) sc → new ≡ old ++ (prim_meaning p).names sc
call-added p n xs old new sc is e = added old new _ _ e (sym (ap (λ (m : Meaning). m.names sc) (is-call p n xs is) ∙ call-names n (map meaning xs) sc))

pub repeat-added : (p : VPrim) (count : ℕ) (xs : List VExpr) (old new : List ℕ) (sc : M.Scope) → p ≡ P.Repeat count xs → new ≡ old ++ all_names (map meaning xs) sc → new ≡ old ++ (prim_meaning p).names sc
repeat-added p count xs old new sc is e = added old new _ _ e (sym (ap (λ (m : Meaning). m.names sc) (is-repeat p count xs is) ∙ repetition-names count (map meaning xs) sc))

pub concat-added : (p : VPrim) (xs : List VExpr) (old new : List ℕ) (sc : M.Scope) → p ≡ P.Concat xs → new ≡ old ++ all_names (map meaning xs) sc → new ≡ old ++ (prim_meaning p).names sc
concat-added p xs old new sc is e = added old new _ _ e (sym (ap (λ (m : Meaning). m.names sc) (is-concat p xs is) ∙ concatenation-names (map meaning xs) sc))

pub sign-added : (p : VPrim) (s : Bool) (x : VExpr) (old new : List ℕ) (sc : M.Scope) → p ≡ P.Sign s x → new ≡ old ++ (meaning x).names sc → new ≡ old ++ (prim_meaning p).names sc
sign-added p s x old new sc is e = added old new _ _ e (one-more ((meaning x).names sc) ∙ sym (ap (λ (m : Meaning). m.names sc) (is-sign p s x is) ∙ signing-names s (meaning x) sc))

pub ruleset operands = (number-added, paren-added, name-added, call-added, repeat-added, concat-added, sign-added)

-- expressions
pub prim-added : (e : VExpr) (a : VPrim) (old new : List ℕ) (sc : M.Scope) → e ≡ X.Prim a → new ≡ old ++ (prim_meaning a).names sc → new ≡ old ++ (meaning e).names sc
prim-added e a old new sc is h = added old new _ _ h (sym (ap (λ (m : Meaning). m.names sc) (is-prim e a is)))

pub unary-added : (e : VExpr) (op : VUnaryOp) (a : VPrim) (old new : List ℕ) (sc : M.Scope) → e ≡ X.Unary op a → new ≡ old ++ (prim_meaning a).names sc → new ≡ old ++ (meaning e).names sc
unary-added e op a old new sc is h =
    added old new _ _ h (one-more ((prim_meaning a).names sc) ∙ sym (ap (λ (m : Meaning). m.names sc) (is-unary e op a is) ∙ unary-names op (prim_meaning a) sc))

pub binary-added : (e : VExpr) (op : VBinaryOp) (a b : VPrim) (old mid new : List ℕ) (sc : M.Scope) → e ≡ X.Binary op a b → mid ≡ old ++ (prim_meaning a).names sc → new ≡ mid ++ (prim_meaning b).names sc
    → new ≡ old ++ (meaning e).names sc
binary-added e op a b old mid new sc is h g =
    let x = (prim_meaning a).names sc in
    let y = (prim_meaning b).names sc in
    g ∙ ap (λ l. l ++ y) h ∙ append_assoc old x y ∙ ap (λ l. old ++ (x ++ l)) (one-more y)
    ∙ ap (λ l. old ++ l) (sym (ap (λ (m : Meaning). m.names sc) (is-binary e op a b is) ∙ binary-names op (prim_meaning a) (prim_meaning b) sc))

pub choose-added : (e : VExpr) (on a b : VPrim) (old first mid new : List ℕ) (sc : M.Scope) → e ≡ X.Choose on a b → first ≡ old ++ (prim_meaning on).names sc → mid ≡ first ++ (prim_meaning a).names sc
    → new ≡ mid ++ (prim_meaning b).names sc → new ≡ old ++ (meaning e).names sc
choose-added e on a b old first mid new sc is f h g =
    let o = (prim_meaning on).names sc in
    let x = (prim_meaning a).names sc in
    let y = (prim_meaning b).names sc in
    g ∙ ap (λ l. l ++ y) (h ∙ ap (λ l. l ++ x) f) ∙ append_assoc (old ++ o) x y ∙ append_assoc old o (x ++ y) ∙ ap (λ l. old ++ (o ++ (x ++ l))) (one-more y)
    ∙ ap (λ l. old ++ l) (sym (ap (λ (m : Meaning). m.names sc) (is-choose e on a b is) ∙ choose-names (prim_meaning on) (prim_meaning a) (prim_meaning b) sc))

pub ruleset expressions = (prim-added, unary-added, binary-added, choose-added)
