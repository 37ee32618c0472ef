-- What each form of an expression reads.
use Rattle.std.proofs.Common.{◌≡◌, ℕ, Bool, List, [], ◌∷◌, ◌++◌, map, Option, refl, sym, ap, ◌∙◌}
use Rattle.b4_core.specs.declared.bit.Bit4.{Bit4}
use Rattle.b4_core.specs.declared.operators.UnOp.{UnOp}
use Rattle.b4_core.specs.declared.operators.BinOp.{BinOp}
use Rattle.b4_core.specs.declared.operators.RedOp.{RedOp}
use Rattle.b4_core.specs.declared.operators.ShiftOp.{ShiftOp}
use Rattle.b4_core.specs.declared.operators.OrdOp.{OrdOp}
use Rattle.b4_core.specs.declared.operators.EqOp.{EqOp}
use Rattle.b4_core.specs.declared.operators.UnOp.TheVariants as U
use Rattle.b4_core.specs.declared.operators.BinOp.TheVariants as B
use Rattle.b4_core.specs.declared.operators.RedOp.TheVariants as R
use Rattle.b4_core.specs.declared.operators.ShiftOp.TheVariants as S
use Rattle.b4_core.specs.declared.operators.OrdOp.TheVariants as O
use Rattle.b4_core.specs.declared.operators.EqOp.TheVariants as E
use Rattle.v_tree.specs.Names.{Name}
use Rattle.v_tree.specs.declared.expressions.VExpr.{VExpr}
use Rattle.v_tree.specs.declared.expressions.VExpr.TheVariants as X
use Rattle.v_tree.specs.declared.expressions.VExtent.{VExtent}
use Rattle.v_tree.specs.declared.expressions.VPrim.{VPrim}
use Rattle.v_tree.specs.declared.expressions.VPrim.TheVariants as P
use Rattle.v_tree.specs.declared.expressions.VSel.{VSel}
use Rattle.v_tree.specs.declared.expressions.VSel.TheVariants as Z
use Rattle.v_tree.specs.declared.operators.VBinaryOp.{VBinaryOp}
use Rattle.v_tree.specs.declared.operators.VBinaryOp.TheVariants as W
use Rattle.v_tree.specs.declared.operators.VUnaryOp.{VUnaryOp}
use Rattle.v_tree.specs.declared.operators.VUnaryOp.TheVariants as V
use Rattle.v_expr_rules.proofs.Levels as L
use Rattle.v_meaning.specs.Scopes as M
use Rattle.v_meaning.specs.Scopes.{Use}
use Rattle.v_meaning.specs.Selects.{SelMeaning}
use Rattle.v_meaning.specs.Values as T
use Rattle.v_meaning.specs.Values.{Meaning, meaning, sel_meaning, expr_step, prim_step, sel_step, all_reads, sel_reads, use_of}
use Rattle.v_meaning.specs.Functions.{find}
use Rattle.v_meaning.specs.Modules.{functions as functions_in}
use Rattle.v_eval.specs.Functions.{function_at}
use Rattle.v_eval.specs.Names.{nameless, names_of}
use Rattle.v_eval.specs.Paths.{named_or_not}
use Rattle.v_eval.specs.Scopes.{scope_of, prim_meaning, callee_at}
use Rattle.v_eval.specs.declared.paths.Named.{Named}
use Rattle.v_eval.specs.declared.scopes.Scope.{Scope}
use Rattle.v_eval.proofs.Calls.{called}
use Rattle.v_eval.proofs.Levels.{is-prim, is-unary, is-binary, is-choose, is-number, is-paren, is-name, is-call, is-repeat, is-concat, is-sign}
use Rattle.v_reads.specs.Reads.{Adds}
use Rattle.v_reads.proofs.Sets.{adds-none, adds-one, adds-then, adds-equal, unit}

-- the reads of each operation
unary-of : (op : UnOp) (m : Meaning) (sc : M.Scope) → (T.unary op m).reads sc ≡ all_reads (m ∷ []) sc
unfolding T.unary
unary-of op m sc = refl

reduce-of : (op : RedOp) (m : Meaning) (sc : M.Scope) → (T.reduce op m).reads sc ≡ all_reads (m ∷ []) sc
unfolding T.reduce
reduce-of op m sc = refl

negate-of : (m : Meaning) (sc : M.Scope) → (T.negate m).reads sc ≡ all_reads (m ∷ []) sc
unfolding T.negate
negate-of m sc = refl

pub unary-reads : (op : VUnaryOp) (m : Meaning) (sc : M.Scope) → (T.unary_meaning op m).reads sc ≡ all_reads (m ∷ []) sc
unary-reads V.Not m sc = unary-of U.Not m sc
unary-reads V.LogicalNot m sc = negate-of m sc
unary-reads V.Neg m sc = unary-of U.Neg m sc
unary-reads V.And m sc = reduce-of R.And m sc
unary-reads V.Nand m sc = reduce-of R.Nand m sc
unary-reads V.Or m sc = reduce-of R.Or m sc
unary-reads V.Nor m sc = reduce-of R.Nor m sc
unary-reads V.Xor m sc = reduce-of R.Xor m sc
unary-reads V.Xnor m sc = reduce-of R.Xnor m sc

abbrev two : Meaning → Meaning → M.Scope → List Use
two l r sc = all_reads (l ∷ r ∷ []) sc

binary-of : (op : BinOp) (l r : Meaning) (sc : M.Scope) → (T.binary op l r).reads sc ≡ two l r sc
unfolding T.binary
binary-of op l r sc = refl

shift-of : (op : ShiftOp) (l r : Meaning) (sc : M.Scope) → (T.shift op l r).reads sc ≡ two l r sc
unfolding T.shift
shift-of op l r sc = refl

power-of : (l r : Meaning) (sc : M.Scope) → (T.power l r).reads sc ≡ two l r sc
unfolding T.power
power-of l r sc = refl

order-of : (op : OrdOp) (l r : Meaning) (sc : M.Scope) → (T.order op l r).reads sc ≡ two l r sc
unfolding T.order
order-of op l r sc = refl

equal-of : (op : EqOp) (l r : Meaning) (sc : M.Scope) → (T.equal op l r).reads sc ≡ two l r sc
unfolding T.equal
equal-of op l r sc = refl

unequal-of : (op : EqOp) (l r : Meaning) (sc : M.Scope) → (T.unequal op l r).reads sc ≡ two l r sc
unfolding T.unequal
unequal-of op l r sc = refl

both-of : (l r : Meaning) (sc : M.Scope) → (T.both l r).reads sc ≡ two l r sc
unfolding T.both
both-of l r sc = refl

either-of : (l r : Meaning) (sc : M.Scope) → (T.either l r).reads sc ≡ two l r sc
unfolding T.either
either-of l r sc = refl

pub binary-reads : (op : VBinaryOp) (l r : Meaning) (sc : M.Scope) → (T.binary_meaning op l r).reads sc ≡ all_reads (l ∷ r ∷ []) sc
binary-reads W.Add l r sc = binary-of B.Add l r sc
binary-reads W.Sub l r sc = binary-of B.Sub l r sc
binary-reads W.Mul l r sc = binary-of B.Mul l r sc
binary-reads W.Div l r sc = binary-of B.Div l r sc
binary-reads W.Rem l r sc = binary-of B.Rem l r sc
binary-reads W.Power l r sc = power-of l r sc
binary-reads W.ShiftLeft l r sc = shift-of S.Left l r sc
binary-reads W.ShiftRight l r sc = shift-of S.Right l r sc
binary-reads W.ArithmeticLeft l r sc = shift-of S.Left l r sc
binary-reads W.ArithmeticRight l r sc = shift-of S.Arith l r sc
binary-reads W.Less l r sc = order-of O.Less l r sc
binary-reads W.LessEqual l r sc = order-of O.LessEqual l r sc
binary-reads W.Greater l r sc = order-of O.Greater l r sc
binary-reads W.GreaterEqual l r sc = order-of O.GreaterEqual l r sc
binary-reads W.Equal l r sc = equal-of E.Logic l r sc
binary-reads W.NotEqual l r sc = unequal-of E.Logic l r sc
binary-reads W.CaseEqual l r sc = equal-of E.Case l r sc
binary-reads W.CaseNotEqual l r sc = unequal-of E.Case l r sc
binary-reads W.And l r sc = binary-of B.And l r sc
binary-reads W.Or l r sc = binary-of B.Or l r sc
binary-reads W.Xor l r sc = binary-of B.Xor l r sc
binary-reads W.Xnor l r sc = binary-of B.Xnor l r sc
binary-reads W.LogicalAnd l r sc = both-of l r sc
binary-reads W.LogicalOr l r sc = either-of l r sc

pub choose-reads : (on a b : Meaning) (sc : M.Scope) → (T.choose on a b).reads sc ≡ all_reads (on ∷ a ∷ b ∷ []) sc
unfolding T.choose
choose-reads on a b sc = refl

pub literal-reads : (bits : List Bit4) (sc : M.Scope) → (T.literal bits).reads sc ≡ []
unfolding T.literal
literal-reads bits sc = refl

pub reference-reads : (n : Name) (ss : List SelMeaning) (sc : M.Scope) → (T.reference n ss).reads sc ≡ use_of (M.named sc.names n) ss sc ∷ sel_reads ss sc
unfolding T.reference
reference-reads n ss sc = refl

pub call-reads : (n : Name) (ms : List Meaning) (sc : M.Scope) → (T.call n ms).reads sc ≡ all_reads ms sc ++ (sc.callee n).reads
unfolding T.call
call-reads n ms sc = refl

pub repetition-reads : (count : ℕ) (ms : List Meaning) (sc : M.Scope) → (T.repetition count ms).reads sc ≡ all_reads ms sc
unfolding T.repetition
repetition-reads count ms sc = refl

pub concatenation-reads : (ms : List Meaning) (sc : M.Scope) → (T.concatenation ms).reads sc ≡ all_reads ms sc
unfolding T.concatenation
concatenation-reads ms sc = refl

pub signing-reads : (s : Bool) (m : Meaning) (sc : M.Scope) → (T.signing s m).reads sc ≡ all_reads (m ∷ []) sc
unfolding T.signing
signing-reads s m sc = refl

-- selects
pub decimal-added : (s : VSel) (base : ℕ) (extent : Option VExtent) (old : List ℕ) (sc : M.Scope) → s ≡ Z.Decimal base extent → Adds old old ((sel_meaning s).reads sc)
decimal-added s base extent old sc is = adds-none old _ (ap (λ (m : SelMeaning). m.reads sc) (ap sel_meaning is ∙ L.at-decimal expr_step prim_step sel_step base extent))

pub moving-added : (s : VSel) (x : VExpr) (extent : Option VExtent) (old new : List ℕ) (sc : M.Scope) → s ≡ Z.Expr x extent → Adds old new ((meaning x).reads sc) → Adds old new ((sel_meaning s).reads sc)
moving-added s x extent old new sc is h = adds-equal old new _ _ h (sym (ap (λ (m : SelMeaning). m.reads sc) (ap sel_meaning is ∙ L.at-moving expr_step prim_step sel_step x extent)))

pub ruleset selects = (decimal-added, moving-added)

-- operands
by : (old new : List ℕ) (us : List Use) (m n : Meaning) (sc : M.Scope) → m ≡ n → n.reads sc ≡ us → Adds old new us → Adds old new (m.reads sc)
by old new us m n sc is reads h = adds-equal old new us _ h (sym (ap (λ (x : Meaning). x.reads sc) is ∙ reads))

pub number-added : (p : VPrim) (bits : List Bit4) (old : List ℕ) (sc : M.Scope) → p ≡ P.Number bits → Adds old old ((prim_meaning p).reads sc)
number-added p bits old sc is = adds-none old _ (ap (λ (m : Meaning). m.reads sc) (is-number p bits is) ∙ literal-reads bits sc)

pub paren-added : (p : VPrim) (x : VExpr) (old new : List ℕ) (sc : M.Scope) → p ≡ P.Paren x → Adds old new ((meaning x).reads sc) → Adds old new ((prim_meaning p).reads sc)
paren-added p x old new sc is h = by old new _ _ _ sc (is-paren p x is) refl h

pub name-added : (p : VPrim) (n : Name) (ss : List VSel) (old mid new : List ℕ) (k : ℕ) (o : Option Named) (s : Scope) → p ≡ P.Name n ss → mid ≡ old ++ k ∷ [] → k ≡ (named_or_not o).number
    → named_or_not o ≡ nameless (M.named (names_of s) n) → Adds mid new (sel_reads (map sel_meaning ss) (scope_of s)) → Adds old new ((prim_meaning p).reads (scope_of s))
name-added p n ss old mid new k o s is pushed number found h =
    let u = use_of (M.named (names_of s) n) (map sel_meaning ss) (scope_of s) in
    let one = adds-one old mid k u pushed (number ∙ ap (λ (x : M.Named). x.number) found) in
    by old new (u ∷ sel_reads (map sel_meaning ss) (scope_of s)) _ _ (scope_of s) (is-name p n ss is) (reference-reads n (map sel_meaning ss) (scope_of s))
    (adds-then old mid new (u ∷ []) (sel_reads (map sel_meaning ss) (scope_of s)) one h)

pub call-added : (p : VPrim) (n : Name) (xs : List VExpr) (old mid new : List ℕ) (o : Option ℕ) (s : Scope) → p ≡ P.Call n xs → Adds old mid (all_reads (map meaning xs) (scope_of s)) → Adds mid new (callee_at s o).reads
    → function_at s.module.now.items.now o ≡ find (functions_in s.module.now.items.now) n → Adds old new ((prim_meaning p).reads (scope_of s))
call-added p n xs old mid new o s is args own found =
    let sc = scope_of s in
    let reads = all_reads (map meaning xs) sc in
    by old new (reads ++ (sc.callee n).reads) _ _ sc (is-call p n xs is) (call-reads n (map meaning xs) sc)
    (adds-then old mid new reads ((sc.callee n).reads) args (adds-equal mid new _ _ own (ap (λ (c : M.Callee). c.reads) (called s n o found))))

pub repeat-added : (p : VPrim) (count : ℕ) (xs : List VExpr) (old new : List ℕ) (sc : M.Scope) → p ≡ P.Repeat count xs → Adds old new (all_reads (map meaning xs) sc) → Adds old new ((prim_meaning p).reads sc)
repeat-added p count xs old new sc is h = by old new _ _ _ sc (is-repeat p count xs is) (repetition-reads count (map meaning xs) sc) h

pub concat-added : (p : VPrim) (xs : List VExpr) (old new : List ℕ) (sc : M.Scope) → p ≡ P.Concat xs → Adds old new (all_reads (map meaning xs) sc) → Adds old new ((prim_meaning p).reads sc)
concat-added p xs old new sc is h = by old new _ _ _ sc (is-concat p xs is) (concatenation-reads (map meaning xs) sc) h

pub sign-added : (p : VPrim) (s : Bool) (x : VExpr) (old new : List ℕ) (sc : M.Scope) → p ≡ P.Sign s x → Adds old new ((meaning x).reads sc) → Adds old new ((prim_meaning p).reads sc)
sign-added p s x old new sc is h = by old new _ _ _ sc (is-sign p s x is) (signing-reads s (meaning x) sc ∙ sym (unit ((meaning x).reads sc))) h

pub ruleset operands = (number-added, paren-added, name-added, call-added, repeat-added, concat-added, sign-added)

-- expressions
pub prim-added : (e : VExpr) (a : VPrim) (old new : List ℕ) (sc : M.Scope) → e ≡ X.Prim a → Adds old new ((prim_meaning a).reads sc) → Adds old new ((meaning e).reads sc)
prim-added e a old new sc is h = by old new _ _ _ sc (is-prim e a is) refl h

pub unary-added : (e : VExpr) (op : VUnaryOp) (a : VPrim) (old new : List ℕ) (sc : M.Scope) → e ≡ X.Unary op a → Adds old new ((prim_meaning a).reads sc) → Adds old new ((meaning e).reads sc)
unary-added e op a old new sc is h = by old new _ _ _ sc (is-unary e op a is) (unary-reads op (prim_meaning a) sc ∙ sym (unit ((prim_meaning a).reads sc))) h

pub binary-added : (e : VExpr) (op : VBinaryOp) (a b : VPrim) (old mid new : List ℕ) (sc : M.Scope) → e ≡ X.Binary op a b → Adds old mid ((prim_meaning a).reads sc) → Adds mid new ((prim_meaning b).reads sc)
    → Adds old new ((meaning e).reads sc)
binary-added e op a b old mid new sc is h g =
    let x = (prim_meaning a).reads sc in
    let y = (prim_meaning b).reads sc in
    by old new (x ++ (y ++ [])) _ _ sc (is-binary e op a b is) (binary-reads op (prim_meaning a) (prim_meaning b) sc) (adds-then old mid new x (y ++ []) h (adds-equal mid new y (y ++ []) g (unit y)))

pub choose-added : (e : VExpr) (on a b : VPrim) (old first mid new : List ℕ) (sc : M.Scope) → e ≡ X.Choose on a b → Adds old first ((prim_meaning on).reads sc) → Adds first mid ((prim_meaning a).reads sc)
    → Adds mid new ((prim_meaning b).reads sc) → Adds old new ((meaning e).reads sc)
choose-added e on a b old first mid new sc is f h g =
    let o = (prim_meaning on).reads sc in
    let x = (prim_meaning a).reads sc in
    let y = (prim_meaning b).reads sc in
    by old new (o ++ (x ++ (y ++ []))) _ _ sc (is-choose e on a b is) (choose-reads (prim_meaning on) (prim_meaning a) (prim_meaning b) sc)
    (adds-then old first new o (x ++ (y ++ [])) f (adds-then first mid new x (y ++ []) h (adds-equal mid new y (y ++ []) g (unit y))))

pub ruleset expressions = (prim-added, unary-added, binary-added, choose-added)
