-- What each form of an expression gives, by what its parts give.
use Rattle.std.proofs.Common.{◌≡◌, ℕ, zero, suc, Bool, true, false, List, [], ◌∷◌, length, map, Option, Some, None, refl, ap, sym, ◌∙◌}
use Rattle.b4_core.specs.declared.bit.Bit4.{Bit4}
use Rattle.b4_core.specs.declared.bit.Bit4.TheVariants.{Zero, One, X, Z}
use Rattle.b4_core.specs.Bits.{merge4}
use Rattle.b4_core.specs.Vectors.{ext}
use Rattle.b4_core.specs.Bitwise.{truth_of}
use Rattle.row_machine.specs.Valuation.{Valuation}
use Rattle.sv_types.proofs.OperatorLengths.{length-ext, length-unary, length-binary, length-shift, length-power, length-bitwise}
use Rattle.v_tree.specs.Names.{Name}
use Rattle.v_tree.specs.declared.expressions.VExpr.{VExpr}
use Rattle.v_tree.specs.declared.expressions.VExpr.TheVariants as E
use Rattle.v_tree.specs.declared.expressions.VPrim.{VPrim}
use Rattle.v_tree.specs.declared.expressions.VPrim.TheVariants as O
use Rattle.v_tree.specs.declared.operators.VBinaryOp.{VBinaryOp}
use Rattle.v_tree.specs.declared.operators.VUnaryOp.{VUnaryOp}
use Rattle.v_tree.specs.declared.items.VFunction.{VFunction}
use Rattle.v_tree.specs.declared.items.VLocal.{VLocal}
use Rattle.v_meaning.specs.Scopes.{Scope, Named, Callee, bits_of_range}
use Rattle.v_meaning.specs.Statements.{declared}
use Rattle.v_meaning.specs.Functions.{find, callee_or_absent}
use Rattle.v_meaning.specs.Modules.{functions as functions_in}
use Rattle.v_meaning.specs.Values as V
use Rattle.v_meaning.specs.Values.{Meaning, meaning, sel_meaning, unary_meaning, binary_meaning, literal, call, concatenation, repetition, signing, choose, chosen, joined, often, arguments}
use Rattle.v_eval.specs.declared.operators.Context.{Context}
use Rattle.v_eval.specs.declared.operators.Prefix.{Prefix}
use Rattle.v_eval.specs.declared.operators.Prefix.TheVariants as P
use Rattle.v_eval.specs.declared.operators.Infix.{Infix}
use Rattle.v_eval.specs.declared.operators.Infix.TheVariants as I
use Rattle.v_eval.specs.Operators.{prefix_of, infix_of, prefix_meaning, infix_meaning, prefix_context, prefix_value, left_context, right_context, infix_value, Alike}
use Rattle.v_eval.specs.declared.scopes.Scope as C
use Rattle.v_eval.specs.Functions.{function_at, inputs_in}
use Rattle.v_eval.specs.Scopes.{prim_meaning, own, scope_of, signals_of, callee_within, callee_at}
use Rattle.v_eval.proofs.Calls.{called}
use Rattle.v_eval.proofs.OperatorKinds.{prefix-is, infix-is}
use Rattle.v_eval.proofs.Levels.{is-unary, is-binary, is-choose, is-number, is-call, is-repeat, is-concat, is-sign}

-- at a context
abbrev pub at : Meaning → Context → Scope → Valuation → List Bit4
at m c sc v = m.value c.width c.signed sc v

-- an operand as it is valued in a context that hangs on what it is alone
pub valued-at : (r : List Bit4) (m : Meaning) (c d : Context) (sc : Scope) (v : Valuation) → r ≡ at m c sc v → c ≡ d → r ≡ at m d sc v
valued-at r m c d sc v is same = is ∙ ap (λ x. at m x sc v) same

-- what is as long as its context
pub long-prefix : (k : Prefix) (c o : Context) (a : List Bit4) → length a ≡ (prefix_context k c o).width → length (prefix_value k c a) ≡ c.width
long-prefix (P.Vector op) c o a h = length-unary op a ∙ h
long-prefix (P.Reduction op) c o a h = length-ext c.width c.signed _
long-prefix P.Negation c o a h = length-ext c.width c.signed _

pub long-infix : (k : Infix) (c l r : Context) (a b : List Bit4) → length a ≡ (left_context k c l r).width → length b ≡ (right_context k c l r).width → length (infix_value k c l r a b) ≡ c.width
long-infix (I.Vector op) c l r a b h g = length-binary op c.signed a b c.width h g
long-infix (I.Shift op) c l r a b h g = length-shift op c.signed a b ∙ h
long-infix I.Power c l r a b h g = length-power c.signed r.signed a b ∙ h
long-infix (I.Order op) c l r a b h g = length-ext c.width c.signed _
long-infix (I.Equality op negated) c l r a b h g = length-ext c.width c.signed _
long-infix I.Both c l r a b h g = length-ext c.width c.signed _
long-infix I.Either c l r a b h g = length-ext c.width c.signed _

pub alike : (k : Infix) (c l r : Context) (m n : ℕ) → m ≡ (left_context k c l r).width → n ≡ (right_context k c l r).width → Alike k m n
alike (I.Vector op) c l r m n h g = h ∙ sym g
alike (I.Shift op) c l r m n h g = tt
alike I.Power c l r m n h g = tt
alike (I.Order op) c l r m n h g = h ∙ sym g
alike (I.Equality op negated) c l r m n h g = h ∙ sym g
alike I.Both c l r m n h g = tt
alike I.Either c l r m n h g = tt

pub long-chosen : (on : Bit4) (a b : List Bit4) (w : ℕ) → length a ≡ w → length b ≡ w → length (chosen on a b) ≡ w
long-chosen Zero a b w h g = g
long-chosen One a b w h g = h
long-chosen X a b w h g = length-bitwise merge4 a b w h g
long-chosen Z a b w h g = length-bitwise merge4 a b w h g

pub long-ext : (r : List Bit4) (w : ℕ) (s : Bool) (u : List Bit4) → r ≡ ext w s u → length r ≡ w
long-ext r w s u is = ap length is ∙ length-ext w s u

-- operators
kind-prefix : (k : Prefix) (m : Meaning) (c : Context) (sc : Scope) (v : Valuation) → prefix_value k c (at m (prefix_context k c (own m sc)) sc v) ≡ at (prefix_meaning k m) c sc v
unfolding V.unary V.reduce V.negate
kind-prefix (P.Vector op) m c sc v = refl
kind-prefix (P.Reduction op) m c sc v = refl
kind-prefix P.Negation m c sc v = refl

pub unary-valued : (r a : List Bit4) (k : Prefix) (c d o : Context) (e : VExpr) (op : VUnaryOp) (x : VPrim) (sc : Scope) (v : Valuation) → e ≡ E.Unary op x → k ≡ prefix_of op → o ≡ own (prim_meaning x) sc → d ≡ prefix_context k c o
    → a ≡ at (prim_meaning x) d sc v → r ≡ prefix_value k c a → r ≡ at (meaning e) c sc v
unary-valued r a k c d o e op x sc v is kind of ctx inner outer =
    outer ∙ ap (prefix_value k c) (inner ∙ ap (λ y. at (prim_meaning x) y sc v) (ctx ∙ ap (prefix_context k c) of)) ∙ kind-prefix k (prim_meaning x) c sc v
    ∙ ap (λ j. at (prefix_meaning j (prim_meaning x)) c sc v) kind ∙ ap (λ (f : Meaning → Meaning). at (f (prim_meaning x)) c sc v) (prefix-is op)
    ∙ sym (ap (λ m. at m c sc v) (is-unary e op x is))

kind-infix : (k : Infix) (l r : Meaning) (c : Context) (sc : Scope) (v : Valuation)
    → infix_value k c (own l sc) (own r sc) (at l (left_context k c (own l sc) (own r sc)) sc v) (at r (right_context k c (own l sc) (own r sc)) sc v) ≡ at (infix_meaning k l r) c sc v
unfolding V.binary V.shift V.power V.order V.equal V.unequal V.both V.either
kind-infix (I.Vector op) l r c sc v = refl
kind-infix (I.Shift op) l r c sc v = refl
kind-infix I.Power l r c sc v = refl
kind-infix (I.Order op) l r c sc v = refl
kind-infix (I.Equality op true) l r c sc v = refl
kind-infix (I.Equality op false) l r c sc v = refl
kind-infix I.Both l r c sc v = refl
kind-infix I.Either l r c sc v = refl

pub binary-valued : (u a b : List Bit4) (k : Infix) (c l r m n : Context) (e : VExpr) (op : VBinaryOp) (x y : VPrim) (sc : Scope) (v : Valuation) → e ≡ E.Binary op x y → k ≡ infix_of op → l ≡ own (prim_meaning x) sc → r ≡ own (prim_meaning y) sc
    → m ≡ left_context k c l r → n ≡ right_context k c l r → a ≡ at (prim_meaning x) m sc v → b ≡ at (prim_meaning y) n sc v → u ≡ infix_value k c l r a b → u ≡ at (meaning e) c sc v
binary-valued u a b k c l r m n e op x y sc v is kind left right lc rc f g outer =
    let L = own (prim_meaning x) sc in
    let R = own (prim_meaning y) sc in
    let lcs : m ≡ left_context k c L R = lc ∙ ap (λ z. left_context k c z r) left ∙ ap (left_context k c L) right in
    let rcs : n ≡ right_context k c L R = rc ∙ ap (λ z. right_context k c z r) left ∙ ap (right_context k c L) right in
    outer ∙ ap (λ z. infix_value k c z r a b) left ∙ ap (λ z. infix_value k c L z a b) right
    ∙ ap (λ z. infix_value k c L R z b) (f ∙ ap (λ z. at (prim_meaning x) z sc v) lcs)
    ∙ ap (λ z. infix_value k c L R (at (prim_meaning x) (left_context k c L R) sc v) z) (g ∙ ap (λ z. at (prim_meaning y) z sc v) rcs)
    ∙ kind-infix k (prim_meaning x) (prim_meaning y) c sc v
    ∙ ap (λ j. at (infix_meaning j (prim_meaning x) (prim_meaning y)) c sc v) kind
    ∙ ap (λ (h : Meaning → Meaning → Meaning). at (h (prim_meaning x) (prim_meaning y)) c sc v) (infix-is op)
    ∙ sym (ap (λ z. at z c sc v) (is-binary e op x y is))

choose-means : (on a b : Meaning) (c : Context) (sc : Scope) (v : Valuation) → chosen (truth_of (at on (own on sc) sc v)) (at a c sc v) (at b c sc v) ≡ at (choose on a b) c sc v
unfolding choose
choose-means on a b c sc v = refl

pub choose-valued : (u a b t : List Bit4) (test : Bit4) (c o : Context) (e : VExpr) (x y z : VPrim) (sc : Scope) (v : Valuation) → e ≡ E.Choose x y z → o ≡ own (prim_meaning x) sc → t ≡ at (prim_meaning x) o sc v → test ≡ truth_of t
    → a ≡ at (prim_meaning y) c sc v → b ≡ at (prim_meaning z) c sc v → u ≡ chosen test a b → u ≡ at (meaning e) c sc v
choose-valued u a b t test c o e x y z sc v is of on truth f g outer =
    let T = truth_of (at (prim_meaning x) (own (prim_meaning x) sc) sc v) in
    outer ∙ ap (λ q. chosen q a b) (truth ∙ ap truth_of (on ∙ ap (λ q. at (prim_meaning x) q sc v) of))
    ∙ ap (λ q. chosen T q b) f ∙ ap (λ q. chosen T (at (prim_meaning y) c sc v) q) g
    ∙ choose-means (prim_meaning x) (prim_meaning y) (prim_meaning z) c sc v ∙ sym (ap (λ m. at m c sc v) (is-choose e x y z is))

-- operands
number-means : (bits : List Bit4) (c : Context) (sc : Scope) (v : Valuation) → ext c.width c.signed bits ≡ at (literal bits) c sc v
unfolding literal
number-means bits c sc v = refl

pub number-valued : (r : List Bit4) (p : VPrim) (bits : List Bit4) (c : Context) (sc : Scope) (v : Valuation) → p ≡ O.Number bits → r ≡ ext c.width c.signed bits → r ≡ at (prim_meaning p) c sc v
number-valued r p bits c sc v is outer = outer ∙ number-means bits c sc v ∙ sym (ap (λ m. at m c sc v) (is-number p bits is))

concat-means : (ms : List Meaning) (c : Context) (sc : Scope) (v : Valuation) → ext c.width c.signed (joined ms sc v) ≡ at (concatenation ms) c sc v
unfolding concatenation
concat-means ms c sc v = refl

pub concat-valued : (r u : List Bit4) (p : VPrim) (xs : List VExpr) (c : Context) (sc : Scope) (v : Valuation) → p ≡ O.Concat xs → u ≡ joined (map meaning xs) sc v → r ≡ ext c.width c.signed u → r ≡ at (prim_meaning p) c sc v
concat-valued r u p xs c sc v is inner outer =
    outer ∙ ap (ext c.width c.signed) inner ∙ concat-means (map meaning xs) c sc v ∙ sym (ap (λ m. at m c sc v) (is-concat p xs is))

repeat-means : (count : ℕ) (ms : List Meaning) (c : Context) (sc : Scope) (v : Valuation) → ext c.width c.signed (often count (joined ms sc v)) ≡ at (repetition count ms) c sc v
unfolding repetition
repeat-means count ms c sc v = refl

pub repeat-valued : (r t u : List Bit4) (p : VPrim) (count : ℕ) (xs : List VExpr) (c : Context) (sc : Scope) (v : Valuation) → p ≡ O.Repeat count xs → u ≡ joined (map meaning xs) sc v → t ≡ often count u → r ≡ ext c.width c.signed t
    → r ≡ at (prim_meaning p) c sc v
repeat-valued r t u p count xs c sc v is inner all outer =
    outer ∙ ap (ext c.width c.signed) (all ∙ ap (often count) inner) ∙ repeat-means count (map meaning xs) c sc v ∙ sym (ap (λ m. at m c sc v) (is-repeat p count xs is))

sign-means : (s : Bool) (m : Meaning) (c : Context) (sc : Scope) (v : Valuation) → ext c.width c.signed (at m (own m sc) sc v) ≡ at (signing s m) c sc v
unfolding signing
sign-means s m c sc v = refl

pub sign-valued : (r u : List Bit4) (p : VPrim) (s : Bool) (x : VExpr) (c o : Context) (sc : Scope) (v : Valuation) → p ≡ O.Sign s x → o ≡ own (meaning x) sc → u ≡ at (meaning x) o sc v → r ≡ ext c.width c.signed u → r ≡ at (prim_meaning p) c sc v
sign-valued r u p s x c o sc v is of inner outer =
    outer ∙ ap (ext c.width c.signed) (inner ∙ ap (λ q. at (meaning x) q sc v) of) ∙ sign-means s (meaning x) c sc v ∙ sym (ap (λ m. at m c sc v) (is-sign p s x is))

call-means : (n : Name) (ms : List Meaning) (c : Context) (sc : Scope) (v : Valuation) → ext c.width c.signed ((sc.callee n).run v (arguments (sc.callee n).inputs ms sc v)) ≡ at (call n ms) c sc v
unfolding call
call-means n ms c sc v = refl

-- a call of a function that is there
pub call-valued : (r u : List Bit4) (vs : List (List Bit4)) (p : VPrim) (name : Name) (xs : List VExpr) (o : Option ℕ) (c : Context) (s : C.Scope) (v : Valuation) → p ≡ O.Call name xs
    → function_at s.module.now.items.now o ≡ find (functions_in s.module.now.items.now) name
    → vs ≡ arguments (callee_at s o).inputs (map meaning xs) (scope_of s) v → u ≡ (callee_at s o).run v vs → r ≡ ext c.width c.signed u → r ≡ at (prim_meaning p) c (scope_of s) v
call-valued r u vs p name xs o c s v is found args inner outer =
    outer ∙ ap (ext c.width c.signed) (inner ∙ ap (λ ws. (callee_at s o).run v ws) args ∙ ap (λ (f : Callee). f.run v (arguments f.inputs (map meaning xs) (scope_of s) v)) (called s name o found))
    ∙ call-means name (map meaning xs) c (scope_of s) v ∙ sym (ap (λ m. at m c (scope_of s) v) (is-call p name xs is))

-- a call of no function
pub call-of-none : (r u : List Bit4) (p : VPrim) (name : Name) (xs : List VExpr) (c : Context) (s : C.Scope) (v : Valuation) → p ≡ O.Call name xs
    → function_at s.module.now.items.now None ≡ find (functions_in s.module.now.items.now) name → u ≡ [] → r ≡ ext c.width c.signed u → r ≡ at (prim_meaning p) c (scope_of s) v
call-of-none r u p name xs c s v is found none outer =
    outer ∙ ap (ext c.width c.signed) (none ∙ ap (λ (f : Callee). f.run v (arguments f.inputs (map meaning xs) (scope_of s) v)) (called s name None found))
    ∙ call-means name (map meaning xs) c (scope_of s) v ∙ sym (ap (λ m. at m c (scope_of s) v) (is-call p name xs is))

-- the inputs of a function
declared-widths : (k : ℕ) (ls : List VLocal) → map (λ (n : Named). n.width) (declared k ls) ≡ map (λ (l : VLocal). bits_of_range l.range) ls
declared-widths k [] = refl
declared-widths k (l ∷ ls) = ap (λ ws. bits_of_range l.range ∷ ws) (declared-widths (suc k) ls)

inputs-within : (d : ℕ) (names : List Named) (fs : List VFunction) (f : VFunction) → (callee_within d names fs f).inputs ≡ map (λ (l : VLocal). bits_of_range l.range) f.inputs
inputs-within zero names fs f = declared-widths 1 f.inputs
inputs-within (suc d) names fs f = declared-widths 1 f.inputs

inputs-by : (d : ℕ) (names : List Named) (fs : List VFunction) (f : Option VFunction) → (callee_or_absent (callee_within d names fs) f).inputs ≡ map (λ (l : VLocal). bits_of_range l.range) (inputs_in f)
inputs-by d names fs None = refl
inputs-by d names fs (Some f) = inputs-within d names fs f

pub inputs-are : (s : C.Scope) (o : Option ℕ) → (callee_at s o).inputs ≡ map (λ (l : VLocal). bits_of_range l.range) (inputs_in (function_at s.module.now.items.now o))
inputs-are s o = inputs-by s.depth (signals_of s) (functions_in s.module.now.items.now) (function_at s.module.now.items.now o)
