-- What expressions of each form are alone.
use Rattle.std.proofs.Common.{◌≡◌, ℕ, ◌*◌, Bool, false, List, length, map, Option, refl, ap, sym, ◌∙◌}
use Rattle.b4_core.specs.declared.bit.Bit4.{Bit4}
use Rattle.v_tree.specs.Names.{Name}
use Rattle.v_tree.specs.declared.expressions.VExpr.{VExpr}
use Rattle.v_tree.specs.declared.expressions.VExpr.TheVariants as E
use Rattle.v_tree.specs.declared.expressions.VPrim.{VPrim}
use Rattle.v_tree.specs.declared.expressions.VPrim.TheVariants as O
use Rattle.v_tree.specs.declared.expressions.VSel.{VSel}
use Rattle.v_tree.specs.declared.operators.VBinaryOp.{VBinaryOp}
use Rattle.v_tree.specs.declared.operators.VUnaryOp.{VUnaryOp}
use Rattle.v_expr_rules.proofs.Levels as L
use Rattle.v_meaning.specs.Scopes as S
use Rattle.v_meaning.specs.Selects.{SelMeaning}
use Rattle.v_meaning.specs.Values.{Meaning, meaning, sel_meaning, expr_step, prim_step, sel_step, unary_meaning, binary_meaning, literal, reference, call, concatenation, repetition, signing, choose, joined_width, width_of}
use Rattle.v_meaning.specs.Functions.{find}
use Rattle.v_meaning.specs.Modules.{functions as functions_in}
use Rattle.v_eval.specs.declared.operators.Context.{Context}
use Rattle.v_eval.specs.declared.operators.Prefix.{Prefix}
use Rattle.v_eval.specs.declared.operators.Infix.{Infix}
use Rattle.v_eval.specs.declared.paths.Named.{Named}
use Rattle.v_eval.specs.declared.scopes.Scope.{Scope}
use Rattle.v_eval.specs.Functions.{function_at}
use Rattle.v_eval.specs.Limits.{Limits, SelLimits, limits_of_prim, limits_of_sel, expr_limits, prim_limits, sel_limits}
use Rattle.v_eval.specs.Names.{nameless, names_of}
use Rattle.v_eval.specs.Operators.{prefix_of, infix_of, prefix_own, infix_own, larger}
use Rattle.v_eval.specs.Paths.{named_or_not, selecting}
use Rattle.v_eval.specs.Scopes.{prim_meaning, scope_of, callee_at, own}
use Rattle.v_eval.proofs.Calls.{called}
use Rattle.v_eval.proofs.OperatorKinds.{unary-own, binary-own}

-- forms
pub is-prim : (e : VExpr) (a : VPrim) → e ≡ E.Prim a → meaning e ≡ prim_meaning a
is-prim e a is = ap meaning is ∙ L.at-prim expr_step prim_step sel_step a

pub is-unary : (e : VExpr) (op : VUnaryOp) (a : VPrim) → e ≡ E.Unary op a → meaning e ≡ unary_meaning op (prim_meaning a)
is-unary e op a is = ap meaning is ∙ L.at-unary expr_step prim_step sel_step op a

pub is-binary : (e : VExpr) (op : VBinaryOp) (a b : VPrim) → e ≡ E.Binary op a b → meaning e ≡ binary_meaning op (prim_meaning a) (prim_meaning b)
is-binary e op a b is = ap meaning is ∙ L.at-binary expr_step prim_step sel_step op a b

pub is-choose : (e : VExpr) (on a b : VPrim) → e ≡ E.Choose on a b → meaning e ≡ choose (prim_meaning on) (prim_meaning a) (prim_meaning b)
is-choose e on a b is = ap meaning is ∙ L.at-choose expr_step prim_step sel_step on a b

pub is-number : (p : VPrim) (bits : List Bit4) → p ≡ O.Number bits → prim_meaning p ≡ literal bits
is-number p bits is = ap prim_meaning is ∙ L.at-number expr_step prim_step sel_step bits

pub is-paren : (p : VPrim) (x : VExpr) → p ≡ O.Paren x → prim_meaning p ≡ meaning x
is-paren p x is = ap prim_meaning is ∙ L.at-paren expr_step prim_step sel_step x

pub is-name : (p : VPrim) (n : Name) (ss : List VSel) → p ≡ O.Name n ss → prim_meaning p ≡ reference n (map sel_meaning ss)
is-name p n ss is = ap prim_meaning is ∙ L.at-name expr_step prim_step sel_step n ss

pub is-call : (p : VPrim) (n : Name) (xs : List VExpr) → p ≡ O.Call n xs → prim_meaning p ≡ call n (map meaning xs)
is-call p n xs is = ap prim_meaning is ∙ L.at-call expr_step prim_step sel_step n xs

pub is-repeat : (p : VPrim) (count : ℕ) (xs : List VExpr) → p ≡ O.Repeat count xs → prim_meaning p ≡ repetition count (map meaning xs)
is-repeat p count xs is = ap prim_meaning is ∙ L.at-repeat expr_step prim_step sel_step count xs

pub is-concat : (p : VPrim) (xs : List VExpr) → p ≡ O.Concat xs → prim_meaning p ≡ concatenation (map meaning xs)
is-concat p xs is = ap prim_meaning is ∙ L.at-concat expr_step prim_step sel_step xs

pub is-sign : (p : VPrim) (s : Bool) (x : VExpr) → p ≡ O.Sign s x → prim_meaning p ≡ signing s (meaning x)
is-sign p s x is = ap prim_meaning is ∙ L.at-sign expr_step prim_step sel_step s x

-- what they are alone
abbrev unsigned : ℕ → Context
unsigned n = record { width = n; signed = false }

literal-own : (bits : List Bit4) (sc : S.Scope) → unsigned (length bits) ≡ own (literal bits) sc
unfolding literal
literal-own bits sc = refl

pub own-number : (c : Context) (p : VPrim) (bits : List Bit4) (n : ℕ) (sc : S.Scope) → p ≡ O.Number bits → c ≡ unsigned n → n ≡ length bits → c ≡ own (prim_meaning p) sc
own-number c p bits n sc is of w = of ∙ ap unsigned w ∙ literal-own bits sc ∙ sym (ap (λ m. own m sc) (is-number p bits is))

reference-own : (n : Name) (ss : List SelMeaning) (sc : S.Scope) → unsigned (width_of (nameless (S.named sc.names n)) ss) ≡ own (reference n ss) sc
unfolding reference
reference-own n ss sc = refl

pub own-name : (c : Context) (p : VPrim) (name : Name) (ss : List VSel) (n : ℕ) (o : Option Named) (s : Scope) → p ≡ O.Name name ss → c ≡ unsigned n → n ≡ width_of (named_or_not o) (map sel_meaning ss)
    → named_or_not o ≡ nameless (S.named (names_of s) name) → c ≡ own (prim_meaning p) (scope_of s)
own-name c p name ss n o s is of w found =
    of ∙ ap unsigned (w ∙ ap (λ x. width_of x (map sel_meaning ss)) found) ∙ reference-own name (map sel_meaning ss) (scope_of s)
    ∙ sym (ap (λ m. own m (scope_of s)) (is-name p name ss is))

pub limits-name : (c : Context) (p : VPrim) (name : Name) (ss : List VSel) (n : ℕ) (o : Option Named) (s : Scope) → p ≡ O.Name name ss → c ≡ unsigned n
    → n ≡ width_of (named_or_not o) (map (λ (x : SelLimits). selecting x.decimal x.extent) (map limits_of_sel ss))
    → named_or_not o ≡ nameless (S.named (names_of s) name) → c.width ≡ (limits_of_prim p).wide (scope_of s)
limits-name c p name ss n o s is of w found =
    let sels = map (λ (x : SelLimits). selecting x.decimal x.extent) (map limits_of_sel ss) in
    ap (λ (x : Context). x.width) of ∙ w ∙ ap (λ x. width_of x sels) found
    ∙ sym (ap (λ (l : Limits). l.wide (scope_of s)) (ap limits_of_prim is ∙ L.at-name expr_limits prim_limits sel_limits name ss))

call-own : (n : Name) (ms : List Meaning) (sc : S.Scope) → unsigned (sc.callee n).width ≡ own (call n ms) sc
unfolding call
call-own n ms sc = refl

pub own-call : (c : Context) (p : VPrim) (name : Name) (xs : List VExpr) (n : ℕ) (o : Option ℕ) (s : Scope) → p ≡ O.Call name xs → c ≡ unsigned n → n ≡ (callee_at s o).width
    → function_at s.module.now.items.now o ≡ find (functions_in s.module.now.items.now) name → c ≡ own (prim_meaning p) (scope_of s)
own-call c p name xs n o s is of w found =
    of ∙ ap unsigned (w ∙ ap (λ (x : S.Callee). x.width) (called s name o found)) ∙ call-own name (map meaning xs) (scope_of s)
    ∙ sym (ap (λ m. own m (scope_of s)) (is-call p name xs is))

pub limits-call : (c : Context) (p : VPrim) (name : Name) (xs : List VExpr) (n : ℕ) (o : Option ℕ) (s : Scope) → p ≡ O.Call name xs → c ≡ unsigned n → n ≡ (callee_at s o).width
    → function_at s.module.now.items.now o ≡ find (functions_in s.module.now.items.now) name → c.width ≡ (limits_of_prim p).wide (scope_of s)
limits-call c p name xs n o s is of w found =
    ap (λ (x : Context). x.width) of ∙ w ∙ ap (λ (x : S.Callee). x.width) (called s name o found)
    ∙ sym (ap (λ (l : Limits). l.wide (scope_of s)) (ap limits_of_prim is ∙ L.at-call expr_limits prim_limits sel_limits name xs))

concat-own : (ms : List Meaning) (sc : S.Scope) → unsigned (joined_width ms sc) ≡ own (concatenation ms) sc
unfolding concatenation
concat-own ms sc = refl

pub own-concat : (c : Context) (p : VPrim) (xs : List VExpr) (n : ℕ) (sc : S.Scope) → p ≡ O.Concat xs → c ≡ unsigned n → n ≡ joined_width (map meaning xs) sc → c ≡ own (prim_meaning p) sc
own-concat c p xs n sc is of w = of ∙ ap unsigned w ∙ concat-own (map meaning xs) sc ∙ sym (ap (λ m. own m sc) (is-concat p xs is))

repeat-own : (count : ℕ) (ms : List Meaning) (sc : S.Scope) → unsigned (count * joined_width ms sc) ≡ own (repetition count ms) sc
unfolding repetition
repeat-own count ms sc = refl

pub own-repeat : (c : Context) (p : VPrim) (count : ℕ) (xs : List VExpr) (n k : ℕ) (sc : S.Scope) → p ≡ O.Repeat count xs → c ≡ unsigned n → n ≡ count * k → k ≡ joined_width (map meaning xs) sc → c ≡ own (prim_meaning p) sc
own-repeat c p count xs n k sc is of w j =
    of ∙ ap unsigned (w ∙ ap (λ i. count * i) j) ∙ repeat-own count (map meaning xs) sc ∙ sym (ap (λ m. own m sc) (is-repeat p count xs is))

sign-own : (s : Bool) (m : Meaning) (sc : S.Scope) → record { width = m.width sc; signed = s } ≡ own (signing s m) sc
unfolding signing
sign-own s m sc = refl

pub own-sign : (d : Context) (p : VPrim) (s : Bool) (x : VExpr) (sc : S.Scope) → p ≡ O.Sign s x → d ≡ own (meaning x) sc → ◌≡◌ {A = Context} (record { width = d.width; signed = s }) (own (prim_meaning p) sc)
own-sign d p s x sc is of =
    ap (λ (y : Context). record { width = y.width; signed = s }) of ∙ sign-own s (meaning x) sc ∙ sym (ap (λ m. own m sc) (is-sign p s x is))

pub own-unary : (c d : Context) (k : Prefix) (e : VExpr) (op : VUnaryOp) (a : VPrim) (sc : S.Scope) → e ≡ E.Unary op a → c ≡ prefix_own k d → k ≡ prefix_of op → d ≡ own (prim_meaning a) sc → c ≡ own (meaning e) sc
own-unary c d k e op a sc is of kind inner =
    unary-own c d op (prim_meaning a) sc (of ∙ ap (λ j. prefix_own j d) kind) inner ∙ sym (ap (λ m. own m sc) (is-unary e op a is))

pub own-binary : (c l r : Context) (k : Infix) (e : VExpr) (op : VBinaryOp) (a b : VPrim) (sc : S.Scope) → e ≡ E.Binary op a b → c ≡ infix_own k l r → k ≡ infix_of op → l ≡ own (prim_meaning a) sc → r ≡ own (prim_meaning b) sc
    → c ≡ own (meaning e) sc
own-binary c l r k e op a b sc is of kind left right =
    binary-own c l r op (prim_meaning a) (prim_meaning b) sc (of ∙ ap (λ j. infix_own j l r) kind) left right ∙ sym (ap (λ m. own m sc) (is-binary e op a b is))

choose-own : (on a b : Meaning) (sc : S.Scope) → larger (own a sc) (own b sc) ≡ own (choose on a b) sc
unfolding choose
choose-own on a b sc = refl

pub own-choose : (c l r : Context) (e : VExpr) (on a b : VPrim) (sc : S.Scope) → e ≡ E.Choose on a b → c ≡ larger l r → l ≡ own (prim_meaning a) sc → r ≡ own (prim_meaning b) sc → c ≡ own (meaning e) sc
own-choose c l r e on a b sc is of left right =
    of ∙ ap (λ x. larger x r) left ∙ ap (larger (own (prim_meaning a) sc)) right ∙ choose-own (prim_meaning on) (prim_meaning a) (prim_meaning b) sc
    ∙ sym (ap (λ m. own m sc) (is-choose e on a b is))

pub ruleset owns = (own-number, own-name, limits-name, own-call, limits-call, own-concat, own-repeat, own-sign, own-unary, own-binary, own-choose)
