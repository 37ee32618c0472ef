-- Expressions of a list one by one.
use Rattle.std.proofs.Common.{◌≡◌, ◌≤◌, ◌<◌, ◌+◌, ℕ, zero, suc, Bool, true, false, ◌&&◌, List, [], ◌∷◌, ◌++◌, length, get_or, map, drop, arith, refl, sym, ap, ◌∙◌, subst}
use Rattle.std.specs.Prelude.{Result, Ok, Err, IfOk, Vec}
use Rattle.std.specs.declared.alloc.Global.{Global}
use Rattle.std.proofs.lemmas.List.{map-id}
use Rattle.sv_tree.specs.declared.expressions.Expr.{Expr}
use Rattle.sv_types.specs.declared.expression.Expr as T
use Rattle.operand_types.specs.Allowed.{AllNarrow, IsNarrowExpr}
use Rattle.expr_type.specs.declared.halt.Halt.{Halt}
use Rattle.expr_type.specs.declared.halt.Halt.TheVariants as H
use Rattle.expr_type.specs.Names.{Context}
use Rattle.typing_calls.specs.Lists.{Follows, all_meant, as_meant, listed}
use Rattle.typing_walks.specs.Written.{is_written}
use Rattle.typing_operators.specs.Children.{AllWritten, nodes, sum}
use Rattle.typing_actions.specs.Actuals.{are_targets, as_itself, is_target}

-- one of a list
left-le : (a b n : ℕ) → n ≤ b → n ≤ a + b
left-le a b n h = omega arith

pub nodes-at : (es : List Expr) (i : ℕ) (e : Expr) → i < length es → e ≡ get_or es i e → nodes e ≤ sum (map nodes es)
nodes-at [] i e within is = absurd (omega arith)
nodes-at (x ∷ es) zero e within is =
    let same : nodes e ≡ nodes x = ap nodes is in
    omega arith
nodes-at (x ∷ es) (suc i) e within is = left-le (nodes x) (sum (map nodes es)) (nodes e) (nodes-at es i e (omega arith) is)

pub written-at : (es : List Expr) (i : ℕ) (e : Expr) → AllWritten es → i < length es → e ≡ get_or es i e → is_written e ≡ true
written-at [] i e w within is = absurd (omega arith)
written-at (x ∷ es) zero e w within is = subst (λ (y : Expr). is_written y ≡ true) (sym is) w.0
written-at (x ∷ es) (suc i) e w within is = written-at es i e w.1 (omega arith) is

both-left : (a b : Bool) → (a && b) ≡ true → a ≡ true
both-left true b h = refl
both-left false b h = h

both-right : (a b : Bool) → (a && b) ≡ true → b ≡ true
both-right true b h = h
both-right false b h = absurd (cc)

pub target-at : (k : Context) (es : List Expr) (i : ℕ) (e : Expr) → are_targets k es ≡ true → i < length es → e ≡ get_or es i e → is_target k e ≡ true
target-at k [] i e t within is = absurd (omega arith)
target-at k (x ∷ es) zero e t within is = subst (λ (y : Expr). is_target k y ≡ true) (sym is) (both-left (is_target k x) (are_targets k es) t)
target-at k (x ∷ es) (suc i) e t within is = target-at k es i e (both-right (is_target k x) (are_targets k es) t) (omega arith) is

-- those from a place on
rest-from : (k : Context) (es : List Expr) (i : ℕ) (e : Expr) → i < length es → e ≡ get_or es i e → are_targets k (drop i es) ≡ (is_target k e && are_targets k (drop (suc i) es))
rest-from k [] i e within is = absurd (omega arith)
rest-from k (x ∷ es) zero e within is = ap (λ (y : Expr). is_target k y && are_targets k es) (sym is)
rest-from k (x ∷ es) (suc i) e within is = rest-from k es i e (omega arith) is

one-more : (k : Context) (es : List Expr) (i : ℕ) (e : Expr) → i < length es → e ≡ get_or es i e → are_targets k (drop i es) ≡ (is_target k e && are_targets k (drop (i + 1) es))
one-more k es i e within is =
    let next : suc i ≡ i + 1 = omega arith in
    rest-from k es i e within is ∙ ap (λ (n : ℕ). is_target k e && are_targets k (drop n es)) next

pub no-rest : (k : Context) (es : List Expr) (i : ℕ) → length es ≤ i → are_targets k (drop i es) ≡ true
no-rest k [] zero over = refl
no-rest k [] (suc i) over = refl
no-rest k (x ∷ es) zero over = absurd (omega arith)
no-rest k (x ∷ es) (suc i) over = no-rest k es i (omega arith)

pub false-from : (k : Context) (es : List Expr) (i : ℕ) (e : Expr) → i < length es → e ≡ get_or es i e → is_target k e ≡ false → are_targets k (drop i es) ≡ false
false-from k es i e within is f = one-more k es i e within is ∙ ap (λ (b : Bool). b && are_targets k (drop (i + 1) es)) f

pub true-from : (k : Context) (es : List Expr) (i : ℕ) (e : Expr) → i < length es → e ≡ get_or es i e → is_target k e ≡ true → are_targets k (drop i es) ≡ are_targets k (drop (i + 1) es)
true-from k es i e within is f = one-more k es i e within is ∙ ap (λ (b : Bool). b && are_targets k (drop (i + 1) es)) f

-- expressions as they are
pub one-itself : (r : Result T.Expr Halt) → as_meant as_itself r ≡ r
one-itself (Ok e) = refl
one-itself (Err h) = refl

abbrev ok : List T.Expr → Result (List T.Expr) Halt
ok es = Ok es

pub all-themselves : (r : Result (Vec T.Expr Global) Halt) → all_meant as_itself r ≡ listed r
all-themselves (Ok v) = ap ok (map-id v.items)
all-themselves (Err h) = refl

-- each of them is narrow
narrow-grow : (es : List T.Expr) (e : T.Expr) → AllNarrow es → IsNarrowExpr e → AllNarrow (es ++ e ∷ [])
narrow-grow [] e n m = (m, tt)
narrow-grow (x ∷ es) e n m = (n.0, narrow-grow es e n.1 m)

abbrev NarrowList : Result (Vec T.Expr Global) Halt → Type 0
NarrowList r = IfOk r (λ v. AllNarrow v.items)

pub narrow-on : (made : Result (Vec T.Expr Global) Halt) (next : Result T.Expr Halt) (r : Result (Vec T.Expr Global) Halt) → Follows made next r → IfOk made (λ v. AllNarrow v.items) → IfOk next IsNarrowExpr → IfOk r (λ v. AllNarrow v.items)
narrow-on (Ok v) (Ok e) (Ok w) s p q = subst (λ (es : List T.Expr). AllNarrow es) (sym s) (narrow-grow v.items e p q)
narrow-on (Ok v) (Ok e) (Err h) s p q = tt
narrow-on (Ok v) (Err h) r s p q = subst NarrowList (sym s) tt
narrow-on (Err H.Quiet) (Ok e) r s p q = subst NarrowList (sym s) tt
narrow-on (Err H.Quiet) (Err h) r s p q = subst NarrowList (sym s) tt
narrow-on (Err H.Memory) next r s p q = subst NarrowList (sym s) tt
narrow-on (Err (H.Breaks at n)) next r s p q = subst NarrowList (sym s) tt

pub narrow-listed : (made : Result (Vec T.Expr Global) Halt) (r : Result (List T.Expr) Halt) → r ≡ listed made → IfOk made (λ v. AllNarrow v.items) → IfOk r AllNarrow
narrow-listed (Ok v) r is n = subst (λ (s : Result (List T.Expr) Halt). IfOk s AllNarrow) (sym is) n
narrow-listed (Err h) r is n = subst (λ (s : Result (List T.Expr) Halt). IfOk s AllNarrow) (sym is) tt
