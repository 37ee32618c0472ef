-- The operands of an expression whose arithmetic is narrow enough.
use Rattle.std.proofs.Common.{◌≡◌, ℕ, ◌≤◌, max, Bool, List, map, Option, Some, refl, arith, ap, sym, ◌∙◌, subst}
use Rattle.v_tree.specs.Names.{Name}
use Rattle.v_tree.specs.declared.expressions.VExpr.{VExpr}
use Rattle.v_tree.specs.declared.expressions.VExpr.TheVariants as E
use Rattle.v_tree.specs.declared.expressions.VExtent.{VExtent}
use Rattle.v_tree.specs.declared.expressions.VPrim.{VPrim}
use Rattle.v_tree.specs.declared.expressions.VPrim.TheVariants as O
use Rattle.v_tree.specs.declared.expressions.VSel.{VSel}
use Rattle.v_tree.specs.declared.expressions.VSel.TheVariants as S
use Rattle.v_tree.specs.declared.operators.VBinaryOp.{VBinaryOp}
use Rattle.v_tree.specs.declared.operators.VUnaryOp.{VUnaryOp}
use Rattle.v_expr_rules.proofs.Levels as L
use Rattle.v_tree.specs.declared.items.VLocal.{VLocal}
use Rattle.v_meaning.specs.Scopes.{Scope, Callee, bits_of_range}
use Rattle.v_meaning.specs.Functions.{find}
use Rattle.v_meaning.specs.Modules.{functions as functions_in}
use Rattle.v_eval.specs.declared.operators.Context.{Context}
use Rattle.v_eval.specs.declared.operators.Prefix.{Prefix}
use Rattle.v_eval.specs.declared.operators.Prefix.TheVariants as P
use Rattle.v_eval.specs.declared.operators.Infix.{Infix}
use Rattle.v_eval.specs.declared.operators.Infix.TheVariants as I
use Rattle.v_eval.specs.declared.scopes.Scope as C
use Rattle.v_eval.specs.Functions.{function_at, inputs_in}
use Rattle.v_eval.specs.Limits.{Limits, SelLimits, limits, limits_of_prim, limits_of_sel, expr_limits, prim_limits, sel_limits, most_alone, most_of_all, most_of_sels, most_of_args}
use Rattle.v_eval.specs.Operators.{prefix_of, infix_of, prefix_context, left_context, right_context, operand_width, left_width, right_width, prefix_most, infix_most}
use Rattle.v_eval.specs.Scopes.{scope_of, callee_at}
use Rattle.v_eval.proofs.Calls.{called}
use Rattle.v_eval.proofs.Valued.{inputs-are}

-- forms
at-prim : (e : VExpr) (a : VPrim) → e ≡ E.Prim a → limits e ≡ limits_of_prim a
at-prim e a is = ap limits is ∙ L.at-prim expr_limits prim_limits sel_limits a

at-paren : (p : VPrim) (x : VExpr) → p ≡ O.Paren x → limits_of_prim p ≡ limits x
at-paren p x is = ap limits_of_prim is ∙ L.at-paren expr_limits prim_limits sel_limits x

pub narrow-prim : (e : VExpr) (a : VPrim) (w : ℕ) (sc : Scope) → e ≡ E.Prim a → (limits e).most w sc ≤ 128 → (limits_of_prim a).most w sc ≤ 128
narrow-prim e a w sc is h = subst (λ (l : Limits). l.most w sc ≤ 128) (at-prim e a is) h

pub narrow-paren : (p : VPrim) (x : VExpr) (w : ℕ) (sc : Scope) → p ≡ O.Paren x → (limits_of_prim p).most w sc ≤ 128 → (limits x).most w sc ≤ 128
narrow-paren p x w sc is h = subst (λ (l : Limits). l.most w sc ≤ 128) (at-paren p x is) h

pub narrow-moving : (x : VSel) (b : VExpr) (e : Option VExtent) (n : ℕ) (sc : Scope) → x ≡ S.Expr b e → n ≡ (limits b).wide sc → (limits_of_sel x).most sc ≤ 128 → (limits b).most n sc ≤ 128
narrow-moving x b e n sc is w h =
    let same = ap limits_of_sel is ∙ L.at-moving expr_limits prim_limits sel_limits b e in
    subst (λ k. (limits b).most k sc ≤ 128) (sym w) (subst (λ (l : SelLimits). l.most sc ≤ 128) same h)

pub narrow-name : (p : VPrim) (n : Name) (ss : List VSel) (w : ℕ) (sc : Scope) → p ≡ O.Name n ss → (limits_of_prim p).most w sc ≤ 128 → most_of_sels (map limits_of_sel ss) sc ≤ 128
narrow-name p n ss w sc is h = subst (λ (l : Limits). l.most w sc ≤ 128) (ap limits_of_prim is ∙ L.at-name expr_limits prim_limits sel_limits n ss) h

pub narrow-call : (p : VPrim) (n : Name) (xs : List VExpr) (w : ℕ) (o : Option ℕ) (s : C.Scope) (is : List ℕ) → p ≡ O.Call n xs → function_at s.module.now.items.now o ≡ find (functions_in s.module.now.items.now) n → (callee_at s o).inputs ≡ is
    → (limits_of_prim p).most w (scope_of s) ≤ 128 → most_of_args is (map limits xs) (scope_of s) ≤ 128
narrow-call p n xs w o s is form found inputs h =
    let g = subst (λ (l : Limits). l.most w (scope_of s) ≤ 128) (ap limits_of_prim form ∙ L.at-call expr_limits prim_limits sel_limits n xs) h in
    subst (λ ns. most_of_args ns (map limits xs) (scope_of s) ≤ 128) (ap (λ (c : Callee). c.inputs) (sym (called s n o found)) ∙ inputs) g

pub narrow-repeat : (p : VPrim) (count : ℕ) (xs : List VExpr) (w : ℕ) (sc : Scope) → p ≡ O.Repeat count xs → (limits_of_prim p).most w sc ≤ 128 → most_of_all (map limits xs) sc ≤ 128
narrow-repeat p count xs w sc is h = subst (λ (l : Limits). l.most w sc ≤ 128) (ap limits_of_prim is ∙ L.at-repeat expr_limits prim_limits sel_limits count xs) h

pub narrow-concat : (p : VPrim) (xs : List VExpr) (w : ℕ) (sc : Scope) → p ≡ O.Concat xs → (limits_of_prim p).most w sc ≤ 128 → most_of_all (map limits xs) sc ≤ 128
narrow-concat p xs w sc is h = subst (λ (l : Limits). l.most w sc ≤ 128) (ap limits_of_prim is ∙ L.at-concat expr_limits prim_limits sel_limits xs) h

pub narrow-sign : (p : VPrim) (s : Bool) (x : VExpr) (n w : ℕ) (sc : Scope) → p ≡ O.Sign s x → n ≡ (limits x).wide sc → (limits_of_prim p).most w sc ≤ 128 → (limits x).most n sc ≤ 128
narrow-sign p s x n w sc is of h =
    subst (λ k. (limits x).most k sc ≤ 128) (sym of) (subst (λ (l : Limits). l.most w sc ≤ 128) (ap limits_of_prim is ∙ L.at-sign expr_limits prim_limits sel_limits s x) h)

-- the widths of contexts
prefix-wide : (k : Prefix) (c o : Context) → (prefix_context k c o).width ≡ operand_width k c.width o.width
prefix-wide (P.Vector op) c o = refl
prefix-wide (P.Reduction op) c o = refl
prefix-wide P.Negation c o = refl

left-wide : (k : Infix) (c l r : Context) → (left_context k c l r).width ≡ left_width k c.width l.width r.width
left-wide (I.Vector op) c l r = refl
left-wide (I.Shift op) c l r = refl
left-wide I.Power c l r = refl
left-wide (I.Order op) c l r = refl
left-wide (I.Equality op negated) c l r = refl
left-wide I.Both c l r = refl
left-wide I.Either c l r = refl

right-wide : (k : Infix) (c l r : Context) → (right_context k c l r).width ≡ right_width k c.width l.width r.width
right-wide (I.Vector op) c l r = refl
right-wide (I.Shift op) c l r = refl
right-wide I.Power c l r = refl
right-wide (I.Order op) c l r = refl
right-wide (I.Equality op negated) c l r = refl
right-wide I.Both c l r = refl
right-wide I.Either c l r = refl

-- both numbers are small where the larger one is
first-of : (m n : ℕ) → max m n ≤ 128 → m ≤ 128
first-of m n h = omega (arith, h)

second-of : (m n : ℕ) → max m n ≤ 128 → n ≤ 128
second-of m n h = omega (arith, h)

pub record UnaryNarrow (k : Prefix) (d : Context) (a : VPrim) (sc : Scope) : Type 0 where
  pub own : prefix_most k d.width ≤ 128
  pub inner : (limits_of_prim a).most d.width sc ≤ 128

pub narrow-unary : (k : Prefix) (c o d : Context) (e : VExpr) (op : VUnaryOp) (a : VPrim) (sc : Scope) → e ≡ E.Unary op a → k ≡ prefix_of op → o.width ≡ (limits_of_prim a).wide sc → d ≡ prefix_context k c o
    → (limits e).most c.width sc ≤ 128 → UnaryNarrow k d a sc
narrow-unary k c o d e op a sc is kind of ctx h =
    let g = subst (λ (l : Limits). l.most c.width sc ≤ 128) (ap limits is ∙ L.at-unary expr_limits prim_limits sel_limits op a) h in
    let n = operand_width (prefix_of op) c.width ((limits_of_prim a).wide sc) in
    let w : n ≡ d.width = sym (ap (λ (x : Context). x.width) ctx ∙ prefix-wide k c o ∙ ap (λ j. operand_width j c.width o.width) kind ∙ ap (operand_width (prefix_of op) c.width) of) in
    let f = subst (λ i. max (prefix_most (prefix_of op) i) ((limits_of_prim a).most i sc) ≤ 128) w g in record {
      own = subst (λ j. prefix_most j d.width ≤ 128) (sym kind) (first-of (prefix_most (prefix_of op) d.width) ((limits_of_prim a).most d.width sc) f);
      inner = second-of (prefix_most (prefix_of op) d.width) ((limits_of_prim a).most d.width sc) f;
    }

pub record BinaryNarrow (k : Infix) (m n : Context) (a b : VPrim) (sc : Scope) : Type 0 where
  pub own : infix_most k m.width n.width ≤ 128
  pub left : (limits_of_prim a).most m.width sc ≤ 128
  pub right : (limits_of_prim b).most n.width sc ≤ 128

pub narrow-binary : (k : Infix) (c l r m n : Context) (e : VExpr) (op : VBinaryOp) (a b : VPrim) (sc : Scope) → e ≡ E.Binary op a b → k ≡ infix_of op → l.width ≡ (limits_of_prim a).wide sc → r.width ≡ (limits_of_prim b).wide sc
    → m ≡ left_context k c l r → n ≡ right_context k c l r → (limits e).most c.width sc ≤ 128 → BinaryNarrow k m n a b sc
narrow-binary k c l r m n e op a b sc is kind lw rw lc rc h =
    let A = limits_of_prim a in
    let B = limits_of_prim b in
    let K = infix_of op in
    let g = subst (λ (x : Limits). x.most c.width sc ≤ 128) (ap limits is ∙ L.at-binary expr_limits prim_limits sel_limits op a b) h in
    let i : left_width K c.width (A.wide sc) (B.wide sc) ≡ m.width =
    sym (ap (λ (x : Context). x.width) lc ∙ left-wide k c l r ∙ ap (λ j. left_width j c.width l.width r.width) kind ∙ ap (λ x. left_width K c.width x r.width) lw ∙ ap (left_width K c.width (A.wide sc)) rw) in
    let j : right_width K c.width (A.wide sc) (B.wide sc) ≡ n.width =
    sym (ap (λ (x : Context). x.width) rc ∙ right-wide k c l r ∙ ap (λ q. right_width q c.width l.width r.width) kind ∙ ap (λ x. right_width K c.width x r.width) lw ∙ ap (right_width K c.width (A.wide sc)) rw) in
    let f = subst (λ x. max (infix_most K m.width x) (max (A.most m.width sc) (B.most x sc)) ≤ 128) j
    (subst (λ x. max (infix_most K x (right_width K c.width (A.wide sc) (B.wide sc))) (max (A.most x sc) (B.most (right_width K c.width (A.wide sc) (B.wide sc)) sc)) ≤ 128) i g) in
    let rest = second-of (infix_most K m.width n.width) (max (A.most m.width sc) (B.most n.width sc)) f in record {
      own = subst (λ q. infix_most q m.width n.width ≤ 128) (sym kind) (first-of (infix_most K m.width n.width) (max (A.most m.width sc) (B.most n.width sc)) f);
      left = first-of (A.most m.width sc) (B.most n.width sc) rest;
      right = second-of (A.most m.width sc) (B.most n.width sc) rest;
    }

pub record ChooseNarrow (w n : ℕ) (x a b : VPrim) (sc : Scope) : Type 0 where
  pub on : (limits_of_prim x).most n sc ≤ 128
  pub yes : (limits_of_prim a).most w sc ≤ 128
  pub no : (limits_of_prim b).most w sc ≤ 128

pub narrow-choose : (w n : ℕ) (e : VExpr) (x a b : VPrim) (sc : Scope) → e ≡ E.Choose x a b → n ≡ (limits_of_prim x).wide sc → (limits e).most w sc ≤ 128 → ChooseNarrow w n x a b sc
narrow-choose w n e x a b sc is of h =
    let X = limits_of_prim x in
    let A = limits_of_prim a in
    let B = limits_of_prim b in
    let g = subst (λ (l : Limits). l.most w sc ≤ 128) (ap limits is ∙ L.at-choose expr_limits prim_limits sel_limits x a b) h in
    let rest = second-of (most_alone X sc) (max (A.most w sc) (B.most w sc)) g in record {
      on = subst (λ k. X.most k sc ≤ 128) (sym of) (first-of (most_alone X sc) (max (A.most w sc) (B.most w sc)) g);
      yes = first-of (A.most w sc) (B.most w sc) rest;
      no = second-of (A.most w sc) (B.most w sc) rest;
    }

-- what is passed to a function
pub narrow-passed : (p : VPrim) (n : Name) (xs ys : List VExpr) (ls : List VLocal) (w i : ℕ) (s : C.Scope) → p ≡ O.Call n xs → function_at s.module.now.items.now (Some i) ≡ find (functions_in s.module.now.items.now) n
    → ls ≡ inputs_in (function_at s.module.now.items.now (Some i)) → ys ≡ xs → (limits_of_prim p).most w (scope_of s) ≤ 128 → most_of_args (map (λ (l : VLocal). bits_of_range l.range) ls) (map limits ys) (scope_of s) ≤ 128
narrow-passed p n xs ys ls w i s form found inputs args h =
    subst (λ zs. most_of_args (map (λ (l : VLocal). bits_of_range l.range) ls) (map limits zs) (scope_of s) ≤ 128) (sym args)
    (narrow-call p n xs w (Some i) s (map (λ (l : VLocal). bits_of_range l.range) ls) form found (inputs-are s (Some i) ∙ ap (map (λ (l : VLocal). bits_of_range l.range)) (sym inputs)) h)

pub ruleset narrows = (narrow-passed)
