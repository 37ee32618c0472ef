-- Operators mean what their kinds do, and are valued as these say.
use Rattle.std.proofs.Common.{◌≡◌, ℕ, true, false, refl, ap, ◌∙◌}
use Rattle.v_tree.specs.declared.operators.VBinaryOp.{VBinaryOp}
use Rattle.v_tree.specs.declared.operators.VBinaryOp.TheVariants as Y
use Rattle.v_tree.specs.declared.operators.VUnaryOp.{VUnaryOp}
use Rattle.v_tree.specs.declared.operators.VUnaryOp.TheVariants as W
use Rattle.v_meaning.specs.Scopes.{Scope}
use Rattle.v_meaning.specs.Values.{Meaning, unary_meaning, binary_meaning}
use Rattle.v_meaning.specs.Values as V
use Rattle.v_eval.specs.declared.operators.Context.{Context}
use Rattle.v_eval.specs.declared.operators.Prefix.{Prefix}
use Rattle.v_eval.specs.declared.operators.Prefix.TheVariants as P
use Rattle.v_eval.specs.declared.operators.Infix.{Infix}
use Rattle.v_eval.specs.declared.operators.Infix.TheVariants as I
use Rattle.v_eval.specs.Operators.{prefix_of, infix_of, prefix_meaning, infix_meaning, prefix_own, prefix_width, infix_own, infix_width}
use Rattle.v_eval.specs.Scopes.{own}

pub prefix-is : (op : VUnaryOp) → prefix_meaning (prefix_of op) ≡ unary_meaning op
prefix-is W.Not = refl
prefix-is W.LogicalNot = refl
prefix-is W.Neg = refl
prefix-is W.And = refl
prefix-is W.Nand = refl
prefix-is W.Or = refl
prefix-is W.Nor = refl
prefix-is W.Xor = refl
prefix-is W.Xnor = refl

pub infix-is : (op : VBinaryOp) → infix_meaning (infix_of op) ≡ binary_meaning op
infix-is Y.Add = refl
infix-is Y.Sub = refl
infix-is Y.Mul = refl
infix-is Y.Div = refl
infix-is Y.Rem = refl
infix-is Y.Power = refl
infix-is Y.ShiftLeft = refl
infix-is Y.ShiftRight = refl
infix-is Y.ArithmeticLeft = refl
infix-is Y.ArithmeticRight = refl
infix-is Y.Less = refl
infix-is Y.LessEqual = refl
infix-is Y.Greater = refl
infix-is Y.GreaterEqual = refl
infix-is Y.Equal = refl
infix-is Y.NotEqual = refl
infix-is Y.CaseEqual = refl
infix-is Y.CaseNotEqual = refl
infix-is Y.And = refl
infix-is Y.Or = refl
infix-is Y.Xor = refl
infix-is Y.Xnor = refl
infix-is Y.LogicalAnd = refl
infix-is Y.LogicalOr = refl

-- what operations of these kinds are alone
kind-own : (k : Prefix) (m : Meaning) (sc : Scope) → prefix_own k (own m sc) ≡ own (prefix_meaning k m) sc
unfolding V.unary V.reduce V.negate
kind-own (P.Vector op) m sc = refl
kind-own (P.Reduction op) m sc = refl
kind-own P.Negation m sc = refl

pub unary-own : (c d : Context) (op : VUnaryOp) (m : Meaning) (sc : Scope) → c ≡ prefix_own (prefix_of op) d → d ≡ own m sc → c ≡ own (unary_meaning op m) sc
unary-own c d op m sc is of = is ∙ ap (prefix_own (prefix_of op)) of ∙ kind-own (prefix_of op) m sc ∙ ap (λ (f : Meaning → Meaning). own (f m) sc) (prefix-is op)

kind-infix-own : (k : Infix) (l r : Meaning) (sc : Scope) → infix_own k (own l sc) (own r sc) ≡ own (infix_meaning k l r) sc
unfolding V.binary V.shift V.power V.order V.equal V.unequal V.both V.either
kind-infix-own (I.Vector op) l r sc = refl
kind-infix-own (I.Shift op) l r sc = refl
kind-infix-own I.Power l r sc = refl
kind-infix-own (I.Order op) l r sc = refl
kind-infix-own (I.Equality op true) l r sc = refl
kind-infix-own (I.Equality op false) l r sc = refl
kind-infix-own I.Both l r sc = refl
kind-infix-own I.Either l r sc = refl

pub binary-own : (c a b : Context) (op : VBinaryOp) (l r : Meaning) (sc : Scope) → c ≡ infix_own (infix_of op) a b → a ≡ own l sc → b ≡ own r sc → c ≡ own (binary_meaning op l r) sc
binary-own c a b op l r sc is f g =
    is ∙ ap (λ x. infix_own (infix_of op) x b) f ∙ ap (infix_own (infix_of op) (own l sc)) g ∙ kind-infix-own (infix_of op) l r sc
    ∙ ap (λ (f : Meaning → Meaning → Meaning). own (f l r) sc) (infix-is op)

pub prefix-wide : (k : Prefix) (c : Context) → (prefix_own k c).width ≡ prefix_width k c.width
prefix-wide (P.Vector op) c = refl
prefix-wide (P.Reduction op) c = refl
prefix-wide P.Negation c = refl

pub infix-wide : (k : Infix) (l r : Context) → (infix_own k l r).width ≡ infix_width k l.width r.width
infix-wide (I.Vector op) l r = refl
infix-wide (I.Shift op) l r = refl
infix-wide I.Power l r = refl
infix-wide (I.Order op) l r = refl
infix-wide (I.Equality op negated) l r = refl
infix-wide I.Both l r = refl
infix-wide I.Either l r = refl

pub unary-wide : (c d : Context) (k : Prefix) (n : ℕ) → c ≡ prefix_own k d → d.width ≡ n → c.width ≡ prefix_width k n
unary-wide c d k n is w = ap (λ (x : Context). x.width) is ∙ prefix-wide k d ∙ ap (prefix_width k) w

pub binary-wide : (c a b : Context) (k : Infix) (m n : ℕ) → c ≡ infix_own k a b → a.width ≡ m → b.width ≡ n → c.width ≡ infix_width k m n
binary-wide c a b k m n is f g = ap (λ (x : Context). x.width) is ∙ infix-wide k a b ∙ ap (λ x. infix_width k x b.width) f ∙ ap (infix_width k m) g

pub ruleset kinds = (unary-own, binary-own, unary-wide, binary-wide)
