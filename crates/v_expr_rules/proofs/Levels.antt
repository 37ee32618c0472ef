-- What a fold makes of each form of an expression.
use Rattle.std.proofs.Common.{◌≡◌, ℕ, Bool, List, map, Option, sym, ap, ◌∙◌}
use Rattle.b4_core.specs.declared.bit.Bit4.{Bit4}
use Rattle.v_tree.specs.declared.expressions.VExtent.{VExtent}
use Rattle.v_tree.specs.declared.operators.VBinaryOp.{VBinaryOp}
use Rattle.v_tree.specs.declared.operators.VUnaryOp.{VUnaryOp}
use Rattle.v_tree.specs.declared.expressions.VExpr.{VExpr, VExpr-F, fold-VExpr, fold-roll-VExpr}
use Rattle.v_tree.specs.declared.expressions.VExpr.TheVariants as E
use Rattle.v_tree.specs.declared.expressions.VPrim.{VPrim, VPrim-F, fold-VPrim, fold-roll-VPrim}
use Rattle.v_tree.specs.declared.expressions.VPrim.TheVariants as O
use Rattle.v_tree.specs.declared.expressions.VSel.{VSel, VSel-F, fold-VSel, fold-roll-VSel}
use Rattle.v_tree.specs.declared.expressions.VSel.TheVariants as S

module _ {A B C : Type 0} (e : VExpr-F A B C → A) (p : VPrim-F A B C → B) (s : VSel-F A B C → C) where
  abbrev of_expr : VExpr → A
  of_expr = fold-VExpr A B C e p s

  abbrev of_prim : VPrim → B
  of_prim = fold-VPrim A B C e p s

  abbrev of_sel : VSel → C
  of_sel = fold-VSel A B C e p s

  pub at-prim : (a : VPrim) → of_expr (E.Prim a) ≡ e (VExpr-F.Prim (of_prim a))
  at-prim a = ap of_expr (sym (E.rolls-Prim a)) ∙ fold-roll-VExpr A B C e p s (VExpr-F.Prim a)

  pub at-unary : (op : VUnaryOp) (a : VPrim) → of_expr (E.Unary op a) ≡ e (VExpr-F.Unary op (of_prim a))
  at-unary op a = ap of_expr (sym (E.rolls-Unary op a)) ∙ fold-roll-VExpr A B C e p s (VExpr-F.Unary op a)

  pub at-binary : (op : VBinaryOp) (a b : VPrim) → of_expr (E.Binary op a b) ≡ e (VExpr-F.Binary op (of_prim a) (of_prim b))
  at-binary op a b = ap of_expr (sym (E.rolls-Binary op a b)) ∙ fold-roll-VExpr A B C e p s (VExpr-F.Binary op a b)

  pub at-choose : (on a b : VPrim) → of_expr (E.Choose on a b) ≡ e (VExpr-F.Choose (of_prim on) (of_prim a) (of_prim b))
  at-choose on a b = ap of_expr (sym (E.rolls-Choose on a b)) ∙ fold-roll-VExpr A B C e p s (VExpr-F.Choose on a b)

  pub at-number : (bits : List Bit4) → of_prim (O.Number bits) ≡ p (VPrim-F.Number bits)
  at-number bits = ap of_prim (sym (O.rolls-Number bits)) ∙ fold-roll-VPrim A B C e p s (VPrim-F.Number bits)

  pub at-paren : (x : VExpr) → of_prim (O.Paren x) ≡ p (VPrim-F.Paren (of_expr x))
  at-paren x = ap of_prim (sym (O.rolls-Paren x)) ∙ fold-roll-VPrim A B C e p s (VPrim-F.Paren x)

  pub at-name : (n : List ℕ) (ss : List VSel) → of_prim (O.Name n ss) ≡ p (VPrim-F.Name n (map of_sel ss))
  at-name n ss = ap of_prim (sym (O.rolls-Name n ss)) ∙ fold-roll-VPrim A B C e p s (VPrim-F.Name n ss)

  pub at-call : (n : List ℕ) (xs : List VExpr) → of_prim (O.Call n xs) ≡ p (VPrim-F.Call n (map of_expr xs))
  at-call n xs = ap of_prim (sym (O.rolls-Call n xs)) ∙ fold-roll-VPrim A B C e p s (VPrim-F.Call n xs)

  pub at-repeat : (count : ℕ) (xs : List VExpr) → of_prim (O.Repeat count xs) ≡ p (VPrim-F.Repeat count (map of_expr xs))
  at-repeat count xs = ap of_prim (sym (O.rolls-Repeat count xs)) ∙ fold-roll-VPrim A B C e p s (VPrim-F.Repeat count xs)

  pub at-concat : (xs : List VExpr) → of_prim (O.Concat xs) ≡ p (VPrim-F.Concat (map of_expr xs))
  at-concat xs = ap of_prim (sym (O.rolls-Concat xs)) ∙ fold-roll-VPrim A B C e p s (VPrim-F.Concat xs)

  pub at-sign : (signed : Bool) (x : VExpr) → of_prim (O.Sign signed x) ≡ p (VPrim-F.Sign signed (of_expr x))
  at-sign signed x = ap of_prim (sym (O.rolls-Sign signed x)) ∙ fold-roll-VPrim A B C e p s (VPrim-F.Sign signed x)

  pub at-decimal : (base : ℕ) (extent : Option VExtent) → of_sel (S.Decimal base extent) ≡ s (VSel-F.Decimal base extent)
  at-decimal base extent = ap of_sel (sym (S.rolls-Decimal base extent)) ∙ fold-roll-VSel A B C e p s (VSel-F.Decimal base extent)

  pub at-moving : (x : VExpr) (extent : Option VExtent) → of_sel (S.Expr x extent) ≡ s (VSel-F.Expr (of_expr x) extent)
  at-moving x extent = ap of_sel (sym (S.rolls-Expr x extent)) ∙ fold-roll-VSel A B C e p s (VSel-F.Expr x extent)
