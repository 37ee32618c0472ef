-- Induction over expressions, over targets and over statements.

use Rattle.std.proofs.Common.{ℕ, Bool, List, [], ◌∷◌, map, Option, Some, None, subst, sym}
use Rattle.b4_core.specs.declared.bit.Bit4.{Bit4}
use Rattle.v_tree.specs.declared.expressions.VExtent.{VExtent}
use Rattle.v_tree.specs.declared.operators.VBinaryOp.{VBinaryOp}
use Rattle.v_tree.specs.declared.operators.VUnaryOp.{VUnaryOp}
use Rattle.v_tree.specs.declared.statements.VCaseKind.{VCaseKind}
use Rattle.v_tree.specs.declared.statements.VLabel.{VLabel}
use Rattle.v_tree.specs.declared.statements.VBranch.{VBranch, VBranch-F, roll-VBranch, map-VBranch, ind-VBranch}
use Rattle.v_tree.specs.declared.statements.VBranch.TheVariants as G
use Rattle.v_tree.specs.declared.statements.VCaseItem.{VCaseItem, VCaseItem-F, roll-VCaseItem, map-VCaseItem, ind-VCaseItem}
use Rattle.v_tree.specs.declared.statements.VCaseItem.TheVariants as C
use Rattle.v_tree.specs.declared.expressions.VExpr.{VExpr, VExpr-F, roll-VExpr, map-VExpr, ind-VExpr}
use Rattle.v_tree.specs.declared.expressions.VExpr.TheVariants as E
use Rattle.v_tree.specs.declared.statements.VLval.{VLval, VLval-F, roll-VLval, map-VLval, ind-VLval}
use Rattle.v_tree.specs.declared.statements.VLval.TheVariants as L
use Rattle.v_tree.specs.declared.expressions.VPrim.{VPrim, VPrim-F, roll-VPrim, map-VPrim, ind-VPrim}
use Rattle.v_tree.specs.declared.expressions.VPrim.TheVariants as O
use Rattle.v_tree.specs.declared.expressions.VSel.{VSel, VSel-F, roll-VSel, map-VSel, ind-VSel}
use Rattle.v_tree.specs.declared.expressions.VSel.TheVariants as S
use Rattle.v_tree.specs.declared.statements.VStmt.{VStmt, VStmt-F, roll-VStmt, map-VStmt, ind-VStmt}
use Rattle.v_tree.specs.declared.statements.VStmt.TheVariants as T

-- each of a list
abbrev pub Each : {A : Type 0} → (A → Type 0) → List A → Type 0
Each P [] = Unit {0}
Each P (x ∷ xs) = P x × Each P xs

-- the one that is there, if one is
abbrev pub Perhaps : {A : Type 0} → (A → Type 0) → Option A → Type 0
Perhaps P None = Unit {0}
Perhaps P (Some x) = P x

-- what each form of an expression needs
pub record ExprSteps (P : VExpr → Type 0) (Q : VPrim → Type 0) (R : VSel → Type 0) : Type 0 where
  pub expr-prim : (a : VPrim) → Q a → P (E.Prim a)
  pub expr-unary : (op : VUnaryOp) (a : VPrim) → Q a → P (E.Unary op a)
  pub expr-binary : (op : VBinaryOp) (a : VPrim) (b : VPrim) → Q a → Q b → P (E.Binary op a b)
  pub expr-choose : (on : VPrim) (a : VPrim) (b : VPrim) → Q on → Q a → Q b → P (E.Choose on a b)
  pub prim-number : (bits : List Bit4) → Q (O.Number bits)
  pub prim-paren : (x : VExpr) → P x → Q (O.Paren x)
  pub prim-name : (n : List ℕ) (ss : List VSel) → Each R ss → Q (O.Name n ss)
  pub prim-call : (n : List ℕ) (xs : List VExpr) → Each P xs → Q (O.Call n xs)
  pub prim-repeat : (count : ℕ) (xs : List VExpr) → Each P xs → Q (O.Repeat count xs)
  pub prim-concat : (xs : List VExpr) → Each P xs → Q (O.Concat xs)
  pub prim-sign : (signed : Bool) (x : VExpr) → P x → Q (O.Sign signed x)
  pub sel-decimal : (base : ℕ) (extent : Option VExtent) → R (S.Decimal base extent)
  pub sel-expr : (x : VExpr) (extent : Option VExtent) → P x → R (S.Expr x extent)

module _ (P : VExpr → Type 0) (Q : VPrim → Type 0) (R : VSel → Type 0) (steps : ExprSteps P Q R) where
  abbrev AVExpr : Type 0
  AVExpr = (x : VExpr) × P x

  abbrev AVPrim : Type 0
  AVPrim = (x : VPrim) × Q x

  abbrev AVSel : Type 0
  AVSel = (x : VSel) × R x

  each-expr : (ys : List AVExpr) → Each P (map (λ e. e.0) ys)
  each-expr [] = tt
  each-expr (y ∷ ys) = (y.1, each-expr ys)

  each-sel : (ys : List AVSel) → Each R (map (λ e. e.0) ys)
  each-sel [] = tt
  each-sel (y ∷ ys) = (y.1, each-sel ys)

  expr-level : (y : VExpr-F AVExpr AVPrim AVSel) → P (roll-VExpr (map-VExpr AVExpr AVPrim AVSel VExpr VPrim VSel (λ e. e.0) (λ e. e.0) (λ e. e.0) y))
  expr-level (VExpr-F.Prim a) = subst P (sym (E.rolls-Prim a.0)) (steps.expr-prim a.0 a.1)
  expr-level (VExpr-F.Unary op a) = subst P (sym (E.rolls-Unary op a.0)) (steps.expr-unary op a.0 a.1)
  expr-level (VExpr-F.Binary op a b) = subst P (sym (E.rolls-Binary op a.0 b.0)) (steps.expr-binary op a.0 b.0 a.1 b.1)
  expr-level (VExpr-F.Choose on a b) = subst P (sym (E.rolls-Choose on.0 a.0 b.0)) (steps.expr-choose on.0 a.0 b.0 on.1 a.1 b.1)

  prim-level : (y : VPrim-F AVExpr AVPrim AVSel) → Q (roll-VPrim (map-VPrim AVExpr AVPrim AVSel VExpr VPrim VSel (λ e. e.0) (λ e. e.0) (λ e. e.0) y))
  prim-level (VPrim-F.Number bits) = subst Q (sym (O.rolls-Number bits)) (steps.prim-number bits)
  prim-level (VPrim-F.Paren x) = subst Q (sym (O.rolls-Paren x.0)) (steps.prim-paren x.0 x.1)
  prim-level (VPrim-F.Name n ss) = subst Q (sym (O.rolls-Name n (map (λ e. e.0) ss))) (steps.prim-name n (map (λ e. e.0) ss) (each-sel ss))
  prim-level (VPrim-F.Call n xs) = subst Q (sym (O.rolls-Call n (map (λ e. e.0) xs))) (steps.prim-call n (map (λ e. e.0) xs) (each-expr xs))
  prim-level (VPrim-F.Repeat count xs) = subst Q (sym (O.rolls-Repeat count (map (λ e. e.0) xs))) (steps.prim-repeat count (map (λ e. e.0) xs) (each-expr xs))
  prim-level (VPrim-F.Concat xs) = subst Q (sym (O.rolls-Concat (map (λ e. e.0) xs))) (steps.prim-concat (map (λ e. e.0) xs) (each-expr xs))
  prim-level (VPrim-F.Sign signed x) = subst Q (sym (O.rolls-Sign signed x.0)) (steps.prim-sign signed x.0 x.1)

  sel-level : (y : VSel-F AVExpr AVPrim AVSel) → R (roll-VSel (map-VSel AVExpr AVPrim AVSel VExpr VPrim VSel (λ e. e.0) (λ e. e.0) (λ e. e.0) y))
  sel-level (VSel-F.Decimal base extent) = subst R (sym (S.rolls-Decimal base extent)) (steps.sel-decimal base extent)
  sel-level (VSel-F.Expr x extent) = subst R (sym (S.rolls-Expr x.0 extent)) (steps.sel-expr x.0 extent x.1)

  pub ind-expr : (x : VExpr) → P x
  ind-expr =
      ind-VExpr P Q R (λ x y is. subst (λ z. P (roll-VExpr z)) is (expr-level y)) (λ x y is. subst (λ z. Q (roll-VPrim z)) is (prim-level y)) (λ x y is. subst (λ z. R (roll-VSel z)) is (sel-level y))

  pub ind-prim : (x : VPrim) → Q x
  ind-prim =
      ind-VPrim P Q R (λ x y is. subst (λ z. P (roll-VExpr z)) is (expr-level y)) (λ x y is. subst (λ z. Q (roll-VPrim z)) is (prim-level y)) (λ x y is. subst (λ z. R (roll-VSel z)) is (sel-level y))

  pub ind-sel : (x : VSel) → R x
  ind-sel =
      ind-VSel P Q R (λ x y is. subst (λ z. P (roll-VExpr z)) is (expr-level y)) (λ x y is. subst (λ z. Q (roll-VPrim z)) is (prim-level y)) (λ x y is. subst (λ z. R (roll-VSel z)) is (sel-level y))

-- what each form of a target needs
pub record LvalSteps (P : VLval → Type 0) : Type 0 where
  pub lval-name : (n : List ℕ) (ss : List VSel) → P (L.Name n ss)
  pub lval-concat : (ls : List VLval) → Each P ls → P (L.Concat ls)

module _ (P : VLval → Type 0) (steps : LvalSteps P) where
  abbrev AVLval : Type 0
  AVLval = (x : VLval) × P x

  each-lval : (ys : List AVLval) → Each P (map (λ e. e.0) ys)
  each-lval [] = tt
  each-lval (y ∷ ys) = (y.1, each-lval ys)

  lval-level : (y : VLval-F AVLval) → P (roll-VLval (map-VLval AVLval VLval (λ e. e.0) y))
  lval-level (VLval-F.Name n ss) = subst P (sym (L.rolls-Name n ss)) (steps.lval-name n ss)
  lval-level (VLval-F.Concat ls) = subst P (sym (L.rolls-Concat (map (λ e. e.0) ls))) (steps.lval-concat (map (λ e. e.0) ls) (each-lval ls))

  pub ind-lval : (x : VLval) → P x
  ind-lval =
      ind-VLval P (λ x y is. subst (λ z. P (roll-VLval z)) is (lval-level y))

-- what each form of a statement needs
pub record StmtSteps (P : VBranch → Type 0) (Q : VCaseItem → Type 0) (R : VStmt → Type 0) : Type 0 where
  pub branch-statement : (s : VStmt) → R s → P (G.Statement s)
  pub branch-empty : P G.Empty
  pub case-item : (values : List VExpr) (b : VBranch) → P b → Q (C.Item values b)
  pub case-default : (b : VBranch) → P b → Q (C.Default b)
  pub stmt-block : (label : Option VLabel) (ss : List VStmt) → Each R ss → R (T.Block label ss)
  pub stmt-if : (on : VExpr) (b : VBranch) (other : Option VBranch) → P b → Perhaps P other → R (T.If on b other)
  pub stmt-case : (kind : VCaseKind) (on : VExpr) (cs : List VCaseItem) → Each Q cs → R (T.Case kind on cs)
  pub stmt-assign : (target : VLval) (value : VExpr) (later : Bool) → R (T.Assign target value later)

module _ (P : VBranch → Type 0) (Q : VCaseItem → Type 0) (R : VStmt → Type 0) (steps : StmtSteps P Q R) where
  abbrev AVBranch : Type 0
  AVBranch = (x : VBranch) × P x

  abbrev AVCaseItem : Type 0
  AVCaseItem = (x : VCaseItem) × Q x

  abbrev AVStmt : Type 0
  AVStmt = (x : VStmt) × R x

  each-case : (ys : List AVCaseItem) → Each Q (map (λ e. e.0) ys)
  each-case [] = tt
  each-case (y ∷ ys) = (y.1, each-case ys)

  each-stmt : (ys : List AVStmt) → Each R (map (λ e. e.0) ys)
  each-stmt [] = tt
  each-stmt (y ∷ ys) = (y.1, each-stmt ys)

  branch-level : (y : VBranch-F AVBranch AVCaseItem AVStmt) → P (roll-VBranch (map-VBranch AVBranch AVCaseItem AVStmt VBranch VCaseItem VStmt (λ e. e.0) (λ e. e.0) (λ e. e.0) y))
  branch-level (VBranch-F.Statement s) = subst P (sym (G.rolls-Statement s.0)) (steps.branch-statement s.0 s.1)
  branch-level VBranch-F.Empty = subst P (sym G.rolls-Empty) steps.branch-empty

  case-level : (y : VCaseItem-F AVBranch AVCaseItem AVStmt) → Q (roll-VCaseItem (map-VCaseItem AVBranch AVCaseItem AVStmt VBranch VCaseItem VStmt (λ e. e.0) (λ e. e.0) (λ e. e.0) y))
  case-level (VCaseItem-F.Item values b) = subst Q (sym (C.rolls-Item values b.0)) (steps.case-item values b.0 b.1)
  case-level (VCaseItem-F.Default b) = subst Q (sym (C.rolls-Default b.0)) (steps.case-default b.0 b.1)

  stmt-if-level : (on : VExpr) (b : AVBranch) (other : Option AVBranch) → R (roll-VStmt (map-VStmt AVBranch AVCaseItem AVStmt VBranch VCaseItem VStmt (λ e. e.0) (λ e. e.0) (λ e. e.0) (VStmt-F.If on b other)))
  stmt-if-level on b None = subst R (sym (T.rolls-If on b.0 None)) (steps.stmt-if on b.0 None b.1 tt)
  stmt-if-level on b (Some other) = subst R (sym (T.rolls-If on b.0 (Some other.0))) (steps.stmt-if on b.0 (Some other.0) b.1 other.1)

  stmt-level : (y : VStmt-F AVBranch AVCaseItem AVStmt) → R (roll-VStmt (map-VStmt AVBranch AVCaseItem AVStmt VBranch VCaseItem VStmt (λ e. e.0) (λ e. e.0) (λ e. e.0) y))
  stmt-level (VStmt-F.Block label ss) = subst R (sym (T.rolls-Block label (map (λ e. e.0) ss))) (steps.stmt-block label (map (λ e. e.0) ss) (each-stmt ss))
  stmt-level (VStmt-F.If on b other) = stmt-if-level on b other
  stmt-level (VStmt-F.Case kind on cs) = subst R (sym (T.rolls-Case kind on (map (λ e. e.0) cs))) (steps.stmt-case kind on (map (λ e. e.0) cs) (each-case cs))
  stmt-level (VStmt-F.Assign target value later) = subst R (sym (T.rolls-Assign target value later)) (steps.stmt-assign target value later)

  pub ind-branch : (x : VBranch) → P x
  ind-branch =
      ind-VBranch P Q R (λ x y is. subst (λ z. P (roll-VBranch z)) is (branch-level y)) (λ x y is. subst (λ z. Q (roll-VCaseItem z)) is (case-level y)) (λ x y is. subst (λ z. R (roll-VStmt z)) is (stmt-level y))

  pub ind-case : (x : VCaseItem) → Q x
  ind-case =
      ind-VCaseItem P Q R (λ x y is. subst (λ z. P (roll-VBranch z)) is (branch-level y)) (λ x y is. subst (λ z. Q (roll-VCaseItem z)) is (case-level y)) (λ x y is. subst (λ z. R (roll-VStmt z)) is (stmt-level y))

  pub ind-stmt : (x : VStmt) → R x
  ind-stmt =
      ind-VStmt P Q R (λ x y is. subst (λ z. P (roll-VBranch z)) is (branch-level y)) (λ x y is. subst (λ z. Q (roll-VCaseItem z)) is (case-level y)) (λ x y is. subst (λ z. R (roll-VStmt z)) is (stmt-level y))
