-- One level of a statement at a time: what a fold over statements gives for each variant.
use Rattle.std.proofs.Common.{◌≡◌, ◌⊎◌, ℕ, Bool, List, [], ◌∷◌, map, Option, Some, None, refl, sym, ap, ◌∙◌, inl, inr}
use Rattle.sv_core.specs.declared.design.Expr.{Expr}
use Rattle.sv_core.specs.declared.design.Stmt.{Stmt, Stmt-F, fold-Stmt, fold-roll-Stmt, out-Stmt, out-roll-Stmt}
use Rattle.sv_core.specs.declared.design.Stmt.TheVariants.{Block, If, Assign, rolls-Block, rolls-If, rolls-Assign}
use Rattle.b4_core.specs.declared.bit.Bit4.{Bit4}
use Rattle.v_tree.specs.Names.{Name}
use Rattle.v_tree.specs.declared.operators.VBinaryOp.{VBinaryOp}
use Rattle.v_tree.specs.declared.operators.VUnaryOp.{VUnaryOp}
use Rattle.v_tree.specs.declared.expressions.VPrim.{VPrim, fold-VPrim, VPrim-F, fold-roll-VPrim}
use Rattle.v_tree.specs.declared.expressions.VPrim.TheVariants as P
use Rattle.v_tree.specs.declared.expressions.VExpr.{VExpr, VExpr-F, fold-VExpr, fold-roll-VExpr}
use Rattle.v_tree.specs.declared.expressions.VExpr.TheVariants as E
use Rattle.v_tree.specs.declared.expressions.VSel.{VSel-F}
use Rattle.v_tree.specs.declared.statements.VLval.{VLval, VLval-F, fold-VLval, fold-roll-VLval}
use Rattle.v_tree.specs.declared.statements.VLval.TheVariants as L
use Rattle.v_tree.specs.declared.statements.VBranch.{VBranch, VBranch-F, fold-VBranch, fold-roll-VBranch}
use Rattle.v_tree.specs.declared.statements.VBranch.TheVariants.{Statement, Empty, rolls-Statement, rolls-Empty}
use Rattle.v_tree.specs.declared.statements.VCaseItem.{VCaseItem, VCaseItem-F}
use Rattle.v_tree.specs.declared.statements.VStmt.{VStmt, VStmt-F, fold-VStmt, fold-roll-VStmt, roll-VStmt, out-VStmt, out-roll-VStmt, roll-out-VStmt}
use Rattle.v_tree.specs.declared.statements.VStmt.TheVariants as V
use Rattle.lower_design.specs.Lowered.{lines, lines_of, whole_name, whole_target}

module _ (A : Type 0) (step : Stmt-F A → A) where
  abbrev pub folded : Stmt → A
  folded = fold-Stmt A step

  pub block-level : (ss : List Stmt) → folded (Block ss) ≡ step (Stmt-F.Block (map folded ss))
  block-level ss = ap folded (sym (rolls-Block ss)) ∙ fold-roll-Stmt A step (Stmt-F.Block ss)

  pub alone-level : (on : Expr) (body : Stmt) → folded (If on body None) ≡ step (Stmt-F.If on (folded body) None)
  alone-level on body = ap folded (sym (rolls-If on body None)) ∙ fold-roll-Stmt A step (Stmt-F.If on body None)

  pub either-level : (on : Expr) (body other : Stmt) → folded (If on body (Some other)) ≡ step (Stmt-F.If on (folded body) (Some (folded other)))
  either-level on body other = ap folded (sym (rolls-If on body (Some other))) ∙ fold-roll-Stmt A step (Stmt-F.If on body (Some other))

  pub assign-level : (to : ℕ) (value : Expr) (later : Bool) → folded (Assign to value later) ≡ step (Stmt-F.Assign to value later)
  assign-level to value later = ap folded (sym (rolls-Assign to value later)) ∙ fold-roll-Stmt A step (Stmt-F.Assign to value later)

pub assign-out : (to : ℕ) (value : Expr) (later : Bool) → out-Stmt (Assign to value later) ≡ Stmt-F.Assign to value later
assign-out to value later = ap out-Stmt (sym (rolls-Assign to value later)) ∙ out-roll-Stmt (Stmt-F.Assign to value later)

module _ (A C B : Type 0) (branch : VBranch-F A C B → A) (item : VCaseItem-F A C B → C) (step : VStmt-F A C B → B) where
  abbrev pub of_branch : VBranch → A
  of_branch = fold-VBranch A C B branch item step

  abbrev pub of_stmt : VStmt → B
  of_stmt = fold-VStmt A C B branch item step

  pub statement-target : (s : VStmt) → of_branch (Statement s) ≡ branch (VBranch-F.Statement (of_stmt s))
  statement-target s = ap of_branch (sym (rolls-Statement s)) ∙ fold-roll-VBranch A C B branch item step (VBranch-F.Statement s)

  pub empty-target : of_branch Empty ≡ branch VBranch-F.Empty
  empty-target = ap of_branch (sym rolls-Empty) ∙ fold-roll-VBranch A C B branch item step VBranch-F.Empty

  pub block-target : (ss : List VStmt) → of_stmt (V.Block None ss) ≡ step (VStmt-F.Block None (map of_stmt ss))
  block-target ss = ap of_stmt (sym (V.rolls-Block None ss)) ∙ fold-roll-VStmt A C B branch item step (VStmt-F.Block None ss)

  pub alone-target : (on : VExpr) (body : VBranch) → of_stmt (V.If on body None) ≡ step (VStmt-F.If on (of_branch body) None)
  alone-target on body = ap of_stmt (sym (V.rolls-If on body None)) ∙ fold-roll-VStmt A C B branch item step (VStmt-F.If on body None)

  pub either-target : (on : VExpr) (body other : VBranch) → of_stmt (V.If on body (Some other)) ≡ step (VStmt-F.If on (of_branch body) (Some (of_branch other)))
  either-target on body other = ap of_stmt (sym (V.rolls-If on body (Some other))) ∙ fold-roll-VStmt A C B branch item step (VStmt-F.If on body (Some other))

  pub assign-target : (target : VLval) (value : VExpr) (later : Bool) → of_stmt (V.Assign target value later) ≡ step (VStmt-F.Assign target value later)
  assign-target target value later = ap of_stmt (sym (V.rolls-Assign target value later)) ∙ fold-roll-VStmt A C B branch item step (VStmt-F.Assign target value later)

module _ (A B C : Type 0) (step : VExpr-F A B C → A) (prim : VPrim-F A B C → B) (sel : VSel-F A B C → C) where
  abbrev pub of_expr : VExpr → A
  of_expr = fold-VExpr A B C step prim sel

  abbrev pub of_prim : VPrim → B
  of_prim = fold-VPrim A B C step prim sel

  pub number-level : (bits : List Bit4) → of_prim (P.Number bits) ≡ prim (VPrim-F.Number bits)
  number-level bits = ap of_prim (sym (P.rolls-Number bits)) ∙ fold-roll-VPrim A B C step prim sel (VPrim-F.Number bits)

  pub name-level : (n : Name) → of_prim (whole_name n) ≡ prim (VPrim-F.Name n [])
  name-level n = ap of_prim (sym (P.rolls-Name n [])) ∙ fold-roll-VPrim A B C step prim sel (VPrim-F.Name n [])

  pub paren-level : (x : VExpr) → of_prim (P.Paren x) ≡ prim (VPrim-F.Paren (of_expr x))
  paren-level x = ap of_prim (sym (P.rolls-Paren x)) ∙ fold-roll-VPrim A B C step prim sel (VPrim-F.Paren x)

  pub prim-level : (p : VPrim) → of_expr (E.Prim p) ≡ step (VExpr-F.Prim (of_prim p))
  prim-level p = ap of_expr (sym (E.rolls-Prim p)) ∙ fold-roll-VExpr A B C step prim sel (VExpr-F.Prim p)

  pub unary-level : (op : VUnaryOp) (p : VPrim) → of_expr (E.Unary op p) ≡ step (VExpr-F.Unary op (of_prim p))
  unary-level op p = ap of_expr (sym (E.rolls-Unary op p)) ∙ fold-roll-VExpr A B C step prim sel (VExpr-F.Unary op p)

  pub binary-level : (op : VBinaryOp) (p q : VPrim) → of_expr (E.Binary op p q) ≡ step (VExpr-F.Binary op (of_prim p) (of_prim q))
  binary-level op p q = ap of_expr (sym (E.rolls-Binary op p q)) ∙ fold-roll-VExpr A B C step prim sel (VExpr-F.Binary op p q)

module _ (A : Type 0) (step : VLval-F A → A) where
  pub target-level : (n : Name) → fold-VLval A step (whole_target n) ≡ step (VLval-F.Name n [])
  target-level n = ap (fold-VLval A step) (sym (L.rolls-Name n [])) ∙ fold-roll-VLval A step (VLval-F.Name n [])

-- a statement is a block of its lines, or is its line alone
pub lines-are : (s : VStmt) → (s ≡ V.Block None (lines s)) ⊎ (lines s ≡ s ∷ [])
lines-are s = inner (out-VStmt s) refl
  where
    inner : (x : VStmt-F VBranch VCaseItem VStmt) → out-VStmt s ≡ x → (s ≡ V.Block None (lines s)) ⊎ (lines s ≡ s ∷ [])
    inner (VStmt-F.Block None ss) e =
        inl (sym (roll-out-VStmt s) ∙ ap roll-VStmt e ∙ V.rolls-Block None ss ∙ ap (V.Block None) (sym (ap (lines_of s) e)))
    inner (VStmt-F.Block (Some label) ss) e = inr (ap (lines_of s) e)
    inner (VStmt-F.If on body other) e = inr (ap (lines_of s) e)
    inner (VStmt-F.Case kind on items) e = inr (ap (lines_of s) e)
    inner (VStmt-F.Assign target value later) e = inr (ap (lines_of s) e)

pub lines-block : (ss : List VStmt) → lines (V.Block None ss) ≡ ss
lines-block ss = ap (lines_of (V.Block None ss)) (ap out-VStmt (sym (V.rolls-Block None ss)) ∙ out-roll-VStmt (VStmt-F.Block None ss))

pub lines-if : (on : VExpr) (body : VBranch) (other : Option VBranch) → lines (V.If on body other) ≡ V.If on body other ∷ []
lines-if on body other = ap (lines_of (V.If on body other)) (ap out-VStmt (sym (V.rolls-If on body other)) ∙ out-roll-VStmt (VStmt-F.If on body other))

pub lines-assign : (target : VLval) (value : VExpr) (later : Bool) → lines (V.Assign target value later) ≡ V.Assign target value later ∷ []
lines-assign target value later =
    ap (lines_of (V.Assign target value later)) (ap out-VStmt (sym (V.rolls-Assign target value later)) ∙ out-roll-VStmt (VStmt-F.Assign target value later))
