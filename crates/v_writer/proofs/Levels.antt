-- The layout of trees, one level at a time.

use Rattle.std.proofs.Common.{◌≡◌, ℕ, Bool, List, ◌∷◌, ◌++◌, map, codes, Option, Some, None, sym, ap, ◌∙◌}
use Rattle.b4_core.specs.declared.bit.Bit4.{Bit4}
use Rattle.v_tree.specs.declared.expressions.VExtent.{VExtent}
use Rattle.v_tree.specs.declared.operators.VBinaryOp.{VBinaryOp}
use Rattle.v_tree.specs.declared.operators.VUnaryOp.{VUnaryOp}
use Rattle.v_tree.specs.declared.statements.VCaseKind.{VCaseKind}
use Rattle.v_tree.specs.declared.statements.VLabel.{VLabel}
use Rattle.v_tree.specs.declared.statements.VBranch.{VBranch, VBranch-F, fold-roll-VBranch}
use Rattle.v_tree.specs.declared.statements.VBranch.TheVariants as G
use Rattle.v_tree.specs.declared.statements.VCaseItem.{VCaseItem, VCaseItem-F, fold-roll-VCaseItem}
use Rattle.v_tree.specs.declared.statements.VCaseItem.TheVariants as C
use Rattle.v_tree.specs.declared.expressions.VExpr.{VExpr, VExpr-F, fold-roll-VExpr}
use Rattle.v_tree.specs.declared.expressions.VExpr.TheVariants as E
use Rattle.v_tree.specs.declared.statements.VLval.{VLval, VLval-F, fold-roll-VLval}
use Rattle.v_tree.specs.declared.statements.VLval.TheVariants as L
use Rattle.v_tree.specs.declared.expressions.VPrim.{VPrim, VPrim-F, fold-roll-VPrim}
use Rattle.v_tree.specs.declared.expressions.VPrim.TheVariants as O
use Rattle.v_tree.specs.declared.expressions.VSel.{VSel, VSel-F, fold-roll-VSel}
use Rattle.v_tree.specs.declared.expressions.VSel.TheVariants as S
use Rattle.v_tree.specs.declared.statements.VStmt.{VStmt, VStmt-F, fold-roll-VStmt}
use Rattle.v_tree.specs.declared.statements.VStmt.TheVariants as T
use Rattle.v_writer.specs.Layout.{Piece, Placed, space, word, mark, sel_pieces, prim_pieces, expr_pieces, sel_layout, prim_layout, expr_layout, lval_pieces, lval_layout, branch_pieces, case_pieces, stmt_pieces, stmt_layout, case_layout, branch_layout, else_of}

pub expr-prim-layout : (a : VPrim) → expr_layout (E.Prim a) ≡ expr_pieces (VExpr-F.Prim (prim_layout a))
expr-prim-layout a = ap expr_layout (sym (E.rolls-Prim a)) ∙ fold-roll-VExpr (List Piece) (List Piece) (List Piece) expr_pieces prim_pieces sel_pieces (VExpr-F.Prim a)

pub expr-unary-layout : (op : VUnaryOp) (a : VPrim) → expr_layout (E.Unary op a) ≡ expr_pieces (VExpr-F.Unary op (prim_layout a))
expr-unary-layout op a = ap expr_layout (sym (E.rolls-Unary op a)) ∙ fold-roll-VExpr (List Piece) (List Piece) (List Piece) expr_pieces prim_pieces sel_pieces (VExpr-F.Unary op a)

pub expr-binary-layout : (op : VBinaryOp) (a : VPrim) (b : VPrim) → expr_layout (E.Binary op a b) ≡ expr_pieces (VExpr-F.Binary op (prim_layout a) (prim_layout b))
expr-binary-layout op a b = ap expr_layout (sym (E.rolls-Binary op a b)) ∙ fold-roll-VExpr (List Piece) (List Piece) (List Piece) expr_pieces prim_pieces sel_pieces (VExpr-F.Binary op a b)

pub expr-choose-layout : (on : VPrim) (a : VPrim) (b : VPrim) → expr_layout (E.Choose on a b) ≡ expr_pieces (VExpr-F.Choose (prim_layout on) (prim_layout a) (prim_layout b))
expr-choose-layout on a b = ap expr_layout (sym (E.rolls-Choose on a b)) ∙ fold-roll-VExpr (List Piece) (List Piece) (List Piece) expr_pieces prim_pieces sel_pieces (VExpr-F.Choose on a b)

pub prim-number-layout : (bits : List Bit4) → prim_layout (O.Number bits) ≡ prim_pieces (VPrim-F.Number bits)
prim-number-layout bits = ap prim_layout (sym (O.rolls-Number bits)) ∙ fold-roll-VPrim (List Piece) (List Piece) (List Piece) expr_pieces prim_pieces sel_pieces (VPrim-F.Number bits)

pub prim-paren-layout : (x : VExpr) → prim_layout (O.Paren x) ≡ prim_pieces (VPrim-F.Paren (expr_layout x))
prim-paren-layout x = ap prim_layout (sym (O.rolls-Paren x)) ∙ fold-roll-VPrim (List Piece) (List Piece) (List Piece) expr_pieces prim_pieces sel_pieces (VPrim-F.Paren x)

pub prim-name-layout : (n : List ℕ) (ss : List VSel) → prim_layout (O.Name n ss) ≡ prim_pieces (VPrim-F.Name n (map sel_layout ss))
prim-name-layout n ss = ap prim_layout (sym (O.rolls-Name n ss)) ∙ fold-roll-VPrim (List Piece) (List Piece) (List Piece) expr_pieces prim_pieces sel_pieces (VPrim-F.Name n ss)

pub prim-call-layout : (n : List ℕ) (xs : List VExpr) → prim_layout (O.Call n xs) ≡ prim_pieces (VPrim-F.Call n (map expr_layout xs))
prim-call-layout n xs = ap prim_layout (sym (O.rolls-Call n xs)) ∙ fold-roll-VPrim (List Piece) (List Piece) (List Piece) expr_pieces prim_pieces sel_pieces (VPrim-F.Call n xs)

pub prim-repeat-layout : (count : ℕ) (xs : List VExpr) → prim_layout (O.Repeat count xs) ≡ prim_pieces (VPrim-F.Repeat count (map expr_layout xs))
prim-repeat-layout count xs = ap prim_layout (sym (O.rolls-Repeat count xs)) ∙ fold-roll-VPrim (List Piece) (List Piece) (List Piece) expr_pieces prim_pieces sel_pieces (VPrim-F.Repeat count xs)

pub prim-concat-layout : (xs : List VExpr) → prim_layout (O.Concat xs) ≡ prim_pieces (VPrim-F.Concat (map expr_layout xs))
prim-concat-layout xs = ap prim_layout (sym (O.rolls-Concat xs)) ∙ fold-roll-VPrim (List Piece) (List Piece) (List Piece) expr_pieces prim_pieces sel_pieces (VPrim-F.Concat xs)

pub prim-sign-layout : (signed : Bool) (x : VExpr) → prim_layout (O.Sign signed x) ≡ prim_pieces (VPrim-F.Sign signed (expr_layout x))
prim-sign-layout signed x = ap prim_layout (sym (O.rolls-Sign signed x)) ∙ fold-roll-VPrim (List Piece) (List Piece) (List Piece) expr_pieces prim_pieces sel_pieces (VPrim-F.Sign signed x)

pub sel-decimal-layout : (base : ℕ) (extent : Option VExtent) → sel_layout (S.Decimal base extent) ≡ sel_pieces (VSel-F.Decimal base extent)
sel-decimal-layout base extent = ap sel_layout (sym (S.rolls-Decimal base extent)) ∙ fold-roll-VSel (List Piece) (List Piece) (List Piece) expr_pieces prim_pieces sel_pieces (VSel-F.Decimal base extent)

pub sel-expr-layout : (x : VExpr) (extent : Option VExtent) → sel_layout (S.Expr x extent) ≡ sel_pieces (VSel-F.Expr (expr_layout x) extent)
sel-expr-layout x extent = ap sel_layout (sym (S.rolls-Expr x extent)) ∙ fold-roll-VSel (List Piece) (List Piece) (List Piece) expr_pieces prim_pieces sel_pieces (VSel-F.Expr x extent)

pub lval-name-layout : (n : List ℕ) (ss : List VSel) → lval_layout (L.Name n ss) ≡ lval_pieces (VLval-F.Name n ss)
lval-name-layout n ss = ap lval_layout (sym (L.rolls-Name n ss)) ∙ fold-roll-VLval (List Piece) lval_pieces (VLval-F.Name n ss)

pub lval-concat-layout : (ls : List VLval) → lval_layout (L.Concat ls) ≡ lval_pieces (VLval-F.Concat (map lval_layout ls))
lval-concat-layout ls = ap lval_layout (sym (L.rolls-Concat ls)) ∙ fold-roll-VLval (List Piece) lval_pieces (VLval-F.Concat ls)

pub branch-statement-level : (s : VStmt) → branch_layout (G.Statement s) ≡ branch_pieces (VBranch-F.Statement (stmt_layout s))
branch-statement-level s = ap branch_layout (sym (G.rolls-Statement s)) ∙ fold-roll-VBranch Placed Placed Placed branch_pieces case_pieces stmt_pieces (VBranch-F.Statement s)

pub branch-empty-level : branch_layout G.Empty ≡ branch_pieces (VBranch-F.Empty)
branch-empty-level = ap branch_layout (sym (G.rolls-Empty)) ∙ fold-roll-VBranch Placed Placed Placed branch_pieces case_pieces stmt_pieces (VBranch-F.Empty)

pub case-item-level : (values : List VExpr) (b : VBranch) → case_layout (C.Item values b) ≡ case_pieces (VCaseItem-F.Item values (branch_layout b))
case-item-level values b = ap case_layout (sym (C.rolls-Item values b)) ∙ fold-roll-VCaseItem Placed Placed Placed branch_pieces case_pieces stmt_pieces (VCaseItem-F.Item values b)

pub case-default-level : (b : VBranch) → case_layout (C.Default b) ≡ case_pieces (VCaseItem-F.Default (branch_layout b))
case-default-level b = ap case_layout (sym (C.rolls-Default b)) ∙ fold-roll-VCaseItem Placed Placed Placed branch_pieces case_pieces stmt_pieces (VCaseItem-F.Default b)

pub stmt-block-level : (label : Option VLabel) (ss : List VStmt) → stmt_layout (T.Block label ss) ≡ stmt_pieces (VStmt-F.Block label (map stmt_layout ss))
stmt-block-level label ss = ap stmt_layout (sym (T.rolls-Block label ss)) ∙ fold-roll-VStmt Placed Placed Placed branch_pieces case_pieces stmt_pieces (VStmt-F.Block label ss)

pub stmt-if-level-none : (on : VExpr) (b : VBranch) → stmt_layout (T.If on b None) ≡ stmt_pieces (VStmt-F.If on (branch_layout b) None)
stmt-if-level-none on b = ap stmt_layout (sym (T.rolls-If on b None)) ∙ fold-roll-VStmt Placed Placed Placed branch_pieces case_pieces stmt_pieces (VStmt-F.If on b None)

pub stmt-if-level-some : (on : VExpr) (b : VBranch) (other : VBranch) → stmt_layout (T.If on b (Some other)) ≡ stmt_pieces (VStmt-F.If on (branch_layout b) (Some (branch_layout other)))
stmt-if-level-some on b other = ap stmt_layout (sym (T.rolls-If on b (Some other))) ∙ fold-roll-VStmt Placed Placed Placed branch_pieces case_pieces stmt_pieces (VStmt-F.If on b (Some other))

pub stmt-case-level : (kind : VCaseKind) (on : VExpr) (cs : List VCaseItem) → stmt_layout (T.Case kind on cs) ≡ stmt_pieces (VStmt-F.Case kind on (map case_layout cs))
stmt-case-level kind on cs = ap stmt_layout (sym (T.rolls-Case kind on cs)) ∙ fold-roll-VStmt Placed Placed Placed branch_pieces case_pieces stmt_pieces (VStmt-F.Case kind on cs)

pub stmt-assign-level : (target : VLval) (value : VExpr) (later : Bool) → stmt_layout (T.Assign target value later) ≡ stmt_pieces (VStmt-F.Assign target value later)
stmt-assign-level target value later = ap stmt_layout (sym (T.rolls-Assign target value later)) ∙ fold-roll-VStmt Placed Placed Placed branch_pieces case_pieces stmt_pieces (VStmt-F.Assign target value later)

pub branch-statement-layout : (s : VStmt) (depth : ℕ) → branch_layout (G.Statement s) depth ≡ branch_pieces (VBranch-F.Statement (stmt_layout s)) depth
branch-statement-layout s depth = ap (λ (w : Placed). w depth) (branch-statement-level s)

pub branch-empty-layout : (depth : ℕ) → branch_layout G.Empty depth ≡ branch_pieces (VBranch-F.Empty) depth
branch-empty-layout depth = ap (λ (w : Placed). w depth) branch-empty-level

pub case-item-layout : (values : List VExpr) (b : VBranch) (depth : ℕ) → case_layout (C.Item values b) depth ≡ case_pieces (VCaseItem-F.Item values (branch_layout b)) depth
case-item-layout values b depth = ap (λ (w : Placed). w depth) (case-item-level values b)

pub case-default-layout : (b : VBranch) (depth : ℕ) → case_layout (C.Default b) depth ≡ case_pieces (VCaseItem-F.Default (branch_layout b)) depth
case-default-layout b depth = ap (λ (w : Placed). w depth) (case-default-level b)

pub stmt-block-layout : (label : Option VLabel) (ss : List VStmt) (depth : ℕ) → stmt_layout (T.Block label ss) depth ≡ stmt_pieces (VStmt-F.Block label (map stmt_layout ss)) depth
stmt-block-layout label ss depth = ap (λ (w : Placed). w depth) (stmt-block-level label ss)

pub stmt-if-layout-none : (on : VExpr) (b : VBranch) (depth : ℕ) → stmt_layout (T.If on b None) depth ≡ stmt_pieces (VStmt-F.If on (branch_layout b) None) depth
stmt-if-layout-none on b depth = ap (λ (w : Placed). w depth) (stmt-if-level-none on b)

pub stmt-if-layout-some : (on : VExpr) (b : VBranch) (other : VBranch) (depth : ℕ) → stmt_layout (T.If on b (Some other)) depth ≡ stmt_pieces (VStmt-F.If on (branch_layout b) (Some (branch_layout other))) depth
stmt-if-layout-some on b other depth = ap (λ (w : Placed). w depth) (stmt-if-level-some on b other)

pub stmt-case-layout : (kind : VCaseKind) (on : VExpr) (cs : List VCaseItem) (depth : ℕ) → stmt_layout (T.Case kind on cs) depth ≡ stmt_pieces (VStmt-F.Case kind on (map case_layout cs)) depth
stmt-case-layout kind on cs depth = ap (λ (w : Placed). w depth) (stmt-case-level kind on cs)

pub stmt-assign-layout : (target : VLval) (value : VExpr) (later : Bool) (depth : ℕ) → stmt_layout (T.Assign target value later) depth ≡ stmt_pieces (VStmt-F.Assign target value later) depth
stmt-assign-layout target value later depth = ap (λ (w : Placed). w depth) (stmt-assign-level target value later)

pub stmt-if-layout : (on : VExpr) (b : VBranch) (other : Option VBranch) (depth : ℕ)
    → stmt_layout (T.If on b other) depth
    ≡ word (codes "if") ∷ space ∷ mark (codes "(") ∷ (expr_layout on ++ mark (codes ")") ∷ space ∷ (branch_layout b depth ++ else_of depth other))
stmt-if-layout on b None depth = stmt-if-layout-none on b depth
stmt-if-layout on b (Some other) depth = stmt-if-layout-some on b other depth
