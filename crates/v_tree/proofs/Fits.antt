-- What a tree needs to be of the grammar, one level at a time.

use Rattle.std.proofs.Common.{◌≡◌, ℕ, Bool, List, map, Option, Some, None, sym, ap, ◌∙◌}
use Rattle.b4_core.specs.declared.bit.Bit4.{Bit4}
use Rattle.v_tree.specs.declared.expressions.VExtent.{VExtent}
use Rattle.v_tree.specs.declared.operators.VBinaryOp.{VBinaryOp}
use Rattle.v_tree.specs.declared.operators.VUnaryOp.{VUnaryOp}
use Rattle.v_tree.specs.declared.statements.VCaseKind.{VCaseKind}
use Rattle.v_tree.specs.declared.statements.VLabel.{VLabel}
use Rattle.v_tree.specs.declared.statements.VBranch.{VBranch, VBranch-F, fold-roll-VBranch}
use Rattle.v_tree.specs.declared.statements.VBranch.TheVariants as G
use Rattle.v_tree.specs.declared.statements.VCaseItem.{VCaseItem, VCaseItem-F, fold-VCaseItem, fold-roll-VCaseItem}
use Rattle.v_tree.specs.declared.statements.VCaseItem.TheVariants as C
use Rattle.v_tree.specs.declared.expressions.VExpr.{VExpr, VExpr-F, fold-roll-VExpr}
use Rattle.v_tree.specs.declared.expressions.VExpr.TheVariants as E
use Rattle.v_tree.specs.declared.statements.VLval.{VLval, VLval-F, fold-roll-VLval}
use Rattle.v_tree.specs.declared.statements.VLval.TheVariants as L
use Rattle.v_tree.specs.declared.expressions.VPrim.{VPrim, VPrim-F, fold-VPrim, fold-roll-VPrim}
use Rattle.v_tree.specs.declared.expressions.VPrim.TheVariants as O
use Rattle.v_tree.specs.declared.expressions.VSel.{VSel, VSel-F, fold-roll-VSel}
use Rattle.v_tree.specs.declared.expressions.VSel.TheVariants as S
use Rattle.v_tree.specs.declared.statements.VStmt.{VStmt, VStmt-F, fold-roll-VStmt}
use Rattle.v_tree.specs.declared.statements.VStmt.TheVariants as T
use Rattle.v_tree.specs.Grammatical.{Fit, Form, expr_fit, prim_fit, sel_fit, lval_fit, fit, fit_of_sel, fit_of_lval, branch_form, item_form, stmt_form, form_of_stmt, form_of_branch}

abbrev pub fit_of_prim : VPrim → Fit
fit_of_prim = fold-VPrim Fit Fit Fit expr_fit prim_fit sel_fit

abbrev pub form_of_case : VCaseItem → Form
form_of_case = fold-VCaseItem Form Form Form branch_form item_form stmt_form

pub expr-prim-fit : (a : VPrim) → fit (E.Prim a) ≡ expr_fit (VExpr-F.Prim (fit_of_prim a))
expr-prim-fit a = ap fit (sym (E.rolls-Prim a)) ∙ fold-roll-VExpr Fit Fit Fit expr_fit prim_fit sel_fit (VExpr-F.Prim a)

pub expr-unary-fit : (op : VUnaryOp) (a : VPrim) → fit (E.Unary op a) ≡ expr_fit (VExpr-F.Unary op (fit_of_prim a))
expr-unary-fit op a = ap fit (sym (E.rolls-Unary op a)) ∙ fold-roll-VExpr Fit Fit Fit expr_fit prim_fit sel_fit (VExpr-F.Unary op a)

pub expr-binary-fit : (op : VBinaryOp) (a : VPrim) (b : VPrim) → fit (E.Binary op a b) ≡ expr_fit (VExpr-F.Binary op (fit_of_prim a) (fit_of_prim b))
expr-binary-fit op a b = ap fit (sym (E.rolls-Binary op a b)) ∙ fold-roll-VExpr Fit Fit Fit expr_fit prim_fit sel_fit (VExpr-F.Binary op a b)

pub expr-choose-fit : (on : VPrim) (a : VPrim) (b : VPrim) → fit (E.Choose on a b) ≡ expr_fit (VExpr-F.Choose (fit_of_prim on) (fit_of_prim a) (fit_of_prim b))
expr-choose-fit on a b = ap fit (sym (E.rolls-Choose on a b)) ∙ fold-roll-VExpr Fit Fit Fit expr_fit prim_fit sel_fit (VExpr-F.Choose on a b)

pub prim-number-fit : (bits : List Bit4) → fit_of_prim (O.Number bits) ≡ prim_fit (VPrim-F.Number bits)
prim-number-fit bits = ap fit_of_prim (sym (O.rolls-Number bits)) ∙ fold-roll-VPrim Fit Fit Fit expr_fit prim_fit sel_fit (VPrim-F.Number bits)

pub prim-paren-fit : (x : VExpr) → fit_of_prim (O.Paren x) ≡ prim_fit (VPrim-F.Paren (fit x))
prim-paren-fit x = ap fit_of_prim (sym (O.rolls-Paren x)) ∙ fold-roll-VPrim Fit Fit Fit expr_fit prim_fit sel_fit (VPrim-F.Paren x)

pub prim-name-fit : (n : List ℕ) (ss : List VSel) → fit_of_prim (O.Name n ss) ≡ prim_fit (VPrim-F.Name n (map fit_of_sel ss))
prim-name-fit n ss = ap fit_of_prim (sym (O.rolls-Name n ss)) ∙ fold-roll-VPrim Fit Fit Fit expr_fit prim_fit sel_fit (VPrim-F.Name n ss)

pub prim-call-fit : (n : List ℕ) (xs : List VExpr) → fit_of_prim (O.Call n xs) ≡ prim_fit (VPrim-F.Call n (map fit xs))
prim-call-fit n xs = ap fit_of_prim (sym (O.rolls-Call n xs)) ∙ fold-roll-VPrim Fit Fit Fit expr_fit prim_fit sel_fit (VPrim-F.Call n xs)

pub prim-repeat-fit : (count : ℕ) (xs : List VExpr) → fit_of_prim (O.Repeat count xs) ≡ prim_fit (VPrim-F.Repeat count (map fit xs))
prim-repeat-fit count xs = ap fit_of_prim (sym (O.rolls-Repeat count xs)) ∙ fold-roll-VPrim Fit Fit Fit expr_fit prim_fit sel_fit (VPrim-F.Repeat count xs)

pub prim-concat-fit : (xs : List VExpr) → fit_of_prim (O.Concat xs) ≡ prim_fit (VPrim-F.Concat (map fit xs))
prim-concat-fit xs = ap fit_of_prim (sym (O.rolls-Concat xs)) ∙ fold-roll-VPrim Fit Fit Fit expr_fit prim_fit sel_fit (VPrim-F.Concat xs)

pub prim-sign-fit : (signed : Bool) (x : VExpr) → fit_of_prim (O.Sign signed x) ≡ prim_fit (VPrim-F.Sign signed (fit x))
prim-sign-fit signed x = ap fit_of_prim (sym (O.rolls-Sign signed x)) ∙ fold-roll-VPrim Fit Fit Fit expr_fit prim_fit sel_fit (VPrim-F.Sign signed x)

pub sel-decimal-fit : (base : ℕ) (extent : Option VExtent) → fit_of_sel (S.Decimal base extent) ≡ sel_fit (VSel-F.Decimal base extent)
sel-decimal-fit base extent = ap fit_of_sel (sym (S.rolls-Decimal base extent)) ∙ fold-roll-VSel Fit Fit Fit expr_fit prim_fit sel_fit (VSel-F.Decimal base extent)

pub sel-expr-fit : (x : VExpr) (extent : Option VExtent) → fit_of_sel (S.Expr x extent) ≡ sel_fit (VSel-F.Expr (fit x) extent)
sel-expr-fit x extent = ap fit_of_sel (sym (S.rolls-Expr x extent)) ∙ fold-roll-VSel Fit Fit Fit expr_fit prim_fit sel_fit (VSel-F.Expr x extent)

pub lval-name-fit : (n : List ℕ) (ss : List VSel) → fit_of_lval (L.Name n ss) ≡ lval_fit (VLval-F.Name n ss)
lval-name-fit n ss = ap fit_of_lval (sym (L.rolls-Name n ss)) ∙ fold-roll-VLval Fit lval_fit (VLval-F.Name n ss)

pub lval-concat-fit : (ls : List VLval) → fit_of_lval (L.Concat ls) ≡ lval_fit (VLval-F.Concat (map fit_of_lval ls))
lval-concat-fit ls = ap fit_of_lval (sym (L.rolls-Concat ls)) ∙ fold-roll-VLval Fit lval_fit (VLval-F.Concat ls)

pub branch-statement-form : (s : VStmt) → form_of_branch (G.Statement s) ≡ branch_form (VBranch-F.Statement (form_of_stmt s))
branch-statement-form s = ap form_of_branch (sym (G.rolls-Statement s)) ∙ fold-roll-VBranch Form Form Form branch_form item_form stmt_form (VBranch-F.Statement s)

pub branch-empty-form : form_of_branch G.Empty ≡ branch_form (VBranch-F.Empty)
branch-empty-form = ap form_of_branch (sym (G.rolls-Empty)) ∙ fold-roll-VBranch Form Form Form branch_form item_form stmt_form (VBranch-F.Empty)

pub case-item-form : (values : List VExpr) (b : VBranch) → form_of_case (C.Item values b) ≡ item_form (VCaseItem-F.Item values (form_of_branch b))
case-item-form values b = ap form_of_case (sym (C.rolls-Item values b)) ∙ fold-roll-VCaseItem Form Form Form branch_form item_form stmt_form (VCaseItem-F.Item values b)

pub case-default-form : (b : VBranch) → form_of_case (C.Default b) ≡ item_form (VCaseItem-F.Default (form_of_branch b))
case-default-form b = ap form_of_case (sym (C.rolls-Default b)) ∙ fold-roll-VCaseItem Form Form Form branch_form item_form stmt_form (VCaseItem-F.Default b)

pub stmt-block-form : (label : Option VLabel) (ss : List VStmt) → form_of_stmt (T.Block label ss) ≡ stmt_form (VStmt-F.Block label (map form_of_stmt ss))
stmt-block-form label ss = ap form_of_stmt (sym (T.rolls-Block label ss)) ∙ fold-roll-VStmt Form Form Form branch_form item_form stmt_form (VStmt-F.Block label ss)

pub stmt-if-form-none : (on : VExpr) (b : VBranch) → form_of_stmt (T.If on b None) ≡ stmt_form (VStmt-F.If on (form_of_branch b) None)
stmt-if-form-none on b = ap form_of_stmt (sym (T.rolls-If on b None)) ∙ fold-roll-VStmt Form Form Form branch_form item_form stmt_form (VStmt-F.If on b None)

pub stmt-if-form-some : (on : VExpr) (b : VBranch) (other : VBranch) → form_of_stmt (T.If on b (Some other)) ≡ stmt_form (VStmt-F.If on (form_of_branch b) (Some (form_of_branch other)))
stmt-if-form-some on b other = ap form_of_stmt (sym (T.rolls-If on b (Some other))) ∙ fold-roll-VStmt Form Form Form branch_form item_form stmt_form (VStmt-F.If on b (Some other))

pub stmt-case-form : (kind : VCaseKind) (on : VExpr) (cs : List VCaseItem) → form_of_stmt (T.Case kind on cs) ≡ stmt_form (VStmt-F.Case kind on (map form_of_case cs))
stmt-case-form kind on cs = ap form_of_stmt (sym (T.rolls-Case kind on cs)) ∙ fold-roll-VStmt Form Form Form branch_form item_form stmt_form (VStmt-F.Case kind on cs)

pub stmt-assign-form : (target : VLval) (value : VExpr) (later : Bool) → form_of_stmt (T.Assign target value later) ≡ stmt_form (VStmt-F.Assign target value later)
stmt-assign-form target value later = ap form_of_stmt (sym (T.rolls-Assign target value later)) ∙ fold-roll-VStmt Form Form Form branch_form item_form stmt_form (VStmt-F.Assign target value later)
