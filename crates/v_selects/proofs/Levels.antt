-- What few selects are in each form.
use Rattle.std.proofs.Common.{◌≡◌, ℕ, Bool, true, ◌&&◌, List, [], ◌∷◌, length, map, Option, Some, None, refl, sym, ap, ◌∙◌}
use Rattle.std.specs.Prelude.{nat_le}
use Rattle.std.specs.List.{list_all}
use Rattle.std.proofs.lemmas.List.{length-map}
use Rattle.b4_core.specs.declared.bit.Bit4.{Bit4}
use Rattle.v_tree.specs.declared.expressions.VExpr.{VExpr, VExpr-F, fold-roll-VExpr}
use Rattle.v_tree.specs.declared.expressions.VExpr.TheVariants as E
use Rattle.v_tree.specs.declared.expressions.VExtent.{VExtent}
use Rattle.v_tree.specs.declared.expressions.VPrim.{VPrim, VPrim-F, fold-roll-VPrim}
use Rattle.v_tree.specs.declared.expressions.VPrim.TheVariants as O
use Rattle.v_tree.specs.declared.expressions.VSel.{VSel, VSel-F, fold-roll-VSel}
use Rattle.v_tree.specs.declared.expressions.VSel.TheVariants as S
use Rattle.v_tree.specs.declared.operators.VBinaryOp.{VBinaryOp}
use Rattle.v_tree.specs.declared.operators.VUnaryOp.{VUnaryOp}
use Rattle.v_tree.specs.declared.statements.VBranch.{VBranch, VBranch-F, fold-roll-VBranch}
use Rattle.v_tree.specs.declared.statements.VBranch.TheVariants as G
use Rattle.v_tree.specs.declared.statements.VCaseItem.{VCaseItem, VCaseItem-F, fold-roll-VCaseItem}
use Rattle.v_tree.specs.declared.statements.VCaseItem.TheVariants as C
use Rattle.v_tree.specs.declared.statements.VCaseKind.{VCaseKind}
use Rattle.v_tree.specs.declared.statements.VLabel.{VLabel}
use Rattle.v_tree.specs.declared.statements.VLval.{VLval, VLval-F, fold-roll-VLval}
use Rattle.v_tree.specs.declared.statements.VLval.TheVariants as L
use Rattle.v_tree.specs.declared.statements.VStmt.{VStmt, VStmt-F, fold-roll-VStmt}
use Rattle.v_tree.specs.declared.statements.VStmt.TheVariants as T
use Rattle.v_tree.specs.Grammatical.{is_perhaps}
use Rattle.v_selects.specs.Few.{each_few, sel_few, prim_few, expr_few, few_of_expr, few_of_prim, few_of_sel, few_of_sels, lval_few, few_of_lval, branch_few, case_item_few, stmt_few, few_of_stmt, few_of_branch, few_of_case_item}

each-is : {A : Type 0} (test : A → Bool) (xs : List A) → each_few (map test xs) ≡ list_all test xs
each-is test [] = refl
each-is test (x ∷ xs) = ap (λ b. test x && b) (each-is test xs)

pub at-prim : (a : VPrim) → few_of_expr (E.Prim a) ≡ few_of_prim a
at-prim a = ap few_of_expr (sym (E.rolls-Prim a)) ∙ fold-roll-VExpr Bool Bool Bool expr_few prim_few sel_few (VExpr-F.Prim a)

pub at-unary : (op : VUnaryOp) (a : VPrim) → few_of_expr (E.Unary op a) ≡ few_of_prim a
at-unary op a = ap few_of_expr (sym (E.rolls-Unary op a)) ∙ fold-roll-VExpr Bool Bool Bool expr_few prim_few sel_few (VExpr-F.Unary op a)

pub at-binary : (op : VBinaryOp) (a b : VPrim) → few_of_expr (E.Binary op a b) ≡ (few_of_prim a && few_of_prim b)
at-binary op a b = ap few_of_expr (sym (E.rolls-Binary op a b)) ∙ fold-roll-VExpr Bool Bool Bool expr_few prim_few sel_few (VExpr-F.Binary op a b)

pub at-choose : (on a b : VPrim) → few_of_expr (E.Choose on a b) ≡ (few_of_prim on && few_of_prim a && few_of_prim b)
at-choose on a b = ap few_of_expr (sym (E.rolls-Choose on a b)) ∙ fold-roll-VExpr Bool Bool Bool expr_few prim_few sel_few (VExpr-F.Choose on a b)

pub at-number : (bits : List Bit4) → few_of_prim (O.Number bits) ≡ true
at-number bits = ap few_of_prim (sym (O.rolls-Number bits)) ∙ fold-roll-VPrim Bool Bool Bool expr_few prim_few sel_few (VPrim-F.Number bits)

pub at-paren : (x : VExpr) → few_of_prim (O.Paren x) ≡ few_of_expr x
at-paren x = ap few_of_prim (sym (O.rolls-Paren x)) ∙ fold-roll-VPrim Bool Bool Bool expr_few prim_few sel_few (VPrim-F.Paren x)

pub at-name : (n : List ℕ) (ss : List VSel) → few_of_prim (O.Name n ss) ≡ few_of_sels ss
at-name n ss =
    ap few_of_prim (sym (O.rolls-Name n ss)) ∙ fold-roll-VPrim Bool Bool Bool expr_few prim_few sel_few (VPrim-F.Name n ss)
    ∙ ap (λ k. nat_le k 2 && each_few (map few_of_sel ss)) (length-map ss few_of_sel) ∙ ap (λ b. nat_le (length ss) 2 && b) (each-is few_of_sel ss)

pub at-call : (n : List ℕ) (xs : List VExpr) → few_of_prim (O.Call n xs) ≡ list_all few_of_expr xs
at-call n xs =
    ap few_of_prim (sym (O.rolls-Call n xs)) ∙ fold-roll-VPrim Bool Bool Bool expr_few prim_few sel_few (VPrim-F.Call n xs) ∙ each-is few_of_expr xs

pub at-repeat : (count : ℕ) (xs : List VExpr) → few_of_prim (O.Repeat count xs) ≡ list_all few_of_expr xs
at-repeat count xs =
    ap few_of_prim (sym (O.rolls-Repeat count xs)) ∙ fold-roll-VPrim Bool Bool Bool expr_few prim_few sel_few (VPrim-F.Repeat count xs) ∙ each-is few_of_expr xs

pub at-concat : (xs : List VExpr) → few_of_prim (O.Concat xs) ≡ list_all few_of_expr xs
at-concat xs =
    ap few_of_prim (sym (O.rolls-Concat xs)) ∙ fold-roll-VPrim Bool Bool Bool expr_few prim_few sel_few (VPrim-F.Concat xs) ∙ each-is few_of_expr xs

pub at-sign : (signed : Bool) (x : VExpr) → few_of_prim (O.Sign signed x) ≡ few_of_expr x
at-sign signed x = ap few_of_prim (sym (O.rolls-Sign signed x)) ∙ fold-roll-VPrim Bool Bool Bool expr_few prim_few sel_few (VPrim-F.Sign signed x)

pub at-decimal : (base : ℕ) (extent : Option VExtent) → few_of_sel (S.Decimal base extent) ≡ true
at-decimal base extent = ap few_of_sel (sym (S.rolls-Decimal base extent)) ∙ fold-roll-VSel Bool Bool Bool expr_few prim_few sel_few (VSel-F.Decimal base extent)

pub at-moving : (x : VExpr) (extent : Option VExtent) → few_of_sel (S.Expr x extent) ≡ few_of_expr x
at-moving x extent = ap few_of_sel (sym (S.rolls-Expr x extent)) ∙ fold-roll-VSel Bool Bool Bool expr_few prim_few sel_few (VSel-F.Expr x extent)

pub at-lvalue : (n : List ℕ) (ss : List VSel) → few_of_lval (L.Name n ss) ≡ few_of_sels ss
at-lvalue n ss = ap few_of_lval (sym (L.rolls-Name n ss)) ∙ fold-roll-VLval Bool lval_few (VLval-F.Name n ss)

pub at-lvalues : (ls : List VLval) → few_of_lval (L.Concat ls) ≡ list_all few_of_lval ls
at-lvalues ls = ap few_of_lval (sym (L.rolls-Concat ls)) ∙ fold-roll-VLval Bool lval_few (VLval-F.Concat ls) ∙ each-is few_of_lval ls

pub at-statement : (s : VStmt) → few_of_branch (G.Statement s) ≡ few_of_stmt s
at-statement s = ap few_of_branch (sym (G.rolls-Statement s)) ∙ fold-roll-VBranch Bool Bool Bool branch_few case_item_few stmt_few (VBranch-F.Statement s)

pub at-empty : few_of_branch G.Empty ≡ true
at-empty = ap few_of_branch (sym G.rolls-Empty) ∙ fold-roll-VBranch Bool Bool Bool branch_few case_item_few stmt_few VBranch-F.Empty

pub at-item : (values : List VExpr) (body : VBranch) → few_of_case_item (C.Item values body) ≡ (list_all few_of_expr values && few_of_branch body)
at-item values body =
    ap few_of_case_item (sym (C.rolls-Item values body)) ∙ fold-roll-VCaseItem Bool Bool Bool branch_few case_item_few stmt_few (VCaseItem-F.Item values body)

pub at-default : (body : VBranch) → few_of_case_item (C.Default body) ≡ few_of_branch body
at-default body = ap few_of_case_item (sym (C.rolls-Default body)) ∙ fold-roll-VCaseItem Bool Bool Bool branch_few case_item_few stmt_few (VCaseItem-F.Default body)

pub at-block : (label : Option VLabel) (ss : List VStmt) → few_of_stmt (T.Block label ss) ≡ list_all few_of_stmt ss
at-block label ss =
    ap few_of_stmt (sym (T.rolls-Block label ss)) ∙ fold-roll-VStmt Bool Bool Bool branch_few case_item_few stmt_few (VStmt-F.Block label ss) ∙ each-is few_of_stmt ss

pub at-if : (on : VExpr) (b : VBranch) (other : Option VBranch)
    → few_of_stmt (T.If on b other) ≡ (few_of_expr on && few_of_branch b && is_perhaps few_of_branch other)
at-if on b None =
    ap few_of_stmt (sym (T.rolls-If on b None)) ∙ fold-roll-VStmt Bool Bool Bool branch_few case_item_few stmt_few (VStmt-F.If on b None)
at-if on b (Some c) =
    ap few_of_stmt (sym (T.rolls-If on b (Some c))) ∙ fold-roll-VStmt Bool Bool Bool branch_few case_item_few stmt_few (VStmt-F.If on b (Some c))

pub at-case : (kind : VCaseKind) (on : VExpr) (cs : List VCaseItem) → few_of_stmt (T.Case kind on cs) ≡ (few_of_expr on && list_all few_of_case_item cs)
at-case kind on cs =
    ap few_of_stmt (sym (T.rolls-Case kind on cs)) ∙ fold-roll-VStmt Bool Bool Bool branch_few case_item_few stmt_few (VStmt-F.Case kind on cs)
    ∙ ap (λ b. few_of_expr on && b) (each-is few_of_case_item cs)

pub at-store : (target : VLval) (value : VExpr) (later : Bool) → few_of_stmt (T.Assign target value later) ≡ (few_of_lval target && few_of_expr value)
at-store target value later =
    ap few_of_stmt (sym (T.rolls-Assign target value later)) ∙ fold-roll-VStmt Bool Bool Bool branch_few case_item_few stmt_few (VStmt-F.Assign target value later)
