-- Designs in which at most two selects stand behind a name: that of a word of a memory, and that of bits.
use Rattle.std.specs.Prelude.{◌≡◌, ℕ, nat_le, Bool, true, ◌&&◌, List, length}
use Rattle.std.specs.List.{list_all}
use Rattle.v_tree.specs.Grammatical.{is_perhaps}
use Rattle.v_tree.specs.Reading.{Spells}
use Rattle.v_tree.specs.declared.expressions.VExpr.{VExpr, VExpr-F, fold-VExpr}
use Rattle.v_tree.specs.declared.expressions.VPrim.{VPrim, VPrim-F, fold-VPrim}
use Rattle.v_tree.specs.declared.expressions.VSel.{VSel, VSel-F, fold-VSel}
use Rattle.v_tree.specs.declared.items.VConnection.{VConnection}
use Rattle.v_tree.specs.declared.items.VDesign.{VDesign}
use Rattle.v_tree.specs.declared.items.VItem.{VItem}
use Rattle.v_tree.specs.declared.items.VItem.TheVariants as I
use Rattle.v_tree.specs.declared.items.VModule.{VModule}
use Rattle.v_tree.specs.declared.items.VProcess.{VProcess}
use Rattle.v_tree.specs.declared.items.VProcess.TheVariants.{Assign, Always}
use Rattle.v_tree.specs.declared.statements.VBranch.{VBranch, VBranch-F, fold-VBranch}
use Rattle.v_tree.specs.declared.statements.VCaseItem.{VCaseItem, VCaseItem-F, fold-VCaseItem}
use Rattle.v_tree.specs.declared.statements.VLval.{VLval, VLval-F, fold-VLval}
use Rattle.v_tree.specs.declared.statements.VStmt.{VStmt, VStmt-F, fold-VStmt}

abbrev pub each_few : List Bool → Bool
each_few bs = list_all (λ b. b) bs

abbrev pub sel_few : VSel-F Bool Bool Bool → Bool
sel_few (VSel-F.Decimal base extent) = true
sel_few (VSel-F.Expr base extent) = base

abbrev pub prim_few : VPrim-F Bool Bool Bool → Bool
prim_few (VPrim-F.Number bits) = true
prim_few (VPrim-F.Paren inner) = inner
prim_few (VPrim-F.Name name sels) = nat_le (length sels) 2 && each_few sels
prim_few (VPrim-F.Call name args) = each_few args
prim_few (VPrim-F.Repeat count items) = each_few items
prim_few (VPrim-F.Concat items) = each_few items
prim_few (VPrim-F.Sign signed of) = of

abbrev pub expr_few : VExpr-F Bool Bool Bool → Bool
expr_few (VExpr-F.Prim a) = a
expr_few (VExpr-F.Unary op a) = a
expr_few (VExpr-F.Binary op a b) = a && b
expr_few (VExpr-F.Choose on a b) = on && a && b

abbrev pub few_of_expr : VExpr → Bool
few_of_expr = fold-VExpr Bool Bool Bool expr_few prim_few sel_few

abbrev pub few_of_prim : VPrim → Bool
few_of_prim = fold-VPrim Bool Bool Bool expr_few prim_few sel_few

abbrev pub few_of_sel : VSel → Bool
few_of_sel = fold-VSel Bool Bool Bool expr_few prim_few sel_few

-- the selects behind one name
abbrev pub few_of_sels : List VSel → Bool
few_of_sels sels = nat_le (length sels) 2 && list_all few_of_sel sels

abbrev pub lval_few : VLval-F Bool → Bool
lval_few (VLval-F.Name name sels) = few_of_sels sels
lval_few (VLval-F.Concat parts) = each_few parts

abbrev pub few_of_lval : VLval → Bool
few_of_lval = fold-VLval Bool lval_few

abbrev pub branch_few : VBranch-F Bool Bool Bool → Bool
branch_few (VBranch-F.Statement s) = s
branch_few VBranch-F.Empty = true

abbrev pub case_item_few : VCaseItem-F Bool Bool Bool → Bool
case_item_few (VCaseItem-F.Item values body) = list_all few_of_expr values && body
case_item_few (VCaseItem-F.Default body) = body

abbrev pub stmt_few : VStmt-F Bool Bool Bool → Bool
stmt_few (VStmt-F.Block label ss) = each_few ss
stmt_few (VStmt-F.If on taken other) = few_of_expr on && taken && is_perhaps (λ b. b) other
stmt_few (VStmt-F.Case kind on items) = few_of_expr on && each_few items
stmt_few (VStmt-F.Assign target value later) = few_of_lval target && few_of_expr value

abbrev pub few_of_stmt : VStmt → Bool
few_of_stmt = fold-VStmt Bool Bool Bool branch_few case_item_few stmt_few

abbrev pub few_of_branch : VBranch → Bool
few_of_branch = fold-VBranch Bool Bool Bool branch_few case_item_few stmt_few

abbrev pub few_of_case_item : VCaseItem → Bool
few_of_case_item = fold-VCaseItem Bool Bool Bool branch_few case_item_few stmt_few

abbrev pub few_of_process : VProcess → Bool
few_of_process (Assign target value) = few_of_lval target && few_of_expr value
few_of_process (Always on body) = few_of_branch body

abbrev pub few_of_connection : VConnection → Bool
few_of_connection c = is_perhaps few_of_expr c.value

abbrev pub few_of_item : VItem → Bool
few_of_item (I.Signal s) = true
few_of_item (I.Initial i) = true
few_of_item (I.Process p) = few_of_process p
few_of_item (I.Function f) = few_of_stmt f.body
few_of_item (I.Instance i) = list_all few_of_connection i.connections

abbrev pub few_of_module : VModule → Bool
few_of_module m = list_all few_of_item m.items

-- at most two selects stand behind each name of the design
abbrev pub few_of_design : VDesign → Bool
few_of_design e = list_all few_of_module e.modules

-- A design that a text spells is one: the table's row for selects has two parts.
abbrev pub SelectsAreFew : Type 0
SelectsAreFew = (bytes : List ℕ) (e : VDesign) → Spells bytes e → few_of_design e ≡ true
