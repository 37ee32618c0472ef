-- What stands among the parts of a text.
use Rattle.std.specs.Prelude.{ℕ, Bool, List, [], ◌∷◌, Option, Some, None}
use Rattle.b4_core.specs.declared.bit.Bit4.{Bit4}
use Rattle.v_tree.specs.declared.expressions.VExpr.{VExpr}
use Rattle.v_tree.specs.declared.expressions.VExtent.{VExtent}
use Rattle.v_tree.specs.declared.expressions.VPrim.{VPrim}
use Rattle.v_tree.specs.declared.expressions.VSel.{VSel}
use Rattle.v_tree.specs.declared.items.VConnection.{VConnection}
use Rattle.v_tree.specs.declared.items.VEdge.{VEdge}
use Rattle.v_tree.specs.declared.items.VInit.{VInit}
use Rattle.v_tree.specs.declared.items.VItem.{VItem}
use Rattle.v_tree.specs.declared.items.VLocal.{VLocal}
use Rattle.v_tree.specs.declared.items.VModule.{VModule}
use Rattle.v_tree.specs.declared.items.VRegRest.{VRegRest}
use Rattle.v_tree.specs.declared.items.VSensitivity.{VSensitivity}
use Rattle.v_tree.specs.declared.operators.VBinaryOp.{VBinaryOp}
use Rattle.v_tree.specs.declared.operators.VUnaryOp.{VUnaryOp}
use Rattle.v_tree.specs.declared.parts.VPart.{VPart}
use Rattle.v_tree.specs.declared.parts.VPart.TheVariants as P
use Rattle.v_tree.specs.declared.statements.VBranch.{VBranch}
use Rattle.v_tree.specs.declared.statements.VCaseItem.{VCaseItem}
use Rattle.v_tree.specs.declared.statements.VCaseKind.{VCaseKind}
use Rattle.v_tree.specs.declared.statements.VLabel.{VLabel}
use Rattle.v_tree.specs.declared.statements.VLval.{VLval}
use Rattle.v_tree.specs.declared.statements.VStmt.{VStmt}

abbrev pub with_first : {A : Type 0} → Option A → List A → List A
with_first (Some x) xs = x ∷ xs
with_first None xs = xs

-- those of one kind, in order
abbrev pub all_of : {A : Type 0} → (VPart → Option A) → List VPart → List A
all_of kind [] = []
all_of kind (p ∷ ps) = with_first (kind p) (all_of kind ps)

abbrev pub or_else : {A : Type 0} → Option A → Option A → Option A
or_else (Some x) y = Some x
or_else None y = y

-- the first of one kind
abbrev pub first_of : {A : Type 0} → (VPart → Option A) → List VPart → Option A
first_of kind [] = None
first_of kind (p ∷ ps) = or_else (kind p) (first_of kind ps)

abbrev pub second_in : {A : Type 0} → List A → Option A
second_in [] = None
second_in (x ∷ []) = None
second_in (x ∷ y ∷ xs) = Some y

-- the second of one kind
abbrev pub second_of : {A : Type 0} → (VPart → Option A) → List VPart → Option A
second_of kind ps = second_in (all_of kind ps)

-- the list that the first of one kind is, none without one
abbrev pub listed : {A : Type 0} → Option (List A) → List A
listed (Some xs) = xs
listed None = []

-- the kinds
abbrev pub as_name : VPart → Option (List ℕ)
as_name (P.Name n) = Some n
as_name p = None

abbrev pub as_number : VPart → Option (List Bit4)
as_number (P.Number bits) = Some bits
as_number p = None

abbrev pub as_decimal : VPart → Option ℕ
as_decimal (P.Decimal n) = Some n
as_decimal p = None

abbrev pub as_ports : VPart → Option (List (List ℕ))
as_ports (P.Ports ns) = Some ns
as_ports p = None

abbrev pub as_range : VPart → Option ℕ
as_range (P.Range left) = Some left
as_range p = None

abbrev pub as_initial : VPart → Option VInit
as_initial (P.Initial v) = Some v
as_initial p = None

abbrev pub as_reg_rest : VPart → Option VRegRest
as_reg_rest (P.RegRest r) = Some r
as_reg_rest p = None

abbrev pub as_input : VPart → Option VLocal
as_input (P.Input l) = Some l
as_input p = None

abbrev pub as_local : VPart → Option VLocal
as_local (P.Local l) = Some l
as_local p = None

abbrev pub as_edge : VPart → Option VEdge
as_edge (P.Edge e) = Some e
as_edge p = None

abbrev pub as_event : VPart → Option VSensitivity
as_event (P.Event e) = Some e
as_event p = None

abbrev pub as_connection : VPart → Option VConnection
as_connection (P.Connection c) = Some c
as_connection p = None

abbrev pub as_connections : VPart → Option (List VConnection)
as_connections (P.Connections cs) = Some cs
as_connections p = None

abbrev pub as_label : VPart → Option VLabel
as_label (P.Label l) = Some l
as_label p = None

abbrev pub as_stmt : VPart → Option VStmt
as_stmt (P.Stmt s) = Some s
as_stmt p = None

abbrev pub as_branch : VPart → Option VBranch
as_branch (P.Branch b) = Some b
as_branch p = None

abbrev pub as_else : VPart → Option VBranch
as_else (P.Else b) = Some b
as_else p = None

abbrev pub as_case_kind : VPart → Option VCaseKind
as_case_kind (P.CaseKind k) = Some k
as_case_kind p = None

abbrev pub as_case_item : VPart → Option VCaseItem
as_case_item (P.CaseItem c) = Some c
as_case_item p = None

abbrev pub as_case_items : VPart → Option (List VCaseItem)
as_case_items (P.CaseItems cs) = Some cs
as_case_items p = None

abbrev pub as_later : VPart → Option Bool
as_later (P.Later l) = Some l
as_later p = None

abbrev pub as_lval : VPart → Option VLval
as_lval (P.Lval l) = Some l
as_lval p = None

abbrev pub as_sel : VPart → Option VSel
as_sel (P.Sel s) = Some s
as_sel p = None

abbrev pub as_sels : VPart → Option (List VSel)
as_sels (P.Sels ss) = Some ss
as_sels p = None

abbrev pub as_extent : VPart → Option VExtent
as_extent (P.Extent e) = Some e
as_extent p = None

abbrev pub as_expr : VPart → Option VExpr
as_expr (P.Expr x) = Some x
as_expr p = None

abbrev pub as_prim : VPart → Option VPrim
as_prim (P.Prim a) = Some a
as_prim p = None

abbrev pub as_binary_op : VPart → Option VBinaryOp
as_binary_op (P.BinaryOp op) = Some op
as_binary_op p = None

abbrev pub as_unary_op : VPart → Option VUnaryOp
as_unary_op (P.UnaryOp op) = Some op
as_unary_op p = None

abbrev pub as_right : VPart → Option (VBinaryOp × VPrim)
as_right (P.Right op a) = Some (op, a)
as_right p = None

abbrev pub as_arms : VPart → Option (VPrim × VPrim)
as_arms (P.Arms a b) = Some (a, b)
as_arms p = None

abbrev pub as_args : VPart → Option (List VExpr)
as_args (P.Args xs) = Some xs
as_args p = None

abbrev pub as_sign : VPart → Option Bool
as_sign (P.Sign s) = Some s
as_sign p = None

abbrev pub as_item : VPart → Option VItem
as_item (P.Item i) = Some i
as_item p = None

abbrev pub as_module : VPart → Option VModule
as_module (P.Module m) = Some m
as_module p = None

-- whatever says something
abbrev pub as_something : VPart → Option VPart
as_something P.Nothing = None
as_something p = Some p
