-- The design that a derivation of a target text means.
use Rattle.std.specs.Prelude.{ℕ, Bool, true, false, List, [], ◌∷◌, ◌++◌, slice_get, Option, Some, None}
use Rattle.ll_engine.specs.declared.tree.Tree.{Tree, Tree-F, fold-Tree}
use Rattle.v_tree.specs.declared.expressions.VExpr.{VExpr}
use Rattle.v_tree.specs.declared.expressions.VExpr.TheVariants as E
use Rattle.v_tree.specs.declared.expressions.VExtent.{VExtent}
use Rattle.v_tree.specs.declared.expressions.VExtent.TheVariants.{Down, Up}
use Rattle.v_tree.specs.declared.expressions.VPrim.{VPrim}
use Rattle.v_tree.specs.declared.expressions.VPrim.TheVariants as O
use Rattle.v_tree.specs.declared.expressions.VSel.{VSel}
use Rattle.v_tree.specs.declared.expressions.VSel.TheVariants as S
use Rattle.v_tree.specs.declared.items.VInit.TheVariants as V
use Rattle.v_tree.specs.declared.items.VItem.TheVariants as I
use Rattle.v_tree.specs.declared.items.VProcess.TheVariants.{Assign, Always}
use Rattle.v_tree.specs.declared.items.VRegRest.TheVariants as R
use Rattle.v_tree.specs.declared.items.VSensitivity.TheVariants.{Star, Edges}
use Rattle.v_tree.specs.declared.items.VSignal.{VSignal}
use Rattle.v_tree.specs.declared.items.VSignal.TheVariants.{Input, Output, OutputReg, Wire, Reg}
use Rattle.v_tree.specs.declared.operators.VBinaryOp.{VBinaryOp}
use Rattle.v_tree.specs.declared.operators.VBinaryOp.TheVariants as B
use Rattle.v_tree.specs.declared.operators.VUnaryOp.{VUnaryOp}
use Rattle.v_tree.specs.declared.operators.VUnaryOp.TheVariants as U
use Rattle.v_tree.specs.declared.parts.VPart.{VPart}
use Rattle.v_tree.specs.declared.parts.VPart.TheVariants as P
use Rattle.v_tree.specs.declared.statements.VBranch.TheVariants.{Statement, Empty}
use Rattle.v_tree.specs.declared.statements.VCaseItem.TheVariants as C
use Rattle.v_tree.specs.declared.statements.VCaseKind.{VCaseKind}
use Rattle.v_tree.specs.declared.statements.VCaseKind.TheVariants.{Plain, Z, X}
use Rattle.v_tree.specs.declared.statements.VLval.TheVariants as L
use Rattle.v_tree.specs.declared.statements.VStmt.TheVariants as T
use Rattle.v_tree.specs.Parts.{all_of, first_of, second_of, listed, as_name, as_number, as_decimal, as_ports, as_range, as_initial, as_reg_rest, as_input, as_local, as_edge, as_event, as_connection, as_connections, as_label, as_stmt, as_branch, as_else, as_case_kind, as_case_item, as_case_items, as_later, as_lval, as_sel, as_sels, as_extent, as_expr, as_prim, as_binary_op, as_unary_op, as_right, as_arms, as_args, as_sign, as_item, as_module, as_something}
use Rattle.v_tree.specs.Tokens.{Token}

-- what a row means that needs a part of some kind: nothing where that isn't there
abbrev pub given : {A : Type 0} → Option A → (A → VPart) → VPart
given None f = P.Nothing
given (Some x) f = f x

-- What each row means by what its parts mean.

-- the part that says something
abbrev pub same : List VPart → VPart
same ps = given (first_of as_something ps) (λ p. p)

abbrev pub text_of : List VPart → VPart
text_of ps = P.Text (all_of as_module ps)

abbrev pub module_of : List VPart → VPart
module_of ps = given (first_of as_name ps) (λ n. P.Module (record { name = n; ports = listed (first_of as_ports ps); items = all_of as_item ps }))

abbrev pub ports_of : List VPart → VPart
ports_of ps = P.Ports (all_of as_name ps)

abbrev pub signal_of : (Option ℕ → List ℕ → VSignal) → List VPart → VPart
signal_of declared ps = given (first_of as_name ps) (λ n. P.Item (I.Signal (declared (first_of as_range ps) n)))

abbrev pub output_reg_of : List VPart → VPart
output_reg_of ps = given (first_of as_name ps) (λ n. P.Item (I.Signal (OutputReg (first_of as_range ps) n (first_of as_initial ps))))

abbrev pub reg_of : List VPart → VPart
reg_of ps = given (first_of as_name ps) (λ n. P.Item (I.Signal (Reg (first_of as_range ps) n (first_of as_reg_rest ps))))

abbrev pub memory_of : List VPart → VPart
memory_of ps = given (first_of as_range ps) (λ left. P.RegRest (R.Memory left))

abbrev pub reg_value_of : List VPart → VPart
reg_value_of ps = given (first_of as_initial ps) (λ v. P.RegRest (R.Initial v))

abbrev pub value_of : List VPart → VPart
value_of ps = given (first_of as_number ps) (λ bits. P.Initial (V.Number bits))

abbrev pub pieces_of : List VPart → VPart
pieces_of ps = P.Initial (V.Concat (all_of as_number ps))

abbrev pub range_of : List VPart → VPart
range_of ps = given (first_of as_decimal ps) P.Range

abbrev pub initial_of : List VPart → VPart
initial_of ps = given (first_of as_name ps) (λ n. given (first_of as_number ps) (λ bits. P.Item (I.Initial (record { name = n; value = bits }))))

abbrev pub assign_of : List VPart → VPart
assign_of ps = given (first_of as_lval ps) (λ l. given (first_of as_expr ps) (λ x. P.Item (I.Process (Assign l x))))

abbrev pub always_of : List VPart → VPart
always_of ps = given (first_of as_event ps) (λ e. given (first_of as_branch ps) (λ b. P.Item (I.Process (Always e b))))

abbrev pub function_of : List VPart → VPart
function_of ps =
    given (first_of as_name ps) (λ n. given (first_of as_stmt ps) (λ s. P.Item (I.Function (record {
      range = first_of as_range ps;
      name = n;
      inputs = all_of as_input ps;
      locals = all_of as_local ps;
      body = s;
    }))))

-- the module's name stands first
abbrev pub instance_of : List VPart → VPart
instance_of ps =
    given (first_of as_name ps) (λ m. given (second_of as_name ps) (λ n. P.Item (I.Instance (record {
      of = m;
      name = n;
      connections = listed (first_of as_connections ps);
    }))))

abbrev pub input_of : List VPart → VPart
input_of ps = given (first_of as_name ps) (λ n. P.Input (record { range = first_of as_range ps; name = n }))

abbrev pub local_of : List VPart → VPart
local_of ps = given (first_of as_name ps) (λ n. P.Local (record { range = first_of as_range ps; name = n }))

abbrev pub star_of : List VPart → VPart
star_of ps = P.Event Star

abbrev pub edges_of : List VPart → VPart
edges_of ps = P.Event (Edges (all_of as_edge ps))

abbrev pub edge_of : Bool → List VPart → VPart
edge_of rising ps = given (first_of as_name ps) (λ n. P.Edge (record { rising = rising; name = n }))

abbrev pub connections_of : List VPart → VPart
connections_of ps = P.Connections (all_of as_connection ps)

abbrev pub connection_of : List VPart → VPart
connection_of ps = given (first_of as_name ps) (λ n. P.Connection (record { port = n; value = first_of as_expr ps }))

abbrev pub branch_of : List VPart → VPart
branch_of ps = given (first_of as_stmt ps) (λ s. P.Branch (Statement s))

abbrev pub empty_of : List VPart → VPart
empty_of ps = P.Branch Empty

abbrev pub block_of : List VPart → VPart
block_of ps = P.Stmt (T.Block (first_of as_label ps) (all_of as_stmt ps))

abbrev pub if_of : List VPart → VPart
if_of ps = given (first_of as_expr ps) (λ on. given (first_of as_branch ps) (λ b. P.Stmt (T.If on b (first_of as_else ps))))

abbrev pub case_of : List VPart → VPart
case_of ps =
    given (first_of as_case_kind ps) (λ k. given (first_of as_expr ps) (λ on. given (first_of as_case_items ps) (λ cs. P.Stmt (T.Case k on cs))))

abbrev pub store_of : List VPart → VPart
store_of ps =
    given (first_of as_lval ps) (λ l. given (first_of as_later ps) (λ later. given (first_of as_expr ps) (λ x. P.Stmt (T.Assign l x later))))

abbrev pub label_of : List VPart → VPart
label_of ps = given (first_of as_name ps) (λ n. P.Label (record { name = n; locals = all_of as_local ps }))

abbrev pub else_of : List VPart → VPart
else_of ps = given (first_of as_branch ps) P.Else

abbrev pub kind_of : VCaseKind → List VPart → VPart
kind_of kind ps = P.CaseKind kind

-- items one by one, and then those behind and with a `default`
abbrev pub case_items_of : List VPart → VPart
case_items_of ps = P.CaseItems (all_of as_case_item ps ++ listed (first_of as_case_items ps))

abbrev pub case_item_of : List VPart → VPart
case_item_of ps = given (first_of as_branch ps) (λ b. P.CaseItem (C.Item (all_of as_expr ps) b))

abbrev pub default_of : List VPart → VPart
default_of ps = given (first_of as_branch ps) (λ b. P.CaseItem (C.Default b))

abbrev pub later_of : Bool → List VPart → VPart
later_of later ps = P.Later later

abbrev pub lvalue_of : List VPart → VPart
lvalue_of ps = given (first_of as_name ps) (λ n. P.Lval (L.Name n (listed (first_of as_sels ps))))

abbrev pub lvalues_of : List VPart → VPart
lvalues_of ps = P.Lval (L.Concat (all_of as_lval ps))

abbrev pub selects_of : List VPart → VPart
selects_of ps = P.Sels (all_of as_sel ps)

abbrev pub select_by : Option ℕ → Option VExpr → Option VExtent → VPart
select_by (Some base) x extent = P.Sel (S.Decimal base extent)
select_by None x extent = given x (λ base. P.Sel (S.Expr base extent))

abbrev pub select_of : List VPart → VPart
select_of ps = select_by (first_of as_decimal ps) (first_of as_expr ps) (first_of as_extent ps)

abbrev pub extent_of : (ℕ → VExtent) → List VPart → VPart
extent_of make ps = given (first_of as_decimal ps) (λ n. P.Extent (make n))

abbrev pub expression_by : VPrim → Option (VBinaryOp × VPrim) → Option (VPrim × VPrim) → VExpr
expression_by a (Some right) arms = E.Binary right.0 a right.1
expression_by a None (Some arms) = E.Choose a arms.0 arms.1
expression_by a None None = E.Prim a

abbrev pub expression_of : List VPart → VPart
expression_of ps = given (first_of as_prim ps) (λ a. P.Expr (expression_by a (first_of as_right ps) (first_of as_arms ps)))

abbrev pub unary_of : List VPart → VPart
unary_of ps = given (first_of as_unary_op ps) (λ op. given (first_of as_prim ps) (λ a. P.Expr (E.Unary op a)))

abbrev pub right_of : List VPart → VPart
right_of ps = given (first_of as_binary_op ps) (λ op. given (first_of as_prim ps) (λ a. P.Right op a))

abbrev pub arms_of : List VPart → VPart
arms_of ps = given (first_of as_prim ps) (λ a. given (second_of as_prim ps) (λ b. P.Arms a b))

abbrev pub number_of : List VPart → VPart
number_of ps = given (first_of as_number ps) (λ bits. P.Prim (O.Number bits))

abbrev pub paren_of : List VPart → VPart
paren_of ps = given (first_of as_expr ps) (λ x. P.Prim (O.Paren x))

abbrev pub name_by : List ℕ → Option (List VExpr) → List VSel → VPrim
name_by n (Some args) sels = O.Call n args
name_by n None sels = O.Name n sels

abbrev pub name_of : List VPart → VPart
name_of ps = given (first_of as_name ps) (λ n. P.Prim (name_by n (first_of as_args ps) (listed (first_of as_sels ps))))

abbrev pub sign_of : List VPart → VPart
sign_of ps = given (first_of as_sign ps) (λ signed. given (first_of as_expr ps) (λ x. P.Prim (O.Sign signed x)))

abbrev pub arguments_of : List VPart → VPart
arguments_of ps = P.Args (all_of as_expr ps)

abbrev pub repeat_of : List VPart → VPart
repeat_of ps = given (first_of as_decimal ps) (λ n. P.Prim (O.Repeat n (all_of as_expr ps)))

abbrev pub concat_of : List VPart → VPart
concat_of ps = P.Prim (O.Concat (all_of as_expr ps))

abbrev pub signed_of : Bool → List VPart → VPart
signed_of signed ps = P.Sign signed

abbrev pub unary_op_of : VUnaryOp → List VPart → VPart
unary_op_of op ps = P.UnaryOp op

abbrev pub binary_op_of : VBinaryOp → List VPart → VPart
binary_op_of op ps = P.BinaryOp op

-- in the order of the table's rows
abbrev pub text_meanings : List (List VPart → VPart)
text_meanings =
    text_of ∷ module_of ∷ ports_of ∷ same ∷ []

abbrev pub item_meanings : List (List VPart → VPart)
item_meanings =
    signal_of Input ∷ same ∷ signal_of Wire ∷ reg_of ∷ initial_of ∷ assign_of ∷ always_of ∷ function_of ∷
    instance_of ∷ signal_of Output ∷ output_reg_of ∷ same ∷ reg_value_of ∷ memory_of ∷ same ∷ value_of ∷
    pieces_of ∷ same ∷ input_of ∷ local_of ∷ range_of ∷ same ∷ same ∷ []

abbrev pub statement_meanings : List (List VPart → VPart)
statement_meanings =
    star_of ∷ edges_of ∷ same ∷ edge_of true ∷ edge_of false ∷ connections_of ∷ same ∷ connection_of ∷
    branch_of ∷ empty_of ∷ block_of ∷ if_of ∷ case_of ∷ store_of ∷ label_of ∷ else_of ∷ kind_of Plain ∷
    kind_of Z ∷ kind_of X ∷ case_items_of ∷ same ∷ case_items_of ∷ case_item_of ∷ default_of ∷ same ∷
    later_of false ∷ later_of true ∷ []

abbrev pub target_meanings : List (List VPart → VPart)
target_meanings =
    lvalue_of ∷ lvalues_of ∷ same ∷ selects_of ∷ select_of ∷ same ∷ same ∷ extent_of Down ∷ extent_of Up ∷ []

abbrev pub expression_meanings : List (List VPart → VPart)
expression_meanings =
    expression_of ∷ unary_of ∷ right_of ∷ arms_of ∷ number_of ∷ paren_of ∷ name_of ∷ same ∷ sign_of ∷
    arguments_of ∷ same ∷ repeat_of ∷ concat_of ∷ signed_of true ∷ signed_of false ∷ []

abbrev pub operator_meanings : List (List VPart → VPart)
operator_meanings =
    unary_op_of U.Not ∷ unary_op_of U.LogicalNot ∷ unary_op_of U.Neg ∷ unary_op_of U.And ∷ unary_op_of U.Nand ∷
    unary_op_of U.Or ∷ unary_op_of U.Nor ∷ unary_op_of U.Xor ∷ unary_op_of U.Xnor ∷ binary_op_of B.Add ∷
    binary_op_of B.Sub ∷ binary_op_of B.Mul ∷ binary_op_of B.Div ∷ binary_op_of B.Rem ∷ binary_op_of B.Power ∷
    binary_op_of B.ShiftLeft ∷ binary_op_of B.ShiftRight ∷ binary_op_of B.ArithmeticLeft ∷
    binary_op_of B.ArithmeticRight ∷ binary_op_of B.Less ∷ binary_op_of B.LessEqual ∷ binary_op_of B.Greater ∷
    binary_op_of B.GreaterEqual ∷ binary_op_of B.Equal ∷ binary_op_of B.NotEqual ∷ binary_op_of B.CaseEqual ∷
    binary_op_of B.CaseNotEqual ∷ binary_op_of B.And ∷ binary_op_of B.Or ∷ binary_op_of B.Xor ∷
    binary_op_of B.Xnor ∷ binary_op_of B.LogicalAnd ∷ binary_op_of B.LogicalOr ∷ []

abbrev pub row_meanings : List (List VPart → VPart)
row_meanings = text_meanings ++ (item_meanings ++ (statement_meanings ++ (target_meanings ++ (expression_meanings ++ (operator_meanings)))))

abbrev pub by_row : Option (List VPart → VPart) → List VPart → VPart
by_row None ps = P.Nothing
by_row (Some f) ps = f ps

-- what a token means
abbrev pub token_part : Option Token → VPart
token_part (Some (Token.name bytes)) = P.Name bytes
token_part (Some (Token.number bits)) = P.Number bits
token_part (Some (Token.decimal value)) = P.Decimal value
token_part (Some (Token.word bytes)) = P.Nothing
token_part (Some (Token.mark bytes)) = P.Nothing
token_part (Some Token.stray) = P.Nothing
token_part None = P.Nothing

abbrev pub node_part : List Token → Tree-F VPart → VPart
node_part tokens (Tree-F.Leaf at) = token_part (slice_get tokens at)
node_part tokens (Tree-F.Node row kids) = by_row (slice_get row_meanings row) kids

-- what a derivation of these tokens means
abbrev pub part_of : List Token → Tree → VPart
part_of tokens = fold-Tree VPart (node_part tokens)
