-- What each row means has few selects where its parts have.
use Rattle.std.proofs.Common.{◌≡◌, ◌≤◌, ℕ, zero, suc, Bool, true, false, not, ◌&&◌, List, [], ◌∷◌, ◌++◌, length, Option, Some, None, refl, subst, ◌∙◌, arith, slice_get}
use Rattle.std.specs.Prelude.{nat_le}
use Rattle.std.specs.List.{list_all}
use Rattle.std.proofs.lemmas.Bool.Decides.{nat_tests}
use Rattle.ll_engine.specs.declared.table.Part.{Part}
use Rattle.ll_engine.specs.declared.table.Row.{Row}
use Rattle.ll_engine.specs.Grammar.{is_repeated}
use Rattle.v_tree.specs.declared.expressions.VExpr.{VExpr}
use Rattle.v_tree.specs.declared.expressions.VExpr.TheVariants as E
use Rattle.v_tree.specs.declared.expressions.VExtent.{VExtent}
use Rattle.v_tree.specs.declared.expressions.VExtent.TheVariants.{Down, Up}
use Rattle.v_tree.specs.declared.expressions.VPrim.{VPrim}
use Rattle.v_tree.specs.declared.expressions.VPrim.TheVariants as O
use Rattle.v_tree.specs.declared.expressions.VSel.{VSel}
use Rattle.v_tree.specs.declared.expressions.VSel.TheVariants as S
use Rattle.v_tree.specs.declared.items.VSignal.{VSignal}
use Rattle.v_tree.specs.declared.items.VInit.TheVariants as V
use Rattle.v_tree.specs.declared.items.VItem.TheVariants as I
use Rattle.v_tree.specs.declared.items.VProcess.TheVariants.{Assign, Always}
use Rattle.v_tree.specs.declared.items.VRegRest.TheVariants as R
use Rattle.v_tree.specs.declared.items.VSignal.TheVariants.{Input, Output, OutputReg, Wire, Reg}
use Rattle.v_tree.specs.declared.operators.VBinaryOp.{VBinaryOp}
use Rattle.v_tree.specs.declared.operators.VBinaryOp.TheVariants as B
use Rattle.v_tree.specs.declared.operators.VUnaryOp.{VUnaryOp}
use Rattle.v_tree.specs.declared.operators.VUnaryOp.TheVariants as U
use Rattle.v_tree.specs.declared.parts.VPart.{VPart}
use Rattle.v_tree.specs.declared.parts.VPart.TheVariants as P
use Rattle.v_tree.specs.declared.statements.VCaseKind.{VCaseKind}
use Rattle.v_tree.specs.declared.statements.VBranch.TheVariants.{Statement}
use Rattle.v_tree.specs.declared.statements.VCaseItem.TheVariants as C
use Rattle.v_tree.specs.declared.statements.VCaseKind.TheVariants.{Plain, Z, X}
use Rattle.v_tree.specs.declared.statements.VLval.TheVariants as L
use Rattle.v_tree.specs.declared.statements.VStmt.{VStmt}
use Rattle.v_tree.specs.declared.statements.VStmt.TheVariants as T
use Rattle.v_tree.specs.Grammatical.{is_perhaps}
use Rattle.v_tree.specs.Meaning.{given, same, text_of, module_of, ports_of, signal_of, output_reg_of, reg_of, memory_of, reg_value_of, value_of, pieces_of, range_of, initial_of, assign_of, always_of, function_of, instance_of, input_of, local_of, star_of, edges_of, edge_of, connections_of, connection_of, branch_of, empty_of, block_of, if_of, case_of, store_of, label_of, else_of, kind_of, case_items_of, case_item_of, default_of, later_of, lvalue_of, lvalues_of, selects_of, select_by, select_of, extent_of, expression_by, expression_of, unary_of, right_of, arms_of, number_of, paren_of, name_by, name_of, sign_of, arguments_of, repeat_of, concat_of, signed_of, unary_op_of, binary_op_of, text_meanings, item_meanings, statement_meanings, target_meanings, expression_meanings, operator_meanings, row_meanings, by_row}
use Rattle.v_tree.specs.Parts.{all_of, first_of, second_of, listed, as_name, as_number, as_decimal, as_ports, as_range, as_initial, as_reg_rest, as_input, as_local, as_event, as_connection, as_connections, as_label, as_stmt, as_branch, as_else, as_case_kind, as_case_item, as_case_items, as_later, as_lval, as_sel, as_sels, as_extent, as_expr, as_prim, as_binary_op, as_unary_op, as_right, as_arms, as_args, as_sign, as_item, as_module, as_something}
use Rattle.v_tree.specs.Table.{text_rows, item_rows, statement_rows, target_rows, expression_rows, operator_rows, table}
use Rattle.v_tree.proofs.Induction.{Each}
use Rattle.v_selects.specs.Few.{few_of_expr, few_of_prim, few_of_sel, few_of_sels, few_of_lval, few_of_stmt, few_of_branch, few_of_case_item, few_of_connection, few_of_item, few_of_module}
use Rattle.v_selects.proofs.Levels as F
use Rattle.v_selects.proofs.Parts.{IsFew, few_of_part, few_right, few_arms, both, first-few, all-few, second-few, listed-few, append-few, given-few, given-any, all-long, kept-connection, kept-connections, kept-stmt, kept-branch, kept-else, kept-case_item, kept-case_items, kept-lval, kept-sel, kept-sels, kept-expr, kept-prim, kept-right, kept-arms, kept-args, kept-item, kept-module, kept-something}

abbrev pub Keeps : (List VPart → VPart) → Type 0
Keeps f = (ps : List VPart) → Each IsFew ps → IsFew (f ps)

-- texts and modules
same-few : Keeps same
same-few ps h = given-few few_of_part (first_of as_something ps) (λ p. p) (first-few as_something few_of_part kept-something ps h) (λ p g. g)

text-few : Keeps text_of
text-few ps h = all-few as_module few_of_module kept-module ps h

module-few : Keeps module_of
module-few ps h = given-any (first_of as_name ps) (λ n. P.Module (record { name = n; ports = listed (first_of as_ports ps); items = all_of as_item ps })) (λ n. all-few as_item few_of_item kept-item ps h)

ports-few : Keeps ports_of
ports-few ps h = refl

-- items
signal-few : (declared : Option ℕ → List ℕ → VSignal) → Keeps (signal_of declared)
signal-few declared ps h = given-any (first_of as_name ps) (λ n. P.Item (I.Signal (declared (first_of as_range ps) n))) (λ n. refl)

output-reg-few : Keeps output_reg_of
output-reg-few ps h = given-any (first_of as_name ps) (λ n. P.Item (I.Signal (OutputReg (first_of as_range ps) n (first_of as_initial ps)))) (λ n. refl)

reg-few : Keeps reg_of
reg-few ps h = given-any (first_of as_name ps) (λ n. P.Item (I.Signal (Reg (first_of as_range ps) n (first_of as_reg_rest ps)))) (λ n. refl)

memory-few : Keeps memory_of
memory-few ps h = given-any (first_of as_range ps) (λ left. P.RegRest (R.Memory left)) (λ left. refl)

reg-value-few : Keeps reg_value_of
reg-value-few ps h = given-any (first_of as_initial ps) (λ v. P.RegRest (R.Initial v)) (λ v. refl)

value-few : Keeps value_of
value-few ps h = given-any (first_of as_number ps) (λ bits. P.Initial (V.Number bits)) (λ bits. refl)

pieces-few : Keeps pieces_of
pieces-few ps h = refl

range-few : Keeps range_of
range-few ps h = given-any (first_of as_decimal ps) P.Range (λ n. refl)

initial-few : Keeps initial_of
initial-few ps h =
    given-any (first_of as_name ps) (λ n. given (first_of as_number ps) (λ bits. P.Item (I.Initial (record { name = n; value = bits }))))
    (λ n. given-any (first_of as_number ps) (λ bits. P.Item (I.Initial (record { name = n; value = bits }))) (λ bits. refl))

assign-few : Keeps assign_of
assign-few ps h =
    given-few few_of_lval (first_of as_lval ps) (λ l. given (first_of as_expr ps) (λ x. P.Item (I.Process (Assign l x)))) (first-few as_lval few_of_lval kept-lval ps h)
    (λ l f. given-few few_of_expr (first_of as_expr ps) (λ x. P.Item (I.Process (Assign l x))) (first-few as_expr few_of_expr kept-expr ps h) (λ x g. both (few_of_lval l) (few_of_expr x) f g))

always-few : Keeps always_of
always-few ps h =
    given-any (first_of as_event ps) (λ e. given (first_of as_branch ps) (λ b. P.Item (I.Process (Always e b))))
    (λ e. given-few few_of_branch (first_of as_branch ps) (λ b. P.Item (I.Process (Always e b))) (first-few as_branch few_of_branch kept-branch ps h) (λ b g. g))

abbrev a_function : List VPart → List ℕ → VStmt → VPart
a_function ps n s = P.Item (I.Function (record { range = first_of as_range ps; name = n; inputs = all_of as_input ps; locals = all_of as_local ps; body = s }))

function-few : Keeps function_of
function-few ps h =
    given-any (first_of as_name ps) (λ n. given (first_of as_stmt ps) (a_function ps n))
    (λ n. given-few few_of_stmt (first_of as_stmt ps) (a_function ps n) (first-few as_stmt few_of_stmt kept-stmt ps h) (λ s g. g))

abbrev an_instance : List VPart → List ℕ → List ℕ → VPart
an_instance ps m n = P.Item (I.Instance (record { of = m; name = n; connections = listed (first_of as_connections ps) }))

instance-few : Keeps instance_of
instance-few ps h =
    given-any (first_of as_name ps) (λ m. given (second_of as_name ps) (an_instance ps m))
    (λ m. given-any (second_of as_name ps) (an_instance ps m)
    (λ n. listed-few (λ cs. list_all few_of_connection cs) (first_of as_connections ps) refl (first-few as_connections (λ cs. list_all few_of_connection cs) kept-connections ps h)))

input-few : Keeps input_of
input-few ps h = given-any (first_of as_name ps) (λ n. P.Input (record { range = first_of as_range ps; name = n })) (λ n. refl)

local-few : Keeps local_of
local-few ps h = given-any (first_of as_name ps) (λ n. P.Local (record { range = first_of as_range ps; name = n })) (λ n. refl)

-- events, connections and statements
star-few : Keeps star_of
star-few ps h = refl

edges-few : Keeps edges_of
edges-few ps h = refl

edge-few : (rising : Bool) → Keeps (edge_of rising)
edge-few rising ps h = given-any (first_of as_name ps) (λ n. P.Edge (record { rising = rising; name = n })) (λ n. refl)

connections-few : Keeps connections_of
connections-few ps h = all-few as_connection few_of_connection kept-connection ps h

connection-few : Keeps connection_of
connection-few ps h =
    given-any (first_of as_name ps) (λ n. P.Connection (record { port = n; value = first_of as_expr ps })) (λ n. first-few as_expr few_of_expr kept-expr ps h)

branch-few : Keeps branch_of
branch-few ps h =
    given-few few_of_stmt (first_of as_stmt ps) (λ s. P.Branch (Statement s)) (first-few as_stmt few_of_stmt kept-stmt ps h) (λ s g. F.at-statement s ∙ g)

empty-few : Keeps empty_of
empty-few ps h = F.at-empty

block-few : Keeps block_of
block-few ps h = F.at-block (first_of as_label ps) (all_of as_stmt ps) ∙ all-few as_stmt few_of_stmt kept-stmt ps h

if-few : Keeps if_of
if-few ps h =
    let other = first-few as_else few_of_branch kept-else ps h in
    given-few few_of_expr (first_of as_expr ps) (λ on. given (first_of as_branch ps) (λ b. P.Stmt (T.If on b (first_of as_else ps)))) (first-few as_expr few_of_expr kept-expr ps h)
    (λ on f. given-few few_of_branch (first_of as_branch ps) (λ b. P.Stmt (T.If on b (first_of as_else ps))) (first-few as_branch few_of_branch kept-branch ps h)
    (λ b g. F.at-if on b (first_of as_else ps)
    ∙ both (few_of_expr on && few_of_branch b) (is_perhaps few_of_branch (first_of as_else ps)) (both (few_of_expr on) (few_of_branch b) f g) other))

case-few : Keeps case_of
case-few ps h =
    given-any (first_of as_case_kind ps) (λ k. given (first_of as_expr ps) (λ on. given (first_of as_case_items ps) (λ cs. P.Stmt (T.Case k on cs))))
    (λ k. given-few few_of_expr (first_of as_expr ps) (λ on. given (first_of as_case_items ps) (λ cs. P.Stmt (T.Case k on cs))) (first-few as_expr few_of_expr kept-expr ps h)
    (λ on f. given-few (λ cs. list_all few_of_case_item cs) (first_of as_case_items ps) (λ cs. P.Stmt (T.Case k on cs)) (first-few as_case_items (λ cs. list_all few_of_case_item cs) kept-case_items ps h)
    (λ cs g. F.at-case k on cs ∙ both (few_of_expr on) (list_all few_of_case_item cs) f g)))

store-few : Keeps store_of
store-few ps h =
    given-few few_of_lval (first_of as_lval ps) (λ l. given (first_of as_later ps) (λ later. given (first_of as_expr ps) (λ x. P.Stmt (T.Assign l x later)))) (first-few as_lval few_of_lval kept-lval ps h)
    (λ l f. given-any (first_of as_later ps) (λ later. given (first_of as_expr ps) (λ x. P.Stmt (T.Assign l x later)))
    (λ later. given-few few_of_expr (first_of as_expr ps) (λ x. P.Stmt (T.Assign l x later)) (first-few as_expr few_of_expr kept-expr ps h)
    (λ x g. F.at-store l x later ∙ both (few_of_lval l) (few_of_expr x) f g)))

label-few : Keeps label_of
label-few ps h = given-any (first_of as_name ps) (λ n. P.Label (record { name = n; locals = all_of as_local ps })) (λ n. refl)

else-few : Keeps else_of
else-few ps h = given-few few_of_branch (first_of as_branch ps) P.Else (first-few as_branch few_of_branch kept-branch ps h) (λ b g. g)

kind-few : (kind : VCaseKind) → Keeps (kind_of kind)
kind-few kind ps h = refl

case-items-few : Keeps case_items_of
case-items-few ps h =
    append-few few_of_case_item (all_of as_case_item ps) (listed (first_of as_case_items ps)) (all-few as_case_item few_of_case_item kept-case_item ps h)
    (listed-few (λ cs. list_all few_of_case_item cs) (first_of as_case_items ps) refl (first-few as_case_items (λ cs. list_all few_of_case_item cs) kept-case_items ps h))

case-item-few : Keeps case_item_of
case-item-few ps h =
    given-few few_of_branch (first_of as_branch ps) (λ b. P.CaseItem (C.Item (all_of as_expr ps) b)) (first-few as_branch few_of_branch kept-branch ps h)
    (λ b g. F.at-item (all_of as_expr ps) b ∙ both (list_all few_of_expr (all_of as_expr ps)) (few_of_branch b) (all-few as_expr few_of_expr kept-expr ps h) g)

default-few : Keeps default_of
default-few ps h =
    given-few few_of_branch (first_of as_branch ps) (λ b. P.CaseItem (C.Default b)) (first-few as_branch few_of_branch kept-branch ps h) (λ b g. F.at-default b ∙ g)

later-few : (later : Bool) → Keeps (later_of later)
later-few later ps h = refl

-- targets and selects
sels-few : (ps : List VPart) → Each IsFew ps → few_of_sels (listed (first_of as_sels ps)) ≡ true
sels-few ps h = listed-few few_of_sels (first_of as_sels ps) refl (first-few as_sels few_of_sels kept-sels ps h)

lvalue-few : Keeps lvalue_of
lvalue-few ps h =
    given-any (first_of as_name ps) (λ n. P.Lval (L.Name n (listed (first_of as_sels ps)))) (λ n. F.at-lvalue n (listed (first_of as_sels ps)) ∙ sels-few ps h)

lvalues-few : Keeps lvalues_of
lvalues-few ps h = F.at-lvalues (all_of as_lval ps) ∙ all-few as_lval few_of_lval kept-lval ps h

two-at-most : (n m : ℕ) → n ≤ m → m ≤ 2 → nat_le n 2 ≡ true
two-at-most n m h g = grind (arith, nat_tests)

selects-few : (ps : List VPart) → Each IsFew ps → length ps ≤ 2 → IsFew (selects_of ps)
selects-few ps h short =
    both (nat_le (length (all_of as_sel ps)) 2) (list_all few_of_sel (all_of as_sel ps)) (two-at-most (length (all_of as_sel ps)) (length ps) (all-long as_sel ps) short) (all-few as_sel few_of_sel kept-sel ps h)

by-few : (base : Option ℕ) (x : Option VExpr) (extent : Option VExtent) → is_perhaps few_of_expr x ≡ true → IsFew (select_by base x extent)
by-few (Some base) x extent h = F.at-decimal base extent
by-few None x extent h = given-few few_of_expr x (λ base. P.Sel (S.Expr base extent)) h (λ base g. F.at-moving base extent ∙ g)

select-few : Keeps select_of
select-few ps h = by-few (first_of as_decimal ps) (first_of as_expr ps) (first_of as_extent ps) (first-few as_expr few_of_expr kept-expr ps h)

extent-few : (make : ℕ → VExtent) → Keeps (extent_of make)
extent-few make ps h = given-any (first_of as_decimal ps) (λ n. P.Extent (make n)) (λ n. refl)

-- expressions
expression-by-few : (a : VPrim) (right : Option (VBinaryOp × VPrim)) (arms : Option (VPrim × VPrim)) → few_of_prim a ≡ true → is_perhaps few_right right ≡ true → is_perhaps few_arms arms ≡ true
    → few_of_expr (expression_by a right arms) ≡ true
expression-by-few a (Some r) arms f g k = F.at-binary r.0 a r.1 ∙ both (few_of_prim a) (few_of_prim r.1) f g
expression-by-few a None (Some r) f g k = F.at-choose a r.0 r.1 ∙ three (few_of_prim a) (few_of_prim r.0) (few_of_prim r.1) f k
  where
    three : (x y z : Bool) → x ≡ true → (y && z) ≡ true → (x && y && z) ≡ true
    three true true z p q = q
    three true false z p q = q
    three false y z p q = absurd (cc)
expression-by-few a None None f g k = F.at-prim a ∙ f

expression-few : Keeps expression_of
expression-few ps h =
    given-few few_of_prim (first_of as_prim ps) (λ a. P.Expr (expression_by a (first_of as_right ps) (first_of as_arms ps))) (first-few as_prim few_of_prim kept-prim ps h)
    (λ a f. expression-by-few a (first_of as_right ps) (first_of as_arms ps) f (first-few as_right few_right kept-right ps h) (first-few as_arms few_arms kept-arms ps h))

unary-few : Keeps unary_of
unary-few ps h =
    given-any (first_of as_unary_op ps) (λ op. given (first_of as_prim ps) (λ a. P.Expr (E.Unary op a)))
    (λ op. given-few few_of_prim (first_of as_prim ps) (λ a. P.Expr (E.Unary op a)) (first-few as_prim few_of_prim kept-prim ps h) (λ a g. F.at-unary op a ∙ g))

right-few : Keeps right_of
right-few ps h =
    given-any (first_of as_binary_op ps) (λ op. given (first_of as_prim ps) (λ a. P.Right op a))
    (λ op. given-few few_of_prim (first_of as_prim ps) (λ a. P.Right op a) (first-few as_prim few_of_prim kept-prim ps h) (λ a g. g))

arms-few : Keeps arms_of
arms-few ps h =
    given-few few_of_prim (first_of as_prim ps) (λ a. given (second_of as_prim ps) (λ b. P.Arms a b)) (first-few as_prim few_of_prim kept-prim ps h)
    (λ a f. given-few few_of_prim (second_of as_prim ps) (λ b. P.Arms a b) (second-few as_prim few_of_prim kept-prim ps h) (λ b g. both (few_of_prim a) (few_of_prim b) f g))

number-few : Keeps number_of
number-few ps h = given-any (first_of as_number ps) (λ bits. P.Prim (O.Number bits)) F.at-number

paren-few : Keeps paren_of
paren-few ps h =
    given-few few_of_expr (first_of as_expr ps) (λ x. P.Prim (O.Paren x)) (first-few as_expr few_of_expr kept-expr ps h) (λ x g. F.at-paren x ∙ g)

name-by-few : (n : List ℕ) (args : Option (List VExpr)) (sels : List VSel) → is_perhaps (λ xs. list_all few_of_expr xs) args ≡ true → few_of_sels sels ≡ true → few_of_prim (name_by n args sels) ≡ true
name-by-few n (Some args) sels f g = F.at-call n args ∙ f
name-by-few n None sels f g = F.at-name n sels ∙ g

name-few : Keeps name_of
name-few ps h =
    given-any (first_of as_name ps) (λ n. P.Prim (name_by n (first_of as_args ps) (listed (first_of as_sels ps))))
    (λ n. name-by-few n (first_of as_args ps) (listed (first_of as_sels ps)) (first-few as_args (λ xs. list_all few_of_expr xs) kept-args ps h) (sels-few ps h))

sign-few : Keeps sign_of
sign-few ps h =
    given-any (first_of as_sign ps) (λ signed. given (first_of as_expr ps) (λ x. P.Prim (O.Sign signed x)))
    (λ signed. given-few few_of_expr (first_of as_expr ps) (λ x. P.Prim (O.Sign signed x)) (first-few as_expr few_of_expr kept-expr ps h) (λ x g. F.at-sign signed x ∙ g))

arguments-few : Keeps arguments_of
arguments-few ps h = all-few as_expr few_of_expr kept-expr ps h

repeat-few : Keeps repeat_of
repeat-few ps h =
    given-any (first_of as_decimal ps) (λ n. P.Prim (O.Repeat n (all_of as_expr ps))) (λ n. F.at-repeat n (all_of as_expr ps) ∙ all-few as_expr few_of_expr kept-expr ps h)

concat-few : Keeps concat_of
concat-few ps h = F.at-concat (all_of as_expr ps) ∙ all-few as_expr few_of_expr kept-expr ps h

signed-few : (signed : Bool) → Keeps (signed_of signed)
signed-few signed ps h = refl

unary-op-few : (op : VUnaryOp) → Keeps (unary_op_of op)
unary-op-few op ps h = refl

binary-op-few : (op : VBinaryOp) → Keeps (binary_op_of op)
binary-op-few op ps h = refl

-- none of the parts is repeated
abbrev pub none_repeated : List Part → Bool
none_repeated ps = list_all (λ p. not (is_repeated p)) ps

-- What a node of the row has below it: no more than the row has parts, where none of these is repeated.
abbrev pub RowKeeps : Row → (List VPart → VPart) → Type 0
RowKeeps row f = (ps : List VPart) → Each IsFew ps → (none_repeated row.parts ≡ true → length ps ≤ length row.parts) → IsFew (f ps)

-- each row and its meaning
infixr 20 ◌⨾◌
pub data AllRows : List Row → List (List VPart → VPart) → Type 0 where
  none : AllRows [] []
  ◌⨾◌ : {row : Row} {rows : List Row} {f : List VPart → VPart} {fs : List (List VPart → VPart)} → RowKeeps row f → AllRows rows fs → AllRows (row ∷ rows) (f ∷ fs)

text-rows : AllRows text_rows text_meanings
text-rows =
    (λ ps h short. text-few ps h)
    ⨾ (λ ps h short. module-few ps h)
    ⨾ (λ ps h short. ports-few ps h)
    ⨾ (λ ps h short. same-few ps h)
    ⨾ none

item-rows : AllRows item_rows item_meanings
item-rows =
    (λ ps h short. signal-few Input ps h)
    ⨾ (λ ps h short. same-few ps h)
    ⨾ (λ ps h short. signal-few Wire ps h)
    ⨾ (λ ps h short. reg-few ps h)
    ⨾ (λ ps h short. initial-few ps h)
    ⨾ (λ ps h short. assign-few ps h)
    ⨾ (λ ps h short. always-few ps h)
    ⨾ (λ ps h short. function-few ps h)
    ⨾ (λ ps h short. instance-few ps h)
    ⨾ (λ ps h short. signal-few Output ps h)
    ⨾ (λ ps h short. output-reg-few ps h)
    ⨾ (λ ps h short. same-few ps h)
    ⨾ (λ ps h short. reg-value-few ps h)
    ⨾ (λ ps h short. memory-few ps h)
    ⨾ (λ ps h short. same-few ps h)
    ⨾ (λ ps h short. value-few ps h)
    ⨾ (λ ps h short. pieces-few ps h)
    ⨾ (λ ps h short. same-few ps h)
    ⨾ (λ ps h short. input-few ps h)
    ⨾ (λ ps h short. local-few ps h)
    ⨾ (λ ps h short. range-few ps h)
    ⨾ (λ ps h short. same-few ps h)
    ⨾ (λ ps h short. same-few ps h)
    ⨾ none

statement-rows : AllRows statement_rows statement_meanings
statement-rows =
    (λ ps h short. star-few ps h)
    ⨾ (λ ps h short. edges-few ps h)
    ⨾ (λ ps h short. same-few ps h)
    ⨾ (λ ps h short. edge-few true ps h)
    ⨾ (λ ps h short. edge-few false ps h)
    ⨾ (λ ps h short. connections-few ps h)
    ⨾ (λ ps h short. same-few ps h)
    ⨾ (λ ps h short. connection-few ps h)
    ⨾ (λ ps h short. branch-few ps h)
    ⨾ (λ ps h short. empty-few ps h)
    ⨾ (λ ps h short. block-few ps h)
    ⨾ (λ ps h short. if-few ps h)
    ⨾ (λ ps h short. case-few ps h)
    ⨾ (λ ps h short. store-few ps h)
    ⨾ (λ ps h short. label-few ps h)
    ⨾ (λ ps h short. else-few ps h)
    ⨾ (λ ps h short. kind-few Plain ps h)
    ⨾ (λ ps h short. kind-few Z ps h)
    ⨾ (λ ps h short. kind-few X ps h)
    ⨾ (λ ps h short. case-items-few ps h)
    ⨾ (λ ps h short. same-few ps h)
    ⨾ (λ ps h short. case-items-few ps h)
    ⨾ (λ ps h short. case-item-few ps h)
    ⨾ (λ ps h short. default-few ps h)
    ⨾ (λ ps h short. same-few ps h)
    ⨾ (λ ps h short. later-few false ps h)
    ⨾ (λ ps h short. later-few true ps h)
    ⨾ none

target-rows : AllRows target_rows target_meanings
target-rows =
    (λ ps h short. lvalue-few ps h)
    ⨾ (λ ps h short. lvalues-few ps h)
    ⨾ (λ ps h short. same-few ps h)
    ⨾ (λ ps h short. selects-few ps h (short refl))
    ⨾ (λ ps h short. select-few ps h)
    ⨾ (λ ps h short. same-few ps h)
    ⨾ (λ ps h short. same-few ps h)
    ⨾ (λ ps h short. extent-few Down ps h)
    ⨾ (λ ps h short. extent-few Up ps h)
    ⨾ none

expression-rows : AllRows expression_rows expression_meanings
expression-rows =
    (λ ps h short. expression-few ps h)
    ⨾ (λ ps h short. unary-few ps h)
    ⨾ (λ ps h short. right-few ps h)
    ⨾ (λ ps h short. arms-few ps h)
    ⨾ (λ ps h short. number-few ps h)
    ⨾ (λ ps h short. paren-few ps h)
    ⨾ (λ ps h short. name-few ps h)
    ⨾ (λ ps h short. same-few ps h)
    ⨾ (λ ps h short. sign-few ps h)
    ⨾ (λ ps h short. arguments-few ps h)
    ⨾ (λ ps h short. same-few ps h)
    ⨾ (λ ps h short. repeat-few ps h)
    ⨾ (λ ps h short. concat-few ps h)
    ⨾ (λ ps h short. signed-few true ps h)
    ⨾ (λ ps h short. signed-few false ps h)
    ⨾ none

operator-rows : AllRows operator_rows operator_meanings
operator-rows =
    (λ ps h short. unary-op-few U.Not ps h)
    ⨾ (λ ps h short. unary-op-few U.LogicalNot ps h)
    ⨾ (λ ps h short. unary-op-few U.Neg ps h)
    ⨾ (λ ps h short. unary-op-few U.And ps h)
    ⨾ (λ ps h short. unary-op-few U.Nand ps h)
    ⨾ (λ ps h short. unary-op-few U.Or ps h)
    ⨾ (λ ps h short. unary-op-few U.Nor ps h)
    ⨾ (λ ps h short. unary-op-few U.Xor ps h)
    ⨾ (λ ps h short. unary-op-few U.Xnor ps h)
    ⨾ (λ ps h short. binary-op-few B.Add ps h)
    ⨾ (λ ps h short. binary-op-few B.Sub ps h)
    ⨾ (λ ps h short. binary-op-few B.Mul ps h)
    ⨾ (λ ps h short. binary-op-few B.Div ps h)
    ⨾ (λ ps h short. binary-op-few B.Rem ps h)
    ⨾ (λ ps h short. binary-op-few B.Power ps h)
    ⨾ (λ ps h short. binary-op-few B.ShiftLeft ps h)
    ⨾ (λ ps h short. binary-op-few B.ShiftRight ps h)
    ⨾ (λ ps h short. binary-op-few B.ArithmeticLeft ps h)
    ⨾ (λ ps h short. binary-op-few B.ArithmeticRight ps h)
    ⨾ (λ ps h short. binary-op-few B.Less ps h)
    ⨾ (λ ps h short. binary-op-few B.LessEqual ps h)
    ⨾ (λ ps h short. binary-op-few B.Greater ps h)
    ⨾ (λ ps h short. binary-op-few B.GreaterEqual ps h)
    ⨾ (λ ps h short. binary-op-few B.Equal ps h)
    ⨾ (λ ps h short. binary-op-few B.NotEqual ps h)
    ⨾ (λ ps h short. binary-op-few B.CaseEqual ps h)
    ⨾ (λ ps h short. binary-op-few B.CaseNotEqual ps h)
    ⨾ (λ ps h short. binary-op-few B.And ps h)
    ⨾ (λ ps h short. binary-op-few B.Or ps h)
    ⨾ (λ ps h short. binary-op-few B.Xor ps h)
    ⨾ (λ ps h short. binary-op-few B.Xnor ps h)
    ⨾ (λ ps h short. binary-op-few B.LogicalAnd ps h)
    ⨾ (λ ps h short. binary-op-few B.LogicalOr ps h)
    ⨾ none

joined-rows : {rows more : List Row} {fs gs : List (List VPart → VPart)} → AllRows rows fs → AllRows more gs → AllRows (rows ++ more) (fs ++ gs)
joined-rows none k = k
joined-rows (h ⨾ hs) k = h ⨾ joined-rows hs k

pub all-rows : AllRows table row_meanings
all-rows = joined-rows text-rows (joined-rows item-rows (joined-rows statement-rows (joined-rows target-rows (joined-rows expression-rows operator-rows))))

keeps-as : {row : Row} (f : List VPart → VPart) (other : Row) → RowKeeps row f → row ≡ other → RowKeeps other f
keeps-as f other k alike = subst (λ r. RowKeeps r f) alike k

-- the meaning of a row of the table
pub row-keeps : {rows : List Row} {fs : List (List VPart → VPart)} (i : ℕ) (row : Row) → AllRows rows fs → slice_get rows i ≡ Some row → RowKeeps row (by_row (slice_get fs i))
row-keeps i row none is = absurd (cc)
row-keeps zero row (◌⨾◌ {row = r} {f = f} k ks) is = let alike : r ≡ row = cc in keeps-as f row k alike
row-keeps (suc i) row (k ⨾ ks) is = row-keeps i row ks is
