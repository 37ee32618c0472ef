-- What each row of the target grammar means, by its number.
use Rattle.std.proofs.Common.{◌≡◌, ◌≤◌, ℕ, List, true, false, refl, ap}
use Rattle.std.proofs.lemmas.Option.{slice_get_past}
use Rattle.v_tree.specs.declared.expressions.VExtent.TheVariants.{Down, Up}
use Rattle.v_tree.specs.declared.items.VSignal.TheVariants.{Input, Output, Wire}
use Rattle.v_tree.specs.declared.operators.VBinaryOp.TheVariants as B
use Rattle.v_tree.specs.declared.operators.VUnaryOp.TheVariants as U
use Rattle.v_tree.specs.declared.parts.VPart.{VPart}
use Rattle.v_tree.specs.declared.parts.VPart.TheVariants as P
use Rattle.v_tree.specs.declared.statements.VCaseKind.TheVariants.{Plain, Z, X}
use Rattle.v_tree.specs.Meaning.{row_meanings, by_row, always_of, arguments_of, arms_of, assign_of, binary_op_of, block_of, branch_of, case_item_of, case_items_of, case_of, concat_of, connection_of, connections_of, default_of, edge_of, edges_of, else_of, empty_of, expression_of, extent_of, function_of, if_of, initial_of, input_of, instance_of, kind_of, label_of, later_of, local_of, lvalue_of, lvalues_of, memory_of, module_of, name_of, number_of, output_reg_of, paren_of, pieces_of, ports_of, range_of, reg_of, reg_value_of, repeat_of, right_of, same, select_of, selects_of, sign_of, signal_of, signed_of, star_of, store_of, text_of, unary_of, unary_op_of, value_of}
use Rattle.v_rows.specs.Rows.{meaning_of}

pub text-row : (ps : List VPart) → meaning_of 0 ps ≡ text_of ps
unfolding meaning_of
text-row ps = refl

pub module-row : (ps : List VPart) → meaning_of 1 ps ≡ module_of ps
unfolding meaning_of
module-row ps = refl

pub ports-row : (ps : List VPart) → meaning_of 2 ps ≡ ports_of ps
unfolding meaning_of
ports-row ps = refl

pub next-name-row : (ps : List VPart) → meaning_of 3 ps ≡ same ps
unfolding meaning_of
next-name-row ps = refl

pub ruleset texts = (text-row, module-row, ports-row, next-name-row)

pub input-row : (ps : List VPart) → meaning_of 4 ps ≡ signal_of Input ps
unfolding meaning_of
input-row ps = refl

pub output-row : (ps : List VPart) → meaning_of 5 ps ≡ same ps
unfolding meaning_of
output-row ps = refl

pub wire-row : (ps : List VPart) → meaning_of 6 ps ≡ signal_of Wire ps
unfolding meaning_of
wire-row ps = refl

pub reg-row : (ps : List VPart) → meaning_of 7 ps ≡ reg_of ps
unfolding meaning_of
reg-row ps = refl

pub initial-row : (ps : List VPart) → meaning_of 8 ps ≡ initial_of ps
unfolding meaning_of
initial-row ps = refl

pub assign-row : (ps : List VPart) → meaning_of 9 ps ≡ assign_of ps
unfolding meaning_of
assign-row ps = refl

pub always-row : (ps : List VPart) → meaning_of 10 ps ≡ always_of ps
unfolding meaning_of
always-row ps = refl

pub function-row : (ps : List VPart) → meaning_of 11 ps ≡ function_of ps
unfolding meaning_of
function-row ps = refl

pub instance-row : (ps : List VPart) → meaning_of 12 ps ≡ instance_of ps
unfolding meaning_of
instance-row ps = refl

pub output-net-row : (ps : List VPart) → meaning_of 13 ps ≡ signal_of Output ps
unfolding meaning_of
output-net-row ps = refl

pub output-reg-row : (ps : List VPart) → meaning_of 14 ps ≡ output_reg_of ps
unfolding meaning_of
output-reg-row ps = refl

pub memory-row : (ps : List VPart) → meaning_of 15 ps ≡ same ps
unfolding meaning_of
memory-row ps = refl

pub reg-value-row : (ps : List VPart) → meaning_of 16 ps ≡ reg_value_of ps
unfolding meaning_of
reg-value-row ps = refl

pub memory-range-row : (ps : List VPart) → meaning_of 17 ps ≡ memory_of ps
unfolding meaning_of
memory-range-row ps = refl

pub initial-value-row : (ps : List VPart) → meaning_of 18 ps ≡ same ps
unfolding meaning_of
initial-value-row ps = refl

pub value-row : (ps : List VPart) → meaning_of 19 ps ≡ value_of ps
unfolding meaning_of
value-row ps = refl

pub pieces-row : (ps : List VPart) → meaning_of 20 ps ≡ pieces_of ps
unfolding meaning_of
pieces-row ps = refl

pub next-number-row : (ps : List VPart) → meaning_of 21 ps ≡ same ps
unfolding meaning_of
next-number-row ps = refl

pub function-input-row : (ps : List VPart) → meaning_of 22 ps ≡ input_of ps
unfolding meaning_of
function-input-row ps = refl

pub local-row : (ps : List VPart) → meaning_of 23 ps ≡ local_of ps
unfolding meaning_of
local-row ps = refl

pub range-row : (ps : List VPart) → meaning_of 24 ps ≡ range_of ps
unfolding meaning_of
range-row ps = refl

pub decimal-bound-row : (ps : List VPart) → meaning_of 25 ps ≡ same ps
unfolding meaning_of
decimal-bound-row ps = refl

pub nought-bound-row : (ps : List VPart) → meaning_of 26 ps ≡ same ps
unfolding meaning_of
nought-bound-row ps = refl

pub ruleset items = (input-row, output-row, wire-row, reg-row, initial-row, assign-row, always-row, function-row, instance-row, output-net-row, output-reg-row, memory-row, reg-value-row, memory-range-row, initial-value-row, value-row, pieces-row, next-number-row, function-input-row, local-row, range-row, decimal-bound-row, nought-bound-row)

pub star-row : (ps : List VPart) → meaning_of 27 ps ≡ star_of ps
unfolding meaning_of
star-row ps = refl

pub edges-row : (ps : List VPart) → meaning_of 28 ps ≡ edges_of ps
unfolding meaning_of
edges-row ps = refl

pub next-edge-row : (ps : List VPart) → meaning_of 29 ps ≡ same ps
unfolding meaning_of
next-edge-row ps = refl

pub posedge-row : (ps : List VPart) → meaning_of 30 ps ≡ edge_of true ps
unfolding meaning_of
posedge-row ps = refl

pub negedge-row : (ps : List VPart) → meaning_of 31 ps ≡ edge_of false ps
unfolding meaning_of
negedge-row ps = refl

pub connections-row : (ps : List VPart) → meaning_of 32 ps ≡ connections_of ps
unfolding meaning_of
connections-row ps = refl

pub next-connection-row : (ps : List VPart) → meaning_of 33 ps ≡ same ps
unfolding meaning_of
next-connection-row ps = refl

pub connection-row : (ps : List VPart) → meaning_of 34 ps ≡ connection_of ps
unfolding meaning_of
connection-row ps = refl

pub branch-row : (ps : List VPart) → meaning_of 35 ps ≡ branch_of ps
unfolding meaning_of
branch-row ps = refl

pub empty-branch-row : (ps : List VPart) → meaning_of 36 ps ≡ empty_of ps
unfolding meaning_of
empty-branch-row ps = refl

pub block-row : (ps : List VPart) → meaning_of 37 ps ≡ block_of ps
unfolding meaning_of
block-row ps = refl

pub if-row : (ps : List VPart) → meaning_of 38 ps ≡ if_of ps
unfolding meaning_of
if-row ps = refl

pub case-row : (ps : List VPart) → meaning_of 39 ps ≡ case_of ps
unfolding meaning_of
case-row ps = refl

pub store-row : (ps : List VPart) → meaning_of 40 ps ≡ store_of ps
unfolding meaning_of
store-row ps = refl

pub label-row : (ps : List VPart) → meaning_of 41 ps ≡ label_of ps
unfolding meaning_of
label-row ps = refl

pub else-row : (ps : List VPart) → meaning_of 42 ps ≡ else_of ps
unfolding meaning_of
else-row ps = refl

pub plain-case-row : (ps : List VPart) → meaning_of 43 ps ≡ kind_of Plain ps
unfolding meaning_of
plain-case-row ps = refl

pub case-z-row : (ps : List VPart) → meaning_of 44 ps ≡ kind_of Z ps
unfolding meaning_of
case-z-row ps = refl

pub case-x-row : (ps : List VPart) → meaning_of 45 ps ≡ kind_of X ps
unfolding meaning_of
case-x-row ps = refl

pub case-items-row : (ps : List VPart) → meaning_of 46 ps ≡ case_items_of ps
unfolding meaning_of
case-items-row ps = refl

pub default-alone-row : (ps : List VPart) → meaning_of 47 ps ≡ same ps
unfolding meaning_of
default-alone-row ps = refl

pub default-rest-row : (ps : List VPart) → meaning_of 48 ps ≡ case_items_of ps
unfolding meaning_of
default-rest-row ps = refl

pub case-item-row : (ps : List VPart) → meaning_of 49 ps ≡ case_item_of ps
unfolding meaning_of
case-item-row ps = refl

pub default-item-row : (ps : List VPart) → meaning_of 50 ps ≡ default_of ps
unfolding meaning_of
default-item-row ps = refl

pub next-expression-row : (ps : List VPart) → meaning_of 51 ps ≡ same ps
unfolding meaning_of
next-expression-row ps = refl

pub blocking-row : (ps : List VPart) → meaning_of 52 ps ≡ later_of false ps
unfolding meaning_of
blocking-row ps = refl

pub nonblocking-row : (ps : List VPart) → meaning_of 53 ps ≡ later_of true ps
unfolding meaning_of
nonblocking-row ps = refl

pub ruleset statements = (star-row, edges-row, next-edge-row, posedge-row, negedge-row, connections-row, next-connection-row, connection-row, branch-row, empty-branch-row, block-row, if-row, case-row, store-row, label-row, else-row, plain-case-row, case-z-row, case-x-row, case-items-row, default-alone-row, default-rest-row, case-item-row, default-item-row, next-expression-row, blocking-row, nonblocking-row)

pub lvalue-row : (ps : List VPart) → meaning_of 54 ps ≡ lvalue_of ps
unfolding meaning_of
lvalue-row ps = refl

pub lvalues-row : (ps : List VPart) → meaning_of 55 ps ≡ lvalues_of ps
unfolding meaning_of
lvalues-row ps = refl

pub next-lvalue-row : (ps : List VPart) → meaning_of 56 ps ≡ same ps
unfolding meaning_of
next-lvalue-row ps = refl

pub selects-row : (ps : List VPart) → meaning_of 57 ps ≡ selects_of ps
unfolding meaning_of
selects-row ps = refl

pub select-row : (ps : List VPart) → meaning_of 58 ps ≡ select_of ps
unfolding meaning_of
select-row ps = refl

pub number-base-row : (ps : List VPart) → meaning_of 59 ps ≡ same ps
unfolding meaning_of
number-base-row ps = refl

pub expression-base-row : (ps : List VPart) → meaning_of 60 ps ≡ same ps
unfolding meaning_of
expression-base-row ps = refl

pub down-row : (ps : List VPart) → meaning_of 61 ps ≡ extent_of Down ps
unfolding meaning_of
down-row ps = refl

pub up-row : (ps : List VPart) → meaning_of 62 ps ≡ extent_of Up ps
unfolding meaning_of
up-row ps = refl

pub ruleset targets = (lvalue-row, lvalues-row, next-lvalue-row, selects-row, select-row, number-base-row, expression-base-row, down-row, up-row)

pub expression-row : (ps : List VPart) → meaning_of 63 ps ≡ expression_of ps
unfolding meaning_of
expression-row ps = refl

pub unary-row : (ps : List VPart) → meaning_of 64 ps ≡ unary_of ps
unfolding meaning_of
unary-row ps = refl

pub right-row : (ps : List VPart) → meaning_of 65 ps ≡ right_of ps
unfolding meaning_of
right-row ps = refl

pub arms-row : (ps : List VPart) → meaning_of 66 ps ≡ arms_of ps
unfolding meaning_of
arms-row ps = refl

pub number-row : (ps : List VPart) → meaning_of 67 ps ≡ number_of ps
unfolding meaning_of
number-row ps = refl

pub paren-row : (ps : List VPart) → meaning_of 68 ps ≡ paren_of ps
unfolding meaning_of
paren-row ps = refl

pub name-row : (ps : List VPart) → meaning_of 69 ps ≡ name_of ps
unfolding meaning_of
name-row ps = refl

pub braces-row : (ps : List VPart) → meaning_of 70 ps ≡ same ps
unfolding meaning_of
braces-row ps = refl

pub sign-row : (ps : List VPart) → meaning_of 71 ps ≡ sign_of ps
unfolding meaning_of
sign-row ps = refl

pub arguments-row : (ps : List VPart) → meaning_of 72 ps ≡ arguments_of ps
unfolding meaning_of
arguments-row ps = refl

pub name-selects-row : (ps : List VPart) → meaning_of 73 ps ≡ same ps
unfolding meaning_of
name-selects-row ps = refl

pub repeat-row : (ps : List VPart) → meaning_of 74 ps ≡ repeat_of ps
unfolding meaning_of
repeat-row ps = refl

pub concat-row : (ps : List VPart) → meaning_of 75 ps ≡ concat_of ps
unfolding meaning_of
concat-row ps = refl

pub signed-row : (ps : List VPart) → meaning_of 76 ps ≡ signed_of true ps
unfolding meaning_of
signed-row ps = refl

pub unsigned-row : (ps : List VPart) → meaning_of 77 ps ≡ signed_of false ps
unfolding meaning_of
unsigned-row ps = refl

pub ruleset expressions = (expression-row, unary-row, right-row, arms-row, number-row, paren-row, name-row, braces-row, sign-row, arguments-row, name-selects-row, repeat-row, concat-row, signed-row, unsigned-row)

pub not-row : (ps : List VPart) → meaning_of 78 ps ≡ unary_op_of U.Not ps
unfolding meaning_of
not-row ps = refl

pub logical-not-row : (ps : List VPart) → meaning_of 79 ps ≡ unary_op_of U.LogicalNot ps
unfolding meaning_of
logical-not-row ps = refl

pub neg-row : (ps : List VPart) → meaning_of 80 ps ≡ unary_op_of U.Neg ps
unfolding meaning_of
neg-row ps = refl

pub reduce-and-row : (ps : List VPart) → meaning_of 81 ps ≡ unary_op_of U.And ps
unfolding meaning_of
reduce-and-row ps = refl

pub reduce-nand-row : (ps : List VPart) → meaning_of 82 ps ≡ unary_op_of U.Nand ps
unfolding meaning_of
reduce-nand-row ps = refl

pub reduce-or-row : (ps : List VPart) → meaning_of 83 ps ≡ unary_op_of U.Or ps
unfolding meaning_of
reduce-or-row ps = refl

pub reduce-nor-row : (ps : List VPart) → meaning_of 84 ps ≡ unary_op_of U.Nor ps
unfolding meaning_of
reduce-nor-row ps = refl

pub reduce-xor-row : (ps : List VPart) → meaning_of 85 ps ≡ unary_op_of U.Xor ps
unfolding meaning_of
reduce-xor-row ps = refl

pub reduce-xnor-row : (ps : List VPart) → meaning_of 86 ps ≡ unary_op_of U.Xnor ps
unfolding meaning_of
reduce-xnor-row ps = refl

pub ruleset unaries = (not-row, logical-not-row, neg-row, reduce-and-row, reduce-nand-row, reduce-or-row, reduce-nor-row, reduce-xor-row, reduce-xnor-row)

pub add-row : (ps : List VPart) → meaning_of 87 ps ≡ binary_op_of B.Add ps
unfolding meaning_of
add-row ps = refl

pub sub-row : (ps : List VPart) → meaning_of 88 ps ≡ binary_op_of B.Sub ps
unfolding meaning_of
sub-row ps = refl

pub mul-row : (ps : List VPart) → meaning_of 89 ps ≡ binary_op_of B.Mul ps
unfolding meaning_of
mul-row ps = refl

pub div-row : (ps : List VPart) → meaning_of 90 ps ≡ binary_op_of B.Div ps
unfolding meaning_of
div-row ps = refl

pub rem-row : (ps : List VPart) → meaning_of 91 ps ≡ binary_op_of B.Rem ps
unfolding meaning_of
rem-row ps = refl

pub power-row : (ps : List VPart) → meaning_of 92 ps ≡ binary_op_of B.Power ps
unfolding meaning_of
power-row ps = refl

pub shift-left-row : (ps : List VPart) → meaning_of 93 ps ≡ binary_op_of B.ShiftLeft ps
unfolding meaning_of
shift-left-row ps = refl

pub shift-right-row : (ps : List VPart) → meaning_of 94 ps ≡ binary_op_of B.ShiftRight ps
unfolding meaning_of
shift-right-row ps = refl

pub arithmetic-left-row : (ps : List VPart) → meaning_of 95 ps ≡ binary_op_of B.ArithmeticLeft ps
unfolding meaning_of
arithmetic-left-row ps = refl

pub arithmetic-right-row : (ps : List VPart) → meaning_of 96 ps ≡ binary_op_of B.ArithmeticRight ps
unfolding meaning_of
arithmetic-right-row ps = refl

pub less-row : (ps : List VPart) → meaning_of 97 ps ≡ binary_op_of B.Less ps
unfolding meaning_of
less-row ps = refl

pub less-equal-row : (ps : List VPart) → meaning_of 98 ps ≡ binary_op_of B.LessEqual ps
unfolding meaning_of
less-equal-row ps = refl

pub greater-row : (ps : List VPart) → meaning_of 99 ps ≡ binary_op_of B.Greater ps
unfolding meaning_of
greater-row ps = refl

pub greater-equal-row : (ps : List VPart) → meaning_of 100 ps ≡ binary_op_of B.GreaterEqual ps
unfolding meaning_of
greater-equal-row ps = refl

pub equal-row : (ps : List VPart) → meaning_of 101 ps ≡ binary_op_of B.Equal ps
unfolding meaning_of
equal-row ps = refl

pub not-equal-row : (ps : List VPart) → meaning_of 102 ps ≡ binary_op_of B.NotEqual ps
unfolding meaning_of
not-equal-row ps = refl

pub case-equal-row : (ps : List VPart) → meaning_of 103 ps ≡ binary_op_of B.CaseEqual ps
unfolding meaning_of
case-equal-row ps = refl

pub case-not-equal-row : (ps : List VPart) → meaning_of 104 ps ≡ binary_op_of B.CaseNotEqual ps
unfolding meaning_of
case-not-equal-row ps = refl

pub and-row : (ps : List VPart) → meaning_of 105 ps ≡ binary_op_of B.And ps
unfolding meaning_of
and-row ps = refl

pub or-row : (ps : List VPart) → meaning_of 106 ps ≡ binary_op_of B.Or ps
unfolding meaning_of
or-row ps = refl

pub xor-row : (ps : List VPart) → meaning_of 107 ps ≡ binary_op_of B.Xor ps
unfolding meaning_of
xor-row ps = refl

pub xnor-row : (ps : List VPart) → meaning_of 108 ps ≡ binary_op_of B.Xnor ps
unfolding meaning_of
xnor-row ps = refl

pub logical-and-row : (ps : List VPart) → meaning_of 109 ps ≡ binary_op_of B.LogicalAnd ps
unfolding meaning_of
logical-and-row ps = refl

pub logical-or-row : (ps : List VPart) → meaning_of 110 ps ≡ binary_op_of B.LogicalOr ps
unfolding meaning_of
logical-or-row ps = refl

pub ruleset binaries = (add-row, sub-row, mul-row, div-row, rem-row, power-row, shift-left-row, shift-right-row, arithmetic-left-row, arithmetic-right-row, less-row, less-equal-row, greater-row, greater-equal-row, equal-row, not-equal-row, case-equal-row, case-not-equal-row, and-row, or-row, xor-row, xnor-row, logical-and-row, logical-or-row)

-- a row that the table doesn't have
pub past-rows : (row : ℕ) (ps : List VPart) → 111 ≤ row → meaning_of row ps ≡ P.Nothing
unfolding meaning_of
past-rows row ps past = ap (λ o. by_row o ps) (slice_get_past row_meanings row past)
