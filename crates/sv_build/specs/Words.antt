-- The words and operators of declarations and statements, by the rows that they were read by.
use Rattle.std.specs.Prelude.{ℕ, ◌==◌, Option, Some, None, if◌then◌else◌}
use Rattle.ll_engine.specs.declared.tree.Tree.{Tree}
use Rattle.sv_tree.specs.declared.declarations.ParameterKeyword.{ParameterKeyword}
use Rattle.sv_tree.specs.declared.declarations.ParameterKeyword.TheVariants.{Parameter, Localparam}
use Rattle.sv_tree.specs.declared.functions.FormalDirection.{FormalDirection}
use Rattle.sv_tree.specs.declared.functions.FormalDirection.TheVariants as F
use Rattle.sv_tree.specs.declared.names.Direction.{Direction}
use Rattle.sv_tree.specs.declared.names.Direction.TheVariants as D
use Rattle.sv_tree.specs.declared.names.Label.{Label}
use Rattle.sv_tree.specs.declared.names.Lifetime.{Lifetime}
use Rattle.sv_tree.specs.declared.names.Lifetime.TheVariants.{Automatic, Static}
use Rattle.sv_tree.specs.declared.names.NetOrVariable.{NetOrVariable}
use Rattle.sv_tree.specs.declared.names.NetOrVariable.TheVariants.{Wire, Var}
use Rattle.sv_tree.specs.declared.operators.AssignmentOperator.{AssignmentOperator}
use Rattle.sv_tree.specs.declared.operators.AssignmentOperator.TheVariants as A
use Rattle.sv_tree.specs.declared.operators.StepOperator.{StepOperator}
use Rattle.sv_tree.specs.declared.operators.StepOperator.TheVariants.{Increment, Decrement}
use Rattle.sv_tree.specs.declared.processes.EdgeKeyword.{EdgeKeyword}
use Rattle.sv_tree.specs.declared.processes.EdgeKeyword.TheVariants.{Posedge, Negedge}
use Rattle.sv_tree.specs.declared.statements.CaseKeyword.{CaseKeyword}
use Rattle.sv_tree.specs.declared.statements.CaseKeyword.TheVariants as C
use Rattle.sv_tree.specs.declared.statements.UniquePriority.{UniquePriority}
use Rattle.sv_tree.specs.declared.statements.UniquePriority.TheVariants as U
use Rattle.sv_build.specs.declared.rows.TheConstants as R
use Rattle.expr_build.specs.Nodes.{kid, token, row_of, optional}

abbrev pub lifetime_from : Tree → Lifetime
lifetime_from t = if row_of t == R.AUTOMATIC then Automatic (token 0 t) else Static (token 0 t)

abbrev pub lifetime_of : Tree → Option Lifetime
lifetime_of t = optional lifetime_from t

-- `: NAME`, or nothing
abbrev pub label_from : Tree → Label
label_from t = record { colon = token 0 t; name = token 1 t }

abbrev pub label_of : Tree → Option Label
label_of t = optional label_from t

abbrev pub parameter_keyword_of : Tree → ParameterKeyword
parameter_keyword_of t = if row_of t == R.PARAMETER then Parameter (token 0 t) else Localparam (token 0 t)

abbrev pub optional_parameter_keyword_of : Tree → Option ParameterKeyword
optional_parameter_keyword_of t = optional (λ some. parameter_keyword_of (kid 0 some)) t

abbrev pub direction_of : Tree → Direction
direction_of t = if row_of t == R.INPUT then D.Input (token 0 t) else D.Output (token 0 t)

abbrev pub optional_direction_of : Tree → Option Direction
optional_direction_of t = optional (λ some. direction_of (kid 0 some)) t

abbrev pub formal_direction_from : Tree → FormalDirection
formal_direction_from t =
    if row_of t == R.FORMAL_INPUT then F.Input (token 0 t)
    else (if row_of t == R.FORMAL_OUTPUT then F.Output (token 0 t)
    else F.Inout (token 0 t))

abbrev pub formal_direction_of : Tree → Option FormalDirection
formal_direction_of t = optional formal_direction_from t

abbrev pub net_of : Tree → NetOrVariable
net_of t = if row_of t == R.WIRE then Wire (token 0 t) else Var (token 0 t)

abbrev pub optional_net_of : Tree → Option NetOrVariable
optional_net_of t = optional (λ some. net_of (kid 0 some)) t

abbrev pub step_operator_by : ℕ → StepOperator
step_operator_by row = if row == R.INCREMENT then Increment else Decrement

abbrev pub shift_assignment_by : ℕ → AssignmentOperator
shift_assignment_by row =
    if row == R.ASSIGN_SHIFT_LEFT then A.ShiftLeft
    else (if row == R.ASSIGN_SHIFT_RIGHT then A.ShiftRight
    else (if row == R.ASSIGN_ARITHMETIC_SHIFT_LEFT then A.ArithmeticShiftLeft
    else A.ArithmeticShiftRight))

abbrev pub assignment_operator_by : ℕ → AssignmentOperator
assignment_operator_by row =
    if row == R.ASSIGN then A.Assign
    else (if row == R.ASSIGN_NONBLOCKING then A.Nonblocking
    else (if row == R.ASSIGN_ADD then A.Add
    else (if row == R.ASSIGN_SUBTRACT then A.Subtract
    else (if row == R.ASSIGN_MULTIPLY then A.Multiply
    else (if row == R.ASSIGN_DIVIDE then A.Divide
    else (if row == R.ASSIGN_REMAINDER then A.Remainder
    else (if row == R.ASSIGN_AND then A.And
    else (if row == R.ASSIGN_OR then A.Or
    else (if row == R.ASSIGN_XOR then A.Xor
    else shift_assignment_by row)))))))))

abbrev pub edge_keyword_of : Tree → EdgeKeyword
edge_keyword_of t = if row_of t == R.POSEDGE then Posedge (token 0 t) else Negedge (token 0 t)

abbrev pub promise_of : Tree → UniquePriority
promise_of t =
    if row_of t == R.UNIQUE then U.Unique (token 0 t)
    else (if row_of t == R.UNIQUE0 then U.Unique0 (token 0 t)
    else U.Priority (token 0 t))

abbrev pub case_keyword_of : Tree → CaseKeyword
case_keyword_of t =
    if row_of t == R.CASE then C.Case (token 0 t)
    else (if row_of t == R.CASEZ then C.Casez (token 0 t)
    else C.Casex (token 0 t))
