-- What happens to names in statements, and in functions and tasks.
use Rattle.std.specs.Prelude.{ℕ, zero, suc, true, false, List, [], ◌∷◌, map, Option, Some, None}
use Rattle.std.specs.Option.{option_map}
use Rattle.sv_tree.specs.Extents.{extent_of_expr, extent_of_stmt, labelled}
use Rattle.sv_tree.specs.declared.expressions.Expr.{Expr}
use Rattle.sv_tree.specs.declared.expressions.Select.{Select}
use Rattle.sv_tree.specs.declared.expressions.SliceSize.{SliceSize}
use Rattle.sv_tree.specs.declared.functions.Formal.{Formal}
use Rattle.sv_tree.specs.declared.functions.FormalDirection.{FormalDirection}
use Rattle.sv_tree.specs.declared.functions.FormalDirection.TheVariants as D
use Rattle.sv_tree.specs.declared.functions.FormalList.{FormalList}
use Rattle.sv_tree.specs.declared.functions.Function.{Function}
use Rattle.sv_tree.specs.declared.functions.FunctionResult.{FunctionResult}
use Rattle.sv_tree.specs.declared.functions.FunctionResult.TheVariants as G
use Rattle.sv_tree.specs.declared.functions.Task.{Task}
use Rattle.sv_tree.specs.declared.names.Label.{Label}
use Rattle.sv_tree.specs.declared.operators.AssignmentOperator.{AssignmentOperator}
use Rattle.sv_tree.specs.declared.operators.AssignmentOperator.TheVariants.{Nonblocking}
use Rattle.sv_tree.specs.declared.ports.PortText.{PortText}
use Rattle.sv_tree.specs.declared.ports.PortText.TheVariants as T
use Rattle.sv_tree.specs.declared.statements.BlockItem.{BlockItem, BlockItem-F, out-BlockItem}
use Rattle.sv_tree.specs.declared.statements.CaseItem.{CaseItem, CaseItem-F, out-CaseItem}
use Rattle.sv_tree.specs.declared.statements.Else.{Else, out-Else}
use Rattle.sv_tree.specs.declared.statements.LoopStart.{LoopStart}
use Rattle.sv_tree.specs.declared.statements.LoopStep.{LoopStep}
use Rattle.sv_tree.specs.declared.statements.LoopStep.TheVariants as L
use Rattle.sv_tree.specs.declared.statements.Lvalue.{Lvalue, Lvalue-F, fold-Lvalue}
use Rattle.sv_tree.specs.declared.statements.Stmt.{Stmt, Stmt-F, out-Stmt}
use Rattle.name_events.specs.declared.context.Around.{Around}
use Rattle.name_events.specs.declared.context.Body.{Body}
use Rattle.name_events.specs.declared.context.Body.TheVariants as B
use Rattle.name_events.specs.declared.dimensions.Dimensioned.TheVariants as M
use Rattle.name_events.specs.declared.events.Declared.{Declared}
use Rattle.name_events.specs.declared.events.Declared.TheVariants as W
use Rattle.name_events.specs.declared.events.Event.TheVariants as E
use Rattle.name_events.specs.declared.events.Role.{Role}
use Rattle.name_events.specs.declared.events.Role.TheVariants as R
use Rattle.name_events.specs.declared.events.ScopeKind.{ScopeKind}
use Rattle.name_events.specs.declared.events.ScopeKind.TheVariants as S
use Rattle.name_events.specs.declared.events.SelectPath.TheVariants as P
use Rattle.name_events.specs.declared.expressions.Position.TheVariants as Q
use Rattle.name_events.specs.Steps.{Part, put, nothing, wrong, uses, declares, declares_outside}
use Rattle.name_events.specs.Expressions.{expr_events, expressions, dimensions, select_path, selects_behind, slice_size_events, uses_path}
use Rattle.name_events.specs.Steps.{maybe}
use Rattle.name_events.specs.Types.{type_events, last_of_dimensions, named_of_type, declarators, parameters}

abbrev pub opens : ScopeKind → ℕ → ℕ → Part
opens kind first last = put (E.Opens kind first last)

abbrev pub closes : Part
closes = put E.Closes

-- a block's name, and the name behind its end, which is the same
abbrev pub labels : Declared → Option Label → Part
labels what None = nothing
labels what (Some l) = declares_outside what l.name

abbrev pub repeats : ℕ → Option Label → Part
repeats name None = nothing
repeats name (Some e) = put (E.Repeats name e.name)

abbrev pub no_label : Option Label → Part
no_label None = nothing
no_label (Some e) = wrong e.name

abbrev pub end_label : Option Label → Option Label → Part
end_label None e = no_label e
end_label (Some l) e = repeats l.name e

-- what is assigned
abbrev pub target_name : Role → ℕ → List Select → Part
target_name role name ss to = selects_behind name ss (put (E.Uses None name role (select_path ss)) to)

abbrev pub targets_in : Role → List (Role → Part) → Part
targets_in role [] to = to
targets_in role (l ∷ ls) to = targets_in role ls (l role to)

abbrev pub lvalue_step : Lvalue-F (Role → Part) → Role → Part
lvalue_step (Lvalue-F.Name name ss) role to = target_name role name ss to
lvalue_step (Lvalue-F.Concatenation opening targets closing) role to = targets_in role targets to
lvalue_step (Lvalue-F.Stream opening operator at size inner_opening targets inner_closing closing) role to =
    targets_in role targets (maybe (option_map slice_size_events size) to)

abbrev pub lvalue_events : Lvalue → Role → Part
lvalue_events = fold-Lvalue (Role → Part) lvalue_step

abbrev pub maybe_slice_size : Option SliceSize → Part
maybe_slice_size s = maybe (option_map slice_size_events s)

abbrev pub targets : Role → List Lvalue → Part
targets role ls = targets_in role (map lvalue_events ls)

-- the step of a loop, which assigns to the loop's variable
abbrev pub step_name : ℕ → ℕ → Part
step_name of name to = put (E.Repeats of name) (uses name R.Step to)

abbrev pub step_operator : AssignmentOperator → ℕ → Part
step_operator Nonblocking at = wrong at
step_operator _ at = nothing

abbrev pub loop_step : ℕ → LoopStep → Part
loop_step of (L.Assign name operator at value) to = expr_events value Q.Value (step_operator operator at (step_name of name to))
loop_step of (L.Postfix name operator at) to = step_name of name to
loop_step of (L.Prefix operator at name) to = step_name of name to

abbrev pub loop_start : LoopStart → Part
loop_start f to = declares W.LoopVariable f.name (extent_of_expr f.value).last (expr_events f.value Q.Value (type_events f.of to))

-- jumps
abbrev pub jump : Around → ℕ → Part
jump a at = elim a.looped [ true ↦ nothing | false ↦ wrong at ]

abbrev pub value_of : Option Expr → Part
value_of None = nothing
value_of (Some e) = expr_events e Q.Value

abbrev pub no_value : Option Expr → Part
no_value None = nothing
no_value (Some e) = wrong (extent_of_expr e).first

abbrev pub return_place : Body → ℕ → Option Expr → Part
return_place B.Process at value = wrong at
return_place B.Function at value = nothing
return_place B.Routine at value = no_value value

-- Statements. `inner` gives what happens in the statements inside one.
abbrev pub Inner : Type 0
Inner = Around → Stmt → Part

abbrev pub looped : Around → Around
looped a = record { looped = true; body = a.body }

abbrev pub block_item_in : Inner → Around → BlockItem-F BlockItem CaseItem Stmt Else → Part
block_item_in inner a (BlockItem-F.Statement s) to = inner a s to
block_item_in inner a (BlockItem-F.Parameters p) to = parameters false p.bodies to
block_item_in inner a (BlockItem-F.Variables automatic var of ds semicolon) to = declarators W.Local ds (type_events of to)
block_item_in inner a (BlockItem-F.NamedVariables of ss ds semicolon) to = declarators W.Local ds (target_name R.Type of ss to)

abbrev pub block_item : Inner → Around → BlockItem → Part
block_item inner a i = block_item_in inner a (out-BlockItem i)

abbrev pub block_items : Inner → Around → List BlockItem → Part
block_items inner a [] to = to
block_items inner a (i ∷ is) to = block_items inner a is (block_item inner a i to)

abbrev pub case_item_in : Inner → Around → CaseItem-F BlockItem CaseItem Stmt Else → Part
case_item_in inner a (CaseItem-F.Values values colon body) to = inner a body (expressions values to)
case_item_in inner a (CaseItem-F.Default keyword colon body) to = inner a body to

abbrev pub case_item : Inner → Around → CaseItem → Part
case_item inner a i = case_item_in inner a (out-CaseItem i)

abbrev pub case_items : Inner → Around → List CaseItem → Part
case_items inner a [] to = to
case_items inner a (i ∷ is) to = case_items inner a is (case_item inner a i to)

abbrev pub otherwise : Inner → Around → Option Else → Part
otherwise inner a None to = to
otherwise inner a (Some e) to = inner a (out-Else e).body to

abbrev pub stmt_in : Inner → Around → ℕ → Stmt-F BlockItem CaseItem Stmt Else → Part
stmt_in inner a last (Stmt-F.Block begin label items end ended) to =
    closes (end_label label ended (block_items inner a items (labels W.Block label (opens S.Block begin (labelled end ended) to))))
stmt_in inner a last (Stmt-F.If promise keyword opening test closing body other) to = otherwise inner a other (inner a body (expr_events test Q.Value to))
stmt_in inner a last (Stmt-F.Case promise keyword opening value closing items end) to = case_items inner a items (expr_events value Q.Value to)
stmt_in inner a last (Stmt-F.For keyword opening first first_semicolon test test_semicolon step closing body) to =
    closes (inner (looped a) body (loop_step first.name step (expr_events test Q.Value (loop_start first (opens S.Loop keyword last to)))))
stmt_in inner a last (Stmt-F.Break keyword semicolon) to = jump a keyword to
stmt_in inner a last (Stmt-F.Continue keyword semicolon) to = jump a keyword to
stmt_in inner a last (Stmt-F.Return keyword value semicolon) to = value_of value (return_place a.body keyword value to)
stmt_in inner a last (Stmt-F.Call of opening arguments closing semicolon) to = expressions arguments (uses_path of R.CallStatement P.Alone to)
stmt_in inner a last (Stmt-F.Assign target operator at value semicolon) to = expr_events value Q.Value (lvalue_events target R.ProceduralTarget to)
stmt_in inner a last (Stmt-F.Postfix name ss operator at semicolon) to = target_name R.ProceduralTarget name ss to
stmt_in inner a last (Stmt-F.Prefix operator at name ss semicolon) to = target_name R.ProceduralTarget name ss to
stmt_in inner a last (Stmt-F.Empty semicolon) to = to

abbrev pub stmt_around : Inner → Around → Stmt → Part
stmt_around inner a s = stmt_in inner a (extent_of_stmt s).last (out-Stmt s)

-- a statement in which statements nest at most so deep; none nests deeper in a text
abbrev pub nesting_limit : ℕ
nesting_limit = 256

abbrev pub stmt_within : ℕ → Around → Stmt → Part
stmt_within zero a s = nothing
stmt_within (suc depth) a s = stmt_around (stmt_within depth) a s

abbrev pub stmt_events : Around → Stmt → Part
stmt_events a s = stmt_within nesting_limit a s

abbrev pub body_around : Body → Around
body_around body = record { looped = false; body = body }

abbrev pub process_body : Stmt → Part
process_body s = stmt_events (body_around B.Process) s

-- Formal arguments. Those of a function with a value are inputs.
abbrev pub output_direction : FormalDirection → Part
output_direction (D.Input at) = nothing
output_direction (D.Output at) = wrong at
output_direction (D.Inout at) = wrong at

abbrev pub directed : Body → FormalDirection → Part
directed B.Function direction = output_direction direction
directed B.Process direction = nothing
directed B.Routine direction = nothing

abbrev pub formal_direction : Body → Option FormalDirection → Part
formal_direction body None = nothing
formal_direction body (Some direction) = directed body direction

abbrev pub formal_text : PortText → Part
formal_text (T.Typed of name unpacked) to = named_of_type W.Formal name unpacked None (type_events of to)
formal_text (T.Modport of dot modport name) to = declares W.Formal name name (wrong of to)
formal_text (T.Bare name unpacked) to = named_of_type W.Formal name unpacked None to

abbrev pub formal : Body → Formal → Part
formal body f to = formal_text f.text (formal_direction body f.direction to)

abbrev pub formals : Body → List Formal → Part
formals body [] to = to
formals body (f ∷ fs) to = formals body fs (formal body f to)

abbrev pub formal_list : Body → Option FormalList → Part
formal_list body None = nothing
formal_list body (Some l) = formals body l.formals

-- functions and tasks
abbrev pub routine_items : Body → List BlockItem → Part
routine_items body is = block_items (stmt_within nesting_limit) (body_around body) is

abbrev pub result_body : FunctionResult → Body
result_body (G.Void keyword) = B.Routine
result_body (G.Value of) = B.Function

abbrev pub result_declared : FunctionResult → Declared
result_declared (G.Void keyword) = W.VoidFunction
result_declared (G.Value of) = W.Function

abbrev pub result_scope : FunctionResult → ScopeKind
result_scope (G.Void keyword) = S.VoidFunction
result_scope (G.Value of) = S.Function

abbrev pub result_type : FunctionResult → Part
result_type (G.Void keyword) to = to
result_type (G.Value of) to = type_events of to

-- a function's declarator ends behind the dimensions of its result
abbrev pub declares_function : Function → Part
declares_function f = put (E.Declares (result_declared f.of) f.name (last_of_dimensions f.name f.unpacked) true)

abbrev pub function_head : Function → Part
function_head f to =
    formal_list (result_body f.of) f.formals
    (dimensions M.Unpacked f.unpacked
    (result_type f.of
    (declares_function f
    (opens (result_scope f.of) f.keyword (labelled f.end f.end_label) to))))

abbrev pub function_events : Function → Part
function_events f to = closes (repeats f.name f.end_label (routine_items (result_body f.of) f.items (function_head f to)))

abbrev pub task_head : Task → Part
task_head t to = formal_list B.Routine t.formals (declares_outside W.Task t.name (opens S.Task t.keyword (labelled t.end t.end_label) to))

abbrev pub task_events : Task → Part
task_events t to = closes (repeats t.name t.end_label (routine_items B.Routine t.items (task_head t to)))
