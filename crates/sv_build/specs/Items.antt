-- Functions, tasks, processes, instances, items and descriptions, by the rows that they were read by.
use Rattle.std.specs.Prelude.{ℕ, zero, suc, ◌==◌, List, [], ◌∷◌, ◌++◌, map, drop, Option, Some, None, if◌then◌else◌}
use Rattle.ll_engine.specs.declared.tree.Tree.{Tree}
use Rattle.sv_tree.specs.declared.expressions.Dimension.{Dimension}
use Rattle.sv_tree.specs.declared.expressions.Expr.{Expr}
use Rattle.sv_tree.specs.declared.functions.Formal.{Formal}
use Rattle.sv_tree.specs.declared.functions.FormalList.{FormalList}
use Rattle.sv_tree.specs.declared.functions.Function.{Function}
use Rattle.sv_tree.specs.declared.functions.FunctionResult.{FunctionResult}
use Rattle.sv_tree.specs.declared.functions.FunctionResult.TheVariants.{Void, Value}
use Rattle.sv_tree.specs.declared.functions.Task.{Task}
use Rattle.sv_tree.specs.declared.instances.Bind.{Bind}
use Rattle.sv_tree.specs.declared.instances.Bind.TheVariants as B
use Rattle.sv_tree.specs.declared.instances.Connection.{Connection}
use Rattle.sv_tree.specs.declared.instances.Connection.TheVariants as C
use Rattle.sv_tree.specs.declared.instances.Instance.{Instance}
use Rattle.sv_tree.specs.declared.instances.Instantiation.{Instantiation}
use Rattle.sv_tree.specs.declared.instances.Modport.{Modport}
use Rattle.sv_tree.specs.declared.instances.ModportDeclaration.{ModportDeclaration}
use Rattle.sv_tree.specs.declared.instances.ModportPort.{ModportPort}
use Rattle.sv_tree.specs.declared.instances.ParameterBinds.{ParameterBinds}
use Rattle.sv_tree.specs.declared.items.CaseGenerateItem.{CaseGenerateItem}
use Rattle.sv_tree.specs.declared.items.CaseGenerateItem.TheVariants as G
use Rattle.sv_tree.specs.declared.items.GenerateBlock.{GenerateBlock}
use Rattle.sv_tree.specs.declared.items.GenerateBlock.TheVariants as K
use Rattle.sv_tree.specs.declared.items.GenerateElse.{GenerateElse}
use Rattle.sv_tree.specs.declared.items.GenerateLoop.{GenerateLoop}
use Rattle.sv_tree.specs.declared.items.GenvarDeclaration.{GenvarDeclaration}
use Rattle.sv_tree.specs.declared.items.Item.{Item}
use Rattle.sv_tree.specs.declared.items.Item.TheVariants as I
use Rattle.sv_tree.specs.declared.processes.Always.{Always}
use Rattle.sv_tree.specs.declared.processes.Always.TheVariants as A
use Rattle.sv_tree.specs.declared.processes.ContinuousAssign.{ContinuousAssign}
use Rattle.sv_tree.specs.declared.processes.EventControl.{EventControl}
use Rattle.sv_tree.specs.declared.processes.EventControl.TheVariants as E
use Rattle.sv_tree.specs.declared.processes.EventEdge.{EventEdge}
use Rattle.sv_tree.specs.declared.processes.EventMember.{EventMember}
use Rattle.sv_tree.specs.declared.processes.NetAssignment.{NetAssignment}
use Rattle.sv_tree.specs.declared.types.TypeText.{TypeText}
use Rattle.sv_tree.specs.declared.units.Module.{Module}
use Rattle.sv_tree.specs.declared.units.Package.{Package}
use Rattle.sv_tree.specs.declared.units.PackageItem.{PackageItem}
use Rattle.sv_tree.specs.declared.units.PackageItem.TheVariants as P
use Rattle.sv_tree.specs.declared.units.Unit.{Unit as Description}
use Rattle.sv_tree.specs.declared.units.Unit.TheVariants as U
use Rattle.sv_build.specs.declared.functions.FunctionName.{FunctionName}
use Rattle.sv_build.specs.declared.rows.TheConstants as R
use Rattle.sv_build.specs.Words.{lifetime_of, label_of, optional_direction_of, formal_direction_of, edge_keyword_of}
use Rattle.sv_build.specs.Declarations.{parameters_of, import_of, typedef_of, port_text_of, header_of, variables, variables_of, data_with, data_of, declared}
use Rattle.sv_build.specs.Statements.{lvalue_of, loop_step_of, stmt_of, block_items_of, optional_token_of, optional_expr_of}
use Rattle.expr_build.specs.Nodes.{kids_of, kid, token, token_of, row_of, optional, is_blank, separated, behind_marks}
use Rattle.expr_build.specs.Expressions.{expr_of, exprs_of, nesting_limit}
use Rattle.expr_build.specs.Types.{dims_of, declarators_of, declarators_behind, keyword_text, named_text, named_dims_text, bare_text, signed_text, dimensioned_text, no_type, alone, scoped}

-- formal arguments
abbrev pub formal_of : Tree → Formal
formal_of t = record { direction = formal_direction_of (kid 0 t); text = port_text_of (kid 1 t) }

abbrev pub formals_from : Tree → FormalList
formals_from t = record { opening = token 0 t; formals = separated formal_of (kids_of (kid 1 t)); closing = token 2 t }

abbrev pub formals_of : Tree → Option FormalList
formals_of t = optional formals_from t

-- what a function gives, and its name: what stands behind a first name, and the whole
abbrev pub function_name : FunctionResult → ℕ → List Dimension → FunctionName
function_name of name unpacked = record { of = of; name = name; unpacked = unpacked }

abbrev pub typed_name : TypeText → ℕ → FunctionName
typed_name of name = function_name (Value of) name []

abbrev pub function_from : ℕ → Tree → FunctionName
function_from first t =
    if is_blank (kid 1 t) then function_name (Value no_type) first (dims_of (kid 0 t))
    else typed_name (named_text (alone first) (kid 0 t)) (token 0 (kid 1 t))

abbrev pub named_function_of : ℕ → Tree → FunctionName
named_function_of first t =
    if row_of t == R.SCOPED_FUNCTION_TYPE then typed_name (named_text (scoped first (token 0 t) (token 1 t)) (kid 2 t)) (token 3 t)
    else function_from first t

abbrev pub function_name_of : Tree → FunctionName
function_name_of t =
    if row_of t == R.KEYWORD_FUNCTION then typed_name (keyword_text (kid 0 t) (kid 1 t)) (token 2 t)
    else (if row_of t == R.SIGNED_FUNCTION then typed_name (signed_text (kid 0 t) (kid 1 t)) (token 2 t)
    else (if row_of t == R.DIMENSIONED_FUNCTION then typed_name (dimensioned_text (kid 0 t) (kid 1 t)) (token 2 t)
    else (if row_of t == R.NAMED_FUNCTION then named_function_of (token 0 t) (kid 1 t)
    else function_name (Void (token 0 t)) (token 1 t) [])))

abbrev pub function_with : FunctionName → Tree → Function
function_with named t = record {
  keyword = token 0 t;
  lifetime = lifetime_of (kid 1 t);
  of = named.of;
  name = named.name;
  unpacked = named.unpacked;
  formals = formals_of (kid 3 t);
  semicolon = token 4 t;
  items = block_items_of (kid 5 t);
  end = token 6 t;
  end_label = label_of (kid 7 t);
}

abbrev pub function_of : Tree → Function
function_of t = function_with (function_name_of (kid 2 t)) t

abbrev pub task_of : Tree → Task
task_of t = record {
  keyword = token 0 t;
  lifetime = lifetime_of (kid 1 t);
  name = token 2 t;
  formals = formals_of (kid 3 t);
  semicolon = token 4 t;
  items = block_items_of (kid 5 t);
  end = token 6 t;
  end_label = label_of (kid 7 t);
}

-- continuous assignments
abbrev pub net_assignment_of : Tree → NetAssignment
net_assignment_of t = record { target = lvalue_of (kid 0 t); equals = token 1 t; value = expr_of (kid 2 t) }

abbrev pub assign_of : Tree → ContinuousAssign
assign_of t = record { keyword = token 0 t; assignments = separated net_assignment_of (kids_of (kid 1 t)); semicolon = token 2 t }

-- processes
abbrev pub event_member_from : Tree → EventMember
event_member_from t = record { dot = token 0 t; name = token 1 t }

abbrev pub event_member_of : Tree → Option EventMember
event_member_of t = optional event_member_from t

abbrev pub edge_of : Tree → EventEdge
edge_of t = record { keyword = edge_keyword_of (kid 0 t); name = token 1 t; member = event_member_of (kid 2 t) }

abbrev pub edges_of : Tree → List EventEdge
edges_of t = separated edge_of (kids_of t)

abbrev pub parenthesized_event : ℕ → Tree → EventControl
parenthesized_event opening t =
    if row_of t == R.SPACED_STAR then E.SpacedStar opening (token 0 t) (token 1 t)
    else (if row_of t == R.CLOSING_STAR then E.ClosingStar opening (token 0 t)
    else E.Edges opening (edges_of (kid 0 t)) (token 1 t))

abbrev pub event_of : Tree → EventControl
event_of t =
    if row_of t == R.STAR then E.Star (token 0 t)
    else (if row_of t == R.PARENTHESIZED_STAR then E.ParenthesizedStar (token 0 t)
    else (if row_of t == R.OPENING_STAR then E.OpeningStar (token 0 t) (token 1 t)
    else parenthesized_event (token 0 t) (kid 1 t)))

abbrev pub always_ff_of : Tree → Always
always_ff_of t = A.Ff (token 0 t) (token 1 t) (token 2 t) (edges_of (kid 3 t)) (token 4 t) (stmt_of (kid 5 t))

abbrev pub always_plain_of : Tree → Always
always_plain_of t = A.Plain (token 0 t) (token 1 t) (event_of (kid 2 t)) (stmt_of (kid 3 t))

abbrev pub always_of : Tree → Always
always_of t =
    if row_of t == R.ALWAYS_COMB then A.Comb (token 0 t) (stmt_of (kid 1 t))
    else (if row_of t == R.ALWAYS_LATCH then A.Latch (token 0 t) (stmt_of (kid 1 t))
    else (if row_of t == R.ALWAYS_FF then always_ff_of t
    else always_plain_of t))

-- instances
abbrev pub bind_of : Tree → Bind
bind_of t =
    if row_of t == R.NAMED_BIND then B.Named (token 0 t) (token 1 t) (token 2 t) (optional_expr_of (kid 3 t)) (token 4 t)
    else B.Ordered (expr_of (kid 0 t))

abbrev pub named_connection : ℕ → ℕ → Tree → Connection
named_connection dot name t =
    if is_blank t then C.Implicit dot name
    else C.Named dot name (token 0 t) (optional_expr_of (kid 1 t)) (token 2 t)

abbrev pub connection_of : Tree → Connection
connection_of t =
    if row_of t == R.NAMED_CONNECTION then named_connection (token 0 t) (token 1 t) (kid 2 t)
    else (if row_of t == R.ALL_CONNECTION then C.All (token 0 t)
    else C.Ordered (expr_of (kid 0 t)))

abbrev pub connections_of : Tree → List Connection
connections_of t = separated connection_of (kids_of t)

abbrev pub instance_of : Tree → Instance
instance_of t = record { name = token 0 t; opening = token 1 t; connections = connections_of (kid 2 t); closing = token 3 t }

abbrev pub binds_of : Tree → ParameterBinds
binds_of t = record { hash = token 0 t; opening = token 1 t; binds = separated bind_of (kids_of (kid 2 t)); closing = token 3 t }

-- modports
abbrev pub modport_port_of : Tree → ModportPort
modport_port_of t = record { direction = optional_direction_of (kid 0 t); name = token 1 t }

abbrev pub one_modport_of : Tree → Modport
one_modport_of t = record { name = token 0 t; opening = token 1 t; ports = separated modport_port_of (kids_of (kid 2 t)); closing = token 3 t }

abbrev pub modports_of : Tree → ModportDeclaration
modports_of t = record { keyword = token 0 t; modports = separated one_modport_of (kids_of (kid 1 t)); semicolon = token 2 t }

-- names of generate loops: a first one and those behind commas
abbrev pub names_of : List Tree → List ℕ
names_of [] = []
names_of (first ∷ rest) = token_of first ∷ map (λ next. token 1 next) rest

abbrev pub genvars_of : Tree → GenvarDeclaration
genvars_of t = record { keyword = token 0 t; names = names_of (kids_of (kid 1 t)); semicolon = token 2 t }

-- items that a name begins: variables of a named type, or instances
abbrev pub first_instance : ℕ → Tree → Instance
first_instance name t = record { name = name; opening = token 0 t; connections = connections_of (kid 1 t); closing = token 2 t }

abbrev pub instances_with : ℕ → Option ParameterBinds → List Instance → ℕ → Item
instances_with of parameters instances semicolon = I.Instances (record { of = of; parameters = parameters; instances = instances; semicolon = semicolon })

abbrev pub instances_behind : ℕ → Tree → List Instance
instances_behind name t = first_instance name t ∷ behind_marks instance_of (kids_of (kid 3 t))

abbrev pub named_data : ℕ → ℕ → Tree → Item
named_data of name t =
    I.Data (data_with None (variables (bare_text of) (declared name (kid 0 t) (kid 1 t) ∷ declarators_behind (kids_of (kid 2 t)))) (token 3 t))

abbrev pub two_names_item : ℕ → ℕ → Tree → Item
two_names_item of name t =
    if row_of t == R.INSTANCE then instances_with of None (instances_behind name t) (token 4 t)
    else named_data of name t

abbrev pub typed_data : TypeText → Tree → ℕ → Item
typed_data of names semicolon = I.Data (data_with None (variables_of of names) semicolon)

abbrev pub bound_instances : ℕ → Tree → Item
bound_instances of t = instances_with of (Some (binds_of t)) (separated instance_of (kids_of (kid 4 t))) (token 5 t)

abbrev pub name_item : ℕ → Tree → Item
name_item first t =
    if row_of t == R.SCOPED_DATA then typed_data (named_text (scoped first (token 0 t) (token 1 t)) (kid 2 t)) (kid 3 t) (token 4 t)
    else (if row_of t == R.DIMENSIONED_DATA then typed_data (named_dims_text (alone first) (kid 0 t) (kid 1 t)) (kid 2 t) (token 3 t)
    else (if row_of t == R.NAMED_DATA then two_names_item first (token 0 t) (kid 1 t)
    else bound_instances first t))

-- generate constructs; `inner` gives the items inside one
abbrev pub generate_block_of : (Tree → Item) → Tree → GenerateBlock
generate_block_of inner t =
    if row_of t == R.GENERATE_BLOCK then K.Block (token 0 t) (label_of (kid 1 t)) (map inner (kids_of (kid 2 t))) (token 3 t) (label_of (kid 4 t))
    else K.Single (inner (kid 0 t))

abbrev pub generate_else_from : (Tree → Item) → Tree → GenerateElse
generate_else_from inner t = record { keyword = token 0 t; body = generate_block_of inner (kid 1 t) }

abbrev pub generate_else_of : (Tree → Item) → List Tree → Option GenerateElse
generate_else_of inner [] = None
generate_else_of inner (t ∷ ts) = Some (generate_else_from inner t)

abbrev pub generate_loop_with : Expr → Expr → Tree → GenerateLoop
generate_loop_with first test t = record {
  genvar = optional_token_of (kid 2 t);
  name = token 3 t;
  equals = token 4 t;
  first = first;
  first_semicolon = token 6 t;
  test = test;
  test_semicolon = token 8 t;
  step = loop_step_of (kid 9 t);
}

abbrev pub generate_loop_of : Tree → GenerateLoop
generate_loop_of t = generate_loop_with (expr_of (kid 5 t)) (expr_of (kid 7 t)) t

abbrev pub loop_generate : (Tree → Item) → Tree → Item
loop_generate inner t = I.LoopGenerate (token 0 t) (token 1 t) (generate_loop_of t) (token 10 t) (generate_block_of inner (kid 11 t))

abbrev pub if_generate_with : (Tree → Item) → Expr → Tree → Item
if_generate_with inner test t =
    I.IfGenerate (token 0 t) (token 1 t) test (token 3 t) (generate_block_of inner (kid 4 t)) (generate_else_of inner (drop 5 (kids_of t)))

abbrev pub if_generate : (Tree → Item) → Tree → Item
if_generate inner t = if_generate_with inner (expr_of (kid 2 t)) t

abbrev pub values_generate : (Tree → Item) → Tree → CaseGenerateItem
values_generate inner t = G.Values (exprs_of expr_of (kid 0 t)) (token 1 t) (generate_block_of inner (kid 2 t))

abbrev pub default_generate : (Tree → Item) → Tree → CaseGenerateItem
default_generate inner t = G.Default (token 0 t) (optional_token_of (kid 1 t)) (generate_block_of inner (kid 2 t))

abbrev pub from_default_generate : (Tree → Item) → List Tree → List CaseGenerateItem
from_default_generate inner [] = []
from_default_generate inner (t ∷ ts) = default_generate inner t ∷ map (values_generate inner) ts

abbrev pub case_generate_items_of : (Tree → Item) → Tree → List CaseGenerateItem
case_generate_items_of inner t =
    if row_of t == R.GENERATE_ITEMS_FIRST
    then ((values_generate inner (kid 0 t) ∷ []) ++ map (values_generate inner) (kids_of (kid 1 t))) ++ from_default_generate inner (kids_of (kid 2 t))
    else from_default_generate inner (kids_of t)

abbrev pub case_generate : (Tree → Item) → Tree → Item
case_generate inner t = I.CaseGenerate (token 0 t) (token 1 t) (expr_of (kid 2 t)) (token 3 t) (case_generate_items_of inner (kid 4 t)) (token 5 t)

-- items
abbrev pub region_of : (Tree → Item) → Tree → Item
region_of inner t = I.Generate (token 0 t) (map inner (kids_of (kid 1 t))) (token 2 t)

abbrev pub construct_of : (Tree → Item) → Tree → Item
construct_of inner t =
    if row_of t == R.GENERATE_MODULE_ITEM then region_of inner t
    else (if row_of t == R.LOOP_MODULE_ITEM then loop_generate inner (kid 0 t)
    else (if row_of t == R.IF_MODULE_ITEM then if_generate inner (kid 0 t)
    else (if row_of t == R.CASE_MODULE_ITEM then case_generate inner (kid 0 t)
    else (if row_of t == R.MODPORT_MODULE_ITEM then I.Modports (modports_of (kid 0 t))
    else (if row_of t == R.NAME_MODULE_ITEM then name_item (token 0 t) (kid 1 t)
    else I.Empty (token 0 t))))))

abbrev pub item_around : (Tree → Item) → Tree → Item
item_around inner t =
    if row_of t == R.PARAMETERS_MODULE_ITEM then I.Parameters (parameters_of (kid 0 t) (token 1 t))
    else (if row_of t == R.TYPEDEF_MODULE_ITEM then I.Typedef (typedef_of (kid 0 t))
    else (if row_of t == R.IMPORT_MODULE_ITEM then I.Import (import_of (kid 0 t))
    else (if row_of t == R.FUNCTION_MODULE_ITEM then I.Function (function_of (kid 0 t))
    else (if row_of t == R.TASK_MODULE_ITEM then I.Task (task_of (kid 0 t))
    else (if row_of t == R.DATA_MODULE_ITEM then I.Data (data_of (kid 0 t) (token 1 t))
    else (if row_of t == R.GENVAR_MODULE_ITEM then I.Genvars (genvars_of t)
    else (if row_of t == R.ASSIGN_MODULE_ITEM then I.Assign (assign_of t)
    else (if row_of t == R.ALWAYS_MODULE_ITEM then I.Always (always_of (kid 0 t))
    else construct_of inner t))))))))

-- Items in which items of generate constructs nest at most so deep; none nests deeper in a text.
unfoldable pub item_within : ℕ → Tree → Item
item_within zero t = I.Empty 0
item_within (suc depth) t = item_around (item_within depth) t

abbrev pub items_of : Tree → List Item
items_of t = map (item_within (suc nesting_limit)) (kids_of t)

-- packages, modules and interfaces
abbrev pub package_item_of : Tree → PackageItem
package_item_of t =
    if row_of t == R.IMPORT_PACKAGE_ITEM then P.Import (import_of (kid 0 t))
    else (if row_of t == R.TYPEDEF_PACKAGE_ITEM then P.Typedef (typedef_of (kid 0 t))
    else (if row_of t == R.PARAMETERS_PACKAGE_ITEM then P.Parameters (parameters_of (kid 0 t) (token 1 t))
    else (if row_of t == R.FUNCTION_PACKAGE_ITEM then P.Function (function_of (kid 0 t))
    else (if row_of t == R.TASK_PACKAGE_ITEM then P.Task (task_of (kid 0 t))
    else P.Empty (token 0 t)))))

abbrev pub package_of : Tree → Package
package_of t = record {
  keyword = token 0 t;
  lifetime = lifetime_of (kid 1 t);
  name = token 2 t;
  semicolon = token 3 t;
  items = map package_item_of (kids_of (kid 4 t));
  end = token 5 t;
  end_label = label_of (kid 6 t);
}

abbrev pub module_of : Tree → Module
module_of t = record {
  keyword = token 0 t;
  header = header_of (kid 1 t);
  items = items_of (kid 2 t);
  end = token 3 t;
  end_label = label_of (kid 4 t);
}

abbrev pub unit_of : Tree → Description
unit_of t =
    if row_of t == R.PACKAGE_UNIT then U.Package (package_of (kid 0 t))
    else (if row_of t == R.MODULE_UNIT then U.Module (module_of (kid 0 t))
    else (if row_of t == R.INTERFACE_UNIT then U.Interface (module_of (kid 0 t))
    else (if row_of t == R.IMPORT_UNIT then U.Import (import_of (kid 0 t))
    else (if row_of t == R.TYPEDEF_UNIT then U.Typedef (typedef_of (kid 0 t))
    else (if row_of t == R.PARAMETERS_UNIT then U.Parameters (parameters_of (kid 0 t) (token 1 t))
    else (if row_of t == R.FUNCTION_UNIT then U.Function (function_of (kid 0 t))
    else (if row_of t == R.TASK_UNIT then U.Task (task_of (kid 0 t))
    else U.Empty (token 0 t))))))))

-- the descriptions of a source text
abbrev pub units_of : Tree → List Description
units_of t = map unit_of (kids_of t)
