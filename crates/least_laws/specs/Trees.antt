-- The tokens of source trees in the order of the text: those of each expression, type, declared name, target, statement, function and task in
-- them, wherever they stand.
use Rattle.std.specs.Prelude.{◌≡◌, ℕ, ◌≤◌, [], ◌∷◌, ◌++◌, map}
use Rattle.std.specs.Option.{option_map}
use Rattle.sv_tree.specs.declared.instances.Bind.{Bind}
use Rattle.sv_tree.specs.declared.instances.Bind.TheVariants as B
use Rattle.sv_tree.specs.declared.instances.Connection.{Connection}
use Rattle.sv_tree.specs.declared.instances.Connection.TheVariants as C
use Rattle.sv_tree.specs.declared.instances.Instance.{Instance}
use Rattle.sv_tree.specs.declared.instances.Instantiation.{Instantiation}
use Rattle.sv_tree.specs.declared.instances.ParameterBinds.{ParameterBinds}
use Rattle.sv_tree.specs.declared.items.CaseGenerateItem.{CaseGenerateItem, CaseGenerateItem-F, fold-CaseGenerateItem}
use Rattle.sv_tree.specs.declared.items.DataDeclaration.{DataDeclaration}
use Rattle.sv_tree.specs.declared.items.GenerateBlock.{GenerateBlock, GenerateBlock-F, fold-GenerateBlock}
use Rattle.sv_tree.specs.declared.items.GenerateElse.{GenerateElse, GenerateElse-F, fold-GenerateElse}
use Rattle.sv_tree.specs.declared.items.GenerateLoop.{GenerateLoop}
use Rattle.sv_tree.specs.declared.items.Item.{Item, Item-F, fold-Item}
use Rattle.sv_tree.specs.declared.ports.Header.{Header}
use Rattle.sv_tree.specs.declared.ports.ParameterPort.{ParameterPort}
use Rattle.sv_tree.specs.declared.ports.ParameterPortList.{ParameterPortList}
use Rattle.sv_tree.specs.declared.ports.Port.{Port}
use Rattle.sv_tree.specs.declared.ports.PortList.{PortList}
use Rattle.sv_tree.specs.declared.processes.Always.{Always}
use Rattle.sv_tree.specs.declared.processes.Always.TheVariants as A
use Rattle.sv_tree.specs.declared.processes.ContinuousAssign.{ContinuousAssign}
use Rattle.sv_tree.specs.declared.processes.NetAssignment.{NetAssignment}
use Rattle.sv_tree.specs.declared.types.TypeDeclaration.{TypeDeclaration}
use Rattle.sv_tree.specs.declared.units.Module.{Module}
use Rattle.sv_tree.specs.declared.units.PackageItem.{PackageItem}
use Rattle.sv_tree.specs.declared.units.PackageItem.TheVariants as P
use Rattle.sv_tree.specs.declared.units.SourceTree.{SourceTree}
use Rattle.sv_tree.specs.declared.units.Unit.{Unit as Description}
use Rattle.sv_tree.specs.declared.units.Unit.TheVariants as U
use Rattle.expr_type.specs.Names.{OfFunction, OfTask}
use Rattle.expr_type.specs.Placed.{Ascend}
use Rattle.order_laws.specs.Ordered.{Tokens, in_row, if_there, dims_tokens, expr_tokens, exprs_tokens, type_tokens, declarators_tokens, parameter_tokens, parameters_tokens, lvalue_tokens, loop_step_tokens, stmt_tokens, port_tokens, routine_tokens}

-- tokens that ascend in some part of a text
abbrev pub Somewhere : Tokens → Type 0
Somewhere ts = (low : ℕ) × (high : ℕ) × (low ≤ high) × Ascend low high ts

-- declarations
abbrev pub typedef_tokens : TypeDeclaration → Tokens
typedef_tokens t = type_tokens t.of ++ (t.name ∷ dims_tokens t.unpacked)

abbrev pub data_tokens : DataDeclaration → Tokens
data_tokens d = type_tokens d.of ++ declarators_tokens d.declarators

-- headers
abbrev pub parameter_port_tokens : ParameterPort → Tokens
parameter_port_tokens p = parameter_tokens p.body

abbrev pub parameter_list_tokens : ParameterPortList → Tokens
parameter_list_tokens l = in_row (map parameter_port_tokens l.parameters)

abbrev pub header_port_tokens : Port → Tokens
header_port_tokens p = port_tokens p.text

abbrev pub port_list_tokens : PortList → Tokens
port_list_tokens l = in_row (map header_port_tokens l.ports)

abbrev pub header_tokens : Header → Tokens
header_tokens h = if_there (option_map parameter_list_tokens h.parameters) ++ if_there (option_map port_list_tokens h.ports)

-- continuous assignments and processes
abbrev pub assignment_tokens : NetAssignment → Tokens
assignment_tokens a = lvalue_tokens a.target ++ (a.equals ∷ expr_tokens a.value)

abbrev pub assign_tokens : ContinuousAssign → Tokens
assign_tokens a = in_row (map assignment_tokens a.assignments)

abbrev pub always_tokens : Always → Tokens
always_tokens (A.Comb keyword body) = stmt_tokens body
always_tokens (A.Latch keyword body) = stmt_tokens body
always_tokens (A.Ff keyword event opening edges closing body) = stmt_tokens body
always_tokens (A.Plain keyword event control body) = stmt_tokens body

-- instances
abbrev pub bind_tokens : Bind → Tokens
bind_tokens (B.Named dot name opening e closing) = name ∷ if_there (option_map expr_tokens e)
bind_tokens (B.Ordered e) = expr_tokens e

abbrev pub binds_tokens : ParameterBinds → Tokens
binds_tokens b = in_row (map bind_tokens b.binds)

abbrev pub connection_tokens : Connection → Tokens
connection_tokens (C.Implicit dot name) = name ∷ []
connection_tokens (C.Named dot name opening e closing) = name ∷ if_there (option_map expr_tokens e)
connection_tokens (C.All mark) = mark ∷ []
connection_tokens (C.Ordered e) = expr_tokens e

abbrev pub instance_tokens : Instance → Tokens
instance_tokens i = i.name ∷ in_row (map connection_tokens i.connections)

abbrev pub instances_tokens : Instantiation → Tokens
instances_tokens i = if_there (option_map binds_tokens i.parameters) ++ in_row (map instance_tokens i.instances)

-- items of modules and interfaces, and generate constructs
abbrev pub generate_loop_tokens : GenerateLoop → Tokens
generate_loop_tokens l = l.name ∷ (expr_tokens l.first ++ (expr_tokens l.test ++ loop_step_tokens l.step))

abbrev pub choice_step : CaseGenerateItem-F Tokens Tokens Tokens Tokens → Tokens
choice_step (CaseGenerateItem-F.Values es colon body) = exprs_tokens es ++ body
choice_step (CaseGenerateItem-F.Default keyword colon body) = body

abbrev pub block_step : GenerateBlock-F Tokens Tokens Tokens Tokens → Tokens
block_step (GenerateBlock-F.Block begin label items end end_label) = in_row items
block_step (GenerateBlock-F.Single item) = item

abbrev pub else_step : GenerateElse-F Tokens Tokens Tokens Tokens → Tokens
else_step e = e.body

abbrev pub item_step : Item-F Tokens Tokens Tokens Tokens → Tokens
item_step (Item-F.Parameters p) = parameters_tokens p.bodies
item_step (Item-F.Typedef t) = typedef_tokens t
item_step (Item-F.Import i) = []
item_step (Item-F.Function f) = routine_tokens (OfFunction f)
item_step (Item-F.Task t) = routine_tokens (OfTask t)
item_step (Item-F.Data d) = data_tokens d
item_step (Item-F.Genvars g) = []
item_step (Item-F.Assign a) = assign_tokens a
item_step (Item-F.Always a) = always_tokens a
item_step (Item-F.Generate keyword items end) = in_row items
item_step (Item-F.LoopGenerate keyword opening control closing body) = generate_loop_tokens control ++ body
item_step (Item-F.IfGenerate keyword opening test closing body other) = expr_tokens test ++ (body ++ if_there other)
item_step (Item-F.CaseGenerate keyword opening sought closing items end) = expr_tokens sought ++ in_row items
item_step (Item-F.Modports m) = []
item_step (Item-F.Instances i) = instances_tokens i
item_step (Item-F.Empty semicolon) = []

abbrev pub choice_tokens : CaseGenerateItem → Tokens
choice_tokens = fold-CaseGenerateItem Tokens Tokens Tokens Tokens choice_step block_step item_step else_step

abbrev pub block_tokens : GenerateBlock → Tokens
block_tokens = fold-GenerateBlock Tokens Tokens Tokens Tokens choice_step block_step item_step else_step

abbrev pub item_tokens : Item → Tokens
item_tokens = fold-Item Tokens Tokens Tokens Tokens choice_step block_step item_step else_step

abbrev pub else_tokens : GenerateElse → Tokens
else_tokens = fold-GenerateElse Tokens Tokens Tokens Tokens choice_step block_step item_step else_step

-- packages, modules and interfaces
abbrev pub module_tokens : Module → Tokens
module_tokens m = header_tokens m.header ++ in_row (map item_tokens m.items)

abbrev pub package_item_tokens : PackageItem → Tokens
package_item_tokens (P.Import i) = []
package_item_tokens (P.Typedef t) = typedef_tokens t
package_item_tokens (P.Parameters p) = parameters_tokens p.bodies
package_item_tokens (P.Function f) = routine_tokens (OfFunction f)
package_item_tokens (P.Task t) = routine_tokens (OfTask t)
package_item_tokens (P.Empty semicolon) = []

abbrev pub unit_tokens : Description → Tokens
unit_tokens (U.Package p) = in_row (map package_item_tokens p.items)
unit_tokens (U.Module m) = module_tokens m
unit_tokens (U.Interface m) = module_tokens m
unit_tokens (U.Import i) = []
unit_tokens (U.Typedef t) = typedef_tokens t
unit_tokens (U.Parameters p) = parameters_tokens p.bodies
unit_tokens (U.Function f) = routine_tokens (OfFunction f)
unit_tokens (U.Task t) = routine_tokens (OfTask t)
unit_tokens (U.Empty semicolon) = []

-- the tree of a source text
abbrev pub tree_tokens : SourceTree → Tokens
tree_tokens tree = in_row (map unit_tokens tree.units)

-- tokens that stand in those of a tree in one piece
abbrev pub IsPart : Tokens → SourceTree → Type 0
IsPart ts tree = (before : Tokens) × (behind : Tokens) × (tree_tokens tree ≡ before ++ (ts ++ behind))
