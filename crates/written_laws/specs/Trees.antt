-- Source trees in which each concatenation, replication and stream has a part, and each struct and union a member with a name, wherever
-- they stand, as in those that are read from a text.
use Rattle.std.specs.Prelude.{Bool, true, ◌&&◌, map}
use Rattle.std.specs.Option.{option_map}
use Rattle.sv_tree.specs.declared.declarations.ParameterDeclaration.{ParameterDeclaration}
use Rattle.sv_tree.specs.declared.instances.Bind.{Bind}
use Rattle.sv_tree.specs.declared.instances.Bind.TheVariants as B
use Rattle.sv_tree.specs.declared.instances.Connection.{Connection}
use Rattle.sv_tree.specs.declared.instances.Connection.TheVariants as C
use Rattle.sv_tree.specs.declared.instances.Instance.{Instance}
use Rattle.sv_tree.specs.declared.instances.Instantiation.{Instantiation}
use Rattle.sv_tree.specs.declared.instances.ParameterBinds.{ParameterBinds}
use Rattle.sv_tree.specs.declared.items.CaseGenerateItem.{CaseGenerateItem, CaseGenerateItem-F, fold-CaseGenerateItem}
use Rattle.sv_tree.specs.declared.items.DataDeclaration.{DataDeclaration}
use Rattle.sv_tree.specs.declared.items.GenerateBlock.{GenerateBlock, GenerateBlock-F, fold-GenerateBlock}
use Rattle.sv_tree.specs.declared.items.GenerateElse.{GenerateElse, GenerateElse-F, fold-GenerateElse}
use Rattle.sv_tree.specs.declared.items.GenerateLoop.{GenerateLoop}
use Rattle.sv_tree.specs.declared.items.Item.{Item, Item-F, fold-Item}
use Rattle.sv_tree.specs.declared.ports.Header.{Header}
use Rattle.sv_tree.specs.declared.ports.ParameterPort.{ParameterPort}
use Rattle.sv_tree.specs.declared.ports.ParameterPortList.{ParameterPortList}
use Rattle.sv_tree.specs.declared.ports.Port.{Port}
use Rattle.sv_tree.specs.declared.ports.PortList.{PortList}
use Rattle.sv_tree.specs.declared.processes.Always.{Always}
use Rattle.sv_tree.specs.declared.processes.Always.TheVariants as A
use Rattle.sv_tree.specs.declared.processes.ContinuousAssign.{ContinuousAssign}
use Rattle.sv_tree.specs.declared.processes.NetAssignment.{NetAssignment}
use Rattle.sv_tree.specs.declared.types.TypeDeclaration.{TypeDeclaration}
use Rattle.sv_tree.specs.declared.units.Module.{Module}
use Rattle.sv_tree.specs.declared.units.PackageItem.{PackageItem}
use Rattle.sv_tree.specs.declared.units.PackageItem.TheVariants as P
use Rattle.sv_tree.specs.declared.units.SourceTree.{SourceTree}
use Rattle.sv_tree.specs.declared.units.Unit.{Unit as Description}
use Rattle.sv_tree.specs.declared.units.Unit.TheVariants as U
use Rattle.expr_type.specs.Names.{RoutineText, OfFunction, OfTask}
use Rattle.typing_walks.specs.Written.{all, if_there, is_written}
use Rattle.typing_walks.specs.WrittenTypes.{dims_written, type_written}
use Rattle.stmt_walks.specs.Written.{lvalue_written}
use Rattle.stmt_laws.specs.Written.{declarators_written, body_written, bodies_written, exprs_written, step_written, stmt_written, items_written}
use Rattle.routine_laws.specs.Texts.{port_written, head_written, items_of}

-- declarations
abbrev pub parameters_written : ParameterDeclaration → Bool
parameters_written p = bodies_written p.bodies

abbrev pub typedef_written : TypeDeclaration → Bool
typedef_written t = type_written t.of && dims_written t.unpacked

abbrev pub data_written : DataDeclaration → Bool
data_written d = type_written d.of && declarators_written d.declarators

-- headers
abbrev pub parameter_port_written : ParameterPort → Bool
parameter_port_written p = body_written p.body

abbrev pub parameter_list_written : ParameterPortList → Bool
parameter_list_written l = all (map parameter_port_written l.parameters)

abbrev pub header_port_written : Port → Bool
header_port_written p = port_written p.text

abbrev pub port_list_written : PortList → Bool
port_list_written l = all (map header_port_written l.ports)

abbrev pub header_written : Header → Bool
header_written h = if_there (option_map parameter_list_written h.parameters) && if_there (option_map port_list_written h.ports)

-- functions and tasks
abbrev pub routine_written : RoutineText → Bool
routine_written t = head_written t && items_written (items_of t)

-- continuous assignments and processes
abbrev pub assignment_written : NetAssignment → Bool
assignment_written a = lvalue_written a.target && is_written a.value

abbrev pub assign_written : ContinuousAssign → Bool
assign_written a = all (map assignment_written a.assignments)

abbrev pub always_written : Always → Bool
always_written (A.Comb keyword body) = stmt_written body
always_written (A.Latch keyword body) = stmt_written body
always_written (A.Ff keyword event opening edges closing body) = stmt_written body
always_written (A.Plain keyword event control body) = stmt_written body

-- instances
abbrev pub bind_written : Bind → Bool
bind_written (B.Named dot name opening e closing) = if_there (option_map is_written e)
bind_written (B.Ordered e) = is_written e

abbrev pub binds_written : ParameterBinds → Bool
binds_written b = all (map bind_written b.binds)

abbrev pub connection_written : Connection → Bool
connection_written (C.Implicit dot name) = true
connection_written (C.Named dot name opening e closing) = if_there (option_map is_written e)
connection_written (C.All mark) = true
connection_written (C.Ordered e) = is_written e

abbrev pub instance_written : Instance → Bool
instance_written i = all (map connection_written i.connections)

abbrev pub instances_written : Instantiation → Bool
instances_written i = if_there (option_map binds_written i.parameters) && all (map instance_written i.instances)

-- items of modules and interfaces, and generate constructs
abbrev pub generate_loop_written : GenerateLoop → Bool
generate_loop_written l = is_written l.first && (is_written l.test && step_written l.step)

abbrev pub choice_step : CaseGenerateItem-F Bool Bool Bool Bool → Bool
choice_step (CaseGenerateItem-F.Values es colon body) = exprs_written es && body
choice_step (CaseGenerateItem-F.Default keyword colon body) = body

abbrev pub block_step : GenerateBlock-F Bool Bool Bool Bool → Bool
block_step (GenerateBlock-F.Block begin label items end end_label) = all items
block_step (GenerateBlock-F.Single item) = item

abbrev pub else_step : GenerateElse-F Bool Bool Bool Bool → Bool
else_step e = e.body

abbrev pub item_step : Item-F Bool Bool Bool Bool → Bool
item_step (Item-F.Parameters p) = parameters_written p
item_step (Item-F.Typedef t) = typedef_written t
item_step (Item-F.Import i) = true
item_step (Item-F.Function f) = routine_written (OfFunction f)
item_step (Item-F.Task t) = routine_written (OfTask t)
item_step (Item-F.Data d) = data_written d
item_step (Item-F.Genvars g) = true
item_step (Item-F.Assign a) = assign_written a
item_step (Item-F.Always a) = always_written a
item_step (Item-F.Generate keyword items end) = all items
item_step (Item-F.LoopGenerate keyword opening control closing body) = generate_loop_written control && body
item_step (Item-F.IfGenerate keyword opening test closing body other) = is_written test && (body && if_there other)
item_step (Item-F.CaseGenerate keyword opening sought closing items end) = is_written sought && all items
item_step (Item-F.Modports m) = true
item_step (Item-F.Instances i) = instances_written i
item_step (Item-F.Empty semicolon) = true

abbrev pub choice_written : CaseGenerateItem → Bool
choice_written = fold-CaseGenerateItem Bool Bool Bool Bool choice_step block_step item_step else_step

abbrev pub block_written : GenerateBlock → Bool
block_written = fold-GenerateBlock Bool Bool Bool Bool choice_step block_step item_step else_step

abbrev pub item_written : Item → Bool
item_written = fold-Item Bool Bool Bool Bool choice_step block_step item_step else_step

abbrev pub else_written : GenerateElse → Bool
else_written = fold-GenerateElse Bool Bool Bool Bool choice_step block_step item_step else_step

-- packages, modules and interfaces
abbrev pub module_written : Module → Bool
module_written m = header_written m.header && all (map item_written m.items)

abbrev pub package_item_written : PackageItem → Bool
package_item_written (P.Import i) = true
package_item_written (P.Typedef t) = typedef_written t
package_item_written (P.Parameters p) = parameters_written p
package_item_written (P.Function f) = routine_written (OfFunction f)
package_item_written (P.Task t) = routine_written (OfTask t)
package_item_written (P.Empty semicolon) = true

abbrev pub unit_written : Description → Bool
unit_written (U.Package p) = all (map package_item_written p.items)
unit_written (U.Module m) = module_written m
unit_written (U.Interface m) = module_written m
unit_written (U.Import i) = true
unit_written (U.Typedef t) = typedef_written t
unit_written (U.Parameters p) = parameters_written p
unit_written (U.Function f) = routine_written (OfFunction f)
unit_written (U.Task t) = routine_written (OfTask t)
unit_written (U.Empty semicolon) = true

-- the tree of a source text
abbrev pub tree_written : SourceTree → Bool
tree_written tree = all (map unit_written tree.units)
