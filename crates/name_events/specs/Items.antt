-- What happens to names in modules, interfaces and packages, and in a whole source text.
use Rattle.std.specs.Prelude.{ℕ, zero, suc, Bool, true, false, ◌&&◌, ◌||◌, not, List, [], ◌∷◌, Option, Some, None, is_none, is_some}
use Rattle.sv_tree.specs.Extents.{extent_of_expr, extent_of_item, labelled}
use Rattle.sv_tree.specs.declared.expressions.Dimension.{Dimension}
use Rattle.sv_tree.specs.declared.expressions.Expr.{Expr}
use Rattle.sv_tree.specs.declared.instances.Bind.{Bind}
use Rattle.sv_tree.specs.declared.instances.Bind.TheVariants as H
use Rattle.sv_tree.specs.declared.instances.Connection.{Connection}
use Rattle.sv_tree.specs.declared.instances.Connection.TheVariants as C
use Rattle.sv_tree.specs.declared.instances.Instance.{Instance}
use Rattle.sv_tree.specs.declared.instances.Instantiation.{Instantiation}
use Rattle.sv_tree.specs.declared.instances.Modport.{Modport}
use Rattle.sv_tree.specs.declared.instances.ModportDeclaration.{ModportDeclaration}
use Rattle.sv_tree.specs.declared.instances.ModportPort.{ModportPort}
use Rattle.sv_tree.specs.declared.instances.ParameterBinds.{ParameterBinds}
use Rattle.sv_tree.specs.declared.items.CaseGenerateItem.{CaseGenerateItem, CaseGenerateItem-F, out-CaseGenerateItem}
use Rattle.sv_tree.specs.declared.items.DataDeclaration.{DataDeclaration}
use Rattle.sv_tree.specs.declared.items.GenerateBlock.{GenerateBlock, GenerateBlock-F, out-GenerateBlock}
use Rattle.sv_tree.specs.declared.items.GenerateElse.{GenerateElse, out-GenerateElse}
use Rattle.sv_tree.specs.declared.items.GenerateLoop.{GenerateLoop}
use Rattle.sv_tree.specs.declared.items.Item.{Item, Item-F, out-Item}
use Rattle.sv_tree.specs.declared.names.Direction.{Direction}
use Rattle.sv_tree.specs.declared.names.Direction.TheVariants.{Input, Output}
use Rattle.sv_tree.specs.declared.names.NetOrVariable.{NetOrVariable}
use Rattle.sv_tree.specs.declared.names.NetOrVariable.TheVariants.{Wire, Var}
use Rattle.sv_tree.specs.declared.names.QualifiedName.{QualifiedName}
use Rattle.sv_tree.specs.declared.ports.Header.{Header}
use Rattle.sv_tree.specs.declared.ports.ParameterPort.{ParameterPort}
use Rattle.sv_tree.specs.declared.ports.ParameterPortList.{ParameterPortList}
use Rattle.sv_tree.specs.declared.ports.Port.{Port}
use Rattle.sv_tree.specs.declared.ports.PortList.{PortList}
use Rattle.sv_tree.specs.declared.ports.PortText.{PortText}
use Rattle.sv_tree.specs.declared.ports.PortText.TheVariants as T
use Rattle.sv_tree.specs.declared.processes.Always.{Always}
use Rattle.sv_tree.specs.declared.processes.Always.TheVariants as A
use Rattle.sv_tree.specs.declared.processes.EventControl.{EventControl}
use Rattle.sv_tree.specs.declared.processes.EventControl.TheVariants as V
use Rattle.sv_tree.specs.declared.processes.EventEdge.{EventEdge}
use Rattle.sv_tree.specs.declared.processes.EventMember.{EventMember}
use Rattle.sv_tree.specs.declared.processes.NetAssignment.{NetAssignment}
use Rattle.sv_tree.specs.declared.statements.Stmt.{Stmt}
use Rattle.sv_tree.specs.declared.types.Member.{Member}
use Rattle.sv_tree.specs.declared.types.TypeText.{TypeText, TypeText-F, out-TypeText}
use Rattle.sv_tree.specs.declared.units.Module.{Module}
use Rattle.sv_tree.specs.declared.units.Package.{Package}
use Rattle.sv_tree.specs.declared.units.PackageItem.{PackageItem}
use Rattle.sv_tree.specs.declared.units.PackageItem.TheVariants as K
use Rattle.sv_tree.specs.declared.units.SourceTree.{SourceTree}
use Rattle.sv_tree.specs.declared.units.Unit.{Unit as SourceUnit}
use Rattle.sv_tree.specs.declared.units.Unit.TheVariants as N
use Rattle.name_events.specs.declared.events.Before.{Before}
use Rattle.name_events.specs.declared.events.Before.TheVariants as F
use Rattle.name_events.specs.declared.events.Declared.{Declared}
use Rattle.name_events.specs.declared.events.Declared.TheVariants as W
use Rattle.name_events.specs.declared.events.Event.{Event}
use Rattle.name_events.specs.declared.events.Event.TheVariants as E
use Rattle.name_events.specs.declared.events.Role.TheVariants as R
use Rattle.name_events.specs.declared.events.ScopeKind.{ScopeKind}
use Rattle.name_events.specs.declared.events.ScopeKind.TheVariants as S
use Rattle.name_events.specs.declared.events.SelectPath.{SelectPath}
use Rattle.name_events.specs.declared.events.SelectPath.TheVariants as P
use Rattle.name_events.specs.declared.expressions.Position.{Position}
use Rattle.name_events.specs.declared.expressions.Position.TheVariants as Q
use Rattle.name_events.specs.declared.ports.PortState.{PortState}
use Rattle.name_events.specs.Steps.{Part, put, put_if, nothing, wrong, uses, declares, declares_outside}
use Rattle.name_events.specs.Expressions.{expr_events, expressions}
use Rattle.name_events.specs.Types.{type_events, named_of_type, declarators, typedef, is_type_body, parameter_body, parameters, import_items, imports}
use Rattle.name_events.specs.Statements.{opens, closes, labels, repeats, end_label, loop_step, lvalue_events, process_body, function_events, task_events, nesting_limit}

-- Ports. What a port has by the one before it: its direction, whether it is a net, and what kind of port stands before.
abbrev pub is_output : Direction → Bool
is_output (Input at) = false
is_output (Output at) = true

abbrev pub output_of : Bool → Option Direction → Bool
output_of before None = before
output_of before (Some d) = is_output d

abbrev pub is_written_in : TypeText-F TypeText Member → Bool
is_written_in (TypeText-F.Implicit signing packed) = false
is_written_in _ = true

abbrev pub is_written : TypeText → Bool
is_written t = is_written_in (out-TypeText t)

abbrev pub has_type : PortText → Bool
has_type (T.Typed of name unpacked) = is_written of
has_type (T.Modport of dot modport name) = true
has_type (T.Bare name unpacked) = false

-- an input without `var` is a net, and an output without `var` and without a written type
abbrev pub net_of : Bool → Bool → Option NetOrVariable → Bool
net_of output written (Some (Wire at)) = true
net_of output written (Some (Var at)) = false
net_of output written None = not output || not written

abbrev pub own_net : PortState → Port → Bool
own_net s p = net_of (output_of s.output p.direction) (has_type p.text) p.net

-- a name alone has direction and kind of the port before it
abbrev pub undirected_net : PortState → Port → PortText → Bool
undirected_net s p (T.Bare name unpacked) = s.net
undirected_net s p (T.Typed of name unpacked) = own_net s p
undirected_net s p (T.Modport of dot modport name) = own_net s p

abbrev pub port_net : PortState → Port → Bool
port_net s p = elim p.direction [ None ↦ undirected_net s p p.text | Some d ↦ own_net s p ]

-- a type that may be an interface: a name alone
abbrev pub plain_name : QualifiedName → List Dimension → Option ℕ
plain_name of [] = elim of.scope [ None ↦ Some of.name | Some p ↦ None ]
plain_name of (d ∷ ds) = None

abbrev pub interface_in : TypeText-F TypeText Member → Option ℕ
interface_in (TypeText-F.Named of packed) = plain_name of packed
interface_in _ = None

abbrev pub interface_of : TypeText → List Dimension → Option ℕ
interface_of t [] = interface_in (out-TypeText t)
interface_of t (d ∷ ds) = None

abbrev pub named_before : Option ℕ → Before
named_before None = F.Data
named_before (Some name) = F.Named name

abbrev pub undirected_before : PortText → Before
undirected_before (T.Typed of name unpacked) = named_before (interface_of of unpacked)
undirected_before (T.Modport of dot modport name) = F.Interface
undirected_before (T.Bare name unpacked) = F.Data

abbrev pub port_before : Option Direction → PortText → Before
port_before None text = undirected_before text
port_before (Some d) text = F.Data

abbrev pub after_port : PortState → Port → PortState
after_port s p = record { output = output_of s.output p.direction; net = port_net s p; before = port_before p.direction p.text }

abbrev pub signal : Bool → Declared
signal true = W.Net
signal false = W.Variable

abbrev pub directed_text : Bool → PortText → Part
directed_text net (T.Typed of name unpacked) to = named_of_type (signal net) name unpacked None (type_events of to)
directed_text net (T.Modport of dot modport name) to = declares W.InterfacePort name name (wrong of (uses of R.Interface to))
directed_text net (T.Bare name unpacked) to = named_of_type (signal net) name unpacked None to

abbrev pub undirected : ℕ → Option ℕ → Before → Part
undirected name of before = put (E.Undirected name of before)

abbrev pub typed_port : Before → Bool → TypeText → ℕ → List Dimension → Option ℕ → Part
typed_port before net of name unpacked None to = undirected name None before (named_of_type (signal net) name unpacked None (type_events of to))
typed_port before net of name unpacked (Some interface) to =
    undirected name (Some interface) before (declares (W.NamedPort interface net) name name (uses interface R.TypeOrInterface to))

abbrev pub undirected_text : Before → Bool → PortText → Part
undirected_text before net (T.Typed of name unpacked) to = typed_port before net of name unpacked (interface_of of unpacked) to
undirected_text before net (T.Modport of dot modport name) to = declares W.InterfacePort name name (uses of R.Interface to)
undirected_text before net (T.Bare name unpacked) to = undirected name None before (named_of_type (signal net) name unpacked None to)

abbrev pub port_text : Option Direction → Before → Bool → PortText → Part
port_text None before net text = undirected_text before net text
port_text (Some d) before net text = directed_text net text

abbrev pub port_events : PortState → Port → Part
port_events s p = port_text p.direction s.before (port_net s p) p.text

abbrev pub ports_from : PortState → List Port → Part
ports_from s [] to = to
ports_from s (p ∷ ps) to = ports_from (after_port s p) ps (port_events s p to)

abbrev pub no_port : PortState
no_port = record { output = false; net = true; before = F.Nothing }

abbrev pub ports : Option PortList → Part
ports None = nothing
ports (Some l) = ports_from no_port l.ports

-- parameters of a header
abbrev pub goes_on : Bool → ParameterPort → Bool
goes_on before p = before && is_none p.keyword

abbrev pub parameter_ports_from : Bool → List ParameterPort → Part
parameter_ports_from before [] to = to
parameter_ports_from before (p ∷ ps) to =
    parameter_ports_from (is_type_body (goes_on before p) p.body) ps (parameter_body (goes_on before p) p.body to)

abbrev pub parameter_ports : Option ParameterPortList → Part
parameter_ports None = nothing
parameter_ports (Some l) = parameter_ports_from false l.parameters

abbrev pub header : Header → Part
header h to = put E.Heads (ports h.ports (parameter_ports h.parameters (imports h.imports to)))

-- continuous assignments and processes
abbrev pub assignment : NetAssignment → Part
assignment a to = expr_events a.value Q.Value (lvalue_events a.target R.ContinuousTarget to)

abbrev pub assignments : List NetAssignment → Part
assignments [] to = to
assignments (a ∷ more) to = assignments more (assignment a to)

abbrev pub edge_path : Option EventMember → SelectPath
edge_path None = P.Alone
edge_path (Some m) = P.Member

abbrev pub edge : EventEdge → Part
edge e = put (E.Uses None e.name R.Edge (edge_path e.member))

abbrev pub edges : List EventEdge → Part
edges [] to = to
edges (e ∷ es) to = edges es (edge e to)

abbrev pub control : EventControl → Part
control (V.Star star) = nothing
control (V.ParenthesizedStar mark) = nothing
control (V.OpeningStar mark closing) = nothing
control (V.ClosingStar opening mark) = nothing
control (V.SpacedStar opening star closing) = nothing
control (V.Edges opening es closing) = edges es

abbrev pub plain_always : EventControl → Stmt → Part
plain_always c body to = process_body body (control c to)

abbrev pub always : Always → Part
always (A.Comb keyword body) to = process_body body to
always (A.Latch keyword body) to = process_body body to
always (A.Ff keyword event opening es closing body) to = process_body body (edges es to)
always (A.Plain keyword event c body) to = plain_always c body to

-- instances
abbrev pub maybe_expr : Position → Option Expr → Part
maybe_expr position None = nothing
maybe_expr position (Some e) = expr_events e position

abbrev pub bind : Bind → Part
bind (H.Named dot name opening value closing) = maybe_expr Q.ValueOrType value
bind (H.Ordered value) = expr_events value Q.ValueOrType

abbrev pub binds : List Bind → Part
binds [] to = to
binds (b ∷ bs) to = binds bs (bind b to)

abbrev pub parameter_binds : Option ParameterBinds → Part
parameter_binds None = nothing
parameter_binds (Some p) = binds p.binds

abbrev pub connection : Connection → Part
connection (C.Implicit dot name) to = uses name R.Connection (put (E.Connects name) to)
connection (C.Named dot name opening value closing) to = maybe_expr Q.Connection value (put (E.Connects name) to)
connection (C.All mark) to = put (E.ConnectsRest mark) to
connection (C.Ordered value) to = expr_events value Q.Connection to

abbrev pub connections : List Connection → Part
connections [] to = to
connections (c ∷ cs) to = connections cs (connection c to)

abbrev pub instance_events : ℕ → Instance → Part
instance_events of i to = connections i.connections (declares (W.Instance of) i.name i.name to)

abbrev pub instances : ℕ → List Instance → Part
instances of [] to = to
instances of (i ∷ is) to = instances of is (instance_events of i to)

abbrev pub instantiation : Instantiation → Part
instantiation i to = instances i.of i.instances (parameter_binds i.parameters (uses i.of R.Instantiated to))

-- modports, which stand in interfaces
abbrev pub modport_ports : List ModportPort → Part
modport_ports [] to = to
modport_ports (p ∷ ps) to = modport_ports ps (uses p.name R.ModportPort to)

abbrev pub modport : Modport → Part
modport m to = modport_ports m.ports (declares W.Modport m.name m.name to)

abbrev pub modports : List Modport → Part
modports [] to = to
modports (m ∷ ms) to = modports ms (modport m to)

abbrev pub modport_place : Bool → ℕ → Part
modport_place true at = nothing
modport_place false at = wrong at

abbrev pub modport_declaration : Bool → ModportDeclaration → Part
modport_declaration inside d to = modports d.modports (modport_place inside d.keyword to)

-- nets and variables, and names of generate loops
abbrev pub data_kind : Option NetOrVariable → Declared
data_kind (Some (Wire at)) = W.Net
data_kind (Some (Var at)) = W.Variable
data_kind None = W.Variable

abbrev pub data_declaration : DataDeclaration → Part
data_declaration d to = declarators (data_kind d.net) d.declarators (type_events d.of to)

abbrev pub genvars : List ℕ → Part
genvars [] to = to
genvars (n ∷ ns) to = genvars ns (declares W.Genvar n n to)

-- Generate constructs. `inner` gives what happens in the items inside one: with the first word of the conditional generate
-- that an item is a branch of, if it is one alone, without `begin`.
abbrev pub Inner : Type 0
Inner = Option ℕ → Item → Part

abbrev pub items_with : Inner → List Item → Part
items_with inner [] to = to
items_with inner (i ∷ is) to = items_with inner is (inner None i to)

-- a loop and its block are one scope
abbrev pub loop_block_in : Inner → GenerateBlock-F CaseGenerateItem GenerateBlock Item GenerateElse → Part
loop_block_in inner (GenerateBlock-F.Block begin label items end ended) to = end_label label ended (items_with inner items (labels W.Block label to))
loop_block_in inner (GenerateBlock-F.Single i) to = inner None i to

abbrev pub loop_block : Inner → GenerateBlock → Part
loop_block inner b = loop_block_in inner (out-GenerateBlock b)

abbrev pub loop_name : Option ℕ → ℕ → ℕ → Part
loop_name None name last = uses name R.LoopGenvar
loop_name (Some at) name last = declares W.Genvar name last

abbrev pub loop_control : GenerateLoop → Part
loop_control c to =
    let last = (extent_of_expr c.first).last in
    put (E.Runs c.name last) (loop_name c.genvar c.name last (expr_events c.first Q.Value to))

abbrev pub loop_generate : Inner → ℕ → ℕ → GenerateLoop → GenerateBlock → Part
loop_generate inner keyword last c body to =
    closes (loop_block inner body (loop_step c.name c.step (expr_events c.test Q.Value (loop_control c (opens S.GenerateLoop keyword last to)))))

-- a branch is a scope, unless it is a conditional generate alone
abbrev pub branch_in : Inner → ℕ → GenerateBlock-F CaseGenerateItem GenerateBlock Item GenerateElse → Part
branch_in inner construct (GenerateBlock-F.Block begin label items end ended) to =
    closes (end_label label ended (items_with inner items (labels (W.Alternative construct) label (opens S.GenerateBlock begin (labelled end ended) to))))
branch_in inner construct (GenerateBlock-F.Single i) to = inner (Some construct) i to

abbrev pub branch : Inner → ℕ → GenerateBlock → Part
branch inner construct b = branch_in inner construct (out-GenerateBlock b)

abbrev pub else_branch : Inner → ℕ → Option GenerateElse → Part
else_branch inner construct None to = to
else_branch inner construct (Some e) to = branch inner construct (out-GenerateElse e).body to

abbrev pub case_generate_item_in : Inner → ℕ → CaseGenerateItem-F CaseGenerateItem GenerateBlock Item GenerateElse → Part
case_generate_item_in inner construct (CaseGenerateItem-F.Values values colon body) to = branch inner construct body (expressions values to)
case_generate_item_in inner construct (CaseGenerateItem-F.Default keyword colon body) to = branch inner construct body to

abbrev pub case_generate_item : Inner → ℕ → CaseGenerateItem → Part
case_generate_item inner construct i = case_generate_item_in inner construct (out-CaseGenerateItem i)

abbrev pub case_generate_items : Inner → ℕ → List CaseGenerateItem → Part
case_generate_items inner construct [] to = to
case_generate_items inner construct (i ∷ is) to = case_generate_items inner construct is (case_generate_item inner construct i to)

abbrev pub construct_of : Option ℕ → ℕ → ℕ
construct_of None keyword = keyword
construct_of (Some outer) keyword = outer

abbrev pub if_generate : Inner → ℕ → Expr → GenerateBlock → Option GenerateElse → Part
if_generate inner construct test body other to = else_branch inner construct other (branch inner construct body (expr_events test Q.Value to))

abbrev pub case_generate : Inner → ℕ → Expr → List CaseGenerateItem → Part
case_generate inner construct value items to = case_generate_items inner construct items (expr_events value Q.Value to)

-- an item, in a module or (`inside`) an interface
abbrev pub item_in : Inner → Bool → Option ℕ → ℕ → Item-F CaseGenerateItem GenerateBlock Item GenerateElse → Part
item_in inner inside around last (Item-F.Parameters p) to = parameters false p.bodies to
item_in inner inside around last (Item-F.Typedef t) to = typedef t to
item_in inner inside around last (Item-F.Import i) to = import_items i.items to
item_in inner inside around last (Item-F.Function f) to = function_events f to
item_in inner inside around last (Item-F.Task t) to = task_events t to
item_in inner inside around last (Item-F.Data d) to = data_declaration d to
item_in inner inside around last (Item-F.Genvars g) to = genvars g.names to
item_in inner inside around last (Item-F.Assign a) to = assignments a.assignments to
item_in inner inside around last (Item-F.Always a) to = always a to
item_in inner inside around last (Item-F.Generate keyword items end) to = items_with inner items to
item_in inner inside around last (Item-F.LoopGenerate keyword opening c closing body) to = loop_generate inner keyword last c body to
item_in inner inside around last (Item-F.IfGenerate keyword opening test closing body other) to =
    if_generate inner (construct_of around keyword) test body other to
item_in inner inside around last (Item-F.CaseGenerate keyword opening value closing items end) to =
    case_generate inner (construct_of around keyword) value items to
item_in inner inside around last (Item-F.Modports m) to = modport_declaration inside m to
item_in inner inside around last (Item-F.Instances i) to = instantiation i to
item_in inner inside around last (Item-F.Empty semicolon) to = to

abbrev pub is_conditional_in : Item-F CaseGenerateItem GenerateBlock Item GenerateElse → Bool
is_conditional_in (Item-F.IfGenerate keyword opening test closing body other) = true
is_conditional_in (Item-F.CaseGenerate keyword opening value closing items end) = true
is_conditional_in _ = false

abbrev pub is_conditional : Item → Bool
is_conditional i = is_conditional_in (out-Item i)

-- an item alone in a branch is a scope, unless it is a conditional generate
abbrev pub is_scope : Option ℕ → Item → Bool
is_scope around i = is_some around && not (is_conditional i)

abbrev pub item_alone : Inner → Bool → Option ℕ → Item → Part
item_alone inner inside around i = item_in inner inside around (extent_of_item i).last (out-Item i)

abbrev pub item_around : Inner → Bool → Option ℕ → Item → Part
item_around inner inside around i to =
    put_if (is_scope around i) E.Closes
    (item_alone inner inside around i
    (put_if (is_scope around i) (E.Opens S.GenerateBlock (extent_of_item i).first (extent_of_item i).last) to))

-- an item in which items nest at most so deep; none nests deeper in a text
abbrev pub item_within : ℕ → Bool → Option ℕ → Item → Part
item_within zero inside around i = nothing
item_within (suc depth) inside around i = item_around (item_within depth inside) inside around i

abbrev pub items : Bool → List Item → Part
items inside is = items_with (item_within (suc nesting_limit) inside) is

-- modules, interfaces and packages
abbrev pub module_events : ScopeKind → Declared → Bool → Module → Part
module_events kind what inside m to =
    closes (repeats m.header.name m.end_label
    (items inside m.items
    (header m.header
    (declares_outside what m.header.name (opens kind m.keyword (labelled m.end m.end_label) to)))))

abbrev pub package_item : PackageItem → Part
package_item (K.Import i) = import_items i.items
package_item (K.Typedef t) = typedef t
package_item (K.Parameters p) = parameters false p.bodies
package_item (K.Function f) = function_events f
package_item (K.Task t) = task_events t
package_item (K.Empty semicolon) = nothing

abbrev pub package_items : List PackageItem → Part
package_items [] to = to
package_items (i ∷ is) to = package_items is (package_item i to)

abbrev pub package_events : Package → Part
package_events p to =
    closes (repeats p.name p.end_label
    (package_items p.items
    (declares_outside W.Package p.name (opens S.Package p.keyword (labelled p.end p.end_label) to))))

abbrev pub unit_events : SourceUnit → Part
unit_events (N.Package p) = package_events p
unit_events (N.Module m) = module_events S.Module W.Module false m
unit_events (N.Interface m) = module_events S.Interface W.Interface true m
unit_events (N.Import i) = import_items i.items
unit_events (N.Typedef t) = typedef t
unit_events (N.Parameters p) = parameters false p.bodies
unit_events (N.Function f) = function_events f
unit_events (N.Task t) = task_events t
unit_events (N.Empty semicolon) = nothing

abbrev pub units : List SourceUnit → Part
units [] to = to
units (u ∷ us) to = units us (unit_events u to)

-- What happens to names in a source text.
abbrev pub events_of : SourceTree → List Event
events_of tree = units tree.units []
