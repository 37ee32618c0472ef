-- Which forms of the source language are built: what a source tree is in the terms of these forms, where it uses no others.
use Rattle.std.specs.Prelude.{ℕ, zero, suc, Bool, true, false, ◌&&◌, ◌||◌, not, is_some, is_none, List, [], ◌∷◌, Option, Some, None, if◌then◌else◌, slice_get}
use Rattle.std.specs.Str.{bytes_eq}
use Rattle.b4_core.specs.declared.operators.BinOp.{BinOp}
use Rattle.b4_core.specs.declared.operators.BinOp.TheVariants as B
use Rattle.sv_source.specs.declared.token.Token.{Token}
use Rattle.sv_source.specs.declared.token.Spot.{Spot}
use Rattle.sv_macro.specs.Tokens.{is_name_kind}
use Rattle.sv_tree.specs.declared.declarations.Declarator.{Declarator}
use Rattle.sv_tree.specs.declared.expressions.Cast.{Cast}
use Rattle.sv_tree.specs.declared.expressions.Dimension.{Dimension, Dimension-F, out-Dimension}
use Rattle.sv_tree.specs.declared.expressions.Expr as X
use Rattle.sv_tree.specs.declared.expressions.Pattern.{Pattern}
use Rattle.sv_tree.specs.declared.expressions.PatternItem.{PatternItem}
use Rattle.sv_tree.specs.declared.expressions.Select.{Select}
use Rattle.sv_tree.specs.declared.expressions.SliceSize.{SliceSize}
use Rattle.sv_tree.specs.declared.expressions.ValueRange.{ValueRange}
use Rattle.sv_tree.specs.declared.items.CaseGenerateItem.{CaseGenerateItem}
use Rattle.sv_tree.specs.declared.items.DataDeclaration.{DataDeclaration}
use Rattle.sv_tree.specs.declared.items.GenerateBlock.{GenerateBlock}
use Rattle.sv_tree.specs.declared.items.GenerateElse.{GenerateElse}
use Rattle.sv_tree.specs.declared.items.Item as Y
use Rattle.sv_tree.specs.declared.names.Direction as W
use Rattle.sv_tree.specs.declared.names.Direction.TheVariants as D
use Rattle.sv_tree.specs.declared.names.Label.{Label}
use Rattle.sv_tree.specs.declared.names.QualifiedName.{QualifiedName}
use Rattle.sv_tree.specs.declared.operators.AssignmentOperator.{AssignmentOperator}
use Rattle.sv_tree.specs.declared.operators.AssignmentOperator.TheVariants.{Assign, Nonblocking}
use Rattle.sv_tree.specs.declared.operators.BinaryOperator.{BinaryOperator}
use Rattle.sv_tree.specs.declared.operators.BinaryOperator.TheVariants as O
use Rattle.sv_tree.specs.declared.operators.UnaryOperator.{UnaryOperator}
use Rattle.sv_tree.specs.declared.operators.UnaryOperator.TheVariants.{Invert}
use Rattle.sv_tree.specs.declared.ports.Header.{Header}
use Rattle.sv_tree.specs.declared.ports.Port as Q
use Rattle.sv_tree.specs.declared.ports.PortList.{PortList}
use Rattle.sv_tree.specs.declared.ports.PortText.{PortText}
use Rattle.sv_tree.specs.declared.ports.PortText.TheVariants as T
use Rattle.sv_tree.specs.declared.processes.Always.{Always}
use Rattle.sv_tree.specs.declared.processes.Always.TheVariants as A
use Rattle.sv_tree.specs.declared.processes.EdgeKeyword.{EdgeKeyword}
use Rattle.sv_tree.specs.declared.processes.EdgeKeyword.TheVariants.{Posedge, Negedge}
use Rattle.sv_tree.specs.declared.processes.EventEdge.{EventEdge}
use Rattle.sv_tree.specs.declared.processes.NetAssignment.{NetAssignment}
use Rattle.sv_tree.specs.declared.statements.BlockItem.{BlockItem, BlockItem-F, out-BlockItem}
use Rattle.sv_tree.specs.declared.statements.CaseItem.{CaseItem}
use Rattle.sv_tree.specs.declared.statements.Else.{Else, out-Else}
use Rattle.sv_tree.specs.declared.statements.Lvalue.{Lvalue, Lvalue-F, out-Lvalue}
use Rattle.sv_tree.specs.declared.statements.Stmt as Z
use Rattle.sv_tree.specs.declared.types.KeywordType.{KeywordType}
use Rattle.sv_tree.specs.declared.types.Member.{Member}
use Rattle.sv_tree.specs.declared.types.TypeKeyword.{TypeKeyword}
use Rattle.sv_tree.specs.declared.types.TypeKeyword.TheVariants.{Logic}
use Rattle.sv_tree.specs.declared.types.TypeText.{TypeText, TypeText-F, out-TypeText}
use Rattle.sv_tree.specs.declared.units.Module as M
use Rattle.sv_tree.specs.declared.units.SourceTree.{SourceTree}
use Rattle.sv_tree.specs.declared.units.Unit as U
use Rattle.sv_tree.specs.declared.units.Unit.TheVariants as N
use Rattle.built_forms.specs.declared.forms.Assign as F
use Rattle.built_forms.specs.declared.forms.Direction.{Direction}
use Rattle.built_forms.specs.declared.forms.Direction.TheVariants.{Input, Output}
use Rattle.built_forms.specs.declared.forms.Expr.{Expr}
use Rattle.built_forms.specs.declared.forms.Expr.TheVariants as E
use Rattle.built_forms.specs.declared.forms.Item.{Item}
use Rattle.built_forms.specs.declared.forms.Item.TheVariants as I
use Rattle.built_forms.specs.declared.forms.Module.{Module}
use Rattle.built_forms.specs.declared.forms.Operand.{Operand}
use Rattle.built_forms.specs.declared.forms.Port.{Port}
use Rattle.built_forms.specs.declared.forms.PortHead.{PortHead}
use Rattle.built_forms.specs.declared.forms.Primary.{Primary}
use Rattle.built_forms.specs.declared.forms.Primary.TheVariants as P
use Rattle.built_forms.specs.declared.forms.Range.{Range}
use Rattle.built_forms.specs.declared.forms.Stmt.{Stmt}
use Rattle.built_forms.specs.declared.forms.Stmt.TheVariants as S

-- what f makes of the value, of both values, of each
abbrev pub then_one : {A B : Type 0} → (A → B) → Option A → Option B
then_one f None = None
then_one f (Some x) = Some (f x)

abbrev pub then_two : {A B C : Type 0} → (A → B → C) → Option A → Option B → Option C
then_two f None b = None
then_two f (Some x) None = None
then_two f (Some x) (Some y) = Some (f x y)

abbrev pub each : {A B : Type 0} → (A → Option B) → List A → Option (List B)
each f [] = Some []
each f (x ∷ xs) = then_two (λ y ys. y ∷ ys) (f x) (each f xs)

-- a token by its number, and one that is a name
abbrev pub spot_with : ℕ → Token → Spot
spot_with at t = record { at = at; place = t.place; word = t.text }

abbrev pub spot_of : List Token → ℕ → Option Spot
spot_of ts at = then_one (spot_with at) (slice_get ts at)

abbrev pub if_name : ℕ → Token → Option Spot
if_name at t = if is_name_kind t.kind then Some (spot_with at t) else None

abbrev pub name_at : ℕ → Option Token → Option Spot
name_at at None = None
name_at at (Some t) = if_name at t

abbrev pub name_of : List Token → ℕ → Option Spot
name_of ts at = name_at at (slice_get ts at)

-- the layers of the tree
abbrev pub ExprLayer : Type 0
ExprLayer = X.Expr-F Cast Dimension X.Expr Pattern PatternItem Select SliceSize ValueRange

abbrev pub DimensionLayer : Type 0
DimensionLayer = Dimension-F Cast Dimension X.Expr Pattern PatternItem Select SliceSize ValueRange

abbrev pub StmtLayer : Type 0
StmtLayer = Z.Stmt-F BlockItem CaseItem Z.Stmt Else

abbrev pub ItemLayer : Type 0
ItemLayer = Y.Item-F CaseGenerateItem GenerateBlock Y.Item GenerateElse

-- whether a list has no item
abbrev pub none_in : {A : Type 0} → List A → Bool
none_in [] = true
none_in (x ∷ xs) = false

-- a name without a package, selects and a cast, or a sized literal
abbrev pub is_alone : QualifiedName → List Select → Bool → Bool
is_alone of selects has_cast = is_none of.scope && none_in selects && not has_cast

abbrev pub primary_with : List Token → QualifiedName → List Select → Bool → Option Primary
primary_with ts of selects has_cast = if is_alone of selects has_cast then then_one P.Name (name_of ts of.name) else None

abbrev pub literal_of : List Token → ℕ → ℕ → Option Primary
literal_of ts size digits = then_two P.Literal (spot_of ts size) (spot_of ts digits)

abbrev pub primary_in : List Token → ExprLayer → Option Primary
primary_in ts (X.Expr-F.Sized size digits) = literal_of ts size digits
primary_in ts (X.Expr-F.«Expr::Name» of selects cast) = primary_with ts of selects (is_some cast)
primary_in ts _ = None

abbrev pub primary_of : List Token → X.Expr → Option Primary
primary_of ts x = primary_in ts (X.out-Expr x)

-- a primary, or `~` and a primary
abbrev pub operand_with : Bool → Primary → Operand
operand_with inverted primary = record { inverted = inverted; primary = primary }

abbrev pub inverted_of : List Token → UnaryOperator → X.Expr → Option Operand
inverted_of ts Invert x = then_one (operand_with true) (primary_of ts x)
inverted_of ts _ x = None

abbrev pub plain_of : List Token → X.Expr → Option Operand
plain_of ts x = then_one (operand_with false) (primary_of ts x)

abbrev pub operand_in : List Token → X.Expr → ExprLayer → Option Operand
operand_in ts x (X.Expr-F.Unary operator at operand) = inverted_of ts operator operand
operand_in ts x _ = plain_of ts x

abbrev pub operand_of : List Token → X.Expr → Option Operand
operand_of ts x = operand_in ts x (X.out-Expr x)

-- an operand, or `&`, `|` or `^` between two operands
abbrev pub bitwise : BinaryOperator → Option BinOp
bitwise O.And = Some B.And
bitwise O.Or = Some B.Or
bitwise O.Xor = Some B.Xor
bitwise _ = None

abbrev pub binary_with : BinOp → Operand → Operand → Expr
binary_with op left right = E.Binary op left right

abbrev pub applied : {A B : Type 0} → (A → B) → A → B
applied f x = f x

abbrev pub binary_of : List Token → BinaryOperator → X.Expr → X.Expr → Option Expr
binary_of ts operator left right = then_two applied (then_two binary_with (bitwise operator) (operand_of ts left)) (operand_of ts right)

abbrev pub single_of : List Token → X.Expr → Option Expr
single_of ts x = then_one E.Single (operand_of ts x)

abbrev pub expr_in : List Token → X.Expr → ExprLayer → Option Expr
expr_in ts x (X.Expr-F.Binary left operator at right) = binary_of ts operator left right
expr_in ts x _ = single_of ts x

abbrev pub expr_of : List Token → X.Expr → Option Expr
expr_of ts x = expr_in ts x (X.out-Expr x)

-- `logic` with at most one dimension, both bounds of which are decimals
abbrev pub decimal_in : List Token → ExprLayer → Option Spot
decimal_in ts (X.Expr-F.«Expr::Decimal» digits) = spot_of ts digits
decimal_in ts _ = None

abbrev pub decimal_of : List Token → X.Expr → Option Spot
decimal_of ts x = decimal_in ts (X.out-Expr x)

abbrev pub range_with : Spot → Spot → Option Range
range_with left right = Some (record { left = left; right = right })

abbrev pub bounds_of : List Token → X.Expr → X.Expr → Option (Option Range)
bounds_of ts left right = then_two range_with (decimal_of ts left) (decimal_of ts right)

abbrev pub range_in : List Token → DimensionLayer → Option (Option Range)
range_in ts (Dimension-F.Size opening size closing) = None
range_in ts (Dimension-F.«Dimension::Range» opening left colon right closing) = bounds_of ts left right

abbrev pub dimension_of : List Token → Dimension → Option (Option Range)
dimension_of ts d = range_in ts (out-Dimension d)

abbrev pub range_of : List Token → List Dimension → Option (Option Range)
range_of ts [] = Some None
range_of ts (d ∷ []) = dimension_of ts d
range_of ts (d ∷ e ∷ ds) = None

abbrev pub is_logic : TypeKeyword → Bool
is_logic Logic = true
is_logic _ = false

abbrev pub logic_range : List Token → KeywordType → List Dimension → Option (Option Range)
logic_range ts of packed = if is_logic of.keyword && is_none of.signing then range_of ts packed else None

abbrev pub type_in : List Token → TypeText-F TypeText Member → Option (Option Range)
type_in ts (TypeText-F.Keyword of packed) = logic_range ts of packed
type_in ts _ = None

abbrev pub type_of : List Token → TypeText → Option (Option Range)
type_of ts t = type_in ts (out-TypeText t)

-- a port with direction, `logic` and a name, or a name alone
abbrev pub direction_of : W.Direction → Direction
direction_of (D.Input at) = Input
direction_of (D.Output at) = Output

abbrev pub head_with : Direction → Option Range → PortHead
head_with direction range = record { direction = direction; range = range }

abbrev pub headed_port : PortHead → Spot → Port
headed_port head name = record { head = Some head; name = name }

abbrev pub bare_port : Spot → Port
bare_port name = record { head = None; name = name }

abbrev pub headed_by : List Token → W.Direction → TypeText → ℕ → Option Port
headed_by ts direction of name = then_two headed_port (then_one (head_with (direction_of direction)) (type_of ts of)) (name_of ts name)

abbrev pub named_by : List Token → ℕ → Option Port
named_by ts name = then_one bare_port (name_of ts name)

abbrev pub typed_port : List Token → Option W.Direction → TypeText → ℕ → List Dimension → Option Port
typed_port ts None of name unpacked = None
typed_port ts (Some direction) of name unpacked =
    if none_in unpacked then headed_by ts direction of name else None

abbrev pub untyped_port : List Token → Option W.Direction → ℕ → List Dimension → Option Port
untyped_port ts (Some direction) name unpacked = None
untyped_port ts None name unpacked = if none_in unpacked then named_by ts name else None

abbrev pub port_with : List Token → Option W.Direction → PortText → Option Port
port_with ts direction (T.Typed of name unpacked) = typed_port ts direction of name unpacked
port_with ts direction (T.Modport interface dot modport name) = None
port_with ts direction (T.Bare name unpacked) = untyped_port ts direction name unpacked

abbrev pub port_of : List Token → Q.Port → Option Port
port_of ts p = if is_none p.net then port_with ts p.direction p.text else None

-- an assignment to a name, by its target and its value
abbrev pub target_with : List Token → ℕ → List Select → Option Spot
target_with ts name selects = if none_in selects then name_of ts name else None

abbrev pub target_in : List Token → Lvalue-F Lvalue → Option Spot
target_in ts (Lvalue-F.Name name selects) = target_with ts name selects
target_in ts _ = None

abbrev pub target_of : List Token → Lvalue → Option Spot
target_of ts l = target_in ts (out-Lvalue l)

abbrev pub assign_with : Spot → Expr → F.Assign
assign_with target value = record { target = target; value = value }

abbrev pub assign_of : List Token → Lvalue → X.Expr → Option F.Assign
assign_of ts target value = then_two assign_with (target_of ts target) (expr_of ts value)

-- A statement of a process: a block without a name, an `if`, or an assignment by the operator of the process's kind. `inner`
-- gives the statements inside one.
abbrev pub assigns_so : Bool → AssignmentOperator → Bool
assigns_so false Assign = true
assigns_so true Nonblocking = true
assigns_so later operator = false

abbrev pub item_in : (Z.Stmt → Option Stmt) → BlockItem-F BlockItem CaseItem Z.Stmt Else → Option Stmt
item_in inner (BlockItem-F.Statement s) = inner s
item_in inner _ = None

abbrev pub block_item_of : (Z.Stmt → Option Stmt) → BlockItem → Option Stmt
block_item_of inner i = item_in inner (out-BlockItem i)

abbrev pub block_with : (Z.Stmt → Option Stmt) → Bool → List BlockItem → Option Stmt
block_with inner has_name items = if has_name then None else then_one S.Block (each (block_item_of inner) items)

abbrev pub if_with : Expr → Stmt → Option Stmt → Stmt
if_with on body other = S.If on body other

abbrev pub other_of : (Z.Stmt → Option Stmt) → Option Else → Option (Option Stmt)
other_of inner None = Some None
other_of inner (Some e) = then_one Some (inner (out-Else e).body)

abbrev pub conditional_of : List Token → (Z.Stmt → Option Stmt) → X.Expr → Z.Stmt → Option Else → Option Stmt
conditional_of ts inner test body other = then_two applied (then_two if_with (expr_of ts test) (inner body)) (other_of inner other)

abbrev pub promised : List Token → (Z.Stmt → Option Stmt) → Bool → X.Expr → Z.Stmt → Option Else → Option Stmt
promised ts inner has_promise test body other = if has_promise then None else conditional_of ts inner test body other

abbrev pub assigned : List Token → Bool → Lvalue → X.Expr → Option Stmt
assigned ts fits target value = if fits then then_one S.Assign (assign_of ts target value) else None

abbrev pub stmt_in : List Token → Bool → (Z.Stmt → Option Stmt) → StmtLayer → Option Stmt
stmt_in ts later inner (Z.Stmt-F.Block begin label items end end_label) = block_with inner (is_some label || is_some end_label) items
stmt_in ts later inner (Z.Stmt-F.If promise keyword opening test closing body other) = promised ts inner (is_some promise) test body other
stmt_in ts later inner (Z.Stmt-F.Assign target operator at value semicolon) = assigned ts (assigns_so later operator) target value
stmt_in ts later inner _ = None

abbrev pub stmt_around : List Token → Bool → (Z.Stmt → Option Stmt) → Z.Stmt → Option Stmt
stmt_around ts later inner s = stmt_in ts later inner (Z.out-Stmt s)

-- a statement in which statements nest at most so deep; none nests deeper in a text
abbrev pub nesting_limit : ℕ
nesting_limit = 256

abbrev pub stmt_within : List Token → Bool → ℕ → Z.Stmt → Option Stmt
stmt_within ts later zero s = None
stmt_within ts later (suc depth) s = stmt_around ts later (stmt_within ts later depth) s

abbrev pub stmt_of : List Token → Bool → Z.Stmt → Option Stmt
stmt_of ts later s = stmt_within ts later nesting_limit s

-- An item: one assignment, one variable, `always_comb`, or `always_ff` at one rising edge; an empty item gives nothing.
abbrev pub an_assign : F.Assign → Option Item
an_assign a = Some (I.Assign a)

abbrev pub one_assign : List Token → NetAssignment → Option (Option Item)
one_assign ts a = then_one an_assign (assign_of ts a.target a.value)

abbrev pub assigns_of : List Token → List NetAssignment → Option (Option Item)
assigns_of ts [] = None
assigns_of ts (a ∷ []) = one_assign ts a
assigns_of ts (a ∷ b ∷ rest) = None

abbrev pub a_variable : Option Range → Spot → Option Item
a_variable range name = Some (I.Logic (record { range = range; name = name }))

abbrev pub is_plain : Declarator → Bool
is_plain d = none_in d.unpacked && is_none d.initial

abbrev pub variable_by : List Token → TypeText → ℕ → Option (Option Item)
variable_by ts of name = then_two a_variable (type_of ts of) (name_of ts name)

abbrev pub variable_with : List Token → TypeText → Declarator → Option (Option Item)
variable_with ts of d = if is_plain d then variable_by ts of d.name else None

abbrev pub one_variable : List Token → TypeText → List Declarator → Option (Option Item)
one_variable ts of [] = None
one_variable ts of (d ∷ []) = variable_with ts of d
one_variable ts of (d ∷ e ∷ ds) = None

abbrev pub variable_of : List Token → DataDeclaration → Option (Option Item)
variable_of ts d = if is_none d.net then one_variable ts d.of d.declarators else None

abbrev pub a_comb : Stmt → Option Item
a_comb body = Some (I.Comb body)

abbrev pub an_edge : Spot → Stmt → Option Item
an_edge clock body = Some (I.Edge clock body)

abbrev pub is_rising : EdgeKeyword → Bool
is_rising (Posedge at) = true
is_rising (Negedge at) = false

abbrev pub clocked_by : List Token → ℕ → Z.Stmt → Option (Option Item)
clocked_by ts clock body = then_two an_edge (name_of ts clock) (stmt_of ts true body)

abbrev pub edge_with : List Token → EventEdge → Z.Stmt → Option (Option Item)
edge_with ts e body = if is_rising e.keyword && is_none e.member then clocked_by ts e.name body else None

abbrev pub edges_of : List Token → List EventEdge → Z.Stmt → Option (Option Item)
edges_of ts [] body = None
edges_of ts (e ∷ []) body = edge_with ts e body
edges_of ts (e ∷ f ∷ es) body = None

abbrev pub comb_of : List Token → Z.Stmt → Option (Option Item)
comb_of ts body = then_one a_comb (stmt_of ts false body)

abbrev pub always_of : List Token → Always → Option (Option Item)
always_of ts (A.Comb keyword body) = comb_of ts body
always_of ts (A.Latch keyword body) = None
always_of ts (A.Ff keyword event opening edges closing body) = edges_of ts edges body
always_of ts (A.Plain keyword event control body) = None

abbrev pub item_layer : List Token → ItemLayer → Option (Option Item)
item_layer ts (Y.Item-F.Assign a) = assigns_of ts a.assignments
item_layer ts (Y.Item-F.Data d) = variable_of ts d
item_layer ts (Y.Item-F.Always a) = always_of ts a
item_layer ts (Y.Item-F.Empty semicolon) = Some None
item_layer ts _ = None

abbrev pub item_of : List Token → Y.Item → Option (Option Item)
item_of ts i = item_layer ts (Y.out-Item i)

-- what each gives that gives something
abbrev pub put_before : {A : Type 0} → Option A → List A → List A
put_before None xs = xs
put_before (Some x) xs = x ∷ xs

abbrev pub only : {A : Type 0} → Option A → List A
only None = []
only (Some x) = x ∷ []

abbrev pub gathered : {A B : Type 0} → (A → Option (Option B)) → List A → Option (List B)
gathered f [] = Some []
gathered f (x ∷ xs) = then_two put_before (f x) (gathered f xs)

-- A module: a name, ports of which the first has a direction, items, and behind its end nothing or its name again.
abbrev pub first_is_headed : List Port → Bool
first_is_headed [] = true
first_is_headed (p ∷ ports) = elim p.head [ None ↦ false | Some h ↦ true ]

abbrev pub if_headed : List Port → Option (List Port)
if_headed ports = if first_is_headed ports then Some ports else None

abbrev pub headed : Option (List Port) → Option (List Port)
headed None = None
headed (Some ports) = if_headed ports

abbrev pub ports_of : List Token → Option PortList → Option (List Port)
ports_of ts None = Some []
ports_of ts (Some list) = headed (each (port_of ts) list.ports)

abbrev pub is_plain_header : Header → Bool
is_plain_header h = is_none h.lifetime && none_in h.imports && is_none h.parameters

abbrev pub header_of : List Token → Header → Option (List Port)
header_of ts h = if is_plain_header h then ports_of ts h.ports else None

abbrev pub token_is : List ℕ → Option Token → Bool
token_is word None = false
token_is word (Some t) = bytes_eq t.text word

abbrev pub label_agrees : List Token → Spot → Option Label → Bool
label_agrees ts name None = true
label_agrees ts name (Some label) = token_is name.word (slice_get ts label.name)

abbrev pub if_agrees : List Token → Option Label → Spot → Option Spot
if_agrees ts label name = if label_agrees ts name label then Some name else None

abbrev pub agreed : List Token → Option Label → Option Spot → Option Spot
agreed ts label None = None
agreed ts label (Some name) = if_agrees ts label name

abbrev pub body_with : List Port → List Item → Spot → Module
body_with ports items name = record { name = name; ports = ports; items = items }

abbrev pub module_of : List Token → M.Module → Option Module
module_of ts m =
    then_two applied (then_two body_with (header_of ts m.header) (gathered (item_of ts) m.items)) (agreed ts m.end_label (name_of ts m.header.name))

-- a description: a module, or an empty one, which gives nothing
abbrev pub unit_of : List Token → U.Unit → Option (Option Module)
unit_of ts (N.Module m) = then_one Some (module_of ts m)
unit_of ts (N.Empty semicolon) = Some None
unit_of ts _ = None

-- at most one module
abbrev pub at_most_one : List Module → Option (Option Module)
at_most_one [] = Some None
at_most_one (m ∷ []) = Some (Some m)
at_most_one (m ∷ n ∷ ms) = None

abbrev pub one_module : Option (List Module) → Option (Option Module)
one_module None = None
one_module (Some ms) = at_most_one ms

-- What a source tree has built: its one module, or none, where all its forms are built. This alone says which forms are built.
abbrev pub built : SourceTree → Option (Option Module)
built tree = one_module (gathered (unit_of tree.tokens) tree.units)
