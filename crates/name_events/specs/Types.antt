-- What happens to names in types and in what declares names of a type.
use Rattle.std.specs.Prelude.{ℕ, Bool, true, false, ◌&&◌, List, [], ◌∷◌, map, Option, Some, None, is_none, is_some}
use Rattle.sv_tree.specs.Extents.{extent_of_expr, last_of, lasts, first_of_dimension, qualified_first}
use Rattle.sv_tree.specs.declared.declarations.Declarator.{Declarator}
use Rattle.sv_tree.specs.declared.declarations.Import.{Import}
use Rattle.sv_tree.specs.declared.declarations.ImportItem.{ImportItem}
use Rattle.sv_tree.specs.declared.declarations.ImportItem.TheVariants as I
use Rattle.sv_tree.specs.declared.declarations.Initializer.{Initializer}
use Rattle.sv_tree.specs.declared.declarations.ParameterBody.{ParameterBody}
use Rattle.sv_tree.specs.declared.declarations.ParameterBody.TheVariants as B
use Rattle.sv_tree.specs.declared.expressions.Dimension.{Dimension}
use Rattle.sv_tree.specs.declared.expressions.Cast.{Cast}
use Rattle.sv_tree.specs.declared.expressions.Pattern.{Pattern}
use Rattle.sv_tree.specs.declared.expressions.PatternItem.{PatternItem}
use Rattle.sv_tree.specs.declared.expressions.Select.{Select}
use Rattle.sv_tree.specs.declared.expressions.SliceSize.{SliceSize}
use Rattle.sv_tree.specs.declared.expressions.ValueRange.{ValueRange}
use Rattle.sv_tree.specs.declared.expressions.Expr.{Expr, Expr-F, out-Expr}
use Rattle.sv_tree.specs.declared.names.QualifiedName.{QualifiedName}
use Rattle.sv_tree.specs.declared.names.Signing.{Signing}
use Rattle.sv_tree.specs.declared.types.Aggregate.{Aggregate}
use Rattle.sv_tree.specs.declared.types.Aggregate.TheVariants.{Struct, Union}
use Rattle.sv_tree.specs.declared.types.DimensionedName.{DimensionedName}
use Rattle.sv_tree.specs.declared.types.EnumBase.{EnumBase}
use Rattle.sv_tree.specs.declared.types.EnumBase.TheVariants as N
use Rattle.sv_tree.specs.declared.types.EnumName.{EnumName}
use Rattle.sv_tree.specs.declared.types.Member.{Member, Member-F, fold-Member}
use Rattle.sv_tree.specs.declared.types.Packing.{Packing}
use Rattle.sv_tree.specs.declared.types.TypeDeclaration.{TypeDeclaration}
use Rattle.sv_tree.specs.declared.types.TypeText.{TypeText, TypeText-F, fold-TypeText, out-TypeText}
use Rattle.name_events.specs.declared.dimensions.Dimensioned.TheVariants as D
use Rattle.name_events.specs.declared.events.Declared.{Declared}
use Rattle.name_events.specs.declared.events.Declared.TheVariants as W
use Rattle.name_events.specs.declared.events.Event.TheVariants as E
use Rattle.name_events.specs.declared.events.Packedness.{Packedness}
use Rattle.name_events.specs.declared.events.Packedness.TheVariants as K
use Rattle.name_events.specs.declared.events.Role.TheVariants as R
use Rattle.name_events.specs.declared.events.SelectPath.TheVariants as P
use Rattle.name_events.specs.declared.expressions.Position.TheVariants as Q
use Rattle.name_events.specs.Steps.{Part, put, nothing, wrong, declares}
use Rattle.name_events.specs.Expressions.{expr_events, dimensions, uses_path, select_path, selects_behind}

-- whether a type with dimensions behind its name is packed
abbrev pub with_dimensions : List Dimension → Packedness → Packedness
with_dimensions [] p = p
with_dimensions (d ∷ ds) p = K.Unpacked

-- where only a packed type may stand
abbrev pub has_to_be_packed : Packedness → ℕ → Part
has_to_be_packed K.Packed at = nothing
has_to_be_packed K.Unpacked at = wrong at
has_to_be_packed (K.AsNamed of) at = put (E.Packs of at)

-- under packed dimensions: wrong at the first one
abbrev pub under : List Dimension → Packedness → Part
under [] p = nothing
under (d ∷ ds) p = has_to_be_packed p (first_of_dimension d)

-- A type: whether it is packed, and what happens in it.
pub record TypeMeaning : Type 0 where
  pub packedness : Packedness
  pub part : Part

abbrev pub type_with : Packedness → Part → TypeMeaning
type_with packedness part = record { packedness = packedness; part = part }

abbrev pub packed_by : Option Packing → Packedness
packed_by None = K.Unpacked
packed_by (Some p) = K.Packed

-- a union has to be packed
abbrev pub aggregate_part : Aggregate → Option Packing → Part
aggregate_part (Struct at) packing = nothing
aggregate_part (Union at) None = wrong at
aggregate_part (Union at) (Some p) = nothing

-- the value of a name, if it has one
abbrev pub initial_part : Option Initializer → Part
initial_part None = nothing
initial_part (Some i) = expr_events i.value Q.Value

abbrev pub last_of_dimensions : ℕ → List Dimension → ℕ
last_of_dimensions before ds = last_of before (lasts ds)

-- the last token of a name, its dimensions and its value
abbrev pub last_of_declarator : ℕ → List Dimension → Option Initializer → ℕ
last_of_declarator name ds None = last_of_dimensions name ds
last_of_declarator name ds (Some i) = (extent_of_expr i.value).last

abbrev pub enum_name : EnumName → Part
enum_name n to = declares W.EnumName n.name (last_of_declarator n.name [] n.value) (initial_part n.value to)

abbrev pub enum_names : List EnumName → Part
enum_names [] to = to
enum_names (n ∷ ns) to = enum_names ns (enum_name n to)

-- a named type and the packed dimensions behind it
abbrev pub named_packedness : QualifiedName → List Dimension → Packedness
named_packedness of [] = K.AsNamed of.name
named_packedness of (d ∷ ds) = K.Packed

abbrev pub named_type : QualifiedName → List Dimension → Part
named_type of packed to = dimensions (D.PackedName of.name) packed (under packed (K.AsNamed of.name) (uses_path of R.Type P.Alone to))

-- the type under an enumeration is packed
abbrev pub enum_base : Option EnumBase → Part
enum_base None to = to
enum_base (Some (N.Keyword of packed)) to = dimensions D.Packed packed to
enum_base (Some (N.Named of packed)) to = has_to_be_packed (named_packedness of packed) (qualified_first of) (named_type of packed to)

-- the members of a packed structure or union are packed
abbrev pub member_packed : Bool → Packedness → ℕ → Part
member_packed false p at = nothing
member_packed true p at = has_to_be_packed p at

abbrev pub member_name : Bool → Packedness → DimensionedName → Part
member_name inside p n to = dimensions D.Unpacked n.unpacked (member_packed inside (with_dimensions n.unpacked p) n.name to)

abbrev pub member_names : Bool → Packedness → List DimensionedName → Part
member_names inside p [] to = to
member_names inside p (n ∷ ns) to = member_names inside p ns (member_name inside p n to)

abbrev pub members_in : Bool → List (Bool → Part) → Part
members_in inside [] to = to
members_in inside (m ∷ ms) to = members_in inside ms (m inside to)

abbrev pub member_step : Member-F TypeMeaning (Bool → Part) → Bool → Part
member_step m inside to = member_names inside m.of.packedness m.names (m.of.part to)

abbrev pub type_step : TypeText-F TypeMeaning (Bool → Part) → TypeMeaning
type_step (TypeText-F.Keyword of packed) = type_with K.Packed (dimensions D.Packed packed)
type_step (TypeText-F.Structure aggregate packing opening members closing packed) =
    type_with (packed_by packing) (λ to. dimensions D.Packed packed (under packed (packed_by packing) (members_in (is_some packing) members (aggregate_part aggregate packing to))))
type_step (TypeText-F.Enumeration keyword base opening names closing packed) =
    type_with K.Packed (λ to. dimensions D.Packed packed (enum_names names (enum_base base to)))
type_step (TypeText-F.Named of packed) = type_with (named_packedness of packed) (named_type of packed)
type_step (TypeText-F.Implicit signing packed) = type_with K.Packed (dimensions D.Packed packed)

abbrev pub type_meaning : TypeText → TypeMeaning
type_meaning = fold-TypeText TypeMeaning (Bool → Part) type_step member_step

abbrev pub member_events : Member → Bool → Part
member_events = fold-Member TypeMeaning (Bool → Part) type_step member_step

abbrev pub type_events : TypeText → Part
type_events t = (type_meaning t).part

abbrev pub packedness : TypeText → Packedness
packedness t = (type_meaning t).packedness

abbrev pub members : Bool → List Member → Part
members inside ms = members_in inside (map member_events ms)

-- declared names
abbrev pub named_of_type : Declared → ℕ → List Dimension → Option Initializer → Part
named_of_type what name unpacked initial to =
    declares what name (last_of_declarator name unpacked initial) (initial_part initial (dimensions D.Unpacked unpacked to))

abbrev pub declarator : Declared → Declarator → Part
declarator what d = named_of_type what d.name d.unpacked d.initial

abbrev pub declarators : Declared → List Declarator → Part
declarators what [] to = to
declarators what (d ∷ ds) to = declarators what ds (declarator what d to)

abbrev pub typedef : TypeDeclaration → Part
typedef t = λ to. named_of_type (W.TypeName (with_dimensions t.unpacked (packedness t.of))) t.name t.unpacked None (type_events t.of to)

-- A type in the place of an expression. What isn't one is wrong at its first token, and looked through as a value.
abbrev pub no_type : Expr → Part
no_type e to = expr_events e Q.Value (wrong (extent_of_expr e).first to)

abbrev pub if_type : Bool → Expr → Part → Part
if_type true e p = p
if_type false e p = no_type e

abbrev pub type_name : QualifiedName → List Select → Part
type_name of ss to = selects_behind of.name ss (uses_path of R.Type (select_path ss) to)

abbrev pub type_value_in : Expr → Expr-F Cast Dimension Expr Pattern PatternItem Select SliceSize ValueRange → Part
type_value_in e (Expr-F.Type of packed cast) = if_type (is_none cast) e (dimensions D.Packed packed)
type_value_in e (Expr-F.«Expr::Name» of ss cast) = if_type (is_none cast) e (type_name of ss)
type_value_in e _ = no_type e

abbrev pub type_value : Expr → Part
type_value e = type_value_in e (out-Expr e)

abbrev pub type_initial : Option Initializer → Part
type_initial None = nothing
type_initial (Some i) = type_value i.value

-- Parameters. One without word and type is a type where the one before it is one.
abbrev pub nothing_written : Option Signing → List Dimension → Bool
nothing_written None [] = true
nothing_written None (d ∷ ds) = false
nothing_written (Some s) ds = false

abbrev pub is_unwritten_in : TypeText-F TypeText Member → Bool
is_unwritten_in (TypeText-F.Implicit signing packed) = nothing_written signing packed
is_unwritten_in _ = false

abbrev pub is_unwritten : TypeText → Bool
is_unwritten t = is_unwritten_in (out-TypeText t)

abbrev pub is_type_body : Bool → ParameterBody → Bool
is_type_body before (B.Type keyword name initial) = true
is_type_body before (B.Value of d) = before && is_unwritten of

abbrev pub type_parameter : ℕ → List Dimension → Option Initializer → Part
type_parameter name unpacked initial to =
    declares W.TypeParameter name (last_of_declarator name unpacked initial) (type_initial initial (dimensions D.Packed unpacked to))

abbrev pub value_body : Bool → TypeText → Declarator → Part
value_body true of d to = type_parameter d.name d.unpacked d.initial to
value_body false of d to = declarator W.Parameter d (type_events of to)

abbrev pub parameter_body : Bool → ParameterBody → Part
parameter_body before (B.Type keyword name initial) = type_parameter name [] initial
parameter_body before (B.Value of d) = value_body (before && is_unwritten of) of d

abbrev pub parameters : Bool → List ParameterBody → Part
parameters before [] to = to
parameters before (b ∷ bs) to = parameters (is_type_body before b) bs (parameter_body before b to)

-- imports
abbrev pub import_item : ImportItem → Part
import_item (I.Name holder colons name) = put (E.ImportsName holder name)
import_item (I.All holder colons star) = put (E.ImportsAll holder star)

abbrev pub import_items : List ImportItem → Part
import_items [] to = to
import_items (i ∷ is) to = import_items is (import_item i to)

abbrev pub imports : List Import → Part
imports [] to = to
imports (i ∷ is) to = imports is (import_items i.items to)
