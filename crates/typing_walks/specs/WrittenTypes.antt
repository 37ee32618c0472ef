-- Types as they are written, in which each struct and union has a member with a name, as those that are read from a text.
use Rattle.std.specs.Prelude.{Bool, true, ◌&&◌, List, Option, Some, None, map}
use Rattle.sv_tree.specs.declared.declarations.Initializer.{Initializer}
use Rattle.sv_tree.specs.declared.expressions.Dimension.{Dimension}
use Rattle.sv_tree.specs.declared.types.DimensionedName.{DimensionedName}
use Rattle.sv_tree.specs.declared.types.EnumBase.{EnumBase}
use Rattle.sv_tree.specs.declared.types.EnumBase.TheVariants as B
use Rattle.sv_tree.specs.declared.types.EnumName.{EnumName}
use Rattle.sv_tree.specs.declared.types.Member.{Member-F}
use Rattle.sv_tree.specs.declared.types.TypeText.{TypeText, TypeText-F, fold-TypeText}
use Rattle.typing_walks.specs.Written.{all, some_and_all, is_written, dimension_written}

abbrev pub dims_written : List Dimension → Bool
dims_written ds = all (map dimension_written ds)

abbrev pub initial_written : Option Initializer → Bool
initial_written None = true
initial_written (Some i) = is_written i.value

abbrev pub base_written : Option EnumBase → Bool
base_written None = true
base_written (Some (B.Keyword of ds)) = dims_written ds
base_written (Some (B.Named of ds)) = dims_written ds

abbrev pub name_written : DimensionedName → Bool
name_written n = dims_written n.unpacked

abbrev pub names_written : List EnumName → Bool
names_written ns = all (map (λ (n : EnumName). initial_written n.value) ns)

abbrev pub member_step : Member-F Bool Bool → Bool
member_step m = m.of && some_and_all (map name_written m.names)

abbrev pub type_step : TypeText-F Bool Bool → Bool
type_step (TypeText-F.Keyword of ds) = dims_written ds
type_step (TypeText-F.Structure of packing opening members closing ds) = some_and_all members && dims_written ds
type_step (TypeText-F.Enumeration keyword base opening names closing ds) = base_written base && (names_written names && dims_written ds)
type_step (TypeText-F.Named of ds) = dims_written ds
type_step (TypeText-F.Implicit signing ds) = dims_written ds

abbrev pub type_written : TypeText → Bool
type_written = fold-TypeText Bool Bool type_step member_step
