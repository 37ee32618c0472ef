-- Functions and tasks as the code has them.
use Rattle.std.specs.Prelude.{ℕ, nat_eq, if◌then◌else◌, List, [], map, flat_map, Option, Some, None}
use Rattle.std.specs.Option.{option_map}
use Rattle.indexmap.specs.IndexMap as index
use Rattle.sv_tree.specs.declared.items.CaseGenerateItem.{CaseGenerateItem, fold-CaseGenerateItem}
use Rattle.sv_tree.specs.declared.items.GenerateBlock.{GenerateBlock, fold-GenerateBlock}
use Rattle.sv_tree.specs.declared.items.GenerateElse.{GenerateElse}
use Rattle.sv_tree.specs.declared.items.Item.{Item}
use Rattle.sv_tree.specs.declared.units.PackageItem.{PackageItem}
use Rattle.sv_tree.specs.declared.units.Unit.{Unit}
use Rattle.expr_type.specs.Names.{RoutineText, OfFunction, OfTask}
use Rattle.expr_type.specs.Routines.{Routines, choice_step, block_step, item_step, else_step, item_routines, package_item, unit_routines}
use Rattle.source_routines.specs.declared.routine.Routine.{Routine}
use Rattle.source_routines.specs.declared.routine.Routine.TheVariants as V
use Rattle.source_routines.specs.declared.routine_table.RoutineTable.{RoutineTable}

abbrev pub text_of : Routine → RoutineText
text_of (V.Function f) = OfFunction f.now
text_of (V.Task t) = OfTask t.now

abbrev pub texts : List Routine → List RoutineText
texts rs = map text_of rs

-- those of the parts of a text
abbrev pub block_routines : GenerateBlock → Routines
block_routines = fold-GenerateBlock Routines Routines Routines Routines choice_step block_step item_step else_step

abbrev pub choice_routines : CaseGenerateItem → Routines
choice_routines = fold-CaseGenerateItem Routines Routines Routines Routines choice_step block_step item_step else_step

abbrev pub else_routines : Option GenerateElse → Routines
else_routines None = []
else_routines (Some other) = block_routines other.body

abbrev pub items_routines : List Item → Routines
items_routines = flat_map item_routines

abbrev pub choices_routines : List CaseGenerateItem → Routines
choices_routines = flat_map choice_routines

abbrev pub package_routines : List PackageItem → Routines
package_routines = flat_map package_item

abbrev pub units_routines : List Unit → Routines
units_routines = flat_map unit_routines

-- the routine whose name stands at a token, by the table
abbrev pub routine_in : RoutineTable → ℕ → Option RoutineText
routine_in x = λ at. option_map text_of (index.get nat_eq x.table at)

abbrev pub put_routine : (ℕ → Option RoutineText) → ℕ → RoutineText → ℕ → Option RoutineText
put_routine table name r = λ at. if nat_eq name at then Some r else table at
