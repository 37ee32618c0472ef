-- The functions and tasks of a source text, wherever they stand.
use Rattle.std.specs.Prelude.{ℕ, cond, ◌==◌, List, [], ◌∷◌, ◌++◌, flat_map, Option, Some, None}
use Rattle.sv_tree.specs.declared.items.CaseGenerateItem.{CaseGenerateItem-F}
use Rattle.sv_tree.specs.declared.items.GenerateBlock.{GenerateBlock-F}
use Rattle.sv_tree.specs.declared.items.GenerateElse.{GenerateElse-F}
use Rattle.sv_tree.specs.declared.items.Item.{Item, Item-F, fold-Item}
use Rattle.sv_tree.specs.declared.units.Module.{Module}
use Rattle.sv_tree.specs.declared.units.PackageItem.{PackageItem}
use Rattle.sv_tree.specs.declared.units.PackageItem.TheVariants as P
use Rattle.sv_tree.specs.declared.units.SourceTree.{SourceTree}
use Rattle.sv_tree.specs.declared.units.Unit.{Unit}
use Rattle.sv_tree.specs.declared.units.Unit.TheVariants as U
use Rattle.expr_type.specs.Names.{RoutineText, OfFunction, OfTask}
use Rattle.expr_type.specs.Functions.{name_of}

abbrev pub Routines : Type 0
Routines = List RoutineText

abbrev pub joined : List Routines → Routines
joined rs = flat_map (λ r. r) rs

abbrev pub or_none : Option Routines → Routines
or_none None = []
or_none (Some rs) = rs

abbrev pub choice_step : CaseGenerateItem-F Routines Routines Routines Routines → Routines
choice_step (CaseGenerateItem-F.Values es colon body) = body
choice_step (CaseGenerateItem-F.Default keyword colon body) = body

abbrev pub block_step : GenerateBlock-F Routines Routines Routines Routines → Routines
block_step (GenerateBlock-F.Block begin label items end end_label) = joined items
block_step (GenerateBlock-F.Single item) = item

abbrev pub else_step : GenerateElse-F Routines Routines Routines Routines → Routines
else_step e = e.body

abbrev pub item_step : Item-F Routines Routines Routines Routines → Routines
item_step (Item-F.Parameters p) = []
item_step (Item-F.Typedef t) = []
item_step (Item-F.Import i) = []
item_step (Item-F.Function f) = OfFunction f ∷ []
item_step (Item-F.Task t) = OfTask t ∷ []
item_step (Item-F.Data d) = []
item_step (Item-F.Genvars g) = []
item_step (Item-F.Assign a) = []
item_step (Item-F.Always a) = []
item_step (Item-F.Generate keyword items end) = joined items
item_step (Item-F.LoopGenerate keyword opening control closing body) = body
item_step (Item-F.IfGenerate keyword opening test closing body other) = body ++ or_none other
item_step (Item-F.CaseGenerate keyword opening sought closing items end) = joined items
item_step (Item-F.Modports m) = []
item_step (Item-F.Instances i) = []
item_step (Item-F.Empty semicolon) = []

abbrev pub item_routines : Item → Routines
item_routines = fold-Item Routines Routines Routines Routines choice_step block_step item_step else_step

abbrev pub module_routines : Module → Routines
module_routines m = flat_map item_routines m.items

abbrev pub package_item : PackageItem → Routines
package_item (P.Import i) = []
package_item (P.Typedef t) = []
package_item (P.Parameters p) = []
package_item (P.Function f) = OfFunction f ∷ []
package_item (P.Task t) = OfTask t ∷ []
package_item (P.Empty semicolon) = []

abbrev pub unit_routines : Unit → Routines
unit_routines (U.Package p) = flat_map package_item p.items
unit_routines (U.Module m) = module_routines m
unit_routines (U.Interface m) = module_routines m
unit_routines (U.Import i) = []
unit_routines (U.Typedef t) = []
unit_routines (U.Parameters p) = []
unit_routines (U.Function f) = OfFunction f ∷ []
unit_routines (U.Task t) = OfTask t ∷ []
unit_routines (U.Empty semicolon) = []

-- the routine whose name stands at a token
abbrev pub named_at : ℕ → Routines → Option RoutineText
named_at at [] = None
named_at at (r ∷ rs) = cond (name_of r == at) (Some r) (named_at at rs)

unfoldable pub routines : SourceTree → Routines
routines tree = flat_map unit_routines tree.units
