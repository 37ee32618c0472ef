-- Modules by their numbers, if they have one.
use Rattle.std.specs.Prelude.{ℕ, List, [], Option, Some, None, slice_get}
use Rattle.v_tree.specs.declared.items.VItem.{VItem}
use Rattle.v_tree.specs.declared.items.VModule.{VModule}
use Rattle.v_modules.specs.declared.table.Table.{Table}
use Rattle.v_processes.specs.Processes.{items_at}

abbrev pub items_numbered : List VModule → Option ℕ → List VItem
items_numbered ms None = []
items_numbered ms (Some k) = items_at ms k

abbrev pub table_numbered : List Table → Option ℕ → Option Table
table_numbered ts None = None
table_numbered ts (Some k) = slice_get ts k
