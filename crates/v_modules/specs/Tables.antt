-- Tables of the modules of a design.
use Rattle.std.specs.Prelude.{◌≡◌, true, List, [], ◌∷◌}
use Rattle.v_tree.specs.Names.{distinct}
use Rattle.v_tree.specs.declared.items.VItem.{VItem}
use Rattle.v_tree.specs.declared.items.VModule.{VModule}
use Rattle.v_meaning.specs.Modules.{signals}
use Rattle.v_modules.specs.declared.table.Table.{Table}
use Rattle.v_modules.specs.Named.{names_of_signals}

abbrev pub items_of : Table → List VItem
items_of t = t.names.items.now

abbrev pub items_in : VModule → List VItem
items_in m = m.items

-- no module declares two signals of one name
abbrev pub NamesStandOnce : List VModule → Type 0
NamesStandOnce [] = Unit {0}
NamesStandOnce (m ∷ ms) = (distinct (names_of_signals (signals m.items)) ≡ true) × NamesStandOnce ms
