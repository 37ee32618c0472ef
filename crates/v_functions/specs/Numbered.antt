-- The functions of a module by their names: of two with one name the first one counts.
use Rattle.std.specs.Prelude.{ℕ, suc, List, [], ◌∷◌}
use Rattle.std.specs.Str.{bytes_eq}
use Rattle.indexmap.specs.IndexMap as map_of
use Rattle.v_tree.specs.declared.items.VItem.{VItem}
use Rattle.v_tree.specs.declared.items.VItem.TheVariants as I
use Rattle.v_rules.specs.Tables.{Numbers, no_numbers, number_given}
use Rattle.v_functions.specs.declared.table.Functions.{Functions}

abbrev pub numbers_in : Functions → Numbers
numbers_in t = λ name. map_of.get bytes_eq t.numbers name

abbrev pub item_numbered : ℕ → VItem → Numbers → Numbers
item_numbered number (I.Signal s) ns = ns
item_numbered number (I.Initial i) ns = ns
item_numbered number (I.Process p) ns = ns
item_numbered number (I.Function f) ns = number_given ns f.name number
item_numbered number (I.Instance i) ns = ns

abbrev pub functions_from : ℕ → List VItem → Numbers
functions_from number [] = no_numbers
functions_from number (i ∷ is) = item_numbered number i (functions_from (suc number) is)
