-- Where the functions of a module stand among its items, by their names.
use Rattle.std.specs.Prelude.{ℕ, Option, Some, if◌then◌else◌}
use Rattle.std.specs.Str.{bytes_eq}
use Rattle.indexmap.specs.IndexMap as map_of
use Rattle.v_tree.specs.Names.{Name}
use Rattle.v_tree.specs.declared.items.VItem.{VItem}
use Rattle.v_tree.specs.declared.items.VItem.TheVariants as I

abbrev pub Places : Type 0
Places = Name → Option ℕ

abbrev pub places_in : {S : Type 0} → map_of.IndexMap Name ℕ S → Places
places_in m = λ name. map_of.get bytes_eq m name

abbrev pub place_given : Places → Name → ℕ → Places
place_given ps name at = λ n. if bytes_eq name n then Some at else ps n

abbrev pub item_placed : ℕ → VItem → Places → Places
item_placed at (I.Signal s) ps = ps
item_placed at (I.Initial i) ps = ps
item_placed at (I.Process p) ps = ps
item_placed at (I.Function f) ps = place_given ps f.name at
item_placed at (I.Instance i) ps = ps

abbrev pub one_function : VItem → ℕ
one_function (I.Signal s) = 0
one_function (I.Initial i) = 0
one_function (I.Process p) = 0
one_function (I.Function f) = 1
one_function (I.Instance i) = 0
