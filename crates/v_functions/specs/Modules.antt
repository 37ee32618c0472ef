-- The calls of functions that are found in modules, and the first ones that lead back.
use Rattle.std.specs.Prelude.{ℕ, suc, List, [], ◌∷◌, None}
use Rattle.call_circles.specs.Calls.{first_broken}
use Rattle.v_tree.specs.Rules.{item_size}
use Rattle.v_tree.specs.declared.items.VItem.{VItem}
use Rattle.v_tree.specs.declared.items.VItem.TheVariants as I
use Rattle.v_tree.specs.declared.items.VModule.{VModule}
use Rattle.v_expr_rules.specs.Least.{cap}
use Rattle.v_expr_rules.specs.Seen.{plus, earlier}
use Rattle.v_stmt_rules.specs.Stmts.{nothing}
use Rattle.v_rules.specs.Items.{list_tokens}
use Rattle.v_rules.specs.ModuleNames.{items_given}
use Rattle.v_functions.specs.declared.modules.Found.{Found}
use Rattle.v_functions.specs.declared.walk.Walk.{Walk}
use Rattle.v_functions.specs.Numbered.{functions_from}
use Rattle.v_functions.specs.Walks.{Step, skipped, function_walked}

abbrev pub item_skipped : VItem → Walk → Walk
item_skipped i w = skipped (cap (item_size i)) w

abbrev pub item_walked : ℕ → VItem → Step
item_walked number (I.Signal s) ns env w = item_skipped (I.Signal s) w
item_walked number (I.Initial i) ns env w = item_skipped (I.Initial i) w
item_walked number (I.Process p) ns env w = item_skipped (I.Process p) w
item_walked number (I.Function f) ns env w = function_walked f number ns env w
item_walked number (I.Instance i) ns env w = item_skipped (I.Instance i) w

abbrev pub items_walked : ℕ → List VItem → Step
items_walked number [] ns env w = w
items_walked number (i ∷ is) ns env w = items_walked (suc number) is ns env (item_walked number i ns env w)

abbrev pub module_walked : VModule → ℕ → Walk
module_walked m at =
    let start : Walk = record { from = 0; at = plus at (plus 3 (list_tokens m.ports)); calls = [] } in
    items_walked 0 m.items (functions_from 0 m.items) (items_given 0 m.items nothing) start

abbrev pub nothing_found : Found
nothing_found = record { end = 0; first = None }

abbrev pub module_added : VModule → Found → Found
module_added m f =
    let w = module_walked m f.end in record { end = plus w.at 1; first = earlier f.first (first_broken w.calls []) }

abbrev pub modules_added : List VModule → Found → Found
modules_added [] f = f
modules_added (m ∷ ms) f = modules_added ms (module_added m f)
