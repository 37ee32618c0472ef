-- The instances of a design as calls: of modules with one name the first one counts.
use Rattle.std.specs.Prelude.{◌≡◌, ℕ, suc, ◌==◌, List, [], ◌∷◌, ◌++◌, Option, Some, None, Result, Ok, Err, if◌then◌else◌}
use Rattle.call_circles.specs.declared.calls.Call.{Call}
use Rattle.v_tree.specs.Rules.{item_size}
use Rattle.v_tree.specs.declared.items.VItem.{VItem}
use Rattle.v_tree.specs.declared.items.VItem.TheVariants as I
use Rattle.v_tree.specs.declared.items.VModule.{VModule}
use Rattle.v_expr_rules.specs.Seen.{plus}
use Rattle.v_expr_rules.specs.Least.{cap}
use Rattle.v_rules.specs.Tables.{Numbers}
use Rattle.v_rules.specs.Items.{list_tokens}

-- a call from a module to a module, if both have numbers
abbrev pub call_between : Option ℕ → Option ℕ → ℕ → List Call
call_between None to at = []
call_between (Some from) None at = []
call_between (Some from) (Some to) at = record { from = Some from; to = to; at = at } ∷ []

abbrev pub item_calls : Numbers → Option ℕ → VItem → ℕ → List Call
item_calls ns from (I.Signal s) at = []
item_calls ns from (I.Initial i) at = []
item_calls ns from (I.Process p) at = []
item_calls ns from (I.Function f) at = []
item_calls ns from (I.Instance i) at = call_between from (ns i.of) at

-- calls, and the token behind what they were found in
pub record Walked : Type 0 where
  pub at : ℕ
  pub calls : List Call

abbrev pub walked : ℕ → List Call → Walked
walked at cs = record { at = at; calls = cs }

abbrev pub item_walked : Numbers → Option ℕ → VItem → Walked → Walked
item_walked ns from i w = record { at = plus w.at (cap (item_size i)); calls = w.calls ++ item_calls ns from i w.at }

abbrev pub items_walked : Numbers → Option ℕ → List VItem → Walked → Walked
items_walked ns from [] w = w
items_walked ns from (i ∷ is) w = items_walked ns from is (item_walked ns from i w)

-- the number of a module, if it is the first one with its name
abbrev pub own_number : Option ℕ → ℕ → Option ℕ
own_number None number = None
own_number (Some n) number = if n == number then Some n else None

abbrev pub module_begun : VModule → Walked → Walked
module_begun m w = record { at = plus w.at (plus 3 (list_tokens m.ports)); calls = w.calls }

abbrev pub module_ended : Walked → Walked
module_ended w = record { at = plus w.at 1; calls = w.calls }

abbrev pub module_walked : Numbers → ℕ → VModule → Walked → Walked
module_walked ns number m w = module_ended (items_walked ns (own_number (ns m.name) number) m.items (module_begun m w))

abbrev pub modules_walked : Numbers → ℕ → List VModule → Walked → Walked
modules_walked ns number [] w = w
modules_walked ns number (m ∷ ms) w = modules_walked ns (suc number) ms (module_walked ns number m w)

abbrev pub nothing_walked : Walked
nothing_walked = record { at = 0; calls = [] }

-- a result and the calls behind it are these
abbrev pub Walks : {E : Type 0} → Result ℕ E → List Call → Walked → Type 0
Walks (Ok at) calls w = (at ≡ w.at) × (calls ≡ w.calls)
Walks (Err e) calls w = Unit {0}
