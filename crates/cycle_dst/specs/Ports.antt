-- The inputs of the top, port by port.
use Rattle.std.specs.Prelude.{ℕ, cond, List, [], ◌∷◌, map, filter, flat_map, Option, Some, None}
use Rattle.v_tree.specs.Names.{Name}
use Rattle.v_tree.specs.Rules.{module_named}
use Rattle.v_tree.specs.declared.items.VModule.{VModule}
use Rattle.v_meaning.specs.Scopes.{named}
use Rattle.v_meaning.specs.Modules.{Signal, signals, numbered, kind_of, items_of}
use Rattle.v_meaning.specs.Machine.{is_input}
use Rattle.v_modules.specs.Tables as T
use Rattle.v_modules.specs.declared.table.Table.{Table}
use Rattle.cycle_dst.specs.Designs.{top_ports}

-- the signal that a name stands for in the top
abbrev pub number_in : List Signal → Name → ℕ
number_in ss name = (named (numbered 0 ss) name).number

-- it, if it is an input
abbrev pub input_named : List Signal → Name → List ℕ
input_named ss name = cond (is_input (kind_of ss name)) (number_in ss name ∷ []) []

-- the inputs of a module with a table
abbrev pub inputs_if : Option Table → Option VModule → List ℕ
inputs_if None m = []
inputs_if (Some t) None = []
inputs_if (Some t) (Some m) = flat_map (input_named (signals (T.items_of t))) m.ports

-- the inputs of the module with a name
abbrev pub inputs_in : List VModule → Name → List ℕ
inputs_in ms top =
    let ss = signals (items_of ms top) in
    map (λ n. (named (numbered 0 ss) n).number) (filter (λ n. is_input (kind_of ss n)) (top_ports (module_named ms top)))
