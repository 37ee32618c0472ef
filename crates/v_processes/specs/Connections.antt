-- Connections to children.
use Rattle.std.specs.Prelude.{Bool, true, false, Option, Some, None, List, [], ◌∷◌}
use Rattle.v_tree.specs.declared.expressions.VExpr.{VExpr}
use Rattle.v_tree.specs.declared.items.VItem.{VItem}
use Rattle.v_meaning.specs.Scopes.{Scope}
use Rattle.v_meaning.specs.Values.{meaning}
use Rattle.v_meaning.specs.Modules.{Signal, Process, signals, driving, from_output, port_target, as_target}
use Rattle.v_modules.specs.declared.table.Table.{Table}
use Rattle.v_modules.specs.Tables.{items_of}
use Rattle.v_processes.specs.declared.process.Port.{Port}
use Rattle.v_processes.specs.Processes.{port_named}
use Rattle.v_processes.specs.Stems.{Source, given, taken_by}

-- the signals of a module that may be none
abbrev pub ports_of : Option Table → List Signal
ports_of None = []
ports_of (Some t) = signals (items_of t)

-- the process that an expression is which is connected to a port, an input or not
abbrev pub connected : Bool → Scope → Port → VExpr → List Process
connected true sc port e = driving sc (port_target (port_named port)) (meaning e)
connected false sc port e = from_output sc (port_named port) (as_target e)

-- and where it stems from
abbrev pub connected_source : Bool → List VItem → Port → VExpr → List Source
connected_source true is port e = record { items = is; stem = given port.number port.bits e } ∷ []
connected_source false is port e = taken_by is (as_target e)
