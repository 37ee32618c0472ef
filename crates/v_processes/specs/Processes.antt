-- What is kept of a process is what it means.
use Rattle.std.specs.Prelude.{ℕ, false, List, [], map, Option, Some, None, slice_get}
use Rattle.v_tree.specs.declared.items.VItem.{VItem}
use Rattle.v_tree.specs.declared.items.VModule.{VModule}
use Rattle.v_meaning.specs.Scopes.{Named, Scope}
use Rattle.v_meaning.specs.Values.{meaning}
use Rattle.v_meaning.specs.Statements.{target, assignment, doing_of}
use Rattle.v_meaning.specs.Modules as M
use Rattle.v_meaning.specs.Modules.{always_on, on_change, on_edges, port_target, port_value, scope_of}
use Rattle.v_processes.specs.declared.process.EdgeOn.{EdgeOn}
use Rattle.v_processes.specs.declared.process.Port.{Port}
use Rattle.v_processes.specs.declared.process.Does.{Does}
use Rattle.v_processes.specs.declared.process.Does.TheVariants as D
use Rattle.v_processes.specs.declared.process.Proc.{Proc}

abbrev pub edge_of : EdgeOn → M.EdgeOn
edge_of e = record { rising = e.rising; signal = e.signal }

-- a port by its number and its bits
abbrev pub port_named : Port → Named
port_named p = record { name = []; number = p.number; width = p.bits; words = None }

abbrev pub does_in : Does → Scope → M.Process
does_in (D.Assign to value) sc = record { starts = always_on; scope = sc; does = assignment false (target to.now) (meaning value.now) }
does_in (D.Star body) sc = record { starts = on_change; scope = sc; does = doing_of body.now }
does_in (D.Edges edges body) sc = record { starts = on_edges (map edge_of edges); scope = sc; does = doing_of body.now }
does_in (D.Into port value) sc = record { starts = always_on; scope = sc; does = assignment false (port_target (port_named port)) (meaning value.now) }
does_in (D.From to port) sc = record { starts = always_on; scope = sc; does = assignment false (target to) (port_value (port_named port)) }

-- the items of the module with a number
abbrev pub items_or_none : Option VModule → List VItem
items_or_none None = []
items_or_none (Some m) = m.items

abbrev pub items_at : List VModule → ℕ → List VItem
items_at ms k = items_or_none (slice_get ms k)

-- a process of an instance
abbrev pub process_at : List VModule → Proc → M.Process
process_at ms p = does_in p.does (scope_of p.first (items_at ms p.of))

abbrev pub processes_at : List VModule → List Proc → List M.Process
processes_at ms ps = map (process_at ms) ps
