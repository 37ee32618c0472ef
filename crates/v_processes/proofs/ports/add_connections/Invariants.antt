use Rattle.std.proofs.Common.{◌≡◌, ◌++◌, List, drop}
use Rattle.std.specs.Option.{option_copied}
use Rattle.v_tree.specs.declared.items.VModule.{VModule}
use Rattle.v_meaning.specs.Modules.{connections, scope_of}
use Rattle.v_processes.specs.Connections.{ports_of}
use Rattle.v_processes.specs.Processes.{processes_at, items_at}
use Rattle.v_processes.specs.Stems.{sources_at, link_sources}
use Rattle.v_processes.proofs.ports.add_connections.Given as goal

abbrev pub invariant-loop-connection : goal.invariant-loop-connection
invariant-loop-connection l = record {
  processes :
      (ms : List VModule)
      → processes_at ms l.to ++ connections (scope_of l.own.first (items_at ms l.own.of)) l.first (ports_of (option_copied l.child)) (drop l.connection-index l.connections)
      ≡ processes_at ms l.fn.to ++ connections (scope_of l.fn.own.first (items_at ms l.fn.own.of)) l.fn.first (ports_of (option_copied l.fn.child)) l.fn.connections;
  sources :
      (ms : List VModule)
      → sources_at ms l.to ++ link_sources (items_at ms l.own.of) l.first (ports_of (option_copied l.child)) (drop l.connection-index l.connections)
      ≡ sources_at ms l.fn.to ++ link_sources (items_at ms l.fn.own.of) l.fn.first (ports_of (option_copied l.fn.child)) l.fn.connections;
}
