use Rattle.std.proofs.Common.{◌+◌, [], ◌∷◌, List, drop, ap, ◌∙◌}
use Rattle.std.specs.Option.{option_copied}
use Rattle.v_tree.specs.declared.items.VConnection.{VConnection}
use Rattle.v_meaning.specs.Modules.{scope_of, connections}
use Rattle.v_processes.specs.Connections.{ports_of}
use Rattle.v_processes.specs.Processes.{processes_at, items_at}
use Rattle.v_processes.specs.Stems.{sources_at, link_sources}
use Rattle.v_processes.proofs.Kept.{connections-cons, links-cons, drop-here, turn}
use Rattle.v_processes.proofs.ports.add_connections.Goals as goal

pub loop-connection-preserved : goal.loop-connection-preserved
loop-connection-preserved c =
    let ports = ports_of (option_copied c.args.child) in
    let i = c.loop-connection.connection-index in
    let rest = drop (i + 1) c.args.connections.now in
    let here = drop-here c.args.connections.now i c.connection-item.result c.loop-connection-test.true c.connection-item.is in
    record {
      processes = λ ms.
          let sc = scope_of c.args.own.first (items_at ms c.args.own.of) in
          turn (processes_at ms c.loop-connection.to) (processes_at ms c.add_connection.new.to) (connections sc c.args.first ports (c.connection-item.result ∷ [])) (connections sc c.args.first ports rest)
          (connections sc c.args.first ports (drop i c.args.connections.now)) _ (c.in_ok-add_connection.ensures.processes ms)
          (ap (λ (cs : List VConnection). connections sc c.args.first ports cs) here ∙ connections-cons sc c.args.first ports c.connection-item.result rest)
          (c.loop-connection.invariant.processes ms);
      sources = λ ms.
          let own = items_at ms c.args.own.of in
          turn (sources_at ms c.loop-connection.to) (sources_at ms c.add_connection.new.to) (link_sources own c.args.first ports (c.connection-item.result ∷ [])) (link_sources own c.args.first ports rest)
          (link_sources own c.args.first ports (drop i c.args.connections.now)) _ (c.in_ok-add_connection.ensures.sources ms)
          (ap (λ (cs : List VConnection). link_sources own c.args.first ports cs) here ∙ links-cons own c.args.first ports c.connection-item.result rest)
          (c.loop-connection.invariant.sources ms);
    }
