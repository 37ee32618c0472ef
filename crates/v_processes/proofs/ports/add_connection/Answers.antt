use Rattle.std.proofs.Common.{◌++◌, ap, ◌∙◌}
use Rattle.std.specs.Option.{option_copied}
use Rattle.v_meaning.specs.Modules.{scope_of}
use Rattle.v_processes.specs.Connections.{ports_of}
use Rattle.v_processes.specs.Processes.{processes_at, items_at}
use Rattle.v_processes.specs.Stems.{sources_at}
use Rattle.v_processes.proofs.Kept.{where-ok, connection-is, link-is}
use Rattle.v_processes.proofs.ports.add_connection.Goals as goal

pub returns-in-Some-clause-processes : goal.returns-in-Some-clause-processes
returns-in-Some-clause-processes c =
    where-ok c.connect.result
    (λ h ms. h ms ∙ ap (λ l. processes_at ms c.args.to.now ++ l)
    (connection-is (scope_of c.args.own.first (items_at ms c.args.own.of)) c.args.first (ports_of (option_copied c.args.child)) c.args.connection.now c.in-Some.value c.port_in-port.result c.is_input_in-input.result
    c.in-Some.is c.is_input_in-input.ensures c.port_in-port.ensures.number c.port_in-port.ensures.bits))
    c.connect.ensures.processes

pub returns-in-Some-clause-sources : goal.returns-in-Some-clause-sources
returns-in-Some-clause-sources c =
    where-ok c.connect.result
    (λ h ms. h ms ∙ ap (λ l. sources_at ms c.args.to.now ++ l)
    (link-is (items_at ms c.args.own.of) c.args.first (ports_of (option_copied c.args.child)) c.args.connection.now c.in-Some.value c.port_in-port.result c.is_input_in-input.result
    c.in-Some.is c.is_input_in-input.ensures c.port_in-port.ensures.number c.port_in-port.ensures.bits))
    c.connect.ensures.sources
