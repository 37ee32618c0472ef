use Rattle.std.proofs.Common.{◌≡◌, drop}
use Rattle.v_scopes.specs.Env.{found}
use Rattle.v_item_rules.specs.Instances.{connections_from, none_connected}
use Rattle.v_item_rules.proofs.instances.connections_seen.Given as goal

abbrev pub invariant-loop-connection : goal.invariant-loop-connection
invariant-loop-connection l =
    connections_from (drop l.connection-index l.connections) (found l.ports) (found l.scope) l.items l.start (record { seen = l.seen; met = found l.met })
    ≡ connections_from l.fn.connections (found l.fn.ports) (found l.fn.scope) l.fn.items l.fn.start (none_connected (found l.fn.met))
