use Rattle.std.proofs.Common.{◌≡◌, drop}
use Rattle.v_scopes.specs.Env.{found}
use Rattle.v_stmt_rules.specs.Stmts.{begun}
use Rattle.v_rules.specs.Items.{list_from}
use Rattle.v_rules.proofs.lists.list_seen.Given as goal

abbrev pub invariant-loop-name : goal.invariant-loop-name
invariant-loop-name l =
    list_from (drop l.name-index l.names) (found l.ports) l.start (record { seen = l.seen; met = found l.met })
    ≡ list_from l.fn.names (found l.fn.ports) l.fn.start (begun (found l.fn.met))
