use Rattle.std.proofs.Common.{◌≡◌, drop}
use Rattle.v_scopes.specs.Env.{found}
use Rattle.v_stmt_rules.specs.Stmts.{begun, nothing}
use Rattle.v_rules.specs.Tables.{numbers_in, ports_in}
use Rattle.v_rules.specs.Items.{items_from}
use Rattle.v_rules.proofs.items.items_seen.Given as goal

abbrev pub invariant-loop-number : goal.invariant-loop-number
invariant-loop-number l =
    (items_from (drop l.number l.items) l.number (numbers_in l.modules) (ports_in l.modules) (found l.listed) (found l.scope) l.items l.start (record { seen = l.seen; met = found l.met })
    ≡ items_from l.fn.items 0 (numbers_in l.fn.modules) (ports_in l.fn.modules) (found l.fn.listed) (found l.fn.scope) l.fn.items l.fn.start (begun nothing))
    × (found l.scope ≡ found l.fn.scope)
