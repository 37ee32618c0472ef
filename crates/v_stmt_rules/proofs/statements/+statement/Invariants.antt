use Rattle.std.proofs.Common.{◌≡◌, drop, map}
use Rattle.v_scopes.specs.Env.{found, hidden_in}
use Rattle.v_stmt_rules.specs.Stmts.{begun, no_cases, stmts_from, cases_from, stmt_told, item_told}
use Rattle.v_stmt_rules.proofs.statements.+statement.Given as goal

abbrev pub invariant-stmts_seen-loop-stmt : goal.invariant-stmts_seen-loop-stmt
invariant-stmts_seen-loop-stmt l =
    (stmts_from (map stmt_told (drop l.stmt-index l.stmts)) l.procedure (found l.scope) l.items l.start (record { seen = l.seen; met = found l.met })
    ≡ stmts_from (map stmt_told l.fn.stmts) l.fn.procedure (found l.fn.scope) l.fn.items l.fn.start (begun (found l.fn.met)))
    × (found l.scope ≡ found l.fn.scope)
    × (hidden_in l.scope ≡ hidden_in l.fn.scope)

abbrev pub invariant-items_seen-loop-case : goal.invariant-items_seen-loop-case
invariant-items_seen-loop-case l =
    (cases_from (map item_told (drop l.case-index l.cases)) l.procedure (found l.scope) l.items l.start (record { seen = l.seen; met = found l.met })
    ≡ cases_from (map item_told l.fn.cases) l.fn.procedure (found l.fn.scope) l.fn.items l.fn.start (record { seen = no_cases; met = found l.fn.met }))
    × (found l.scope ≡ found l.fn.scope)
    × (hidden_in l.scope ≡ hidden_in l.fn.scope)
