use Rattle.std.proofs.Common.{◌≡◌, drop}
use Rattle.v_scopes.specs.Env.{found}
use Rattle.v_stmt_rules.specs.Stmts.{locals_from}
use Rattle.v_stmt_rules.proofs.locals.locals_seen.Given as goal

abbrev pub invariant-loop-local : goal.invariant-loop-local
invariant-loop-local l =
    locals_from (drop l.local-index l.locals) l.start (record { seen = l.seen; met = found l.met })
    ≡ locals_from l.fn.locals l.fn.start (record { seen = l.fn.others; met = found l.fn.met })
