use Rattle.std.proofs.Common.{◌≡◌, drop}
use Rattle.v_scopes.specs.Env.{found}
use Rattle.v_stmt_rules.specs.Stmts.{begun, nothing}
use Rattle.v_rules.specs.Tables.{numbers_in, ports_in}
use Rattle.v_rules.specs.Items.{modules_from}
use Rattle.v_rules.proofs.check.modules_seen.Given as goal

abbrev pub invariant-loop-module : goal.invariant-loop-module
invariant-loop-module l =
    modules_from (drop l.module-index l.modules) (numbers_in l.table) (ports_in l.table) (record { seen = l.seen; met = found l.met })
    ≡ modules_from l.fn.modules (numbers_in l.fn.table) (ports_in l.fn.table) (begun nothing)
