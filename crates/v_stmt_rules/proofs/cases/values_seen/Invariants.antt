use Rattle.std.proofs.Common.{◌≡◌, drop, map}
use Rattle.v_scopes.specs.Env.{found}
use Rattle.v_expr_rules.specs.Walks.{expr_seen}
use Rattle.v_stmt_rules.specs.Stmts.{no_values, values_from}
use Rattle.v_stmt_rules.proofs.cases.values_seen.Given as goal

abbrev pub invariant-loop-i : goal.invariant-loop-i
invariant-loop-i l =
    values_from (map expr_seen (drop l.i l.values)) (found l.scope) l.items l.start l.i l.seen
    ≡ values_from (map expr_seen l.fn.values) (found l.fn.scope) l.fn.items l.fn.start 0 no_values
