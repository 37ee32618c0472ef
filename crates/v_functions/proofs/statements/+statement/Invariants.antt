use Rattle.std.proofs.Common.{◌≡◌, drop, map}
use Rattle.v_scopes.specs.Env.{found, hidden_in}
use Rattle.v_functions.specs.Numbered.{numbers_in}
use Rattle.v_functions.specs.Walks.{each_walked, walks_of, stmt_walked, case_walked}
use Rattle.v_functions.proofs.statements.+statement.Given as goal

abbrev pub invariant-stmts_walked-loop-stmt : goal.invariant-stmts_walked-loop-stmt
invariant-stmts_walked-loop-stmt l =
    (each_walked (walks_of (map stmt_walked (drop l.stmt-index l.stmts))) (numbers_in l.functions) (found l.scope) l.walk
    ≡ each_walked (walks_of (map stmt_walked l.fn.stmts)) (numbers_in l.fn.functions) (found l.fn.scope) l.fn.walk)
    × (found l.scope ≡ found l.fn.scope)
    × (hidden_in l.scope ≡ hidden_in l.fn.scope)

abbrev pub invariant-cases_walked-loop-case : goal.invariant-cases_walked-loop-case
invariant-cases_walked-loop-case l =
    (each_walked (walks_of (map case_walked (drop l.case-index l.cases))) (numbers_in l.functions) (found l.scope) l.walk
    ≡ each_walked (walks_of (map case_walked l.fn.cases)) (numbers_in l.fn.functions) (found l.fn.scope) l.fn.walk)
    × (found l.scope ≡ found l.fn.scope)
    × (hidden_in l.scope ≡ hidden_in l.fn.scope)
