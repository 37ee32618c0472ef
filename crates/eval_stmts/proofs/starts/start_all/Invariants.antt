use Rattle.std.proofs.Common.{List, ◌++◌, drop}
use Rattle.sv_types.specs.Efforts.{Step}
use Rattle.sv_types.specs.Statements.{starts}
use Rattle.eval_exprs.specs.Held.{formals}
use Rattle.eval_stmts.specs.Limits.{AllLocalsFit}
use Rattle.eval_stmts.specs.Stepping.{Resumes, in_turn}
use Rattle.eval_stmts.proofs.starts.start_all.Given as goal

abbrev pub invariant-loop-local : goal.invariant-loop-local
invariant-loop-local g l =
    let ls = drop l.local-index l.locals in
    record {
      fits : AllLocalsFit ls (formals l.scope);
      left : (rest : List Step) → Resumes l.scope (in_turn (starts ls ++ rest)) (in_turn (starts l.locals ++ rest)) l.initial.env l.env;
    }
