use Rattle.std.proofs.Common.{◌≡◌, ◌++◌, drop, map}
use Rattle.v_eval.specs.Names.{local_named}
use Rattle.v_run.proofs.locals.copies.Given as goal

abbrev pub invariant-loop-local : goal.invariant-loop-local
invariant-loop-local l = map local_named l.to ++ map local_named (drop l.local-index l.locals) ≡ map local_named l.fn.to ++ map local_named l.fn.locals
