use Rattle.std.proofs.Common.{◌≡◌, ◌+◌, ◌++◌, drop, map}
use Rattle.v_meaning.specs.Statements.{declared}
use Rattle.v_eval.specs.Names.{local_named}
use Rattle.v_run.proofs.locals.own_locals.Given as goal

abbrev pub invariant-loop-i : goal.invariant-loop-i
invariant-loop-i l = map local_named l.made ++ declared (l.next + l.i) (drop l.i l.locals) ≡ declared l.next l.fn.locals
