use Rattle.std.proofs.Common.{sym, subst}
use Rattle.eval_runs.specs.Functions.{AllCanRun}
use Rattle.const_eval_tests.proofs.functions.no_functions.Goals as goal

pub returns : goal.returns
returns c = subst AllCanRun (sym c.new.ensures) tt
