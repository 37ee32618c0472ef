use Rattle.std.proofs.Common.{◌≡◌, ◌++◌, drop}
use Rattle.v_exec.proofs.functions.copied_locals.Given as goal

abbrev pub invariant-loop-v : goal.invariant-loop-v
invariant-loop-v l = l.made.items ++ drop l.v-index l.locals ≡ l.fn.locals
