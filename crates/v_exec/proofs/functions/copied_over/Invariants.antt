use Rattle.std.proofs.Common.{◌≡◌, ◌++◌, drop}
use Rattle.v_exec.proofs.functions.copied_over.Given as goal

abbrev pub invariant-loop-slot : goal.invariant-loop-slot
invariant-loop-slot l = l.made.items ++ drop l.slot-index l.over ≡ l.fn.over
