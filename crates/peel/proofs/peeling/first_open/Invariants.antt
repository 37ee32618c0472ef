use Rattle.peel.specs.Steps.{NoneOpen}
use Rattle.peel.proofs.peeling.first_open.Given as goal

abbrev pub invariant-loop-k : goal.invariant-loop-k
invariant-loop-k l = NoneOpen l.marks l.list l.k
