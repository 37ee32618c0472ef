use Rattle.std.proofs.Common.{◌≡◌, ◌++◌, drop}
use Rattle.function_breaks.specs.Owed as spec
use Rattle.function_breaks.proofs.results.outputs.Given as goal

abbrev pub invariant-loop-p : goal.invariant-loop-p
invariant-loop-p l = l.uses ++ spec.formal_uses (drop l.p-index l.formals) ≡ spec.formal_uses l.formals
