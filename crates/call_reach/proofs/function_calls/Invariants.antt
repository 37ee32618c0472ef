use Rattle.std.proofs.Common.{◌≡◌, ◌++◌, drop, map}
use Rattle.call_reach.specs.Called as spec
use Rattle.call_reach.proofs.function_calls.Given as goal

abbrev pub invariant-loop-f : goal.invariant-loop-f
invariant-loop-f l = l.all.items ++ map spec.function_calls (drop l.f-index l.functions) ≡ map spec.function_calls l.functions
