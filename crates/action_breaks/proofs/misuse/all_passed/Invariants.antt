use Rattle.std.proofs.Common.{◌≡◌, ◌-◌, length, drop}
use Rattle.action_breaks.specs.Misuse.{all_passed}
use Rattle.action_breaks.proofs.misuse.all_passed.Given as goal

abbrev pub invariant-loop-k : goal.invariant-loop-k
invariant-loop-k l = all_passed (drop l.k l.formals) (drop l.k l.actuals) l.misuse ≡ all_passed l.formals l.actuals l.fn.so_far

abbrev pub decreases-loop-k : goal.decreases-loop-k
decreases-loop-k l = length l.formals - l.k
