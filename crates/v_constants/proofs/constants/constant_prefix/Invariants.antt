use Rattle.std.proofs.Common.{◌≡◌, ◌≤◌, ◌++◌, ◌-◌, take, drop, length}
use Rattle.v_eval.specs.Scopes.{scope_of}
use Rattle.v_constants.specs.Constants.{leading}
use Rattle.v_constants.proofs.constants.constant_prefix.Given as goal

abbrev pub invariant-loop-k : goal.invariant-loop-k
invariant-loop-k l = record {
  short : l.k ≤ length l.fn.sels;
  found : take l.k l.fn.sels ++ leading (scope_of l.fn.scope) (drop l.k l.fn.sels) ≡ leading (scope_of l.fn.scope) l.fn.sels;
}

abbrev pub decreases-loop-k : goal.decreases-loop-k
decreases-loop-k l = length l.fn.sels - l.k
