use Rattle.std.proofs.Common.{◌≡◌, ◌≤◌, drop, map, length}
use Rattle.v_meaning.specs.Values.{meaning, joined_width}
use Rattle.v_eval.specs.Limits.{limits, joined_wide}
use Rattle.v_eval.specs.Scopes.{scope_of}
use Rattle.v_eval.proofs.widths.+own.Given as goal

abbrev pub invariant-joined_own-loop-i : goal.invariant-joined_own-loop-i
invariant-joined_own-loop-i l = record {
  within : l.i ≤ length l.items;
  meaning : l.bits ≡ joined_width (map meaning (drop l.i l.items)) (scope_of l.scope);
  limits : l.bits ≡ joined_wide (map limits (drop l.i l.items)) (scope_of l.scope);
}

abbrev pub decreases-joined_own-loop-i : goal.decreases-joined_own-loop-i
decreases-joined_own-loop-i l = l.i
