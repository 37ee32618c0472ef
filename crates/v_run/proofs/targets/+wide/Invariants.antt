use Rattle.std.proofs.Common.{◌≡◌, ◌≤◌, drop, map, length}
use Rattle.v_meaning.specs.Statements.{target, parts_width}
use Rattle.v_eval.specs.Scopes.{scope_of}
use Rattle.v_run.proofs.targets.+wide.Given as goal

abbrev pub invariant-parts_wide-loop-i : goal.invariant-parts_wide-loop-i
invariant-parts_wide-loop-i l = record { within : l.i ≤ length l.parts; bits : l.bits ≡ parts_width (map target (drop l.i l.parts)) (scope_of l.scope) }

abbrev pub decreases-parts_wide-loop-i : goal.decreases-parts_wide-loop-i
decreases-parts_wide-loop-i l = l.i
