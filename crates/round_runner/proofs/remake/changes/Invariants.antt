use Rattle.std.proofs.Common.{take}
use Rattle.round_runner.specs.Plans.{AreChanges}
use Rattle.round_runner.proofs.remake.changes.Given as goal

abbrev pub invariant-loop-group : goal.invariant-loop-group
invariant-loop-group l = AreChanges l.plan (take l.group-index l.groups) l.old l.new l.changed
