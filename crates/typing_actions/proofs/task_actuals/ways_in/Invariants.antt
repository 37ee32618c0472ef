use Rattle.std.proofs.Common.{◌≡◌, take}
use Rattle.typing_actions.specs.TaskActuals.{ways_of}
use Rattle.typing_actions.proofs.task_actuals.ways_in.Given as goal

abbrev pub invariant-loop-formal : goal.invariant-loop-formal
invariant-loop-formal l = l.ways.items ≡ ways_of (take l.formal-index l.formals)
