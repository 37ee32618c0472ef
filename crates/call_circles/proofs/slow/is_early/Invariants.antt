use Rattle.std.proofs.Common.{◌≡◌, drop}
use Rattle.std.specs.List.{list_any}
use Rattle.call_circles.specs.Calls as means
use Rattle.call_circles.proofs.slow.is_early.Given as goal

abbrev pub invariant-loop-need : goal.invariant-loop-need
invariant-loop-need l = list_any (means.is_early l.calls l.call) (drop l.need-index l.needs) ≡ list_any (means.is_early l.calls l.call) l.needs
