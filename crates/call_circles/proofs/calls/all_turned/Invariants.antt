use Rattle.std.proofs.Common.{◌≡◌, map, take}
use Rattle.call_circles.specs.Ways as ways
use Rattle.call_circles.proofs.calls.all_turned.Given as goal

abbrev pub invariant-loop-call : goal.invariant-loop-call
invariant-loop-call l = l.all ≡ map ways.turned (take l.call-index l.calls)
