use Rattle.std.proofs.Common.{◌≡◌}
use Rattle.call_circles.specs.Rounds as rounds
use Rattle.call_circles.proofs.slow.leads_to.Given as goal

abbrev pub invariant-loop-turn : goal.invariant-loop-turn
invariant-loop-turn l = l.found ≡ rounds.rounds l.calls l.turn l.goal
