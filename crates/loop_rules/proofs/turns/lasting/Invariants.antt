use Rattle.expr_flows.specs.Known.{sight, sight_in}
use Rattle.design_breaks.specs.Unrolling as U
use Rattle.loop_rules.specs.Counted.{control_at}
use Rattle.loop_rules.proofs.Ending.{TurnsLeft}
use Rattle.loop_rules.proofs.turns.lasting.Given as goal

abbrev pub invariant-loop-turn : goal.invariant-loop-turn
invariant-loop-turn l =
    let c = control_at l.at l.control in
    TurnsLeft l._turn c (sight_in l.known.functions.now l.locals.items l.known.variables.now) (U.lasting 65536 c (sight l.known))
