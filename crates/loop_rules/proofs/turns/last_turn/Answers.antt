use Rattle.std.proofs.Common.{subst}
use Rattle.expr_flows.specs.Known.{sight_in}
use Rattle.bound_values.specs.declared.bounds.Test.{Test}
use Rattle.loop_rules.specs.Turns.{TestGoesAs}
use Rattle.loop_rules.proofs.Stepping as K
use Rattle.loop_rules.proofs.turns.last_turn.Goals as goal

pub returns-in-Long : goal.returns-in-Long
returns-in-Long c =
    let k = c.args.known in
    let h = sight_in k.functions.now c.args.locals.now k.variables.now in
    K.last-long c.args.control c.args.at h c.in-Long.long (subst (λ (t : Test). TestGoesAs t c.args.control h) c.in-Long.is c.in_ok-long.ensures)
