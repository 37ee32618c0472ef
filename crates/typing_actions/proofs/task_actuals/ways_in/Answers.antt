use Rattle.std.proofs.Common.{ap, ◌∙◌}
use Rattle.std.proofs.lemmas.List.{take_all}
use Rattle.typing_actions.specs.TaskActuals.{ways_of}
use Rattle.typing_actions.proofs.Ways.{one-way}
use Rattle.typing_actions.proofs.task_actuals.ways_in.Goals as goal

pub loop-formal-preserved : goal.loop-formal-preserved
loop-formal-preserved c =
    one-way c.args.formals.now c.loop-formal.formal-index c.formal-item.result c.loop-formal.ways.items c.push.new.self.items c.loop-formal-test.true c.formal-item.is c.in_ok-push.ensures.items c.loop-formal.invariant

pub returns : goal.returns
returns c = c.loop-formal.invariant ∙ ap ways_of (take_all c.loop-formal.formal-index c.args.formals.now c.loop-formal-test.false)
