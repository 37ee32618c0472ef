use Rattle.round_runner.proofs.Built.{labelled}
use Rattle.round_runner.proofs.grouping.label.Goals as goal

pub returns-then-all_in_group : goal.returns-then-all_in_group
returns-then-all_in_group g c =
    labelled (g.P.Processes.machine c.args.machine.now) c.args.places.now c.in_ok-signals.signals.now c.args.i c.first_group-group.result c.in_ok-signals.ensures
    (c.all_in_group.ensures c.if-all_in_group.true) c.if-group-places.true
