use Rattle.package_scope.proofs.Remaining.{part-within}
use Rattle.package_scope.proofs.rests.behind.Goals as goal

pub returns : goal.returns
returns c =
    part-within c.args.list.now c.args.number c.args.end c.min-end.result c.min-start.result c.min-end.ensures c.min-start.ensures
