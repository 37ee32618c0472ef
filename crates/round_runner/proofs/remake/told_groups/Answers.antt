use Rattle.std.proofs.Common.{arith, subst}
use Rattle.round_runner.specs.Plans.{SameNumbers}
use Rattle.round_runner.proofs.Telling.{told_once}
use Rattle.round_runner.proofs.remake.told_groups.Goals as goal

pub returns : goal.returns
returns c =
    told_once c.args.plan.now c.args.changed.now c.loop-n.all.items c.sort.new.self.items c.in_ok-groups.groups c.loop-n.n-index (omega arith) c.loop-n.invariant c.sort.ensures.permutation
    (subst (λ ns. SameNumbers ns c.in_ok-groups.groups) c.deref.ensures.value c.in_ok-groups.ensures)
