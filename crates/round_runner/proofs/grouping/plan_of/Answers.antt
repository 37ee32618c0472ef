use Rattle.std.proofs.Common.{length, subst, arith, IfSome, ◌≤◌}
use Rattle.round_runner.specs.Plans.{ArePlaces, Listed, Built}
use Rattle.round_runner.proofs.Built.{plan_is}
use Rattle.round_runner.proofs.grouping.plan_of.Goals as goal

pub returns : goal.returns
returns g c =
    let d = g.P.Processes.machine c.args.machine.now in
    let all : length d.combs ≤ length d.combs = omega arith in
    let lists = c.in-Some-2.lists in
    plan_is d (record { places = c.in-Some.places; signals = c.in_ok-signals.signals; processes = lists.processes; readers = lists.readers }) c.args.size (length d.combs)
    (subst (λ o. IfSome o (ArePlaces c.args.size)) c.in-Some.is c.in_ok-places.ensures)
    (subst (λ ps. Listed ps c.in_ok-signals.signals (length ps)) c.as_slice.ensures c.in_ok-signals.ensures)
    all
    (subst (λ ps. Built d ps lists.processes lists.readers (length d.combs)) c.as_slice-2.ensures
    (subst (λ o. IfSome o (λ ls. Built d c.as_slice-2.result.now ls.processes ls.readers (length d.combs))) c.in-Some-2.is c.in_ok-lists.ensures))
