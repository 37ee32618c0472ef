use Rattle.std.proofs.Common.{ap, ◌∙◌, subst}
use Rattle.round_runner.specs.Plans.{Taken, Picked, under}
use Rattle.round_runner.proofs.Groups.{remade_one}
use Rattle.round_runner.proofs.remake.remake.Goals as goal

pub returns : goal.returns
returns g c =
    let d = g.P.Processes.machine c.args.machine.now in
    let plan = c.args.plan.now in
    let n = c.args.group in
    remade_one d plan c.args.started.now c.args.base.now c.args.held.now c.args.to.now c.take_vectors.new.to c.put_picked.new.to n c.requires.plan c.requires.group
    (subst (λ ns. Taken ns c.args.base.now c.args.to.now c.take_vectors.new.to) (c.list_under.ensures ∙ ap (λ ls. under ls n) c.as_slice.ensures) c.in_ok-take_vectors.ensures)
    (subst (λ ns. Picked d c.args.started.now ns c.args.held.now c.take_vectors.new.to c.put_picked.new.to) (c.list_under-2.ensures ∙ ap (λ ls. under ls n) c.as_slice-2.ensures) c.in_ok-put_picked.ensures)
