use Rattle.std.proofs.Common.{◌<◌, length, sym, ap, ◌∙◌, subst, slice_index_or}
use Rattle.round_runner.specs.Rows.{with_vectors}
use Rattle.round_runner.proofs.Inputs.{row_is_put, all_there, long_row}
use Rattle.round_runner.proofs.step.put_row.Goals as goal

pub put_vectors-requires-clause-long : goal.put_vectors-requires-clause-long
put_vectors-requires-clause-long g c =
    long_row (g.P.Processes.shape c.args.machine.now) (g.P.Processes.inputs c.args.machine.now) c.args.row.now c.requires.row ∙ sym (ap length c.inputs.ensures.same)

pub put_vectors-requires-clause-there : goal.put_vectors-requires-clause-there
put_vectors-requires-clause-there g c =
    let d = g.P.Processes.machine c.args.machine.now in
    λ k e. subst (λ ns. k < length ns → slice_index_or ns k e < length c.args.to.now) (sym c.inputs.ensures.same)
    (all_there d (g.P.Processes.shape c.args.machine.now) (g.P.Processes.inputs c.args.machine.now) c.args.to.now c.requires.to c.inputs.ensures.whole k e)

pub returns : goal.returns
returns g c =
    row_is_put (g.P.Processes.machine c.args.machine.now) (g.P.Processes.shape c.args.machine.now) (g.P.Processes.inputs c.args.machine.now) c.args.row.now c.args.to.now c.put_vectors.new.to
    c.requires.to c.inputs.ensures.whole c.requires.row
    (c.in_ok-put_vectors.ensures ∙ ap (λ ns. with_vectors ns c.args.row.now c.args.to.now) c.inputs.ensures.same)
