use Rattle.std.proofs.Common.{ap, ◌∙◌}
use Rattle.memory_breaks.specs.Processes.{none_written, all_written}
use Rattle.memory_breaks.proofs.Least.{are-marked}
use Rattle.memory_breaks.proofs.wide.least_by.Goals as goal

pub least_wide-requires-clause-marked : goal.least_wide-requires-clause-marked
least_wide-requires-clause-marked c =
    let d = c.args.design.now in
    are-marked d c.args.found.now c.requires.few c.requires.found c.args.whole.now c.args.unsettled.now c.in_ok-written.written c.requires.whole c.requires.unsettled
    (c.in_ok-written.ensures ∙ ap (λ ps. all_written ps c.args.found.now (none_written c.len-signals.result)) c.as_slice.ensures ∙ ap (λ n. all_written d.processes c.args.found.now (none_written n)) c.len-signals.ensures)
