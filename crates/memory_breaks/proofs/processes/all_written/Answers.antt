use Rattle.std.proofs.Common.{◌∙◌, ◌+◌, ap, sym, drop}
use Rattle.memory_breaks.specs.Processes.{all_written}
use Rattle.memory_breaks.proofs.Walking.{written-step, written-end}
use Rattle.memory_breaks.proofs.processes.all_written.Goals as goal

pub loop-k-preserved : goal.loop-k-preserved
loop-k-preserved c =
    let ps = c.args.processes.now in
    let fs = c.args.found.now in
    let k = c.loop-k.k in
    ap (all_written (drop (k + 1) ps) (drop (k + 1) fs)) c.mark_written.ensures
    ∙ written-step ps fs k c.index-processes-k.result c.index-found-k.result c.loop-k.written c.loop-k-test.true c.requires.count c.index-processes-k.is c.index-found-k.is
    ∙ c.loop-k.invariant

pub returns : goal.returns
returns c = sym (written-end c.args.processes.now c.args.found.now c.loop-k.k c.loop-k.written c.loop-k-test.false) ∙ c.loop-k.invariant
