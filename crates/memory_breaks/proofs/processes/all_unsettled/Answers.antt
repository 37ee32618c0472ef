use Rattle.std.proofs.Common.{◌∙◌, ◌+◌, ap, sym, drop}
use Rattle.memory_breaks.specs.Processes.{all_unsettled}
use Rattle.memory_breaks.proofs.Walking.{unsettled-step, unsettled-end}
use Rattle.memory_breaks.proofs.processes.all_unsettled.Goals as goal

pub loop-k-preserved : goal.loop-k-preserved
loop-k-preserved c =
    let fns = c.args.functions.now in
    let ps = c.args.processes.now in
    let fs = c.args.found.now in
    let k = c.loop-k.k in
    ap (all_unsettled fns (drop (k + 1) ps) (drop (k + 1) fs)) c.mark_unsettled.ensures
    ∙ unsettled-step ps fs k fns c.index-processes-k.result c.index-found-k.result c.loop-k.marks c.loop-k-test.true c.requires.count c.index-processes-k.is c.index-found-k.is
    ∙ c.loop-k.invariant

pub returns : goal.returns
returns c = sym (unsettled-end c.args.processes.now c.args.found.now c.loop-k.k c.args.functions.now c.loop-k.marks c.loop-k-test.false) ∙ c.loop-k.invariant
