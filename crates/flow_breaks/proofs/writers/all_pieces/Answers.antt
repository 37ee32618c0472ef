use Rattle.std.proofs.Common.{◌∙◌, ◌++◌, ◌+◌, ap, sym, drop, append_assoc}
use Rattle.flow_breaks.specs.Pieces.{pieces_of, pieces_from}
use Rattle.flow_breaks.proofs.Seconds.{pieces-step, pieces-end}
use Rattle.flow_breaks.proofs.writers.all_pieces.Goals as goal

pub loop-k-preserved : goal.loop-k-preserved
loop-k-preserved c =
    let ps = c.args.processes.now in
    let fs = c.args.found.now in
    let k = c.loop-k.k in
    let old = c.loop-k.all.items in
    let new = pieces_of k c.index-processes-k.result c.index-found-k.result in
    let rest = pieces_from (k + 1) (drop (k + 1) ps) (drop (k + 1) fs) in
    ap (λ xs. xs ++ rest) c.in_ok-add_process.ensures
    ∙ append_assoc old new rest
    ∙ ap (λ xs. old ++ xs) (pieces-step ps fs k c.index-processes-k.result c.index-found-k.result c.loop-k-test.true c.requires.count c.index-processes-k.is c.index-found-k.is)
    ∙ c.loop-k.invariant

pub returns : goal.returns
returns c = sym (pieces-end c.args.processes.now c.args.found.now c.loop-k.k c.loop-k.all.items c.loop-k-test.false) ∙ c.loop-k.invariant
