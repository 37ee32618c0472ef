use Rattle.std.proofs.Common.{◌<◌, length, slice_index_or, refl, arith, ◌∙◌}
use Rattle.round_runner.proofs.Compared.{read, same_size}
use Rattle.round_runner.proofs.Picking.{taken_more}
use Rattle.round_runner.proofs.remake.take_vectors.Goals as goal

pub loop-n-preserved : goal.loop-n-preserved
loop-n-preserved c =
    let ns = c.args.signals.now in
    let i = c.loop-n.n-index in
    let n = slice_index_or ns i 0 in
    let room : i < length ns = omega arith in
    let there : n < length c.args.to.now = c.requires.there i 0 room in
    let in_from : n < length c.args.from.now = omega (arith, same_size c.args.from.now c.args.to.now c.requires.shape) in
    taken_more ns c.args.from.now c.args.to.now c.loop-n.to c.in_ok-vector.vector i n room refl (omega arith) c.requires.shape
    (c.in_ok-vector.ensures ∙ read c.args.from.now n c.index-from-n.result in_from c.index-from-n.is)
    c.loop-n.invariant
