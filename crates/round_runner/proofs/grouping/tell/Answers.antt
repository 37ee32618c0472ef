use Rattle.std.proofs.Common.{◌<◌, length, slice_index_or, refl, arith}
use Rattle.round_runner.proofs.Built.{tells_more}
use Rattle.round_runner.proofs.grouping.tell.Goals as goal

pub loop-n-preserved : goal.loop-n-preserved
loop-n-preserved c =
    let ns = c.args.signals.now in
    let i = c.loop-n.n-index in
    let room : i < length ns = omega arith in
    tells_more ns c.args.group c.args.readers.now c.loop-n.readers c.add.new.lists i (slice_index_or ns i 0) room refl c.if-n-readers.false c.in_ok-add.ensures c.loop-n.invariant
