use Rattle.bit_sets.proofs.Halves.{if-ok}
use Rattle.v_drives.proofs.Tallies as T
use Rattle.v_drives.proofs.sets.marks_at.Goals as goal

pub returns : goal.returns
returns c =
    if-ok
    (λ marks is us are. T.marked c.args.set.now us c.args.row.now.widths c.args.signal c.start_of.result c.width_of.result marks c.requires.signal c.start_of.ensures c.width_of.ensures is are)
    c.marks_of.result c.marks_of.ensures
