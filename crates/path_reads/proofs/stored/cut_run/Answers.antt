use Rattle.std.proofs.Common.{ap}
use Rattle.v_meaning.specs.Values.{meaning}
use Rattle.path_reads.proofs.Running.{cuts-by, like-by-root}
use Rattle.path_reads.proofs.stored.cut_run.Goals as goal

pub returns-clause-cuts : goal.returns-clause-cuts
returns-clause-cuts c =
    let run = c.args.run in
    cuts-by c.in_ok-copy.copy (meaning c.args.of.now) (meaning c.in_ok-made.made) run.all run.low run.bits c.part_reading-reading.result c.all_bits.new.helpers c.part_reading-reading.ensures.root
    (ap meaning c.in_ok-copy.ensures) c.part_reading-reading.ensures.width c.part_reading-reading.ensures.window c.requires.narrow c.in_ok-made.ensures.reads

pub returns-clause-names : goal.returns-clause-names
returns-clause-names c =
    like-by-root c.in_ok-copy.copy (meaning c.args.of.now) (meaning c.in_ok-made.made) c.part_reading-reading.result c.part_reading-reading.ensures.root (ap meaning c.in_ok-copy.ensures) c.in_ok-made.ensures.names
