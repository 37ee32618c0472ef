use Rattle.std.proofs.Common.{arith}
use Rattle.v_meaning.specs.Values.{meaning}
use Rattle.path_flatten.proofs.Losing.{reads-none}
use Rattle.path_flatten.proofs.Selecting.{reads-partly}
use Rattle.path_flatten.proofs.readings.all_bits.Goals as goal

pub returns-then-high-low-clause-reads : goal.returns-then-high-low-clause-reads
returns-then-high-low-clause-reads c = reads-none c.args.reading c.args.n c.args.helpers.now (meaning c.in_ok-none.none) (omega arith) c.in_ok-none.ensures.cuts

pub returns-clause-reads : goal.returns-clause-reads
returns-clause-reads c =
    reads-partly c.args.reading c.args.n c.cut.new.helpers c.partly.new.helpers (meaning c.in_ok-there.there) (meaning c.in_ok-made.made) (omega arith) c.in_ok-made.ensures.grows
    c.in_ok-there.ensures.cuts c.in_ok-made.ensures.reads
