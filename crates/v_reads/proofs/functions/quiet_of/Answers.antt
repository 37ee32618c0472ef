use Rattle.v_reads.proofs.Sets.{if-ok}
use Rattle.v_reads.proofs.Silent.{quiet-right}
use Rattle.v_reads.proofs.functions.quiet_of.Goals as goal

pub returns : goal.returns
returns c = if-ok (λ quiet h. quiet-right c.args.scope c.args.functions.now quiet c.requires h) c.are_none.result c.are_none.ensures
