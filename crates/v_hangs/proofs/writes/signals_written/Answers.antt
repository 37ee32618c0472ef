use Rattle.std.proofs.Common.{◌∙◌}
use Rattle.v_hangs.proofs.Listing.{if-listed, lists-written}
use Rattle.v_hangs.proofs.writes.signals_written.Goals as goal

pub returns-clause-listed : goal.returns-clause-listed
returns-clause-listed c = if-listed (λ ns h. lists-written c.as_slice.result.now ns c.args.writes.now (c.as_slice.ensures ∙ c.in_ok-numbers.ensures) h) c.signals_once.result c.signals_once.ensures.listed
