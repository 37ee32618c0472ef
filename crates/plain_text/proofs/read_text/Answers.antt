use Rattle.plain_text.proofs.Reading.{is-read}
use Rattle.plain_text.proofs.read_text.Goals as goal

pub returns : goal.returns
returns c = is-read _ _ c.in_ok-ended.ensures.ends c.read_source.ensures
