use Rattle.stim_rows.proofs.Unique.{one_reading_alone}
use Rattle.stim_rows.proofs.laws.one_reading.Goals as goal

pub returns : goal.returns
returns c = one_reading_alone
