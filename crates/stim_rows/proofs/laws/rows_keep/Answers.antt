use Rattle.stim_rows.proofs.Unique.{rows_keep_form}
use Rattle.stim_rows.proofs.laws.rows_keep.Goals as goal

pub returns : goal.returns
returns c = rows_keep_form
