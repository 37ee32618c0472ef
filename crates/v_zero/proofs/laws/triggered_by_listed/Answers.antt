use Rattle.v_zero.proofs.Listing.{triggered-listed}
use Rattle.v_zero.proofs.laws.triggered_by_listed.Goals as goal

pub returns : goal.returns
returns c = triggered-listed
