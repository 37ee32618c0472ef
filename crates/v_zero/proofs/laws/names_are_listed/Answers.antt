use Rattle.v_zero.proofs.Listing.{names-listed}
use Rattle.v_zero.proofs.laws.names_are_listed.Goals as goal

pub returns : goal.returns
returns c = names-listed
