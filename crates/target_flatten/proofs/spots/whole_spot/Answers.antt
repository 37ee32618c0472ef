use Rattle.target_flatten.proofs.Naming.{nothing-known}
use Rattle.target_flatten.proofs.Stands.{whole-stands}
use Rattle.target_flatten.proofs.spots.whole_spot.Goals as goal

pub returns-clause-stands : goal.returns-clause-stands
returns-clause-stands c = whole-stands

pub returns-clause-names : goal.returns-clause-names
returns-clause-names c = nothing-known 0
