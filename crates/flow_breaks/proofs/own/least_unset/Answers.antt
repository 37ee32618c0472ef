use Rattle.std.proofs.Common.{subst}
use Rattle.least_breaks.specs.Least.{IsLeastToken}
use Rattle.flow_breaks.proofs.Tokens.{unset-law}
use Rattle.flow_breaks.proofs.own.least_unset.Goals as goal

pub returns : goal.returns
returns c = unset-law c.args.found.now c.least_of.result (subst (λ ts. IsLeastToken ts c.least_of.result) c.as_slice.ensures c.least_of.ensures)
