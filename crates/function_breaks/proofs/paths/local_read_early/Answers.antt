use Rattle.std.proofs.Common.{subst}
use Rattle.least_breaks.specs.Least.{IsLeastToken}
use Rattle.function_breaks.proofs.Tokens.{local-law}
use Rattle.function_breaks.proofs.paths.local_read_early.Goals as goal

pub returns : goal.returns
returns c = local-law c.args.found.now c.least_of.result (subst (λ ts. IsLeastToken ts c.least_of.result) c.as_slice.ensures c.least_of.ensures)
