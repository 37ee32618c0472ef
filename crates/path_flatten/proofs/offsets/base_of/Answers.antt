use Rattle.std.proofs.Common.{refl}
use Rattle.v_meaning.specs.Values.{meaning}
use Rattle.path_flatten.proofs.Beginning.{plain-base, sum-base}
use Rattle.path_flatten.proofs.Naming.{like-itself}
use Rattle.path_flatten.proofs.NamingSlides.{index-offset, sum-offset}
use Rattle.path_flatten.proofs.offsets.base_of.Goals as goal

pub returns-in-Index-clause-base : goal.returns-in-Index-clause-base
returns-in-Index-clause-base c = plain-base c.in-Index.index c.args.offset (meaning c.in-Index.index.expr) c.in-Index.is refl

pub returns-in-Index-clause-names : goal.returns-in-Index-clause-names
returns-in-Index-clause-names c = index-offset c.in-Index.index c.args.offset (meaning c.in-Index.index.expr) c.in-Index.is (like-itself (meaning c.in-Index.index.expr))

pub returns-in-Sum-clause-base : goal.returns-in-Sum-clause-base
returns-in-Sum-clause-base c = sum-base c.in-Sum.expr c.in-Sum._bits c.args.offset (meaning c.in-Sum.expr) c.in-Sum.is refl

pub returns-in-Sum-clause-names : goal.returns-in-Sum-clause-names
returns-in-Sum-clause-names c = sum-offset c.in-Sum.expr c.in-Sum._bits c.args.offset (meaning c.in-Sum.expr) c.in-Sum.is refl
