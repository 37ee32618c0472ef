use Rattle.std.proofs.Common.{ap}
use Rattle.v_meaning.specs.Values.{meaning}
use Rattle.path_flatten.proofs.NamingSlides.{like-zero}
use Rattle.target_flatten.proofs.Naming.{copy-named}
use Rattle.target_flatten.proofs.Ranking.{signed-number, unsigned-number}
use Rattle.target_flatten.proofs.indices.number_of.Goals as goal

pub returns-in_ok-copy-clause-number : goal.returns-in_ok-copy-clause-number
returns-in_ok-copy-clause-number c = signed-number c.args.index.now (meaning c.in_ok-copy.copy) c.if-index.true (ap meaning c.in_ok-copy.ensures)

pub returns-in_ok-made-clause-number : goal.returns-in_ok-made-clause-number
returns-in_ok-made-clause-number c = unsigned-number c.args.index.now (meaning c.in_ok-made.made) c.if-index.false c.in_ok-made.ensures

pub returns-in_ok-copy-clause-names : goal.returns-in_ok-copy-clause-names
returns-in_ok-copy-clause-names c = copy-named c.in_ok-copy.copy c.args.index.now.expr c.in_ok-copy.ensures

pub returns-in_ok-made-clause-names : goal.returns-in_ok-made-clause-names
returns-in_ok-made-clause-names c = like-zero (meaning c.args.index.now.expr) (meaning c.in_ok-made.made) c.in_ok-made.ensures
