use Rattle.std.proofs.Common.{arith}
use Rattle.target_flatten.proofs.Naming.{on-nowhere}
use Rattle.target_flatten.proofs.Stands.{narrow-none, narrow-inside}
use Rattle.target_flatten.proofs.spots.narrowed.Goals as goal

pub returns-then-inner-clause-stands : goal.returns-then-inner-clause-stands
returns-then-inner-clause-stands c = narrow-none c.args.spot c.args.inner (omega arith)

pub returns-clause-stands : goal.returns-clause-stands
returns-clause-stands c = narrow-inside c.args.spot c.inside.result c.args.inner (omega arith) c.inside.ensures.stands

pub returns-then-inner-clause-names : goal.returns-then-inner-clause-names
returns-then-inner-clause-names c = on-nowhere c.args.spot

pub returns-clause-names : goal.returns-clause-names
returns-clause-names c = c.inside.ensures.names

pub returns-clause-steady : goal.returns-clause-steady
returns-clause-steady c = c.inside.ensures.steady
