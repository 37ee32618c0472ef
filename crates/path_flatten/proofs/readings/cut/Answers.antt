use Rattle.v_meaning.specs.Values.{meaning}
use Rattle.path_flatten.proofs.Naming.{root-of-name, root-of-value}
use Rattle.path_flatten.proofs.Selecting.{cuts-name, cuts-value}
use Rattle.path_flatten.proofs.readings.cut.Goals as goal

pub returns-in_ok-made-in-Name-clause-cuts : goal.returns-in_ok-made-in-Name-clause-cuts
returns-in_ok-made-in-Name-clause-cuts c =
    cuts-name c.args.root c.in-Name.of c.args.width c.args.low c.args.n c.args.helpers.now (meaning c.in_ok-made-in-Name.made) c.in-Name.is c.in_ok-made-in-Name.ensures.cuts

pub returns-in_ok-made-in-Name-clause-names : goal.returns-in_ok-made-in-Name-clause-names
returns-in_ok-made-in-Name-clause-names c = root-of-name c.args.root c.in-Name.of (meaning c.in_ok-made-in-Name.made) c.in-Name.is c.in_ok-made-in-Name.ensures.names

pub returns-in_ok-made-in-Value-clause-cuts : goal.returns-in_ok-made-in-Value-clause-cuts
returns-in_ok-made-in-Value-clause-cuts c =
    cuts-value c.args.root c.in-Value.of c.args.width c.args.low c.args.n c.cut_value.new.helpers (meaning c.in_ok-made-in-Value.made) c.in-Value.is c.in_ok-made-in-Value.ensures.cuts

pub returns-in_ok-made-in-Value-clause-names : goal.returns-in_ok-made-in-Value-clause-names
returns-in_ok-made-in-Value-clause-names c = root-of-value c.args.root c.in-Value.of (meaning c.in_ok-made-in-Value.made) c.in-Value.is c.in_ok-made-in-Value.ensures.names
