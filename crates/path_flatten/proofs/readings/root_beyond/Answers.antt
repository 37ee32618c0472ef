use Rattle.v_meaning.specs.Values.{meaning}
use Rattle.path_flatten.proofs.Naming.{root-of-name, root-of-value, lost-of}
use Rattle.path_flatten.proofs.Losing.{root-beyond, lost-beyond}
use Rattle.path_flatten.proofs.readings.root_beyond.Goals as goal

pub returns-in_ok-made-in-Name-clause-cuts : goal.returns-in_ok-made-in-Name-clause-cuts
returns-in_ok-made-in-Name-clause-cuts c = root-beyond c.args.root c.in-Name.of c.args.width 1 (meaning c.in_ok-made-in-Name.made) c.in-Name.is c.in_ok-made-in-Name.ensures.cuts

pub returns-in_ok-made-in-Name-clause-names : goal.returns-in_ok-made-in-Name-clause-names
returns-in_ok-made-in-Name-clause-names c = root-of-name c.args.root c.in-Name.of (meaning c.in_ok-made-in-Name.made) c.in-Name.is c.in_ok-made-in-Name.ensures.names

pub returns-in_ok-made-in-Value-clause-cuts : goal.returns-in_ok-made-in-Value-clause-cuts
returns-in_ok-made-in-Value-clause-cuts c = lost-beyond c.args.root c.args.width (meaning c.in-Value.of) (meaning c.in_ok-made-in-Value.made) c.in_ok-made-in-Value.ensures

pub returns-in_ok-made-in-Value-clause-names : goal.returns-in_ok-made-in-Value-clause-names
returns-in_ok-made-in-Value-clause-names c =
    root-of-value c.args.root c.in-Value.of (meaning c.in_ok-made-in-Value.made) c.in-Value.is
    (lost-of (meaning c.in-Value.of) (meaning c.in_ok-made-in-Value.made) c.in_ok-made-in-Value.ensures)
