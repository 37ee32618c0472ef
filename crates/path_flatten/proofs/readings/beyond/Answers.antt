use Rattle.v_meaning.specs.Values.{meaning}
use Rattle.path_flatten.proofs.Naming.{root-like, times-of}
use Rattle.path_flatten.proofs.Losing.{times-beyond}
use Rattle.path_flatten.proofs.readings.beyond.Goals as goal

pub returns-clause-cuts : goal.returns-clause-cuts
returns-clause-cuts c = times-beyond c.args.root c.args.width c.args.n (meaning c.in_ok-bit.bit) (meaning c.in_ok-made.made) c.in_ok-bit.ensures.cuts c.in_ok-made.ensures

pub returns-clause-names : goal.returns-clause-names
returns-clause-names c =
    root-like c.args.root (meaning c.in_ok-bit.bit) (meaning c.in_ok-made.made) c.in_ok-bit.ensures.names (times-of c.args.n (meaning c.in_ok-bit.bit) (meaning c.in_ok-made.made) c.in_ok-made.ensures)
