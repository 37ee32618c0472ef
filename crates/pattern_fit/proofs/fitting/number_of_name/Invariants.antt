use Rattle.std.proofs.Common.{◌≡◌, drop}
use Rattle.pattern_fit.specs.Fits.{named}
use Rattle.pattern_fit.proofs.fitting.number_of_name.Given as goal

abbrev pub invariant-loop-n : goal.invariant-loop-n
invariant-loop-n l = named l.n (drop l.n l.members) l.name ≡ named 0 l.members l.name
