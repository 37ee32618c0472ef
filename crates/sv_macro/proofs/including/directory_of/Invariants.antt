use Rattle.std.proofs.Common.{◌≡◌, length}
use Rattle.sv_macro.specs.Including.{directory_of}
use Rattle.sv_macro.proofs.including.directory_of.Given as goal

abbrev pub invariant-loop-directory : goal.invariant-loop-directory
invariant-loop-directory l = directory_of l.directory ≡ directory_of l.path

abbrev pub decreases-loop-directory : goal.decreases-loop-directory
decreases-loop-directory l = length l.directory
