use Rattle.std.proofs.Common.{drop}
use Rattle.process_cases.proofs.Parts.{EachStands}
use Rattle.process_cases.proofs.fits.links_stand.Given as goal

abbrev pub invariant-loop-k : goal.invariant-loop-k
invariant-loop-k l = EachStands l.design (drop l.k l.design.processes) → EachStands l.design l.design.processes
