use Rattle.std.proofs.Common.{drop}
use Rattle.process_cases.specs.Fits.{EachFits}
use Rattle.process_cases.proofs.fits.processes_fit.Given as goal

abbrev pub invariant-loop-process : goal.invariant-loop-process
invariant-loop-process l = EachFits (drop l.process-index l.processes) l.functions → EachFits l.processes l.functions
