use Rattle.std.proofs.Common.{drop}
use Rattle.process_cases.specs.Fits.{EachBodyFits}
use Rattle.process_cases.proofs.fits.functions_fit.Given as goal

abbrev pub invariant-loop-function : goal.invariant-loop-function
invariant-loop-function l = EachBodyFits (drop l.function-index l.callees) l.functions → EachBodyFits l.callees l.functions
