use Rattle.std.proofs.Common.{◌≡◌, max, drop}
use Rattle.run_fits.specs.Statements.{own_widths}
use Rattle.run_fits.proofs.expressions.widest.Given as goal

abbrev pub invariant-loop-e : goal.invariant-loop-e
invariant-loop-e l = max l.widest (own_widths (drop l.e-index l.es)) ≡ own_widths l.es
