use Rattle.eval_forms.specs.Callees.{formals_in}
use Rattle.eval_parts.specs.Steps.{is_held}
use Rattle.stmt_flows_tests.proofs.Holding.{anywhere}
use Rattle.stmt_flows_tests.proofs.limits.fits_anywhere.Goals as goal

pub returns : goal.returns
returns c = anywhere c.args.s.now (formals_in c.args.functions.now) (is_held c.args.held.now) (c.if-not-stmt_fits.ensures)
