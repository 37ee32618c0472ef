use Rattle.loop_rules.proofs.check.break_by.Goals as goal
use Rattle.eval_forms.specs.Callees.{formals_in}
use Rattle.loop_rules.proofs.Fitting.{functions-fit}

-- src/check.rt:67:5
pub check_processes-requires-clause-fit : goal.check_processes-requires-clause-fit
check_processes-requires-clause-fit c =
    let fs = c.args.design.now.functions in
    functions-fit fs (formals_in fs) c.requires.fits.functions
