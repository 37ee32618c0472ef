use Rattle.std.proofs.Common.{arith, ◌∙◌}
use Rattle.sv_types.specs.Layouts.{layout}
use Rattle.sv_types.specs.Operators.{assigned_width}
use Rattle.sv_types.specs.Expressions.{meaning}
use Rattle.eval_forms.specs.Callees.{formals_in}
use Rattle.eval_runs.proofs.Knots.{all-fit}
use Rattle.eval_stmts.proofs.Given.{fits-alone}
use Rattle.expr_flows.specs.declared.known.Known.{Known}
use Rattle.loop_rules.proofs.Counting as C
use Rattle.loop_rules.proofs.counted.is_counted.Goals as goal

pub look_at-requires-clause-fits : goal.look_at-requires-clause-fits
look_at-requires-clause-fits c =
    let a = c.args.control in
    fits-alone a.first.now (formals_in c.args.known.functions.now) (assigned_width (layout a.first.now.of).two_state (meaning a.first.now)) (omega arith) c.requires.fits.first

pub look_at-requires-3-clause-fits : goal.look_at-requires-3-clause-fits
look_at-requires-3-clause-fits c =
    let a = c.args.control in
    fits-alone a.step.now (formals_in c.args.known.functions.now) (assigned_width (layout a.first.now.of).two_state (meaning a.step.now)) (omega arith) c.requires.fits.step

pub writes-written-requires : goal.writes-written-requires
writes-written-requires c = all-fit c.args.known.functions.now (formals_in c.args.known.functions.now) c.requires.functions

pub returns : goal.returns
returns c = λ at h sure.
    let k = c.args.known in
    let inside : Known = record { functions = k.functions; locals = k.locals; variables = c.as_slice.result } in
    C.counted-is at c.args.control c.args.body.now (formals_in k.functions.now) k inside c.variable_in.result c.in_ok-first.first c.in_ok-test.test c.in_ok-step.step c.writes-written.result c.all_so.result h
    c.in_ok-first.ensures c.in_ok-test.ensures c.in_ok-step.ensures c.variable_in.ensures (c.as_slice.ensures.value ∙ c.in_ok-variables.ensures) c.writes-written.ensures c.all_so.ensures sure
