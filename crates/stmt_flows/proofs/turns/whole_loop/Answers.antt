use Rattle.std.proofs.Common.{◌∷◌, [], sym, ◌∙◌}
use Rattle.std.proofs.lemmas.Bool.{and_parts}
use Rattle.std.proofs.lemmas.Result.{err_from_is_err_and}
use Rattle.sv_types.specs.Layouts.{layout}
use Rattle.sv_types.specs.Operators.{assigned_width}
use Rattle.sv_types.specs.Expressions.{meaning}
use Rattle.std.proofs.Common.{arith}
use Rattle.eval_forms.specs.Callees.{formals_in}
use Rattle.eval_stmts.proofs.Given.{fits-alone}
use Rattle.expr_flows.specs.Full.{is_full, all_full}
use Rattle.stmt_flows.specs.Turns.{marks_of_control}
use Rattle.stmt_flows.proofs.Passing as P
use Rattle.stmt_flows.proofs.Turning as T
use Rattle.stmt_flows.proofs.turns.whole_loop.Goals as goal

pub started-requires-clause-fits : goal.started-requires-clause-fits
started-requires-clause-fits c =
    let e = c.args.control.first.now in fits-alone e (formals_in c.args.known.functions.now) (assigned_width (layout e.of).two_state (meaning e)) (omega arith) c.requires.fits.first

pub started-requires-clause-full : goal.started-requires-clause-full
started-requires-clause-full c =
    let fs = formals_in c.args.known.functions.now in
    let a = c.args.control in
    (and_parts (is_full fs a.first.now) (all_full fs (a.test.now ∷ a.step.now ∷ [])) c.requires.full).0

pub returns-in_err-start : goal.returns-in_err-start
returns-in_err-start c = λ f is.
    let p = err_from_is_err_and c.from_residual.result c.from_residual.ensures.1 in
    let a = c.args.control in
    P.own-fails c.from_residual.result c.in_err-start.field-0.0 p.0 c.args.known (a.first.now ∷ []) _ p.1 p.2 (c.in_err-start.ensures.gives (marks_of_control a) (T.control-long a ∙ sym c.width-width.ensures.bits))

pub returns : goal.returns
returns c = λ f is.
    let a = c.args.control in
    (c.in_ok-and_then.ensures.known, c.in_ok-and_then.ensures.flow _ _ (c.in_ok-start.ensures.gives (marks_of_control a) (T.control-long a ∙ sym c.width-width.ensures.bits)).1 is)
