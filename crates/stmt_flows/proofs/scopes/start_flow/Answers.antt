use Rattle.std.proofs.Common.{Err, ap, sym, ◌∙◌, subst}
use Rattle.std.proofs.lemmas.Result.{err_from_is_err_and}
use Rattle.sv_types.specs.Flows as F
use Rattle.sv_types.specs.Statements.{marks_of, initial_of}
use Rattle.eval_forms.specs.Callees.{formals_in}
use Rattle.flow_sets.specs.Flows.{IsFlow}
use Rattle.expr_flows.specs.Known.{sight}
use Rattle.expr_flows.specs.Targets.{TargetsFail}
use Rattle.part_flows.specs.Flows.{FlowGives}
use Rattle.stmt_flows.specs.Full.{written_start}
use Rattle.stmt_flows.proofs.Scoping as C
use Rattle.stmt_flows.proofs.scopes.start_flow.Goals as goal

pub returns-in_ok-and_then-in-None-clause-gives : goal.returns-in_ok-and_then-in-None-clause-gives
returns-in_ok-and_then-in-None-clause-gives c = λ f is.
    let l = c.args.l.now in
    let marks = marks_of l in
    let long = sym c.width-width.ensures.bits in (
      c.in_ok-and_then-in-None.ensures.known,
      subst (IsFlow c.in_ok-and_then-in-None.field-0) (C.starting-none l (sight c.args.known) f c.in-None.is)
          (c.in_ok-and_then-in-None.ensures.flow _ _ (c.in_ok-set-in-None.ensures.flow marks long) (c.in_ok-unset-in-None.ensures.flow f marks long is)),
    )

pub started-requires-clause-fits : goal.started-requires-clause-fits
started-requires-clause-fits c = C.start-fits c.args.l.now c.in-Some.e (formals_in c.args.known.functions.now) c.in-Some.is c.requires.fits

pub started-requires-clause-full : goal.started-requires-clause-full
started-requires-clause-full c = C.start-full c.args.l.now c.in-Some.e (formals_in c.args.known.functions.now) c.in-Some.is c.requires.full

pub returns-in_err-start-in-Some-clause-gives : goal.returns-in_err-start-in-Some-clause-gives
returns-in_err-start-in-Some-clause-gives c = λ f is.
    let p = err_from_is_err_and c.from_residual-in_err-start-in-Some.result c.from_residual-in_err-start-in-Some.ensures.1 in
    let l = c.args.l.now in
    let k = c.args.known in
    let e = c.in-Some.e in
    subst (λ r. FlowGives r k (written_start l) (F.and_then (F.starting l.number (marks_of l) (initial_of l) (sight k)) (F.unset_in l.number (marks_of l) (initial_of l) f))) (sym (p.1 ∙ ap Err p.2))
    (subst (λ es. TargetsFail c.in_err-start-in-Some.field-0.0 k es) (C.written-some l e c.in-Some.is) (c.in_err-start-in-Some.ensures.gives (marks_of l) (sym c.width-width.ensures.bits)))

pub returns-in_ok-and_then-in-Some-clause-gives : goal.returns-in_ok-and_then-in-Some-clause-gives
returns-in_ok-and_then-in-Some-clause-gives c = λ f is.
    let l = c.args.l.now in (
      c.in_ok-and_then-in-Some.ensures.known,
      subst (IsFlow c.in_ok-and_then-in-Some.field-0) (C.starting-some l c.in-Some.e (sight c.args.known) f c.in-Some.is)
          (c.in_ok-and_then-in-Some.ensures.flow _ _ (c.in_ok-start-in-Some.ensures.gives (marks_of l) (sym c.width-width.ensures.bits)).1 is),
    )
