use Rattle.std.proofs.Common.{◌-◌, drop, Err, arith, ap, sym, ◌∙◌, subst}
use Rattle.std.proofs.lemmas.Result.{err_from_is_err_and}
use Rattle.sv_types.specs.Statements.{scope_flow}
use Rattle.eval_forms.specs.Callees.{formals_in}
use Rattle.flow_sets.specs.Flows.{IsFlow}
use Rattle.expr_flows.specs.Known.{sight}
use Rattle.part_flows.specs.Flows.{FlowGives}
use Rattle.stmt_flows.specs.Full.{written_starts}
use Rattle.stmt_flows.proofs.Scoping as C
use Rattle.stmt_flows.proofs.scopes.starts_flow.Goals as goal

pub start_flow-requires-clause-fits : goal.start_flow-requires-clause-fits
start_flow-requires-clause-fits c =
    C.local-fits c.args.locals.now (c.loop-i.i - 1) c.index-locals-i.result (formals_in c.args.known.functions.now) (omega arith) c.index-locals-i.is c.requires.fits

pub start_flow-requires-clause-full : goal.start_flow-requires-clause-full
start_flow-requires-clause-full c =
    C.local-full c.args.locals.now (c.loop-i.i - 1) c.index-locals-i.result (formals_in c.args.known.functions.now) (omega arith) c.index-locals-i.is c.requires.full

pub returns-in_err-found-clause-gives : goal.returns-in_err-found-clause-gives
returns-in_err-found-clause-gives c = λ f is.
    let p = err_from_is_err_and c.from_residual.result c.from_residual.ensures.1 in
    let k = c.args.known in
    let ls = c.args.locals.now in
    subst (λ r. FlowGives r k (written_starts ls) (scope_flow ls f (sight k))) (sym (p.1 ∙ ap Err p.2))
    (C.start-fails c.in_err-found.field-0.0 k ls (c.loop-i.i - 1) c.index-locals-i.result (omega arith) c.index-locals-i.is (c.in_err-found.ensures.gives _ (c.loop-i.invariant.flow f is)))

pub loop-i-preserved : goal.loop-i-preserved
loop-i-preserved c = record {
  within = omega arith;
  known = c.in_ok-found.ensures.known;
  flow = λ f is.
      subst (IsFlow c.in_ok-found.found) (C.one-started c.args.locals.now (c.loop-i.i - 1) c.loop-i.i c.index-locals-i.result f (sight c.args.known) (omega arith) (omega arith) c.index-locals-i.is)
      (c.in_ok-found.ensures.gives _ (c.loop-i.invariant.flow f is)).1;
}

pub returns-clause-gives : goal.returns-clause-gives
returns-clause-gives c = λ f is. (
  c.loop-i.invariant.known,
  subst (λ n. IsFlow c.loop-i.found (scope_flow (drop n c.args.locals.now) f (sight c.args.known))) (C.none-left c.loop-i.i (omega arith)) (c.loop-i.invariant.flow f is),
)
