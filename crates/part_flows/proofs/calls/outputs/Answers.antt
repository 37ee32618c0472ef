use Rattle.std.proofs.Common.{◌+◌, map, drop, Err, arith, ap, sym, ◌∙◌, subst}
use Rattle.std.proofs.lemmas.Result.{err_from_is_err_and}
use Rattle.sv_types.specs.declared.statement.Formal.{Formal}
use Rattle.sv_types.specs.Flows as F
use Rattle.sv_types.specs.Flows.{Flow}
use Rattle.flow_sets.specs.Flows.{IsFlow}
use Rattle.sv_types.specs.Functions.{parameter}
use Rattle.sv_types.specs.Expressions.{meaning}
use Rattle.eval_forms.specs.Callees.{formals_in}
use Rattle.expr_flows.specs.Known.{sight}
use Rattle.part_flows.specs.Flows.{FlowGives}
use Rattle.part_flows.proofs.Failing as X
use Rattle.part_flows.proofs.Passing as P
use Rattle.part_flows.proofs.calls.outputs.Goals as goal

pub loop-i-init : goal.loop-i-init
loop-i-init c = record {
  known = c.idle-found.ensures.known;
  left = record { fits = c.requires.fits; full = c.requires.full };
  leads = P.leads-from c.idle-found.result _ c.idle-found.ensures.flow;
}

pub further-requires : goal.further-requires
further-requires c =
    let gs = formals_in c.args.known.functions.now in
    let fs = c.args.formals.now in
    let es = c.args.actuals.now in
    let i = c.loop-i.i in
    let f = c.index-formals-i.result in
    let e = c.index-actuals-i.result in
    let left = P.left-at fs es i f e gs (omega arith) (omega arith) c.index-formals-i.is c.index-actuals-i.is c.loop-i.invariant.left in
    record {
      functions = c.requires.functions;
      before = c.loop-i.invariant.known;
      fits = P.first-fits f (drop (i + 1) fs) e (drop (i + 1) es) gs left;
      full = P.first-full f (drop (i + 1) fs) e (drop (i + 1) es) gs left;
    }

pub returns-in_err-found : goal.returns-in_err-found
returns-in_err-found c =
    let p = err_from_is_err_and c.from_residual.result c.from_residual.ensures.1 in
    let es = c.args.actuals.now in
    let e = c.index-actuals-i.result in
    let k = c.args.known in
    subst (λ r. FlowGives r k es (F.all_written_out (map parameter c.args.formals.now) (map meaning es) (sight k))) (sym (p.1 ∙ ap Err p.2))
    (X.one-fails c.in_err-found.field-0.0 k e es (X.stands-at es c.loop-i.i e (omega arith) c.index-actuals-i.is) c.in_err-found.ensures)

pub loop-i-preserved : goal.loop-i-preserved
loop-i-preserved c =
    let gs = formals_in c.args.known.functions.now in
    let k = sight c.args.known in
    let fs = c.args.formals.now in
    let es = c.args.actuals.now in
    let l = c.loop-i in
    let i = l.i in
    let f = c.index-formals-i.result in
    let e = c.index-actuals-i.result in
    let left = P.left-at fs es i f e gs (omega arith) (omega arith) c.index-formals-i.is c.index-actuals-i.is l.invariant.left in
    let one = c.in_ok-found.ensures in
    record {
      known = one.0;
      left = P.others-left f (drop (i + 1) fs) e (drop (i + 1) es) gs left;
      leads = P.leads-on l.found c.in_ok-found.found (F.writes_out f.way (meaning e) k) _ _ _ l.invariant.leads
          (subst (λ (x : Formal). (g : Flow) → IsFlow l.found g → IsFlow c.in_ok-found.found (F.and_then g (F.writes_out x.way (meaning e) k))) (sym c.index-formals-i.is) one.1)
          (P.writes-at fs es i f e k (omega arith) (omega arith) c.index-formals-i.is c.index-actuals-i.is);
    }

pub returns : goal.returns
returns c =
    let l = c.loop-i in
    let k = sight c.args.known in
    (l.invariant.known, P.leads-to l.found _ _ (P.none-written c.args.formals.now c.args.actuals.now l.i k (omega arith)) l.invariant.leads)
