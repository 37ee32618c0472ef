use Rattle.std.proofs.Common.{◌+◌, map, drop, Err, arith, ap, sym, ◌∙◌, subst}
use Rattle.std.proofs.lemmas.Result.{err_from_is_err_and}
use Rattle.sv_types.specs.declared.statement.Formal.{Formal}
use Rattle.sv_types.specs.Flows as F
use Rattle.sv_types.specs.Flows.{all_read_in}
use Rattle.sv_types.specs.Functions.{parameter}
use Rattle.sv_types.specs.Expressions.{meaning}
use Rattle.eval_forms.specs.Callees.{formals_in}
use Rattle.expr_flows.specs.Known.{sight}
use Rattle.expr_flows.specs.Traces.{Adds}
use Rattle.expr_flows.proofs.Adding as D
use Rattle.part_flows.specs.Calls.{InputsGive}
use Rattle.part_flows.proofs.Failing as X
use Rattle.part_flows.proofs.Passing as P
use Rattle.part_flows.proofs.calls.inputs.Goals as goal

pub loop-i-init : goal.loop-i-init
loop-i-init c = record {
  left = record { fits = c.requires.fits; full = c.requires.full };
  adds = λ final h. subst (λ us. Adds us final (all_read_in (map parameter c.args.formals.now) (map meaning c.args.actuals.now) (sight c.args.known))) c.new-reads.ensures h;
}

pub add_input-requires : goal.add_input-requires
add_input-requires c =
    let gs = formals_in c.args.known.functions.now in
    let fs = c.args.formals.now in
    let es = c.args.actuals.now in
    let i = c.loop-i.i in
    let f = c.index-formals-i.result in
    let e = c.index-actuals-i.result in
    let left = P.left-at fs es i f e gs (omega arith) (omega arith) c.index-formals-i.is c.index-actuals-i.is c.loop-i.invariant.left in
    record { functions = c.requires.functions; fits = P.first-fits f (drop (i + 1) fs) e (drop (i + 1) es) gs left; full = P.first-full f (drop (i + 1) fs) e (drop (i + 1) es) gs left }

pub returns-in_err-add_input : goal.returns-in_err-add_input
returns-in_err-add_input c =
    let p = err_from_is_err_and c.from_residual.result c.from_residual.ensures.1 in
    let es = c.args.actuals.now in
    let e = c.index-actuals-i.result in
    subst (λ r. InputsGive r c.args.known (map parameter c.args.formals.now) es) (sym (p.1 ∙ ap Err p.2))
    (X.one-fails c.in_err-add_input.field-0.0 c.args.known e es (X.stands-at es c.loop-i.i e (omega arith) c.index-actuals-i.is) c.in_err-add_input.ensures)

pub loop-i-preserved : goal.loop-i-preserved
loop-i-preserved c =
    let gs = formals_in c.args.known.functions.now in
    let k = sight c.args.known in
    let fs = c.args.formals.now in
    let es = c.args.actuals.now in
    let l = c.loop-i in
    let i = l.i in
    let f = c.index-formals-i.result in
    let e = c.index-actuals-i.result in
    let left = P.left-at fs es i f e gs (omega arith) (omega arith) c.index-formals-i.is c.index-actuals-i.is l.invariant.left in
    record {
      left = P.others-left f (drop (i + 1) fs) e (drop (i + 1) es) gs left;
      adds = λ final h. l.invariant.adds final
          (D.at l.reads final _ _ (P.reads-at fs es i f e k (omega arith) (omega arith) c.index-formals-i.is c.index-actuals-i.is)
          (D.both l.reads c.add_input.new.to final (F.reads_in f.way (meaning e) k) _
          (subst (λ (x : Formal). Adds l.reads c.add_input.new.to (F.reads_in x.way (meaning e) k)) (sym c.index-formals-i.is) c.in_ok-add_input.ensures) h));
    }

pub returns : goal.returns
returns c =
    let l = c.loop-i in
    let k = sight c.args.known in
    l.invariant.adds l.reads (D.at l.reads l.reads _ _ (sym (P.none-read c.args.formals.now c.args.actuals.now l.i k (omega arith))) (D.none l.reads))
