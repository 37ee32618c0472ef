use Rattle.std.proofs.Common.{◌≡◌, true, ◌+◌, map, drop, Err, arith, ap, sym, ◌∙◌, subst}
use Rattle.std.proofs.lemmas.Bool.{and_parts}
use Rattle.std.proofs.lemmas.Result.{err_from_is_err_and}
use Rattle.std.proofs.lemmas.List.Folds.{list_all-append}
use Rattle.std.proofs.Math.ListN.{drop_of_length-le}
use Rattle.sv_types.specs.Expressions.{meaning}
use Rattle.sv_types.specs.Flows.{all_reads}
use Rattle.eval_forms.specs.Callees.{formals_in}
use Rattle.eval_exprs.proofs.Turns.{at-front}
use Rattle.eval_parts.specs.Limits.{AllFit}
use Rattle.eval_stmts.specs.Targets.{values_of}
use Rattle.expr_flows.specs.Full.{is_full, all_full}
use Rattle.expr_flows.specs.Known.{sight}
use Rattle.expr_flows.specs.Targets.{TargetsFail}
use Rattle.expr_flows.specs.Traces.{Adds}
use Rattle.expr_flows.proofs.Adding as D
use Rattle.stmt_flows.specs.Branches.{ItemsFitAlone, ValuesGive}
use Rattle.stmt_flows.specs.Long.{item_values}
use Rattle.stmt_flows.proofs.Branching as B
use Rattle.stmt_flows.proofs.branches.add_item_values.Goals as goal

pub returns-in_err-add_values : goal.returns-in_err-add_values
returns-in_err-add_values c =
    let p = err_from_is_err_and c.from_residual.result c.from_residual.ensures.1 in
    let is = c.args.items.now in
    let i = c.item-item.result in
    let n = c.loop-item.item-index in
    let x = c.in_err-add_values.field-0.0 in
    let rest = drop (n + 1) is in
    let here = at-front is n i (omega arith) c.item-item.is in
    subst (λ r. ValuesGive r c.args.known (item_values is) (values_of is) c.args.to.now c.add_values.new.to) (sym (p.1 ∙ ap Err p.2))
    (B.drop-fails x c.args.known is n (subst (λ xs. TargetsFail x c.args.known (item_values xs)) (sym here)
    (B.item-fails x c.args.known i rest (subst (λ es. TargetsFail x c.args.known es) c.as_slice.ensures c.in_err-add_values.ensures))))

pub add_values-requires : goal.add_values-requires
add_values-requires c =
    let fs = formals_in c.args.known.functions.now in
    let l = c.loop-item in
    let i = c.item-item.result in
    let rest = drop (l.item-index + 1) c.args.items.now in
    let here = at-front c.args.items.now l.item-index i (omega arith) c.item-item.is in
    let full = subst (λ xs. all_full fs (item_values xs) ≡ true) here l.invariant.full in
    record {
      functions = c.requires.functions;
      fits = subst (λ es. AllFit es fs) (sym c.as_slice.ensures) (subst (λ xs. ItemsFitAlone xs fs) here l.invariant.fits).0;
      full = subst (λ es. all_full fs es ≡ true) (sym c.as_slice.ensures) (and_parts (all_full fs i.values) (all_full fs (item_values rest)) (sym (list_all-append (is_full fs) i.values (item_values rest)) ∙ full)).0;
    }

pub loop-item-preserved : goal.loop-item-preserved
loop-item-preserved c =
    let fs = formals_in c.args.known.functions.now in
    let k = sight c.args.known in
    let l = c.loop-item in
    let i = c.item-item.result in
    let rest = drop (l.item-index + 1) c.args.items.now in
    let here = at-front c.args.items.now l.item-index i (omega arith) c.item-item.is in
    let full = subst (λ xs. all_full fs (item_values xs) ≡ true) here l.invariant.full in
    record {
      fits = (subst (λ xs. ItemsFitAlone xs fs) here l.invariant.fits).1;
      full = (and_parts (all_full fs i.values) (all_full fs (item_values rest)) (sym (list_all-append (is_full fs) i.values (item_values rest)) ∙ full)).1;
      adds = λ final h. l.invariant.adds final
          (subst (λ xs. Adds l.to final (all_reads (values_of xs) k)) (sym here)
          (D.at l.to final _ _ (B.reads-both (map meaning i.values) (values_of rest) k) (D.both l.to c.add_values.new.to final (all_reads (map meaning i.values) k) _
          (subst (λ es. Adds l.to c.add_values.new.to (all_reads (map meaning es) k)) c.as_slice.ensures c.in_ok-add_values.ensures) h)));
    }

pub returns : goal.returns
returns c =
    let k = sight c.args.known in
    let l = c.loop-item in
    let ended = drop_of_length-le c.args.items.now (omega arith) in
    l.invariant.adds l.to (subst (λ xs. Adds l.to l.to (all_reads (values_of xs) k)) (sym ended) (D.none l.to))
