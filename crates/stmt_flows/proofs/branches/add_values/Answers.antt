use Rattle.std.proofs.Common.{◌≡◌, true, ◌+◌, map, drop, Err, arith, ap, sym, ◌∙◌, subst}
use Rattle.std.proofs.lemmas.Bool.{and_parts}
use Rattle.std.proofs.lemmas.Result.{err_from_is_err_and}
use Rattle.std.proofs.Math.ListN.{drop_of_length-le}
use Rattle.sv_types.specs.Expressions.{meaning}
use Rattle.sv_types.specs.Flows.{all_reads}
use Rattle.eval_forms.specs.Callees.{formals_in}
use Rattle.eval_exprs.proofs.Turns.{at-front}
use Rattle.eval_parts.specs.Limits.{AllFit}
use Rattle.expr_flows.specs.Full.{is_full, all_full}
use Rattle.expr_flows.specs.Known.{sight}
use Rattle.expr_flows.specs.Traces.{Adds}
use Rattle.expr_flows.proofs.Adding as D
use Rattle.part_flows.proofs.Failing as X
use Rattle.stmt_flows.specs.Branches.{ValuesGive}
use Rattle.stmt_flows.proofs.branches.add_values.Goals as goal

pub returns-in_err-_constant : goal.returns-in_err-_constant
returns-in_err-_constant c =
    let p = err_from_is_err_and c.from_residual.result c.from_residual.ensures.1 in
    let es = c.args.values.now in
    let e = c.e-item.result in
    subst (λ r. ValuesGive r c.args.known es (map meaning es) c.args.to.now c.add_reads.new.to) (sym (p.1 ∙ ap Err p.2))
    (X.one-fails c.in_err-_constant.field-0.0 c.args.known e es (X.stands-at es c.loop-e.e-index e (omega arith) c.e-item.is) c.in_err-_constant.ensures)

pub add_reads-requires : goal.add_reads-requires
add_reads-requires c =
    let fs = formals_in c.args.known.functions.now in
    let l = c.loop-e in
    let e = c.e-item.result in
    let here = at-front c.args.values.now l.e-index e (omega arith) c.e-item.is in
    record {
      functions = c.requires.functions;
      fits = (subst (λ xs. AllFit xs fs) here l.invariant.fits).0;
      full = (and_parts (is_full fs e) (all_full fs (drop (l.e-index + 1) c.args.values.now)) (subst (λ xs. all_full fs xs ≡ true) here l.invariant.full)).0;
    }

pub loop-e-preserved : goal.loop-e-preserved
loop-e-preserved c =
    let fs = formals_in c.args.known.functions.now in
    let k = sight c.args.known in
    let l = c.loop-e in
    let e = c.e-item.result in
    let rest = drop (l.e-index + 1) c.args.values.now in
    let here = at-front c.args.values.now l.e-index e (omega arith) c.e-item.is in
    record {
      fits = (subst (λ xs. AllFit xs fs) here l.invariant.fits).1;
      full = (and_parts (is_full fs e) (all_full fs rest) (subst (λ xs. all_full fs xs ≡ true) here l.invariant.full)).1;
      adds = λ final h. l.invariant.adds final
          (subst (λ xs. Adds l.to final (all_reads (map meaning xs) k)) (sym here) (D.both l.to c.add_reads.new.to final _ _ c.in_ok-_constant.ensures.adds h));
    }

pub returns : goal.returns
returns c =
    let k = sight c.args.known in
    let l = c.loop-e in
    let ended = drop_of_length-le c.args.values.now (omega arith) in
    l.invariant.adds l.to (subst (λ xs. Adds l.to l.to (all_reads (map meaning xs) k)) (sym ended) (D.none l.to))
