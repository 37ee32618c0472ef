use Rattle.std.proofs.Common.{◌≡◌, ◌+◌, true, drop, refl, arith, subst}
use Rattle.std.proofs.Math.ListN.{drop_of_length-le}
use Rattle.std.proofs.lemmas.Bool.{and_parts}
use Rattle.eval_exprs.proofs.Turns.{at-front}
use Rattle.eval_forms.specs.Callees.{formals_in}
use Rattle.eval_parts.specs.Limits.{AllFit}
use Rattle.expr_flows.specs.Full.{is_full, all_full}
use Rattle.expr_flows.specs.Known.{sight}
use Rattle.loop_laws.specs.Walks.{see}
use Rattle.loop_rules.proofs.Seeing as K
use Rattle.loop_rules.proofs.walks.see_all.Goals as goal

pub loop-e-init : goal.loop-e-init
loop-e-init c = record { fits = c.requires.fits; full = c.requires.full; same = refl }

pub see_one-requires-clause-fits : goal.see_one-requires-clause-fits
see_one-requires-clause-fits c =
    let fs = formals_in c.args.known.functions.now in
    let here = at-front c.args.es.now c.loop-e.e-index c.e-item.result (omega arith) c.e-item.is in
    (subst (λ xs. AllFit xs fs) here c.loop-e.invariant.fits).0

pub see_one-requires-clause-full : goal.see_one-requires-clause-full
see_one-requires-clause-full c =
    let fs = formals_in c.args.known.functions.now in
    let i = c.loop-e.e-index in
    let x = c.e-item.result in
    let here = at-front c.args.es.now i x (omega arith) c.e-item.is in
    (and_parts (is_full fs x) (all_full fs (drop (i + 1) c.args.es.now)) (subst (λ xs. all_full fs xs ≡ true) here c.loop-e.invariant.full)).0

pub loop-e-preserved : goal.loop-e-preserved
loop-e-preserved c =
    let fs = formals_in c.args.known.functions.now in
    let k = sight c.args.known in
    let es = c.args.es.now in
    let i = c.loop-e.e-index in
    let x = c.e-item.result in
    let rest = drop (i + 1) es in
    let here = at-front es i x (omega arith) c.e-item.is in
    let all = see es k c.args.so_far in
    record {
      fits = (subst (λ xs. AllFit xs fs) here c.loop-e.invariant.fits).1;
      full = (and_parts (is_full fs x) (all_full fs rest) (subst (λ xs. all_full fs xs ≡ true) here c.loop-e.invariant.full)).1;
      same = K.see-more x rest k c.loop-e.now c.in_ok-now.now all c.in_ok-now.ensures (subst (λ xs. see xs k c.loop-e.now ≡ all) here c.loop-e.invariant.same);
    }

pub returns : goal.returns
returns c =
    let k = sight c.args.known in
    let es = c.args.es.now in
    K.see-nothing (drop c.loop-e.e-index es) k c.loop-e.now (see es k c.args.so_far) (drop_of_length-le es (omega arith)) c.loop-e.invariant.same
