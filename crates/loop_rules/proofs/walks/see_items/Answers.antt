use Rattle.std.proofs.Common.{◌≡◌, ◌+◌, true, drop, refl, arith, ap, sym, ◌∙◌, subst}
use Rattle.std.proofs.Math.ListN.{drop_of_length-le}
use Rattle.eval_exprs.proofs.Turns.{at-front}
use Rattle.eval_forms.specs.Callees.{formals_in}
use Rattle.eval_parts.specs.Limits.{AllFit}
use Rattle.expr_flows.specs.Full.{all_full}
use Rattle.expr_flows.specs.Known.{sight}
use Rattle.stmt_flows.specs.Branches.{ItemsFitAlone}
use Rattle.loop_laws.specs.Walks.{see, values}
use Rattle.loop_rules.proofs.Seeing as K
use Rattle.loop_rules.proofs.walks.see_items.Goals as goal

pub loop-item-init : goal.loop-item-init
loop-item-init c = record { fits = c.requires.fits; full = c.requires.full; same = refl }

pub see_all-requires-clause-fits : goal.see_all-requires-clause-fits
see_all-requires-clause-fits c =
    let fs = formals_in c.args.known.functions.now in
    let here = at-front c.args.items.now c.loop-item.item-index c.item-item.result (omega arith) c.item-item.is in
    subst (λ xs. AllFit xs fs) (sym c.as_slice.ensures) (subst (λ xs. ItemsFitAlone xs fs) here c.loop-item.invariant.fits).0

pub see_all-requires-clause-full : goal.see_all-requires-clause-full
see_all-requires-clause-full c =
    let fs = formals_in c.args.known.functions.now in
    let i = c.loop-item.item-index in
    let x = c.item-item.result in
    let rest = drop (i + 1) c.args.items.now in
    let here = at-front c.args.items.now i x (omega arith) c.item-item.is in
    subst (λ xs. all_full fs xs ≡ true) (sym c.as_slice.ensures) (K.full-split fs x.values (values rest) (subst (λ xs. all_full fs (values xs) ≡ true) here c.loop-item.invariant.full)).0

pub loop-item-preserved : goal.loop-item-preserved
loop-item-preserved c =
    let fs = formals_in c.args.known.functions.now in
    let k = sight c.args.known in
    let is = c.args.items.now in
    let i = c.loop-item.item-index in
    let x = c.item-item.result in
    let rest = drop (i + 1) is in
    let here = at-front is i x (omega arith) c.item-item.is in
    let all = see (values is) k c.args.so_far in
    record {
      fits = (subst (λ xs. ItemsFitAlone xs fs) here c.loop-item.invariant.fits).1;
      full = (K.full-split fs x.values (values rest) (subst (λ xs. all_full fs (values xs) ≡ true) here c.loop-item.invariant.full)).1;
      same = K.see-some x.values (values rest) k c.loop-item.now c.in_ok-now.now all (c.in_ok-now.ensures ∙ ap (λ xs. see xs k c.loop-item.now) c.as_slice.ensures) (subst (λ xs. see (values xs) k c.loop-item.now ≡ all) here c.loop-item.invariant.same);
    }

pub returns : goal.returns
returns c =
    let k = sight c.args.known in
    let is = c.args.items.now in
    K.see-nothing (values (drop c.loop-item.item-index is)) k c.loop-item.now (see (values is) k c.args.so_far) (ap values (drop_of_length-le is (omega arith))) c.loop-item.invariant.same
