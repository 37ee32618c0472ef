use Rattle.std.proofs.Common.{◌≡◌, ◌+◌, true, drop, refl, arith, ap, subst}
use Rattle.std.proofs.Math.ListN.{drop_of_length-le}
use Rattle.eval_exprs.proofs.Turns.{at-front}
use Rattle.eval_forms.specs.Callees.{formals_in}
use Rattle.eval_stmts.specs.Limits.{AllLocalsFit}
use Rattle.expr_flows.specs.Full.{all_full}
use Rattle.expr_flows.specs.Known.{sight}
use Rattle.stmt_flows.specs.Full.{written_start, written_starts}
use Rattle.design_breaks.specs.Unrolling.{start_of, starts_of}
use Rattle.loop_laws.specs.Walks.{see}
use Rattle.loop_rules.proofs.Seeing as K
use Rattle.loop_rules.proofs.walks.see_starts.Goals as goal

pub loop-l-init : goal.loop-l-init
loop-l-init c = record { fits = c.requires.fits; full = c.requires.full; same = refl }

pub see_start-requires-clause-fits : goal.see_start-requires-clause-fits
see_start-requires-clause-fits c =
    let fs = formals_in c.args.known.functions.now in
    let here = at-front c.args.locals.now c.loop-l.l-index c.l-item.result (omega arith) c.l-item.is in
    (subst (λ xs. AllLocalsFit xs fs) here c.loop-l.invariant.fits).0

pub see_start-requires-clause-full : goal.see_start-requires-clause-full
see_start-requires-clause-full c =
    let fs = formals_in c.args.known.functions.now in
    let i = c.loop-l.l-index in
    let x = c.l-item.result in
    let rest = drop (i + 1) c.args.locals.now in
    let here = at-front c.args.locals.now i x (omega arith) c.l-item.is in
    (K.full-split fs (written_start x) (written_starts rest) (subst (λ xs. all_full fs (written_starts xs) ≡ true) here c.loop-l.invariant.full)).0

pub loop-l-preserved : goal.loop-l-preserved
loop-l-preserved c =
    let fs = formals_in c.args.known.functions.now in
    let k = sight c.args.known in
    let ls = c.args.locals.now in
    let i = c.loop-l.l-index in
    let x = c.l-item.result in
    let rest = drop (i + 1) ls in
    let here = at-front ls i x (omega arith) c.l-item.is in
    let all = see (starts_of ls) k c.args.so_far in
    record {
      fits = (subst (λ xs. AllLocalsFit xs fs) here c.loop-l.invariant.fits).1;
      full = (K.full-split fs (written_start x) (written_starts rest) (subst (λ xs. all_full fs (written_starts xs) ≡ true) here c.loop-l.invariant.full)).1;
      same = K.see-some (start_of x) (starts_of rest) k c.loop-l.now c.in_ok-now.now all c.in_ok-now.ensures (subst (λ xs. see (starts_of xs) k c.loop-l.now ≡ all) here c.loop-l.invariant.same);
    }

pub returns : goal.returns
returns c =
    let k = sight c.args.known in
    let ls = c.args.locals.now in
    K.see-nothing (starts_of (drop c.loop-l.l-index ls)) k c.loop-l.now (see (starts_of ls) k c.args.so_far) (ap starts_of (drop_of_length-le ls (omega arith))) c.loop-l.invariant.same
