use Rattle.std.proofs.Common.{◌≡◌, ◌+◌, true, drop, refl, arith}
use Rattle.eval_forms.specs.Callees.{formals_in}
use Rattle.expr_flows.specs.Full.{all_full}
use Rattle.stmt_flows.specs.Full.{written_starts}
use Rattle.expr_fits.proofs.Walks as W
use Rattle.full_calls.proofs.Statements.{starts-cons}
use Rattle.full_calls.proofs.stmts.are_locals_full.Goals as goal

pub loop-l-preserved : goal.loop-l-preserved
loop-l-preserved c =
    let fs = formals_in c.args.functions.now in
    W.next (λ xs. all_full fs (written_starts xs) ≡ true) c.args.ls.now c.loop-l.l-index c.l-item.result (omega arith) c.l-item.is (λ r. starts-cons fs c.l-item.result (drop (c.loop-l.l-index + 1) c.args.ls.now) (c.if-not-is_local_full.ensures) r) c.loop-l.invariant

pub returns : goal.returns
returns c = W.done (λ xs. all_full (formals_in c.args.functions.now) (written_starts xs) ≡ true) c.args.ls.now c.loop-l.l-index (omega arith) refl c.loop-l.invariant
