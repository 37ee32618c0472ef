use Rattle.std.proofs.Common.{◌+◌, drop, arith}
use Rattle.sv_types.specs.Expressions.{meaning}
use Rattle.eval_parts.specs.Steps.{is_held}
use Rattle.eval_runs.specs.EvalStmts.{AllHeld}
use Rattle.expr_fits.proofs.Walks as W
use Rattle.run_fits.specs.Statements.{roots_in}
use Rattle.run_fits.proofs.Parts.{held-append}
use Rattle.run_fits.proofs.targets.+held.Goals as goal

pub are_held-loop-e-preserved : goal.are_held-loop-e-preserved
are_held-loop-e-preserved t c =
    let es = c.args.es.now in
    let i = c.loop-e.e-index in
    let e = c.e-item.result in
    let h = is_held c.args.held.now in
    W.next (λ xs. AllHeld (roots_in xs) h) es i e (omega arith) c.e-item.is (λ r. held-append (meaning e).roots (roots_in (drop (i + 1) es)) h c.if-not-is_held_target.ensures r) c.loop-e.invariant

pub are_held-returns : goal.are_held-returns
are_held-returns t c = W.done (λ xs. AllHeld (roots_in xs) (is_held c.args.held.now)) c.args.es.now c.loop-e.e-index (omega arith) tt c.loop-e.invariant
