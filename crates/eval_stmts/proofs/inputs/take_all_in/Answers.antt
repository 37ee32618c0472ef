use Rattle.std.proofs.Common.{◌≤◌, ◌++◌, ◌⊎◌, length, arith, ap, sym, ◌∙◌, append-nil}
use Rattle.eval_parts.specs.Surroundings.{running}
use Rattle.eval_stmts.specs.Environments.{standing}
use Rattle.eval_stmts.proofs.Matching as M
use Rattle.eval_stmts.proofs.inputs.take_all_in.Goals as goal

pub returns-clause-gives : goal.returns-clause-gives
returns-clause-gives g c =
    let fs = c.args.formals.now in
    let es = c.args.actuals.now in
    let l = c.loop-i in
    let a = standing c.args.scope c.args.env.now in
    let ended : (length fs ≤ l.i) ⊎ (length es ≤ l.i) = M.by-min (length fs) (length es) l.i (omega arith) in (
      sym (append-nil l.passed.items) ∙ sym (ap (λ vs. l.passed.items ++ vs) (M.no-more-taken fs es l.i a ended)) ∙ l.invariant.made,
      sym l.invariant.runs ∙ M.no-more-takes fs es l.i a (running l.env.budget) ended,
    )
