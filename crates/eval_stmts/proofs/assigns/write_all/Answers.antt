use Rattle.std.proofs.Common.{◌≡◌, ◌+◌, drop, arith, ap, sym, ◌∙◌, subst}
use Rattle.std.proofs.Math.ListN.{drop_of_length-le}
use Rattle.row_machine.specs.Valuation.{put}
use Rattle.eval_parts.specs.Steps.{is_held}
use Rattle.eval_parts.specs.Surroundings.{now_of}
use Rattle.eval_exprs.proofs.Turns.{at-front}
use Rattle.eval_stmts.specs.Environments.{update_of, updates, AllReady}
use Rattle.eval_stmts.proofs.Assigning.{put-then}
use Rattle.eval_stmts.proofs.assigns.write_all.Goals as goal

pub loop-update-preserved : goal.loop-update-preserved
loop-update-preserved c =
    let us = c.args.updates.now in
    let cur = c.loop-update.env in
    let start = c.args.env.now in
    let x = c.update-item.result in
    let rest = drop (c.loop-update.update-index + 1) us in
    let here = at-front us c.loop-update.update-index x (omega arith) c.update-item.is in
    let w = c.in_ok-write.ensures in
    record {
      ready = subst (AllReady rest) (sym w.holds) (subst (λ xs. AllReady xs (is_held cur.signals.items)) here c.loop-update.invariant.ready).1;
      now = ap (put (updates rest)) w.now ∙ sym (put-then (update_of x) (updates rest) (now_of cur.signals.items cur.locals.items))
          ∙ subst (λ xs. put (updates xs) (now_of cur.signals.items cur.locals.items) ≡ put (updates us) (now_of start.signals.items start.locals.items)) here c.loop-update.invariant.now;
      holds = w.holds ∙ c.loop-update.invariant.holds;
      pending = w.pending ∙ c.loop-update.invariant.pending;
      budget = w.budget ∙ c.loop-update.invariant.budget;
    }

pub returns : goal.returns
returns c =
    let us = c.args.updates.now in
    let cur = c.loop-update.env in
    let start = c.args.env.now in
    let i = c.loop-update.invariant in
    record {
      now = subst (λ xs. put (updates xs) (now_of cur.signals.items cur.locals.items) ≡ put (updates us) (now_of start.signals.items start.locals.items)) (drop_of_length-le us (omega arith)) i.now;
      holds = i.holds;
      pending = i.pending;
      budget = i.budget;
    }
