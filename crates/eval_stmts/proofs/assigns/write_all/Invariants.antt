use Rattle.std.proofs.Common.{◌≡◌, drop}
use Rattle.row_machine.specs.Valuation.{put}
use Rattle.eval_parts.specs.Steps.{is_held}
use Rattle.eval_parts.specs.Surroundings.{now_of}
use Rattle.eval_stmts.specs.Environments.{updates, AllReady}
use Rattle.eval_stmts.proofs.assigns.write_all.Given as goal

abbrev pub invariant-loop-update : goal.invariant-loop-update
invariant-loop-update l =
    let us = drop l.update-index l.updates in
    record {
      ready : AllReady us (is_held l.env.signals.items);
      now : put (updates us) (now_of l.env.signals.items l.env.locals.items) ≡ put (updates l.updates) (now_of l.initial.env.signals.items l.initial.env.locals.items);
      holds : is_held l.env.signals.items ≡ is_held l.initial.env.signals.items;
      pending : l.env.pending.items ≡ l.initial.env.pending.items;
      budget : l.env.budget ≡ l.initial.env.budget;
    }
