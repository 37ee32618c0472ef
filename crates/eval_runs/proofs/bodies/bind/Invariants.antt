use Rattle.std.proofs.Common.{◌≡◌, map, drop}
use Rattle.row_machine.specs.Valuation.{put}
use Rattle.sv_types.specs.Functions.{parameter, bound}
use Rattle.eval_parts.specs.Steps.{is_held}
use Rattle.eval_parts.specs.Surroundings.{now_of}
use Rattle.eval_parts.specs.Targets.{AllNarrow}
use Rattle.eval_runs.proofs.bodies.bind.Given as goal

abbrev pub invariant-loop-i : goal.invariant-loop-i
invariant-loop-i l =
    let fs = drop l.i l.formals in
    record {
      narrow : AllNarrow fs;
      now : put (bound (map parameter fs) (drop l.i l.passed)) (now_of l.env.signals.items l.env.locals.items) ≡ put (bound (map parameter l.formals) l.passed) (now_of l.initial.env.signals.items l.initial.env.locals.items);
      holds : is_held l.env.signals.items ≡ is_held l.initial.env.signals.items;
      pending : l.env.pending.items ≡ l.initial.env.pending.items;
      budget : l.env.budget ≡ l.initial.env.budget;
    }
