use Rattle.std.proofs.Common.{◌≡◌, ◌++◌, map, drop}
use Rattle.sv_types.specs.Functions.{parameter}
use Rattle.eval_parts.specs.Targets.{AllNarrow}
use Rattle.eval_runs.specs.Functions.{finals_in}
use Rattle.eval_runs.proofs.bodies.all_last.Given as goal

abbrev pub invariant-loop-formal : goal.invariant-loop-formal
invariant-loop-formal l =
    let fs = drop l.formal-index l.formals in
    record {
      narrow : AllNarrow fs;
      made : l.finals.items ++ finals_in l.env (map parameter fs) ≡ finals_in l.env (map parameter l.formals);
    }
