use Rattle.std.proofs.Common.{◌≡◌, ◌++◌, map, drop}
use Rattle.sv_types.specs.Layouts.{default_bits}
use Rattle.sv_types.specs.Surroundings.{Parameter}
use Rattle.sv_types.specs.Functions.{parameter}
use Rattle.eval_parts.specs.Targets.{AllNarrow}
use Rattle.eval_runs.proofs.bodies.defaults.Given as goal

abbrev pub invariant-loop-formal : goal.invariant-loop-formal
invariant-loop-formal l =
    let fs = drop l.formal-index l.formals in
    record {
      narrow : AllNarrow fs;
      made : l.finals.items ++ map (λ (p : Parameter). default_bits p.two_state) (map parameter fs) ≡ map (λ (p : Parameter). default_bits p.two_state) (map parameter l.formals);
    }
