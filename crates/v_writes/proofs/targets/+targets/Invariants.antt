use Rattle.std.proofs.Common.{◌≡◌, ◌≤◌, ◌++◌, map, drop}
use Rattle.std.specs.Prelude.{flat_map}
use Rattle.v_meaning.specs.Statements.{Target, target}
use Rattle.v_eval.specs.Scopes.{scope_of}
use Rattle.v_run.specs.Limits.{target_most, most_of_parts}
use Rattle.v_writes.specs.Writes.{use_in}
use Rattle.v_writes.proofs.targets.+targets.Given as goal

abbrev pub invariant-lvals_writes-loop-part : goal.invariant-lvals_writes-loop-part
invariant-lvals_writes-loop-part g l = record {
  writes :
      map use_in l.to ++ flat_map (λ (t : Target). t.writes (scope_of l.scope)) (map target (drop l.part-index l.parts))
      ≡ map use_in l.initial.to ++ flat_map (λ (t : Target). t.writes (scope_of l.scope)) (map target l.fn.parts);
  narrow : most_of_parts (map target_most (drop l.part-index l.parts)) (scope_of l.scope) ≤ 128;
}
