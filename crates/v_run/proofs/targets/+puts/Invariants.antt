use Rattle.std.proofs.Common.{◌≡◌, ◌≤◌, drop, map}
use Rattle.row_machine.specs.Steps.{then_changes}
use Rattle.v_meaning.specs.Statements.{target, puts_parts}
use Rattle.v_eval.specs.Holding.{holds}
use Rattle.v_eval.specs.Scopes.{scope_of}
use Rattle.v_run.specs.Changes.{changes_of, AllNear}
use Rattle.v_run.specs.Limits.{target_most, most_of_parts}
use Rattle.v_run.proofs.targets.+puts.Given as goal

abbrev pub invariant-put_parts-loop-i : goal.invariant-put_parts-loop-i
invariant-put_parts-loop-i g l = record {
  writes :
      then_changes (changes_of l.to) (puts_parts (map target (drop l.i l.parts)) (scope_of l.around.scope) (holds l.around.held) l.rest)
      ≡ then_changes (changes_of l.initial.to) (puts_parts (map target l.fn.parts) (scope_of l.around.scope) (holds l.around.held) l.fn.bits);
  near : AllNear l.to;
  narrow : most_of_parts (map target_most (drop l.i l.parts)) (scope_of l.around.scope) ≤ 128;
}
