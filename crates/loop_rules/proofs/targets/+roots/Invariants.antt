use Rattle.std.proofs.Common.{◌≡◌, ◌+◌, ◌*◌, ◌≤◌, map, drop}
use Rattle.sv_types.specs.Meanings.{total}
use Rattle.eval_parts.proofs.Nodes.{nodes}
use Rattle.loop_rules.specs.Targets.{names, roots_in}
use Rattle.loop_rules.proofs.targets.+roots.Given as goal

abbrev pub decreases-is_target : goal.decreases-is_target
decreases-is_target l = 2 * nodes l.e.now + 1

abbrev pub decreases-are_targets : goal.decreases-are_targets
decreases-are_targets l = 2 * total (map nodes l.es.now) + 2

abbrev pub invariant-are_targets-loop-e : goal.invariant-are_targets-loop-e
invariant-are_targets-loop-e l =
    let rest = drop l.e-index l.es in
    record {
      few : total (map nodes rest) ≤ total (map nodes l.es);
      same : names l.number (roots_in rest) ≡ names l.number (roots_in l.es);
    }
