use Rattle.std.proofs.Common.{◌≡◌, ◌+◌, ◌*◌, ◌≤◌, true, List, map, drop}
use Rattle.bit_sets.specs.declared.span.Use.{Use}
use Rattle.sv_types.specs.Expressions.{meaning}
use Rattle.sv_types.specs.Flows.{all_indices, all_writes}
use Rattle.sv_types.specs.Meanings.{total}
use Rattle.eval_parts.specs.Limits.{AllFit}
use Rattle.eval_parts.proofs.Nodes.{nodes}
use Rattle.eval_forms.specs.Callees.{formals_in}
use Rattle.flow_sets.specs.declared.uses.Write.{Write}
use Rattle.expr_flows.specs.Full.{all_full}
use Rattle.expr_flows.specs.Known.{sight}
use Rattle.expr_flows.specs.Traces.{Adds}
use Rattle.expr_flows.specs.Targets.{Writes}
use Rattle.expr_flows.proofs.targets.+targets.Given as goal

abbrev pub decreases-add_target : goal.decreases-add_target
decreases-add_target l = 3 * nodes l.e.now + 1

abbrev pub decreases-add_other : goal.decreases-add_other
decreases-add_other l = 3 * nodes l.e.now

abbrev pub decreases-add_targets : goal.decreases-add_targets
decreases-add_targets l = 3 * total (map nodes l.es.now) + 2

abbrev pub invariant-add_targets-loop-e : goal.invariant-add_targets-loop-e
invariant-add_targets-loop-e l =
    let fs = formals_in l.known.functions.now in
    let k = sight l.known in
    let rest = drop l.e-index l.es in
    let ms = map meaning rest in
    let all = map meaning l.es in
    record {
      fits : AllFit rest fs;
      full : all_full fs rest ≡ true;
      few : total (map nodes rest) ≤ total (map nodes l.es);
      reads : (final : List Use) → Adds l.reads final (all_indices ms k) → Adds l.initial.reads final (all_indices all k);
      writes : (final : List Write) → Writes l.writes final (all_writes ms k) → Writes l.initial.writes final (all_writes all k);
    }
