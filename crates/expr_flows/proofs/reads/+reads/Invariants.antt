use Rattle.std.proofs.Common.{◌≡◌, ◌+◌, ◌*◌, ◌&&◌, List, map, drop}
use Rattle.bit_sets.specs.declared.span.Use.{Use}
use Rattle.eval_parts.proofs.Nodes.{nodes}
use Rattle.eval_forms.specs.Asked.{asked, AllFitAsked}
use Rattle.eval_forms.specs.Callees.{formals_in}
use Rattle.eval_forms.proofs.AskedLaws.{AllFewer}
use Rattle.expr_flows.specs.Known.{sight}
use Rattle.expr_flows.specs.Traces.{Adds}
use Rattle.expr_flows.proofs.Operands.{AllFull, all_reads, all_constant, asks}
use Rattle.expr_flows.proofs.reads.+reads.Given as goal

abbrev pub decreases-reads_at : goal.decreases-reads_at
decreases-reads_at l = 8 * nodes l.e.now + 4

abbrev pub decreases-path_reads : goal.decreases-path_reads
decreases-path_reads l = 8 * nodes l.e.now + 3

abbrev pub decreases-operand_reads : goal.decreases-operand_reads
decreases-operand_reads l = 8 * nodes l.e.now + 2

abbrev pub decreases-asked_reads : goal.decreases-asked_reads
decreases-asked_reads l = 8 * nodes l.operand.of.now + 5

abbrev pub decreases-trace : goal.decreases-trace
decreases-trace l = 8 * nodes l.e.now + 6

abbrev pub decreases-follow : goal.decreases-follow
decreases-follow l = 8 * nodes l.e.now + 2

abbrev pub decreases-add_index : goal.decreases-add_index
decreases-add_index l = 8 * nodes l.i.now + 6

abbrev pub invariant-operand_reads-loop-operand : goal.invariant-operand_reads-loop-operand
invariant-operand_reads-loop-operand l =
    let fs = formals_in l.known.functions.now in
    let k = sight l.known in
    let rest = drop l.operand-index l.operand-items in
    let qs = map asked rest in
    let all = asks l.e fs l.width l.signed in
    record {
      fits : AllFitAsked fs qs;
      fewer : AllFewer (nodes l.e) qs;
      full : AllFull fs qs;
      here : map asked l.operand-items ≡ all;
      constant : (l.constant && all_constant k qs) ≡ all_constant k all;
      adds : (final : List Use) → Adds l.to final (all_reads k qs) → Adds l.initial.to final (all_reads k all);
    }
