use Rattle.std.proofs.Common.{◌≡◌, ◌+◌, ◌*◌, ◌&&◌, map, drop}
use Rattle.sv_types.specs.Surroundings.{Sight}
use Rattle.eval_parts.proofs.Nodes.{nodes}
use Rattle.eval_forms.specs.Asked.{asked, AllFitAsked}
use Rattle.eval_forms.specs.Callees.{formals_in}
use Rattle.eval_forms.proofs.AskedLaws.{AllFewer}
use Rattle.expr_flows.specs.Known.{sight}
use Rattle.expr_flows.proofs.Operands.{AllFull, all_constant, asks}
use Rattle.design_breaks.specs.Indices.{lesser}
use Rattle.loop_laws.specs.Operands.{all_long}
use Rattle.bound_values.specs.Looks.{SureAs}
use Rattle.bound_values.proofs.looks.+looks.Given as goal

abbrev pub decreases-look_within : goal.decreases-look_within
decreases-look_within l = 8 * nodes l.e.now + 4

abbrev pub decreases-path_look : goal.decreases-path_look
decreases-path_look l = 8 * nodes l.e.now + 3

abbrev pub decreases-look_at : goal.decreases-look_at
decreases-look_at l = 8 * nodes l.e.now + 6

abbrev pub decreases-indexed_look : goal.decreases-indexed_look
decreases-indexed_look l = 8 * (nodes l.from.now + nodes l.i.now) + 7

abbrev pub decreases-operands_look : goal.decreases-operands_look
decreases-operands_look l = 8 * nodes l.e.now + 2

abbrev pub decreases-asked_look : goal.decreases-asked_look
decreases-asked_look l = 8 * nodes l.operand.of.now + 5

abbrev pub invariant-operands_look-loop-operand : goal.invariant-operands_look-loop-operand
invariant-operands_look-loop-operand l =
    let fs = formals_in l.known.functions.now in
    let rest = drop l.operand-index l.operand-items in
    let qs = map asked rest in
    let all = asks l.e fs l.width l.signed in
    record {
      fits : AllFitAsked fs qs;
      fewer : AllFewer (nodes l.e) qs;
      full : AllFull fs qs;
      here : map asked l.operand-items ≡ all;
      known : (h : Sight) → SureAs l.known.variables.now h → (l.seen.constant && all_constant h qs) ≡ all_constant h all;
      longest : lesser l.seen.long (all_long (sight l.known) qs) ≡ all_long (sight l.known) all;
    }
