use Rattle.std.proofs.Common.{◌≡◌, ◌+◌, ◌*◌, ◌≤◌, map, drop}
use Rattle.row_machine.specs.Steps.{then_changes}
use Rattle.sv_types.specs.Meanings.{total}
use Rattle.sv_types.specs.Operators.{puts_all, places_all, width_of_all}
use Rattle.sv_types.specs.Expressions.{meaning}
use Rattle.eval_parts.specs.Steps.{is_held}
use Rattle.eval_parts.specs.Surroundings.{running}
use Rattle.eval_parts.proofs.Nodes.{nodes}
use Rattle.eval_exprs.specs.Held.{around, formals}
use Rattle.eval_stmts.specs.Environments.{updates, AllReady}
use Rattle.eval_stmts.specs.Parts.{PartsFit}
use Rattle.eval_stmts.proofs.targets.+collect.Given as goal

abbrev pub decreases-collect : goal.decreases-collect
decreases-collect g l = 2 * nodes l.e.now

abbrev pub decreases-collect_all : goal.decreases-collect_all
decreases-collect_all g l = 2 * total (map nodes l.es.now) + 1

abbrev pub invariant-collect_all-loop-e : goal.invariant-collect_all-loop-e
invariant-collect_all-loop-e g l =
    let es = drop l.e-index l.es in
    let ms = map meaning es in
    let all = map meaning l.es in
    let a = around l.held in
    record {
      above : l.above ≡ width_of_all ms;
      fit : PartsFit es (formals l.held.scope) (is_held l.held.signals.now);
      few : total (map nodes es) ≤ total (map nodes l.es);
      changes : then_changes (updates l.to.items) (puts_all ms a l.value) ≡ then_changes (updates l.initial.to.items) (puts_all all a l.value);
      ready : AllReady l.initial.to.items a.holds → AllReady l.to.items a.holds;
      runs : places_all ms a (running l.budget) ≡ places_all all a (running l.initial.budget);
    }
