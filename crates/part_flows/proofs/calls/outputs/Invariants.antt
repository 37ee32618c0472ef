use Rattle.std.proofs.Common.{map, drop}
use Rattle.sv_types.specs.Flows.{all_written_out}
use Rattle.sv_types.specs.Functions.{parameter}
use Rattle.sv_types.specs.Expressions.{meaning}
use Rattle.eval_forms.specs.Callees.{formals_in}
use Rattle.flow_sets.specs.Ends.{AreKnown}
use Rattle.expr_flows.specs.Known.{sight}
use Rattle.part_flows.proofs.Passing.{Left, Leads}
use Rattle.part_flows.proofs.calls.outputs.Given as goal

abbrev pub invariant-loop-i : goal.invariant-loop-i
invariant-loop-i l =
    let k = sight l.known in
    let fs = drop l.i l.formals in
    let es = drop l.i l.actuals in
    record {
      known : AreKnown l.found.ends;
      left : Left fs es (formals_in l.known.functions.now);
      leads : Leads l.found (all_written_out (map parameter fs) (map meaning es) k) (all_written_out (map parameter l.formals) (map meaning l.actuals) k);
    }
