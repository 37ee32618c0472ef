use Rattle.std.proofs.Common.{[], List, map, drop}
use Rattle.bit_sets.specs.declared.span.Use.{Use}
use Rattle.sv_types.specs.Flows.{all_read_in}
use Rattle.sv_types.specs.Functions.{parameter}
use Rattle.sv_types.specs.Expressions.{meaning}
use Rattle.eval_forms.specs.Callees.{formals_in}
use Rattle.expr_flows.specs.Known.{sight}
use Rattle.expr_flows.specs.Traces.{Adds}
use Rattle.part_flows.proofs.Passing.{Left}
use Rattle.part_flows.proofs.calls.inputs.Given as goal

abbrev pub invariant-loop-i : goal.invariant-loop-i
invariant-loop-i l =
    let k = sight l.known in
    let fs = drop l.i l.formals in
    let es = drop l.i l.actuals in
    record {
      left : Left fs es (formals_in l.known.functions.now);
      adds : (final : List Use) → Adds l.reads final (all_read_in (map parameter fs) (map meaning es) k) → Adds [] final (all_read_in (map parameter l.formals) (map meaning l.actuals) k);
    }
