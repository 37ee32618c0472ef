use Rattle.std.proofs.Common.{◌≡◌, true, List, map, drop}
use Rattle.bit_sets.specs.declared.span.Use.{Use}
use Rattle.sv_types.specs.Expressions.{meaning}
use Rattle.sv_types.specs.Flows.{all_reads}
use Rattle.eval_forms.specs.Callees.{formals_in}
use Rattle.eval_parts.specs.Limits.{AllFit}
use Rattle.expr_flows.specs.Full.{all_full}
use Rattle.expr_flows.specs.Known.{sight}
use Rattle.expr_flows.specs.Traces.{Adds}
use Rattle.stmt_flows.proofs.branches.add_values.Given as goal

abbrev pub invariant-loop-e : goal.invariant-loop-e
invariant-loop-e l =
    let fs = formals_in l.known.functions.now in
    let k = sight l.known in
    let rest = drop l.e-index l.values in
    record {
      fits : AllFit rest fs;
      full : all_full fs rest ≡ true;
      adds : (final : List Use) → Adds l.to final (all_reads (map meaning rest) k) → Adds l.initial.to final (all_reads (map meaning l.values) k);
    }
