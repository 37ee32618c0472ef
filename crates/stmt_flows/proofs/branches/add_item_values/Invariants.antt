use Rattle.std.proofs.Common.{◌≡◌, true, List, drop}
use Rattle.bit_sets.specs.declared.span.Use.{Use}
use Rattle.sv_types.specs.Flows.{all_reads}
use Rattle.eval_forms.specs.Callees.{formals_in}
use Rattle.eval_stmts.specs.Targets.{values_of}
use Rattle.expr_flows.specs.Full.{all_full}
use Rattle.expr_flows.specs.Known.{sight}
use Rattle.expr_flows.specs.Traces.{Adds}
use Rattle.stmt_flows.specs.Branches.{ItemsFitAlone}
use Rattle.stmt_flows.specs.Long.{item_values}
use Rattle.stmt_flows.proofs.branches.add_item_values.Given as goal

abbrev pub invariant-loop-item : goal.invariant-loop-item
invariant-loop-item l =
    let fs = formals_in l.known.functions.now in
    let k = sight l.known in
    let rest = drop l.item-index l.items in
    record {
      fits : ItemsFitAlone rest fs;
      full : all_full fs (item_values rest) ≡ true;
      adds : (final : List Use) → Adds l.to final (all_reads (values_of rest) k) → Adds l.initial.to final (all_reads (values_of l.items) k);
    }
