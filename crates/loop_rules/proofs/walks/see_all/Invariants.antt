use Rattle.std.proofs.Common.{◌≡◌, true, drop}
use Rattle.eval_forms.specs.Callees.{formals_in}
use Rattle.eval_parts.specs.Limits.{AllFit}
use Rattle.expr_flows.specs.Full.{all_full}
use Rattle.expr_flows.specs.Known.{sight}
use Rattle.loop_laws.specs.Walks.{see}
use Rattle.loop_rules.proofs.walks.see_all.Given as goal

abbrev pub invariant-loop-e : goal.invariant-loop-e
invariant-loop-e l =
    let rest = drop l.e-index l.es in
    let fs = formals_in l.known.functions.now in
    record {
      fits : AllFit rest fs;
      full : all_full fs rest ≡ true;
      same : see rest (sight l.known) l.now ≡ see l.es (sight l.known) l.fn.so_far;
    }
