use Rattle.std.proofs.Common.{◌≡◌, true, drop}
use Rattle.eval_forms.specs.Callees.{formals_in}
use Rattle.expr_flows.specs.Full.{all_full}
use Rattle.expr_flows.specs.Known.{sight}
use Rattle.stmt_flows.specs.Branches.{ItemsFitAlone}
use Rattle.loop_laws.specs.Walks.{see, values}
use Rattle.loop_rules.proofs.walks.see_items.Given as goal

abbrev pub invariant-loop-item : goal.invariant-loop-item
invariant-loop-item l =
    let rest = drop l.item-index l.items in
    let fs = formals_in l.known.functions.now in
    record {
      fits : ItemsFitAlone rest fs;
      full : all_full fs (values rest) ≡ true;
      same : see (values rest) (sight l.known) l.now ≡ see (values l.items) (sight l.known) l.fn.so_far;
    }
