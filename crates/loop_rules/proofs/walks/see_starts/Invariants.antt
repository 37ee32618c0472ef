use Rattle.std.proofs.Common.{◌≡◌, true, drop}
use Rattle.eval_forms.specs.Callees.{formals_in}
use Rattle.eval_stmts.specs.Limits.{AllLocalsFit}
use Rattle.expr_flows.specs.Full.{all_full}
use Rattle.expr_flows.specs.Known.{sight}
use Rattle.stmt_flows.specs.Full.{written_starts}
use Rattle.design_breaks.specs.Unrolling.{starts_of}
use Rattle.loop_laws.specs.Walks.{see}
use Rattle.loop_rules.proofs.walks.see_starts.Given as goal

abbrev pub invariant-loop-l : goal.invariant-loop-l
invariant-loop-l l =
    let rest = drop l.l-index l.locals in
    let fs = formals_in l.known.functions.now in
    record {
      fits : AllLocalsFit rest fs;
      full : all_full fs (written_starts rest) ≡ true;
      same : see (starts_of rest) (sight l.known) l.now ≡ see (starts_of l.locals) (sight l.known) l.fn.so_far;
    }
