use Rattle.std.proofs.Common.{Err, sym, subst}
use Rattle.eval_top.specs.declared.run.Stop.{Stop}
use Rattle.eval_top.specs.Parts.{TraceGives}
use Rattle.eval_top.proofs.DesignRuns.{takes-rows, gives-trace, fails-at}
use Rattle.eval_top.proofs.running.trace_of.Goals as goal

pub run-requires-clause-rows : goal.run-requires-clause-rows
run-requires-clause-rows c = takes-rows c.args.design.now c.args.top.now c.args.rows.now c.requires.rows

pub returns-in-Ok : goal.returns-in-Ok
returns-in-Ok c = gives-trace c.args.design.now c.args.top.now c.args.rows.now c.in-Ok.trace c.in-Ok.ensures

pub returns-in_ok-stop_of-in-Err : goal.returns-in_ok-stop_of-in-Err
returns-in_ok-stop_of-in-Err c =
    subst (λ (s : Stop). TraceGives c.args.design.now c.args.top.now c.args.rows.now (Err s)) (sym c.in_ok-stop_of-in-Err.ensures)
    (fails-at c.args.design.now c.args.top.now c.args.rows.now c.in-Err.fail c.in-Err.ensures)
