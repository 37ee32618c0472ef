use Rattle.std.proofs.Common.{ℕ, ◌++◌, List, ap}
use Rattle.std.specs.Prelude.{filter}
use Rattle.package_scope.specs.Finding.{loops_in, is_loop_of}
use Rattle.package_scope.specs.declared.table.LoopRun.{LoopRun}
use Rattle.package_scope.proofs.Kept.{loop-push}
use Rattle.package_scope.proofs.loops.loops_of.Goals as goal

pub loop-run-init : goal.loop-run-init
loop-run-init c = λ s. ap (λ (f : ℕ → List LoopRun). f s ++ filter (is_loop_of s) c.args.list.now) c.new-loops.ensures

pub loop-run-preserved : goal.loop-run-preserved
loop-run-preserved c =
    loop-push (loops_in c.loop-run.loops) (loops_in c.push.new.self) c.args.list.now c.loop-run.run-index _
    c.loop-run-test.true c.in_ok-push.ensures c.loop-run.invariant
