use Rattle.std.proofs.Common.{◌≡◌, ◌++◌, map, drop}
use Rattle.lower_design.specs.Lowered.{lowered_stmt}
use Rattle.lower_design.proofs.process.+statement.Given as goal

abbrev pub invariant-lower_each-loop-stmt : goal.invariant-lower_each-loop-stmt
invariant-lower_each-loop-stmt l =
    l.lowered ++ map (lowered_stmt l.signals) (drop l.stmt-index l.stmts) ≡ map (lowered_stmt l.signals) l.stmts
