use Rattle.ll_engine.specs.Machine.{levels_of}
use Rattle.ll_engine.proofs.Progress.{Progress}
use Rattle.ll_engine.proofs.tables.Tables.read.Given as goal

abbrev pub invariant-loop-at : goal.invariant-loop-at
invariant-loop-at l = Progress l.self.rows l.head l.limit l.symbols l.at (levels_of l.self.rows l.state)
