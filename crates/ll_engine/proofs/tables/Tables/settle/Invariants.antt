use Rattle.ll_engine.specs.Machine.{levels_of}
use Rattle.ll_engine.specs.Steps.{Reaches}
use Rattle.ll_engine.specs.Weight.{weight}
use Rattle.ll_engine.proofs.tables.Tables.settle.Given as goal

abbrev pub invariant-loop-stop : goal.invariant-loop-stop
invariant-loop-stop l =
    Reaches l.self.rows l.token (levels_of l.self.rows l.initial.state) (levels_of l.self.rows l.state)

abbrev pub decreases-loop-stop : goal.decreases-loop-stop
decreases-loop-stop l = weight l.self.rows l.self.heads (levels_of l.self.rows l.state)
