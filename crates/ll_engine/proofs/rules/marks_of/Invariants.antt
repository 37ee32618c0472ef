use Rattle.std.proofs.Common.{◌≡◌, length}
use Rattle.ll_engine.specs.Marks.{AreSound, unmarked}
use Rattle.ll_engine.proofs.rules.marks_of.Given as goal

abbrev pub invariant-loop : goal.invariant-loop
invariant-loop l = record { sound : AreSound l.rules l.marks.items; long : length l.marks.items ≡ l.count }

abbrev pub decreases-loop : goal.decreases-loop
decreases-loop l = unmarked l.marks.items
