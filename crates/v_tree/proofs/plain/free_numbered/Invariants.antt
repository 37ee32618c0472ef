use Rattle.std.proofs.Common.{◌≡◌, ◌-◌, ◌+◌}
use Rattle.v_tree.specs.Printing.{free_from}
use Rattle.v_tree.specs.Takings.{taken_in}
use Rattle.v_tree.proofs.plain.free_numbered.Given as goal

abbrev pub invariant-loop-tried : goal.invariant-loop-tried
invariant-loop-tried l = free_from (l.count - l.tried) (taken_in l.taken) l.name (l.tried + 2) ≡ free_from l.count (taken_in l.taken) l.name 2
