use Rattle.std.proofs.Common.{◌≡◌, ◌≤◌, length, drop}
use Rattle.v_rules.specs.Tables.{numbers_in, numbers_from, ports_in}
use Rattle.v_rules.proofs.modules.Modules.number_all.Given as goal

abbrev pub invariant-loop-at : goal.invariant-loop-at
invariant-loop-at l =
    (l.at ≤ length l.modules) × (numbers_in l.self ≡ numbers_from l.at (drop l.at l.modules) (numbers_in l.fn.self)) × (ports_in l.self ≡ ports_in l.fn.self)

abbrev pub decreases-loop-at : goal.decreases-loop-at
decreases-loop-at l = l.at
