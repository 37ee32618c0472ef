use Rattle.std.proofs.Common.{◌≡◌, drop}
use Rattle.v_rules.specs.Tables.{numbers_in}
use Rattle.v_circles.specs.Calls.{modules_walked, walked, nothing_walked}
use Rattle.v_circles.proofs.calls.module_calls.Given as goal

abbrev pub invariant-loop-number : goal.invariant-loop-number
invariant-loop-number l =
    modules_walked (numbers_in l.table) l.number (drop l.number l.modules) (walked l.at l.calls)
    ≡ modules_walked (numbers_in l.fn.table) 0 l.fn.modules nothing_walked
