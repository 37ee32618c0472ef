use Rattle.std.proofs.Common.{◌≡◌, drop}
use Rattle.v_rules.specs.Tables.{numbers_in}
use Rattle.v_circles.specs.Calls.{items_walked, walked}
use Rattle.v_circles.proofs.calls.items_walked.Given as goal

abbrev pub invariant-loop-item : goal.invariant-loop-item
invariant-loop-item l =
    items_walked (numbers_in l.modules) l.from (drop l.item-index l.items) (walked l.at l.calls)
    ≡ items_walked (numbers_in l.fn.modules) l.fn.from l.fn.items (walked l.fn.start l.fn.calls)
