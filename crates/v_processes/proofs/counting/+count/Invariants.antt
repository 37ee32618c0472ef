use Rattle.std.proofs.Common.{◌≡◌, ◌+◌, ◌*◌, drop}
use Rattle.v_meaning.specs.Modules.{signal_count, below}
use Rattle.v_processes.proofs.counting.+count.Given as goal

abbrev pub invariant-count_below-loop-item : goal.invariant-count_below-loop-item
invariant-count_below-loop-item l =
    l.count + below (signal_count l.depth l.design.modules.now) (drop l.item-index l.items) ≡ below (signal_count l.fn.depth l.fn.design.modules.now) l.fn.items

abbrev pub decreases-signal_count : goal.decreases-signal_count
decreases-signal_count l = 3 * l.depth

abbrev pub decreases-count_below : goal.decreases-count_below
decreases-count_below l = 3 * l.depth + 2

abbrev pub decreases-count_item : goal.decreases-count_item
decreases-count_item l = 3 * l.depth + 1
