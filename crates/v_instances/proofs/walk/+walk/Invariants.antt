use Rattle.std.proofs.Common.{◌≡◌, ◌+◌, ◌*◌, ◌++◌, length, map, drop}
use Rattle.v_meaning.specs.Modules.{signal_count}
use Rattle.v_rules.specs.Tables.{numbers_in}
use Rattle.v_instances.specs.Instances.{child_instances, instances_from}
use Rattle.v_instances.specs.Slots.{signal_of}
use Rattle.v_instances.specs.Walks as spec
use Rattle.v_instances.proofs.walk.+walk.Given as goal

abbrev pub invariant-enter_children-loop-item : goal.invariant-enter_children-loop-item
invariant-enter_children-loop-item l =
    (map signal_of l.walk.slots ++ spec.child_signals (spec.signals_from l.depth l.modules) (drop l.item-index l.items)
    ≡ map signal_of l.fn.walk.slots ++ spec.child_signals (spec.signals_from l.fn.depth l.fn.modules) l.fn.items)
    × (l.walk.insts ++ map (spec.inst_of (numbers_in l.table)) (child_instances (instances_from l.depth l.modules) (signal_count l.depth l.modules) (length l.walk.slots) (drop l.item-index l.items))
    ≡ l.fn.walk.insts ++ map (spec.inst_of (numbers_in l.fn.table)) (child_instances (instances_from l.fn.depth l.fn.modules) (signal_count l.fn.depth l.fn.modules) (length l.fn.walk.slots) l.fn.items))

abbrev pub decreases-enter : goal.decreases-enter
decreases-enter l = 3 * l.depth

abbrev pub decreases-enter_children : goal.decreases-enter_children
decreases-enter_children l = 3 * l.depth + 2

abbrev pub decreases-enter_child : goal.decreases-enter_child
decreases-enter_child l = 3 * l.depth + 1
