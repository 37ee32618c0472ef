use Rattle.std.proofs.Common.{◌≡◌, ◌+◌, ◌*◌, ◌++◌, drop}
use Rattle.v_processes.specs.Processes.{processes_at}
use Rattle.v_processes.specs.Stems.{sources_at}
use Rattle.v_processes.specs.Walks.{initials_of, child_parts, below_sources}
use Rattle.v_processes.proofs.walk.+enter.Given as goal

abbrev pub invariant-enter_children-loop-item : goal.invariant-enter_children-loop-item
invariant-enter_children-loop-item l = record {
  processes :
      processes_at l.design.modules.now l.to.procs ++ (child_parts l.depth l.design.modules.now l.next (drop l.item-index l.items)).processes
      ≡ processes_at l.fn.design.modules.now l.fn.to.procs ++ (child_parts l.fn.depth l.fn.design.modules.now l.fn.n l.fn.items).processes;
  initials :
      initials_of l.to.initials ++ (child_parts l.depth l.design.modules.now l.next (drop l.item-index l.items)).initials
      ≡ initials_of l.fn.to.initials ++ (child_parts l.fn.depth l.fn.design.modules.now l.fn.n l.fn.items).initials;
  sources :
      sources_at l.design.modules.now l.to.procs ++ below_sources l.depth l.design.modules.now l.next (drop l.item-index l.items)
      ≡ sources_at l.fn.design.modules.now l.fn.to.procs ++ below_sources l.fn.depth l.fn.design.modules.now l.fn.n l.fn.items;
}

abbrev pub decreases-enter : goal.decreases-enter
decreases-enter l = 4 * l.depth

abbrev pub decreases-enter_module : goal.decreases-enter_module
decreases-enter_module l = 4 * l.depth + 3

abbrev pub decreases-enter_children : goal.decreases-enter_children
decreases-enter_children l = 4 * l.depth + 2

abbrev pub decreases-enter_child : goal.decreases-enter_child
decreases-enter_child l = 4 * l.depth + 1
