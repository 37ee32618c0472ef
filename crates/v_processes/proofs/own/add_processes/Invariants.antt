use Rattle.std.proofs.Common.{◌≡◌, ◌++◌, drop}
use Rattle.v_meaning.specs.Modules.{processes, signal_count, scope_of}
use Rattle.v_processes.specs.Processes.{processes_at, items_at}
use Rattle.v_processes.specs.Stems.{sources_at, own_sources}
use Rattle.v_processes.proofs.own.add_processes.Given as goal

abbrev pub invariant-loop-item : goal.invariant-loop-item
invariant-loop-item l = record {
  processes :
      processes_at l.design.modules.now l.to
      ++ processes l.design.modules.now (signal_count l.depth l.design.modules.now) (scope_of l.own.first (items_at l.design.modules.now l.own.of)) l.next (drop l.item-index l.items)
      ≡ processes_at l.fn.design.modules.now l.fn.to
      ++ processes l.fn.design.modules.now (signal_count l.fn.depth l.fn.design.modules.now) (scope_of l.fn.own.first (items_at l.fn.design.modules.now l.fn.own.of)) l.fn.n l.fn.items;
  sources :
      sources_at l.design.modules.now l.to
      ++ own_sources l.design.modules.now (signal_count l.depth l.design.modules.now) (items_at l.design.modules.now l.own.of) l.next (drop l.item-index l.items)
      ≡ sources_at l.fn.design.modules.now l.fn.to
      ++ own_sources l.fn.design.modules.now (signal_count l.fn.depth l.fn.design.modules.now) (items_at l.fn.design.modules.now l.fn.own.of) l.fn.n l.fn.items;
}
