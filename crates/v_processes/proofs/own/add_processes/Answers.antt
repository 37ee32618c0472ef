use Rattle.std.proofs.Common.{◌+◌, ◌++◌, [], ◌∷◌, List, drop, ap, ◌∙◌}
use Rattle.v_tree.specs.declared.items.VItem.{VItem}
use Rattle.v_meaning.specs.Modules.{processes, signal_count, scope_of, below}
use Rattle.v_processes.specs.Processes.{processes_at, items_at}
use Rattle.v_processes.specs.Stems.{sources_at, own_sources}
use Rattle.v_processes.proofs.Kept.{drop-here, turn}
use Rattle.v_processes.proofs.ItemParts.{processes-cons, sources-cons}
use Rattle.v_processes.proofs.own.add_processes.Goals as goal

pub loop-item-preserved : goal.loop-item-preserved
loop-item-preserved c =
    let ms = c.args.design.modules.now in
    let count = signal_count c.args.depth ms in
    let own = items_at ms c.args.own.of in
    let sc = scope_of c.args.own.first own in
    let i = c.loop-item.item-index in
    let n = c.loop-item.next in
    let item = c.item-item.result in
    let rest = drop (i + 1) c.args.items.now in
    let here = drop-here c.args.items.now i item c.loop-item-test.true c.item-item.is in
    record {
      processes =
          ap (λ k. processes_at ms c.add_item.new.to ++ processes ms count sc k rest) c.in_ok-next.ensures.next
          ∙ turn (processes_at ms c.loop-item.to) (processes_at ms c.add_item.new.to) (processes ms count sc n (item ∷ [])) (processes ms count sc (n + below count (item ∷ [])) rest)
          (processes ms count sc n (drop i c.args.items.now)) _ c.in_ok-next.ensures.processes
          (ap (λ (is : List VItem). processes ms count sc n is) here ∙ processes-cons ms count sc n item rest) c.loop-item.invariant.processes;
      sources =
          ap (λ k. sources_at ms c.add_item.new.to ++ own_sources ms count own k rest) c.in_ok-next.ensures.next
          ∙ turn (sources_at ms c.loop-item.to) (sources_at ms c.add_item.new.to) (own_sources ms count own n (item ∷ [])) (own_sources ms count own (n + below count (item ∷ [])) rest)
          (own_sources ms count own n (drop i c.args.items.now)) _ c.in_ok-next.ensures.sources
          (ap (λ (is : List VItem). own_sources ms count own n is) here ∙ sources-cons ms count own n item rest) c.loop-item.invariant.sources;
    }
