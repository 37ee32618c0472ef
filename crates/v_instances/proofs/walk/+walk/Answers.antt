use Rattle.std.proofs.Common.{◌-◌, ◌+◌, drop, ap, sym, ◌∙◌, [], ◌∷◌, ◌++◌, map, length, arith}
use Rattle.v_rules.specs.Tables.{numbers_in}
use Rattle.v_instances.specs.Slots.{signal_of}
use Rattle.v_meaning.specs.Modules.{signal_count}
use Rattle.v_instances.specs.Instances.{child_instances, instances_from}
use Rattle.v_instances.specs.Walks.{inst_of, items_at, child_signals, signals_from}
use Rattle.v_instances.proofs.Counting.{signals-none, instances-none, enter-signals, enter-instances, slots-own, append-nil, items-numbered, where-ok, inst-of, drop-here, turn-signals, turn-instances}
use Rattle.v_instances.proofs.walk.+walk.Goals as goal

pub enter-returns-then-depth-eq0-clause-signals : goal.enter-returns-then-depth-eq0-clause-signals
enter-returns-then-depth-eq0-clause-signals t c =
    sym (append-nil (map signal_of c.args.walk.now.slots)) ∙ ap (λ l. map signal_of c.args.walk.now.slots ++ l) (sym (signals-none c.args.depth c.args.modules.now c.args.name.now c.if-depth-eq0.true))

pub enter-returns-then-depth-eq0-clause-instances : goal.enter-returns-then-depth-eq0-clause-instances
enter-returns-then-depth-eq0-clause-instances t c =
    sym (append-nil c.args.walk.now.insts)
    ∙ ap (λ l. c.args.walk.now.insts ++ map (inst_of (numbers_in c.args.table.now)) l) (sym (instances-none c.args.depth c.args.modules.now (length c.args.walk.now.slots) c.args.name.now c.if-depth-eq0.true))

pub enter-returns-clause-signals : goal.enter-returns-clause-signals
enter-returns-clause-signals t c =
    let ms = c.args.modules.now in
    let found = c.items_at-items.ensures ∙ (ap (items_at ms) (c.number-of.ensures ∙ ap (λ ns. ns c.args.name.now) c.requires.numbers) ∙ items-numbered ms c.args.name.now) in
    where-ok c.enter_children.result
    (enter-signals c.args.depth (c.args.depth - 1) ms c.args.name.now c.items_at-items.result.now (map signal_of c.args.walk.now.slots) (map signal_of c.add_signals.new.slots) (map signal_of c.enter_children.new.walk.slots)
    (omega (arith, c.if-depth-eq0.false)) found c.in_ok-add_signals.ensures)
    c.enter_children.ensures.signals

pub enter-returns-clause-instances : goal.enter-returns-clause-instances
enter-returns-clause-instances t c =
    let ms = c.args.modules.now in
    let found = c.items_at-items.ensures ∙ (ap (items_at ms) (c.number-of.ensures ∙ ap (λ ns. ns c.args.name.now) c.requires.numbers) ∙ items-numbered ms c.args.name.now) in
    where-ok c.enter_children.result
    (enter-instances c.args.depth (c.args.depth - 1) ms (length c.args.walk.now.slots) (length c.add_signals.new.slots) c.args.name.now c.items_at-items.result.now (numbers_in c.args.table.now) c.args.walk.now.insts c.push.new.self c.enter_children.new.walk.insts
    (omega (arith, c.if-depth-eq0.false)) found
    (slots-own c.args.walk.now.slots c.add_signals.new.slots _ c.in_ok-add_signals.ensures)
    (c.in_ok-push.ensures.ok ∙ ap (λ x. c.args.walk.now.insts ++ (x ∷ [])) (inst-of c.number-of.result (numbers_in c.args.table.now c.args.name.now) c.len-first.result (length c.args.walk.now.slots) c.number-of.ensures c.len-first.ensures)))
    c.enter_children.ensures.instances

pub enter_children-loop-item-preserved : goal.enter_children-loop-item-preserved
enter_children-loop-item-preserved t c =
    let ms = c.args.modules.now in
    let depth = c.args.depth in
    let ns = numbers_in c.args.table.now in
    let old = c.loop-item.walk in
    let new = c.enter_child.new.walk in
    let item = c.item-item.result in
    let rest = drop (c.loop-item.item-index + 1) c.args.items.now in
    let here = sym (drop-here c.args.items.now c.loop-item.item-index item c.loop-item-test.true c.item-item.is) in (
      turn-signals (signals_from depth ms) item rest (map signal_of old.slots) (map signal_of new.slots) _ c.in_ok-enter_child.ensures.signals
          (ap (λ l. map signal_of old.slots ++ child_signals (signals_from depth ms) l) here ∙ c.loop-item.invariant.0),
      turn-instances depth ms ns item rest old.slots new.slots old.insts new.insts _ c.in_ok-enter_child.ensures.signals c.in_ok-enter_child.ensures.instances
          (ap (λ l. old.insts ++ map (inst_of ns) (child_instances (instances_from depth ms) (signal_count depth ms) (length old.slots) l)) here ∙ c.loop-item.invariant.1),
    )
