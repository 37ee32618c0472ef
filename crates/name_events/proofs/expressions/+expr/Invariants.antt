use Rattle.std.proofs.Common.{◌≡◌, drop, map}
use Rattle.name_events.specs.Steps.{in_turn}
use Rattle.name_events.specs.Expressions as means
use Rattle.name_events.proofs.expressions.+expr.Given as goal

abbrev pub invariant-exprs-loop-one : goal.invariant-exprs-loop-one
invariant-exprs-loop-one l = means.expressions (drop l.one-index l.list) l.to ≡ means.expressions l.list l.fn.to

abbrev pub invariant-dimensions-loop-dimension : goal.invariant-dimensions-loop-dimension
invariant-dimensions-loop-dimension l = means.dimensions l.of (drop l.dimension-index l.list) l.to ≡ means.dimensions l.of l.list l.fn.to

abbrev pub invariant-selects-loop-select : goal.invariant-selects-loop-select
invariant-selects-loop-select l = means.selects (drop l.select-index l.list) l.to ≡ means.selects l.list l.fn.to

abbrev pub invariant-value_ranges-loop-range : goal.invariant-value_ranges-loop-range
invariant-value_ranges-loop-range l = in_turn (map means.value_range_events (drop l.range-index l.list)) l.to ≡ in_turn (map means.value_range_events l.list) l.fn.to

abbrev pub invariant-pattern_items-loop-item : goal.invariant-pattern_items-loop-item
invariant-pattern_items-loop-item l = in_turn (map means.pattern_item_events (drop l.item-index l.list)) l.to ≡ in_turn (map means.pattern_item_events l.list) l.fn.to
