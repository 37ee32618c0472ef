use Rattle.std.proofs.Common.{◌≡◌, drop, []}
use Rattle.v_rules.specs.Tables.{numbers_in}
use Rattle.v_top_rules.specs.Sums.{below_from}
use Rattle.v_top_rules.proofs.nodes.items_below.Given as goal

abbrev pub invariant-loop-item : goal.invariant-loop-item
invariant-loop-item l = below_from (numbers_in l.table) (drop l.item-index l.items) l.below ≡ below_from (numbers_in l.fn.table) l.fn.items []
