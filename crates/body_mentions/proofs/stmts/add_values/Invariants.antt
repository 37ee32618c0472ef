use Rattle.std.proofs.Common.{◌≡◌, map, drop}
use Rattle.body_mentions.specs.Walk.{all_values, item_walk}
use Rattle.body_mentions.proofs.stmts.add_values.Given as goal

abbrev pub invariant-loop-item : goal.invariant-loop-item
invariant-loop-item l = all_values (map item_walk (drop l.item-index l.items)) l.to ≡ all_values (map item_walk l.items) l.fn.to
