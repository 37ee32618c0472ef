use Rattle.std.proofs.Common.{◌≡◌, map, drop}
use Rattle.body_mentions.specs.Walk.{one_by_one, all_bodies, item_walk, stmt_walk}
use Rattle.body_mentions.proofs.stmts.+statements.Given as goal

abbrev pub invariant-add_items-loop-item : goal.invariant-add_items-loop-item
invariant-add_items-loop-item l = all_bodies (map item_walk (drop l.item-index l.items)) l.to ≡ all_bodies (map item_walk l.fn.items) l.fn.to

abbrev pub invariant-add_body-loop-stmt : goal.invariant-add_body-loop-stmt
invariant-add_body-loop-stmt l = one_by_one (map stmt_walk (drop l.stmt-index l.body)) l.to ≡ one_by_one (map stmt_walk l.fn.body) l.fn.to
