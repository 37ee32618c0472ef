use Rattle.std.proofs.Common.{◌≡◌, map, drop}
use Rattle.std.specs.Prelude.{option_copied}
use Rattle.break_spots.specs.Walk.{in_turn, stmt_walk, item_walk}
use Rattle.break_spots.proofs.stmts.+statements.Given as goal

abbrev pub invariant-in_items-loop-item : goal.invariant-in_items-loop-item
invariant-in_items-loop-item l = in_turn (map (item_walk l.at) (drop l.item-index l.items)) (option_copied l.first) ≡ in_turn (map (item_walk l.at) l.items) (option_copied l.found)

abbrev pub invariant-in_body-loop-stmt : goal.invariant-in_body-loop-stmt
invariant-in_body-loop-stmt l = in_turn (map (stmt_walk l.at) (drop l.stmt-index l.body)) (option_copied l.first) ≡ in_turn (map (stmt_walk l.at) l.body) (option_copied l.found)
