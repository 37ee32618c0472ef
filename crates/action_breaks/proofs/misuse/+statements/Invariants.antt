use Rattle.std.proofs.Common.{◌≡◌, map, drop}
use Rattle.action_breaks.specs.Misuse.{in_turn, stmt_walk, item_walk}
use Rattle.action_breaks.proofs.misuse.+statements.Given as goal

abbrev pub invariant-add_items-loop-item : goal.invariant-add_items-loop-item
invariant-add_items-loop-item l = in_turn (map (item_walk l.functions) (drop l.item-index l.items)) l.misuse ≡ in_turn (map (item_walk l.fn.functions) l.fn.items) l.fn.so_far

abbrev pub invariant-add_body-loop-stmt : goal.invariant-add_body-loop-stmt
invariant-add_body-loop-stmt l = in_turn (map (stmt_walk l.functions) (drop l.stmt-index l.body)) l.misuse ≡ in_turn (map (stmt_walk l.fn.functions) l.fn.body) l.fn.so_far
