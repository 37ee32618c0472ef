use Rattle.std.proofs.Common.{◌≡◌, map, drop}
use Rattle.memory_breaks.specs.Bodies.{one_by_one, item_walk, stmt_walk}
use Rattle.memory_breaks.proofs.bodies.+statements.Given as goal

abbrev pub invariant-mark_items-loop-item : goal.invariant-mark_items-loop-item
invariant-mark_items-loop-item l = one_by_one (map (item_walk l.functions) (drop l.item-index l.items)) l.marks ≡ one_by_one (map (item_walk l.fn.functions) l.fn.items) l.fn.marks

abbrev pub invariant-mark_body-loop-stmt : goal.invariant-mark_body-loop-stmt
invariant-mark_body-loop-stmt l = one_by_one (map (stmt_walk l.functions) (drop l.stmt-index l.body)) l.marks ≡ one_by_one (map (stmt_walk l.fn.functions) l.fn.body) l.fn.marks
