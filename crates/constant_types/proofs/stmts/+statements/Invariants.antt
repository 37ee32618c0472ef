use Rattle.std.proofs.Common.{◌≡◌, map, drop}
use Rattle.expr_type.specs.Uses.{in_turn, item_uses, stmt_uses}
use Rattle.constant_types.proofs.stmts.+statements.Given as goal

abbrev pub invariant-add_items-loop-item : goal.invariant-add_items-loop-item
invariant-add_items-loop-item l = in_turn (map item_uses (drop l.item-index l.items)) l.to ≡ in_turn (map item_uses l.fn.items) l.fn.to

abbrev pub invariant-add_body-loop-stmt : goal.invariant-add_body-loop-stmt
invariant-add_body-loop-stmt l = in_turn (map stmt_uses (drop l.stmt-index l.body)) l.to ≡ in_turn (map stmt_uses l.fn.body) l.fn.to
