use Rattle.std.proofs.Common.{◌≡◌, drop, map}
use Rattle.v_stmt_rules.specs.Labels.{in_turn}
use Rattle.v_stmt_rules.specs.Stmts.{stmt_labels, item_labels, stmt_told, item_told}
use Rattle.v_stmt_rules.proofs.labels.+labels.Given as goal

abbrev pub invariant-items_labels-loop-item : goal.invariant-items_labels-loop-item
invariant-items_labels-loop-item l = in_turn (item_labels (map item_told (drop l.item-index l.items))) l.to ≡ in_turn (item_labels (map item_told l.fn.items)) l.fn.to

abbrev pub invariant-stmts_labels-loop-stmt : goal.invariant-stmts_labels-loop-stmt
invariant-stmts_labels-loop-stmt l = in_turn (stmt_labels (map stmt_told (drop l.stmt-index l.stmts))) l.to ≡ in_turn (stmt_labels (map stmt_told l.fn.stmts)) l.fn.to
