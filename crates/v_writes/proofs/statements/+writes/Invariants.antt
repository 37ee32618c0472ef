use Rattle.std.proofs.Common.{◌≡◌, ◌≤◌, ◌++◌, map, drop}
use Rattle.v_meaning.specs.Statements.{sequence, otherwise, doing}
use Rattle.v_eval.specs.Scopes.{scope_of}
use Rattle.v_exec.specs.Choices.{item_of}
use Rattle.v_exec.specs.Limits.{stmt_most, limits_of_item, bodies_in, most_in_turn}
use Rattle.v_writes.specs.Writes.{use_in, made, items_made}
use Rattle.v_writes.proofs.statements.+writes.Given as goal

abbrev pub invariant-stmts_writes-loop-s : goal.invariant-stmts_writes-loop-s
invariant-stmts_writes-loop-s g l = record {
  writes :
      map use_in l.to ++ made l.later (sequence (map doing (drop l.s-index l.stmts))) (scope_of l.scope) ≡ map use_in l.initial.to ++ made l.later (sequence (map doing l.fn.stmts)) (scope_of l.scope);
  narrow : most_in_turn (map stmt_most (drop l.s-index l.stmts)) (scope_of l.scope) ≤ 128;
}

abbrev pub invariant-other_writes-loop-item : goal.invariant-other_writes-loop-item
invariant-other_writes-loop-item g l = record {
  same : l.to ≡ l.initial.to;
  writes : made l.later (otherwise (map item_of (drop l.item-index l.items))) (scope_of l.scope) ≡ made l.later (otherwise (map item_of l.fn.items)) (scope_of l.scope);
  narrow : most_in_turn (bodies_in (map limits_of_item (drop l.item-index l.items))) (scope_of l.scope) ≤ 128;
}

abbrev pub invariant-items_writes-loop-item : goal.invariant-items_writes-loop-item
invariant-items_writes-loop-item g l = record {
  writes :
      map use_in l.to ++ items_made l.later (map item_of (drop l.item-index l.items)) (scope_of l.scope) ≡ map use_in l.initial.to ++ items_made l.later (map item_of l.fn.items) (scope_of l.scope);
  narrow : most_in_turn (bodies_in (map limits_of_item (drop l.item-index l.items))) (scope_of l.scope) ≤ 128;
}
