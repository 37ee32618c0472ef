use Rattle.std.proofs.Common.{map, drop}
use Rattle.v_meaning.specs.Statements.{sequence, otherwise, doing}
use Rattle.v_eval.specs.Scopes.{scope_of}
use Rattle.v_names.specs.Names.{item_of, items_named}
use Rattle.v_names.proofs.Sets.{Left}
use Rattle.v_names.proofs.statements.+names.Given as goal

abbrev pub invariant-stmts_names-loop-s : goal.invariant-stmts_names-loop-s
invariant-stmts_names-loop-s l =
    Left l.fn.to l.to ((sequence (map doing (drop l.s-index l.stmts))).names (scope_of l.scope)) ((sequence (map doing l.fn.stmts)).names (scope_of l.fn.scope))

abbrev pub invariant-other_names-loop-item : goal.invariant-other_names-loop-item
invariant-other_names-loop-item l =
    Left l.fn.to l.to ((otherwise (map item_of (drop l.item-index l.items))).names (scope_of l.scope)) ((otherwise (map item_of l.fn.items)).names (scope_of l.fn.scope))

abbrev pub invariant-items_names-loop-item : goal.invariant-items_names-loop-item
invariant-items_names-loop-item l =
    Left l.fn.to l.to (items_named (map item_of (drop l.item-index l.items)) (scope_of l.scope)) (items_named (map item_of l.fn.items) (scope_of l.fn.scope))
