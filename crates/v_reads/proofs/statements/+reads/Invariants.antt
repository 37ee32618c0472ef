use Rattle.std.proofs.Common.{map, drop}
use Rattle.v_meaning.specs.Statements.{sequence, otherwise, doing}
use Rattle.v_eval.specs.Scopes.{scope_of}
use Rattle.v_reads.specs.Reads.{item_of, items_read}
use Rattle.v_reads.proofs.Sets.{Left}
use Rattle.v_reads.proofs.statements.+reads.Given as goal

abbrev pub invariant-stmts_reads-loop-s : goal.invariant-stmts_reads-loop-s
invariant-stmts_reads-loop-s l =
    Left l.fn.to l.to ((sequence (map doing (drop l.s-index l.stmts))).reads (scope_of l.scope)) ((sequence (map doing l.fn.stmts)).reads (scope_of l.fn.scope))

abbrev pub invariant-other_reads-loop-item : goal.invariant-other_reads-loop-item
invariant-other_reads-loop-item l =
    Left l.fn.to l.to ((otherwise (map item_of (drop l.item-index l.items))).reads (scope_of l.scope)) ((otherwise (map item_of l.fn.items)).reads (scope_of l.fn.scope))

abbrev pub invariant-items_reads-loop-item : goal.invariant-items_reads-loop-item
invariant-items_reads-loop-item l =
    Left l.fn.to l.to (items_read (map item_of (drop l.item-index l.items)) (scope_of l.scope)) (items_read (map item_of l.fn.items) (scope_of l.fn.scope))
