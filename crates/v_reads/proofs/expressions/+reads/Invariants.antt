use Rattle.std.proofs.Common.{map, drop}
use Rattle.v_meaning.specs.Values.{meaning, sel_meaning, sel_reads, all_reads}
use Rattle.v_eval.specs.Scopes.{scope_of}
use Rattle.v_reads.proofs.Sets.{Left}
use Rattle.v_reads.proofs.expressions.+reads.Given as goal

abbrev pub invariant-sels_reads-loop-sel : goal.invariant-sels_reads-loop-sel
invariant-sels_reads-loop-sel l =
    Left l.fn.to l.to (sel_reads (map sel_meaning (drop l.sel-index l.sels)) (scope_of l.scope)) (sel_reads (map sel_meaning l.fn.sels) (scope_of l.fn.scope))

abbrev pub invariant-all_reads-loop-item : goal.invariant-all_reads-loop-item
invariant-all_reads-loop-item l =
    Left l.fn.to l.to (all_reads (map meaning (drop l.item-index l.items)) (scope_of l.scope)) (all_reads (map meaning l.fn.items) (scope_of l.fn.scope))
