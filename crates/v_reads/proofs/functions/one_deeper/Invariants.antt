use Rattle.std.proofs.Common.{◌≡◌, suc, length}
use Rattle.v_reads.specs.Reads.{at_depth}
use Rattle.v_reads.proofs.Rounds.{RowsFrom}
use Rattle.v_reads.proofs.functions.one_deeper.Given as goal

abbrev pub invariant-loop-i : goal.invariant-loop-i
invariant-loop-i l = record {
  rows : RowsFrom (at_depth (suc l.fn.scope.depth) l.fn.scope) 0 l.lists;
  count : length l.lists ≡ l.i;
}
