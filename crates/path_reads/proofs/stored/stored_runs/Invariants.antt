use Rattle.std.proofs.Common.{◌≤◌, length}
use Rattle.v_meaning.specs.Values.{meaning}
use Rattle.v_build.specs.Trees.{meanings}
use Rattle.path_flatten.specs.Helping.{Grows}
use Rattle.path_reads.specs.Running.{StoresMarks}
use Rattle.path_reads.proofs.Running.{NamesPieces}
use Rattle.path_reads.proofs.stored.stored_runs.Given as goal

abbrev pub invariant-loop-high : goal.invariant-loop-high
invariant-loop-high l = record {
  few : l.high ≤ length l.marks;
  grows : Grows l.initial.helpers l.helpers;
  stores : StoresMarks (meaning l.of) l.marks l.high l.helpers (meanings l.made);
  names : NamesPieces (meaning l.of) (meanings l.made) (length l.marks) l.high;
}

abbrev pub decreases-loop-high : goal.decreases-loop-high
decreases-loop-high l = l.high
