use Rattle.v_reads.specs.Reads.{FunctionsRead, at_depth}
use Rattle.v_reads.proofs.functions.function_reads.Given as goal

abbrev pub invariant-loop-depth : goal.invariant-loop-depth
invariant-loop-depth l = FunctionsRead (at_depth l.depth l.fn.scope) l.lists
