use Rattle.std.proofs.Common.{◌≡◌, ◌++◌, drop, map}
use Rattle.v_meaning.specs.Values.{is_empty}
use Rattle.v_reads.proofs.numbers.are_none.Given as goal

abbrev pub invariant-loop-numbers : goal.invariant-loop-numbers
invariant-loop-numbers l = l.made ++ map is_empty (drop l.numbers-index l.lists) ≡ map is_empty l.fn.lists
