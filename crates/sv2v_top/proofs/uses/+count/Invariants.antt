use Rattle.std.proofs.Common.{◌≡◌, ◌+◌, map, drop}
use Rattle.sv2v_top.specs.source.Statements.{parts, sequence}
use Rattle.sv2v_top.proofs.uses.+count.Given as goal

abbrev pub invariant-left_behind_all-loop-stmt : goal.invariant-left_behind_all-loop-stmt
invariant-left_behind_all-loop-stmt l = l.remaining + (sequence (map parts l.statements)).count ≡ l.left + (sequence (map parts (drop l.stmt-index l.statements))).count
