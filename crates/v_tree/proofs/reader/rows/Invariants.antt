use Rattle.std.proofs.Common.{◌≡◌, map, take}
use Rattle.v_tree.specs.Rows.{row_of}
use Rattle.v_tree.proofs.reader.rows.Given as goal

abbrev pub invariant-loop-line : goal.invariant-loop-line
invariant-loop-line l = l.rows ≡ map (λ line. row_of line.now) (take l.line-index l.lines)
