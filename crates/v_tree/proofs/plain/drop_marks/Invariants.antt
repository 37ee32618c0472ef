use Rattle.std.proofs.Common.{◌≡◌, ◌++◌, drop}
use Rattle.v_tree.specs.Printing.{marks_dropped}
use Rattle.v_tree.proofs.plain.drop_marks.Given as goal

abbrev pub invariant-loop-c : goal.invariant-loop-c
invariant-loop-c l = l.name ++ marks_dropped (drop l.c-index l.path) ≡ marks_dropped l.path
