use Rattle.std.proofs.Common.{◌≡◌, map, take}
use Rattle.v_tree.specs.Printing.{printed}
use Rattle.v_tree.proofs.plain.escaped_names.Given as goal

abbrev pub invariant-loop-path : goal.invariant-loop-path
invariant-loop-path l = l.names ≡ map printed (take l.path-index l.paths)
