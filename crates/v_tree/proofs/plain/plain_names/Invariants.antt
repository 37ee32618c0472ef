use Rattle.std.proofs.Common.{◌≡◌, ◌++◌, None, drop, length}
use Rattle.v_tree.specs.Printing.{simple_taken, plain_names}
use Rattle.v_tree.specs.Takings.{taken_in}
use Rattle.v_tree.proofs.plain.plain_names.Given as goal

abbrev pub invariant-loop-path : goal.invariant-loop-path
invariant-loop-path l =
    (l.place ≡ l.path-index)
    × (l.names ++ plain_names (length l.paths) l.place (taken_in l.taken) (drop l.path-index l.paths)
    ≡ plain_names (length l.paths) 0 (simple_taken 0 (λ q. None) l.paths) l.paths)
