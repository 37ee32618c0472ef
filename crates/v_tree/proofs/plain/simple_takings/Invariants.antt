use Rattle.std.proofs.Common.{◌≡◌, None, drop}
use Rattle.v_tree.specs.Printing.{simple_taken}
use Rattle.v_tree.specs.Takings.{taken_in}
use Rattle.v_tree.proofs.plain.simple_takings.Given as goal

abbrev pub invariant-loop-path : goal.invariant-loop-path
invariant-loop-path l = (l.place ≡ l.path-index) × (simple_taken l.place (taken_in l.taken) (drop l.path-index l.paths) ≡ simple_taken 0 (λ q. None) l.paths)
