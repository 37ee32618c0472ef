use Rattle.std.proofs.Common.{◌≡◌, map, drop}
use Rattle.sv_tree.specs.Extents as means
use Rattle.sv_tree.proofs.extents.last_of_dimensions.Given as goal

abbrev pub invariant-loop-dimension : goal.invariant-loop-dimension
invariant-loop-dimension l = means.last_of l.last (map means.last_of_dimension (drop l.dimension-index l.dimensions)) ≡ means.last_of l.fn.before (map means.last_of_dimension l.dimensions)
