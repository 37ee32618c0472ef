use Rattle.std.proofs.Common.{◌≡◌, map, drop}
use Rattle.sv_tree.specs.Extents as means
use Rattle.sv_tree.proofs.extents.last_of_selects.Given as goal

abbrev pub invariant-loop-select : goal.invariant-loop-select
invariant-loop-select l = means.last_of l.last (map means.last_of_select (drop l.select-index l.selects)) ≡ means.last_of l.fn.before (map means.last_of_select l.selects)
