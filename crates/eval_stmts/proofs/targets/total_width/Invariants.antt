use Rattle.std.proofs.Common.{◌≡◌, ◌+◌, map, drop}
use Rattle.sv_types.specs.Operators.{width_of_all}
use Rattle.sv_types.specs.Expressions.{meaning}
use Rattle.eval_stmts.specs.Targets.{AllNarrow}
use Rattle.eval_stmts.proofs.targets.total_width.Given as goal

abbrev pub invariant-loop-e : goal.invariant-loop-e
invariant-loop-e l =
    let es = drop l.e-index l.es in
    record { narrow : AllNarrow es; is : l.width + width_of_all (map meaning es) ≡ width_of_all (map meaning l.es) }
