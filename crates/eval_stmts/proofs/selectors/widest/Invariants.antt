use Rattle.std.proofs.Common.{◌≡◌, max, map, drop}
use Rattle.sv_types.specs.Expressions.{meaning}
use Rattle.sv_types.specs.Runs.{widest_of}
use Rattle.eval_stmts.specs.Targets.{AllNarrow}
use Rattle.eval_stmts.proofs.selectors.widest.Given as goal

abbrev pub invariant-loop-e : goal.invariant-loop-e
invariant-loop-e l =
    let es = drop l.e-index l.es in
    record { narrow : AllNarrow es; is : max l.width (widest_of (map meaning es)) ≡ max l.least (widest_of (map meaning l.es)) }
