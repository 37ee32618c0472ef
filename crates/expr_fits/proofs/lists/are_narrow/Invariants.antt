use Rattle.std.proofs.Common.{drop}
use Rattle.eval_parts.specs.Targets.{AllNarrow}
use Rattle.expr_fits.proofs.lists.are_narrow.Given as goal

abbrev pub invariant-loop-formal : goal.invariant-loop-formal
invariant-loop-formal l = AllNarrow (drop l.formal-index l.formals) → AllNarrow l.formals
