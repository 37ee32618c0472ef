use Rattle.std.proofs.Common.{drop}
use Rattle.eval_forms.specs.Callees.{formals_in}
use Rattle.eval_runs.specs.EvalStmts.{ItemsFitWide}
use Rattle.run_fits.proofs.expressions.items_wide.Given as goal

abbrev pub invariant-loop-item : goal.invariant-loop-item
invariant-loop-item l = ItemsFitWide (drop l.item-index l.items) (formals_in l.functions) l.bits → ItemsFitWide l.items (formals_in l.functions) l.bits
