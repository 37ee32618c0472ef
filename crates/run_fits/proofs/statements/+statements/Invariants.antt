use Rattle.std.proofs.Common.{drop}
use Rattle.eval_forms.specs.Callees.{formals_in}
use Rattle.eval_parts.specs.Steps.{is_held}
use Rattle.eval_runs.specs.EvalStmts.{AllStmtsFit, AllItemsFit}
use Rattle.run_fits.proofs.statements.+statements.Given as goal

abbrev pub invariant-all_fit-loop-s : goal.invariant-all_fit-loop-s
invariant-all_fit-loop-s l = AllStmtsFit (drop l.s-index l.ss) (formals_in l.functions) (is_held l.held) → AllStmtsFit l.ss (formals_in l.functions) (is_held l.held)

abbrev pub invariant-items_fit-loop-item : goal.invariant-items_fit-loop-item
invariant-items_fit-loop-item l = AllItemsFit (drop l.item-index l.items) (formals_in l.functions) (is_held l.held) → AllItemsFit l.items (formals_in l.functions) (is_held l.held)
