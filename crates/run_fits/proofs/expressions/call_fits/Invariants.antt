use Rattle.std.proofs.Common.{map, drop}
use Rattle.sv_types.specs.Functions.{parameter}
use Rattle.eval_parts.specs.Steps.{is_held}
use Rattle.eval_forms.specs.Callees.{formals_in}
use Rattle.run_fits.specs.Statements.{AllPassed}
use Rattle.run_fits.proofs.expressions.call_fits.Given as goal

abbrev pub invariant-loop-i : goal.invariant-loop-i
invariant-loop-i l =
    AllPassed (map parameter (drop l.i l.formals)) (drop l.i l.actuals) (formals_in l.functions) (is_held l.held) → AllPassed (map parameter l.formals) l.actuals (formals_in l.functions) (is_held l.held)
