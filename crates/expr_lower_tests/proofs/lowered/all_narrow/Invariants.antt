use Rattle.std.proofs.Common.{drop}
use Rattle.eval_forms.specs.Callees.{AllFunctionsFit}
use Rattle.expr_lower_tests.proofs.lowered.all_narrow.Given as goal

abbrev pub invariant-loop-f : goal.invariant-loop-f
invariant-loop-f l = AllFunctionsFit (drop l.f-index l.functions) → AllFunctionsFit l.functions
