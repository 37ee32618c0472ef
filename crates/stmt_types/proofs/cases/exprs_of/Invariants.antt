use Rattle.std.proofs.Common.{◌≡◌}
use Rattle.expr_type.specs.Operators.{exprs}
use Rattle.stmt_types.proofs.cases.exprs_of.Given as goal

abbrev pub invariant-loop-value : goal.invariant-loop-value
invariant-loop-value l = l.made ≡ exprs l.yielded
