use Rattle.std.proofs.Common.{◌≡◌, drop, map}
use Rattle.std.specs.Prelude.{nat_lt}
use Rattle.sv_types.specs.Meanings.{most}
use Rattle.expr_type.specs.Operands.{width}
use Rattle.stmt_types.proofs.cases.has_wide.Given as goal

abbrev pub invariant-loop-value : goal.invariant-loop-value
invariant-loop-value l = nat_lt 128 (most (map width (drop l.value-index l.values))) ≡ nat_lt 128 (most (map width l.values))
