use Rattle.std.proofs.Common.{◌≡◌, drop}
use Rattle.stmt_types.specs.Cases.{first_in}
use Rattle.stmt_types.proofs.cases.first_in.Given as goal

abbrev pub invariant-loop-value : goal.invariant-loop-value
invariant-loop-value l = first_in (drop l.value-index l.values) ≡ first_in l.values
