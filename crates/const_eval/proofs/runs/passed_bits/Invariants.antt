use Rattle.std.proofs.Common.{◌≡◌, ◌++◌, map, drop}
use Rattle.sv_types.specs.Values.{bits}
use Rattle.const_eval.proofs.runs.passed_bits.Given as goal

abbrev pub invariant-loop-i : goal.invariant-loop-i
invariant-loop-i l = record { made : l.passed.items ++ map bits (drop l.i l.args) ≡ map bits l.args }
