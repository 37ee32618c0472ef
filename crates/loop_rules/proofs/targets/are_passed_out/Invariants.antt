use Rattle.std.proofs.Common.{◌≡◌, map, drop}
use Rattle.sv_types.specs.Functions.{parameter}
use Rattle.loop_rules.specs.Targets.{names, targets_out}
use Rattle.loop_rules.proofs.targets.are_passed_out.Given as goal

abbrev pub invariant-loop-i : goal.invariant-loop-i
invariant-loop-i l =
    names l.number (targets_out (map parameter (drop l.i l.formals)) (drop l.i l.actuals)) ≡ names l.number (targets_out (map parameter l.formals) l.actuals)
