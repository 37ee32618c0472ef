use Rattle.std.proofs.Common.{◌-◌}
use Rattle.expr_lower.proofs.logarithms.+least_power.Given as goal

abbrev pub decreases-least_power : goal.decreases-least_power
decreases-least_power l = l.to - l.from
