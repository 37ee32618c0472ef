use Rattle.std.proofs.Common.{ℕ, ap}
use Rattle.expr_type.specs.declared.halt.Halt.{Halt}
use Rattle.expr_type.specs.declared.halt.Halt.TheVariants as H
use Rattle.typing_actions.proofs.actuals.no_target.Goals as goal

abbrev breaks : ℕ → Halt
breaks n = H.Breaks n 501

pub returns : goal.returns
returns c k = ap breaks (c.first_of.ensures k)
