use Rattle.std.proofs.Common.{sym, subst}
use Rattle.sv_types.specs.Flows as F
use Rattle.sv_types.specs.Expressions.{meaning}
use Rattle.expr_flows.specs.Known.{sight}
use Rattle.expr_flows.specs.Traces.{Adds}
use Rattle.expr_flows.proofs.Adding as D
use Rattle.part_flows.proofs.calls.add_input.Goals as goal

pub returns-in-Output : goal.returns-in-Output
returns-in-Output c = subst (λ w. Adds c.args.to.now c.args.to.now (F.reads_in w (meaning c.args.e.now) (sight c.args.known))) (sym c.in-Output.is) (D.none c.args.to.now)
