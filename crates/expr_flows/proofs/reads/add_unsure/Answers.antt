use Rattle.std.proofs.Common.{cond, [], sym, subst}
use Rattle.sv_types.specs.Meanings.{use_of}
use Rattle.expr_flows.specs.Traces.{Adds, prefix_of}
use Rattle.expr_flows.proofs.Adding as D
use Rattle.expr_flows.proofs.reads.add_unsure.Goals as goal

pub returns-then-sure : goal.returns-then-sure
returns-then-sure c =
    subst (λ b. Adds c.args.to.now c.args.to.now (cond b [] (use_of c.args.traced.root c.args.at (prefix_of c.args.traced)))) (sym c.if-sure.true) (D.none c.args.to.now)
