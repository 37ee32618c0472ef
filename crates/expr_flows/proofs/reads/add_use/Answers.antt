use Rattle.std.proofs.Common.{sym, subst, arith}
use Rattle.sv_types.specs.Meanings.{use_of}
use Rattle.expr_flows.specs.Traces.{Adds, prefix_of}
use Rattle.expr_flows.proofs.Adding as A
use Rattle.expr_flows.proofs.reads.add_use.Goals as goal

pub returns-in-None : goal.returns-in-None
returns-in-None c =
    let us = c.args.to.now in subst (λ r. Adds us us (use_of r c.args.at (prefix_of c.args.traced))) (sym c.in-None.is) (A.none us)

pub returns-in_ok-push-in-Some : goal.returns-in_ok-push-in-Some
returns-in_ok-push-in-Some c =
    subst (λ r. Adds c.args.to.now c.push.new.self (use_of r c.args.at (prefix_of c.args.traced))) (sym c.in-Some.is)
    (A.one c.args.to.now c.push.new.self c.use_at.result _ c.in_ok-push-in-Some.ensures.ok c.use_at.ensures (omega arith))
