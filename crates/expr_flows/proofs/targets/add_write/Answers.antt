use Rattle.std.proofs.Common.{sym, subst, arith}
use Rattle.sv_types.specs.Meanings.{use_of, writes_of}
use Rattle.expr_flows.specs.Targets.{Writes}
use Rattle.expr_flows.specs.Traces.{prefix_of}
use Rattle.expr_flows.proofs.Writing as W
use Rattle.expr_flows.proofs.targets.add_write.Goals as goal

pub returns-in-None : goal.returns-in-None
returns-in-None c =
    let t = c.args.traced in
    let ws = c.args.to.now in
    subst (λ r. Writes ws ws (writes_of t.exact (use_of r c.args.at (prefix_of t)))) (sym c.in-None.is) (W.none ws)

pub returns-in_ok-push-in-Some : goal.returns-in_ok-push-in-Some
returns-in_ok-push-in-Some c =
    let t = c.args.traced in
    subst (λ r. Writes c.args.to.now c.push.new.self (writes_of t.exact (use_of r c.args.at (prefix_of t)))) (sym c.in-Some.is)
    (W.one c.args.to.now c.push.new.self c.use_at.result t.exact _ c.in_ok-push-in-Some.ensures.ok c.use_at.ensures (omega arith))
