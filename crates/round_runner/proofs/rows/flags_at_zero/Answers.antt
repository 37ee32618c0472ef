use Rattle.std.proofs.Common.{arith}
use Rattle.round_runner.proofs.Flags.{flag_more}
use Rattle.round_runner.proofs.rows.flags_at_zero.Goals as goal

pub loop-i-preserved : goal.loop-i-preserved
loop-i-preserved g c =
    flag_more (g.P.Processes.machine c.args.machine.now) c.loop-i.flags.items c.push.new.self.items c.starts_at_zero.result c.loop-i.i (omega (arith, c.combs-count.ensures))
    c.starts_at_zero.ensures c.in_ok-push.ensures.items c.loop-i.invariant
