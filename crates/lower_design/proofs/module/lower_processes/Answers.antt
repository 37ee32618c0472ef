use Rattle.std.proofs.Common.{sym, subst}
use Rattle.row_machine.specs.Valuation.{Member}
use Rattle.row_machine.proofs.Basics.{member_at}
use Rattle.lower_design.proofs.module.lower_processes.Goals as goal

pub lower_process-requires : goal.lower_process-requires
lower_process-requires c =
    c.requires c.process-item.result
    (subst (λ p. Member c.args.processes.now p) (sym c.process-item.is) (member_at c.args.processes.now c.loop-process.process-index c.process-item.result c.loop-process-test.true))
