use Rattle.design_order.proofs.Finding.{AreFlowsUpTo}
use Rattle.design_order.proofs.flows.process_flows.Given as goal

abbrev pub invariant-loop-process : goal.invariant-loop-process
invariant-loop-process l = AreFlowsUpTo l.design l.process-index l.flows
