use Rattle.std.proofs.Common.{arith}
use Rattle.design_order.proofs.Finding.{flows-more, item-there}
use Rattle.design_order.proofs.flows.process_flows.Goals as goal

pub process_flow-requires-clause-fits : goal.process_flow-requires-clause-fits
process_flow-requires-clause-fits c =
    c.requires.fits.processes c.loop-process.process-index c.process-item.result
    (item-there c.args.design.now.processes c.as_slice-process-items.result.now c.loop-process.process-index c.process-item.result c.as_slice-process-items.ensures (omega arith) c.process-item.is)

pub process_flow-requires-clause-unrolls : goal.process_flow-requires-clause-unrolls
process_flow-requires-clause-unrolls c =
    c.requires.unrolls c.loop-process.process-index c.process-item.result
    (item-there c.args.design.now.processes c.as_slice-process-items.result.now c.loop-process.process-index c.process-item.result c.as_slice-process-items.ensures (omega arith) c.process-item.is)

pub loop-process-preserved : goal.loop-process-preserved
loop-process-preserved c =
    flows-more c.args.design.now c.loop-process.process-index c.loop-process.flows _ c.process-item.result c.in_ok-found.found
    (item-there c.args.design.now.processes c.as_slice-process-items.result.now c.loop-process.process-index c.process-item.result c.as_slice-process-items.ensures (omega arith) c.process-item.is)
    c.in_ok-found.ensures c.loop-process.invariant c.in_ok-push.ensures.ok
