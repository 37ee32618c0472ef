use Rattle.design_order.proofs.Finding.{all-unroll}
use Rattle.design_order.proofs.Running.{ok-runs-in}
use Rattle.design_order.proofs.ordering.order.Goals as goal

pub process_flows-requires-clause-unrolls : goal.process_flows-requires-clause-unrolls
process_flows-requires-clause-unrolls c = all-unroll c.args.design.now c.requires.unbroken

pub returns-clause-one_trace : goal.returns-clause-one_trace
returns-clause-one_trace c = ok-runs-in c.args.design.now c.order_of.result c.requires.unbroken c.order_of.ensures.none_stuck c.order_of.ensures.runs
