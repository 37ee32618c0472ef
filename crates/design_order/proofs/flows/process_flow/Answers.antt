use Rattle.design_order.proofs.Finding.{never-long, never-many}
use Rattle.design_order.proofs.flows.process_flow.Goals as goal

pub unreachable-requires : goal.unreachable-requires
unreachable-requires c =
    never-long c.args.design.now c.as_slice.result.now c.args.process.now.body c.body_flow.result c.in-Err-TooLong.field-0 c.in-Err-TooLong.field-0-0 c.as_slice.ensures c.requires.unrolls c.requires.fits.few c.body_flow.ensures
    c.in-Err-TooLong.is c.in-Err-TooLong.field-0-is

pub unreachable-requires-in-Err-TooMany : goal.unreachable-requires-in-Err-TooMany
unreachable-requires-in-Err-TooMany c =
    never-many c.args.design.now c.as_slice.result.now c.args.process.now.body c.body_flow.result c.in-Err-TooMany.field-0 c.as_slice.ensures c.requires.unrolls c.body_flow.ensures c.in-Err-TooMany.is c.in-Err-TooMany.field-0-is
