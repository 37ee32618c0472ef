use Rattle.std.proofs.Common.{map}
use Rattle.v_instances.specs.Slots.{signal_of}
use Rattle.cycle_dst.proofs.Failing.{fails-as}
use Rattle.cycle_dst.proofs.rows.run_circuit.Goals as goal

pub returns-in-Err : goal.returns-in-Err
returns-in-Err c =
    let s = c.args.circuit in
    fails-as s.design.now s.top.now c.args.rows.now (map signal_of c.args.slots.now) c.in-Err.fail c.failed.result c.requires.slots c.in-Err.ensures c.failed.ensures
