use Rattle.std.proofs.Common.{◌<◌}
use Rattle.two_state.specs.Kinds.{is_set}
use Rattle.two_state.proofs.Results.{each-step}
use Rattle.two_state.proofs.values.set_bits.Goals as goal

pub loop-rest-preserved : goal.loop-rest-preserved
loop-rest-preserved c =
    let some : 0 < c.loop-rest.rest = c.loop-rest-test.true in
    each-step is_set c.loop-rest.made c.push.new.self c.in_ok-set_bit.field-0 c.loop-rest.rest c.args.width some c.in_ok-push.ensures.ok c.in_ok-set_bit.ensures c.loop-rest.invariant
