use Rattle.std.proofs.Common.{◌<◌}
use Rattle.two_state.specs.Kinds.{matching}
use Rattle.two_state.proofs.Results.{each-step}
use Rattle.two_state.proofs.values.matching_bits.Goals as goal

pub loop-rest-preserved : goal.loop-rest-preserved
loop-rest-preserved c =
    let some : 0 < c.loop-rest.rest = c.loop-rest-test.true in
    each-step matching c.loop-rest.made c.push.new.self c.in_ok-matching_bit.field-0 c.loop-rest.rest c.args.width some c.in_ok-push.ensures.ok c.in_ok-matching_bit.ensures c.loop-rest.invariant
