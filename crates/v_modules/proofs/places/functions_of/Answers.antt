use Rattle.std.proofs.Common.{◌-◌, arith}
use Rattle.v_modules.specs.Places.{places_in}
use Rattle.v_modules.proofs.Placing.{placed-step}
use Rattle.v_modules.proofs.places.functions_of.Goals as goal

pub loop-at-preserved : goal.loop-at-preserved
loop-at-preserved c =
    let at = c.loop-at.at in (
      omega (arith, c.loop-at.invariant.0),
      placed-step c.args.items.now (at - 1) at c.index-items-at.result (places_in c.loop-at.places) (places_in c.add_item.new.places) (omega (arith, c.loop-at-test.true))
          (omega (arith, c.loop-at-test.true, c.loop-at.invariant.0)) c.index-items-at.is c.loop-at.invariant.1 c.in_ok-add_item.ensures,
    )
