use Rattle.std.proofs.Common.{ap}
use Rattle.function_places.specs.Places.{places_in}
use Rattle.frame_functions.proofs.Rows.{placed-more}
use Rattle.frame_functions.proofs.places.places_of.Goals as goal

pub loop-place-init : goal.loop-place-init
loop-place-init c = λ d. ap (λ places. places d) c.new-places.ensures

pub loop-place-preserved : goal.loop-place-preserved
loop-place-preserved c =
    placed-more c.args.functions.now c.loop-place.place c.index-functions-place.result (places_in c.loop-place.places) (places_in c.put_first.new.places) c.in_ok-declared.declared c.loop-place-test.true c.index-functions-place.is c.loop-place.invariant c.in_ok-declared.ensures c.in_ok-put_first.ensures
