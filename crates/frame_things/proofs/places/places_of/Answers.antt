use Rattle.std.proofs.Common.{ℕ, ◌-◌, Option, ap, ◌∙◌, arith}
use Rattle.frame_things.specs.Places.{places_in}
use Rattle.frame_things.proofs.Placing.{place-put, place-none}
use Rattle.frame_things.proofs.places.places_of.Goals as goal

pub loop-at-init : goal.loop-at-init
loop-at-init g c = record {
  places = λ n. ap (λ (f : ℕ → Option ℕ). f n) c.new-places.ensures ∙ place-none g.T.Numbered.number c.args.list.now n;
  within = omega arith;
}

pub loop-at-preserved : goal.loop-at-preserved
loop-at-preserved g c = record {
  places = place-put g.T.Numbered.number (places_in c.loop-at.places) (places_in c.put.new.self) c.args.list.now c.loop-at.at (c.loop-at.at - 1) _ c.number.result
      (omega arith) (omega arith) c.index-list-at.is c.number.ensures c.in_ok-put.ensures c.loop-at.invariant.places;
  within = omega arith;
}
