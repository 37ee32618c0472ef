use Rattle.std.proofs.Common.{ℕ, ◌-◌, Option, ap, ◌∙◌, arith}
use Rattle.frame_things.specs.Places.{places_in}
use Rattle.frame_things.proofs.Placing.{place-none}
use Rattle.typing_names.specs.Scopes.{use_number}
use Rattle.typing_names.proofs.Uses.{one-put}
use Rattle.typing_names.proofs.source_names.uses_of.Goals as goal

pub loop-at-init : goal.loop-at-init
loop-at-init c = record {
  places = λ q. ap (λ (f : ℕ → Option ℕ). f q) c.new-places.ensures ∙ place-none use_number c.args.list.now q;
  within = omega arith;
}

pub loop-at-preserved : goal.loop-at-preserved
loop-at-preserved c = record {
  places = one-put use_number (places_in c.loop-at.places) (places_in c.put.new.self) c.args.list.now c.loop-at.at (c.loop-at.at - 1) _ (omega arith) (omega arith)
      c.in_ok-put.ensures c.loop-at.invariant.places;
  within = omega arith;
}
