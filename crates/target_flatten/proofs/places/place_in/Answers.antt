use Rattle.std.proofs.Common.{Some, None, refl, sym, subst}
use Rattle.path_flatten.specs.declared.places.Place.{Place}
use Rattle.target_flatten.specs.declared.spots.Spot.{Spot}
use Rattle.target_flatten.specs.Naming.{NamesPlaceIn}
use Rattle.target_flatten.specs.Spots.{IsPlaceIn}
use Rattle.target_flatten.proofs.Naming.{place-of-known}
use Rattle.target_flatten.proofs.Stands.{place-known}
use Rattle.target_flatten.proofs.places.place_in.Goals as goal

pub returns-in_ok-offset-in-Known-clause-place : goal.returns-in_ok-offset-in-Known-clause-place
returns-in_ok-offset-in-Known-clause-place c =
    let p : Place = record { guard = None; offset = c.in_ok-offset-in-Known.offset } in
    subst (λ (s : Spot). IsPlaceIn s c.args.width (Some p)) (sym c.in-Known.is) (place-known c.in-Known.below c.args.width p refl c.in_ok-offset-in-Known.ensures)

pub returns-in_ok-made-in-Moved-clause-place : goal.returns-in_ok-made-in-Moved-clause-place
returns-in_ok-made-in-Moved-clause-place c = subst (λ (s : Spot). IsPlaceIn s c.args.width (Some c.in_ok-made-in-Moved.made)) (sym c.in-Moved.is) c.in_ok-made-in-Moved.ensures.place

pub returns-in_ok-offset-in-Known-clause-names : goal.returns-in_ok-offset-in-Known-clause-names
returns-in_ok-offset-in-Known-clause-names c =
    let p : Place = record { guard = None; offset = c.in_ok-offset-in-Known.offset } in
    subst (λ (s : Spot). NamesPlaceIn s (Some p)) (sym c.in-Known.is) (place-of-known c.in-Known.below c.args.width p refl c.in_ok-offset-in-Known.ensures)

pub returns-in_ok-made-in-Moved-clause-names : goal.returns-in_ok-made-in-Moved-clause-names
returns-in_ok-made-in-Moved-clause-names c = subst (λ (s : Spot). NamesPlaceIn s (Some c.in_ok-made-in-Moved.made)) (sym c.in-Moved.is) c.in_ok-made-in-Moved.ensures.names
