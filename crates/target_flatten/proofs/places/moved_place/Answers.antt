use Rattle.target_flatten.proofs.Naming.{place-of-moved}
use Rattle.target_flatten.proofs.Stands.{place-moved}
use Rattle.target_flatten.proofs.places.moved_place.Goals as goal

pub returns-clause-place : goal.returns-clause-place
returns-clause-place c = place-moved c.args.place c.args.below c.args.width c.in_ok-made.made c.requires.narrow c.in_ok-made.ensures.guard c.in_ok-made.ensures.offset

pub returns-clause-names : goal.returns-clause-names
returns-clause-names c = place-of-moved c.args.place c.args.below c.args.width c.in_ok-made.made c.in_ok-made.ensures.guard c.in_ok-made.ensures.offset
