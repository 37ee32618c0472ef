use Rattle.std.proofs.Common.{Some, None, refl, sym, subst}
use Rattle.target_flatten.specs.declared.aims.Aim.{Aim}
use Rattle.target_flatten.specs.declared.spots.Spot.{Spot}
use Rattle.target_flatten.specs.declared.spots.Spot.TheVariants as V
use Rattle.target_flatten.specs.Naming.{NamesAimAt}
use Rattle.target_flatten.specs.Owning.{IsSteady}
use Rattle.target_flatten.specs.Writing.{AimsAt}
use Rattle.target_flatten.proofs.Naming.{aim-at-known, aim-at-place}
use Rattle.target_flatten.proofs.Owning.{plain-known, plain-moved}
use Rattle.target_flatten.proofs.Writing.{at-known, at-place}
use Rattle.target_flatten.proofs.aims.aim_at.Goals as goal

pub returns-in_ok-to-in-Known-clause-aims : goal.returns-in_ok-to-in-Known-clause-aims
returns-in_ok-to-in-Known-clause-aims c =
    let x : Aim = record { guard = None; to = c.in_ok-to-in-Known.to } in
    subst (λ (s : Spot). AimsAt c.args.image.now.bits s c.args.n c.args.image.now.room (Some x)) (sym c.in-Known.is)
    (at-known c.args.image.now.bits c.in-Known.below c.args.n c.args.image.now.room x refl c.in_ok-to-in-Known.ensures.aims)

pub returns-in_ok-made-in-Moved-clause-aims : goal.returns-in_ok-made-in-Moved-clause-aims
returns-in_ok-made-in-Moved-clause-aims c =
    subst (λ (s : Spot). AimsAt c.args.image.now.bits s c.args.n c.args.image.now.room (Some c.in_ok-made-in-Moved.made)) (sym c.in-Moved.is)
    (at-place c.args.image.now.bits c.args.n c.args.image.now.room (V.Moved c.in-Moved.place c.in-Moved.below) c.in_ok-place-in-Moved.place c.in_ok-made-in-Moved.made
    c.in_ok-place-in-Moved.ensures.place c.in_ok-made-in-Moved.ensures.aims)

pub returns-in_ok-to-in-Known-clause-names : goal.returns-in_ok-to-in-Known-clause-names
returns-in_ok-to-in-Known-clause-names c =
    let x : Aim = record { guard = None; to = c.in_ok-to-in-Known.to } in
    subst (λ (s : Spot). NamesAimAt s (Some x)) (sym c.in-Known.is) (aim-at-known c.in-Known.below x refl c.in_ok-to-in-Known.ensures.names)

pub returns-in_ok-made-in-Moved-clause-names : goal.returns-in_ok-made-in-Moved-clause-names
returns-in_ok-made-in-Moved-clause-names c =
    subst (λ (s : Spot). NamesAimAt s (Some c.in_ok-made-in-Moved.made)) (sym c.in-Moved.is)
    (aim-at-place (V.Moved c.in-Moved.place c.in-Moved.below) c.in_ok-place-in-Moved.place c.in_ok-made-in-Moved.made c.in_ok-place-in-Moved.ensures.names c.in_ok-made-in-Moved.ensures.names)

pub returns-in_ok-to-in-Known-clause-plain : goal.returns-in_ok-to-in-Known-clause-plain
returns-in_ok-to-in-Known-clause-plain c = plain-known c.args.image.now.name c.args.spot None c.in_ok-to-in-Known.to refl c.in_ok-to-in-Known.ensures.plain

pub returns-in_ok-made-in-Moved-clause-plain : goal.returns-in_ok-made-in-Moved-clause-plain
returns-in_ok-made-in-Moved-clause-plain c = plain-moved c.args.image.now.name c.args.spot c.in_ok-made-in-Moved.made (λ h. subst IsSteady c.in-Moved.is h)
