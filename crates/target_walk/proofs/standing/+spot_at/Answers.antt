use Rattle.std.proofs.Common.{◌≡◌, ◌<◌, ◌^◌, Some, None, Ok, IfOk, arith, rules, sym, ◌∙◌, subst}
use Rattle.std.proofs.lemmas.Int.{to_z-of_z}
use mir.Val.{SFits, to_z, of_z}
use mir.Syntax.{w64}
use Rattle.eval_parts.proofs.Nodes.{nodes-Member, nodes-Index, nodes-Part, nodes-Slide}
use Rattle.target_flatten.specs.declared.spots.Spot.TheVariants as W
use Rattle.sv_types.specs.Layouts.{layout}
use Rattle.sv_types.specs.Windows.{falls}
use Rattle.target_walk.specs.declared.given.Given.TheVariants as G
use Rattle.target_walk.specs.Giving.{IsClose, IsCloseIf, given_if, given_of, kept_given}
use Rattle.target_walk.specs.Walking.{StandsAt}
use Rattle.target_walk.proofs.Arms.{lost-stands, part-some, slide-some}
use Rattle.target_walk.proofs.Limiting.{own-narrow, member-narrow, index-narrow, part-narrow, slide-narrow, small-first, small-close, kept-close, on-close}
use Rattle.target_walk.proofs.Telling.{plain-stands}
use Rattle.target_walk.proofs.Owning.{root-steady, member-steady, index-steady, part-steady, slide-steady}
use Rattle.target_walk.proofs.Ways.{signal-arm, local-arm, member-arm, index-arm, part-arm, slide-arm, index-lacks, slide-lacks, no-given}
use Rattle.target_walk.proofs.standing.+spot_at.Goals as goal

pub chosen-requires-clause-narrow : goal.chosen-requires-clause-narrow
chosen-requires-clause-narrow t c = own-narrow c.args.e.now 4194304 c.requires.narrow

pub chosen-requires-in-Some-Local-clause-narrow : goal.chosen-requires-in-Some-Local-clause-narrow
chosen-requires-in-Some-Local-clause-narrow t c = own-narrow c.args.e.now 4194304 c.requires.narrow

pub chosen-requires-in-Some-Member-clause-narrow : goal.chosen-requires-in-Some-Member-clause-narrow
chosen-requires-in-Some-Member-clause-narrow t c = own-narrow c.args.e.now 4194304 c.requires.narrow

pub chosen-requires-in-None-element_of-clause-narrow : goal.chosen-requires-in-None-element_of-clause-narrow
chosen-requires-in-None-element_of-clause-narrow t c = own-narrow c.args.e.now 4194304 c.requires.narrow

pub chosen-requires-in-Some-element_of-clause-narrow : goal.chosen-requires-in-Some-element_of-clause-narrow
chosen-requires-in-Some-element_of-clause-narrow t c = own-narrow c.args.e.now 4194304 c.requires.narrow

pub spot_at-requires : goal.spot_at-requires
spot_at-requires t c =
    let h = rw c.in-Some-Member.field-0-is at c.in-Some-Member.ensures.step in
    let less = nodes-Member c.args.e.now _ _ h in
    (omega (arith, c.decreases, less), (member-narrow c.args.e.now _ _ 4194304 h c.requires.narrow, (c.requires.room, (c.requires.small, tt))))

pub member-spot-requires : goal.member-spot-requires
member-spot-requires t c =
    let h = rw c.in-Some-Member.field-0-is at c.in-Some-Member.ensures.step in
    record { narrow = own-narrow c.in-Some-Member.from.now 4194304 (member-narrow c.args.e.now _ _ 4194304 h c.requires.narrow) }

pub spot_at-spot-requires : goal.spot_at-spot-requires
spot_at-spot-requires t c =
    let h = rw c.in-Some-Index.field-0-is at c.in-Some-Index.ensures.step in
    let less = nodes-Index c.args.e.now _ _ h in
    let small = small-first c.args.indices.now c.in-Some.last.now c.in-Some.rest.now c.in-Some.ensures.cases.0 c.requires.small in
    (omega (arith, c.decreases, less), (index-narrow c.args.e.now _ _ 4194304 h c.requires.narrow, (c.requires.room, (small.1, subst IsClose (sym c.in-Some-element_of.ensures) (small-close c.in-Some.last.now small.0)))))

pub spot_at-requires-in-Some-kept : goal.spot_at-requires-in-Some-kept
spot_at-requires-in-Some-kept t c =
    let h = rw c.in-Some-Part.field-0-is at c.in-Some-Part.ensures.step in
    let less = nodes-Part c.args.e.now _ _ _ h in
    let close = subst (λ x. IsCloseIf (given_if x)) c.in-Some-given.is c.requires.close in
    (omega (arith, c.decreases, less), (part-narrow c.args.e.now _ _ _ 4194304 h c.requires.narrow, (c.requires.room, (c.requires.small, subst IsClose (sym c.in-Some-kept.ensures) (kept-close (given_of c.in-Some-given.given) _ _ close)))))

pub gone_on-requires-clause-narrow : goal.gone_on-requires-clause-narrow
gone_on-requires-clause-narrow t c =
    let h = rw c.in-Some-Slide.field-0-is at c.in-Some-Slide.ensures.step in
    own-narrow c.in-Some-Slide.from.now 4194304 (slide-narrow c.args.e.now _ _ _ _ 4194304 h c.requires.narrow)

pub spot_at-requires-in-Some-gone_on : goal.spot_at-requires-in-Some-gone_on
spot_at-requires-in-Some-gone_on t c =
    let h = rw c.in-Some-Slide.field-0-is at c.in-Some-Slide.ensures.step in
    let less = nodes-Slide c.args.e.now _ _ _ _ h in
    let small = small-first c.args.indices.now c.in-Some-split_first.base.now c.in-Some-split_first.rest.now c.in-Some-split_first.ensures.cases.0 c.requires.small in
    let few : c.in-Some-Slide.width < 2 ^ 32 = search rules in (
      omega (arith, c.decreases, less),
      (
        slide-narrow c.args.e.now _ _ _ _ 4194304 h c.requires.narrow,
        (
          c.requires.room,
          (
            small.1,
            subst IsClose (sym c.in-Some-gone_on.ensures)
                (on-close (falls (layout c.in-Some-Slide.from.now.of)) c.in-Some-Slide.up c.in-Some-Slide.width c.in-Some-split_first.base.now (given_of c.in-Some-given-2.given) few small.0),
          ),
        ),
      ),
    )

pub returns-in-None-clause-stands : goal.returns-in-None-clause-stands
returns-in-None-clause-stands t c = plain-stands c.args.e.now c.args.indices.now (given_if c.args.given) c.args.room W.Nowhere c.in-None.ensures.plain

pub returns-in-Some-Signal-clause-stands : goal.returns-in-Some-Signal-clause-stands
returns-in-Some-Signal-clause-stands t c =
    let h = rw c.in-Some-Signal.field-0-is at c.in-Some-Signal.ensures.step in
    signal-arm c.args.e.now c.args.indices.now (given_if c.args.given) c.args.room c.chosen.result _ c.whole_spot.result h c.whole_spot.ensures.stands c.whole_spot.ensures.names c.chosen.ensures.chooses

pub returns-in-Some-Local-clause-stands : goal.returns-in-Some-Local-clause-stands
returns-in-Some-Local-clause-stands t c =
    let h = rw c.in-Some-Local.field-0-is at c.in-Some-Local.ensures.step in
    local-arm c.args.e.now c.args.indices.now (given_if c.args.given) c.args.room c.chosen-in-Some-Local.result _ c.whole_spot-in-Some-Local.result h c.whole_spot-in-Some-Local.ensures.stands
    c.whole_spot-in-Some-Local.ensures.names c.chosen-in-Some-Local.ensures.chooses

pub returns-in-Some-Member-clause-stands : goal.returns-in-Some-Member-clause-stands
returns-in-Some-Member-clause-stands t c =
    let h = rw c.in-Some-Member.field-0-is at c.in-Some-Member.ensures.step in
    member-arm c.args.e.now c.args.indices.now (given_if c.args.given) c.args.room c.chosen-in-Some-Member.result c.in-Some-Member.from.now _ c.spot_at.result c.member-spot.result h c.spot_at.ensures.stands c.member-spot.ensures.member
    c.chosen-in-Some-Member.ensures.chooses

pub returns-in-None-split_first-clause-stands : goal.returns-in-None-split_first-clause-stands
returns-in-None-split_first-clause-stands t c =
    let h = rw c.in-Some-Index.field-0-is at c.in-Some-Index.ensures.step in
    index-lacks c.args.e.now c.in-Some-Index.from.now _ c.args.indices.now (given_if c.args.given) c.args.room W.Nowhere h (no-given c.args.indices.now c.in-None-split_first.ensures.cases)

pub returns-in-None-element_of-clause-stands : goal.returns-in-None-element_of-clause-stands
returns-in-None-element_of-clause-stands t c =
    let h = rw c.in-Some-Index.field-0-is at c.in-Some-Index.ensures.step in
    index-arm c.args.e.now c.args.indices.now (given_if c.args.given) c.args.room c.chosen-in-None-element_of.result c.in-Some-Index.from.now _ c.in-Some.last.now (G.Known None) c.in-Some.rest.now (Ok W.Nowhere) h c.in-Some.ensures.cases.0 c.in-None-element_of.ensures
    (lost-stands c.in-Some-Index.from.now c.in-Some.rest.now c.args.room) c.chosen-in-None-element_of.ensures.chooses

pub returns-in-Some-element_of-clause-stands : goal.returns-in-Some-element_of-clause-stands
returns-in-Some-element_of-clause-stands t c =
    let h = rw c.in-Some-Index.field-0-is at c.in-Some-Index.ensures.step in
    index-arm c.args.e.now c.args.indices.now (given_if c.args.given) c.args.room c.chosen-in-Some-element_of.result c.in-Some-Index.from.now _ c.in-Some.last.now (given_of c.in-Some-element_of.inner) c.in-Some.rest.now c.spot_at-spot.result h c.in-Some.ensures.cases.0
    c.in-Some-element_of.ensures c.spot_at-spot.ensures.stands c.chosen-in-Some-element_of.ensures.chooses

pub returns-in-None-kept-clause-stands : goal.returns-in-None-kept-clause-stands
returns-in-None-kept-clause-stands t c =
    let h = rw c.in-Some-Part.field-0-is at c.in-Some-Part.ensures.step in
    let left_fits : SFits w64 c.in-Some-Part.left = search rules in
    let right_fits : SFits w64 c.in-Some-Part.right = search rules in
    let left_same : to_z w64 (of_z w64 c.in-Some-Part.left) ≡ c.in-Some-Part.left = to_z-of_z w64 c.in-Some-Part.left left_fits in
    let right_same : to_z w64 (of_z w64 c.in-Some-Part.right) ≡ c.in-Some-Part.right = to_z-of_z w64 c.in-Some-Part.right right_fits in
    let same = c.in-None-kept.ensures ∙ (λ i. kept_given (left_same i) (right_same i) (given_of c.in-Some-given.given)) in
    subst (λ x. StandsAt c.args.e.now c.args.indices.now (given_if x) c.args.room W.Nowhere) (sym c.in-Some-given.is)
    (part-some c.args.e.now c.in-Some-Part.from.now c.in-Some-Part.left c.in-Some-Part.right c.args.indices.now (given_of c.in-Some-given.given) c.args.room W.Nowhere h
    (subst (λ k. StandsAt c.in-Some-Part.from.now c.args.indices.now (Some k) c.args.room W.Nowhere) same (lost-stands c.in-Some-Part.from.now c.args.indices.now c.args.room)))

pub returns-in-Some-kept-clause-stands : goal.returns-in-Some-kept-clause-stands
returns-in-Some-kept-clause-stands t c =
    let h = rw c.in-Some-Part.field-0-is at c.in-Some-Part.ensures.step in
    let left_fits : SFits w64 c.in-Some-Part.left = search rules in
    let right_fits : SFits w64 c.in-Some-Part.right = search rules in
    let left_same : to_z w64 (of_z w64 c.in-Some-Part.left) ≡ c.in-Some-Part.left = to_z-of_z w64 c.in-Some-Part.left left_fits in
    let right_same : to_z w64 (of_z w64 c.in-Some-Part.right) ≡ c.in-Some-Part.right = to_z-of_z w64 c.in-Some-Part.right right_fits in
    let same = c.in-Some-kept.ensures ∙ (λ i. kept_given (left_same i) (right_same i) (given_of c.in-Some-given.given)) in
    subst (λ x. IfOk c.spot_at-in-Some-kept.result (StandsAt c.args.e.now c.args.indices.now (given_if x) c.args.room)) (sym c.in-Some-given.is)
    (part-arm c.args.e.now c.in-Some-Part.from.now c.args.indices.now c.args.room c.spot_at-in-Some-kept.result c.in-Some-Part.left c.in-Some-Part.right (given_of c.in-Some-given.given) (given_of c.in-Some-kept.inner) h same
    c.spot_at-in-Some-kept.ensures.stands)

pub returns-in-None-split_first-2-clause-stands : goal.returns-in-None-split_first-2-clause-stands
returns-in-None-split_first-2-clause-stands t c =
    let h = rw c.in-Some-Slide.field-0-is at c.in-Some-Slide.ensures.step in
    slide-lacks c.args.e.now c.in-Some-Slide.from.now _ _ _ c.args.indices.now (given_if c.args.given) c.args.room W.Nowhere h (no-given c.args.indices.now c.in-None-split_first-2.ensures.cases)

pub returns-in-None-gone_on-clause-stands : goal.returns-in-None-gone_on-clause-stands
returns-in-None-gone_on-clause-stands t c =
    let h = rw c.in-Some-Slide.field-0-is at c.in-Some-Slide.ensures.step in
    subst (λ x. StandsAt c.args.e.now c.args.indices.now (given_if x) c.args.room W.Nowhere) (sym c.in-Some-given-2.is)
    (subst (λ l. StandsAt c.args.e.now l (Some (given_of c.in-Some-given-2.given)) c.args.room W.Nowhere) (sym c.in-Some-split_first.ensures.cases.0)
    (slide-some c.args.e.now c.in-Some-Slide.from.now _ c.in-Some-Slide.width c.in-Some-Slide.up c.in-Some-split_first.base.now c.in-Some-split_first.rest.now c.args.room W.Nowhere h (given_of c.in-Some-given-2.given)
    (subst (λ k. StandsAt c.in-Some-Slide.from.now c.in-Some-split_first.rest.now (Some k) c.args.room W.Nowhere) c.in-None-gone_on.ensures
    (lost-stands c.in-Some-Slide.from.now c.in-Some-split_first.rest.now c.args.room))))

pub returns-in-Some-gone_on-clause-stands : goal.returns-in-Some-gone_on-clause-stands
returns-in-Some-gone_on-clause-stands t c =
    let h = rw c.in-Some-Slide.field-0-is at c.in-Some-Slide.ensures.step in
    subst (λ x. IfOk c.spot_at-in-Some-gone_on.result (StandsAt c.args.e.now c.args.indices.now (given_if x) c.args.room)) (sym c.in-Some-given-2.is)
    (slide-arm c.args.e.now c.in-Some-Slide.from.now c.args.indices.now c.args.room c.spot_at-in-Some-gone_on.result _ c.in-Some-Slide.width c.in-Some-Slide.up c.in-Some-split_first.base.now (given_of c.in-Some-given-2.given)
    (given_of c.in-Some-gone_on.inner) c.in-Some-split_first.rest.now h c.in-Some-split_first.ensures.cases.0 c.in-Some-gone_on.ensures c.spot_at-in-Some-gone_on.ensures.stands)

pub returns-in-Some-Signal-clause-steady : goal.returns-in-Some-Signal-clause-steady
returns-in-Some-Signal-clause-steady t c = root-steady c.args.indices.now (given_if c.args.given) c.chosen.result c.whole_spot.result c.whole_spot.ensures.steady c.chosen.ensures.steady

pub returns-in-Some-Local-clause-steady : goal.returns-in-Some-Local-clause-steady
returns-in-Some-Local-clause-steady t c =
    root-steady c.args.indices.now (given_if c.args.given) c.chosen-in-Some-Local.result c.whole_spot-in-Some-Local.result c.whole_spot-in-Some-Local.ensures.steady c.chosen-in-Some-Local.ensures.steady

pub returns-in-Some-Member-clause-steady : goal.returns-in-Some-Member-clause-steady
returns-in-Some-Member-clause-steady t c =
    member-steady c.args.indices.now (given_if c.args.given) c.chosen-in-Some-Member.result c.spot_at.result c.member-spot.result c.spot_at.ensures.steady c.member-spot.ensures.steady c.chosen-in-Some-Member.ensures.steady

pub returns-in-None-element_of-clause-steady : goal.returns-in-None-element_of-clause-steady
returns-in-None-element_of-clause-steady t c = root-steady c.args.indices.now (given_if c.args.given) c.chosen-in-None-element_of.result W.Nowhere tt c.chosen-in-None-element_of.ensures.steady

pub returns-in-Some-element_of-clause-steady : goal.returns-in-Some-element_of-clause-steady
returns-in-Some-element_of-clause-steady t c =
    index-steady c.args.indices.now (given_if c.args.given) c.chosen-in-Some-element_of.result c.in-Some.last.now (given_of c.in-Some-element_of.inner) c.in-Some.rest.now c.spot_at-spot.result c.in-Some.ensures.cases.0
    c.in-Some-element_of.ensures c.spot_at-spot.ensures.steady c.chosen-in-Some-element_of.ensures.steady

pub returns-in-Some-kept-clause-steady : goal.returns-in-Some-kept-clause-steady
returns-in-Some-kept-clause-steady t c =
    part-steady c.args.indices.now (given_if c.args.given) c.spot_at-in-Some-kept.result _ _ (given_of c.in-Some-given.given) (given_of c.in-Some-kept.inner) c.in-Some-kept.ensures c.spot_at-in-Some-kept.ensures.steady

pub returns-in-Some-gone_on-clause-steady : goal.returns-in-Some-gone_on-clause-steady
returns-in-Some-gone_on-clause-steady t c =
    slide-steady c.args.indices.now (given_if c.args.given) c.spot_at-in-Some-gone_on.result (falls (layout c.in-Some-Slide.from.now.of)) c.in-Some-Slide.up c.in-Some-Slide.width c.in-Some-split_first.base.now
    (given_of c.in-Some-given-2.given) (given_of c.in-Some-gone_on.inner) c.in-Some-split_first.rest.now c.in-Some-split_first.ensures.cases.0 c.in-Some-gone_on.ensures c.spot_at-in-Some-gone_on.ensures.steady
