use Rattle.std.proofs.Common.{◌≡◌, IfOk, true, false, rules, subst}
use Rattle.std.proofs.lemmas.Int.{to_z-of_z}
use mir.Val.{SFits, to_z, of_z}
use mir.Syntax.{w64}
use Rattle.target_flatten.specs.Writing.{WritesBetween}
use Rattle.target_walk.proofs.Ending.{between-written, told-writes}
use Rattle.target_walk.proofs.Limiting.{own-narrow, part-narrow}
use Rattle.target_walk.proofs.Owning.{plain-at}
use Rattle.target_walk.proofs.paths.path_writes.Goals as goal

pub spot_at-requires-clause-narrow : goal.spot_at-requires-clause-narrow
spot_at-requires-clause-narrow c = let h = rw c.in-Some-Part.field-0-is at c.in-Some-Part.ensures.step in part-narrow c.args.e.now _ _ _ 4194304 h c.requires.narrow

pub between_writes-requires-clause-narrow : goal.between_writes-requires-clause-narrow
between_writes-requires-clause-narrow c =
    let h = rw c.in-Some-Part.field-0-is at c.in-Some-Part.ensures.step in
    own-narrow c.in-Some-Part.from.now 4194304 (part-narrow c.args.e.now _ _ _ 4194304 h c.requires.narrow)

pub returns-then-not-ends_in_part-clause-writes : goal.returns-then-not-ends_in_part-clause-writes
returns-then-not-ends_in_part-clause-writes c =
    let h = rw c.in-Some-Part.field-0-is at c.in-Some-Part.ensures.step in
    let left_fits : SFits w64 c.in-Some-Part.left = search rules in
    let right_fits : SFits w64 c.in-Some-Part.right = search rules in
    let left_same : to_z w64 (of_z w64 c.in-Some-Part.left) ≡ c.in-Some-Part.left = to_z-of_z w64 c.in-Some-Part.left left_fits in
    let right_same : to_z w64 (of_z w64 c.in-Some-Part.right) ≡ c.in-Some-Part.right = to_z-of_z w64 c.in-Some-Part.right right_fits in
    between-written c.args.image.now c.args.e.now c.in-Some-Part.from.now c.in-Some-Part.left c.in-Some-Part.right c.args.indices.now c.in_ok-spot.spot c.between_writes.result h c.if-not-ends_in_part.ensures c.requires.narrow
    c.in_ok-spot.ensures.stands
    (subst (λ y. IfOk c.between_writes.result (WritesBetween c.args.image.now.bits c.in_ok-spot.spot c.in-Some-Part.from.now.of y c.in-Some-Part.right c.args.image.now.room)) left_same
    (subst (λ y. IfOk c.between_writes.result (WritesBetween c.args.image.now.bits c.in_ok-spot.spot c.in-Some-Part.from.now.of (to_z w64 (of_z w64 c.in-Some-Part.left)) y c.args.image.now.room)) right_same
    c.between_writes.ensures.writes)) c.between_writes.ensures.names

pub returns-then-not-ends_in_part-clause-own : goal.returns-then-not-ends_in_part-clause-own
returns-then-not-ends_in_part-clause-own c = c.between_writes.ensures.own

pub returns-then-not-ends_in_part-clause-plain : goal.returns-then-not-ends_in_part-clause-plain
returns-then-not-ends_in_part-clause-plain c =
    plain-at c.args.image.now c.args.indices.now c.in_ok-spot.spot c.between_writes.result c.in_ok-spot.ensures.steady c.between_writes.ensures.plain

pub returns-then-ends_in_part-clause-writes : goal.returns-then-ends_in_part-clause-writes
returns-then-ends_in_part-clause-writes c =
    told-writes c.args.image.now c.args.e.now c.args.indices.now true c.cells.result c.if-ends_in_part.ensures c.cells.ensures.writes

pub returns-else-ends_in_part-clause-writes : goal.returns-else-ends_in_part-clause-writes
returns-else-ends_in_part-clause-writes c =
    told-writes c.args.image.now c.args.e.now c.args.indices.now false c.whole_path.result c.if-ends_in_part.ensures c.whole_path.ensures.writes
