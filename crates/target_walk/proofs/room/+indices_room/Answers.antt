use Rattle.std.proofs.Common.{arith, subst, sym}
use Rattle.eval_parts.proofs.Nodes.{nodes-Member, nodes-Index, nodes-Part, nodes-Slide}
use Rattle.target_walk.specs.Rooms.{MakesRoom}
use Rattle.target_walk.proofs.Limiting.{member-narrow, index-narrow, part-narrow, slide-narrow, own-narrow, small-first}
use Rattle.target_walk.proofs.Rooming.{room-Signal, room-Local, room-Member, room-Part, room-Index, room-Slide}
use Rattle.target_walk.proofs.room.+indices_room.Goals as goal

pub indices_room-requires : goal.indices_room-requires
indices_room-requires t c =
    let h = rw c.in-Some-Member.field-0-is at c.in-Some-Member.ensures.step in
    let less = nodes-Member c.args.e.now _ _ h in
    (omega (arith, c.decreases, less), (member-narrow c.args.e.now _ _ 4194304 h c.requires.narrow, c.requires.small))

pub bounds_of-requires : goal.bounds_of-requires
bounds_of-requires t c =
    let h = rw c.in-Some-Index.field-0-is at c.in-Some-Index.ensures.step in
    own-narrow c.in-Some-Index.from.now 4194304 (index-narrow c.args.e.now _ _ 4194304 h c.requires.narrow)

pub indices_room-requires-in-Some : goal.indices_room-requires-in-Some
indices_room-requires-in-Some t c =
    let h = rw c.in-Some-Index.field-0-is at c.in-Some-Index.ensures.step in
    let less = nodes-Index c.args.e.now _ _ h in
    (omega (arith, c.decreases, less), (index-narrow c.args.e.now _ _ 4194304 h c.requires.narrow, (small-first c.args.indices.now c.in-Some.last.now c.in-Some.rest.now c.in-Some.ensures.cases.0 c.requires.small).1))

pub indices_room-requires-in-Some-Part : goal.indices_room-requires-in-Some-Part
indices_room-requires-in-Some-Part t c =
    let h = rw c.in-Some-Part.field-0-is at c.in-Some-Part.ensures.step in
    let less = nodes-Part c.args.e.now _ _ _ h in
    (omega (arith, c.decreases, less), (part-narrow c.args.e.now _ _ _ 4194304 h c.requires.narrow, c.requires.small))

pub bounds_of-requires-in-Some-split_first : goal.bounds_of-requires-in-Some-split_first
bounds_of-requires-in-Some-split_first t c =
    let h = rw c.in-Some-Slide.field-0-is at c.in-Some-Slide.ensures.step in
    own-narrow c.in-Some-Slide.from.now 4194304 (slide-narrow c.args.e.now _ _ _ _ 4194304 h c.requires.narrow)

pub indices_room-requires-in-Some-split_first : goal.indices_room-requires-in-Some-split_first
indices_room-requires-in-Some-split_first t c =
    let h = rw c.in-Some-Slide.field-0-is at c.in-Some-Slide.ensures.step in
    let less = nodes-Slide c.args.e.now _ _ _ _ h in
    (omega (arith, c.decreases, less), (slide-narrow c.args.e.now _ _ _ _ 4194304 h c.requires.narrow, (small-first c.args.indices.now c.in-Some-split_first.last.now c.in-Some-split_first.rest.now c.in-Some-split_first.ensures.cases.0 c.requires.small).1))

pub returns-in-Some-Signal-clause-room : goal.returns-in-Some-Signal-clause-room
returns-in-Some-Signal-clause-room t c = let h = rw c.in-Some-Signal.field-0-is at c.in-Some-Signal.ensures.step in room-Signal c.args.e.now _ c.args.indices.now 0 h

pub returns-in-Some-Local-clause-room : goal.returns-in-Some-Local-clause-room
returns-in-Some-Local-clause-room t c = let h = rw c.in-Some-Local.field-0-is at c.in-Some-Local.ensures.step in room-Local c.args.e.now _ c.args.indices.now 0 h

pub returns-in-Some-Member-clause-room : goal.returns-in-Some-Member-clause-room
returns-in-Some-Member-clause-room t c =
    let h = rw c.in-Some-Member.field-0-is at c.in-Some-Member.ensures.step in
    room-Member c.args.e.now c.in-Some-Member.from.now _ c.args.indices.now c.indices_room.result h c.indices_room.ensures.room

pub returns-in-Some-clause-room : goal.returns-in-Some-clause-room
returns-in-Some-clause-room t c =
    let h = rw c.in-Some-Index.field-0-is at c.in-Some-Index.ensures.step in
    subst (λ l. MakesRoom c.args.e.now l c.max.result) (sym c.in-Some.ensures.cases.0)
    (room-Index c.args.e.now c.in-Some-Index.from.now _ c.in-Some.last.now c.in-Some.rest.now c.bounds_of.result c.step_room-own.result c.indices_room-in-Some.result c.max.result h c.bounds_of.ensures.left c.bounds_of.ensures.right
    c.step_room-own.ensures.room c.max.ensures c.indices_room-in-Some.ensures.room)

pub returns-in-Some-Part-clause-room : goal.returns-in-Some-Part-clause-room
returns-in-Some-Part-clause-room t c =
    let h = rw c.in-Some-Part.field-0-is at c.in-Some-Part.ensures.step in
    room-Part c.args.e.now c.in-Some-Part.from.now _ _ c.args.indices.now c.indices_room-in-Some-Part.result h c.indices_room-in-Some-Part.ensures.room

pub returns-in-Some-split_first-clause-room : goal.returns-in-Some-split_first-clause-room
returns-in-Some-split_first-clause-room t c =
    let h = rw c.in-Some-Slide.field-0-is at c.in-Some-Slide.ensures.step in
    subst (λ l. MakesRoom c.args.e.now l c.max-in-Some-split_first.result) (sym c.in-Some-split_first.ensures.cases.0)
    (room-Slide c.args.e.now c.in-Some-Slide.from.now _ _ _ c.in-Some-split_first.last.now c.in-Some-split_first.rest.now c.bounds_of-in-Some-split_first.result c.step_room-own-in-Some-split_first.result
    c.indices_room-in-Some-split_first.result c.max-in-Some-split_first.result h c.bounds_of-in-Some-split_first.ensures.left c.bounds_of-in-Some-split_first.ensures.right c.step_room-own-in-Some-split_first.ensures.room
    c.max-in-Some-split_first.ensures c.indices_room-in-Some-split_first.ensures.room)
