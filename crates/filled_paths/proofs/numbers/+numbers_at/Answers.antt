use Rattle.std.proofs.Common.{arith}
use Rattle.eval_parts.proofs.Nodes.{nodes-Member, nodes-Index, nodes-Part, nodes-Slide}
use Rattle.typed_paths.proofs.Narrowing.{own-narrow, member-narrow, index-narrow, part-narrow, slide-narrow}
use Rattle.filled_paths.proofs.Steps.{names-plain, names-signal, names-local, names-member, names-part, names-index, names-slide, names-here, names-base}
use Rattle.filled_paths.proofs.numbers.+numbers_at.Goals as goal

pub numbers_at-requires : goal.numbers_at-requires
numbers_at-requires t c =
    let h = rw c.in-Some-Member.field-0-is at c.in-Some-Member.ensures.step in
    let less = nodes-Member c.args.e.now _ _ h in
    (omega (arith, c.decreases, less), member-narrow c.args.e.now _ _ 4194304 h c.requires.narrow)

pub numbers_at-requires-in-Some-Part : goal.numbers_at-requires-in-Some-Part
numbers_at-requires-in-Some-Part t c =
    let h = rw c.in-Some-Part.field-0-is at c.in-Some-Part.ensures.step in
    let less = nodes-Part c.args.e.now _ _ _ h in
    (omega (arith, c.decreases, less), part-narrow c.args.e.now _ _ _ 4194304 h c.requires.narrow)

pub bounds_of-requires : goal.bounds_of-requires
bounds_of-requires t c =
    let h = rw c.in-Some-Index.field-0-is at c.in-Some-Index.ensures.step in
    own-narrow c.in-Some-Index.from.now 4194304 (index-narrow c.args.e.now _ _ 4194304 h c.requires.narrow)

pub numbers_at-requires-else-at-eq0 : goal.numbers_at-requires-else-at-eq0
numbers_at-requires-else-at-eq0 t c =
    let h = rw c.in-Some-Index.field-0-is at c.in-Some-Index.ensures.step in
    let less = nodes-Index c.args.e.now _ _ h in
    (omega (arith, c.decreases, less), index-narrow c.args.e.now _ _ 4194304 h c.requires.narrow)

pub bounds_of-requires-then-at-eq0-2 : goal.bounds_of-requires-then-at-eq0-2
bounds_of-requires-then-at-eq0-2 t c =
    let h = rw c.in-Some-Slide.field-0-is at c.in-Some-Slide.ensures.step in
    own-narrow c.in-Some-Slide.from.now 4194304 (slide-narrow c.args.e.now _ _ _ _ 4194304 h c.requires.narrow)

pub numbers_at-requires-else-at-eq0-2 : goal.numbers_at-requires-else-at-eq0-2
numbers_at-requires-else-at-eq0-2 t c =
    let h = rw c.in-Some-Slide.field-0-is at c.in-Some-Slide.ensures.step in
    let less = nodes-Slide c.args.e.now _ _ _ _ h in
    (omega (arith, c.decreases, less), slide-narrow c.args.e.now _ _ _ _ 4194304 h c.requires.narrow)

pub returns-in-None-clause-within : goal.returns-in-None-clause-within
returns-in-None-clause-within t c = names-plain c.args.e.now c.args.at _ c.in-None.ensures.plain

pub returns-in-Some-Signal-clause-within : goal.returns-in-Some-Signal-clause-within
returns-in-Some-Signal-clause-within t c = names-signal c.args.e.now _ c.args.at _ (rw c.in-Some-Signal.field-0-is at c.in-Some-Signal.ensures.step)

pub returns-in-Some-Local-clause-within : goal.returns-in-Some-Local-clause-within
returns-in-Some-Local-clause-within t c = names-local c.args.e.now _ c.args.at _ (rw c.in-Some-Local.field-0-is at c.in-Some-Local.ensures.step)

pub returns-in-Some-Member-clause-within : goal.returns-in-Some-Member-clause-within
returns-in-Some-Member-clause-within t c =
    let h = rw c.in-Some-Member.field-0-is at c.in-Some-Member.ensures.step in
    names-member c.args.e.now c.in-Some-Member.from.now c.numbers_at.result _ c.args.at h c.numbers_at.ensures.within

pub returns-in-Some-Part-clause-within : goal.returns-in-Some-Part-clause-within
returns-in-Some-Part-clause-within t c =
    let h = rw c.in-Some-Part.field-0-is at c.in-Some-Part.ensures.step in
    names-part c.args.e.now c.in-Some-Part.from.now c.numbers_at-in-Some-Part.result _ _ c.args.at h c.numbers_at-in-Some-Part.ensures.within

pub returns-then-at-eq0-clause-within : goal.returns-then-at-eq0-clause-within
returns-then-at-eq0-clause-within t c =
    let h = rw c.in-Some-Index.field-0-is at c.in-Some-Index.ensures.step in
    names-here c.args.e.now c.in-Some-Index.from.now c.around.result _ c.args.at c.bounds_of.result.left c.bounds_of.result.right h (omega arith) c.bounds_of.ensures.left c.bounds_of.ensures.right c.around.ensures.around

pub returns-else-at-eq0-clause-within : goal.returns-else-at-eq0-clause-within
returns-else-at-eq0-clause-within t c =
    let h = rw c.in-Some-Index.field-0-is at c.in-Some-Index.ensures.step in
    names-index c.args.e.now c.in-Some-Index.from.now c.numbers_at-else-at-eq0.result _ c.args.at _ h (omega arith) c.numbers_at-else-at-eq0.ensures.within

pub returns-then-at-eq0-2-clause-within : goal.returns-then-at-eq0-2-clause-within
returns-then-at-eq0-2-clause-within t c =
    let h = rw c.in-Some-Slide.field-0-is at c.in-Some-Slide.ensures.step in
    names-base c.args.e.now c.in-Some-Slide.from.now c.around-then-at-eq0-2.result _ c.in-Some-Slide.width c.saturating_sub-far.result _ c.args.at c.bounds_of-then-at-eq0-2.result.left c.bounds_of-then-at-eq0-2.result.right h (omega arith)
    (omega arith) c.bounds_of-then-at-eq0-2.ensures.left c.bounds_of-then-at-eq0-2.ensures.right c.around-then-at-eq0-2.ensures.around

pub returns-else-at-eq0-2-clause-within : goal.returns-else-at-eq0-2-clause-within
returns-else-at-eq0-2-clause-within t c =
    let h = rw c.in-Some-Slide.field-0-is at c.in-Some-Slide.ensures.step in
    names-slide c.args.e.now c.in-Some-Slide.from.now c.numbers_at-else-at-eq0-2.result _ _ _ c.args.at _ h (omega arith) c.numbers_at-else-at-eq0-2.ensures.within
