use Rattle.std.proofs.Common.{◌≡◌, ℤ, option_copied, rules, arith, sym, ◌∙◌, subst}
use Rattle.std.proofs.lemmas.Int.{to_z-of_z}
use mir.Val.{SFits, to_z, of_z}
use mir.Syntax.{w64}
use Rattle.path_flatten.specs.Stepping.{ReadsBetween}
use Rattle.name_maps.specs.Named.{signal_name, local_name, OneSignal, OneLocal}
use Rattle.path_walk.specs.Bases.{value_of, IsMemoryAt}
use Rattle.path_walk.specs.Flattening.{FindsElement, FindsSlide}
use Rattle.path_walk.specs.Indices.{AllShort}
use Rattle.path_walk.proofs.Lists.{no-items, short-last}
use Rattle.path_walk.proofs.Typed.{fine-of, from-Member, from-Index, from-Part, from-Slide, own-narrow, own-some, slide-size}
use Rattle.path_walk.proofs.Walking.{finds-Signal, finds-Local, finds-value, finds-Member, finds-Part, finds-Slide, finds-element, finds-word, lacks-Index, lacks-Slide}
use Rattle.path_walk.proofs.paths.+follow.Goals as goal

-- roots
pub follow-returns-in_ok-whole-in-None-clause-finds : goal.follow-returns-in_ok-whole-in-None-clause-finds
follow-returns-in_ok-whole-in-None-clause-finds t c =
    finds-value c.args.names.now (value_of (option_copied c.args.base)) c.args.e.now c.args.indices.now c.args.helpers.now c.own_width.result c.in_ok-whole-in-None.whole c.in-None.ensures.plain c.in-None.ensures.step
    c.own_width.ensures c.in_ok-whole-in-None.ensures.reads c.in_ok-whole-in-None.ensures.names

pub follow-returns-in_ok-name-in-Some-Signal-clause-finds : goal.follow-returns-in_ok-name-in-Some-Signal-clause-finds
follow-returns-in_ok-name-in-Some-Signal-clause-finds t c =
    let h = rw c.in-Some-Signal.field-0-is at c.in-Some-Signal.ensures.step in
    finds-Signal c.args.names.now (value_of (option_copied c.args.base)) c.args.e.now c.args.indices.now c.args.helpers.now c.in-Some-Signal.n c.own_width-in-Some-Signal.result c.in_ok-name-in-Some-Signal.name
    c.whole_name.result h (subst (λ l. OneSignal l c.in-Some-Signal.n → c.in_ok-name-in-Some-Signal.name ≡ signal_name l c.in-Some-Signal.n) c.as_slice.ensures c.in_ok-name-in-Some-Signal.ensures) c.own_width-in-Some-Signal.ensures c.whole_name.ensures.reads c.whole_name.ensures.root

pub follow-returns-in_ok-name-in-Some-Local-clause-finds : goal.follow-returns-in_ok-name-in-Some-Local-clause-finds
follow-returns-in_ok-name-in-Some-Local-clause-finds t c =
    let h = rw c.in-Some-Local.field-0-is at c.in-Some-Local.ensures.step in
    finds-Local c.args.names.now (value_of (option_copied c.args.base)) c.args.e.now c.args.indices.now c.args.helpers.now c.in-Some-Local.n c.own_width-in-Some-Local.result c.in_ok-name-in-Some-Local.name
    c.whole_name-in-Some-Local.result h (subst (λ l. OneLocal l c.in-Some-Local.n → c.in_ok-name-in-Some-Local.name ≡ local_name l c.in-Some-Local.n) c.as_slice-in-Some-Local.ensures c.in_ok-name-in-Some-Local.ensures) c.own_width-in-Some-Local.ensures
    c.whole_name-in-Some-Local.ensures.reads c.whole_name-in-Some-Local.ensures.root

-- selects without an index
pub follow-follow-requires : goal.follow-follow-requires
follow-follow-requires t c =
    let h = rw c.in-Some-Member.field-0-is at c.in-Some-Member.ensures.step in
    let from = from-Member c.args.e.now _ _ h (fine-of c.args.e.now c.requires.typed c.requires.narrow) in
    (omega (arith, c.decreases, from.fewer), (from.typed, (from.narrow, c.requires.short)))

pub follow-member_step-requires-clause-narrow : goal.follow-member_step-requires-clause-narrow
follow-member_step-requires-clause-narrow t c =
    let h = rw c.in-Some-Member.field-0-is at c.in-Some-Member.ensures.step in
    (from-Member c.args.e.now _ _ h (fine-of c.args.e.now c.requires.typed c.requires.narrow)).own

pub follow-returns-in_ok-found-in-Some-Member-clause-finds : goal.follow-returns-in_ok-found-in-Some-Member-clause-finds
follow-returns-in_ok-found-in-Some-Member-clause-finds t c =
    let h = rw c.in-Some-Member.field-0-is at c.in-Some-Member.ensures.step in
    finds-Member c.args.names.now (value_of (option_copied c.args.base)) c.args.e.now c.in-Some-Member.from.now c.in-Some-Member.k c.args.indices.now c.follow.new.helpers c.in_ok-found-in-Some-Member.found
    c.member_step.result h c.requires.typed c.in_ok-found-in-Some-Member.ensures.finds c.member_step.ensures.reads c.member_step.ensures.root

pub follow-follow-requires-in-Some-Part : goal.follow-follow-requires-in-Some-Part
follow-follow-requires-in-Some-Part t c =
    let h = rw c.in-Some-Part.field-0-is at c.in-Some-Part.ensures.step in
    let from = from-Part c.args.e.now _ _ _ h (fine-of c.args.e.now c.requires.typed c.requires.narrow) in
    (omega (arith, c.decreases, from.fewer), (from.typed, (from.narrow, c.requires.short)))

pub follow-between_step-requires-clause-narrow : goal.follow-between_step-requires-clause-narrow
follow-between_step-requires-clause-narrow t c =
    let h = rw c.in-Some-Part.field-0-is at c.in-Some-Part.ensures.step in
    (from-Part c.args.e.now _ _ _ h (fine-of c.args.e.now c.requires.typed c.requires.narrow)).own

pub follow-returns-in_ok-found-in-Some-Part-clause-finds : goal.follow-returns-in_ok-found-in-Some-Part-clause-finds
follow-returns-in_ok-found-in-Some-Part-clause-finds t c =
    let h = rw c.in-Some-Part.field-0-is at c.in-Some-Part.ensures.step in
    let left_fits : SFits w64 c.in-Some-Part.left = search rules in
    let right_fits : SFits w64 c.in-Some-Part.right = search rules in
    let left : to_z w64 (of_z w64 c.in-Some-Part.left) ≡ c.in-Some-Part.left = to_z-of_z w64 c.in-Some-Part.left left_fits in
    let right : to_z w64 (of_z w64 c.in-Some-Part.right) ≡ c.in-Some-Part.right = to_z-of_z w64 c.in-Some-Part.right right_fits in
    let old = c.in_ok-found-in-Some-Part.found in
    let from = c.in-Some-Part.from.now in
    let reads = subst (λ (n : ℤ). ReadsBetween old from.of c.in-Some-Part.left n c.between_step.result) right
    (subst (λ (n : ℤ). ReadsBetween old from.of n (to_z w64 (of_z w64 c.in-Some-Part.right)) c.between_step.result) left c.between_step.ensures.reads) in
    finds-Part c.args.names.now (value_of (option_copied c.args.base)) c.args.e.now from c.in-Some-Part.left c.in-Some-Part.right c.args.indices.now c.follow-in-Some-Part.new.helpers old c.between_step.result h
    c.requires.typed c.in_ok-found-in-Some-Part.ensures.finds reads c.between_step.ensures.root

-- by an index
pub follow-element-requires : goal.follow-element-requires
follow-element-requires t c =
    let h = rw c.in-Some-Index.field-0-is at c.in-Some-Index.ensures.step in
    let from = from-Index c.args.e.now _ _ h (fine-of c.args.e.now c.requires.typed c.requires.narrow) in
    (omega (arith, c.decreases, from.fewer), (from.typed, (from.narrow, c.requires.short)))

pub follow-returns-in_ok-found-in-Some-Index-clause-finds : goal.follow-returns-in_ok-found-in-Some-Index-clause-finds
follow-returns-in_ok-found-in-Some-Index-clause-finds t c =
    let h = rw c.in-Some-Index.field-0-is at c.in-Some-Index.ensures.step in
    c.in_ok-found-in-Some-Index.ensures.finds c.args.e.now _ h c.requires.typed

pub follow-slid-requires : goal.follow-slid-requires
follow-slid-requires t c =
    let h = rw c.in-Some-Slide.field-0-is at c.in-Some-Slide.ensures.step in
    let from = from-Slide c.args.e.now _ _ _ _ h (fine-of c.args.e.now c.requires.typed c.requires.narrow) in
    (omega (arith, c.decreases, from.fewer), (from.typed, (from.narrow, c.requires.short)))

pub follow-returns-in_ok-found-in-Some-Slide-clause-finds : goal.follow-returns-in_ok-found-in-Some-Slide-clause-finds
follow-returns-in_ok-found-in-Some-Slide-clause-finds t c =
    let h = rw c.in-Some-Slide.field-0-is at c.in-Some-Slide.ensures.step in
    c.in_ok-found-in-Some-Slide.ensures.finds c.args.e.now _ h c.requires.typed c.own_width-in-Some-Slide.ensures

-- elements
pub element-returns-in-None-clause-finds : goal.element-returns-in-None-clause-finds
element-returns-in-None-clause-finds t c e i is typed =
    lacks-Index c.args.names.now (value_of (option_copied c.args.base)) e c.args.from.now i c.args.indices.now c.args.helpers.now c.whole_name.result is (no-items c.args.indices.now c.in-None.ensures.cases)

pub element-word-requires-clause-narrow : goal.element-word-requires-clause-narrow
element-word-requires-clause-narrow t c = own-narrow c.args.from.now c.requires.narrow

pub element-word-requires-clause-some : goal.element-word-requires-clause-some
element-word-requires-clause-some t c = own-some c.args.from.now c.requires.typed

pub element-word-requires-clause-short : goal.element-word-requires-clause-short
element-word-requires-clause-short t c =
    (short-last c.in-Some.rest.now c.in-Some.at.now (subst AllShort c.in-Some.ensures.cases.0 c.requires.short)).1

pub element-returns-in_ok-read-in-Some-memory_at-clause-finds : goal.element-returns-in_ok-read-in-Some-memory_at-clause-finds
element-returns-in_ok-read-in-Some-memory_at-clause-finds t c =
    let names = c.args.names.now in
    let value = value_of (option_copied c.args.base) in
    let from = c.args.from.now in
    let at = subst (IsMemoryAt names.signals from) c.in-Some-memory_at.is (rw c.as_slice.ensures at c.memory_at.ensures) in
    let name = subst (λ l. OneSignal l c.in-Some-memory_at.n → c.in_ok-memory-in-Some-memory_at.memory ≡ signal_name l c.in-Some-memory_at.n) c.as_slice-in-Some-memory_at.ensures c.in_ok-memory-in-Some-memory_at.ensures in
    subst (λ xs. FindsElement names value from xs c.args.helpers.now c.in_ok-read-in-Some-memory_at.read) (sym c.in-Some.ensures.cases.0)
    (finds-word names value from c.in-Some-memory_at.n c.in_ok-memory-in-Some-memory_at.memory c.in-Some.at.now c.in-Some.rest.now c.args.helpers.now c.in_ok-read-in-Some-memory_at.read at name c.requires.typed c.in_ok-read-in-Some-memory_at.ensures.reads c.in_ok-read-in-Some-memory_at.ensures.names)

pub element-follow-requires : goal.element-follow-requires
element-follow-requires t c =
    let short = short-last c.in-Some.rest.now c.in-Some.at.now (subst AllShort c.in-Some.ensures.cases.0 c.requires.short) in
    (omega (arith, c.decreases), (c.requires.typed, (c.requires.narrow, short.0)))

pub element-element-requires-clause-narrow : goal.element-element-requires-clause-narrow
element-element-requires-clause-narrow t c = own-narrow c.args.from.now c.requires.narrow

pub element-element-requires-clause-short : goal.element-element-requires-clause-short
element-element-requires-clause-short t c =
    (short-last c.in-Some.rest.now c.in-Some.at.now (subst AllShort c.in-Some.ensures.cases.0 c.requires.short)).1

pub element-returns-in_ok-made-in-None-memory_at-clause-finds : goal.element-returns-in_ok-made-in-None-memory_at-clause-finds
element-returns-in_ok-made-in-None-memory_at-clause-finds t c =
    let names = c.args.names.now in
    let value = value_of (option_copied c.args.base) in
    let from = c.args.from.now in
    let plain = subst (IsMemoryAt names.signals from) c.in-None-memory_at.is (rw c.as_slice.ensures at c.memory_at.ensures) in
    subst (λ xs. FindsElement names value from xs c.element.new.helpers c.in_ok-made-in-None-memory_at.made) (sym c.in-Some.ensures.cases.0)
    (finds-element names value from c.in-Some.at.now c.in-Some.rest.now c.follow.new.helpers c.element.new.helpers c.in_ok-found-in-None-memory_at.found c.in_ok-made-in-None-memory_at.made plain c.requires.typed
    c.in_ok-made-in-None-memory_at.ensures.grows c.in_ok-found-in-None-memory_at.ensures.finds c.in_ok-made-in-None-memory_at.ensures.reads c.in_ok-made-in-None-memory_at.ensures.names)

-- indexed part-selects
pub slid-returns-in-None-clause-finds : goal.slid-returns-in-None-clause-finds
slid-returns-in-None-clause-finds t c e i is typed wide =
    lacks-Slide c.args.names.now (value_of (option_copied c.args.base)) e c.args.from.now i _ _ c.args.indices.now c.args.helpers.now c.whole_name.result is (no-items c.args.indices.now c.in-None.ensures.cases)

pub slid-follow-requires : goal.slid-follow-requires
slid-follow-requires t c =
    let short = short-last c.in-Some.rest.now c.in-Some.at.now (subst AllShort c.in-Some.ensures.cases.0 c.requires.short) in
    (omega (arith, c.decreases), (c.requires.typed, (c.requires.narrow, short.0)))

pub slid-slide-requires-clause-narrow : goal.slid-slide-requires-clause-narrow
slid-slide-requires-clause-narrow t c = own-narrow c.args.from.now c.requires.narrow

pub slid-slide-requires-clause-short : goal.slid-slide-requires-clause-short
slid-slide-requires-clause-short t c =
    (short-last c.in-Some.rest.now c.in-Some.at.now (subst AllShort c.in-Some.ensures.cases.0 c.requires.short)).1

pub slid-returns-in_ok-made-in-Some-clause-finds : goal.slid-returns-in_ok-made-in-Some-clause-finds
slid-returns-in_ok-made-in-Some-clause-finds t c =
    let value = value_of (option_copied c.args.base) in
    let from = c.args.from.now in
    let part = c.args.part in
    let made = c.in_ok-made-in-Some.made in
    let hs = c.slide.new.helpers in
    subst (λ xs. FindsSlide c.args.names.now value from part xs hs made) (sym c.in-Some.ensures.cases.0)
    (λ e i is typed wide.
    let size = wide ∙ slide-size e from i part.count part.up is typed in
    finds-Slide c.args.names.now value e from i part.count part.up c.in-Some.at.now c.in-Some.rest.now c.follow.new.helpers hs c.in_ok-found-in-Some.found made is typed c.requires.typed c.in_ok-made-in-Some.ensures.grows
    c.in_ok-found-in-Some.ensures.finds (c.in_ok-made-in-Some.ensures.reads size) c.in_ok-made-in-Some.ensures.names)
