use Rattle.std.proofs.Common.{◌≡◌, not, arith, rules, ap, sym, subst}
use Rattle.std.proofs.lemmas.Int.{to_z-of_z}
use mir.Val.{SFits, to_z, of_z}
use mir.Syntax.{w64}
use Rattle.eval_parts.proofs.Nodes.{nodes-Member, nodes-Index, nodes-Part, nodes-Slide}
use Rattle.typed_paths.specs.Tests.{IsPartType}
use Rattle.typed_paths.specs.Typed.{IsTyped}
use Rattle.typed_paths.proofs.Narrowing.{own-narrow, member-narrow, index-narrow, part-narrow, slide-narrow}
use Rattle.typed_paths.proofs.Typing.{typed-Signal, typed-Local, typed-Member, typed-Index, typed-Part, typed-Slide, tells-no, no-plain, no-member, no-index, no-part, no-slide}
use Rattle.typed_paths.proofs.paths.+is_typed_path.Goals as goal

pub is_typed_path-requires : goal.is_typed_path-requires
is_typed_path-requires t c =
    let h = rw c.in-Some-Member.field-0-is at c.in-Some-Member.ensures.step in
    let less = nodes-Member c.args.e.now _ _ h in
    (omega (arith, c.decreases, less), member-narrow c.args.e.now _ _ 4194304 h c.requires.narrow)

pub is_typed_path-requires-then-has_elements : goal.is_typed_path-requires-then-has_elements
is_typed_path-requires-then-has_elements t c =
    let h = rw c.in-Some-Index.field-0-is at c.in-Some-Index.ensures.step in
    let less = nodes-Index c.args.e.now _ _ h in
    (omega (arith, c.decreases, less), index-narrow c.args.e.now _ _ 4194304 h c.requires.narrow)

pub is_part_type-requires-clause-narrow : goal.is_part_type-requires-clause-narrow
is_part_type-requires-clause-narrow t c = own-narrow c.args.e.now 4194304 c.requires.narrow

pub is_part_type-requires-clause-whole : goal.is_part_type-requires-clause-whole
is_part_type-requires-clause-whole t c =
    let h = rw c.in-Some-Part.field-0-is at c.in-Some-Part.ensures.step in
    own-narrow c.in-Some-Part.from.now 4194304 (part-narrow c.args.e.now _ _ _ 4194304 h c.requires.narrow)

pub is_typed_path-requires-then-is_part_type : goal.is_typed_path-requires-then-is_part_type
is_typed_path-requires-then-is_part_type t c =
    let h = rw c.in-Some-Part.field-0-is at c.in-Some-Part.ensures.step in
    let less = nodes-Part c.args.e.now _ _ _ h in
    (omega (arith, c.decreases, less), part-narrow c.args.e.now _ _ _ 4194304 h c.requires.narrow)

pub is_slide_type-requires-clause-narrow : goal.is_slide_type-requires-clause-narrow
is_slide_type-requires-clause-narrow t c = own-narrow c.args.e.now 4194304 c.requires.narrow

pub is_slide_type-requires-clause-whole : goal.is_slide_type-requires-clause-whole
is_slide_type-requires-clause-whole t c =
    let h = rw c.in-Some-Slide.field-0-is at c.in-Some-Slide.ensures.step in
    own-narrow c.in-Some-Slide.from.now 4194304 (slide-narrow c.args.e.now _ _ _ _ 4194304 h c.requires.narrow)

pub is_typed_path-requires-then-is_slide_type : goal.is_typed_path-requires-then-is_slide_type
is_typed_path-requires-then-is_slide_type t c =
    let h = rw c.in-Some-Slide.field-0-is at c.in-Some-Slide.ensures.step in
    let less = nodes-Slide c.args.e.now _ _ _ _ h in
    (omega (arith, c.decreases, less), slide-narrow c.args.e.now _ _ _ _ 4194304 h c.requires.narrow)

pub returns-in-Some-Signal : goal.returns-in-Some-Signal
returns-in-Some-Signal t c = (let h = rw c.in-Some-Signal.field-0-is at c.in-Some-Signal.ensures.step in typed-Signal c.args.e.now _ h)

pub returns-in-Some-Local : goal.returns-in-Some-Local
returns-in-Some-Local t c = (let h = rw c.in-Some-Local.field-0-is at c.in-Some-Local.ensures.step in typed-Local c.args.e.now _ h)

pub returns-then-not-ends_in_part : goal.returns-then-not-ends_in_part
returns-then-not-ends_in_part t c =
    let h = rw c.in-Some-Member.field-0-is at c.in-Some-Member.ensures.step in
    typed-Member c.args.e.now c.in-Some-Member.from.now _ c.is_typed_path.result h c.if-not-ends_in_part.ensures c.is_typed_path.ensures

pub returns-then-has_elements : goal.returns-then-has_elements
returns-then-has_elements t c =
    let h = rw c.in-Some-Index.field-0-is at c.in-Some-Index.ensures.step in
    typed-Index c.args.e.now c.in-Some-Index.from.now _ c.is_typed_path-then-has_elements.result h (sym c.if-has_elements.ensures) c.is_typed_path-then-has_elements.ensures

pub returns-then-is_part_type : goal.returns-then-is_part_type
returns-then-is_part_type t c =
    let e = c.args.e.now in
    let from = c.in-Some-Part.from.now in
    let h = rw c.in-Some-Part.field-0-is at c.in-Some-Part.ensures.step in
    let left_fits : SFits w64 c.in-Some-Part.left = search rules in
    let right_fits : SFits w64 c.in-Some-Part.right = search rules in
    let left_same : to_z w64 (of_z w64 c.in-Some-Part.left) ≡ c.in-Some-Part.left = to_z-of_z w64 c.in-Some-Part.left left_fits in
    let right_same : to_z w64 (of_z w64 c.in-Some-Part.right) ≡ c.in-Some-Part.right = to_z-of_z w64 c.in-Some-Part.right right_fits in
    let bounds = subst (λ y. IsPartType c.args.e.now.of c.in-Some-Part.from.now.of y c.in-Some-Part.right) left_same
    (subst (λ y. IsPartType c.args.e.now.of c.in-Some-Part.from.now.of (to_z w64 (of_z w64 c.in-Some-Part.left)) y) right_same c.if-is_part_type.ensures) in
    typed-Part e from c.in-Some-Part.left c.in-Some-Part.right c.is_typed_path-then-is_part_type.result h bounds c.is_typed_path-then-is_part_type.ensures

pub returns-then-is_slide_type : goal.returns-then-is_slide_type
returns-then-is_slide_type t c =
    let h = rw c.in-Some-Slide.field-0-is at c.in-Some-Slide.ensures.step in
    typed-Slide c.args.e.now c.in-Some-Slide.from.now _ _ _ c.is_typed_path-then-is_slide_type.result h c.if-is_slide_type.ensures c.is_typed_path-then-is_slide_type.ensures

pub returns-in-None : goal.returns-in-None
returns-in-None t c = no-plain c.args.e.now c.in-None.ensures.plain

pub returns-else-not-ends_in_part : goal.returns-else-not-ends_in_part
returns-else-not-ends_in_part t c =
    let h = rw c.in-Some-Member.field-0-is at c.in-Some-Member.ensures.step in
    tells-no (not c.ends_in_part.result) (IsTyped c.args.e.now) (ap not c.if-not-ends_in_part.false) (no-member c.args.e.now c.in-Some-Member.from.now _ h c.if-not-ends_in_part.ensures)

pub returns-else-has_elements : goal.returns-else-has_elements
returns-else-has_elements t c =
    let h = rw c.in-Some-Index.field-0-is at c.in-Some-Index.ensures.step in
    tells-no _ (IsTyped c.args.e.now) c.if-has_elements.false (no-index c.args.e.now c.in-Some-Index.from.now _ h c.if-has_elements.ensures)

pub returns-else-is_part_type : goal.returns-else-is_part_type
returns-else-is_part_type t c =
    let h = rw c.in-Some-Part.field-0-is at c.in-Some-Part.ensures.step in
    let left_fits : SFits w64 c.in-Some-Part.left = search rules in
    let right_fits : SFits w64 c.in-Some-Part.right = search rules in
    let left_same : to_z w64 (of_z w64 c.in-Some-Part.left) ≡ c.in-Some-Part.left = to_z-of_z w64 c.in-Some-Part.left left_fits in
    let right_same : to_z w64 (of_z w64 c.in-Some-Part.right) ≡ c.in-Some-Part.right = to_z-of_z w64 c.in-Some-Part.right right_fits in
    let bounds = subst (λ y. IsPartType c.args.e.now.of c.in-Some-Part.from.now.of y c.in-Some-Part.right → ⊥) left_same
    (subst (λ y. IsPartType c.args.e.now.of c.in-Some-Part.from.now.of (to_z w64 (of_z w64 c.in-Some-Part.left)) y → ⊥) right_same c.if-is_part_type.ensures) in
    tells-no _ (IsTyped c.args.e.now) c.if-is_part_type.false (no-part c.args.e.now c.in-Some-Part.from.now c.in-Some-Part.left c.in-Some-Part.right h bounds)

pub returns-else-is_slide_type : goal.returns-else-is_slide_type
returns-else-is_slide_type t c =
    let h = rw c.in-Some-Slide.field-0-is at c.in-Some-Slide.ensures.step in
    tells-no _ (IsTyped c.args.e.now) c.if-is_slide_type.false (no-slide c.args.e.now c.in-Some-Slide.from.now _ _ _ h c.if-is_slide_type.ensures)
