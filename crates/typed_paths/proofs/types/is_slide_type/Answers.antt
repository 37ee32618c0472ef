use Rattle.std.proofs.Common.{ap}
use mir.Val.{of_z}
use mir.Syntax.{w64}
use Rattle.typed_paths.proofs.Typing.{slide-none, slide-zero, slide-right, slide-element}
use Rattle.typed_paths.proofs.types.is_slide_type.Goals as goal

pub returns-then-not-has_elements : goal.returns-then-not-has_elements
returns-then-not-has_elements c = slide-none c.args.t.now c.args.from.now c.args.n c.if-not-has_elements.ensures

pub returns-then-n-eq0 : goal.returns-then-n-eq0
returns-then-n-eq0 c = slide-zero c.args.t.now c.args.from.now c.args.n c.if-n-eq0.true

pub returns-then-own-ne0 : goal.returns-then-own-ne0
returns-then-own-ne0 c = slide-right c.args.t.now c.args.from.now c.args.n c.bounds_of-own.result.right c.bounds_of-own.ensures.right (λ e. c.if-own-ne0.true (ap (of_z w64) e))

pub returns-then-own-whole : goal.returns-then-own-whole
returns-then-own-whole c =
    slide-element c.args.t.now c.args.from.now c.args.n c.bounds_of-own.result.element c.bounds_of-whole.result.element c.bounds_of-own.ensures.element c.bounds_of-whole.ensures.element c.if-own-whole.true
