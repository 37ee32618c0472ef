use Rattle.std.proofs.Common.{rules, ◌≡◌}
use Rattle.std.proofs.lemmas.Int.{to_z-of_z}
use mir.Val.{SFits, to_z, of_z}
use mir.Syntax.{w64}
use Rattle.sv_types.specs.declared.expression.Expr.{Expr}
use Rattle.element_paths.specs.Elements.{IsAlone}
use Rattle.element_paths.proofs.Copying.{alone-member, alone-element, alone-index, alone-part, alone-slide, if-made, same-index, same-slide, same-part}
use Rattle.element_paths.proofs.alone.+alone.Goals as goal

pub alone_form-returns-in_ok-alone_box-in-Some-Member : goal.alone_form-returns-in_ok-alone_box-in-Some-Member
alone_form-returns-in_ok-alone_box-in-Some-Member t c =
    let h = rw c.in-Some-Member.field-0-is at c.in-Some-Member.ensures.step in
    alone-member c.args.e.now c.in-Some-Member.from.now c.in_ok-alone_box-in-Some-Member.field-0 c.in-Some-Member.k h c.in_ok-alone_box-in-Some-Member.ensures

pub alone_form-returns-in-Some : goal.alone_form-returns-in-Some
alone_form-returns-in-Some t c =
    let h = rw c.in-Some-Index.field-0-is at c.in-Some-Index.ensures.step in
    alone-element c.args.e.now c.in-Some-Index.from.now c.in-Some-Index.i.now c.in-Some.field-0 h c.in-Some.ensures

pub alone_form-returns-in_ok-from-in-None-whole_signal : goal.alone_form-returns-in_ok-from-in-None-whole_signal
alone_form-returns-in_ok-from-in-None-whole_signal t c =
    let h = rw c.in-Some-Index.field-0-is at c.in-Some-Index.ensures.step in
    let e = c.args.e.now in
    let from = c.in-Some-Index.from.now in
    let i = c.in-Some-Index.i.now in
    let made = c.in_ok-from-in-None-whole_signal in
    same-index e made.from i made.i (if-made (λ (k : Expr). k ≡ i) c.index_copy.result made.i made.ensures.1 c.index_copy.ensures)
    (alone-index e from made.from i h c.in-None-whole_signal.ensures (if-made (IsAlone from) c.alone_box-from.result made.from made.ensures.0 c.alone_box-from.ensures))

pub alone_form-returns-in_ok-alone_box-in-Some-Part : goal.alone_form-returns-in_ok-alone_box-in-Some-Part
alone_form-returns-in_ok-alone_box-in-Some-Part t c =
    let h = rw c.in-Some-Part.field-0-is at c.in-Some-Part.ensures.step in
    let left_fits : SFits w64 c.in-Some-Part.left = search rules in
    let right_fits : SFits w64 c.in-Some-Part.right = search rules in
    same-part c.args.e.now c.in_ok-alone_box-in-Some-Part.field-0 c.in-Some-Part.left c.in-Some-Part.right (to_z w64 (of_z w64 c.in-Some-Part.left)) (to_z w64 (of_z w64 c.in-Some-Part.right))
    (to_z-of_z w64 c.in-Some-Part.left left_fits) (to_z-of_z w64 c.in-Some-Part.right right_fits)
    (alone-part c.args.e.now c.in-Some-Part.from.now c.in_ok-alone_box-in-Some-Part.field-0 c.in-Some-Part.left c.in-Some-Part.right h c.in_ok-alone_box-in-Some-Part.ensures)

pub alone_form-returns-in_ok-from-in-Some-Slide : goal.alone_form-returns-in_ok-from-in-Some-Slide
alone_form-returns-in_ok-from-in-Some-Slide t c =
    let h = rw c.in-Some-Slide.field-0-is at c.in-Some-Slide.ensures.step in
    let e = c.args.e.now in
    let from = c.in-Some-Slide.from.now in
    let base = c.in-Some-Slide.base.now in
    let made = c.in_ok-from-in-Some-Slide in
    same-slide e made.from base made.base c.in-Some-Slide.width c.in-Some-Slide.up (if-made (λ (k : Expr). k ≡ base) c.index_copy-in-Some-Slide.result made.base made.ensures.1 c.index_copy-in-Some-Slide.ensures)
    (alone-slide e from made.from base c.in-Some-Slide.width c.in-Some-Slide.up h (if-made (IsAlone from) c.alone_box-from-in-Some-Slide.result made.from made.ensures.0 c.alone_box-from-in-Some-Slide.ensures))
