use Rattle.std.proofs.Common.{refl}
use Rattle.element_paths.specs.Elements.{at_element}
use Rattle.element_paths.proofs.Copying.{finds-member, finds-part, finds-slide, finds-index}
use Rattle.element_paths.proofs.elements.+element_under.Goals as goal

pub returns-in-Some-Member : goal.returns-in-Some-Member
returns-in-Some-Member t c =
    let h = rw c.in-Some-Member.field-0-is at c.in-Some-Member.ensures.step in
    finds-member c.args.e.now c.in-Some-Member.from.now _ c.element_under.result h c.element_under.ensures

pub returns-in-None-whole_signal : goal.returns-in-None-whole_signal
returns-in-None-whole_signal t c =
    let h = rw c.in-Some-Index.field-0-is at c.in-Some-Index.ensures.step in
    finds-index c.args.e.now c.in-Some-Index.from.now _ c.element_under-in-None-whole_signal.result h c.in-None-whole_signal.ensures c.element_under-in-None-whole_signal.ensures

pub returns-in-Some : goal.returns-in-Some
returns-in-Some t c =
    let h = rw c.in-Some-Index.field-0-is at c.in-Some-Index.ensures.step in
    at_element c.args.e.now c.in-Some-Index.from.now h c.in-Some.ensures refl

pub returns-in-Some-Part : goal.returns-in-Some-Part
returns-in-Some-Part t c =
    let h = rw c.in-Some-Part.field-0-is at c.in-Some-Part.ensures.step in
    finds-part c.args.e.now c.in-Some-Part.from.now _ _ c.element_under-in-Some-Part.result h c.element_under-in-Some-Part.ensures

pub returns-in-Some-Slide : goal.returns-in-Some-Slide
returns-in-Some-Slide t c =
    let h = rw c.in-Some-Slide.field-0-is at c.in-Some-Slide.ensures.step in
    finds-slide c.args.e.now c.in-Some-Slide.from.now _ _ _ c.element_under-in-Some-Slide.result h c.element_under-in-Some-Slide.ensures
