-- A struct's members, or an array's elements.
use Rattle.std.proofs.Common.{ap, sym, ◌∙◌, subst}
use Rattle.pattern_fit.specs.Fits.{fits, fit_in, struct_places, array_places, Gives}
use Rattle.pattern_fit.proofs.Forms.{fits-Struct, fits-PackedArray, fits-UnpackedArray}
use Rattle.pattern_fit.proofs.fitting.fit.Goals as goal

pub returns-in-Struct : goal.returns-in-Struct
returns-in-Struct c =
    let p = c.args.p.now in
    subst (Gives c.fit_struct.result)
    (ap (λ ms. fit_in p (struct_places ms)) c.as_slice.ensures ∙ sym (ap (λ t. fits t p) c.in-Struct.is ∙ fits-Struct c.in-Struct.id c.in-Struct.packed c.in-Struct.signed c.in-Struct.members p))
    c.fit_struct.ensures

pub returns-in-PackedArray : goal.returns-in-PackedArray
returns-in-PackedArray c =
    let p = c.args.p.now in
    let right = c.bounds_of.result.right in
    let left = c.in-PackedArray.left in
    subst (Gives c.fit_array.result)
    (ap (λ l. fit_in p (array_places l right c.get.result.now)) c.bounds_of.ensures.left
    ∙ ap (λ r. fit_in p (array_places left r c.get.result.now)) c.bounds_of.ensures.right
    ∙ ap (λ i. fit_in p (array_places left c.in-PackedArray.right i)) c.get.ensures
    ∙ sym (ap (λ t. fits t p) c.in-PackedArray.is ∙ fits-PackedArray left c.in-PackedArray.right c.in-PackedArray.signed c.in-PackedArray.item p))
    c.fit_array.ensures

pub returns-in-UnpackedArray : goal.returns-in-UnpackedArray
returns-in-UnpackedArray c =
    let p = c.args.p.now in
    let bounds = c.bounds_of-in-UnpackedArray in
    let item = c.get-in-UnpackedArray in
    let left = c.in-UnpackedArray.left in
    subst (Gives c.fit_array-in-UnpackedArray.result)
    (ap (λ l. fit_in p (array_places l bounds.result.right item.result.now)) bounds.ensures.left
    ∙ ap (λ r. fit_in p (array_places left r item.result.now)) bounds.ensures.right
    ∙ ap (λ i. fit_in p (array_places left c.in-UnpackedArray.right i)) item.ensures
    ∙ sym (ap (λ t. fits t p) c.in-UnpackedArray.is ∙ fits-UnpackedArray left c.in-UnpackedArray.right c.in-UnpackedArray.item p))
    c.fit_array-in-UnpackedArray.ensures
