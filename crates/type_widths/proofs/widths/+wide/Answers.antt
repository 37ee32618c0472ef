use Rattle.std.proofs.Common.{arith, rules}
use Rattle.std.proofs.lemmas.Int.{to_z-of_z}
use mir.Syntax.{w64}
use mir.Val.{SFits, of_z, to_z}
use Rattle.type_widths.proofs.Layouts.{if-same, layouts, packed-same, unpacked-same}
use Rattle.type_widths.proofs.widths.+wide.Goals as goal

pub wide-returns-in-PackedArray : goal.wide-returns-in-PackedArray
wide-returns-in-PackedArray t c =
    let left = c.in-PackedArray.left in
    let right = c.in-PackedArray.right in
    let fits-left : SFits w64 c.in-PackedArray.left = search rules in
    let fits-right : SFits w64 c.in-PackedArray.right = search rules in
    if-same c.wide_array.result _ _
    (packed-same c.args.t.now c.get.result.now c.in-PackedArray.item left right (to_z w64 (of_z w64 left)) (to_z w64 (of_z w64 right)) c.in-PackedArray.signed
    (to_z-of_z w64 left fits-left) (to_z-of_z w64 right fits-right) c.get.ensures c.in-PackedArray.is)
    c.wide_array.ensures

pub wide-returns-in-Struct : goal.wide-returns-in-Struct
wide-returns-in-Struct t c = if-same c.wide_struct.result _ _ (grind (arith, layouts)) c.wide_struct.ensures

pub wide-returns-in-Union : goal.wide-returns-in-Union
wide-returns-in-Union t c = if-same c.wide_union.result _ _ (grind (arith, layouts)) c.wide_union.ensures

pub wide-returns-in-UnpackedArray : goal.wide-returns-in-UnpackedArray
wide-returns-in-UnpackedArray t c =
    let left = c.in-UnpackedArray.left in
    let right = c.in-UnpackedArray.right in
    let fits-left : SFits w64 c.in-UnpackedArray.left = search rules in
    let fits-right : SFits w64 c.in-UnpackedArray.right = search rules in
    if-same c.wide_array-in-UnpackedArray.result _ _
    (unpacked-same c.args.t.now c.get-in-UnpackedArray.result.now c.in-UnpackedArray.item left right (to_z w64 (of_z w64 left)) (to_z w64 (of_z w64 right))
    (to_z-of_z w64 left fits-left) (to_z-of_z w64 right fits-right) c.get-in-UnpackedArray.ensures c.in-UnpackedArray.is)
    c.wide_array-in-UnpackedArray.ensures
