use Rattle.std.proofs.Common.{◌≤◌, sym, subst}
use Rattle.sv_types.specs.Layouts.{width_of}
use Rattle.eval_parts.specs.Targets.{IsMemberAt}
use Rattle.eval_parts.proofs.TypeKinds.{element-PackedArray, element-UnpackedArray}
use Rattle.eval_parts.proofs.Elements.{type-Struct, type-Union}
use Rattle.eval_parts.proofs.targets.+part_type.Goals as goal

pub element_type-requires : goal.element_type-requires
element_type-requires t c =
    subst (λ u. width_of u ≤ 4194304) (sym c.get.ensures)
    (element-PackedArray c.in-PackedArray.left c.in-PackedArray.right c.in-PackedArray.signed c.in-PackedArray.item (subst (λ u. width_of u ≤ 4194304) c.in-PackedArray.is c.requires.narrow))

pub element_type-requires-in-UnpackedArray : goal.element_type-requires-in-UnpackedArray
element_type-requires-in-UnpackedArray t c =
    subst (λ u. width_of u ≤ 4194304) (sym c.get-in-UnpackedArray.ensures)
    (element-UnpackedArray c.in-UnpackedArray.left c.in-UnpackedArray.right c.in-UnpackedArray.item (subst (λ u. width_of u ≤ 4194304) c.in-UnpackedArray.is c.requires.narrow))

pub returns-in-Struct : goal.returns-in-Struct
returns-in-Struct t c =
    type-Struct c.member_type.result c.args.t.now c.in-Struct.id c.in-Struct.packed c.in-Struct.signed c.in-Struct.members c.args.i c.in-Struct.is c.requires.some c.requires.narrow
    (subst (λ ms. IsMemberAt c.member_type.result ms c.args.i) c.as_slice.ensures c.member_type.ensures)

pub returns-in-Union : goal.returns-in-Union
returns-in-Union t c =
    type-Union c.member_type-in-Union.result c.args.t.now c.in-Union.id c.in-Union.signed c.in-Union.members c.args.i c.in-Union.is c.requires.some c.requires.narrow
    (subst (λ ms. IsMemberAt c.member_type-in-Union.result ms c.args.i) c.as_slice-in-Union.ensures c.member_type-in-Union.ensures)
