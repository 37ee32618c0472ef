-- Types of which each part has a bit.
use Rattle.std.specs.Prelude.{Bool, true, false, ◌&&◌, List, [], ◌∷◌}
use Rattle.std.specs.List.{list_all}
use Rattle.sv_types.specs.declared.types.SvType.{SvType, SvType-F, fold-SvType}
use Rattle.sv_types.specs.declared.types.Member.{Member, Member-F, fold-Member}

abbrev pub has_some : List Bool → Bool
has_some [] = false
has_some (b ∷ bs) = true

abbrev pub full_step : SvType-F Bool Bool → Bool
full_step (SvType-F.Scalar four s) = true
full_step (SvType-F.PackedArray l r s item) = item
full_step (SvType-F.Struct id packed s ms) = has_some ms && list_all (λ b. b) ms
full_step (SvType-F.Union id s ms) = has_some ms && list_all (λ b. b) ms
full_step (SvType-F.Enum id base names) = base
full_step (SvType-F.UnpackedArray l r item) = item

abbrev pub full_member : Member-F Bool Bool → Bool
full_member m = m.of

-- no struct and no union in it is without members
abbrev pub is_full : SvType → Bool
is_full = fold-SvType Bool Bool full_step full_member

abbrev pub is_full_member : Member → Bool
is_full_member = fold-Member Bool Bool full_step full_member
