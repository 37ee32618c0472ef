-- Types in which no enum has an unpacked base (IEEE 1800-2017 clause 6.19).
use Rattle.std.specs.Prelude.{Bool, true, false, ◌&&◌, not, List, [], ◌∷◌}
use Rattle.sv_types.specs.declared.types.Member.{Member, Member-F, fold-Member}
use Rattle.sv_types.specs.declared.types.SvType.{SvType, SvType-F, fold-SvType}

-- whether a type is unpacked, and whether no enum in it has an unpacked base
pub record Kind : Type 0 where
  pub unpacked : Bool
  pub plain : Bool

abbrev pub all_plain : List Kind → Bool
all_plain [] = true
all_plain (k ∷ ks) = k.plain && all_plain ks

abbrev pub kind_step : SvType-F Kind Kind → Kind
kind_step (SvType-F.Scalar four s) = record { unpacked = false; plain = true }
kind_step (SvType-F.PackedArray l r s item) = record { unpacked = false; plain = item.plain }
kind_step (SvType-F.Struct id packed s ms) = record { unpacked = not packed; plain = all_plain ms }
kind_step (SvType-F.Union id s ms) = record { unpacked = false; plain = all_plain ms }
kind_step (SvType-F.Enum id base names) = record { unpacked = false; plain = not base.unpacked && base.plain }
kind_step (SvType-F.UnpackedArray l r item) = record { unpacked = true; plain = item.plain }

abbrev pub kind_member : Member-F Kind Kind → Kind
kind_member m = m.of

abbrev pub kind : SvType → Kind
kind = fold-SvType Kind Kind kind_step kind_member

abbrev pub member_kind : Member → Kind
member_kind = fold-Member Kind Kind kind_step kind_member

-- no enum in a type has an unpacked struct or array as its base
abbrev pub has_plain_bases : SvType → Bool
has_plain_bases t = (kind t).plain
